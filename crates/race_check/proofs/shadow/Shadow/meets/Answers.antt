use Rattle.std.proofs.Common.{◌≡◌, true, false, sym, ◌∙◌}
use Rattle.race_check.specs.Shadow.{IsBeside, RacesBefore}
use Rattle.race_check.proofs.Accesses.{is_there}
use Rattle.race_check.proofs.Shadowing.{met_by_none, met_by_reader}
use Rattle.race_check.proofs.shadow.Shadow.meets.Goals as goal

pub returns-then-access : goal.returns-then-access
returns-then-access c =
    let h = c.args.history.now in
    let access = c.args.access in
    let apart : ¬ IsBeside h c.args.self.writer access.place = λ beside. let clash : false ≡ true = (c.if-is_beside.ensures {u = tt}).1 beside in cc in
    met_by_reader h c.requires.numbered access.place (is_there h access.word access.place c.requires.access.accesses) access.word c.args.self c.requires.shadow c.requires.access.accesses
    c.is_beside-then-access.result apart (sym c.requires.access.changes ∙ c.if-access.true) c.is_beside-then-access.ensures

pub returns-else-access : goal.returns-else-access
returns-else-access c =
    let h = c.args.history.now in
    let access = c.args.access in
    let apart : ¬ IsBeside h c.args.self.writer access.place = λ beside. let clash : false ≡ true = (c.if-is_beside.ensures {u = tt}).1 beside in cc in
    let free : ¬ RacesBefore h access.word access.place =
    met_by_none h c.requires.numbered access.place (is_there h access.word access.place c.requires.access.accesses) access.word c.args.self c.requires.shadow c.requires.access.accesses
    apart (sym c.requires.access.changes ∙ c.if-access.false) in (
      λ e. absurd (let clash : false ≡ true = sym c.if-access.false ∙ e in cc),
      λ before. absurd (free before),
    )
