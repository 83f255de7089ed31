use Rattle.std.proofs.Common.{◌≡◌, true, false, refl, sym, ◌∙◌}
use Rattle.race_check.proofs.Accesses.{is_there}
use Rattle.race_check.proofs.Shadowing.{passes_change, passes_later_read, passes_parallel_read}
use Rattle.race_check.proofs.shadow.Shadow.with.Goals as goal

pub returns-then-access : goal.returns-then-access
returns-then-access c =
    let h = c.args.history.now in
    let access = c.args.access in
    passes_change h c.requires.numbered access.place (is_there h access.word access.place c.requires.access.accesses) access.word c.args.self c.requires.shadow c.requires.access.accesses
    (sym c.requires.access.changes ∙ c.if-access.true) c.requires.free

pub returns-then-is_beside : goal.returns-then-is_beside
returns-then-is_beside c =
    let h = c.args.history.now in
    let access = c.args.access in
    passes_parallel_read h c.requires.numbered access.place (is_there h access.word access.place c.requires.access.accesses) access.word c.args.self c.requires.shadow c.requires.access.accesses
    (sym c.requires.access.changes ∙ c.if-access.false) ((c.if-is_beside.ensures {u = tt}).0 refl)

pub returns-else-is_beside : goal.returns-else-is_beside
returns-else-is_beside c =
    let h = c.args.history.now in
    let access = c.args.access in
    passes_later_read h c.requires.numbered access.place (is_there h access.word access.place c.requires.access.accesses) access.word c.args.self c.requires.shadow c.requires.access.accesses
    (sym c.requires.access.changes ∙ c.if-access.false) (λ beside. let clash : false ≡ true = (c.if-is_beside.ensures {u = tt}).1 beside in cc)
