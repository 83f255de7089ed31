use Rattle.std.proofs.Common.{◌≡◌, true, false, subst}
use Rattle.race_check.specs.Shadow.{IsShadowOf, RacesBefore, Upto, shadow_of}
use Rattle.race_check.proofs.Shadowing.{passes_access, passes_none}
use Rattle.race_check.proofs.shadow.ShadowMemory.pass.Goals as goal

pub returns-in_default-clause-none : goal.returns-in_default-clause-none
returns-in_default-clause-none c = λ e. passes_none c.args.history.now c.requires.numbered c.args.place c.requires.place (shadow_of c.args.self.now.words) c.requires.shadows (c.in_default.ensures {u = tt})

pub returns-clause-none : goal.returns-clause-none
returns-clause-none c = λ e.
    let h = c.args.history.now in
    let access = c.in-Some.access in
    let is = c.in-Some.ensures {u = tt} in
    let free : ¬ RacesBefore h access.word access.place = λ before. let clash : false ≡ true = (c.if-meets.ensures {u = tt}).1 before in cc in
    passes_access h c.requires.numbered c.args.place c.requires.place (shadow_of c.args.self.now.words) c.requires.shadows access.word is.accesses (subst (λ q. ¬ RacesBefore h access.word q) is.stands free)
    c.with.result (subst (λ q. IsShadowOf h (Upto h q) access.word c.with.result) is.stands c.with.ensures) (shadow_of c.set.new.self.words) (c.in_ok-set.ensures {u = tt}).ok
