use Rattle.std.proofs.Common.{refl, sym, subst}
use Rattle.std.specs.Prelude.{IsSome}
use Rattle.plain_machine.proofs.Wanting.{wants_something}
use Rattle.plain_machine.proofs.laws.always_wants.Goals as goal

pub returns : goal.returns
returns c = λ code frame s.
    let h = wants_something code frame s in
    subst (λ o. IsSome o) (sym h.1) refl
