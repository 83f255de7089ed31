use Rattle.std.proofs.Common.{Some, [], ◌∷◌, sym, subst, w64, to_z, of_z}
use Rattle.plain_machine.specs.Shown.{Shown}
use Rattle.plain_machine.specs.Standing.{StandsIn}
use Rattle.plain_machine.proofs.Depositing.{values_stand}
use Rattle.plain_machine.proofs.frame.Frame.deposit.Goals as goal

pub returns-clause-stands : goal.returns-clause-stands
returns-clause-stands c = λ code s.
    let inside = subst (λ (shown : Shown). StandsIn code shown.frame) (sym c.self.view_is) s in
    subst (StandsIn code) (sym c.deposit.ensures) (values_stand code ((Some c.args.target, to_z w64 (of_z w64 c.args.value)) ∷ []) c.self.inside.state inside)
