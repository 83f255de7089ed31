use Rattle.std.proofs.Common.{◌≡◌, sym, ap, ◌∙◌, subst}
use Rattle.backer_top.specs.declared.status.Status.TheVariants.{Trap}
use Rattle.backer_top.specs.Status.{HasFixedLine, error_line}
use Rattle.backer_top.proofs.Told.{budget_line}
use Rattle.backer_top.proofs.status.Status.fixed_line.Goals as goal

pub returns-in-Trap : goal.returns-in-Trap
returns-in-Trap c = λ program.
    let zero : c.in-Trap.node ≡ 0 = subst HasFixedLine c.in-Trap.is c.requires in
    c.trap_line.ensures program ∙ ap (λ node. error_line program (Trap c.in-Trap.kind node)) (sym zero) ∙ ap (error_line program) (sym c.in-Trap.is)

pub returns-in-Budget : goal.returns-in-Budget
returns-in-Budget c = λ program.
    budget_line program c.in-Budget.node (subst HasFixedLine c.in-Budget.is c.requires) ∙ ap (error_line program) (sym c.in-Budget.is)
