use Rattle.std.proofs.Common.{sym, ap, ◌∙◌}
use Rattle.cilk_meaning.specs.declared.ends.TrapKind.TheVariants.{DivideByZero, IndexOutOfRange, Overflow, TooDeep}
use Rattle.backer_top.specs.declared.status.Status.TheVariants.{Trap}
use Rattle.backer_top.specs.Status.{error_line}
use Rattle.backer_top.proofs.Told.{trap_line}
use Rattle.backer_top.proofs.status.trap_line.Goals as goal

pub returns-in-DivideByZero : goal.returns-in-DivideByZero
returns-in-DivideByZero c = λ program. trap_line program DivideByZero ∙ ap (λ kind. error_line program (Trap kind 0)) (sym c.in-DivideByZero.is)

pub returns-in-IndexOutOfRange : goal.returns-in-IndexOutOfRange
returns-in-IndexOutOfRange c = λ program. trap_line program IndexOutOfRange ∙ ap (λ kind. error_line program (Trap kind 0)) (sym c.in-IndexOutOfRange.is)

pub returns-in-Overflow : goal.returns-in-Overflow
returns-in-Overflow c = λ program. trap_line program Overflow ∙ ap (λ kind. error_line program (Trap kind 0)) (sym c.in-Overflow.is)

pub returns-in-TooDeep : goal.returns-in-TooDeep
returns-in-TooDeep c = λ program. trap_line program TooDeep ∙ ap (λ kind. error_line program (Trap kind 0)) (sym c.in-TooDeep.is)
