use Rattle.std.proofs.Common.{◌∙◌, sym, ap, length}
use Rattle.cilk_checker.proofs.Stacks.{length_of_scope}
use Rattle.cilk_checker.proofs.locals.Locals.depth.Goals as goal

pub returns : goal.returns
returns c = ap length c.as_slice.ensures.value ∙ sym (length_of_scope c.self.inside.stack.items) ∙ ap (λ point. length point.scope) c.self.view_is
