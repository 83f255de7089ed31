use Rattle.std.proofs.Common.{◌-◌, ◌∙◌, ap, drop, length}
use Rattle.cilk_tree.specs.Lawful.Flow.{with_scope}
use Rattle.cilk_tree.specs.Lawful.Scope.{Point}
use Rattle.cilk_compiler.specs.Scopes.{scope_of}
use Rattle.cilk_compiler.proofs.Stacks.{cut}
use Rattle.cilk_compiler.proofs.locals.Locals.leave.Goals as goal

pub returns : goal.returns
returns c =
    let now = c.self.inside in
    let scope = ap scope_of c.truncate.ensures.items ∙ cut now.stack.items c.args.depth in
    (λ i. record { statement = now.statement; local = now.next; scope = scope i })
    ∙ ap (λ (point : Point). with_scope (drop (length point.scope - c.args.depth) point.scope) point) c.self.view_is
