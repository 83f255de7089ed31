use Rattle.std.proofs.Common.{sym, subst}
use Rattle.span_tree.specs.Recording.{IsRunning, with_child}
use Rattle.span_tree.proofs.Running.{child_runs}
use Rattle.span_tree.proofs.recording.Recording.spawn.Goals as goal

pub invariant_of-self-2 : goal.invariant_of-self-2
invariant_of-self-2 c =
    let next = with_child c.self.inside.row c.args.proc c.args.args c.self.inside.history in
    subst (λ h. IsRunning h c.in_ok-child.child) (sym c.in_ok-child.ensures.ok) (subst (λ r. IsRunning next r) (sym c.in_ok-child.ensures.child)
    (child_runs c.self.inside.history c.self.inside.row c.self.invariant c.args.proc c.args.args))
