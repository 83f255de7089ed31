use Rattle.std.proofs.Common.{sym, subst}
use Rattle.span_tree.specs.Recording.{IsRunning}
use Rattle.span_tree.proofs.Running.{first_runs}
use Rattle.span_tree.proofs.recording.Recording.new.Goals as goal

pub invariant_of-result : goal.invariant_of-result
invariant_of-result c = subst (λ h. IsRunning h 0) (sym c.in_ok-new.ensures) (first_runs c.args.main)
