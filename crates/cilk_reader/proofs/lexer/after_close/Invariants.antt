use Rattle.std.proofs.Common.{length}
use Rattle.cilk_reader.proofs.Gaps.{CloseSoFar}
use Rattle.cilk_reader.proofs.lexer.after_close.Given as goal

abbrev pub invariant-loop-after : goal.invariant-loop-after
invariant-loop-after l = CloseSoFar l.text l.rest

abbrev pub decreases-loop-after : goal.decreases-loop-after
decreases-loop-after l = length l.rest
