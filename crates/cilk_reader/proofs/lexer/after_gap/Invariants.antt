use Rattle.std.proofs.Common.{length}
use Rattle.cilk_reader.proofs.Gaps.{GapSoFar}
use Rattle.cilk_reader.proofs.lexer.after_gap.Given as goal

abbrev pub invariant-loop-after : goal.invariant-loop-after
invariant-loop-after l = GapSoFar l.text l.rest

abbrev pub decreases-loop-after : goal.decreases-loop-after
decreases-loop-after l = length l.rest
