use Rattle.std.proofs.Common.{length}
use Rattle.cilk_parser.proofs.Bricks.Arrays.{HasNext}
use Rattle.cilk_parser.proofs.parser.Parser.arrays.Given as goal

abbrev pub invariant-loop-array : goal.invariant-loop-array
invariant-loop-array l = HasNext l.fn.self l.self l.fn.shared l.shared l.name

abbrev pub decreases-loop-array : goal.decreases-loop-array
decreases-loop-array l = length l.self.left
