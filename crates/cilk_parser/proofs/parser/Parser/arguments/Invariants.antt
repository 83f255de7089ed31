use Rattle.std.proofs.Common.{length}
use Rattle.cilk_parser.proofs.Bricks.Calls.{ArgumentsSoFar}
use Rattle.cilk_parser.proofs.parser.Parser.arguments.Given as goal

abbrev pub invariant-loop-arguments : goal.invariant-loop-arguments
invariant-loop-arguments l = ArgumentsSoFar l.level l.fn.self l.self l.arguments

abbrev pub decreases-loop-arguments : goal.decreases-loop-arguments
decreases-loop-arguments l = length l.self.left
