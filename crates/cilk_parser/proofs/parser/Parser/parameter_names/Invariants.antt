use Rattle.std.proofs.Common.{length}
use Rattle.cilk_parser.proofs.Bricks.Functions.{HasNames}
use Rattle.cilk_parser.proofs.parser.Parser.parameter_names.Given as goal

abbrev pub invariant-loop-self : goal.invariant-loop-self
invariant-loop-self l = HasNames l.fn.self l.self l.names

abbrev pub decreases-loop-self : goal.decreases-loop-self
decreases-loop-self l = length l.self.left
