use Rattle.std.proofs.Common.{length}
use Rattle.cilk_parser.proofs.Bricks.Declarations.{DeclaratorsSoFar}
use Rattle.cilk_parser.proofs.parser.Parser.declaration.Given as goal

abbrev pub invariant-loop-self : goal.invariant-loop-self
invariant-loop-self l = DeclaratorsSoFar l.level l.fn.self l.self l.fn.into l.into

abbrev pub decreases-loop-self : goal.decreases-loop-self
decreases-loop-self l = length l.self.left
