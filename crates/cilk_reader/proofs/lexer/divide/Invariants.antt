use Rattle.std.proofs.Common.{length}
use Rattle.cilk_reader.proofs.Divisions.{SoFar}
use Rattle.cilk_reader.proofs.lexer.divide.Given as goal

abbrev pub invariant-loop-places : goal.invariant-loop-places
invariant-loop-places l = SoFar l.text l.places.items l.rest

abbrev pub decreases-loop-places : goal.decreases-loop-places
decreases-loop-places l = length l.rest
