use Rattle.std.proofs.Common.{length}
use Rattle.cilk_parser.proofs.Bricks.Programs.{HasItems}
use Rattle.cilk_parser.proofs.parsing.program_of.Given as goal

abbrev pub invariant-loop-parser : goal.invariant-loop-parser
invariant-loop-parser l = HasItems l.fn.end l.fn.places l.parser l.program

abbrev pub decreases-loop-parser : goal.decreases-loop-parser
decreases-loop-parser l = length l.parser.left
