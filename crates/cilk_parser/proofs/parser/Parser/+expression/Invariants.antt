use Rattle.std.proofs.Common.{◌+◌, ◌*◌, length}
use Rattle.cilk_parser.specs.Phrases.{Parses, expression_phrase}
use Rattle.cilk_parser.proofs.parser.Parser.+expression.Given as goal

abbrev pub decreases-expression : goal.decreases-expression
decreases-expression l = 4 * length l.self.now.left + 2

abbrev pub decreases-enclosed : goal.decreases-enclosed
decreases-enclosed l = 4 * length l.self.now.left + 3

abbrev pub decreases-operand : goal.decreases-operand
decreases-operand l = 4 * length l.self.now.left + 1

abbrev pub decreases-group : goal.decreases-group
decreases-group l = 4 * length l.self.now.left

abbrev pub decreases-prefix : goal.decreases-prefix
decreases-prefix l = 4 * length l.self.now.left

abbrev pub decreases-variable : goal.decreases-variable
decreases-variable l = 4 * length l.self.now.left

abbrev pub invariant-expression-loop-operator : goal.invariant-expression-loop-operator
invariant-expression-loop-operator l = Parses (expression_phrase l.least l.level l.fn.opening) l.fn.self l.self l.left

abbrev pub decreases-expression-loop-operator : goal.decreases-expression-loop-operator
decreases-expression-loop-operator l = length l.self.left
