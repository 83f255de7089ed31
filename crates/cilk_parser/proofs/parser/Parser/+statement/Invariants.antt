use Rattle.std.proofs.Common.{◌+◌, ◌*◌, length}
use Rattle.cilk_parser.proofs.Bricks.Blocks.{HasBegun}
use Rattle.cilk_parser.proofs.parser.Parser.+statement.Given as goal

abbrev pub decreases-inners : goal.decreases-inners
decreases-inners l = 4 * length l.self.now.left + 3

abbrev pub decreases-inner : goal.decreases-inner
decreases-inner l = 4 * length l.self.now.left + 2

abbrev pub decreases-body : goal.decreases-body
decreases-body l = 4 * length l.self.now.left + 2

abbrev pub decreases-statement : goal.decreases-statement
decreases-statement l = 4 * length l.self.now.left + 1

abbrev pub decreases-branch : goal.decreases-branch
decreases-branch l = 4 * length l.self.now.left

abbrev pub decreases-otherwise : goal.decreases-otherwise
decreases-otherwise l = 4 * length l.self.now.left + 3

abbrev pub decreases-while_loop : goal.decreases-while_loop
decreases-while_loop l = 4 * length l.self.now.left

abbrev pub decreases-for_loop : goal.decreases-for_loop
decreases-for_loop l = 4 * length l.self.now.left

abbrev pub invariant-inners-loop-self : goal.invariant-inners-loop-self
invariant-inners-loop-self l = HasBegun l.level l.fn.self l.self l.trees

abbrev pub decreases-inners-loop-self : goal.decreases-inners-loop-self
decreases-inners-loop-self l = length l.self.left
