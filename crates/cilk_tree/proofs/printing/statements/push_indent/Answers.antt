use Rattle.std.proofs.Common.{arith}
use Rattle.std.proofs.lemmas.Grind.{common_steps}
use Rattle.cilk_tree.proofs.Lines.{indent_more}
use Rattle.cilk_tree.proofs.printing.statements.push_indent.Goals as goal

pub loop-preserved : goal.loop-preserved
loop-preserved c = grind (arith, common_steps, indent_more c.loop.counter)
