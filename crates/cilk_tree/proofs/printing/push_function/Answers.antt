use Rattle.std.proofs.Common.{arith}
use Rattle.std.proofs.lemmas.Grind.{common_steps}
use Rattle.cilk_tree.proofs.Lines.{lines_each}
use Rattle.cilk_tree.proofs.printing.push_function.Goals as goal

pub returns : goal.returns
returns c = grind (arith, common_steps, lines_each 1 c.args.function.now.body)
