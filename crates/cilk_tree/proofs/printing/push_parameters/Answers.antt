use Rattle.std.proofs.Common.{arith}
use Rattle.std.proofs.lemmas.Grind.{common_steps}
use Rattle.cilk_tree.specs.Canonical.{parameter_text}
use Rattle.cilk_tree.proofs.Lines.{listed_more}
use Rattle.cilk_tree.proofs.printing.push_parameters.Goals as goal

pub returns : goal.returns
returns c = grind (arith, common_steps, listed_more parameter_text c.in-Some.first.now c.in-Some.others.now)
