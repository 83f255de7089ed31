use Rattle.std.proofs.Common.{◌≡◌, true, take}
use Rattle.edge_rule.specs.Joins.{have_come}
use Rattle.edge_rule.proofs.join.have_come.Given as goal

abbrev pub invariant-loop-child : goal.invariant-loop-child
invariant-loop-child l = have_come l.came.entries (take l.child-index l.children) ≡ true
