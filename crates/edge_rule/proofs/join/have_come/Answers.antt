use Rattle.std.proofs.Common.{◌∙◌, sym}
use Rattle.edge_rule.proofs.Coming.{all_come, one_missing, one_more}
use Rattle.edge_rule.proofs.join.have_come.Goals as goal

pub returns-then-not-contains_key : goal.returns-then-not-contains_key
returns-then-not-contains_key c = one_missing c.args.came.now.entries c.args.children.now c.loop-child.child-index _ c.loop-child-test.true (sym c.contains_key.ensures ∙ c.if-not-contains_key.true)

pub loop-child-preserved : goal.loop-child-preserved
loop-child-preserved c = one_more c.args.came.now.entries c.args.children.now c.loop-child.child-index _ c.loop-child-test.true c.loop-child.invariant (sym c.contains_key.ensures ∙ c.if-not-contains_key.false)

pub returns : goal.returns
returns c = all_come c.args.came.now.entries c.args.children.now c.loop-child.child-index c.loop-child-test.false c.loop-child.invariant
