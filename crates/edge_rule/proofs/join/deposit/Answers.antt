use Rattle.std.proofs.Common.{◌∙◌}
use Rattle.edge_rule.proofs.Depositing.{next_given, all_given}
use Rattle.edge_rule.proofs.join.deposit.Goals as goal

pub loop-child-preserved : goal.loop-child-preserved
loop-child-preserved c =
    next_given c.args.came.now.entries c.args.frame.now c.args.children.now c.loop-child.frame c.deposit_one.new.frame c.loop-child.child-index _ c.copied.result
    c.loop-child-test.true c.loop-child.invariant (c.copied.ensures ∙ c.get.ensures.value) c.deposit_one.ensures.set c.deposit_one.ensures.stands

pub returns-clause-set : goal.returns-clause-set
returns-clause-set c = all_given c.args.came.now.entries c.args.frame.now c.args.children.now c.loop-child.frame c.loop-child.child-index c.loop-child-test.false c.loop-child.invariant
