use Rattle.std.proofs.Common.{sym}
use Rattle.span_tree.proofs.Counting.{latest_count}
use Rattle.span_tree.proofs.row.latest_count.Goals as goal

pub returns-in-Some : goal.returns-in-Some
returns-in-Some c = sym (latest_count 0 c.args.steps.now c.in-Some.step.now (sym c.in-Some.ensures.value))
