use Rattle.cilk_reader.proofs.Gaps.{gap_so_far_push}
use Rattle.cilk_reader.proofs.lexer.after_gap.Goals as goal

pub loop-after-preserved : goal.loop-after-preserved
loop-after-preserved c = gap_so_far_push c.args.text.now c.loop-after.rest.now c.in-Some.after.now c.loop-after.invariant c.in-Some.ensures
