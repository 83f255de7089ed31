use Rattle.std.proofs.Common.{false, get_or, ap, ◌∙◌}
use Rattle.cilk_checker.proofs.Flags.{flag_clear}
use Rattle.cilk_checker.proofs.pending.Pending.make_room.Goals as goal

pub loop-self-preserved : goal.loop-self-preserved
loop-self-preserved c =
    (λ i n. (ap (λ flags. get_or flags n false) c.in_ok-push.ensures.items ∙ flag_clear c.loop-self.self.flags.items n) i) ∙ c.loop-self.invariant
