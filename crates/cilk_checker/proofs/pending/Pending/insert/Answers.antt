use Rattle.std.proofs.Common.{◌||◌, ◌==◌, ap, ◌∙◌}
use Rattle.cilk_checker.proofs.Flags.{flag_set}
use Rattle.cilk_checker.proofs.pending.Pending.insert.Goals as goal

pub returns : goal.returns
returns c = λ i n. (flag_set c.make_room.new.self.flags.items c.args.local n c.in_ok-make_room.ensures.room ∙ ap (λ set. set n || n == c.args.local) c.in_ok-make_room.ensures.same) i
