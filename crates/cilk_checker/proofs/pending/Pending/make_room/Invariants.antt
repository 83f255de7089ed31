use Rattle.std.proofs.Common.{◌≡◌, ◌+◌, ◌-◌, length}
use Rattle.cilk_checker.specs.Sets.{set_of}
use Rattle.cilk_checker.proofs.pending.Pending.make_room.Given as goal

-- no local is added
abbrev pub invariant-loop-self : goal.invariant-loop-self
invariant-loop-self l = set_of l.self ≡ set_of l.initial.self

abbrev pub decreases-loop-self : goal.decreases-loop-self
decreases-loop-self l = l.local + 1 - length l.self.flags.items
