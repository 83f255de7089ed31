use Rattle.std.proofs.Common.{◌≡◌, ℕ, ◌||◌, false, get_or, take}
use Rattle.cilk_checker.specs.Sets.{set_of}
use Rattle.cilk_checker.proofs.pending.Pending.insert_all.Given as goal

-- the locals so far are added
abbrev pub invariant-loop-local : goal.invariant-loop-local
invariant-loop-local l = (n : ℕ) → set_of l.self n ≡ (set_of l.initial.self n || get_or (take l.local l.other.flags.items) n false)
