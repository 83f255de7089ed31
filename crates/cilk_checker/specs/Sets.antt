-- The sets of locals that the checker keeps.
use Rattle.std.specs.Prelude.{ℕ, Bool, false, slice_index_or}
use Rattle.cilk_checker.specs.declared.pending.Pending.{Pending}

-- the locals whose flags are set
abbrev pub set_of : Pending → ℕ → Bool
set_of pending local = slice_index_or pending.flags.items local false
