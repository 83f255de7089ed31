-- What becomes of a deque that lends an item.
use Rattle.std.specs.Prelude.{ℕ, List, Option, slice_set}
use Rattle.std.specs.Borrow.{Fml, RattleType, MutBor, LendsIf}
use Rattle.ready_deque.specs.contracts.deque.Deque.{the_row}

-- the deque ends with the last value written through the reference at this place, and as it was where there is none
abbrev pub LendsItem : (T : RattleType) → MutBor (List T.Denot) → ℕ → Option (MutBor T.Denot) → Fml
LendsItem T deque place item = LendsIf (the_row T) T deque item (slice_set deque.now place) deque.now
