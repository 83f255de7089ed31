-- What a pass keeps of its seat, and how contracts see it.
use Rattle.std.specs.Prelude.{◌≡◌, ℕ, ◌⊎◌, true, false, if◌then◌else◌, [], ◌∷◌, length, Some, None, slice_get}
use Rattle.std.specs.List.Sorted.{IsStrictlyIncreasing}
use Rattle.atomic_table.specs.Seated.{TableId}
use Rattle.turnstile.specs.declared.view.View.{View}
use Rattle.turnstile.specs.declared.view.Opening.{Opening}
use Rattle.turnstile.specs.Passes.{Gate, Visit, Known}
use Rattle.turnstile.specs.Plays.{Seated}

-- a turnstile, by its table and what the table was told once
abbrev pub gate_of : {V C : Type 0} → (V → C) → TableId → Opening V → Gate C
gate_of charter table opening = record { table = table; shares = opening.shares; charter = Some (charter opening.value.value) }

module _ {E C : Type 0} where
  -- the same, by the view of a seat, in which the charter stands alone in a list
  abbrev pub gate_at : TableId → View E C → Gate C
  gate_at table v = record { table = table; shares = v.shares; charter = slice_get v.charter 0 }

  abbrev pub visit_of : View E C → Visit E
  visit_of v = record { ticket = v.ticket; found = v.found }

  abbrev pub known_of : TableId → View E C → Known E C
  known_of table v = record { turnstile = gate_at table v; numbers = v.numbers; seen = v.seen; visit = if v.holds then Some (visit_of v) else None }

module _ {V E C : Type 0} where
  -- the seat has no ticket and no slot
  abbrev pub IsResting : Seated V E C → Type 0
  IsResting m = (m.0.waits ≡ false) × (m.0.holds ≡ false) × (m.0.spent ≡ false) × (m.1 ≡ [])

  -- the seat has a ticket, and waits for the slot
  abbrev pub IsWaiting : Seated V E C → Type 0
  IsWaiting m = (m.0.waits ≡ true) × (m.0.holds ≡ false) × (m.0.spent ≡ false) × (m.1 ≡ [])

  -- the seat has the slot, from which the value was taken
  abbrev pub IsOut : Seated V E C → Type 0
  IsOut m = (m.0.holds ≡ true) × (m.0.spent ≡ false) × (m.1 ≡ (0, None) ∷ [])

  -- what each pass keeps between calls
  pub record IsPass (shares : ℕ) (m : Seated V E C) : Type 0 where
    pub counted : shares ≡ length m.0.numbers
    pub ascends : IsStrictlyIncreasing m.0.numbers
    pub one_charter : length m.0.charter ≡ 1
    pub rests_or_is_out : IsResting m ⊎ IsOut m
