-- How a history grows in serial order.
use Rattle.std.specs.Prelude.{◌≡◌, ℕ, suc, ℤ, Bool, true, false, Some, None, List, [], ◌∷◌, ◌++◌, length, slice_set}
use Rattle.span_tree.specs.declared.act.Act.{Act}
use Rattle.span_tree.specs.declared.act.Act.TheVariants.{Read, Write, Add, Print, Spawn, Sync}
use Rattle.span_tree.specs.declared.act.Place.{Place}
use Rattle.span_tree.specs.History.{Row, History, IsNumbered, row_at}

-- `main` of this procedure, before its first act
abbrev pub first_history : ℕ → History
first_history main = record { parent = None; proc = main; args = []; acts = [] } ∷ []

-- one act more at the end of a row
abbrev pub with_act : ℕ → Act → History → History
with_act row act history = slice_set history row (record (row_at history row) { acts = (row_at history row).acts ++ act ∷ [] })

-- the place that the next act of a row gets
abbrev pub next_place : ℕ → History → Place
next_place row history = record { row = row; act = length (row_at history row).acts }

-- the row of a child that this row spawns next
abbrev pub child_row : ℕ → ℕ → List ℤ → History → Row
child_row row proc args history = record { parent = Some (next_place row history); proc = proc; args = args; acts = [] }

-- a Spawn act more at the end of a row, and the child's row, which gets the next number
abbrev pub with_child : ℕ → ℕ → List ℤ → History → History
with_child row proc args history = with_act row (Spawn (length history)) history ++ child_row row proc args history ∷ []

-- `place` is that of the row's last act
abbrev pub IsLast : History → Place → Type 0
IsLast history place = length (row_at history place.row).acts ≡ suc place.act

-- A row whose next act stands last in serial order: `main`, and the child of an open row's last act.
pub data IsOpen (history : History) : ℕ → Type 0 where
  Main : IsOpen history 0
  Child : (row : ℕ) (place : Place) → (row_at history row).parent ≡ Some place → IsLast history place → IsOpen history place.row → IsOpen history row

-- A history while it is recorded, and the row that runs.
pub record Recorded : Type 0 where
  pub history : History
  pub row : ℕ

-- the act is no Spawn
abbrev pub spawns_none : Act → Bool
spawns_none (Spawn child) = false
spawns_none (Read word value) = true
spawns_none (Write word value) = true
spawns_none (Add word old addend) = true
spawns_none (Print value) = true
spawns_none Sync = true

-- the row that runs has one act more
abbrev pub recorded : Act → Recorded → Recorded
recorded act recording = record { history = with_act recording.row act recording.history; row = recording.row }

-- it has one Spawn act more, and the child runs
abbrev pub spawned : ℕ → List ℤ → Recorded → Recorded
spawned proc args recording = record { history = with_child recording.row proc args recording.history; row = length recording.history }

-- the row in which the Spawn act stands that names this row
abbrev pub IsParentRow : History → ℕ → ℕ → Type 0
IsParentRow history row parent = (act : ℕ) × ((row_at history row).parent ≡ Some (record { row = parent; act = act }))

-- what holds of every recording
pub record IsRunning (history : History) (row : ℕ) : Type 0 where
  pub numbered : IsNumbered history
  pub runs : IsOpen history row
