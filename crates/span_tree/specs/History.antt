-- What a history is: the acts of the instances of a run, as plain data.
use Rattle.std.specs.Prelude.{◌≡◌, ℕ, zero, suc, ◌<◌, ◌≤◌, ◌^◌, ℤ, Option, Some, None, List, [], ◌∷◌, ◌++◌, length, slice_get, slice_index_or}
use Rattle.std.specs.List.{filter_map, range_with_len}
use Rattle.span_tree.specs.declared.act.Act.{Act}
use Rattle.span_tree.specs.declared.act.Act.TheVariants.{Read, Write, Add, Print, Spawn, Sync}
use Rattle.span_tree.specs.declared.act.Place.{Place}

-- The row of an instance: the place of the Spawn act that made it, where one did, its procedure and arguments, and its acts in order.
pub record Row : Type 0 where
  pub parent : Option Place
  pub proc : ℕ
  pub args : List ℤ
  pub acts : List Act

-- The rows of all instances. Row 0 is that of `main`.
abbrev pub History : Type 0
History = List Row

abbrev pub no_row : Row
no_row = record { parent = None; proc = 0; args = []; acts = [] }

abbrev pub row_at : History → ℕ → Row
row_at history row = slice_index_or history row no_row

abbrev pub act_at : History → Place → Option Act
act_at history place = slice_get (row_at history place.row).acts place.act

-- an act stands there
abbrev pub IsPlace : History → Place → Type 0
IsPlace history place = place.act < length (row_at history place.row).acts

-- an act's own place, and directly behind it the places of the row that it spawned, where it spawned one
abbrev pub with_child_places : (ℕ → List Place) → Place → Act → List Place
with_child_places places place (Spawn child) = place ∷ places child
with_child_places places place (Read word value) = place ∷ []
with_child_places places place (Write word value) = place ∷ []
with_child_places places place (Add word old addend) = place ∷ []
with_child_places places place (Print value) = place ∷ []
with_child_places places place Sync = place ∷ []

-- the places of these acts, which stand in their row from this index on, each with those of the row that it spawned
abbrev pub places_from : (ℕ → List Place) → ℕ → ℕ → List Act → List Place
places_from places row index [] = []
places_from places row index (act ∷ acts) = with_child_places places (record { row = row; act = index }) act ++ places_from places row (suc index) acts

-- The places of a row and of all rows below it, where rows nest no deeper than this.
abbrev pub places_below : ℕ → History → ℕ → List Place
places_below zero history row = []
places_below (suc depth) history row = places_from (places_below depth history) row 0 (row_at history row).acts

-- The serial order: all places depth first. What lies below a Spawn act stands directly behind it. Rows nest no deeper than there are rows.
abbrev pub serial_order : History → List Place
serial_order history = places_below (length history) history 0

-- all acts in serial order
abbrev pub serial_acts : History → List Act
serial_acts history = filter_map (act_at history) (serial_order history)

abbrev pub spawned_by : Act → Option ℕ
spawned_by (Spawn child) = Some child
spawned_by (Read word value) = None
spawned_by (Write word value) = None
spawned_by (Add word old addend) = None
spawned_by (Print value) = None
spawned_by Sync = None

-- the Spawn act that names a row: it is the row's parent, and stands in a row before it
pub record IsParent (history : History) (row : ℕ) (place : Place) : Type 0 where
  pub named : (row_at history row).parent ≡ Some place
  pub spawns : act_at history place ≡ Some (Spawn row)
  pub before : place.row < row

-- What holds of every history: its rows are numbered as a depth-first walk comes to them.
pub record IsNumbered (history : History) : Type 0 where
  -- row 0 is there, and is `main`, which nothing spawned and which has no arguments
  pub some : 0 < length history
  pub main : (row_at history 0).parent ≡ None
  pub main_args : (row_at history 0).args ≡ []
  -- each other row has a parent
  pub parent : (row : ℕ) → 0 < row → row < length history → (place : Place) × IsParent history row place
  -- each Spawn act is the parent of a row
  pub child : (place : Place) (row : ℕ) → act_at history place ≡ Some (Spawn row) → (row < length history) × IsParent history row place
  -- the Spawn acts in serial order name the rows 1, 2, 3 and so on
  pub preorder : 0 ∷ filter_map spawned_by (serial_acts history) ≡ range_with_len 0 (length history)

-- its rows and acts have numbers of 32 bits
pub record IsWithin32Bits (history : History) : Type 0 where
  pub rows : length history ≤ 2 ^ 32
  pub acts : (row : ℕ) → length (row_at history row).acts < 2 ^ 32
