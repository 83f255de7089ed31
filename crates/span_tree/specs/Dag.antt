-- The dag of spawn and sync: which places precede which, and which are parallel (Feng, Leiserson 1997).
use Rattle.std.specs.Prelude.{◌≡◌, ◌≢◌, ◌⊎◌, ℕ, zero, suc, ◌<◌, ◌≤◌, Option, Some, None, List, [], ◌∷◌, ◌++◌, length, slice_get}
use Rattle.std.specs.List.{Contains}
use Rattle.span_tree.specs.declared.act.Act.{Act}
use Rattle.span_tree.specs.declared.act.Act.TheVariants.{Spawn, Sync}
use Rattle.span_tree.specs.declared.act.Place.{Place}
use Rattle.span_tree.specs.History.{History, row_at, act_at, serial_order}

-- x stands before y in a list
abbrev pub StandsBefore : List Place → Place → Place → Type 0
StandsBefore [] x y = ⊥
StandsBefore (place ∷ places) x y = ((place ≡ x) × Contains places y) ⊎ StandsBefore places x y

-- x is serially before y
abbrev pub IsBefore : History → Place → Place → Type 0
IsBefore history x y = StandsBefore (serial_order history) x y

-- what a way has so far, from the parent that there may be
abbrev pub way_on : (Place → List ℕ) → Option Place → List ℕ
way_on way None = []
way_on way (Some parent) = way parent

abbrev pub way_within : ℕ → History → Place → List ℕ
way_within zero history place = []
way_within (suc depth) history place = way_on (way_within depth history) (row_at history place.row).parent ++ place.act ∷ []

-- The way from `main` to a place: for each row on it the index of the act that leads on, and last that of the place itself.
abbrev pub way : History → Place → List ℕ
way history place = way_within (length history) history place

-- no Sync stands in the row behind act i up to act j
abbrev pub NoSync : List Act → ℕ → ℕ → Type 0
NoSync acts i j = (k : ℕ) → i < k → k ≤ j → slice_get acts k ≢ Some Sync

-- Two ways go on from a row. They part in the first row where they go on by different acts i and j. There the first way leads into the
-- child that act i spawned, act i stands before act j, and no Sync of that row stands behind act i up to act j.
abbrev pub PartUnsynced : History → ℕ → List ℕ → List ℕ → Type 0
PartUnsynced history row [] ys = ⊥
PartUnsynced history row (i ∷ xs) [] = ⊥
PartUnsynced history row (i ∷ xs) (j ∷ ys) =
    ((i < j) × (xs ≢ []) × NoSync (row_at history row).acts i j)
    ⊎ ((i ≡ j) × (child : ℕ) × (act_at history (record { row = row; act = i }) ≡ Some (Spawn child)) × PartUnsynced history child xs ys)

-- x is serially before y, and the dag has no path from x to y
abbrev pub RunsBeside : History → Place → Place → Type 0
RunsBeside history x y = PartUnsynced history 0 (way history x) (way history y)

-- Neither of the two places has to be executed before the other one.
abbrev pub IsParallel : History → Place → Place → Type 0
IsParallel history x y = RunsBeside history x y ⊎ RunsBeside history y x

-- x is executed before y in every run: it is serially before y, and not parallel to it.
abbrev pub Precedes : History → Place → Place → Type 0
Precedes history x y = IsBefore history x y × ¬ IsParallel history x y
