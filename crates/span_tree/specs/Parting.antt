-- How the ways to two places part.
use Rattle.std.specs.Prelude.{◌≡◌, ◌≢◌, ◌⊎◌, ℕ, ◌<◌, Some, None, List, [], ◌++◌}
use Rattle.span_tree.specs.declared.act.Place.{Place}
use Rattle.span_tree.specs.declared.history.Branch.{Branch}
use Rattle.span_tree.specs.Dag.{NoSync, way}
use Rattle.span_tree.specs.History.{History, IsParent, IsPlace, row_at}

-- The way to x goes by the branch: it ends there, or goes on into the child.
pub record GoesBy (history : History) (x : Place) (branch : Branch) : Type 0 where
  pub rest : List ℕ
  pub is_place : IsPlace history branch.place
  pub is_way : way history x ≡ way history branch.place ++ rest
  pub ends : branch.child ≡ None → rest ≡ []
  pub goes_on : (child : ℕ) → branch.child ≡ Some child → (rest ≢ []) × IsParent history child branch.place

-- Both go by these, in one row, and not into one child.
pub record IsParting (history : History) (x y : Place) (first second : Branch) : Type 0 where
  pub one_row : first.place.row ≡ second.place.row
  pub first_goes : GoesBy history x first
  pub second_goes : GoesBy history y second
  pub apart : (child : ℕ) → first.child ≡ Some child → second.child ≡ Some child → ⊥

-- The first leads into a child that no Sync ends up to the second's act.
abbrev pub IsUnsynced : History → Branch → Branch → Type 0
IsUnsynced history first second =
    (first.place.act < second.place.act) × (first.child ≢ None) × NoSync (row_at history first.place.row).acts first.place.act second.place.act

-- In one row the first goes on by an act before the second's, or ends at the act by which the second goes on into its child.
abbrev pub ComesFirst : Branch → Branch → Type 0
ComesFirst first second =
    (first.place.act < second.place.act) ⊎ ((first.place.act ≡ second.place.act) × (first.child ≡ None) × (second.child ≢ None))
