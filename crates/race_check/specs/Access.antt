-- What an access is, and which accesses race with it.
use Rattle.std.specs.Prelude.{◌≡◌, ◌⊎◌, ℕ, true}
use Rattle.span_tree.specs.declared.act.Place.{Place}
use Rattle.span_tree.specs.Dag.{IsBefore}
use Rattle.span_tree.specs.History.{History}
use Rattle.span_tree.specs.Memory.{IsRace, is_access, is_change}
use Rattle.race_check.specs.declared.access.Access.{Access}

-- it is the access at this place
pub record IsAccessOf (history : History) (place : Place) (access : Access) : Type 0 where
  pub stands : access.place ≡ place
  pub accesses : is_access history access.word place ≡ true
  pub changes : access.changes ≡ is_change history access.word place

-- Of the places whose accesses of the word race with that at `second`, `first` is serially first.
pub record IsLeastRacing (history : History) (word : ℕ) (first second : Place) : Type 0 where
  pub race : IsRace history word first second
  pub least : (x : Place) → IsRace history word x second → (first ≡ x) ⊎ IsBefore history first x
