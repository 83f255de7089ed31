-- The list of a word: each access once, in the home order.
use Rattle.std.specs.Prelude.{◌⊎◌, ◌≡◌, ℕ, ◌<◌, List, [], ◌∷◌}
use Rattle.backer_order.specs.Log.{Events, SharedMemory}
use Rattle.backer_order.specs.Moments.{IsAccess}
use Rattle.backer_order.specs.HomeOrder.{Before}

-- An access of the word before `now`.
pub record Entry (events : Events) (now word : ℕ) : Type 0 where
  pub node : ℕ
  pub at : ℕ
  pub inside : at < now
  pub is : IsAccess events node word at

-- the access at this position is in the list
abbrev pub Has : {events : Events} {now word : ℕ} → ℕ → List (Entry events now word) → Type 0
Has at [] = ⊥
Has at (first ∷ rest) = (first.at ≡ at) ⊎ Has at rest

-- each stands before all that follow it, so none is there twice
abbrev pub Sorted : (events : Events) (memory : SharedMemory) (now word : ℕ) → List (Entry events now word) → Type 0
Sorted events memory now word [] = Unit {0}
Sorted events memory now word (first ∷ rest) =
    ((later : Entry events now word) → Has (later.at) rest → Before events memory now word first.node first.at later.node later.at) ×
    Sorted events memory now word rest

pub record HomeList (events : Events) (memory : SharedMemory) (now word : ℕ) : Type 0 where
  pub list : List (Entry events now word)
  pub all : (node at : ℕ) → at < now → IsAccess events node word at → Has at list
  pub sorted : Sorted events memory now word list
