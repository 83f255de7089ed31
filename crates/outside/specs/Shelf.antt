-- What a shelf tells, and runs of calls on it.
use Rattle.std.specs.Prelude.{◌≡◌, ℕ, ◌+◌, ◌<◌, ◌≤◌, ◌↔◌, ◌⊎◌, List, [], ◌∷◌, ◌++◌, length, take, drop}
use Rattle.std.specs.Ordering.{nat_cmp}
use Rattle.std.specs.Cmp.Lexicographic.{slice_cmp}
use Rattle.std.specs.FinMap.{FinMap}

-- the texts that are held, by their names' bytes
abbrev pub Texts : Type 0
Texts = FinMap (slice_cmp nat_cmp) (List ℕ)

-- The bytes given are those of the text from a place on, and none only at its end or where there is no room.
pub record GivesFrom (text : List ℕ) (at room : ℕ) (given : List ℕ) : Type 0 where
  pub bytes : given ≡ take (length given) (drop at text)
  pub none : (given ≡ []) ↔ ((length text ≤ at) ⊎ (room ≡ 0))

-- Answered calls one after another, each for 4,096 bytes from the place that those before it reached.
abbrev pub Reads : {S : Type 0} → (S → List ℕ → ℕ → ℕ → List ℕ → S → Type 0) → List ℕ → S → ℕ → List (List ℕ) → S → Type 0
Reads {S} gave name old at [] new = new ≡ old
Reads {S} gave name old at (piece ∷ pieces) new = (mid : S) × gave old name at 4096 piece mid × Reads gave name mid (at + length piece) pieces new

-- the pieces, one after another
abbrev pub joined : List (List ℕ) → List ℕ
joined [] = []
joined (piece ∷ pieces) = piece ++ joined pieces

-- none of the pieces is empty
abbrev pub AreSome : List (List ℕ) → Type 0
AreSome [] = Unit {0}
AreSome (piece ∷ pieces) = (0 < length piece) × AreSome pieces
