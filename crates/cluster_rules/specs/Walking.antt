-- Walking back over what happened: lists have the latest first.
use Rattle.std.specs.Prelude.{Bool, true, false, Option, Some, None, List, [], ◌∷◌, if◌then◌else◌}

abbrev pub or_else : {A : Type 0} → Option A → Option A → Option A
or_else None other = other
or_else (Some value) other = Some value

module _ {A : Type 0} where
  -- the latest that is such
  abbrev pub latest : (A → Bool) → List A → Option A
  latest is [] = None
  latest is (event ∷ older) = if is event then Some event else latest is older

  -- what came after the latest that is such; all, where none is
  abbrev pub since : (A → Bool) → List A → List A
  since is [] = []
  since is (event ∷ older) = if is event then [] else event ∷ since is older

  abbrev pub is_empty : List A → Bool
  is_empty [] = true
  is_empty (first ∷ rest) = false

  abbrev pub first_of : List A → Option A
  first_of [] = None
  first_of (first ∷ rest) = Some first

  abbrev pub rest_of : List A → List A
  rest_of [] = []
  rest_of (first ∷ rest) = rest

  abbrev pub last_of : List A → Option A
  last_of [] = None
  last_of (last ∷ []) = Some last
  last_of (first ∷ (second ∷ rest)) = last_of (second ∷ rest)

  abbrev pub with_first : (A → A) → List A → List A
  with_first change [] = []
  with_first change (first ∷ rest) = change first ∷ rest

-- what the first in the list that gives something gives: of a past, the latest
abbrev pub given : {A B : Type 0} → (A → Option B) → List A → Option B
given by [] = None
given by (event ∷ older) = or_else (by event) (given by older)
