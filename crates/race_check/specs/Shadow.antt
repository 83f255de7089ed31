-- What is kept of the accesses that are passed in serial order, and what it stands for.
use Rattle.std.specs.Prelude.{◌≡◌, ◌⊎◌, ℕ, nat_eq, true, false, Option, Some, None, unwrap_or}
use Rattle.std.specs.declared.hash.FoldHasher.{FoldHasher}
use Rattle.std.specs.declared.hash.BuildHasherDefault.{BuildHasherDefault}
use Rattle.std.specs.HashMap.{HashMap, get}
use Rattle.span_tree.specs.declared.act.Place.{Place}
use Rattle.span_tree.specs.Dag.{IsBefore, IsParallel}
use Rattle.span_tree.specs.History.{History, IsPlace}
use Rattle.span_tree.specs.Memory.{IsRace, is_access, is_change}
use Rattle.race_check.specs.declared.shadow.Shadow.{Shadow}

-- x is passed before this place is, and with this place
abbrev pub Before : History → Place → Place → Type 0
Before history place x = IsBefore history x place

abbrev pub Upto : History → Place → Place → Type 0
Upto history place x = IsBefore history x place ⊎ (place ≡ x)

-- an access of the word that is serially before this place races with that at this place
abbrev pub RacesBefore : History → ℕ → Place → Type 0
RacesBefore history word place = (x : Place) × IsBefore history x place × IsRace history word x place

-- the kept place, where one is kept, is parallel to this one
abbrev pub IsBeside : History → Option Place → Place → Type 0
IsBeside history None y = ⊥
IsBeside history (Some x) y = IsParallel history x y

-- What is kept stands for x: each place that is still to come and parallel to x is parallel to what is kept.
abbrev pub StandsFor : History → (Place → Type 0) → Option Place → Place → Type 0
StandsFor history Passed kept x = (y : Place) → IsPlace history y → ¬ Passed y → IsParallel history x y → IsBeside history kept y

-- The shadow stands for all accesses of the word that are passed.
pub record IsShadowOf (history : History) (Passed : Place → Type 0) (word : ℕ) (shadow : Shadow) : Type 0 where
  -- what is kept is passed, and the word's
  pub writer : (x : Place) → shadow.writer ≡ Some x → Passed x × (is_change history word x ≡ true)
  pub reader : (x : Place) → shadow.reader ≡ Some x → Passed x × (is_access history word x ≡ true)
  -- the writer stands for all writes and adds, and the reader for all reads
  pub changes : (x : Place) → Passed x → is_change history word x ≡ true → StandsFor history Passed shadow.writer x
  pub reads : (x : Place) → Passed x → is_access history word x ≡ true → is_change history word x ≡ false → StandsFor history Passed shadow.reader x

-- Each word has its shadow, and no accesses that are passed race.
pub record IsShadowed (history : History) (Passed : Place → Type 0) (shadow : ℕ → Shadow) : Type 0 where
  pub shadows : (word : ℕ) → IsShadowOf history Passed word (shadow word)
  pub free : (word : ℕ) (x y : Place) → Passed x → Passed y → ¬ IsRace history word x y

-- the shadow of a word that was not accessed yet
abbrev pub no_shadow : Shadow
no_shadow = record { writer = None; reader = None }

abbrev pub shadow_of : HashMap ℕ Shadow (BuildHasherDefault FoldHasher) → ℕ → Shadow
shadow_of words word = unwrap_or (get nat_eq words word) no_shadow
