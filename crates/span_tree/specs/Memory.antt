-- What accesses of the shared words do: last writes, location consistency and determinacy races.
use Rattle.std.specs.Prelude.{◌≡◌, ◌⊎◌, ℕ, ◌<◌, ◌==◌, ℤ, ◌+ℤ◌, Bool, true, false, if◌then◌else◌, Option, Some, None, List, [], ◌∷◌, ◌++◌, length, slice_get, unwrap_or}
use Rattle.std.specs.List.{Contains, filter, filter_map}
use Rattle.cilk_meaning.specs.Values.{fits}
use Rattle.span_tree.specs.declared.act.Act.{Act}
use Rattle.span_tree.specs.declared.act.Act.TheVariants.{Read, Write, Add, Print, Spawn, Sync}
use Rattle.span_tree.specs.declared.act.Place.{Place}
use Rattle.span_tree.specs.History.{History, act_at, serial_order, serial_acts}
use Rattle.span_tree.specs.Dag.{StandsBefore, IsBefore, IsParallel, Precedes}

-- the act reads, writes or adds to this word
abbrev pub accesses : ℕ → Act → Bool
accesses word (Read at value) = word == at
accesses word (Write at value) = word == at
accesses word (Add at old addend) = word == at
accesses word (Print value) = false
accesses word (Spawn child) = false
accesses word Sync = false

-- the act writes or adds to this word
abbrev pub changes : ℕ → Act → Bool
changes word (Read at value) = false
changes word (Write at value) = word == at
changes word (Add at old addend) = word == at
changes word (Print value) = false
changes word (Spawn child) = false
changes word Sync = false

-- it holds of the act there, where one stands
abbrev pub holds_at : (Act → Bool) → Option Act → Bool
holds_at test None = false
holds_at test (Some act) = test act

abbrev pub is_access : History → ℕ → Place → Bool
is_access history word place = holds_at (accesses word) (act_at history place)

abbrev pub is_change : History → ℕ → Place → Bool
is_change history word place = holds_at (changes word) (act_at history place)

-- the accesses of a word in serial order
abbrev pub accesses_of : History → ℕ → List Place
accesses_of history word = filter (is_access history word) (serial_order history)

abbrev pub printed_by : Act → Option ℤ
printed_by (Print value) = Some value
printed_by (Read word value) = None
printed_by (Write word value) = None
printed_by (Add word old addend) = None
printed_by (Spawn child) = None
printed_by Sync = None

-- the printed values in serial order
abbrev pub output_of : History → List ℤ
output_of history = filter_map printed_by (serial_acts history)

-- What an act leaves in this word, where it leaves anything: a Write its value, and an Add the sum, where that is a value.
abbrev pub left_in : ℕ → Act → Option ℤ
left_in word (Write at value) = if word == at then Some value else None
left_in word (Add at old addend) = if word == at then (if fits (old +ℤ addend) then Some (old +ℤ addend) else None) else None
left_in word (Read at value) = None
left_in word (Print value) = None
left_in word (Spawn child) = None
left_in word Sync = None

-- The last write: what the last of these acts that leaves anything in the word leaves there, and before it what there was at first.
abbrev pub last_write : ℕ → ℤ → List Act → ℤ
last_write word value [] = value
last_write word value (act ∷ acts) = last_write word (unwrap_or (left_in word act) value) acts

-- The act is answered from words that hold this: a Read has its word's value, an Add its word's value as the old one.
abbrev pub IsAnsweredFrom : (ℕ → ℤ) → Act → Type 0
IsAnsweredFrom memory (Read word value) = value ≡ memory word
IsAnsweredFrom memory (Add word old addend) = old ≡ memory word
IsAnsweredFrom memory (Write word value) = Unit {0}
IsAnsweredFrom memory (Print value) = Unit {0}
IsAnsweredFrom memory (Spawn child) = Unit {0}
IsAnsweredFrom memory Sync = Unit {0}

-- In this order of acts, each Read and each Add is answered by the last write before it, where the words start so.
abbrev pub ReadsLastWrites : (ℕ → ℤ) → List Act → Type 0
ReadsLastWrites start acts = (front back : List Act) (act : Act) → acts ≡ front ++ act ∷ back → IsAnsweredFrom (λ word. last_write word (start word) front) act

-- In serial order each Read and each Add is answered by the last write before it.
abbrev pub ReadsSerially : (ℕ → ℤ) → History → Type 0
ReadsSerially start history = ReadsLastWrites start (serial_acts history)

-- A word's list is an order of all its accesses that agrees with the dag and in which each is answered by the last write before it.
pub record IsWordOrder (start : ℕ → ℤ) (history : History) (word : ℕ) (places : List Place) : Type 0 where
  -- it has each access of the word, once, and nothing else
  pub accesses : (place : Place) → is_access history word place ≡ true → Contains places place
  pub only : (place : Place) → Contains places place → is_access history word place ≡ true
  pub once : (place : Place) → ¬ StandsBefore places place place
  pub dag : (x y : Place) → Contains places x → Contains places y → Precedes history x y → StandsBefore places x y
  pub reads : ReadsLastWrites start (filter_map (act_at history) places)

-- Location consistency (Frigo, Luchangco 1998) of a history with as many shared words as there are lists: each word's list is such an
-- order, and no other word is accessed.
pub record IsLocationConsistent (start : ℕ → ℤ) (history : History) (orders : List (List Place)) : Type 0 where
  pub lists : (word : ℕ) (places : List Place) → slice_get orders word ≡ Some places → IsWordOrder start history word places
  pub shared : (word : ℕ) (place : Place) → is_access history word place ≡ true → word < length orders

-- A determinacy race (Feng, Leiserson 1997): two parallel accesses of one word, at least one of which changes it.
pub record IsRace (history : History) (word : ℕ) (x y : Place) : Type 0 where
  pub first : is_access history word x ≡ true
  pub second : is_access history word y ≡ true
  pub change : (is_change history word x ≡ true) ⊎ (is_change history word y ≡ true)
  pub parallel : IsParallel history x y

-- The first race: of those whose first place is serially before the second, the one whose second place is serially least, and among
-- these the one whose first place is.
pub record IsFirstRace (history : History) (word : ℕ) (first second : Place) : Type 0 where
  pub race : IsRace history word first second
  pub before : IsBefore history first second
  pub least : (other : ℕ) (x y : Place) → IsRace history other x y → IsBefore history x y →
      IsBefore history second y ⊎ ((second ≡ y) × ((first ≡ x) ⊎ IsBefore history first x))

abbrev pub HasNoRace : History → Type 0
HasNoRace history = (word : ℕ) (x y : Place) → ¬ IsRace history word x y
