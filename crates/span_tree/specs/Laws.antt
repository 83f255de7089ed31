-- Laws of the serial order and of the dag.
use Rattle.std.specs.Prelude.{◌≡◌, ◌≢◌, ◌⊎◌, ◌↔◌, ℕ, Some, ℤ, List}
use Rattle.std.specs.List.{Contains}
use Rattle.span_tree.specs.declared.act.Act.TheVariants.{Spawn}
use Rattle.span_tree.specs.declared.act.Place.{Place}
use Rattle.span_tree.specs.Dag.{IsBefore, IsParallel, Precedes}
use Rattle.span_tree.specs.Memory.{HasNoRace, IsLocationConsistent, ReadsSerially}
use Rattle.span_tree.specs.History.{History, IsNumbered, IsPlace, act_at, row_at, serial_order}

-- The serial order has each place, once, and nothing else.
abbrev pub OrderIsOfPlaces : Type 0
OrderIsOfPlaces = (history : History) → IsNumbered history → (x : Place) →
    (IsPlace history x ↔ Contains (serial_order history) x) × ¬ IsBefore history x x

-- In serial order: a place that is parallel to a second one, which is parallel to a third one, is parallel to the third one.
abbrev pub ThreePlaces : Type 0
ThreePlaces = (history : History) → IsNumbered history → (x y z : Place) → IsBefore history x y → IsBefore history y z →
    IsParallel history x y → IsParallel history y z → IsParallel history x z

-- Of two different places exactly one is serially first.
abbrev pub OneIsFirst : Type 0
OneIsFirst = (history : History) → IsNumbered history → (x y : Place) → IsPlace history x → IsPlace history y → x ≢ y →
    (IsBefore history x y × ¬ IsBefore history y x) ⊎ (IsBefore history y x × ¬ IsBefore history x y)

-- Of two different places one precedes the other, or they are parallel.
abbrev pub OneOfThree : Type 0
OneOfThree = (history : History) → IsNumbered history → (x y : Place) → IsPlace history x → IsPlace history y → x ≢ y →
    IsParallel history x y ⊎ (Precedes history x y ⊎ Precedes history y x)

-- What is executed before a place that is executed before a third one is executed before the third one.
abbrev pub PrecedesOn : Type 0
PrecedesOn = (history : History) → IsNumbered history → (x y z : Place) → Precedes history x y → Precedes history y z → Precedes history x z

abbrev pub ParallelIsSymmetric : Type 0
ParallelIsSymmetric = (history : History) (x y : Place) → IsParallel history x y → IsParallel history y x

abbrev pub NotParallelInRow : Type 0
NotParallelInRow = (history : History) → IsNumbered history → (x y : Place) → IsPlace history x → IsPlace history y → x.row ≡ y.row → ¬ IsParallel history x y

-- The place lies in this row or in one below it.
pub data IsWithin (history : History) (row : ℕ) : Place → Type 0 where
  Itself : (place : Place) → place.row ≡ row → IsWithin history row place
  Below : (place parent : Place) → (row_at history place.row).parent ≡ Some parent → IsWithin history row parent → IsWithin history row place

abbrev pub NotParallelBelow : Type 0
NotParallelBelow = (history : History) → IsNumbered history → (x y : Place) (child : ℕ) → act_at history x ≡ Some (Spawn child) → IsPlace history y →
    IsWithin history child y → ¬ IsParallel history x y

-- Where no two accesses race, a location consistent history reads serially: each Read and each Add is answered by the last write in serial
-- order, whatever order the words' lists have.
abbrev pub RaceFreeIsSerial : Type 0
RaceFreeIsSerial = (start : ℕ → ℤ) (history : History) (orders : List (List Place)) → IsNumbered history →
    IsLocationConsistent start history orders → HasNoRace history → ReadsSerially start history
