-- What a serial run of a code leaves.
use Rattle.std.specs.Prelude.{◌≡◌, ◌<◌, ℕ, ℤ, Some, List, length, slice_get}
use Rattle.cilk_meaning.specs.Elision.{elision}
use Rattle.cilk_meaning.specs.Resolved.{Program}
use Rattle.cilk_meaning.specs.World.{End, ticks_of}
use Rattle.elision_history.specs.Logged.{history_of}
use Rattle.machine_code.specs.Machine.{Code}
use Rattle.machine_code.specs.StandsFor.{start_words_of}
use Rattle.machine_code.specs.Valid.{words_in}
use Rattle.serial_run.specs.declared.serial_end.SerialEnd.{SerialEnd}

-- the serial elision of a program whose shared words start as the code says
abbrev pub elision_of : Code → Program → ℕ → End
elision_of code program budget = elision program (start_words_of code) budget

-- The list has so many shared words, each with its value.
pub record AreWords (count : ℕ) (shared : ℕ → ℤ) (words : List ℤ) : Type 0 where
  pub count_is : length words ≡ count
  pub each_is : (word : ℕ) → word < count → slice_get words word ≡ Some (shared word)

-- What was left is what the serial elision of the program leaves for this budget: its end, its history, each of the code's shared words, and
-- its ticks.
pub record IsElision (code : Code) (program : Program) (budget : ℕ) (ended : SerialEnd) : Type 0 where
  pub end : ended.end ≡ (elision_of code program budget).end
  pub history : ended.history ≡ history_of program (elision_of code program budget)
  pub memory : AreWords (words_in code.shared) (elision_of code program budget).world.memory ended.memory
  pub ticks : ended.ticks ≡ ticks_of (elision_of code program budget)
