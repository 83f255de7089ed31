-- Executions whose positions are a serial order of their accesses, and races.
use Rattle.std.specs.Prelude.{◌⊎◌, ◌≡◌, ℕ, ◌<◌, ℤ, Some}
use Rattle.backer_order.specs.Dag.{Precedes}
use Rattle.backer_order.specs.Log.{main_id, Events, SharedMemory}
use Rattle.backer_order.specs.Moments.{NoneBetween, IsWrite, IsAdd, IsAccess, Obtains, Leaves, IsLeaving}
use Rattle.cilk_meaning.specs.Wants.{Returns}
use Rattle.determinacy.specs.Replies.{Trace, want_at, Obeys}
use Rattle.span_tree.specs.Program.{Starts}

-- an access of the word, by some node, that leaves a value
abbrev pub Leaving : Events → SharedMemory → ℕ → ℕ → Type 0
Leaving events memory word at = (node : ℕ) × IsLeaving events memory node word at

-- This value was left by the last access of the word before `now` that leaves one.
pub record LastSerial (events : Events) (memory : SharedMemory) (word now : ℕ) (value : ℤ) : Type 0 where
  pub node : ℕ
  pub at : ℕ
  pub before : at < now
  pub leaves : Leaves events memory node word at value
  pub none : NoneBetween (Leaving events memory word) at now

-- This is the start word, and no access before `now` leaves a value.
pub record NoneSerial (events : Events) (memory : SharedMemory) (word now : ℕ) (value : ℤ) : Type 0 where
  pub start : value ≡ memory.start word
  pub none : (at : ℕ) → at < now → Leaving events memory word at → ⊥

-- the word at `now`, in the order of positions
abbrev pub LastOf : Events → SharedMemory → ℕ → ℕ → ℤ → Type 0
LastOf events memory word now value = LastSerial events memory word now value ⊎ NoneSerial events memory word now value

-- each read gives, and each add finds, the word as it is in the order of positions
abbrev pub SerialReads : Events → SharedMemory → Type 0
SerialReads events memory =
    (node word at : ℕ) (value : ℤ) → Obtains events node word at value → LastOf events memory word at value

abbrev pub IsWriter : Events → ℕ → ℕ → ℕ → Type 0
IsWriter events node word at = IsWrite events node word at ⊎ IsAdd events node word at

-- two accesses of a word, of which one writes or adds, are ordered by the dag
abbrev pub RaceFree : Events → ℕ → Type 0
RaceFree events finish = (node other word first second : ℕ) → first < second → second < finish → IsAccess events node word first →
    IsAccess events other word second → IsWriter events node word first ⊎ IsWriter events other word second → Precedes events first second

-- A serial execution of a program, whose `main` has returned at `finish`, and which has no race.
pub record Serially (starts : Starts) (main : ℕ) (trace : Trace) (memory : SharedMemory) (finish : ℕ) : Type 0 where
  pub obeys : Obeys starts main trace
  pub reads : SerialReads trace.events memory
  pub result : ℤ
  pub finished : want_at starts trace finish main_id ≡ Some (Returns result)
  pub free : RaceFree trace.events finish
