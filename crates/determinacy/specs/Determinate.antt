-- A location consistent run of a program whose serial execution finishes without race goes as that does.
use Rattle.std.specs.Prelude.{◌≡◌, ℕ, ◌<◌, ◌≤◌, ℤ, Some, None}
use Rattle.backer_order.specs.Dag.{Consistent}
use Rattle.backer_order.specs.Log.{main_id, SharedMemory}
use Rattle.backer_order.specs.Rules.{Caching}
use Rattle.cilk_meaning.specs.declared.ends.TrapKind.{TrapKind}
use Rattle.cilk_meaning.specs.Wants.{Returns, Traps}
use Rattle.determinacy.specs.Ending.{all_ticks, OneHistory, MemoryOf}
use Rattle.determinacy.specs.Following.{AllFollow}
use Rattle.determinacy.specs.Replies.{Trace, want_at, Born, Obeys}
use Rattle.determinacy.specs.Serial.{LastOf, RaceFree, Serially}
use Rattle.page_messages.specs.declared.closure.FrameId.{FrameId}
use Rattle.span_tree.specs.Program.{Starts}

-- A run of a program under the rules for pages, location consistent at each of its positions.
pub record Runs (starts : Starts) (main : ℕ) (trace : Trace) (memory : SharedMemory) : Type 0 where
  pub obeys : Obeys starts main trace
  pub caching : Caching trace.events memory
  pub consistent : (now : ℕ) → Consistent trace.events memory now

-- the frame has not returned
abbrev pub IsOpen : Starts → Trace → ℕ → FrameId → Type 0
IsOpen starts trace now frame = (value : ℤ) → want_at starts trace now frame ≡ Some (Returns value) → ⊥

-- What has come of a run at `now`, where the serial execution finishes: each frame goes as a row does, none traps or is stuck, no more ticks
-- are spent than serially, and fewer where a frame has not returned.
pub record Determined (starts : Starts) (run serial : Trace) (memory : SharedMemory) (finish now : ℕ) : Type 0 where
  pub follows : AllFollow starts run serial finish now
  pub no_trap : (frame : FrameId) (kind : TrapKind) → Born run.events now frame → want_at starts run now frame ≡ Some (Traps kind) → ⊥
  pub not_stuck : (frame : FrameId) → Born run.events now frame → want_at starts run now frame ≡ None → ⊥
  pub at_most : all_ticks run.events now ≤ all_ticks serial.events finish
  pub fewer : (frame : FrameId) → Born run.events now frame → IsOpen starts run now frame →
      all_ticks run.events now < all_ticks serial.events finish
  pub free : RaceFree run.events now
  -- where `main` has returned
  pub history : (value : ℤ) → want_at starts run now main_id ≡ Some (Returns value) → OneHistory starts run serial now finish
  pub word : (value : ℤ) → want_at starts run now main_id ≡ Some (Returns value) → (word : ℕ) (here there : ℤ) →
      MemoryOf run.events memory now word here → LastOf serial.events memory word finish there → here ≡ there

-- Executions without race have one answer.
abbrev pub ThenSerial : Type 0
ThenSerial = (starts : Starts) (main : ℕ) (run serial : Trace) (memory : SharedMemory) (finish : ℕ) → Runs starts main run memory →
    Serially starts main serial memory finish → (now : ℕ) → Determined starts run serial memory finish now
