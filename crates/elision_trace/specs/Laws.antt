-- Laws of the serial elision as an execution.
use Rattle.std.specs.Prelude.{◌≡◌, ℕ, ◌<◌, ℤ, true, Some, List, slice_get}
use Rattle.backer_order.specs.Log.{main_id, SharedMemory}
use Rattle.cilk_meaning.specs.declared.ends.NodeEnd.TheVariants.{Finished}
use Rattle.cilk_meaning.specs.Elision.{elision_within}
use Rattle.cilk_meaning.specs.Instance.{Limits, wants_within}
use Rattle.cilk_meaning.specs.Parted.{IsParted}
use Rattle.cilk_meaning.specs.Resolved.{Program}
use Rattle.cilk_meaning.specs.Wants.{Returns}
use Rattle.cilk_meaning.specs.World.{End, Event, events_of, ticks_of}
use Rattle.cluster_rules.specs.Home.{sum_in}
use Rattle.determinacy.specs.Determinate.{Determined, Runs}
use Rattle.determinacy.specs.Ending.{is_item, all_ticks}
use Rattle.determinacy.specs.Replies.{Trace, want_at, Obeys}
use Rattle.determinacy.specs.Serial.{LastOf, RaceFree, SerialReads, Serially}
use Rattle.elision_history.specs.Logged.{history_of}
use Rattle.elision_trace.specs.Tracing.{frames_to, event_of, trace_of}
use Rattle.page_messages.specs.declared.closure.FrameId.{FrameId}
use Rattle.span_tree.specs.Memory.{HasNoRace}

module _ (most : Limits) (program : Program) (start : ℕ → ℤ) (budget : ℕ) where
  abbrev pub end_of : End
  end_of = elision_within most program start budget

  -- the trace of the elision, and the number of its events
  abbrev pub elision_trace : Trace
  elision_trace = trace_of (wants_within most program) program end_of

  abbrev pub finish_of : ℕ
  finish_of = ticks_of end_of

  -- the frames of its rows
  abbrev pub frames_of : List FrameId
  frames_of = frames_to end_of.world.rows

-- the shared memory starts with these words, and adds as the language does
pub record Begins (memory : SharedMemory) (start : ℕ → ℤ) : Type 0 where
  pub starts : (word : ℕ) → memory.start word ≡ start word
  pub sums : (old addend : ℤ) → memory.sum old addend ≡ sum_in old addend

-- At each position stands the event of the log that has this number.
abbrev pub TraceIsLog : Type 0
TraceIsLog = (most : Limits) (program : Program) (start : ℕ → ℤ) (budget : ℕ) (at : ℕ) (event : Event) →
    slice_get (events_of (end_of most program start budget)) at ≡ Some event → (elision_trace most program start budget).events at ≡ event_of event

-- The elision of a parted program is an execution of it.
abbrev pub ElisionObeys : Type 0
ElisionObeys = (most : Limits) (program : Program) (start : ℕ → ℤ) (budget : ℕ) → IsParted program →
    Obeys (wants_within most program) program.main (elision_trace most program start budget)

-- The order of its positions is serial: each read gives the word as it is there.
abbrev pub ElisionReads : Type 0
ElisionReads = (most : Limits) (program : Program) (start : ℕ → ℤ) (budget : ℕ) (memory : SharedMemory) → Begins memory start →
    SerialReads (elision_trace most program start budget).events memory

-- The last value of a word is what the elision leaves in it.
abbrev pub ElisionRemembers : Type 0
ElisionRemembers = (most : Limits) (program : Program) (start : ℕ → ℤ) (budget : ℕ) (memory : SharedMemory) → Begins memory start → (word : ℕ) (value : ℤ) →
    LastOf (elision_trace most program start budget).events memory word (finish_of most program start budget) value →
    (end_of most program start budget).world.memory word ≡ value

-- Where it finished, `main` has returned at its last position.
abbrev pub ElisionReturns : Type 0
ElisionReturns = (most : Limits) (program : Program) (start : ℕ → ℤ) (budget : ℕ) → (end_of most program start budget).end ≡ Finished →
    (value : ℤ) × (want_at (wants_within most program) (elision_trace most program start budget) (finish_of most program start budget) main_id ≡ Some (Returns value))

-- Each of its positions is an item, so its ticks are as many.
abbrev pub ElisionTicks : Type 0
ElisionTicks = (most : Limits) (program : Program) (start : ℕ → ℤ) (budget : ℕ) →
    ((at : ℕ) → at < finish_of most program start budget → is_item ((elision_trace most program start budget).events at) ≡ true)
    × (all_ticks (elision_trace most program start budget).events (finish_of most program start budget) ≡ finish_of most program start budget)

-- Where its history has no race, its trace has none.
abbrev pub ElisionRaceFree : Type 0
ElisionRaceFree = (most : Limits) (program : Program) (start : ℕ → ℤ) (budget : ℕ) → HasNoRace (history_of program (end_of most program start budget)) →
    RaceFree (elision_trace most program start budget).events (finish_of most program start budget)

-- An elision of a parted program that finished, and whose history has no race, is a serial execution of it.
abbrev pub ElisionIsSerial : Type 0
ElisionIsSerial = (most : Limits) (program : Program) (start : ℕ → ℤ) (budget : ℕ) (memory : SharedMemory) → IsParted program → Begins memory start →
    (end_of most program start budget).end ≡ Finished → HasNoRace (history_of program (end_of most program start budget)) →
    Serially (wants_within most program) program.main (elision_trace most program start budget) memory (finish_of most program start budget)

-- Each location consistent execution of the program goes as its elision, where that finished and its history has no race.
abbrev pub RunsGoAsElision : Type 0
RunsGoAsElision = (most : Limits) (program : Program) (start : ℕ → ℤ) (budget : ℕ) (memory : SharedMemory) (run : Trace) (now : ℕ) → IsParted program → Begins memory start →
    (end_of most program start budget).end ≡ Finished → HasNoRace (history_of program (end_of most program start budget)) →
    Runs (wants_within most program) program.main run memory →
    Determined (wants_within most program) run (elision_trace most program start budget) memory (finish_of most program start budget) now
