-- A run depth first that has come to an end, and in which each word is accessed by one node alone, is the elision, races or not.
use Rattle.std.specs.Prelude.{◌≡◌, ℕ, ◌<◌, ℤ, true, Some}
use Rattle.backer_order.specs.Log.{main_id, SharedMemory}
use Rattle.backer_order.specs.Moments.{IsAccess}
use Rattle.backer_order.specs.Rules.{Caching}
use Rattle.cilk_meaning.specs.declared.ends.NodeEnd.{NodeEnd}
use Rattle.cilk_meaning.specs.declared.ends.NodeEnd.TheVariants.{Finished, Trapped, Budget}
use Rattle.cilk_meaning.specs.Wants.{Request, Asks, Returns, Traps}
use Rattle.one_node.specs.Deep.{IsTop, Deep}
use Rattle.determinacy.specs.Ending.{is_item, all_ticks, OneHistory, MemoryOf}
use Rattle.determinacy.specs.Replies.{Trace, by, want_at, Obeys}
use Rattle.determinacy.specs.Serial.{LastOf, SerialReads}
use Rattle.page_messages.specs.declared.closure.FrameId.{FrameId}
use Rattle.span_tree.specs.Program.{Starts}

-- no more ticks are spent than the budget has
abbrev pub Within : Trace → ℕ → Type 0
Within trace budget = (at : ℕ) (frame : FrameId) → by frame (trace.events at) ≡ true → all_ticks trace.events at < budget

-- An execution of at most so many ticks ends at `now` in this way: `main` has returned, the top frame traps, or it asks for one more.
abbrev pub EndsAs : Starts → Trace → ℕ → ℕ → NodeEnd → Type 0
EndsAs starts trace budget now Finished = (value : ℤ) × (want_at starts trace now main_id ≡ Some (Returns value))
EndsAs starts trace budget now (Trapped kind) = (frame : FrameId) × IsTop starts trace now frame × (want_at starts trace now frame ≡ Some (Traps kind))
EndsAs starts trace budget now Budget =
    (frame : FrameId) × (request : Request) × IsTop starts trace now frame × (want_at starts trace now frame ≡ Some (Asks request)) ×
    (all_ticks trace.events now ≡ budget)

-- A run depth first under the rules for pages, in which each word is accessed by one node alone.
pub record OneNode (starts : Starts) (main : ℕ) (trace : Trace) (memory : SharedMemory) (budget : ℕ) : Type 0 where
  pub obeys : Obeys starts main trace
  pub deep : Deep starts trace
  pub caching : Caching trace.events memory
  pub one : (node other word at next : ℕ) → IsAccess trace.events node word at → IsAccess trace.events other word next → node ≡ other
  pub within : Within trace budget

-- The elision of a program, of at most so many ticks: an execution depth first of items alone, by whose positions reads go.
pub record Elision (starts : Starts) (main : ℕ) (trace : Trace) (memory : SharedMemory) (budget finish : ℕ) (end : NodeEnd) : Type 0 where
  pub obeys : Obeys starts main trace
  pub deep : Deep starts trace
  pub reads : SerialReads trace.events memory
  pub items : (at : ℕ) → at < finish → is_item (trace.events at) ≡ true
  pub within : Within trace budget
  pub ends : EndsAs starts trace budget finish end

-- It ends in the same way, behind as many ticks, with the same history and memory.
pub record SameRun (starts : Starts) (run serial : Trace) (memory : SharedMemory) (now finish : ℕ) (end other : NodeEnd) : Type 0 where
  pub end_is : other ≡ end
  pub ticks : all_ticks run.events now ≡ finish
  pub history : OneHistory starts run serial now finish
  pub word : (word : ℕ) (here there : ℤ) → MemoryOf run.events memory now word here → LastOf serial.events memory word finish there → here ≡ there

abbrev pub AloneSerial : Type 0
AloneSerial = (starts : Starts) (main : ℕ) (run serial : Trace) (memory : SharedMemory) (budget now finish : ℕ) (end other : NodeEnd) →
    OneNode starts main run memory budget → EndsAs starts run budget now other → Elision starts main serial memory budget finish end →
    SameRun starts run serial memory now finish end other
