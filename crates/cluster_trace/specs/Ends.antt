-- How a run ended, and what its execution has come to there.
use Rattle.std.specs.Prelude.{◌≡◌, ℕ, ℤ, Some, List, [], ◌∷◌, ◌++◌}
use Rattle.backer_order.specs.Log.{main_id}
use Rattle.cilk_meaning.specs.declared.ends.NodeEnd.{NodeEnd}
use Rattle.cilk_meaning.specs.declared.ends.NodeEnd.TheVariants.{Finished, Trapped, Budget}
use Rattle.cilk_meaning.specs.Wants.{Request, Asks, Returns, Traps}
use Rattle.determinacy.specs.Replies.{Trace, want_at, Born}
use Rattle.page_messages.specs.declared.closure.FrameId.{FrameId}
use Rattle.page_messages.specs.declared.log.Turn.{Turn}
use Rattle.span_tree.specs.Program.{Starts}

-- The run ended so: its last turn has this end. Only the last turn of a run can have one.
abbrev pub HasEnd : List Turn → NodeEnd → Type 0
HasEnd log end = (earlier : List Turn) × (turn : Turn) × (log ≡ earlier ++ turn ∷ []) × (turn.end ≡ Some end)

-- What the execution has come to at `now` where it ends so: `main` has returned, some frame traps so, or some frame asks for more. How many ticks
-- were made is no matter here.
abbrev pub ComesTo : Starts → Trace → ℕ → NodeEnd → Type 0
ComesTo starts trace now Finished = (value : ℤ) × (want_at starts trace now main_id ≡ Some (Returns value))
ComesTo starts trace now (Trapped kind) = (frame : FrameId) × Born trace.events now frame × (want_at starts trace now frame ≡ Some (Traps kind))
ComesTo starts trace now Budget = (frame : FrameId) × (request : Request) × Born trace.events now frame × (want_at starts trace now frame ≡ Some (Asks request))
