-- Laws of the serial elision as an execution depth first on one node, races or not.
use Rattle.std.specs.Prelude.{ℕ, ℤ}
use Rattle.backer_order.specs.Log.{SharedMemory}
use Rattle.cilk_meaning.specs.Instance.{Limits, wants_within}
use Rattle.cilk_meaning.specs.Parted.{IsParted}
use Rattle.cilk_meaning.specs.Resolved.{Program}
use Rattle.elision_history.specs.Logged.{history_of}
use Rattle.elision_trace.specs.Laws.{Begins, end_of, elision_trace, finish_of, frames_of}
use Rattle.one_node.specs.Alone.{Elision}
use Rattle.trace_rows.specs.RunAs.{RunAs}

-- The elision of a parted program is an execution of it, depth first, whose reads go by position, of items alone and of at most as many
-- ticks as it may; it ends as its end says.
abbrev pub ElisionIsAlone : Type 0
ElisionIsAlone = (most : Limits) (program : Program) (start : ℕ → ℤ) (budget : ℕ) (memory : SharedMemory) → IsParted program → Begins memory start →
    Elision (wants_within most program) program.main (elision_trace most program start budget) memory budget (finish_of most program start budget)
    (end_of most program start budget).end

-- The rows of its history run what its frames run.
abbrev pub ElisionRunsAs : Type 0
ElisionRunsAs = (most : Limits) (program : Program) (start : ℕ → ℤ) (budget : ℕ) →
    RunAs (elision_trace most program start budget) (frames_of most program start budget) (history_of program (end_of most program start budget))
