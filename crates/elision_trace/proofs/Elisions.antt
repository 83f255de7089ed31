-- What holds of services holds of the serial elision.
use Rattle.std.proofs.Common.{ℕ, ℤ, sym, subst}
use Rattle.backer_order.specs.Log.{SharedMemory}
use Rattle.cilk_meaning.proofs.Elisions.{elision_is_service}
use Rattle.cilk_meaning.specs.Instance.{Limits, wants_within}
use Rattle.cilk_meaning.specs.Resolved.{Program}
use Rattle.cilk_meaning.specs.World.{End}
use Rattle.elision_trace.proofs.Childless.{no_children}
use Rattle.elision_trace.proofs.Items.{all_items, event_at, ticks_all}
use Rattle.elision_trace.proofs.Lasting.{last_one}
use Rattle.elision_trace.proofs.Obeying.{Ended, service_ended}
use Rattle.elision_trace.proofs.Reading.{Reads}
use Rattle.elision_trace.proofs.Remembering.{service_reads}
use Rattle.elision_trace.proofs.Sound.{obeys}
use Rattle.elision_trace.specs.Laws.{end_of, elision_trace, finish_of, Begins, ElisionObeys, ElisionReads, ElisionRemembers, ElisionReturns, ElisionTicks, TraceIsLog}

module _ (most : Limits) (program : Program) (start : ℕ → ℤ) (budget : ℕ) where
  pub ended : Ended (wants_within most program) program.main (end_of most program start budget)
  ended = subst (λ (e : End). Ended (wants_within most program) program.main e) (sym (elision_is_service most program start budget))
      (service_ended (wants_within most program) program.main start budget)

  pub reads : (memory : SharedMemory) → Begins memory start →
      Reads memory (end_of most program start budget).world.memory (end_of most program start budget).world.log
  reads memory begins = subst (λ (e : End). Reads memory e.world.memory e.world.log) (sym (elision_is_service most program start budget))
      (service_reads memory begins.sums (wants_within most program) program.main start begins.starts budget)

pub elision_obeys : ElisionObeys
elision_obeys most program start budget parted =
    let sound = (ended most program start budget).sound in
    obeys (wants_within most program) program.main (elision_trace most program start budget) (finish_of most program start budget) sound
    (no_children most program parted (elision_trace most program start budget) sound.wants)

pub elision_reads : ElisionReads
elision_reads most program start budget memory begins = (reads most program start budget memory begins).reads

pub elision_remembers : ElisionRemembers
elision_remembers most program start budget memory begins word value last =
    last_one memory (elision_trace most program start budget).events word (finish_of most program start budget)
    ((end_of most program start budget).world.memory word) value
    ((reads most program start budget memory begins).holds word) last

pub elision_returns : ElisionReturns
elision_returns most program start budget finished = (ended most program start budget).finished finished

pub elision_ticks : ElisionTicks
elision_ticks most program start budget =
    (all_items (end_of most program start budget).world.log, ticks_all (end_of most program start budget).world.log)

pub trace_is_log : TraceIsLog
trace_is_log most program start budget at event is = event_at (end_of most program start budget).world.log at event is
