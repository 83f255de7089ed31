-- What holds of services holds of the serial elision.
use Rattle.std.proofs.Common.{◌≡◌, ℕ, reverse, sym, ap, ◌∙◌, subst}
use Rattle.std.specs.List.{filter_map}
use Rattle.std.specs.Prelude.{ℤ}
use Rattle.cilk_meaning.specs.declared.ends.NodeEnd.TheVariants.{Finished}
use Rattle.cilk_meaning.specs.Elision.{elision_within}
use Rattle.cilk_meaning.specs.Instance.{Limits, wants_within}
use Rattle.cilk_meaning.specs.Resolved.{Program}
use Rattle.cilk_meaning.specs.World.{End}
use Rattle.cilk_meaning.proofs.Elisions.{elision_is_service}
use Rattle.span_tree.specs.Memory.{ReadsLastWrites, last_write, printed_by}
use Rattle.span_tree.proofs.RaceFree.{race_free_is_serial}
use Rattle.elision_history.specs.Laws.{ActsInOrder, CompleteIsElision, ElisionIsHistory, ElisionReadsSerially, MemoryIsLastWrites, RaceFreeIsElision}
use Rattle.elision_history.specs.Logged.{history_of}
use Rattle.elision_history.proofs.Acting.{Done, service_done, printed_alike}
use Rattle.elision_history.proofs.Simulation.{Replayed, replayed}
use Rattle.elision_history.proofs.Histories.{Told, service_told}

module _ (most : Limits) (program : Program) (memory : ℕ → ℤ) (budget : ℕ) where
  abbrev end : End
  end = elision_within most program memory budget

  told : Told (wants_within most program) program.main end
  told = subst (λ (e : End). Told (wants_within most program) program.main e) (sym (elision_is_service most program memory budget))
      (service_told (wants_within most program) program.main memory budget)

  done : Done (wants_within most program) program.main memory end
  done = subst (λ (e : End). Done (wants_within most program) program.main memory e) (sym (elision_is_service most program memory budget))
      (service_done (wants_within most program) program.main memory budget)

pub elision_is_history : ElisionIsHistory
elision_is_history most program memory budget =
    let t = told most program memory budget in
    ((t.returned, t.history), λ finished. (t.returned, t.history, λ row lt. t.complete finished row lt))

pub acts_in_order : ActsInOrder
acts_in_order most program memory budget =
    let d = done most program memory budget in
    let log = (elision_within most program memory budget).world.log in
    (d.acts, d.rows, ap (filter_map printed_by) d.acts ∙ printed_alike (reverse log))

pub elision_reads_serially : ElisionReadsSerially
elision_reads_serially most program memory budget =
    let d = done most program memory budget in
    subst (λ acts. ReadsLastWrites memory acts) (sym d.acts) d.reads

pub memory_is_last_writes : MemoryIsLastWrites
memory_is_last_writes most program memory budget word =
    let d = done most program memory budget in
    d.holds word ∙ ap (last_write word (memory word)) (sym d.acts)

pub complete_is_elision : CompleteIsElision
complete_is_elision most program memory history complete reads =
    let starts = wants_within most program in
    let r : Replayed starts program.main history complete.0 complete.1 complete.2 memory reads = replayed starts program.main history complete.0 complete.1 complete.2 memory reads in
    let is : elision_within most program memory r.ticks ≡ r.end = elision_is_service most program memory r.ticks ∙ r.is_end in
    (r.ticks, subst (λ (e : End). e.end ≡ Finished) (sym is) r.finished, ap (λ (e : End). history_of program e) is ∙ r.tells)

pub race_free_is_elision : RaceFreeIsElision
race_free_is_elision most program memory history orders complete consistent free =
    complete_is_elision most program memory history complete (race_free_is_serial memory history orders (complete.1).numbered consistent free)
