-- The rows of the elision's history run what its frames run: an induction along the service.
use Rattle.std.proofs.Common.{◌≡◌, ◌≢◌, inl, inr, ℕ, zero, suc, ◌<◌, ℤ, Some, List, [], ◌∷◌, ◌++◌, length, refl, sym, ◌∙◌, ap, subst, arith}
use Rattle.std.proofs.lemmas.Option.{slice_get_within}
use Rattle.std.specs.Prelude.{slice_get}
use Rattle.backer_order.specs.Log.{main_id}
use Rattle.cilk_meaning.proofs.Elisions.{elision_is_service}
use Rattle.cilk_meaning.proofs.Keeps.{IsInvariant, serve_keeps}
use Rattle.cilk_meaning.specs.Instance.{Limits, wants_within}
use Rattle.cilk_meaning.specs.Resolved.{Program}
use Rattle.cilk_meaning.specs.Serve.{State, served, serve, first_state}
use Rattle.cilk_meaning.specs.Wants as wanted
use Rattle.cilk_meaning.specs.Wants.{Request}
use Rattle.cilk_meaning.specs.World as world
use Rattle.cilk_meaning.specs.World.{World, End, Event}
use Rattle.cluster_rules.specs.Histories.{row_number}
use Rattle.cluster_rules.specs.Lives.{same_frame}
use Rattle.determinacy.proofs.Rows.{when_false}
use Rattle.determinacy.specs.Replies.{Instance}
use Rattle.elision_alone.specs.Laws.{ElisionRunsAs}
use Rattle.elision_history.proofs.Histories.{Inv, step_kept, return_kept, first_kept}
use Rattle.elision_history.specs.Logged.{logged, history_of}
use Rattle.elision_trace.proofs.Logs.{child_instance}
use Rattle.elision_trace.proofs.Placing.{how_many, get_frame, number_in, not_same}
use Rattle.elision_trace.specs.Laws.{end_of, elision_trace, frames_of}
use Rattle.elision_trace.specs.Tracing.{frame_at, instance_after, instance_in}
use Rattle.page_messages.specs.declared.closure.FrameId.{FrameId}
use Rattle.span_tree.proofs.Growing.{same_or, open_inside, same_row, with_length, child_length, old_row, new_row}
use Rattle.span_tree.specs.declared.act.Act.{Act}
use Rattle.span_tree.specs.declared.act.Act.TheVariants as act
use Rattle.span_tree.specs.History.{History, Row, row_at}
use Rattle.span_tree.specs.Program.{Starts}
use Rattle.span_tree.specs.Recording.{with_act, with_child}

-- the row of a history runs this
record Runs (history : History) (row : ℕ) (runs : Instance) : Type 0 where
  procedure : (row_at history row).proc ≡ runs.procedure
  arguments : (row_at history row).args ≡ runs.arguments

-- each row runs what its frame runs
abbrev AllRun : History → (FrameId → Instance) → Type 0
AllRun history runs = (row : ℕ) → row < length history → Runs history row (runs (frame_at row))

runs_same : (history next : History) (row : ℕ) (runs : Instance) → (row_at next row).proc ≡ (row_at history row).proc →
    (row_at next row).args ≡ (row_at history row).args → Runs history row runs → Runs next row runs
runs_same history next row runs procedure arguments before =
    record { procedure = procedure ∙ before.procedure; arguments = arguments ∙ before.arguments }

module _ (history : History) (runs : FrameId → Instance) (row : ℕ) (inside : row < length history) (all : AllRun history runs) where
  -- an act more changes nothing of it
  act_runs : (made : Act) → AllRun (with_act row made history) runs
  act_runs made other within = runs_same history (with_act row made history) other (runs (frame_at other))
      (same_row history row made inside (λ (r : Row). r.proc) refl other) (same_row history row made inside (λ (r : Row). r.args) refl other)
      (all other (let same = with_length history row made inside in omega (arith, within, same)))

  -- and a spawn more gives the child's row what its frame runs
  module _ (procedure : ℕ) (arguments : List ℤ) where
    abbrev grown : History
    grown = with_child row procedure arguments history

    abbrev spawn : Event
    spawn = world.Acts row (world.Spawn (length history) procedure arguments)

    child_runs : (child : ℕ) → child ≡ length history → Runs grown child (instance_after spawn runs (frame_at child))
    child_runs child is = subst (λ i. Runs grown i (instance_after spawn runs (frame_at i))) (sym is) (
        let born = new_row history row procedure arguments inside in
        let told = child_instance runs row (length history) procedure arguments in
        record {
          procedure = ap (λ (r : Row). r.proc) born ∙ sym (ap (λ (i : Instance). i.procedure) told);
          arguments = ap (λ (r : Row). r.args) born ∙ sym (ap (λ (i : Instance). i.arguments) told);
        }
        )

    other_same : (other : ℕ) → other ≢ length history → instance_after spawn runs (frame_at other) ≡ runs (frame_at other)
    other_same other apart = when_false (same_frame (frame_at other) (frame_at (length history)))
        (record { depth = suc (runs (frame_at row)).depth; procedure = procedure; arguments = arguments }) (runs (frame_at other))
        (not_same other (length history) apart)

    same_head : {A : Type 0} (part : Row → A) →
        part (record (row_at history row) { acts = (row_at history row).acts ++ act.Spawn (length history) ∷ [] }) ≡ part (row_at history row) →
        (other : ℕ) → other < length history → part (row_at grown other) ≡ part (row_at history other)
    same_head part same other within =
        ap part (old_row history row procedure arguments inside other within) ∙ same_row history row (act.Spawn (length history)) inside part same other

    spawn_runs : AllRun grown (instance_after spawn runs)
    spawn_runs other within = elim (same_or other (length history)) [
      | inl is ↦ child_runs other is
      | inr apart ↦
          let size = child_length history row procedure arguments inside in
          let before : other < length history = omega (arith, within, size, apart) in
          subst (λ i. Runs grown other i) (sym (other_same other apart))
          (runs_same history grown other (runs (frame_at other)) (same_head (λ (r : Row). r.proc) refl other before)
          (same_head (λ (r : Row). r.args) refl other before) (all other before))
    ]

module _ (starts : Starts) (main : ℕ) where
  record Running (left : ℕ) (s : State) : Type 0 where
    kept : Inv starts main left s
    runs : AllRun (logged main s.world.log) (instance_in main s.world.log)

  record Run (e : End) : Type 0 where
    some : 0 < e.world.rows
    size : e.world.rows ≡ length (logged main e.world.log)
    runs : AllRun (logged main e.world.log) (instance_in main e.world.log)

  first_runs : AllRun (logged main []) (instance_in main [])
  first_runs zero within = record { procedure = refl; arguments = refl }
  first_runs (suc row) within = absurd (omega (arith, within))

  inside_of : (left : ℕ) (s : State) → Running left s → s.running.row < length (logged main s.world.log)
  inside_of left s running = open_inside (logged main s.world.log) running.kept.running.numbered s.running.row running.kept.running.runs

  act_step : (left : ℕ) (s : State) → Running left s → (made : Act) →
      AllRun (with_act s.running.row made (logged main s.world.log)) (instance_in main s.world.log)
  act_step left s running made =
      act_runs (logged main s.world.log) (instance_in main s.world.log) s.running.row (inside_of left s running) running.runs made

  step_runs : (left : ℕ) (s : State) (request : Request) → Running left s →
      AllRun (logged main (served starts request s).world.log) (instance_in main (served starts request s).world.log)
  step_runs left s (wanted.Read word) running = act_step left s running (act.Read word (s.world.memory word))
  step_runs left s (wanted.Write word value) running = act_step left s running (act.Write word value)
  step_runs left s (wanted.Add word addend) running = act_step left s running (act.Add word (s.world.memory word) addend)
  step_runs left s (wanted.Print value) running = act_step left s running (act.Print value)
  step_runs left s (wanted.Spawn target procedure arguments) running =
      subst (λ i. AllRun (with_child s.running.row procedure arguments (logged main s.world.log))
      (instance_after (world.Acts s.running.row (world.Spawn i procedure arguments)) (instance_in main s.world.log))) (sym running.kept.size)
      (spawn_runs (logged main s.world.log) (instance_in main s.world.log) s.running.row (inside_of left s running) running.runs procedure arguments)
  step_runs left s wanted.Sync running = act_step left s running act.Sync
  step_runs left s wanted.Call running = running.runs
  step_runs left s wanted.LoopTurn running = running.runs

  run_of : (left : ℕ) (s : State) (e : End) → Running left s → e.world ≡ s.world → Run e
  run_of left s e running same = subst (λ (made : World). Run (record { end = e.end; world = made })) (sym same) (record {
    some = let size = running.kept.size in let some = running.kept.running.numbered.some in omega (arith, size, some);
    size = running.kept.size;
    runs = running.runs;
  })

  running_kept : IsInvariant starts Running Run
  running_kept = record {
    spent = λ s request is running. run_of 0 s _ running refl;
    lost = λ left s is running. run_of left s _ running refl;
    trapped = λ left s kind is running. run_of left s _ running refl;
    finished = λ left entry value made is running. run_of left (record { running = entry; waiting = []; world = made }) _ running refl;
    returned = λ left entry parent parents value made is running.
        record { kept = return_kept starts main (logged main made.log) entry parent parents made.rows running.kept value is; runs = running.runs };
    step = λ left s request is running. record { kept = step_kept starts main left s request is running.kept; runs = step_runs (suc left) s request running };
  }

  service_run : (memory : ℕ → ℤ) (budget : ℕ) → Run (serve starts budget (first_state starts main memory))
  service_run memory budget =
      serve_keeps starts Running Run running_kept budget (first_state starts main memory) (record { kept = first_kept starts main memory; runs = first_runs })

-- ---- the elision

module _ (most : Limits) (program : Program) (start : ℕ → ℤ) (budget : ℕ) where
  abbrev end : End
  end = end_of most program start budget

  run : Run (wants_within most program) program.main end
  run = subst (λ (e : End). Run (wants_within most program) program.main e) (sym (elision_is_service most program start budget))
      (service_run (wants_within most program) program.main start budget)

  its_run : (row : ℕ) (frame : FrameId) → slice_get (frames_of most program start budget) row ≡ Some frame →
      Runs (history_of program end) row ((elision_trace most program start budget).instance frame)
  its_run row frame is =
      let within = slice_get_within (frames_of most program start budget) row frame is in
      let count = how_many 0 end.world.rows in
      let size = run.size in
      let same : frame ≡ frame_at row = get_frame 0 end.world.rows row frame is ∙ ap frame_at (omega arith) in
      subst (λ i. Runs (history_of program end) row ((elision_trace most program start budget).instance i)) (sym same)
      (run.runs row (omega (arith, within, count, size)))

  main_there : row_number (frames_of most program start budget) main_id < length (frames_of most program start budget)
  main_there =
      let some = run.some in
      let number = number_in end.world.rows 0 some in
      let count = how_many 0 end.world.rows in
      omega (arith, some, number, count)

pub elision_runs_as : ElisionRunsAs
elision_runs_as most program start budget = record {
  main_there = main_there most program start budget;
  procedure = λ row frame is. (its_run most program start budget row frame is).procedure;
  arguments = λ row frame is. (its_run most program start budget row frame is).arguments;
}
