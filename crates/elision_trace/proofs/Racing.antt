-- The history of the elision has its rows as the frames of its trace, in whose positions it is serial.
use Rattle.std.proofs.Common.{◌≡◌, ℕ, zero, suc, ◌<◌, inl, inr, ℤ, true, Some, List, [], ◌∷◌, length, refl, sym, ◌∙◌, ap, subst, arith}
use Rattle.std.specs.Prelude.{slice_get}
use Rattle.backer_order.specs.Log as log
use Rattle.backer_order.specs.Log.{Nothing}
use Rattle.cilk_meaning.proofs.Elisions.{elision_is_service}
use Rattle.cilk_meaning.proofs.Keeps.{IsInvariant, serve_keeps}
use Rattle.cilk_meaning.specs.Instance.{Limits, wants_within}
use Rattle.cilk_meaning.specs.Resolved.{Program}
use Rattle.cilk_meaning.specs.Serve.{State, served, serve, first_state}
use Rattle.cilk_meaning.specs.Wants as wanted
use Rattle.cilk_meaning.specs.Wants.{Request, Asks, Returns}
use Rattle.cilk_meaning.specs.World as world
use Rattle.cilk_meaning.specs.World.{World, End}
use Rattle.cluster_rules.specs.Histories.{row_number}
use Rattle.determinacy.proofs.Rows.{by_acts}
use Rattle.determinacy.specs.Replies.{Born}
use Rattle.elision_history.proofs.Histories.{Inv, step_kept, return_kept, first_kept}
use Rattle.elision_history.specs.Logged.{logged, history_of}
use Rattle.elision_trace.proofs.Obeying.{first_good, step_good, return_good}
use Rattle.elision_trace.proofs.Placing.{how_many, get_frame, number_in, place_at, acts_first, Placed, placed_tick, placed_act}
use Rattle.elision_trace.proofs.Service.{Good}
use Rattle.elision_trace.specs.Laws.{end_of, finish_of, frames_of}
use Rattle.elision_trace.specs.Tracing.{frame_at, frames_to, act_of, events_in}
use Rattle.page_messages.specs.declared.closure.FrameId.{FrameId}
use Rattle.span_tree.proofs.Growing.{with_one, spawns_nothing, open_inside, act_order, child_order, one'}
use Rattle.span_tree.specs.Dag.{IsBefore}
use Rattle.span_tree.specs.History.{IsNumbered, row_at}
use Rattle.span_tree.specs.Program.{Starts}
use Rattle.span_tree.specs.Recording.{with_act, with_child, spawns_none}
use Rattle.span_tree.specs.declared.act.Act.{Act}
use Rattle.span_tree.specs.declared.act.Act.TheVariants as row_act
use Rattle.word_order.proofs.Places.{AreRows, place_for}
use Rattle.word_order.proofs.Rows.{shown, acts_before, place_in}

no_act : (node : ℕ) (frame : FrameId) (act : log.Act) → Nothing ≡ log.Acts node frame act → ⊥
no_act node frame act is = cc

first_acts : (main row : ℕ) → (row_at (logged main []) row).acts ≡ []
first_acts main zero = refl
first_acts main (suc row) = refl

pub first_placed : (main : ℕ) → Placed [] (logged main []) 1
first_placed main = record {
  acts = λ most inside row. first_acts main row ∙ sym (acts_first (frames_to most) (events_in []) (frame_at row));
  order = λ most inside at later node other row second act next before within is is_next. absurd (no_act node (frame_at row) act is);
}

module _ (starts : Starts) (main : ℕ) where
  pub record Rowed (left : ℕ) (s : State) : Type 0 where
    pub kept : Inv starts main left s
    pub good : Good starts main s
    pub placed : Placed s.world.log (logged main s.world.log) s.world.rows

  -- an act that spawns nothing
  act_placed : (left : ℕ) (s : State) (rowed : Rowed left s) (act : world.Act) (made : Act) → spawns_none made ≡ true →
      ((most : ℕ) → shown (frames_to most) (act_of act) ≡ made) →
      Placed (world.Acts s.running.row act ∷ s.world.log) (with_act s.running.row made (logged main s.world.log)) s.world.rows
  act_placed left s rowed act made plain told =
      let running = rowed.kept.running in
      placed_act s.world.log s.running.row act (logged main s.world.log) (with_act s.running.row made (logged main s.world.log)) s.world.rows s.world.rows made
      running.numbered rowed.placed
      (with_one (logged main s.world.log) s.running.row made (open_inside (logged main s.world.log) running.numbered s.running.row running.runs)
      (λ child is. absurd (spawns_nothing made child plain is)))
      (act_order (logged main s.world.log) running.numbered s.running.row made running.runs plain) (omega arith) (λ most inside. told most)

  spawn_placed : (left : ℕ) (s : State) (rowed : Rowed left s) (procedure : ℕ) (arguments : List ℤ) →
      Placed (world.Acts s.running.row (world.Spawn s.world.rows procedure arguments) ∷ s.world.log)
      (with_child s.running.row procedure arguments (logged main s.world.log)) (suc s.world.rows)
  spawn_placed left s rowed procedure arguments =
      let running = rowed.kept.running in
      let size : s.world.rows ≡ length (logged main s.world.log) = rowed.kept.size in
      placed_act s.world.log s.running.row (world.Spawn s.world.rows procedure arguments) (logged main s.world.log)
      (with_child s.running.row procedure arguments (logged main s.world.log)) s.world.rows (suc s.world.rows)
      (row_act.Spawn (length (logged main s.world.log)))
      running.numbered rowed.placed
      (one' (logged main s.world.log) s.running.row procedure arguments (open_inside (logged main s.world.log) running.numbered s.running.row running.runs))
      (child_order (logged main s.world.log) running.numbered s.running.row procedure arguments running.runs) (omega arith)
      (λ most inside. ap row_act.Spawn (number_in most s.world.rows (omega (arith, inside)) ∙ size))

  step_placed : (left : ℕ) (s : State) (request : Request) → Rowed left s →
      Placed (served starts request s).world.log (logged main (served starts request s).world.log) (served starts request s).world.rows
  step_placed left s (wanted.Read word) rowed =
      act_placed left s rowed (world.Read word (s.world.memory word)) (row_act.Read word (s.world.memory word)) refl (λ most. refl)
  step_placed left s (wanted.Write word value) rowed = act_placed left s rowed (world.Write word value) (row_act.Write word value) refl (λ most. refl)
  step_placed left s (wanted.Add word addend) rowed =
      act_placed left s rowed (world.Add word (s.world.memory word) addend) (row_act.Add word (s.world.memory word) addend) refl (λ most. refl)
  step_placed left s (wanted.Print value) rowed = act_placed left s rowed (world.Print value) (row_act.Print value) refl (λ most. refl)
  step_placed left s (wanted.Spawn target procedure arguments) rowed = spawn_placed left s rowed procedure arguments
  step_placed left s wanted.Sync rowed = act_placed left s rowed world.Sync row_act.Sync refl (λ most. refl)
  step_placed left s wanted.Call rowed = placed_tick s.world.log s.running.row (logged main s.world.log) s.world.rows rowed.placed
  step_placed left s wanted.LoopTurn rowed = placed_tick s.world.log s.running.row (logged main s.world.log) s.world.rows rowed.placed

  -- ---- the end

  pub record InRows (e : End) : Type 0 where
    pub numbered : IsNumbered (logged main e.world.log)
    pub size : e.world.rows ≡ length (logged main e.world.log)
    pub placed : Placed e.world.log (logged main e.world.log) e.world.rows
    pub named : (at node : ℕ) (frame : FrameId) (act : log.Act) → at < length e.world.log → events_in e.world.log at ≡ log.Acts node frame act →
        (row : ℕ) × (frame ≡ frame_at row) × (row < e.world.rows)

  born_row : (s : State) → Good starts main s → (at : ℕ) (frame : FrameId) → at < length s.world.log → Born (events_in s.world.log) at frame →
      (row : ℕ) × (frame ≡ frame_at row) × (row < s.world.rows)
  born_row s good at frame before (inl of_main) = (0, of_main, omega (arith, good.below))
  born_row s good at frame before (inr spawned) =
      let is_row = good.numbered frame
      (record { at = spawned.at; node = spawned.node; parent = spawned.parent; before = omega (arith, before, spawned.before); is = spawned.is }) in
      (is_row.row, is_row.is, is_row.below)

  in_rows : (left : ℕ) (s : State) (e : End) → Rowed left s → e.world ≡ s.world → InRows e
  in_rows left s e rowed same = subst (λ (made : World). InRows (record { end = e.end; world = made })) (sym same) (record {
    numbered = rowed.kept.running.numbered;
    size = rowed.kept.size;
    placed = rowed.placed;
    named = λ at node frame act before is. born_row s rowed.good at frame before
        (rowed.good.sound.born at frame (by_acts node frame act (events_in s.world.log at) is));
  })

  rowed_kept : IsInvariant starts Rowed InRows
  rowed_kept = record {
    spent = λ s request is rowed. in_rows 0 s _ rowed refl;
    lost = λ left s is rowed. in_rows left s _ rowed refl;
    trapped = λ left s kind is rowed. in_rows left s _ rowed refl;
    finished = λ left entry value made is rowed. in_rows left (record { running = entry; waiting = []; world = made }) _ rowed refl;
    returned = λ left entry parent parents value made is rowed. record {
      kept = return_kept starts main (logged main made.log) entry parent parents made.rows rowed.kept value is;
      good = return_good starts main entry parent parents value made is rowed.good;
      placed = rowed.placed;
    };
    step = λ left s request is rowed. record {
      kept = step_kept starts main left s request is rowed.kept;
      good = step_good starts main s request is rowed.good;
      placed = step_placed (suc left) s request rowed;
    };
  }

  pub service_in_rows : (memory : ℕ → ℤ) (budget : ℕ) → InRows (serve starts budget (first_state starts main memory))
  service_in_rows memory budget =
      serve_keeps starts Rowed InRows rowed_kept budget (first_state starts main memory)
      (record { kept = first_kept starts main memory; good = first_good starts main memory; placed = first_placed main })

-- ---- the elision

module _ (most : Limits) (program : Program) (start : ℕ → ℤ) (budget : ℕ) where
  abbrev pub end : End
  end = end_of most program start budget

  abbrev frames : List FrameId
  frames = frames_of most program start budget

  rowed : InRows (wants_within most program) program.main end
  rowed = subst (λ (e : End). InRows (wants_within most program) program.main e) (sym (elision_is_service most program start budget))
      (service_in_rows (wants_within most program) program.main start budget)

  acts : (number : ℕ) (frame : FrameId) → slice_get frames number ≡ Some frame →
      (row_at (history_of program end) number).acts ≡ acts_before frames (events_in end.world.log) frame (finish_of most program start budget)
  acts number frame is =
      let same : frame ≡ frame_at number = get_frame 0 end.world.rows number frame is ∙ ap frame_at (omega arith) in
      subst (λ i. (row_at (history_of program end) number).acts ≡ acts_before frames (events_in end.world.log) i (finish_of most program start budget))
      (sym same)
      (rowed.placed.acts end.world.rows (omega arith) number)

  named : (at node : ℕ) (frame : FrameId) (act : log.Act) → at < finish_of most program start budget → events_in end.world.log at ≡ log.Acts node frame act →
      row_number frames frame < length frames
  named at node frame act before is =
      let row = rowed.named at node frame act before is in
      let number = ap (row_number frames) row.1 ∙ number_in end.world.rows row.0 row.2 in
      let count = how_many 0 end.world.rows in
      let below = row.2 in omega (arith, number, count, below)

  pub are_rows : AreRows (events_in end.world.log) (finish_of most program start budget) frames (history_of program end)
  are_rows = record { numbered = rowed.numbered; count = sym rowed.size ∙ sym (how_many 0 end.world.rows); acts = acts; named = named }

  its_place : (row at : ℕ) (frame : FrameId) → frame ≡ frame_at row → row < end.world.rows →
      place_at end.world.rows end.world.log row at ≡ place_for (events_in end.world.log) (finish_of most program start budget) frames
      (history_of program end) are_rows frame at
  its_place row at frame same inside =
      ap (λ i. record { row = i; act = place_in frames (events_in end.world.log) (frame_at row) at }) (sym (number_in end.world.rows row inside))
      ∙ ap (λ i. record { row = row_number frames i; act = place_in frames (events_in end.world.log) i at }) (sym same)

  -- what was done earlier is serially before
  pub in_serial_order : (at later node other : ℕ) (frame second : FrameId) (act next : log.Act) → at < later → later < finish_of most program start budget →
      events_in end.world.log at ≡ log.Acts node frame act → events_in end.world.log later ≡ log.Acts other second next →
      IsBefore (history_of program end)
      (place_for (events_in end.world.log) (finish_of most program start budget) frames (history_of program end) are_rows frame at)
      (place_for (events_in end.world.log) (finish_of most program start budget) frames (history_of program end) are_rows second later)
  in_serial_order at later node other frame second act next before within is is_next =
      let first_row = rowed.named at node frame act (omega (arith, before, within)) is in
      let second_row = rowed.named later other second next within is_next in
      let here = subst (λ i. events_in end.world.log at ≡ log.Acts node i act) first_row.1 is in
      let there = subst (λ i. events_in end.world.log later ≡ log.Acts other i next) second_row.1 is_next in
      let stands = rowed.placed.order end.world.rows (omega arith) at later node other first_row.0 second_row.0 act next before within here there in
      subst (λ i. IsBefore (history_of program end) i
      (place_for (events_in end.world.log) (finish_of most program start budget) frames (history_of program end) are_rows second later))
      (its_place first_row.0 at frame first_row.1 first_row.2)
      (subst (λ i. IsBefore (history_of program end) (place_at end.world.rows end.world.log first_row.0 at) i)
      (its_place second_row.0 later second second_row.1 second_row.2) stands)
