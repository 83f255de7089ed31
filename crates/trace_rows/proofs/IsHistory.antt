-- The rows of an execution's frames are a history of its program, and a complete one where main has returned.
use Rattle.std.proofs.Common.{◌≡◌, ℕ, ◌<◌, List, Option, Some, None, length, sym, ◌∙◌, ap, subst, arith}
use Rattle.std.specs.Prelude.{slice_get, slice_index_or, ℤ}
use Rattle.std.proofs.lemmas.Option.{slice_get-get_or}
use Rattle.page_messages.specs.declared.closure.FrameId.{FrameId}
use Rattle.cilk_meaning.specs.Wants.{Returns}
use Rattle.span_tree.specs.declared.act.Act as row
use Rattle.span_tree.specs.History.{History, row_at}
use Rattle.span_tree.specs.Program.{Starts, AloneRun, IsRowOf, IsHistoryWith, IsHistory, IsComplete}
use Rattle.backer_order.specs.Log.{main_id}
use Rattle.determinacy.specs.Replies.{Trace, children, state_at, want_at, Obeys}
use Rattle.word_order.proofs.Rows.{acts_before}
use Rattle.word_order.proofs.Places.{AreRows}
use Rattle.trace_rows.proofs.RunAs.{has_depth, main_procedure}
use Rattle.trace_rows.specs.RunAs.{RunAs}
use Rattle.trace_rows.proofs.Blocks.{returned, returned_by, returned_is, block_of, value_back}
use Rattle.trace_rows.proofs.Alone.{alone_run}
use Rattle.trace_rows.proofs.Complete.{each_returned}

module _ (starts : Starts) (main : ℕ) (trace : Trace) (obeys : Obeys starts main trace) (now : ℕ) (frames : List FrameId) (history : History)
    (rows : AreRows trace.events now frames history) (runs : RunAs trace frames history) where
  -- what the frames of the rows have returned
  abbrev pub values : ℕ → Option ℤ
  values = returned starts trace now frames

  frame_there : (number : ℕ) → number < length history → (frame : FrameId) × (slice_get frames number ≡ Some frame)
  frame_there number less =
      let count = rows.count in
      (slice_index_or frames number main_id, slice_get-get_or frames number main_id (omega (arith, less, count)))

  same_run : (number depth procedure proc : ℕ) (arguments args : List ℤ) (acts made : List row.Act) (frame : FrameId) → proc ≡ procedure → args ≡ arguments
      → made ≡ acts →
      AloneRun history values number (starts depth procedure arguments) acts (block_of starts trace now frames (children trace.events now frame))
      (state_at starts trace now frame) →
      AloneRun history values number (starts depth proc args) made (block_of starts trace now frames (children trace.events now frame))
      (state_at starts trace now frame)
  same_run number depth procedure proc arguments args acts made frame one two three alone =
      subst (λ it. AloneRun history values number (starts depth it args) made (block_of starts trace now frames (children trace.events now frame))
      (state_at starts trace now frame)) (sym one)
      (subst (λ it. AloneRun history values number (starts depth procedure it) made (block_of starts trace now frames (children trace.events now frame))
      (state_at starts trace now frame)) (sym two)
      (subst (λ it. AloneRun history values number (starts depth procedure arguments) it (block_of starts trace now frames (children trace.events now frame))
      (state_at starts trace now frame))
      (sym three) alone))

  is_row_with : (number : ℕ) (frame : FrameId) → slice_get frames number ≡ Some frame → IsRowOf starts history values number
  is_row_with number frame is = record {
    depth = (trace.instance frame).depth;
    block = block_of starts trace now frames (children trace.events now frame);
    goes = state_at starts trace now frame;
    has_depth = has_depth starts main trace obeys now frames history rows runs number frame is;
    alone_run =
        same_run number (trace.instance frame).depth (trace.instance frame).procedure (row_at history number).proc (trace.instance frame).arguments
        (row_at history number).args
        (acts_before frames trace.events frame now) (row_at history number).acts frame (runs.procedure number frame is) (runs.arguments number frame is)
        (rows.acts number frame is)
        (alone_run starts main trace obeys now frames history rows runs number frame is now (omega arith));
    returns = λ value gave. value_back (want_at starts trace now frame) value (sym (ap (returned_by starts trace now frames) is) ∙ gave);
  }

  pub is_history_with : IsHistoryWith starts main history values
  is_history_with = record {
    numbered = rows.numbered;
    main_is = main_procedure starts main trace obeys now frames history rows runs;
    rows = λ number less. let there = frame_there number less in is_row_with number there.0 there.1;
  }

  -- The rows of an execution are a history of the program.
  pub is_history : IsHistory starts main history
  is_history = (values, is_history_with)

  -- Where main has returned, it is complete.
  pub is_complete : (value : ℤ) → want_at starts trace now main_id ≡ Some (Returns value) → IsComplete starts main history
  is_complete value want = (values, is_history_with, λ number less none. unreturned number less none)
    where
      unreturned : (number : ℕ) → number < length history → values number ≡ None → ⊥
      unreturned number less none =
          let there = frame_there number less in
          let gave = each_returned starts main trace obeys now frames history rows runs (value, want) number there.0 there.1 in
          let is = returned_is starts trace now frames number there.0 gave.0 there.1 gave.1 in
          cc
