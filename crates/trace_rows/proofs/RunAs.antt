-- The rows of a history run what the frames of an execution run: main and each child have their depths.
use Rattle.std.proofs.Common.{◌≡◌, ℕ, zero, suc, ◌<◌, List, Some, length, refl, sym, ◌∙◌, ap, subst, arith}
use Rattle.std.specs.Prelude.{slice_get}
use Rattle.std.proofs.lemmas.Option.{slice_get_within}
use Rattle.page_messages.specs.declared.closure.FrameId.{FrameId}
use Rattle.span_tree.specs.declared.act.Act.TheVariants as act
use Rattle.span_tree.specs.declared.act.Place.{Place}
use Rattle.span_tree.specs.History.{History, row_at}
use Rattle.span_tree.specs.Program.{Starts, HasDepth, Main, Child}
use Rattle.span_tree.proofs.Ways.{some_same}
use Rattle.cluster_rules.specs.Histories.{row_number}
use Rattle.backer_order.specs.Log.{main_id, Spawn, Acts}
use Rattle.determinacy.specs.Replies.{Instance, Trace, Obeys}
use Rattle.word_order.proofs.Rows.{number_get}
use Rattle.word_order.proofs.Places.{AreRows, act_here, place_for, stands, spawned_there}
use Rattle.trace_rows.specs.RunAs.{RunAs}

-- the act that spawned the frame of a row, and its own frame and row
pub record Spawning (trace : Trace) (now : ℕ) (frames : List FrameId) (history : History) (row : ℕ) (frame : FrameId) : Type 0 where
  pub place : Place
  pub named : (row_at history row).parent ≡ Some place
  pub before : place.row < row
  pub parent : FrameId
  pub number : slice_get frames place.row ≡ Some parent
  pub at : ℕ
  pub inside : at < now
  pub node : ℕ
  pub is : trace.events at ≡ Acts node parent (Spawn frame)

module _ (starts : Starts) (main : ℕ) (trace : Trace) (obeys : Obeys starts main trace) (now : ℕ) (frames : List FrameId) (history : History)
    (rows : AreRows trace.events now frames history) where
  pub within : (row : ℕ) (frame : FrameId) → slice_get frames row ≡ Some frame → row < length history
  within row frame is = let less = slice_get_within frames row frame is in let count = rows.count in omega (arith, less, count)

  pub spawning : (row : ℕ) (frame : FrameId) → slice_get frames (suc row) ≡ Some frame → Spawning trace now frames history (suc row) frame
  spawning row frame is =
      let parent = rows.numbered.parent (suc row) (omega arith) (within (suc row) frame is) in
      let place = parent.0 in
      let it = stands trace.events now frames history rows place (act.Spawn (suc row)) parent.1.spawns in
      let child = spawned_there trace.events now frames history rows place it.0 (suc row) it.1 parent.1.spawns in
      let same : child.0 ≡ frame = some_same child.0 frame (sym child.2 ∙ is) in
      record {
        place = place;
        named = parent.1.named;
        before = parent.1.before;
        parent = it.1.frame;
        number = it.1.number;
        at = it.0;
        inside = it.1.inside;
        node = it.1.node;
        is = subst (λ one. trace.events it.0 ≡ Acts it.1.node it.1.frame (Spawn one)) same child.1;
      }

  -- what was spawned has a row, whose parent is that act
  pub record Row (at : ℕ) (frame child : FrameId) : Type 0 where
    pub there : row_number frames child < length frames
    pub named : (row_at history (row_number frames child)).parent ≡ Some (place_for trace.events now frames history rows frame at)

  pub row_of_child : (at node : ℕ) (frame child : FrameId) → at < now → trace.events at ≡ Acts node frame (Spawn child) → Row at frame child
  row_of_child at node frame child inside is =
      let child_is =
      rows.numbered.child (place_for trace.events now frames history rows frame at) (row_number frames child)
      (act_here trace.events now frames history rows at node frame (Spawn child) inside is) in
      record { there = (let less = child_is.0 in let count = rows.count in omega (arith, less, count)); named = child_is.1.named }

  module _ (runs : RunAs trace frames history) where
    -- `main` is row 0
    main_row : (row : ℕ) → slice_get frames row ≡ Some main_id → row ≡ 0
    main_row zero is = refl
    main_row (suc row) is = let it = spawning row main_id is in absurd (obeys.not_main it.at it.node it.parent main_id it.is refl)

    pub main_first : slice_get frames 0 ≡ Some main_id
    main_first =
        let is = number_get frames main_id runs.main_there in
        subst (λ row. slice_get frames row ≡ Some main_id) (main_row (row_number frames main_id) is) is

    pub first_is_main : (frame : FrameId) → slice_get frames 0 ≡ Some frame → frame ≡ main_id
    first_is_main frame is = some_same frame main_id (sym is ∙ main_first)

    pub main_depth : (trace.instance main_id).depth ≡ 0
    main_depth = ap (λ (it : Instance). it.depth) obeys.main_is

    pub main_procedure : (row_at history 0).proc ≡ main
    main_procedure = runs.procedure 0 main_id main_first ∙ ap (λ (it : Instance). it.procedure) obeys.main_is

    depth_within : (bound row : ℕ) (frame : FrameId) → row < bound → slice_get frames row ≡ Some frame → HasDepth history row (trace.instance frame).depth
    depth_within zero row frame less is = absurd (omega (arith, less))
    depth_within (suc bound) zero frame less is =
        subst (λ depth. HasDepth history 0 depth) (sym (ap (λ it. (trace.instance it).depth) (first_is_main frame is) ∙ main_depth)) Main
    depth_within (suc bound) (suc row) frame less is =
        let it = spawning row frame is in
        let before = it.before in
        subst (λ depth. HasDepth history (suc row) depth) (sym (obeys.deeper it.at it.node it.parent frame it.is))
        (Child (suc row) it.place (trace.instance it.parent).depth it.named (depth_within bound it.place.row it.parent (omega (arith, before, less)) it.number))

    -- Each row has the depth of its frame.
    pub has_depth : (row : ℕ) (frame : FrameId) → slice_get frames row ≡ Some frame → HasDepth history row (trace.instance frame).depth
    has_depth row frame is = depth_within (suc row) row frame (omega arith) is
