-- The acts of a frame before each position are those of the alone run of its row.
use Rattle.std.proofs.Common.{◌≡◌, inl, inr, ℕ, zero, suc, ◌<◌, ◌≤◌, List, [], ◌∷◌, ◌++◌, Option, Some, true, false, cond, length, refl, sym, ◌∙◌, ap, subst, arith, rules}
use Rattle.std.specs.Prelude.{slice_get, ℤ}
use Rattle.page_messages.specs.declared.closure.FrameId.{FrameId}
use Rattle.cilk_meaning.specs.Instance.{Meaning}
use Rattle.cilk_meaning.specs.Serve as serve
use Rattle.cilk_meaning.specs.Wants as wanted
use Rattle.cilk_meaning.specs.Wants.{Want, Request, Asks, Deposit, Answer, Value, Children, Done}
use Rattle.span_tree.specs.declared.act.Act as row
use Rattle.span_tree.specs.declared.act.Place.{Place}
use Rattle.span_tree.specs.History.{History}
use Rattle.span_tree.specs.Program as program
use Rattle.span_tree.specs.Program.{Starts, Block, IsAnswered, IsChild, AloneRun, Begins, Ticks}
use Rattle.cluster_rules.specs.Histories.{row_number}
use Rattle.backer_order.specs.Log.{Act, Read, Write, Add, Print, Spawn, Sync, Event, Nothing, Acts, Tick, Drop, TakeUp, OwnFetch, OwnReconcile, Post, Took, End}
use Rattle.backer_order.specs.Edges.{IsOn}
use Rattle.determinacy.specs.Replies.{Trace, Reply, by, children, children_after, reply_to, answer_of, behind, state_at, replies, want_at, Answers, Obeys}
use Rattle.determinacy.proofs.Rows.{either_bool, same_is, given, grew, still, block_grew, block_still}
use Rattle.determinacy.proofs.Matches.{asked}
use Rattle.word_order.proofs.Rows.{shown, act_by, acts_before, number_get}
use Rattle.word_order.proofs.Places.{AreRows, number_is}
use Rattle.trace_rows.proofs.RunAs.{row_of_child}
use Rattle.trace_rows.specs.RunAs.{RunAs}
use Rattle.trace_rows.proofs.Blocks.{returned, block_of, have_returned, spawned_by}

pub nothing_more : {A : Type 0} (list : List A) → list ++ [] ≡ list
nothing_more list = search rules

-- what is no item of the frame is no act of it
pub no_act : (frames : List FrameId) (frame : FrameId) (event : Event) → by frame event ≡ false → act_by frames frame event ≡ []
unfolding by
no_act frames frame (Acts node actor act) is = ap (λ b. cond b (shown frames act ∷ []) []) is
no_act frames frame (Tick node actor) is = refl
no_act frames frame Nothing is = refl
no_act frames frame (Drop node page) is = refl
no_act frames frame (TakeUp node actor) is = refl
no_act frames frame (OwnFetch node page words) is = refl
no_act frames frame (OwnReconcile node part) is = refl
no_act frames frame (Post node receiver note) is = refl
no_act frames frame (Took node post) is = refl
no_act frames frame (End node) is = refl

module _ (starts : Starts) (main : ℕ) (trace : Trace) (obeys : Obeys starts main trace) (now : ℕ) (frames : List FrameId) (history : History)
    (rows : AreRows trace.events now frames history) (runs : RunAs trace frames history) (number : ℕ) (frame : FrameId)
    (is_row : slice_get frames number ≡ Some frame) where
  abbrev begin : Meaning
  begin = starts (trace.instance frame).depth (trace.instance frame).procedure (trace.instance frame).arguments

  abbrev values : ℕ → Option ℤ
  values = returned starts trace now frames

  -- the row's run has made these acts, has these children out and goes on so
  abbrev Runs : List row.Act → Block → Meaning → Type 0
  Runs acts block goes = AloneRun history values number begin acts block goes

  abbrev acts_at : ℕ → List row.Act
  acts_at at = acts_before frames trace.events frame at

  abbrev block_at : ℕ → Block
  block_at at = block_of starts trace now frames (children trace.events at frame)

  abbrev goes_at : ℕ → Meaning
  goes_at at = state_at starts trace at frame

  abbrev RunsAt : ℕ → Type 0
  RunsAt at = Runs (acts_at at) (block_at at) (goes_at at)

  -- so behind this event, which is the frame's
  abbrev RunsBehind : ℕ → Event → List row.Act → Type 0
  RunsBehind at event acts =
      Runs acts (block_of starts trace now frames (children_after event (children trace.events at frame)))
      (serve.after (goes_at at) (answer_of (reply_to event (given starts trace at frame))))

  own_row : row_number frames frame ≡ number
  own_row = number_is trace.events now frames history rows number frame is_row

  is_child : (at node : ℕ) (child : FrameId) → at < now → trace.events at ≡ Acts node frame (Spawn child) →
      IsChild history (row_number frames child) (record { row = number; act = length (acts_at at) }) (trace.instance child).procedure
      (trace.instance child).arguments
  is_child at node child inside is =
      let it = row_of_child starts main trace obeys now frames history rows at node frame child inside is in
      let child_row : slice_get frames (row_number frames child) ≡ Some child = number_get frames child it.there in
      record {
        named = it.named ∙ ap (λ one. Some (record { row = one; act = length (acts_at at) })) own_row;
        procedure_is = runs.procedure (row_number frames child) child child_row;
        arguments_are = runs.arguments (row_number frames child) child child_row;
      }

  module _ (at : ℕ) (inside : at < now) (before : RunsAt at) where
    abbrev here : Place
    here = record { row = number; act = length (acts_at at) }

    made : (request : Request) (act : row.Act) (answer : Answer) (block : Block) → want_at starts trace at frame ≡ Some (Asks request) →
        IsAnswered history values here request act answer (block_at at) block → Runs (acts_at at ++ act ∷ []) block (serve.after (goes_at at) answer)
    made request act answer block want answered = program.Acts (acts_at at) (block_at at) block (goes_at at) request act answer before want answered

    act_step : (node : ℕ) (act : Act) → trace.events at ≡ Acts node frame act → Answers trace (Acts node frame act) (want_at starts trace at frame) →
        RunsBehind at (Acts node frame act) (acts_at at ++ shown frames act ∷ [])
    unfolding children_after reply_to
    act_step node (Read word value) is want =
        made (wanted.Read word) (shown frames (Read word value)) (Value value) (block_at at) want (program.Read word value (block_at at))
    act_step node (Write word value) is want =
        made (wanted.Write word value) (shown frames (Write word value)) Done (block_at at) want (program.Write word value (block_at at))
    act_step node (Add word old addend) is want =
        made (wanted.Add word addend) (shown frames (Add word old addend)) (Value old) (block_at at) want (program.Add word old addend (block_at at))
    act_step node (Print value) is want = made (wanted.Print value) (shown frames (Print value)) Done (block_at at) want (program.Print value (block_at at))
    act_step node (Spawn child) is want =
        made (wanted.Spawn (trace.target child) (trace.instance child).procedure (trace.instance child).arguments) (shown frames (Spawn child)) Done
        (block_at at ++ (trace.target child, row_number frames child) ∷ []) want
        (program.Spawn (trace.target child) (trace.instance child).procedure (trace.instance child).arguments (row_number frames child) (block_at at)
        (is_child at node child inside is))
    act_step node Sync is want =
        made wanted.Sync (shown frames Sync) (Children (given starts trace at frame)) [] want
        (program.Sync (block_at at) (given starts trace at frame)
        (have_returned starts main trace obeys now frames at (children trace.events at frame) (omega (arith, inside))
        (λ child on. (let it = obeys.joined at node frame child is on in (there child on, it.0, it.1)))))
      where
        there : (child : FrameId) → IsOn child (children trace.events at frame) → row_number frames child < length frames
        there child on =
            let it = spawned_by trace at frame child on in
            let less = it.before in
            (row_of_child starts main trace obeys now frames history rows it.at it.node frame child (omega (arith, less, inside)) it.is).there

    -- an item of the frame
    item_step : (event : Event) → trace.events at ≡ event → by frame event ≡ true → Answers trace event (want_at starts trace at frame) →
        RunsBehind at event (acts_at at ++ act_by frames frame event)
    unfolding by children_after reply_to
    item_step (Acts node actor act) is acts want =
        let same = same_is actor frame acts in
        subst (λ b. RunsBehind at (Acts node actor act) (acts_at at ++ cond b (shown frames act ∷ []) [])) (sym acts)
        (subst (λ one. RunsBehind at (Acts node one act) (acts_at at ++ shown frames act ∷ [])) (sym same)
        (act_step node act (is ∙ ap (λ one. Acts node one act) same)
        (subst (λ one. Answers trace (Acts node one act) (want_at starts trace at frame)) same want)))
    item_step (Tick node actor) is acts want =
        subst (λ list. RunsBehind at (Tick node actor) list) (sym (nothing_more (acts_at at))) (Ticks (acts_at at) (block_at at) (goes_at at) before want)
    item_step Nothing is acts want = absurd cc
    item_step (Drop node page) is acts want = absurd cc
    item_step (TakeUp node actor) is acts want = absurd cc
    item_step (OwnFetch node page words) is acts want = absurd cc
    item_step (OwnReconcile node part) is acts want = absurd cc
    item_step (Post node receiver note) is acts want = absurd cc
    item_step (Took node post) is acts want = absurd cc
    item_step (End node) is acts want = absurd cc

    acts_more : acts_at (suc at) ≡ acts_at at ++ act_by frames frame (trace.events at)
    unfolding acts_before
    acts_more = refl

    told_more : (reply : Reply) → replies starts trace (suc at) frame ≡ reply ∷ replies starts trace at frame
        → goes_at (suc at) ≡ serve.after (goes_at at) (answer_of reply)
    unfolding behind
    told_more reply is = ap (behind begin) is

    next_step : RunsAt (suc at)
    next_step = elim (either_bool (by frame (trace.events at))) [
      | inl acts ↦
          subst (λ goes. Runs (acts_at (suc at)) (block_at (suc at)) goes)
          (sym (told_more (reply_to (trace.events at) (given starts trace at frame)) (grew starts trace at frame acts)))
          (subst (λ block. Runs (acts_at (suc at)) (block_of starts trace now frames block)
          (serve.after (goes_at at) (answer_of (reply_to (trace.events at) (given starts trace at frame)))))
          (sym (block_grew trace at frame acts))
          (subst (λ list. RunsBehind at (trace.events at) list) (sym acts_more)
          (item_step (trace.events at) refl acts (asked starts main trace obeys at frame (trace.events at) refl acts))))
      | inr none ↦
          subst (λ told. Runs (acts_at (suc at)) (block_at (suc at)) (behind begin told)) (sym (still starts trace at frame none))
          (subst (λ block. Runs (acts_at (suc at)) (block_of starts trace now frames block) (goes_at at)) (sym (block_still trace at frame none))
          (subst (λ list. Runs list (block_at at) (goes_at at))
          (sym (acts_more ∙ ap (λ list. acts_at at ++ list) (no_act frames frame (trace.events at) none) ∙ nothing_more (acts_at at))) before))
    ]

  first_step : RunsAt 0
  unfolding acts_before children replies behind
  first_step = Begins

  -- What the frame did before a position is the row's alone run up to there.
  pub alone_run : (at : ℕ) → at ≤ now → RunsAt at
  alone_run zero inside = first_step
  alone_run (suc at) inside = next_step at (omega (arith, inside)) (alone_run at (omega (arith, inside)))
