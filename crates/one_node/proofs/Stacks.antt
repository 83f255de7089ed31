-- Stacks of executions depth first.
use Rattle.std.proofs.Common.{◌≡◌, ℕ, zero, suc, ◌⊎◌, inl, inr, ℤ, Bool, true, false, cond, Some, List, [], ◌∷◌, refl, sym, ◌∙◌, ap, subst, arith}
use Rattle.backer_order.specs.Edges.{IsOn}
use Rattle.backer_order.specs.Log.{main_id, Read, Write, Add, Print, Spawn, Sync, Event, Acts}
use Rattle.cilk_meaning.specs.Wants.{Returns}
use Rattle.determinacy.proofs.Completed.{complete}
use Rattle.determinacy.proofs.Items.{actor, item_is}
use Rattle.determinacy.proofs.Rows.{when_true, when_false, either_bool, born_more, SpawnedAt, not_by}
use Rattle.one_node.specs.Deep.{pop, pushed, is_return, returned, stack, live, IsTop}
use Rattle.determinacy.proofs.Twins.{Twins, Reads, Writes, Adds, Prints, Spawns, Syncs, Ticks}
use Rattle.determinacy.specs.Ending.{is_item}
use Rattle.determinacy.specs.Following.{Pairs}
use Rattle.determinacy.specs.Replies.{Trace, by, children_after, want_at, Born, Obeys}
use Rattle.page_messages.specs.declared.closure.FrameId.{FrameId}
use Rattle.span_tree.specs.Program.{Starts}

-- ---- lists

pub pop_all : (returned : FrameId → Bool) (frames : List FrameId) → ((frame : FrameId) → IsOn frame frames → returned frame ≡ true) → pop returned frames ≡ []
unfolding pop
pop_all returned [] each = refl
pop_all returned (top ∷ below) each =
    when_true (returned top) (pop returned below) (top ∷ below) (each top (inl refl)) ∙ pop_all returned below (λ frame on. each frame (inr on))

pub pop_on : (returned : FrameId → Bool) (frames : List FrameId) (frame : FrameId) → IsOn frame (pop returned frames) → IsOn frame frames
unfolding pop
pop_on returned [] frame on = on
pop_on returned (top ∷ below) frame on = elim (either_bool (returned top)) [
  | inl is ↦ inr (pop_on returned below frame (subst (λ i. IsOn frame i) (when_true (returned top) (pop returned below) (top ∷ below) is) on))
  | inr is ↦ subst (λ i. IsOn frame i) (when_false (returned top) (pop returned below) (top ∷ below) is) on
]

module _ (Related : FrameId → FrameId → Type 0) where
  -- where related ones have returned both or neither
  pub pops : (first second : FrameId → Bool) (firsts seconds : List FrameId) → Pairs Related firsts seconds →
      ((frame row : FrameId) → IsOn frame firsts → Related frame row → first frame ≡ second row) → Pairs Related (pop first firsts) (pop second seconds)
  unfolding pop
  pops first second [] [] pairs each = tt
  pops first second [] (row ∷ rows) pairs each = absurd pairs
  pops first second (frame ∷ frames) [] pairs each = absurd pairs
  pops first second (frame ∷ frames) (row ∷ rows) pairs each =
      let same = each frame row (inl refl) pairs.0 in
      let below = pops first second frames rows pairs.1 (λ i j on related. each i j (inr on) related) in
      elim (either_bool (first frame)) [
        | inl is ↦ subst (λ i. Pairs Related i (cond (second row) (pop second rows) (row ∷ rows)))
            (sym (when_true (first frame) (pop first frames) (frame ∷ frames) is))
            (subst (λ i. Pairs Related (pop first frames) i) (sym (when_true (second row) (pop second rows) (row ∷ rows) (sym same ∙ is))) below)
        | inr is ↦ subst (λ i. Pairs Related i (cond (second row) (pop second rows) (row ∷ rows)))
            (sym (when_false (first frame) (pop first frames) (frame ∷ frames) is))
            (subst (λ i. Pairs Related (frame ∷ frames) i) (sym (when_false (second row) (pop second rows) (row ∷ rows) (sym same ∙ is))) pairs)
      ]

  pub tops_pair : (firsts seconds : List FrameId) (frame row : FrameId) (frames rows : List FrameId) → Pairs Related firsts seconds →
      firsts ≡ frame ∷ frames → seconds ≡ row ∷ rows →
      Related frame row
  tops_pair firsts seconds frame row frames rows pairs is is_there = (subst (λ i. Pairs Related (frame ∷ frames) i) is_there
      (subst (λ i. Pairs Related i seconds) is pairs)).0

  pub top_none : (firsts seconds : List FrameId) (frame : FrameId) (frames : List FrameId) → Pairs Related firsts seconds → firsts ≡ frame ∷ frames →
      seconds ≡ [] → ⊥
  top_none firsts seconds frame frames pairs is none = subst (λ i. Pairs Related (frame ∷ frames) i) none (subst (λ i. Pairs Related i seconds) is pairs)

  pub none_top : (firsts seconds : List FrameId) (row : FrameId) (rows : List FrameId) → Pairs Related firsts seconds → firsts ≡ [] → seconds ≡ row ∷ rows → ⊥
  none_top firsts seconds row rows pairs none is = subst (λ i. Pairs Related [] i) is (subst (λ i. Pairs Related i seconds) none pairs)

  -- twins change related stacks as they change related blocks
  pub pushes : (event other : Event) → Twins event other → (block next_block : List FrameId) →
      Pairs Related (children_after event block) (children_after other next_block) →
      (firsts seconds : List FrameId) → Pairs Related firsts seconds → Pairs Related (pushed event firsts) (pushed other seconds)
  unfolding children_after pushed
  pushes event other (Reads node there frame row word value next) block next_block after firsts seconds pairs = pairs
  pushes event other (Writes node there frame row word value) block next_block after firsts seconds pairs = pairs
  pushes event other (Adds node there frame row word value next addend) block next_block after firsts seconds pairs = pairs
  pushes event other (Prints node there frame row value) block next_block after firsts seconds pairs = pairs
  pushes event other (Spawns node there frame row child next) block next_block after firsts seconds pairs = (after.0, pairs)
  pushes event other (Syncs node there frame row) block next_block after firsts seconds pairs = pairs
  pushes event other (Ticks node there frame row) block next_block after firsts seconds pairs = pairs

-- ---- the stack of an execution

pub no_item : (trace : Trace) (at : ℕ) → is_item (trace.events at) ≡ false → (frame : FrameId) → by frame (trace.events at) ≡ false
no_item trace at none frame = not_by trace frame at (λ acts. let is = item_is frame (trace.events at) acts in cc)

pushed_on : (trace : Trace) (at : ℕ) (event : Event) → trace.events at ≡ event → (frames : List FrameId) (frame : FrameId) → IsOn frame (pushed event frames) →
    IsOn frame frames ⊎ SpawnedAt trace at frame
unfolding pushed
pushed_on trace at (Acts node actor (Spawn child)) is frames frame (inl same) =
    inr (record { node = node; parent = actor; is = is ∙ ap (λ i. Acts node actor (Spawn i)) same })
pushed_on trace at (Acts node actor (Spawn child)) is frames frame (inr on) = inl on
pushed_on trace at (Acts node actor (Read word value)) is frames frame on = inl on
pushed_on trace at (Acts node actor (Write word value)) is frames frame on = inl on
pushed_on trace at (Acts node actor (Add word old addend)) is frames frame on = inl on
pushed_on trace at (Acts node actor (Print value)) is frames frame on = inl on
pushed_on trace at (Acts node actor Sync) is frames frame on = inl on
pushed_on trace at event is frames frame on = inl on

module _ (starts : Starts) (trace : Trace) where
  pub stack_item : (at : ℕ) → is_item (trace.events at) ≡ true → stack starts trace (suc at) ≡ pushed (trace.events at) (live starts trace at)
  unfolding stack
  stack_item at is = when_true (is_item (trace.events at)) (pushed (trace.events at) (pop (returned starts trace at) (stack starts trace at)))
      (stack starts trace at) is

  pub stack_other : (at : ℕ) → is_item (trace.events at) ≡ false → stack starts trace (suc at) ≡ stack starts trace at
  unfolding stack
  stack_other at is = when_false (is_item (trace.events at)) (pushed (trace.events at) (pop (returned starts trace at) (stack starts trace at)))
      (stack starts trace at) is

  pub stack_first : stack starts trace 0 ≡ main_id ∷ []
  unfolding stack
  stack_first = refl

  first_on : (frame : FrameId) → IsOn frame (main_id ∷ []) → Born trace.events 0 frame
  first_on frame (inl same) = inl (sym same)
  first_on frame (inr on) = absurd on

  pub on_stack : (now : ℕ) (frame : FrameId) → IsOn frame (stack starts trace now) → Born trace.events now frame
  on_stack zero frame on = first_on frame (subst (λ i. IsOn frame i) stack_first on)
  on_stack (suc now) frame on = elim (either_bool (is_item (trace.events now))) [
    | inr none ↦ born_more trace now (suc now) frame (omega arith) (on_stack now frame (subst (λ i. IsOn frame i) (stack_other now none) on))
    | inl is ↦ elim (pushed_on trace now (trace.events now) refl (live starts trace now) frame (subst (λ i. IsOn frame i) (stack_item now is) on)) [
      | inl old ↦ born_more trace now (suc now) frame (omega arith) (on_stack now frame (pop_on (returned starts trace now) (stack starts trace now) frame old))
      | inr spawned ↦ inr (record { at = now; node = spawned.node; parent = spawned.parent; before = omega arith; is = spawned.is })
    ]
  ]

  pub on_live : (now : ℕ) (frame : FrameId) → IsTop starts trace now frame → Born trace.events now frame
  on_live now frame top = on_stack now frame (pop_on (returned starts trace now) (stack starts trace now) frame
      (subst (λ i. IsOn frame i) (sym top.1) (inl refl)))

is_returned : (starts : Starts) (trace : Trace) (now : ℕ) (frame : FrameId) (value : ℤ) → want_at starts trace now frame ≡ Some (Returns value) →
    returned starts trace now frame ≡ true
unfolding is_return
is_returned starts trace now frame value returns = ap is_return returns

-- where `main` has returned no frame is left
pub nothing_live : (starts : Starts) (main : ℕ) (trace : Trace) → Obeys starts main trace → (now : ℕ) (result : ℤ) →
    want_at starts trace now main_id ≡ Some (Returns result) →
    live starts trace now ≡ []
nothing_live starts main trace obeys now result finished =
    pop_all (returned starts trace now) (stack starts trace now) (λ frame on.
    let (value, returns) = complete starts main trace obeys now result finished frame (on_stack starts trace now frame on) in
    is_returned starts trace now frame value returns)
