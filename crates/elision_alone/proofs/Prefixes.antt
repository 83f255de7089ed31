-- A trace that goes on as another does up to a position has the same stacks there.
use Rattle.std.proofs.Common.{◌≡◌, ℕ, zero, suc, inl, inr, Bool, true, false, List, [], ◌∷◌, refl, sym, ◌∙◌, ap, arith}
use Rattle.backer_order.specs.Edges.{IsOn}
use Rattle.backer_order.specs.Log.{main_id}
use Rattle.determinacy.proofs.Rows.{either_bool, when_true, when_false}
use Rattle.determinacy.specs.Ending.{is_item}
use Rattle.determinacy.specs.Replies.{Trace, Born}
use Rattle.elision_trace.proofs.Extending.{Extends, up_to, want_same}
use Rattle.one_node.proofs.Stacks.{stack_first, stack_item, stack_other, on_stack}
use Rattle.one_node.specs.Deep.{pop, pushed, is_return, returned, stack, live}
use Rattle.page_messages.specs.declared.closure.FrameId.{FrameId}
use Rattle.span_tree.specs.Program.{Starts}

-- what has not returned stays on top
pub pop_none : (returned : FrameId → Bool) (top : FrameId) (below : List FrameId) → returned top ≡ false → pop returned (top ∷ below) ≡ top ∷ below
unfolding pop
pop_none returned top below stays = when_false (returned top) (pop returned below) (top ∷ below) stays

-- what has returned does not
pub pop_one : (returned : FrameId → Bool) (top : FrameId) (below : List FrameId) → returned top ≡ true → pop returned (top ∷ below) ≡ pop returned below
unfolding pop
pop_one returned top below is = when_true (returned top) (pop returned below) (top ∷ below) is

-- Of one stack the same is left where the same frames of it have returned.
pub pop_same : (returned other : FrameId → Bool) (frames : List FrameId) → ((frame : FrameId) → IsOn frame frames → other frame ≡ returned frame) →
    pop other frames ≡ pop returned frames
unfolding pop
pop_same returned other [] same = refl
pop_same returned other (top ∷ below) same = elim (either_bool (returned top)) [
  | inl is ↦
      when_true (other top) (pop other below) (top ∷ below) (same top (inl refl) ∙ is)
      ∙ pop_same returned other below (λ frame on. same frame (inr on))
      ∙ sym (when_true (returned top) (pop returned below) (top ∷ below) is)
  | inr is ↦
      when_false (other top) (pop other below) (top ∷ below) (same top (inl refl) ∙ is)
      ∙ sym (when_false (returned top) (pop returned below) (top ∷ below) is)
]

module _ (starts : Starts) (first second : Trace) (main_same : second.instance main_id ≡ first.instance main_id) where
  born_same : (now : ℕ) → Extends first second now → (frame : FrameId) → Born first.events now frame → second.instance frame ≡ first.instance frame
  born_same now extends frame (inl of_main) = ap (λ i. second.instance i) of_main ∙ main_same ∙ ap (λ i. first.instance i) (sym of_main)
  born_same now extends frame (inr spawned) = extends.instance frame spawned

  live_from : (now : ℕ) → Extends first second now → stack starts second now ≡ stack starts first now → live starts second now ≡ live starts first now
  live_from now extends same =
      ap (pop (returned starts second now)) same
      ∙ pop_same (returned starts first now) (returned starts second now) (stack starts first now)
      (λ frame on. ap is_return (want_same starts first second now extends frame (born_same now extends frame (on_stack starts first now frame on))))

  stack_same : (now : ℕ) → Extends first second now → stack starts second now ≡ stack starts first now
  stack_same zero extends = stack_first starts second ∙ sym (stack_first starts first)
  stack_same (suc now) extends =
      let fewer = up_to first second (suc now) now (omega arith) extends in
      let here = extends.events now (omega arith) in
      let before = stack_same now fewer in
      elim (either_bool (is_item (first.events now))) [
        | inl is ↦
            stack_item starts second now (ap is_item here ∙ is)
            ∙ ap (λ i. pushed i (live starts second now)) here
            ∙ ap (pushed (first.events now)) (live_from now fewer before)
            ∙ sym (stack_item starts first now is)
        | inr none ↦ stack_other starts second now (ap is_item here ∙ none) ∙ before ∙ sym (stack_other starts first now none)
      ]

  -- the frames that have not returned are the same, in the same order
  pub live_same : (now : ℕ) → Extends first second now → live starts second now ≡ live starts first now
  live_same now extends = live_from now extends (stack_same now extends)
