-- Each frame that makes an act is `main` or was spawned: it stands on a stack, where the rules for stacks hold.
use Rattle.std.proofs.Common.{◌≡◌, ◌⊎◌, inl, inr, ℕ, List, [], ◌∷◌, sym, subst, arith}
use Rattle.page_messages.specs.declared.closure.FrameId.{FrameId}
use Rattle.backer_order.specs.Log.{main_id, Read, Write, Add, Print, Spawn, Sync, AddTo, Event, Acts, Post, Events, SharedMemory}
use Rattle.backer_order.specs.Rules.{Caching}
use Rattle.backer_order.specs.Edges.{Stacks, Returns, IsOn, Moves, StackRule, Spawned, Taken, Frames}
use Rattle.backer_order.proofs.Decide.{same_or_not}
use Rattle.backer_order.proofs.Lists.{mem_middle}
use Rattle.backer_order.proofs.Places as places
use Rattle.word_order.proofs.Made.{EachIsMade}

module _ (events : Events) (memory : SharedMemory) (caching : Caching events memory) (has_returned : Returns) (stack : Stacks)
    (frames : Frames events memory has_returned stack) (taken : Taken events stack) where
  born : (now node : ℕ) (frame : FrameId) → IsOn frame (stack now node) → (frame ≡ main_id) ⊎ ((birth : ℕ) × Spawned events frame birth)
  born now node frame on = elim ((places.all_invs events memory has_returned stack frames taken now now (omega arith)).born node frame on) [
    | inl same ↦ inl same
    | inr birth ↦ inr (birth.0, birth.2)
  ]

  moves_on : (now node : ℕ) (frame : FrameId) (top : List FrameId) → Moves has_returned stack now node frame top → IsOn frame (stack now node)
  moves_on now node frame top moves = subst (λ list. IsOn frame list) (sym moves.old) (mem_middle frame moves.above moves.below)

  rule_at : (now : ℕ) (event : Event) → events now ≡ event → StackRule memory has_returned stack now event
  rule_at now event is = subst (λ one. StackRule memory has_returned stack now one) is (frames.stacks now)

  pub each_is_made : EachIsMade events
  each_is_made now node frame (Read word value) is = born now node frame (moves_on now node frame [] (rule_at now (Acts node frame (Read word value)) is))
  each_is_made now node frame (Write word value) is = born now node frame (moves_on now node frame [] (rule_at now (Acts node frame (Write word value)) is))
  each_is_made now node frame (Print value) is = born now node frame (moves_on now node frame [] (rule_at now (Acts node frame (Print value)) is))
  each_is_made now node frame (Spawn child) is = born now node frame (moves_on now node frame (child ∷ []) (rule_at now (Acts node frame (Spawn child)) is))
  each_is_made now node frame Sync is = born now node frame (moves_on now node frame [] (rule_at now (Acts node frame Sync) is))
  each_is_made now node frame (Add word old addend) is = elim (same_or_not (memory.home (memory.page word)) node) [
    | inl same ↦ born now node frame (moves_on now node frame [] ((rule_at now (Acts node frame (Add word old addend)) is).own same))
    | inr other ↦ (
        let home = memory.home (memory.page word) in
        let serving = caching.adds.served node frame word old addend now is other in
        born serving.post node frame (moves_on serving.post node frame [] (rule_at serving.post (Post node home (AddTo frame word addend)) serving.posted)))
  ]
