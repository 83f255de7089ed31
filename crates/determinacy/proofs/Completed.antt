-- Where `main` has returned, each frame has.
use Rattle.std.proofs.Common.{◌≡◌, ℕ, zero, suc, ◌≤◌, inl, inr, ℤ, Some, sym, subst, arith}
use Rattle.backer_order.proofs.Search.{Less3, Same3, More3, compare}
use Rattle.backer_order.specs.Log.{main_id, Spawn}
use Rattle.cilk_meaning.specs.Wants.{Returns}
use Rattle.determinacy.proofs.Carried.{child_ended}
use Rattle.determinacy.proofs.Rows as rows
use Rattle.determinacy.proofs.Rows.{by_acts, born_more}
use Rattle.determinacy.specs.Following.{Complete}
use Rattle.determinacy.specs.Replies.{Trace, want_at, SpawnedBefore, Born, Obeys}
use Rattle.page_messages.specs.declared.closure.FrameId.{FrameId}
use Rattle.span_tree.specs.Program.{Starts}

module _ (starts : Starts) (main : ℕ) (trace : Trace) (obeys : Obeys starts main trace) (finish : ℕ) (result : ℤ)
    (finished : want_at starts trace finish main_id ≡ Some (Returns result)) where
  record Returned (frame : FrameId) : Type 0 where
    at : ℕ
    before : at ≤ finish
    value : ℤ
    returns : want_at starts trace at frame ≡ Some (Returns value)

  child_returned : (frame : FrameId) (now : ℕ) → (born : SpawnedBefore trace.events now frame) → Returned (born.parent) → Returned frame
  child_returned frame now born parent =
      let acts = by_acts born.node born.parent (Spawn frame) (trace.events born.at) born.is in
      elim (compare born.at parent.at) [
        | Same3 same ↦ absurd (rows.no_more starts main trace obeys born.parent parent.at parent.value parent.returns born.at (omega arith) acts)
        | More3 l ↦ absurd (rows.no_more starts main trace obeys born.parent parent.at parent.value parent.returns born.at (omega arith) acts)
        | Less3 l ↦
            let ended = child_ended starts main trace obeys born.parent frame born.at born.node parent.at parent.value born.is l parent.returns in
            record { at = ended.at; before = omega (arith, ended.before, parent.before); value = ended.value; returns = ended.returns }
      ]

  all_returned : (now : ℕ) (frame : FrameId) → Born trace.events now frame → Returned frame
  all_returned now frame (inl of_main) =
      record {
        at = finish;
        before = omega arith;
        value = result;
        returns = subst (λ i. want_at starts trace finish i ≡ Some (Returns result)) (sym of_main) finished;
      }
  all_returned zero frame (inr born) = absurd (omega (arith, born.before))
  all_returned (suc now) frame (inr born) =
      child_returned frame (suc now) born (all_returned now born.parent
      (born_more trace born.at now born.parent (omega (arith, born.before))
      (obeys.born born.at born.parent (by_acts born.node born.parent (Spawn frame) (trace.events born.at) born.is))))

  pub complete : Complete starts trace finish
  complete frame born =
      let returned = all_returned finish frame born in
      (returned.value, rows.still_returned starts main trace obeys frame returned.at returned.value returned.returns finish returned.before)
