-- What precedes stands before.
use Rattle.std.proofs.Common.{◌≡◌, ℕ, ◌<◌, ◌≤◌, ◌⊎◌, inl, inr, ℤ, Some, arith}
use Rattle.backer_order.proofs.Search.{Less3, Same3, More3, compare}
use Rattle.backer_order.specs.Dag.{Under, At, Below, SyncAt, Across, Precedes}
use Rattle.backer_order.specs.Edges.{ActOf}
use Rattle.backer_order.specs.Log.{Spawn}
use Rattle.cilk_meaning.specs.Wants.{Returns}
use Rattle.determinacy.proofs.Blocks.{by_act}
use Rattle.determinacy.proofs.Carried.{act_of_under, child_ended, synced_ended}
use Rattle.determinacy.proofs.Rows as rows
use Rattle.determinacy.specs.Replies.{Trace, want_at, Obeys}
use Rattle.page_messages.specs.declared.closure.FrameId.{FrameId}
use Rattle.span_tree.specs.Program.{Starts}

module _ (starts : Starts) (main : ℕ) (trace : Trace) (obeys : Obeys starts main trace) where
  -- what lies below an act of a frame is not before it
  pub under_after : (act : ℕ) (frame : FrameId) (at : ℕ) → Under trace.events act frame at → at ≤ act
  under_after act frame at (At is same) = omega (arith, same)
  under_after act frame at (Below node child next is under) =
      let born = rows.born_before starts main trace obeys at node frame child next is
      (by_act trace child next (act_of_under trace.events act child next under)) in
      let after = under_after act child next under in
      omega arith

  own_before : (frame : FrameId) (at now : ℕ) (value : ℤ) → ActOf trace.events frame at → want_at starts trace now frame ≡ Some (Returns value) → at < now
  own_before frame at now value is returns = elim (compare at now) [
    | Less3 l ↦ l
    | Same3 same ↦ absurd (rows.no_more starts main trace obeys frame now value returns at (omega arith) (by_act trace frame at is))
    | More3 l ↦ absurd (rows.no_more starts main trace obeys frame now value returns at (omega arith) (by_act trace frame at is))
  ]

  -- and stands before the frame has returned
  pub returned_before : (act : ℕ) (frame : FrameId) (at : ℕ) → Under trace.events act frame at → (now : ℕ) (value : ℤ) →
      want_at starts trace now frame ≡ Some (Returns value) → act < now
  returned_before act frame at (At is same) now value returns = let before = own_before frame at now value is returns in omega (arith, same)
  returned_before act frame at (Below node child next is under) now value returns =
      let before = own_before frame at now value (node, Spawn child, is) returns in
      let ended = child_ended starts main trace obeys frame child at node now value is before returns in
      let below = returned_before act child next under ended.at ended.value ended.returns in
      omega (arith, ended.before)

  later_own : (act at : ℕ) (dag : Across trace.events act at) → act ≡ dag.act → act < at
  later_own act at dag same = let after = under_after at dag.frame dag.later_act dag.second in omega (arith, same, dag.order)

  later_across : (act at : ℕ) (dag : Across trace.events act at) → Under trace.events act (dag.frame) (dag.act) →
      (act ≡ dag.act) ⊎ SyncAt trace.events (dag.frame) (dag.act) (dag.later_act) → act < at
  later_across act at dag under (inl same) = later_own act at dag same
  later_across act at dag (At is same) (inr sync) = later_own act at dag same
  later_across act at dag (Below node child next is under) (inr sync) =
      let after = under_after at dag.frame dag.later_act dag.second in
      let ended = synced_ended starts main trace obeys dag.frame child dag.act node sync.at sync.node is sync.after sync.is in
      let below = returned_before act child next under ended.at ended.value ended.returns in
      omega (arith, ended.before, sync.before)

  pub later : (act at : ℕ) → Precedes trace.events act at → act < at
  later act at (inl dag) = later_across act at dag dag.first dag.serial
  later act at (inr dag) =
      let born = rows.born_before starts main trace obeys act dag.node dag.frame dag.child dag.act dag.is
      (by_act trace dag.child dag.act (act_of_under trace.events at dag.child dag.act dag.below)) in
      let after = under_after at dag.child dag.act dag.below in
      omega arith
