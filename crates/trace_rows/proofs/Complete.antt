-- Where main has returned, so has each frame: a frame returns behind the children of its last block, and they behind theirs.
use Rattle.std.proofs.Common.{◌≡◌, ◌⊎◌, inl, inr, ℕ, zero, suc, ◌<◌, List, Some, true, refl, sym, ◌∙◌, ap, subst, arith}
use Rattle.std.specs.Prelude.{slice_get, ℤ}
use Rattle.page_messages.specs.declared.closure.FrameId.{FrameId}
use Rattle.cilk_meaning.specs.Wants.{Returns}
use Rattle.span_tree.specs.History.{History}
use Rattle.span_tree.specs.Program.{Starts}
use Rattle.backer_order.specs.Log.{main_id, Read, Write, Add, Print, Spawn, Sync, Event, Nothing, Acts, Tick, Drop, TakeUp, OwnFetch, OwnReconcile, Post, Took, End}
use Rattle.backer_order.specs.Edges.{IsOn}
use Rattle.backer_order.proofs.Search.{Less3, Same3, More3, compare}
use Rattle.determinacy.specs.Replies.{Trace, by, children, children_after, want_of, want_at, Obeys}
use Rattle.determinacy.proofs.Rows.{either_bool, same_is, by_acts, block_grew, block_still, settled}
use Rattle.word_order.proofs.Places.{AreRows}
use Rattle.trace_rows.proofs.RunAs.{spawning, first_is_main}
use Rattle.trace_rows.specs.RunAs.{RunAs}

-- The frame has synced with the child in its block.
pub record Joined (trace : Trace) (now : ℕ) (frame child : FrameId) : Type 0 where
  pub at : ℕ
  pub node : ℕ
  pub before : at < now
  pub is : trace.events at ≡ Acts node frame Sync
  pub on : IsOn child (children trace.events at frame)

module _ (trace : Trace) (frame child : FrameId) where
  -- the child is in the frame's block, or was at a sync
  abbrev pub IsOut : ℕ → Type 0
  IsOut now = IsOn child (children trace.events now frame) ⊎ Joined trace now frame child

  joined_later : (now : ℕ) → Joined trace now frame child → Joined trace (suc now) frame child
  joined_later now it = record { at = it.at; node = it.node; before = (let less = it.before in omega (arith, less)); is = it.is; on = it.on }

  out_after : (now : ℕ) (event : Event) → trace.events now ≡ event → by frame event ≡ true → IsOn child (children trace.events now frame) →
      IsOn child (children_after event (children trace.events now frame)) ⊎ Joined trace (suc now) frame child
  unfolding children_after by
  out_after now (Acts node actor Sync) is acts on =
      inr (record { at = now; node = node; before = omega arith; is = is ∙ ap (λ one. Acts node one Sync) (same_is actor frame acts); on = on })
  out_after now (Acts node actor (Spawn other)) is acts on = inl (inr on)
  out_after now (Acts node actor (Read word value)) is acts on = inl on
  out_after now (Acts node actor (Write word value)) is acts on = inl on
  out_after now (Acts node actor (Add word old addend)) is acts on = inl on
  out_after now (Acts node actor (Print value)) is acts on = inl on
  out_after now (Tick node actor) is acts on = inl on
  out_after now Nothing is acts on = absurd cc
  out_after now (Drop node page) is acts on = absurd cc
  out_after now (TakeUp node actor) is acts on = absurd cc
  out_after now (OwnFetch node page words) is acts on = absurd cc
  out_after now (OwnReconcile node part) is acts on = absurd cc
  out_after now (Post node receiver note) is acts on = absurd cc
  out_after now (Took node post) is acts on = absurd cc
  out_after now (End node) is acts on = absurd cc

  out_next : (now : ℕ) → IsOut now → IsOut (suc now)
  out_next now (inr joined) = inr (joined_later now joined)
  out_next now (inl on) = elim (either_bool (by frame (trace.events now))) [
    | inl acts ↦ elim (out_after now (trace.events now) refl acts on) [
      | inl still ↦ inl (subst (λ list. IsOn child list) (sym (block_grew trace now frame acts)) still)
      | inr joined ↦ inr joined
    ]
    | inr none ↦ inl (subst (λ list. IsOn child list) (sym (block_still trace now frame none)) on)
  ]

  after_spawn : (event : Event) (node : ℕ) (earlier : List FrameId) → event ≡ Acts node frame (Spawn child) → IsOn child (children_after event earlier)
  unfolding children_after
  after_spawn event node earlier is = subst (λ one. IsOn child (children_after one earlier)) (sym is) (inl refl)

  -- what was spawned is out
  pub is_out : (at node now : ℕ) → trace.events at ≡ Acts node frame (Spawn child) → at < now → IsOut now
  is_out at node zero is less = absurd (omega (arith, less))
  is_out at node (suc now) is less = elim (compare at now) [
    | Less3 earlier ↦ out_next now (is_out at node now is earlier)
    | Same3 same ↦ inl (subst (λ list. IsOn child list)
        (sym (block_grew trace now frame (by_acts node frame (Spawn child) (trace.events now) (here same))))
        (after_spawn (trace.events now) node (children trace.events now frame) (here same)))
    | More3 more ↦ absurd (omega (arith, less, more))
  ]
    where
      here : at ≡ now → trace.events now ≡ Acts node frame (Spawn child)
      here same = subst (λ one. trace.events one ≡ Acts node frame (Spawn child)) same is

module _ (starts : Starts) (main : ℕ) (trace : Trace) (obeys : Obeys starts main trace) (now : ℕ) where
  abbrev pub HasReturned : FrameId → Type 0
  HasReturned frame = (value : ℤ) × (want_at starts trace now frame ≡ Some (Returns value))

  -- the children of what has returned have
  pub child_returned : (at node : ℕ) (frame child : FrameId) → at < now → trace.events at ≡ Acts node frame (Spawn child) → HasReturned frame
      → HasReturned child
  child_returned at node frame child inside is (value, want) = elim (is_out trace frame child at node now is inside) [
    | inl on ↦ absurd (obeys.no_children now frame child value want on)
    | inr joined ↦ (
        let gave = obeys.joined joined.at joined.node frame child joined.is joined.on in
        let less = joined.before in (
          gave.0,
          ap (λ told. want_of starts (trace.instance child) told)
              (settled starts main trace obeys child joined.at gave.0 gave.1 now (omega (arith, less))).told ∙ gave.1,
        ))
  ]

  module _ (frames : List FrameId) (history : History) (rows : AreRows trace.events now frames history) (runs : RunAs trace frames history)
      (main_returned : HasReturned main_id) where
    returned_within : (bound row : ℕ) (frame : FrameId) → row < bound → slice_get frames row ≡ Some frame → HasReturned frame
    returned_within zero row frame less is = absurd (omega (arith, less))
    returned_within (suc bound) zero frame less is =
        subst HasReturned (sym (first_is_main starts main trace obeys now frames history rows runs frame is)) main_returned
    returned_within (suc bound) (suc row) frame less is =
        let it = spawning starts main trace obeys now frames history rows row frame is in
        let before = it.before in
        child_returned it.at it.node it.parent frame it.inside it.is (returned_within bound it.place.row it.parent (omega (arith, before, less)) it.number)

    -- The frame of each row has returned.
    pub each_returned : (row : ℕ) (frame : FrameId) → slice_get frames row ≡ Some frame → HasReturned frame
    each_returned row frame is = returned_within (suc row) row frame (omega arith) is
