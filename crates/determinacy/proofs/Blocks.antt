-- The children of a frame's block: it spawned each, and up to the next Sync a spawned child is one of them.
use Rattle.std.proofs.Common.{◌≡◌, ℕ, zero, suc, ◌<◌, inl, inr, true, List, [], refl, sym, subst, arith}
use Rattle.backer_order.proofs.Decide.{same_frame_or_not}
use Rattle.backer_order.proofs.Search.{Decided, Less3, Same3, More3, compare}
use Rattle.backer_order.specs.Edges.{IsOn, ActOf}
use Rattle.backer_order.specs.Log.{Read, Write, Add, Print, Spawn, Sync, Event, Acts}
use Rattle.backer_order.specs.Moments.{NoneBetween}
use Rattle.determinacy.proofs.Rows.{by_acts, by_one, either_bool, block_grew, block_still}
use Rattle.determinacy.specs.Replies.{Trace, by, children_after, children}
use Rattle.page_messages.specs.declared.closure.FrameId.{FrameId}

pub by_act : (trace : Trace) (frame : FrameId) (at : ℕ) → ActOf trace.events frame at → by frame (trace.events at) ≡ true
by_act trace frame at (node, act, is) = by_acts node frame act (trace.events at) is

-- the frame spawned the child before `now`
pub record ItsSpawn (trace : Trace) (now : ℕ) (frame child : FrameId) : Type 0 where
  pub at : ℕ
  pub node : ℕ
  pub before : at < now
  pub is : trace.events at ≡ Acts node frame (Spawn child)

later_spawn : (trace : Trace) (now : ℕ) (frame child : FrameId) → ItsSpawn trace now frame child → ItsSpawn trace (suc now) frame child
later_spawn trace now frame child spawn = record { at = spawn.at; node = spawn.node; before = omega (arith, spawn.before); is = spawn.is }

spawn_here : (trace : Trace) (now node : ℕ) (frame actor child next : FrameId) → trace.events now ≡ Acts node actor (Spawn next) →
    by frame (trace.events now) ≡ true → next ≡ child → ItsSpawn trace (suc now) frame child
spawn_here trace now node frame actor child next is acts same =
    let actors = by_one actor frame (trace.events now) (by_acts node actor (Spawn next) (trace.events now) is) acts in
    record {
      at = now;
      node = node;
      before = omega arith;
      is = subst (λ i. trace.events now ≡ Acts node i (Spawn child)) actors
          (subst (λ i. trace.events now ≡ Acts node actor (Spawn i)) same is);
    }

child_at : (trace : Trace) (now : ℕ) (frame child : FrameId) (event : Event) → trace.events now ≡ event → by frame (trace.events now) ≡ true →
    (IsOn child (children trace.events now frame) → ItsSpawn trace (suc now) frame child) →
    IsOn child (children_after event (children trace.events now frame)) →
    ItsSpawn trace (suc now) frame child
unfolding children_after
child_at trace now frame child (Acts node actor (Spawn next)) is acts old (inl same) = spawn_here trace now node frame actor child next is acts same
child_at trace now frame child (Acts node actor (Spawn next)) is acts old (inr on) = old on
child_at trace now frame child (Acts node actor Sync) is acts old on = absurd on
child_at trace now frame child (Acts node actor (Read word value)) is acts old on = old on
child_at trace now frame child (Acts node actor (Write word value)) is acts old on = old on
child_at trace now frame child (Acts node actor (Add word value addend)) is acts old on = old on
child_at trace now frame child (Acts node actor (Print value)) is acts old on = old on
child_at trace now frame child event is acts old on = old on

pub no_children_first : (trace : Trace) (frame : FrameId) → children trace.events 0 frame ≡ []
unfolding children
no_children_first trace frame = refl

-- a child of the block was spawned by the frame
pub child_born : (trace : Trace) (now : ℕ) (frame child : FrameId) → IsOn child (children trace.events now frame) → ItsSpawn trace now frame child
child_born trace zero frame child on = absurd (subst (λ i. IsOn child i) (no_children_first trace frame) on)
child_born trace (suc now) frame child on = elim (either_bool (by frame (trace.events now))) [
  | inr none ↦ later_spawn trace now frame child (child_born trace now frame child (subst (λ i. IsOn child i) (block_still trace now frame none) on))
  | inl acts ↦ child_at trace now frame child (trace.events now) refl acts (λ old. later_spawn trace now frame child (child_born trace now frame child old))
      (subst (λ i. IsOn child i) (block_grew trace now frame acts) on)
]

-- ---- up to the next Sync

abbrev pub SyncOf : Trace → FrameId → ℕ → Type 0
SyncOf trace frame at = (node : ℕ) × (trace.events at ≡ Acts node frame Sync)

sync_at : (trace : Trace) (frame : FrameId) (at : ℕ) (event : Event) → trace.events at ≡ event → Decided (SyncOf trace frame at)
sync_at trace frame at (Acts node actor Sync) is = elim (same_frame_or_not actor frame) [
  | inl same ↦ inl (node, subst (λ i. trace.events at ≡ Acts node i Sync) same is)
  | inr other ↦ inr (λ sync. let there = sync.1 in other cc)
]
sync_at trace frame at event is = inr (λ sync. let there = sync.1 in cc)

pub decide_sync : (trace : Trace) (frame : FrameId) (at : ℕ) → Decided (SyncOf trace frame at)
decide_sync trace frame at = sync_at trace frame at (trace.events at) refl

its_sync : (trace : Trace) (at node : ℕ) (frame actor : FrameId) → trace.events at ≡ Acts node actor Sync → by frame (trace.events at) ≡ true →
    SyncOf trace frame at
its_sync trace at node frame actor is acts =
    (node, subst (λ i. trace.events at ≡ Acts node i Sync) (by_one actor frame (trace.events at) (by_acts node actor Sync (trace.events at) is) acts) is)

child_kept : (trace : Trace) (at : ℕ) (frame child : FrameId) (event : Event) → trace.events at ≡ event → (SyncOf trace frame at → ⊥) →
    by frame (trace.events at) ≡ true → (block : List FrameId) → IsOn child block → IsOn child (children_after event block)
unfolding children_after
child_kept trace at frame child (Acts node actor Sync) is none acts block on = absurd (none (its_sync trace at node frame actor is acts))
child_kept trace at frame child (Acts node actor (Spawn next)) is none acts block on = inr on
child_kept trace at frame child (Acts node actor (Read word value)) is none acts block on = on
child_kept trace at frame child (Acts node actor (Write word value)) is none acts block on = on
child_kept trace at frame child (Acts node actor (Add word value addend)) is none acts block on = on
child_kept trace at frame child (Acts node actor (Print value)) is none acts block on = on
child_kept trace at frame child event is none acts block on = on

child_new : (child : FrameId) (node : ℕ) (frame : FrameId) (block : List FrameId) → IsOn child (children_after (Acts node frame (Spawn child)) block)
unfolding children_after
child_new child node frame block = inl refl

pub child_stays : (trace : Trace) (frame child : FrameId) (at node now : ℕ) → trace.events at ≡ Acts node frame (Spawn child) → at < now →
    NoneBetween (SyncOf trace frame) at now → IsOn child (children trace.events now frame)
child_stays trace frame child at node zero is before none = absurd (omega arith)
child_stays trace frame child at node (suc now) is before none = elim (compare at now) [
  | More3 l ↦ absurd (omega arith)
  | Same3 same ↦
      let here = subst (λ i. IsOn child (children_after i (children trace.events at frame))) (sym is)
      (child_new child node frame (children trace.events at frame)) in
      subst (λ i. IsOn child (children trace.events (suc i) frame)) same
      (subst (λ i. IsOn child i) (sym (block_grew trace at frame (by_acts node frame (Spawn child) (trace.events at) is))) here)
  | Less3 l ↦
      let on = child_stays trace frame child at node now is l (λ i after up_to sync. none i after (omega arith) sync) in
      elim (either_bool (by frame (trace.events now))) [
        | inr still ↦ subst (λ i. IsOn child i) (sym (block_still trace now frame still)) on
        | inl acts ↦ subst (λ i. IsOn child i) (sym (block_grew trace now frame acts))
            (child_kept trace now frame child (trace.events now) refl (none now l (omega arith)) acts (children trace.events now frame) on)
      ]
]
