-- The children of a frame's block, as rows: where they have returned to a Sync, their rows have these values.
use Rattle.std.proofs.Common.{◌≡◌, inl, inr, ℕ, zero, suc, ◌<◌, ◌≤◌, List, [], ◌∷◌, ◌++◌, Option, Some, None, true, refl, sym, ◌∙◌, ap, subst, length, arith}
use Rattle.std.specs.Prelude.{slice_get, ℤ}
use Rattle.page_messages.specs.declared.closure.FrameId.{FrameId}
use Rattle.cilk_meaning.specs.Wants.{Want, Asks, Returns, Traps, Deposit}
use Rattle.span_tree.specs.Program.{Starts, Block, HaveReturned}
use Rattle.cluster_rules.specs.Histories.{row_number}
use Rattle.cluster_rules.specs.Lives as lives
use Rattle.backer_order.specs.Log.{Read, Write, Add, Print, Spawn, Sync, Event, Nothing, Acts, Tick, Drop, TakeUp, OwnFetch, OwnReconcile, Post, Took, End, Events}
use Rattle.backer_order.specs.Edges.{IsOn}
use Rattle.determinacy.specs.Replies.{Trace, by, children, children_after, value_in, deposits, want_of, want_at, Obeys}
use Rattle.determinacy.proofs.Rows.{either_bool, same_is, block_grew, block_still, settled}
use Rattle.word_order.proofs.Rows.{number_get}

-- ---- what has returned

pub value_back : (want : Option Want) (value : ℤ) → lives.value_in want ≡ Some value → want ≡ Some (Returns value)
value_back None value is = absurd cc
value_back (Some (Returns other)) value is = let same : other ≡ value = cc in ap (λ one. Some (Returns one)) same
value_back (Some (Asks request)) value is = absurd cc
value_back (Some (Traps kind)) value is = absurd cc

value_is : (want : Option Want) (value : ℤ) → want ≡ Some (Returns value) → value_in want ≡ value
unfolding value_in
value_is want value is = ap value_in is

module _ (starts : Starts) (trace : Trace) (now : ℕ) (frames : List FrameId) where
  abbrev pub returned_by : Option FrameId → Option ℤ
  returned_by None = None
  returned_by (Some frame) = lives.value_in (want_at starts trace now frame)

  -- what the frame of a row has returned, where it has
  abbrev pub returned : ℕ → Option ℤ
  returned row = returned_by (slice_get frames row)

  pub returned_is : (row : ℕ) (frame : FrameId) (value : ℤ) → slice_get frames row ≡ Some frame → want_at starts trace now frame ≡ Some (Returns value)
      → returned row ≡ Some value
  returned_is row frame value is want = ap returned_by is ∙ ap lives.value_in want

  -- the children of a block, the latest first, as targets and rows
  abbrev pub block_of : List FrameId → Block
  block_of [] = []
  block_of (latest ∷ earlier) = block_of earlier ++ (trace.target latest, row_number frames latest) ∷ []

  have_more : (block : Block) (given : List Deposit) (target : Option ℕ) (row : ℕ) (value : ℤ) → HaveReturned returned block given → returned row ≡ Some value →
      HaveReturned returned (block ++ (target, row) ∷ []) (given ++ (target, value) ∷ [])
  have_more [] [] target row value all is = (refl, is, tt)
  have_more [] (one ∷ given) target row value all is = absurd all
  have_more (child ∷ block) [] target row value all is = absurd all
  have_more (child ∷ block) (one ∷ given) target row value all is = (all.0, all.1, have_more block given target row value all.2 is)

module _ (starts : Starts) (main : ℕ) (trace : Trace) (obeys : Obeys starts main trace) (now : ℕ) (frames : List FrameId) where
  -- a child that has returned before, and has a row
  child_value : (at : ℕ) (child : FrameId) (value : ℤ) → at ≤ now → want_at starts trace at child ≡ Some (Returns value)
      → row_number frames child < length frames →
      returned starts trace now frames (row_number frames child) ≡ Some (value_in (want_at starts trace at child))
  child_value at child value inside want there =
      returned_is starts trace now frames (row_number frames child) child value (number_get frames child there)
      (ap (λ told. want_of starts (trace.instance child) told) (settled starts main trace obeys child at value want now inside).told ∙ want)
      ∙ ap Some (sym (value_is (want_at starts trace at child) value want))

  -- where all children have returned, their rows have what is given back
  pub have_returned : (at : ℕ) (block : List FrameId) → at ≤ now →
      ((child : FrameId) → IsOn child block → (row_number frames child < length frames) × (value : ℤ) × (want_at starts trace at child ≡ Some (Returns value)))
      →
      HaveReturned (returned starts trace now frames) (block_of starts trace now frames block)
      (deposits (λ child. (trace.target child, value_in (want_at starts trace at child))) block)
  unfolding deposits
  have_returned at [] inside each = tt
  have_returned at (latest ∷ earlier) inside each =
      let it = each latest (inl refl) in
      have_more starts trace now frames (block_of starts trace now frames earlier)
      (deposits (λ child. (trace.target child, value_in (want_at starts trace at child))) earlier)
      (trace.target latest) (row_number frames latest) (value_in (want_at starts trace at latest))
      (have_returned at earlier inside (λ child on. each child (inr on))) (child_value at latest it.1 inside it.2 it.0)

-- ---- the children of a block were spawned before

-- The frame spawned the child before.
pub record SpawnedBy (events : Events) (now : ℕ) (frame child : FrameId) : Type 0 where
  pub at : ℕ
  pub node : ℕ
  pub before : at < now
  pub is : events at ≡ Acts node frame (Spawn child)

spawned_later : (events : Events) (now : ℕ) (frame child : FrameId) → SpawnedBy events now frame child → SpawnedBy events (suc now) frame child
spawned_later events now frame child it = record { at = it.at; node = it.node; before = (let less = it.before in omega (arith, less)); is = it.is }

on_after : (trace : Trace) (now : ℕ) (frame child : FrameId) (earlier : List FrameId) (event : Event) → trace.events now ≡ event → by frame event ≡ true →
    IsOn child (children_after event earlier) → (IsOn child earlier → SpawnedBy trace.events now frame child) → SpawnedBy trace.events (suc now) frame child
unfolding children_after by
on_after trace now frame child earlier (Acts node actor (Spawn other)) is acts (inl same) rest =
    record {
      at = now;
      node = node;
      before = omega arith;
      is = is ∙ ap (λ one. Acts node one (Spawn other)) (same_is actor frame acts) ∙ ap (λ one. Acts node frame (Spawn one)) same;
    }
on_after trace now frame child earlier (Acts node actor (Spawn other)) is acts (inr on) rest = spawned_later trace.events now frame child (rest on)
on_after trace now frame child earlier (Acts node actor Sync) is acts on rest = absurd on
on_after trace now frame child earlier (Acts node actor (Read word value)) is acts on rest = spawned_later trace.events now frame child (rest on)
on_after trace now frame child earlier (Acts node actor (Write word value)) is acts on rest = spawned_later trace.events now frame child (rest on)
on_after trace now frame child earlier (Acts node actor (Add word old addend)) is acts on rest = spawned_later trace.events now frame child (rest on)
on_after trace now frame child earlier (Acts node actor (Print value)) is acts on rest = spawned_later trace.events now frame child (rest on)
on_after trace now frame child earlier (Tick node actor) is acts on rest = spawned_later trace.events now frame child (rest on)
on_after trace now frame child earlier Nothing is acts on rest = absurd cc
on_after trace now frame child earlier (Drop node page) is acts on rest = absurd cc
on_after trace now frame child earlier (TakeUp node actor) is acts on rest = absurd cc
on_after trace now frame child earlier (OwnFetch node page words) is acts on rest = absurd cc
on_after trace now frame child earlier (OwnReconcile node part) is acts on rest = absurd cc
on_after trace now frame child earlier (Post node receiver note) is acts on rest = absurd cc
on_after trace now frame child earlier (Took node post) is acts on rest = absurd cc
on_after trace now frame child earlier (End node) is acts on rest = absurd cc

none_at_first : (trace : Trace) (frame : FrameId) → children trace.events 0 frame ≡ []
unfolding children
none_at_first trace frame = refl

pub spawned_by : (trace : Trace) (now : ℕ) (frame child : FrameId) → IsOn child (children trace.events now frame) → SpawnedBy trace.events now frame child
spawned_by trace zero frame child on = absurd (subst (λ list. IsOn child list) (none_at_first trace frame) on)
spawned_by trace (suc now) frame child on = elim (either_bool (by frame (trace.events now))) [
  | inl acts ↦ on_after trace now frame child (children trace.events now frame) (trace.events now) refl acts
      (subst (λ list. IsOn child list) (block_grew trace now frame acts) on) (λ before. spawned_by trace now frame child before)
  | inr none ↦
      spawned_later trace.events now frame child (spawned_by trace now frame child (subst (λ list. IsOn child list) (block_still trace now frame none) on))
]
