-- An entry of the service stands for a frame of the trace: what it goes on with is the frame's state, and what it keeps is what the
-- children of its block gave back. One item more keeps that.
use Rattle.std.proofs.Common.{◌≡◌, ◌≢◌, ℕ, suc, inl, inr, ℤ, false, Some, List, [], sym, ◌∙◌, ap, subst, arith}
use Rattle.backer_order.specs.Edges.{IsOn}
use Rattle.backer_order.specs.Log.{Spawn, Event, Acts}
use Rattle.cilk_meaning.specs.Serve as serve
use Rattle.cilk_meaning.specs.Serve.{Entry, Parent, after, answered}
use Rattle.cilk_meaning.specs.Wants.{Returns, Answer}
use Rattle.determinacy.proofs.Rows.{either_bool, by_one, block_grew, block_still, given, Unchanged, unchanged, answers_no_return}
use Rattle.determinacy.specs.Replies.{Trace, answer_of, by, children_after, children, value_in, deposits, reply_to, want_at, state_at, Answers, SpawnedBefore, Born}
use Rattle.elision_trace.proofs.Childless.{state_grew, state_still}
use Rattle.elision_trace.proofs.Extending.{gives, as_deposit, deposits_none, deposits_same, child_spawned, block_same, state_same}
use Rattle.elision_trace.proofs.Sound.{Sound, OneMore, Allowed, instance_born}
use Rattle.elision_trace.specs.Tracing.{frame_at}
use Rattle.page_messages.specs.declared.closure.FrameId.{FrameId}
use Rattle.span_tree.specs.Program.{Starts}

pub record Stands (starts : Starts) (trace : Trace) (now : ℕ) (entry : Entry) (depth : ℕ) (block : List FrameId) : Type 0 where
  pub goes : entry.goes ≡ state_at starts trace now (frame_at entry.row)
  pub kept : entry.kept ≡ deposits (gives starts trace now) block
  pub returned : (child : FrameId) → IsOn child block → (value : ℤ) × (want_at starts trace now child ≡ Some (Returns value))
  pub spawned : (child : FrameId) → IsOn child block → SpawnedBefore trace.events now child
  pub born : Born trace.events now (frame_at entry.row)
  pub has_depth : (trace.instance (frame_at entry.row)).depth ≡ depth

-- ---- a child that was spawned just now

pub unborn : (starts : Starts) (main : ℕ) (trace : Trace) (now at node : ℕ) (parent child : FrameId) → Sound starts main trace now →
    trace.events at ≡ Acts node parent (Spawn child) → Unchanged starts trace child 0 (suc at)
unborn starts main trace now at node parent child sound is =
    unchanged starts trace child 0 (suc at) (omega arith) (λ later from to acts. elim (sound.born later child acts) [
      | inl of_main ↦ sound.not_main at node parent child is of_main
      | inr born ↦ let same = sound.fresh at born.at node born.node parent born.parent child is born.is in absurd (omega (arith, born.before))
    ])

module _ (starts : Starts) (main : ℕ) (trace more : Trace) (now : ℕ) (event : Event) (sound : Sound starts main trace now)
    (one : OneMore trace more now event) where
  -- ---- frames that do not act

  pub state_unmoved : (frame : FrameId) → Born trace.events now frame → by frame event ≡ false
      → state_at starts more (suc now) frame ≡ state_at starts trace now frame
  state_unmoved frame born quiet =
      state_still starts more now frame (ap (by frame) one.here ∙ quiet)
      ∙ state_same starts trace more now one.extends frame (instance_born starts main trace more now event sound one frame born)

  pub want_unmoved : (frame : FrameId) → Born trace.events now frame → by frame event ≡ false
      → want_at starts more (suc now) frame ≡ want_at starts trace now frame
  want_unmoved frame born quiet = ap (λ i. serve.now i) (state_unmoved frame born quiet)

  pub block_unmoved : (frame : FrameId) → by frame event ≡ false → children more.events (suc now) frame ≡ children trace.events now frame
  block_unmoved frame quiet =
      block_still more now frame (ap (by frame) one.here ∙ quiet) ∙ block_same starts trace more now one.extends frame

  gives_unmoved : (child : FrameId) → SpawnedBefore trace.events now child → by child event ≡ false
      → gives starts more (suc now) child ≡ gives starts trace now child
  gives_unmoved child spawned quiet =
      ap (λ i. as_deposit i (value_in (want_at starts more (suc now) child))) (one.extends.target child spawned)
      ∙ ap (λ i. as_deposit (trace.target child) (value_in i)) (want_unmoved child (inr spawned) quiet)

  module _ (runner : FrameId) (allowed : Allowed starts trace more now event runner) where
    pub quiet_other : (frame : FrameId) → frame ≢ runner → by frame event ≡ false
    quiet_other frame other = elim (either_bool (by frame event)) [
      | inl is ↦ absurd (other (by_one frame runner event is allowed.is))
      | inr quiet ↦ quiet
    ]

    -- what has returned does not act
    pub quiet_returned : (frame : FrameId) (value : ℤ) → want_at starts trace now frame ≡ Some (Returns value) → by frame event ≡ false
    quiet_returned frame value returns = elim (either_bool (by frame event)) [
      | inl is ↦
          let same = by_one frame runner event is allowed.is in
          let want : want_at starts trace now runner ≡ Some (Returns value) = ap (λ i. want_at starts trace now i) (sym same) ∙ returns in
          absurd (answers_no_return more event value (subst (λ i. Answers more event i) want allowed.answers))
      | inr quiet ↦ quiet
    ]

    spawned_on : (child : FrameId) → SpawnedBefore trace.events now child → SpawnedBefore more.events (suc now) child
    spawned_on child spawned = record {
      at = spawned.at;
      node = spawned.node;
      parent = spawned.parent;
      before = omega (arith, spawned.before);
      is = one.extends.events spawned.at spawned.before ∙ spawned.is;
    }

    born_on : (frame : FrameId) → Born trace.events now frame → Born more.events (suc now) frame
    born_on frame (inl of_main) = inl of_main
    born_on frame (inr spawned) = inr (spawned_on frame spawned)

    -- what is kept stays what the block gives back
    kept_on : (entry : Entry) (depth : ℕ) (block : List FrameId) → Stands starts trace now entry depth block →
        entry.kept ≡ deposits (gives starts more (suc now)) block
    kept_on entry depth block stands =
        stands.kept ∙ deposits_same (gives starts trace now) (gives starts more (suc now)) block
        (λ child on. (let value = stands.returned child on in sym (gives_unmoved child (stands.spawned child on) (quiet_returned child value.0 value.1))))

    returned_on : (entry : Entry) (depth : ℕ) (block : List FrameId) → Stands starts trace now entry depth block → (child : FrameId) → IsOn child block →
        (value : ℤ) × (want_at starts more (suc now) child ≡ Some (Returns value))
    returned_on entry depth block stands child on =
        let value = stands.returned child on in
        (value.0, want_unmoved child (inr (stands.spawned child on)) (quiet_returned child value.0 value.1) ∙ value.1)

    depth_on : (entry : Entry) (depth : ℕ) (block : List FrameId) → Stands starts trace now entry depth block
        → (more.instance (frame_at entry.row)).depth ≡ depth
    depth_on entry depth block stands =
        ap (λ i. i.depth) (instance_born starts main trace more now event sound one (frame_at entry.row) stands.born) ∙ stands.has_depth

    -- an entry that waits
    pub stands_still : (entry : Entry) (depth : ℕ) (block : List FrameId) → by (frame_at entry.row) event ≡ false → Stands starts trace now entry depth block →
        Stands starts more (suc now) entry depth block
    stands_still entry depth block quiet stands = record {
      goes = stands.goes ∙ sym (state_unmoved (frame_at entry.row) stands.born quiet);
      kept = kept_on entry depth block stands;
      returned = returned_on entry depth block stands;
      spawned = λ child on. spawned_on child (stands.spawned child on);
      born = born_on (frame_at entry.row) stands.born;
      has_depth = depth_on entry depth block stands;
    }

    -- ---- the frame that acts

    given_now : given starts more now runner ≡ given starts trace now runner
    given_now =
        ap (deposits (gives starts more now)) (block_same starts trace more now one.extends runner)
        ∙ deposits_same (gives starts more now) (gives starts trace now) (children trace.events now runner)
        (λ child on. given_child child (child_spawned trace now runner child on))
      where
        given_child : (child : FrameId) → SpawnedBefore trace.events now child → gives starts more now child ≡ gives starts trace now child
        given_child child spawned =
            ap (λ i. as_deposit i (value_in (want_at starts more now child))) (one.extends.target child spawned)
            ∙ ap (λ i. as_deposit (trace.target child) (value_in (serve.now i)))
            (state_same starts trace more now one.extends child (one.extends.instance child spawned))

    pub state_moved : state_at starts more (suc now) runner
        ≡ after (state_at starts trace now runner) (answer_of (reply_to event (given starts trace now runner)))
    state_moved =
        state_grew starts more now runner (ap (by runner) one.here ∙ allowed.is)
        ∙ ap (λ i. after i (answer_of (reply_to (more.events now) (given starts more now runner))))
        (state_same starts trace more now one.extends runner (instance_born starts main trace more now event sound one runner allowed.born))
        ∙ ap (λ i. after (state_at starts trace now runner) (answer_of (reply_to i (given starts more now runner)))) one.here
        ∙ ap (λ i. after (state_at starts trace now runner) (answer_of (reply_to event i))) given_now

    pub block_moved : children more.events (suc now) runner ≡ children_after event (children trace.events now runner)
    block_moved =
        block_grew more now runner (ap (by runner) one.here ∙ allowed.is)
        ∙ ap (λ i. children_after i (children more.events now runner)) one.here
        ∙ ap (children_after event) (block_same starts trace more now one.extends runner)

  module _ (entry : Entry) (depth : ℕ) (allowed : Allowed starts trace more now event (frame_at entry.row)) (answer : Answer)
      (told : answer_of (reply_to event (given starts trace now (frame_at entry.row))) ≡ answer) where
    abbrev row : FrameId
    row = frame_at entry.row

    goes_on : entry.goes ≡ state_at starts trace now row → after entry.goes answer ≡ state_at starts more (suc now) row
    goes_on goes =
        ap (λ i. after i answer) goes ∙ ap (λ i. after (state_at starts trace now row) i) (sym told) ∙ sym (state_moved row allowed)

    -- It keeps what it kept.
    pub stands_acted : (block : List FrameId) → Stands starts trace now entry depth block
        → Stands starts more (suc now) (answered answer entry.kept entry) depth block
    stands_acted block stands = record {
      goes = goes_on stands.goes;
      kept = kept_on row allowed entry depth block stands;
      returned = returned_on row allowed entry depth block stands;
      spawned = λ child on. spawned_on row allowed child (stands.spawned child on);
      born = born_on row allowed row stands.born;
      has_depth = depth_on row allowed entry depth block stands;
    }

    -- Behind a sync it keeps nothing.
    pub stands_synced : (block : List FrameId) → Stands starts trace now entry depth block → Stands starts more (suc now) (answered answer [] entry) depth []
    stands_synced block stands = record {
      goes = goes_on stands.goes;
      kept = sym (deposits_none (gives starts more (suc now)));
      returned = λ child on. absurd on;
      spawned = λ child on. absurd on;
      born = born_on row allowed row stands.born;
      has_depth = depth_on row allowed entry depth block stands;
    }
