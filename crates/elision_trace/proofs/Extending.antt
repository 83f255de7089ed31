-- A trace that goes on as another does up to a position tells its frames the same up to there.
use Rattle.std.proofs.Common.{◌≡◌, ℕ, zero, suc, ◌<◌, ◌≤◌, ◌⊎◌, inl, inr, ℤ, Option, List, [], ◌∷◌, ◌++◌, refl, sym, ◌∙◌, ap, subst, arith}
use Rattle.backer_order.proofs.Search.{Less3, Same3, More3, compare}
use Rattle.backer_order.specs.Edges.{IsOn}
use Rattle.backer_order.specs.Log.{Read, Write, Add, Print, Spawn, Sync, Event, Nothing, Acts, Tick, Drop, TakeUp, OwnFetch, OwnReconcile, Post, Took, End, Events}
use Rattle.cilk_meaning.specs.Wants.{Deposit}
use Rattle.determinacy.proofs.Rows.{either_bool, grew, still, block_grew, block_still, given}
use Rattle.determinacy.specs.Replies.{Trace, by, children_after, children, value_in, deposits, reply_to, want_of, replies, want_at, state_of, state_at, SpawnedBefore}
use Rattle.page_messages.specs.declared.closure.FrameId.{FrameId}
use Rattle.span_tree.specs.Program.{Starts}

-- ---- lists of deposits

pub deposits_more : (gives : FrameId → Deposit) (latest : FrameId) (earlier : List FrameId) →
    deposits gives (latest ∷ earlier) ≡ deposits gives earlier ++ gives latest ∷ []
unfolding deposits
deposits_more gives latest earlier = refl

pub deposits_none : (gives : FrameId → Deposit) → deposits gives [] ≡ []
unfolding deposits
deposits_none gives = refl

pub deposits_same : (gives other : FrameId → Deposit) (frames : List FrameId) → ((frame : FrameId) → IsOn frame frames → gives frame ≡ other frame) →
    deposits gives frames ≡ deposits other frames
deposits_same gives other [] same = deposits_none gives ∙ sym (deposits_none other)
deposits_same gives other (latest ∷ earlier) same =
    let front = deposits_same gives other earlier (λ frame on. same frame (inr on)) in
    deposits_more gives latest earlier
    ∙ ap (λ i. i ++ gives latest ∷ []) front
    ∙ ap (λ i. deposits other earlier ++ i ∷ []) (same latest (inl refl))
    ∙ sym (deposits_more other latest earlier)

-- ---- children were spawned

spawned_more : (events : Events) (now : ℕ) (frame : FrameId) → SpawnedBefore events now frame → SpawnedBefore events (suc now) frame
spawned_more events now frame before =
    record { at = before.at; node = before.node; parent = before.parent; before = omega (arith, before.before); is = before.is }

-- a child of the block behind an event is one before it, or is spawned by it
child_or : (event : Event) (frames : List FrameId) (child : FrameId) → IsOn child (children_after event frames) →
    IsOn child frames ⊎ ((node : ℕ) × (parent : FrameId) × (event ≡ Acts node parent (Spawn child)))
unfolding children_after
child_or (Acts node frame (Spawn spawned)) frames child (inl same) = inr (node, frame, ap (λ i. Acts node frame (Spawn i)) same)
child_or (Acts node frame (Spawn spawned)) frames child (inr on) = inl on
child_or (Acts node frame Sync) frames child on = absurd on
child_or (Acts node frame (Read word value)) frames child on = inl on
child_or (Acts node frame (Write word value)) frames child on = inl on
child_or (Acts node frame (Add word old addend)) frames child on = inl on
child_or (Acts node frame (Print value)) frames child on = inl on
child_or (Tick node frame) frames child on = inl on
child_or Nothing frames child on = inl on
child_or (Drop node page) frames child on = inl on
child_or (OwnFetch node page words) frames child on = inl on
child_or (OwnReconcile node part) frames child on = inl on
child_or (TakeUp node frame) frames child on = inl on
child_or (Post node receiver note) frames child on = inl on
child_or (Took node post) frames child on = inl on
child_or (End node) frames child on = inl on

none_first : (events : Events) (frame : FrameId) → children events 0 frame ≡ []
unfolding children
none_first events frame = refl

module _ (trace : Trace) where
  pub child_spawned : (now : ℕ) (frame child : FrameId) → IsOn child (children trace.events now frame) → SpawnedBefore trace.events now child
  child_spawned zero frame child on =
      let none : IsOn child [] = subst (λ i. IsOn child i) (none_first trace.events frame) on in absurd none
  child_spawned (suc now) frame child on = elim (either_bool (by frame (trace.events now))) [
    | inr quiet ↦
        let before : IsOn child (children trace.events now frame) = subst (λ i. IsOn child i) (block_still trace now frame quiet) on in
        spawned_more trace.events now child (child_spawned now frame child before)
    | inl is ↦
        let behind : IsOn child (children_after (trace.events now) (children trace.events now frame)) =
        subst (λ i. IsOn child i) (block_grew trace now frame is) on in
        elim (child_or (trace.events now) (children trace.events now frame) child behind) [
          | inl before ↦ spawned_more trace.events now child (child_spawned now frame child before)
          | inr spawned ↦ record { at = now; node = spawned.0; parent = spawned.1; before = omega arith; is = spawned.2 }
        ]
  ]

-- The second goes on as the first does, up to this position.
pub record Extends (first second : Trace) (now : ℕ) : Type 0 where
  pub events : (at : ℕ) → at < now → second.events at ≡ first.events at
  pub instance : (child : FrameId) → SpawnedBefore first.events now child → second.instance child ≡ first.instance child
  pub target : (child : FrameId) → SpawnedBefore first.events now child → second.target child ≡ first.target child

shorter : (first second : Trace) (now : ℕ) → Extends first second (suc now) → Extends first second now
shorter first second now extends = record {
  events = λ at before. extends.events at (omega arith);
  instance = λ child spawned. extends.instance child (spawned_more first.events now child spawned);
  target = λ child spawned. extends.target child (spawned_more first.events now child spawned);
}

pub up_to : (first second : Trace) (now earlier : ℕ) → earlier ≤ now → Extends first second now → Extends first second earlier
up_to first second zero earlier inside extends =
    let same : 0 ≡ earlier = omega arith in subst (λ i. Extends first second i) same extends
up_to first second (suc now) earlier inside extends = elim (later_or earlier now inside) [
  | inl same ↦ subst (λ i. Extends first second i) (sym same) extends
  | inr before ↦ up_to first second now earlier before (shorter first second now extends)
]
  where
    later_or : (earlier now : ℕ) → earlier ≤ suc now → (earlier ≡ suc now) ⊎ (earlier ≤ now)
    later_or earlier now inside = elim (compare earlier (suc now)) [
      | Less3 l ↦ inr (omega arith)
      | Same3 same ↦ inl same
      | More3 l ↦ absurd (omega arith)
    ]

-- what a child gives back
abbrev pub gives : Starts → Trace → ℕ → FrameId → Deposit
gives starts trace now child = (trace.target child, value_in (want_at starts trace now child))

abbrev pub as_deposit : Option ℕ → ℤ → Deposit
as_deposit target value = (target, value)

-- a child gives back the same, where it was told the same
given_same : (starts : Starts) (first second : Trace) (now : ℕ) (child : FrameId) → second.instance child ≡ first.instance child →
    second.target child ≡ first.target child → replies starts second now child ≡ replies starts first now child →
    gives starts second now child ≡ gives starts first now child
given_same starts first second now child instance target told =
    ap (λ i. as_deposit i (value_in (want_at starts second now child))) target
    ∙ ap (λ i. as_deposit (first.target child) (value_in (want_of starts i (replies starts second now child)))) instance
    ∙ ap (λ i. as_deposit (first.target child) (value_in (want_of starts (first.instance child) i))) told

none_told : (starts : Starts) (trace : Trace) (frame : FrameId) → replies starts trace 0 frame ≡ []
unfolding replies
none_told starts trace frame = refl

module _ (starts : Starts) (first second : Trace) where
  pub block_same : (now : ℕ) → Extends first second now → (frame : FrameId) → children second.events now frame ≡ children first.events now frame
  block_same zero extends frame = none_first second.events frame ∙ sym (none_first first.events frame)
  block_same (suc now) extends frame =
      let here = extends.events now (omega arith) in
      let before = block_same now (shorter first second now extends) frame in
      elim (either_bool (by frame (first.events now))) [
        | inl is ↦
            block_grew second now frame (ap (by frame) here ∙ is)
            ∙ ap (λ i. children_after i (children second.events now frame)) here
            ∙ ap (λ i. children_after (first.events now) i) before
            ∙ sym (block_grew first now frame is)
        | inr quiet ↦ block_still second now frame (ap (by frame) here ∙ quiet) ∙ before ∙ sym (block_still first now frame quiet)
      ]

  pub told_same : (now : ℕ) → Extends first second now → (frame : FrameId) → replies starts second now frame ≡ replies starts first now frame
  told_same zero extends frame = none_told starts second frame ∙ sym (none_told starts first frame)
  told_same (suc now) extends frame =
      let here = extends.events now (omega arith) in
      let fewer = shorter first second now extends in
      let before = told_same now fewer frame in
      elim (either_bool (by frame (first.events now))) [
        | inr quiet ↦ still starts second now frame (ap (by frame) here ∙ quiet) ∙ before ∙ sym (still starts first now frame quiet)
        | inl is ↦
            grew starts second now frame (ap (by frame) here ∙ is)
            ∙ ap (λ i. reply_to i (given starts second now frame) ∷ replies starts second now frame) here
            ∙ ap (λ i. reply_to (first.events now) i ∷ replies starts second now frame)
            (ap (deposits (gives starts second now)) (block_same now fewer frame)
            ∙ deposits_same (gives starts second now) (gives starts first now)
            (children first.events now frame)
            (λ child on. (let spawned = child_spawned first now frame child on in
            given_same starts first second now child (fewer.instance child spawned) (fewer.target child spawned) (told_same now fewer child))))
            ∙ ap (λ i. reply_to (first.events now) (given starts first now frame) ∷ i) before
            ∙ sym (grew starts first now frame is)
      ]

  pub state_same : (now : ℕ) → Extends first second now → (frame : FrameId) → second.instance frame ≡ first.instance frame →
      state_at starts second now frame ≡ state_at starts first now frame
  state_same now extends frame instance =
      ap (λ i. state_of starts i (replies starts second now frame)) instance ∙ ap (λ i. state_of starts (first.instance frame) i) (told_same now extends frame)

  pub want_same : (now : ℕ) → Extends first second now → (frame : FrameId) → second.instance frame ≡ first.instance frame →
      want_at starts second now frame ≡ want_at starts first now frame
  want_same now extends frame instance =
      ap (λ i. want_of starts i (replies starts second now frame)) instance ∙ ap (λ i. want_of starts (first.instance frame) i) (told_same now extends frame)
