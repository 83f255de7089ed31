-- Joins: at a sync each child of the block has returned. One that is here stood directly above its parent or had returned; the return of
-- one that is away was posted to the join, which the frame was taken up from.
use Rattle.std.proofs.Common.{◌≡◌, ℕ, zero, suc, ◌<◌, ◌≤◌, ◌⊎◌, inl, inr, true, List, [], ◌∷◌, ◌++◌, refl, sym, ◌∙◌, ap, subst, arith}
use Rattle.page_messages.specs.declared.closure.FrameId.{FrameId}
use Rattle.backer_order.specs.Log.{Grant, Park, Post, Sync, Acts, TakeUp, Events, SharedMemory}
use Rattle.backer_order.specs.Moments.{NoneBetween}
use Rattle.backer_order.specs.Edges.{Stacks, Returns, IsOn, Others, Moves, StackRule, TakesUp, Spawned, BlockChild, Away, Here, Taken, Edges, FromGrant, FromJoin, HasDone, Joined}
use Rattle.backer_order.proofs.Search.{Less3, Same3, More3, compare}
use Rattle.backer_order.proofs.Lists.{mem_right, Distinct, distinct_right, cut_front}
use Rattle.backer_order.proofs.Places as places
use Rattle.backer_order.proofs.Blocks as blocks

-- a frame that stands above itself stands twice
twice : (frame child : FrameId) (below rest back : List FrameId) → frame ∷ below ≡ rest ++ child ∷ (frame ∷ back) → IsOn frame below
twice frame child below [] back same = subst (λ l. IsOn frame l) tail (inl refl)
  where
    tail : frame ∷ back ≡ below
    tail = cc
twice frame child below (x ∷ rest) back same =
    subst (λ l. IsOn frame l) tail (mem_right frame rest (child ∷ (frame ∷ back)) (inr (inl refl)))
  where
    tail : rest ++ child ∷ (frame ∷ back) ≡ below
    tail = cc

module _ (events : Events) (memory : SharedMemory) (has_returned : Returns) (stack : Stacks) (edges : Edges events memory has_returned stack)
    (taken : Taken events stack) where
  inv : (now : ℕ) → places.Inv events memory has_returned stack edges.frames now
  inv now = places.all_invs events memory has_returned stack edges.frames taken now now (omega arith)

  -- what has returned stays so
  pub returned_later : (frame : FrameId) (k now : ℕ) → has_returned k frame ≡ true → k ≤ now → has_returned now frame ≡ true
  returned_later frame k zero r h = subst (λ i. has_returned i frame ≡ true) (omega arith) r
  returned_later frame k (suc now) r h = elim (compare k (suc now)) [
    | Same3 same ↦ subst (λ i. has_returned i frame ≡ true) same r
    | More3 l ↦ absurd (omega arith)
    | Less3 l ↦ edges.stays now frame (returned_later frame k now r (omega arith))
  ]

  -- A frame is not granted between its take-up and a position at which it stands on a stack, so what is away there was away at the take-up.
  away_back : (frame d : FrameId) (t now node : ℕ) → IsOn frame (stack now node) → NoneBetween (TakesUp events frame) t now → (taker : ℕ) →
      events t ≡ TakeUp taker frame → (i : ℕ) → t ≤ i → i ≤ now → Away events stack i frame d → Away events stack t frame d
  away_back frame d t now node on none taker is zero h h' a = subst (λ i. Away events stack i frame d) (omega arith) a
  away_back frame d t now node on none taker is (suc i) h h' a = elim (compare t (suc i)) [
    | Same3 same ↦ subst (λ i. Away events stack i frame d) (sym same) a
    | More3 l ↦ absurd (omega arith)
    | Less3 l ↦ elim (places.away_step events memory has_returned stack edges.frames i frame d a) [
      | inl old ↦ away_back frame d t now node on none taker is i (omega arith) (omega arith) old
      | inr (other, r, gr) ↦ elim (compare t i) [
        | Same3 same ↦ let is' : events i ≡ TakeUp taker frame = subst (λ j. events j ≡ TakeUp taker frame) same is in absurd cc
        | More3 l' ↦ absurd (omega arith)
        | Less3 l' ↦
            let out = places.grant_out events memory has_returned stack edges.frames i other r frame (inv i) gr in
            let on_i = places.grant_mem events memory has_returned stack edges.frames i other r frame gr in
            let none_i : NoneBetween (TakesUp events frame) i now = λ j k k' up. none j (omega arith) k' up in
            let unborn : (j : ℕ) → i < j → j < now → Spawned events frame j → ⊥ =
            λ j k k' sp. places.not_again events memory has_returned stack edges.frames i other frame j (inv i) on_i (omega arith) sp in
            let gone = places.stays_out events memory has_returned stack edges.frames frame i now out unborn none_i in
            absurd (gone now (omega arith) (omega arith) node on)
      ]
    ]
  ]

  pub only_there : (frame : FrameId) (t taker : ℕ) → events t ≡ TakeUp taker frame → (now : ℕ) → NoneBetween (TakesUp events frame) t now →
      t < now → (node : ℕ) → IsOn frame (stack now node) → node ≡ taker
  only_there frame t taker is zero none l node m = absurd (omega arith)
  only_there frame t taker is (suc now) none l node m =
      let r : (stack t taker ≡ []) × (stack (suc t) taker ≡ frame ∷ []) × Others stack t taker =
      subst (λ y. StackRule memory has_returned stack t y) is (edges.frames.stacks t) in
      let on : IsOn frame (stack (suc t) taker) = subst (λ k. IsOn frame k) (sym r.1) (inl refl) in
      elim (compare t now) [
        | Same3 same ↦ (inv (suc t)).apart node taker frame (subst (λ j. IsOn frame (stack (suc j) node)) (sym same) m) on
        | More3 l' ↦ absurd (omega arith)
        | Less3 l' ↦ elim (places.comes events memory has_returned stack edges.frames now node frame m) [
          | inl old ↦ only_there frame t taker is now (λ j k k' up. none j k (omega arith) up) l' node old
          | inr (inl (g, sp)) ↦
              absurd (places.not_again events memory has_returned stack edges.frames (suc t) taker frame now (inv (suc t)) on (omega arith) (node, g, sp))
          | inr (inr up) ↦ absurd (none now l' (omega arith) (node, up))
        ]
      ]

  -- what is taken up from its join was not granted there, so the join is complete
  all_done : (frame : FrameId) → {now : ℕ} → (j : Joined events now frame) →
      FromGrant events j.at j.node frame ⊎ FromJoin events stack j.at j.node frame → (d : FrameId) → Away events stack j.at frame d →
      HasDone events j.at frame d
  all_done frame j (inr join) d a = join.complete d a
  all_done frame j (inl grant) d a =
      let park = j.join in
      let same : park.post ≡ grant.post =
      places.same_token events memory has_returned stack edges.frames j.at park.post grant.post j.node j.node frame
      (places.all_invs events memory has_returned stack edges.frames taken j.at) park.before grant.before (park.sender, inr park.is)
      (grant.sender, inl grant.is) park.none grant.none in
      absurd (not_both park.post park.sender grant.sender j.node frame park.is
      (subst (λ i. events i ≡ Post grant.sender j.node (Grant frame)) (sym same) grant.is))
    where
      not_both : (k sender other node : ℕ) (frame : FrameId) → events k ≡ Post sender node (Park frame) →
          events k ≡ Post other node (Grant frame) → ⊥
      not_both k sender other node frame a b = cc

  -- The join from which a frame that syncs was taken up, and the return that was posted to it.
  pub record JoinedDone (now : ℕ) (frame child : FrameId) : Type 0 where
    pub joined : Joined events now frame
    pub done : HasDone events (joined.at) frame child

  sync_moves : (now node : ℕ) (frame : FrameId) → events now ≡ Acts node frame Sync → Moves has_returned stack now node frame []
  sync_moves now node frame is = subst (λ y. StackRule memory has_returned stack now y) is (edges.frames.stacks now)

  sync_on : (now node : ℕ) (frame : FrameId) → events now ≡ Acts node frame Sync → IsOn frame (stack now node)
  sync_on now node frame is =
      let r = sync_moves now node frame is in
      subst (λ l. IsOn frame l) (sym r.old) (mem_right frame r.above (frame ∷ r.below) (inl refl))

  pub joined_done : (now node : ℕ) (frame d : FrameId) → events now ≡ Acts node frame Sync → Away events stack now frame d →
      JoinedDone now frame d
  joined_done now node frame d is a =
      let j = edges.sync_joined now node frame d is a in
      let a' = away_back frame d j.at now node (sync_on now node frame is) j.last j.node j.is now (omega (arith, j.before)) (omega arith) a in
      record { joined = j; done = all_done frame j (taken j.at j.node frame j.is) d a' }

  -- a child that is here at a sync is among the frames that the sync takes from the stack, or had left it
  pub here_returned : (now node : ℕ) (frame d : FrameId) → events now ≡ Acts node frame Sync → Here events stack now frame d →
      has_returned now d ≡ true
  here_returned now node frame d is h = elim (blocks.stands events memory has_returned stack edges now frame d h) [
    | inl k ↦ k
    | inr t ↦
        let r = sync_moves now node frame is in
        let same_node : t.node ≡ node =
        (inv now).apart t.node node frame
        (subst (λ l. IsOn frame l) (sym t.is) (mem_right frame t.front (d ∷ (frame ∷ t.back)) (inr (inl refl)))) (sync_on now node frame is) in
        elim (cut_front t.front r.above (frame ∷ r.below) t.back d frame (sym t.is ∙ ap (stack now) same_node ∙ r.old)) [
          | inl m ↦ r.returned d m
          | inr (rest, same) ↦
              let distinct : Distinct (frame ∷ r.below) =
              distinct_right r.above (frame ∷ r.below) (subst (λ l. Distinct l) r.old ((inv now).distinct node)) in
              absurd (distinct.0 (twice frame d r.below rest t.back same))
        ]
  ]

  pub sync_returned : (now node : ℕ) (frame d : FrameId) → events now ≡ Acts node frame Sync → BlockChild events now frame d →
      has_returned now d ≡ true
  sync_returned now node frame d is kid = elim (blocks.here_or_away events memory has_returned stack edges now frame d kid) [
    | inl h ↦ here_returned now node frame d is h
    | inr a ↦
        let jd = joined_done now node frame d is a in
        let dn = jd.done in
        let back : dn.post < now = omega (arith, dn.before, jd.joined.before) in
        let r = (places.done_mem events memory has_returned stack edges.frames dn.post dn.sender dn.receiver frame d dn.is).1 in
        returned_later d dn.post now r (omega (arith, back))
  ]
