-- While an Add waits its frame stays on top of its node's stack.
use Rattle.std.proofs.Common.{◌≡◌, ◌≢◌, ℕ, ℤ, zero, suc, ◌<◌, inl, inr, List, [], ◌∷◌, ◌++◌, refl, sym, ◌∙◌, ap, subst, arith}
use Rattle.page_messages.specs.declared.closure.FrameId.{FrameId}
use Rattle.backer_order.specs.Log.{Act, Read, Write, Add, Print, Spawn, Sync, Note, Fetch, Grant, Done, Park, AddTo, Event, Acts, TakeUp, OwnFetch, Post, Tick, Events, SharedMemory}
use Rattle.backer_order.specs.Moments.{AddDone}
use Rattle.backer_order.specs.Rules.{IsItem, Caching}
use Rattle.backer_order.specs.Edges.{Stacks, Returns, IsOn, Others, Moves, StackRule, Frames}
use Rattle.backer_order.proofs.Search.{Less3, Same3, More3, compare}
use Rattle.backer_order.proofs.Decide.{same_or_not}
use Rattle.backer_order.proofs.Pages as pages
use Rattle.backer_order.proofs.Lists.{mem_middle}

tops : (front below : List FrameId) (d frame g : FrameId) → front ++ d ∷ (g ∷ []) ≡ frame ∷ below →
    (b : List FrameId) × (front ++ d ∷ [] ≡ frame ∷ b)
tops [] below d frame g same = ([], ap (λ i. i ∷ []) head)
  where
    head : d ≡ frame
    head = cc
tops (x ∷ front) below d frame g same = (front ++ d ∷ [], ap (λ i. i ∷ (front ++ d ∷ [])) head)
  where
    head : x ≡ frame
    head = cc

module _ (events : Events) (memory : SharedMemory) (caching : Caching events memory) (has_returned : Returns) (stack : Stacks)
    (frames : Frames events memory has_returned stack) where
  module _ (node other : ℕ) (frame : FrameId) (word : ℕ) (d : ℤ) (k : ℕ) (po : events k ≡ Post node other (AddTo frame word d)) where
    abbrev Top : ℕ → Type 0
    Top now = (below : List FrameId) × (stack now node ≡ frame ∷ below)

    abbrev Open : ℕ → Type 0
    Open now = AddDone events memory node k now → ⊥

    by_item : (now : ℕ) → k < now → IsItem memory node (events now) → AddDone events memory node k now
    by_item now l item = caching.access.item node now k other (AddTo frame word d) item l po

    apart_from : (now node' : ℕ) → Others stack now node' → Top now → (node ≡ node' → AddDone events memory node k now) → Open now →
        Top (suc now)
    apart_from now node' others ih own op = elim (same_or_not node node') [
      | inl same ↦ absurd (op (own same))
      | inr ne ↦ (ih.0, others node ne ∙ ih.1)
    ]

    item_of : (now node' : ℕ) (y : Event) → events now ≡ y → k < now → (node' ≡ node → IsItem memory node y) → node ≡ node' →
        AddDone events memory node k now
    item_of now node' y is l it same = by_item now l (subst (λ i. IsItem memory node i) (sym is) (it (sym same)))

    posted_by : (now node' r : ℕ) (note : Note) → events now ≡ Post node' r note → node ≡ node' → events now ≡ Post node r note
    posted_by now node' r note is same = subst (λ i. events now ≡ Post i r note) (sym same) is

    step : (now : ℕ) (y : Event) → events now ≡ y → StackRule memory has_returned stack now y → k < now → Top now → Open now → Top (suc now)
    step now (Acts node' g (Spawn b)) is r l ih op =
        apart_from now node' r.others ih (item_of now node' (Acts node' g (Spawn b)) is l (λ h. h)) op
    step now (Acts node' g (Read u v)) is r l ih op =
        apart_from now node' r.others ih (item_of now node' (Acts node' g (Read u v)) is l (λ h. h)) op
    step now (Acts node' g (Write u v)) is r l ih op =
        apart_from now node' r.others ih (item_of now node' (Acts node' g (Write u v)) is l (λ h. h)) op
    step now (Acts node' g (Print v)) is r l ih op =
        apart_from now node' r.others ih (item_of now node' (Acts node' g (Print v)) is l (λ h. h)) op
    step now (Acts node' g Sync) is r l ih op = apart_from now node' r.others ih (item_of now node' (Acts node' g Sync) is l (λ h. h)) op
    step now (Acts node' g (Add u v x)) is r l ih op = elim (same_or_not (memory.home (memory.page u)) node') [
      | inl h ↦ apart_from now node' (r.own h).others ih (item_of now node' (Acts node' g (Add u v x)) is l (λ same. (same, h ∙ same))) op
      | inr ne ↦ (ih.0, r.other ne node ∙ ih.1)
    ]
    step now (Tick node' g) is r l ih op = apart_from now node' r.others ih (item_of now node' (Tick node' g) is l (λ h. h)) op
    step now (TakeUp node' g) is r l ih op = apart_from now node' r.2 ih (item_of now node' (TakeUp node' g) is l (λ h. h)) op
    step now (OwnFetch node' g ws) is r l ih op =
        apart_from now node' r.others ih (item_of now node' (OwnFetch node' g ws) is l (λ h. h)) op
    step now (Post node' x (Fetch g)) is r l ih op =
        apart_from now node' r.others ih
        (λ same. caching.access.alone node now k other x (AddTo frame word d) (Fetch g) (posted_by now node' x (Fetch g) is same) tt l po) op
    step now (Post node' x (AddTo g u v)) is r l ih op =
        apart_from now node' r.others ih
        (λ same. caching.access.alone node now k other x (AddTo frame word d) (AddTo g u v) (posted_by now node' x (AddTo g u v) is same) tt l po) op
    step now (Post node' x (Done g b)) is r l ih op =
        apart_from now node' r.0.others ih
        (λ same. frames.leave node now k other x frame word d (Done g b) po l (posted_by now node' x (Done g b) is same) tt) op
    step now (Post node' x (Park g)) is r l ih op =
        apart_from now node' r.others ih
        (λ same. frames.leave node now k other x frame word d (Park g) po l (posted_by now node' x (Park g) is same) tt) op
    step now (Post node' x (Grant g)) is r l ih op = elim (same_or_not node node') [
      | inr ne ↦ (ih.0, r.others node ne ∙ ih.1)
      | inl same ↦
          let t = tops r.front ih.0 r.child frame g (sym r.old ∙ subst (λ i. stack now i ≡ frame ∷ ih.0) same ih.1) in
          (t.0, subst (λ i. stack (suc now) i ≡ frame ∷ t.0) (sym same) (r.new ∙ t.1))
    ]
    step now y is r l ih op = (ih.0, r node ∙ ih.1)

    -- from the post up to the answer the frame is on top
    pub since : (now : ℕ) → k < now → ((i : ℕ) → k < i → i < now → Open i) → Top now
    since zero l op = absurd (omega arith)
    since (suc now) l op = elim (compare k now) [
      | More3 h ↦ absurd (omega arith)
      | Same3 same ↦
          let r : Moves has_returned stack k node frame [] = subst (λ y. StackRule memory has_returned stack k y) po (frames.stacks k) in
          (r.below, subst (λ i. stack (suc i) node ≡ frame ∷ r.below) same r.new)
      | Less3 h ↦ step now (events now) refl (frames.stacks now) h (since now h (λ i a b. op i a (omega arith))) (op now h (omega arith))
    ]

  -- where the home serves another node's Add, the frame is on top of that node's stack
  pub add_top : (now node : ℕ) (frame : FrameId) (word : ℕ) (old d : ℤ) → (is : events now ≡ Acts node frame (Add word old d)) →
      memory.home (memory.page word) ≢ node → (below : List FrameId) × (stack now node ≡ frame ∷ below)
  add_top now node frame word old d is ne =
      let sv = pages.sv events memory caching node word now old d frame is ne in
      since node (memory.home (memory.page word)) frame word d sv.post sv.posted now (pages.post_first events memory caching node word now old d frame is ne)
      (λ i a b an. let l = pages.done_later events memory caching node word now old d frame is ne i an in omega arith)

  pub add_on : (now node : ℕ) (frame : FrameId) (word : ℕ) (old d : ℤ) → events now ≡ Acts node frame (Add word old d) →
      memory.home (memory.page word) ≢ node → IsOn frame (stack now node)
  add_on now node frame word old d is ne = let t = add_top now node frame word old d is ne in subst (λ l. IsOn frame l) (sym t.1) (inl refl)

  -- who acts stands on the stack
  on_moves : (now node : ℕ) (g : FrameId) (top : List FrameId) → Moves has_returned stack now node g top → IsOn g (stack now node)
  on_moves now node g top r = subst (λ l. IsOn g l) (sym r.old) (mem_middle g r.above r.below)

  actor_at : (now node : ℕ) (g : FrameId) (a : Act) → events now ≡ Acts node g a → StackRule memory has_returned stack now (Acts node g a) →
      IsOn g (stack now node)
  actor_at now node g (Spawn d) is r = on_moves now node g (d ∷ []) r
  actor_at now node g (Read word v) is r = on_moves now node g [] r
  actor_at now node g (Write word v) is r = on_moves now node g [] r
  actor_at now node g (Print v) is r = on_moves now node g [] r
  actor_at now node g Sync is r = on_moves now node g [] r
  actor_at now node g (Add word v dd) is r =
      elim (same_or_not (memory.home (memory.page word)) node) [ inl e' ↦ on_moves now node g [] (r.own e') | inr ne ↦ add_on now node g word v dd is ne ]

  pub actor_on : (now node : ℕ) (g : FrameId) (a : Act) → events now ≡ Acts node g a → IsOn g (stack now node)
  actor_on now node g a is = actor_at now node g a is (subst (λ y. StackRule memory has_returned stack now y) is (frames.stacks now))
