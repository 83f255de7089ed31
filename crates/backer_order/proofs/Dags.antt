-- What precedes an act in the dag is early for its frame.
use Rattle.std.proofs.Common.{◌≡◌, ℕ, zero, suc, ◌<◌, ◌≤◌, ◌⊎◌, inl, inr, true, refl, sym, subst, arith}
use Rattle.page_messages.specs.declared.closure.FrameId.{FrameId}
use Rattle.backer_order.specs.Log.{Act, Read, Write, Add, Print, Spawn, Sync, Event, Acts, Events, SharedMemory}
use Rattle.backer_order.specs.Moments.{NoneBetween, IsAccess}
use Rattle.backer_order.specs.Rules.{Caching}
use Rattle.backer_order.specs.HomeOrder.{Before}
use Rattle.backer_order.specs.Edges.{Stacks, Returns, ActOf, BlockChild, block_after, Early, early_after, Taken, Edges}
use Rattle.backer_order.specs.Dag.{Under, At, Below, SyncAt, Precedes}
use Rattle.backer_order.proofs.Search.{Decided, Less3, Same3, More3, compare, find_first}
use Rattle.backer_order.proofs.Decide.{same_frame_or_not}
use Rattle.backer_order.proofs.Settled as settled
use Rattle.backer_order.proofs.Joins as joins
use Rattle.backer_order.proofs.Places as places

module _ (events : Events) (memory : SharedMemory) (caching : Caching events memory) (has_returned : Returns) (stack : Stacks)
    (edges : Edges events memory has_returned stack) (taken : Taken events stack) where
  keep_at : (now : ℕ) (y : Event) → (frame : FrameId) (x : ℕ) → Early events now frame x →
      early_after now y (BlockChild events now) (Early events now) frame x
  keep_at now (Acts node g (Spawn d)) frame x h = inl h
  keep_at now (Acts node g Sync) frame x h = inl h
  keep_at now (Acts node g (Read word value)) frame x h = inl h
  keep_at now (Acts node g (Add word value addend)) frame x h = inl h
  keep_at now (Acts node g (Write word value)) frame x h = inl h
  keep_at now (Acts node g (Print value)) frame x h = inl h
  keep_at now y frame x h = h

  keep : (now : ℕ) (frame : FrameId) (x : ℕ) → Early events now frame x → Early events (suc now) frame x
  unfolding Early
  keep now frame x h = keep_at now (events now) frame x h

  later : (frame : FrameId) (x m now : ℕ) → m ≤ now → Early events m frame x → Early events now frame x
  later frame x m zero h k = subst (λ i. Early events i frame x) (omega arith) k
  later frame x m (suc now) h k = elim (compare m (suc now)) [
    | Same3 same ↦ subst (λ i. Early events i frame x) same k
    | More3 l ↦ absurd (omega arith)
    | Less3 l ↦ keep now frame x (later frame x m now (omega arith) k)
  ]

  own_at : (now node : ℕ) (frame : FrameId) (a : Act) →
      early_after now (Acts node frame a) (BlockChild events now) (Early events now) frame now
  own_at now node frame (Spawn d) = inr (inl (refl, refl))
  own_at now node frame Sync = inr (refl, inl refl)
  own_at now node frame (Read word value) = inr (refl, refl)
  own_at now node frame (Add word value addend) = inr (refl, refl)
  own_at now node frame (Write word value) = inr (refl, refl)
  own_at now node frame (Print value) = inr (refl, refl)

  own : (now : ℕ) (frame : FrameId) → ActOf events frame now → Early events (suc now) frame now
  unfolding Early
  own now frame (node, a, is) =
      subst (λ y. early_after now y (BlockChild events now) (Early events now) frame now) (sym is) (own_at now node frame a)

  born : (now node : ℕ) (frame d : FrameId) (x : ℕ) → events now ≡ Acts node frame (Spawn d) → Early events now frame x ⊎ (x ≡ now) →
      Early events (suc now) d x
  unfolding Early
  born now node frame d x is h =
      subst (λ y. early_after now y (BlockChild events now) (Early events now) d x) (sym is) (inr (inr (refl, h)))

  merge : (now node : ℕ) (frame d : FrameId) (x : ℕ) → events now ≡ Acts node frame Sync → BlockChild events now frame d →
      Early events now d x → Early events (suc now) frame x
  unfolding Early
  merge now node frame d x is k h =
      subst (λ y. early_after now y (BlockChild events now) (Early events now) frame x) (sym is) (inr (refl, inr (d, k, h)))

  -- ---- children of a block

  abbrev SyncOf : FrameId → ℕ → Type 0
  SyncOf frame now = (node : ℕ) × (events now ≡ Acts node frame Sync)

  sync_at : (frame : FrameId) (now : ℕ) (y : Event) → events now ≡ y → Decided (SyncOf frame now)
  sync_at frame now (Acts node g Sync) is =
      elim (same_frame_or_not g frame) [ inl same ↦ inl (node, subst (λ i. events now ≡ Acts node i Sync) same is) | inr ne ↦ inr (λ h. let k = h.1 in ne cc) ]
  sync_at frame now y is = inr (λ h. let k = h.1 in cc)

  kid_keep_at : (now : ℕ) (y : Event) → events now ≡ y → (frame d : FrameId) → (SyncOf frame now → ⊥) → BlockChild events now frame d →
      block_after y (BlockChild events now) frame d
  kid_keep_at now (Acts node g (Spawn x)) is frame d ns k = inl k
  kid_keep_at now (Acts node g Sync) is frame d ns k = (k, λ same. ns (node, subst (λ i. events now ≡ Acts node i Sync) same is))
  kid_keep_at now y is frame d ns k = k

  kid_first : (now node : ℕ) (frame d : FrameId) → events now ≡ Acts node frame (Spawn d) → BlockChild events (suc now) frame d
  unfolding BlockChild
  kid_first now node frame d is = subst (λ y. block_after y (BlockChild events now) frame d) (sym is) (inr (refl, refl))

  kid_later : (frame d : FrameId) (i node now : ℕ) → events i ≡ Acts node frame (Spawn d) → i < now → NoneBetween (SyncOf frame) i now →
      BlockChild events now frame d
  unfolding BlockChild
  kid_later frame d i node zero is h none = absurd (omega arith)
  kid_later frame d i node (suc now) is h none = elim (compare i now) [
    | Same3 same ↦ subst (λ j. BlockChild events (suc j) frame d) same (kid_first i node frame d is)
    | More3 l ↦ absurd (omega arith)
    | Less3 l ↦ kid_keep_at now (events now) refl frame d (λ h'. none now l (omega arith) h')
        (kid_later frame d i node now is l (λ j k k' h'. none j k (omega arith) h'))
  ]

  not_both : (now node other : ℕ) (frame g d : FrameId) → events now ≡ Acts node frame Sync → events now ≡ Acts other g (Spawn d) → ⊥
  not_both now node other frame g d a b = cc

  -- an act of a returned frame stands before
  acted_before : (now : ℕ) (frame : FrameId) (i : ℕ) → has_returned now frame ≡ true → ActOf events frame i → i < now
  acted_before now frame i r a = elim (compare i now) [
    | Less3 l ↦ l
    | Same3 same ↦ absurd (edges.no_act now frame r (subst (λ j. ActOf events frame j) same a))
    | More3 l ↦ absurd (settled.returned_quiet events memory caching has_returned stack edges taken frame now (suc i) r i (omega arith) (omega arith) a)
  ]

  act_of_under : (x : ℕ) (frame : FrameId) (i : ℕ) → Under events x frame i → ActOf events frame i
  act_of_under x frame i (At a same) = a
  act_of_under x frame i (Below node d j is u) = (node, Spawn d, is)

  -- what lies below a child is early once the block has ended
  sync_early : (x : ℕ) (frame : FrameId) (i node : ℕ) (d : FrameId) (k other : ℕ) → events i ≡ Acts node frame (Spawn d) →
      ((now : ℕ) → has_returned now d ≡ true → Early events now d x) → i < k → events k ≡ Acts other frame Sync →
      Early events (suc k) frame x
  sync_early x frame i node d k other is ih l sy = elim (find_first (SyncOf frame) (λ now. sync_at frame now (events now) refl) i (suc k)) [
    | inr none ↦ absurd (none k l (omega arith) (other, sy))
    | inl t ↦
        let (other', sy') = t.here in
        let kid = kid_later frame d i node t.at is t.after t.none in
        let r = joins.sync_returned events memory has_returned stack edges taken t.at other' frame d sy' kid in
        later frame x (suc t.at) (suc k) (omega (arith, t.before)) (merge t.at other' frame d x sy' kid (ih t.at r))
  ]

  returned_early : (x : ℕ) (d : FrameId) (j : ℕ) → Under events x d j → (now : ℕ) → has_returned now d ≡ true → Early events now d x
  returned_early x d j (At a same) now r =
      let l = acted_before now d j r a in
      later d x (suc j) now l (subst (λ i. Early events (suc j) d i) (sym same) (own j d a))
  returned_early x d j (Below node b i is u) now r =
      let l = acted_before now d j r (node, Spawn b, is) in
      elim (find_first (SyncOf d) (λ m. sync_at d m (events m) refl) j now) [
        | inr none ↦ absurd (edges.no_children now d b r (kid_later d b j node now is l none))
        | inl t ↦
            let (other', sy') = t.here in
            later d x (suc t.at) now t.before (sync_early x d j node b t.at other' is (returned_early x b i u) t.after sy')
      ]

  below_sync : (x : ℕ) (frame : FrameId) (i node : ℕ) (d : FrameId) (j k other : ℕ) → events i ≡ Acts node frame (Spawn d) →
      Under events x d j → i < k → events k ≡ Acts other frame Sync → Early events (suc k) frame x
  below_sync x frame i node d j k other is u l sy = sync_early x frame i node d k other is (returned_early x d j u) l sy

  -- what is early at an act is early for what lies below it
  spawn_before : (now node : ℕ) (frame d : FrameId) (j : ℕ) → events now ≡ Acts node frame (Spawn d) → ActOf events d j → now < j
  spawn_before now node frame d j is (other, a, act) = elim (compare now j) [
    | Less3 l ↦ l
    | Same3 same ↦ absurd (places.not_again events memory has_returned stack edges.frames j other d j
        ((places.all_invs events memory has_returned stack edges.frames taken j) j (omega arith)) (settled.actor_on events memory caching has_returned stack
        edges taken j other d a act) (omega arith) (node, frame, subst (λ i. events i ≡ Acts node frame (Spawn d)) same is))
    | More3 l ↦ absurd (places.not_again events memory has_returned stack edges.frames j other d now
        ((places.all_invs events memory has_returned stack edges.frames taken j) j (omega arith))
        (settled.actor_on events memory caching has_returned stack edges taken j other d a act) (omega arith) (node, frame, is))
  ]

  down : (x y : ℕ) (frame : FrameId) (j node : ℕ) (g : FrameId) (a : Act) → Under events y frame j → events y ≡ Acts node g a →
      Early events j frame x → Early events y g x
  down x y frame j node g a (At (other, b, act) same) is h =
      let is' : events j ≡ Acts node g a = subst (λ i. events i ≡ Acts node g a) same is in
      let frame : frame ≡ g = cc in
      subst (λ i. Early events i g x) (sym same) (subst (λ i. Early events j i x) frame h)
  down x y frame j node g a (Below other d i sp u) is h =
      let l = spawn_before j other frame d i sp (act_of_under y d i u) in
      down x y d i node g a u is (later d x (suc j) i l (born j other frame d x sp (inl h)))

  pub precedes_early : (x y node : ℕ) (g : FrameId) (a : Act) → events y ≡ Acts node g a → (a ≡ Sync → ⊥) → Precedes events x y →
      Early events y g x
  precedes_early x y node g a is ns (inr d) =
      let l = spawn_before x d.node d.frame d.child d.act d.is (act_of_under y d.child d.act d.below) in
      down x y d.child d.act node g a d.below is (later d.child x (suc x) d.act l (born x d.node d.frame d.child x d.is (inr refl)))
  precedes_early x y node g a is ns (inl d) = down x y d.frame d.later_act node g a d.second is (at_j d.serial)
    where
      sync_last : (i : ℕ) → SyncAt events (d.frame) i (d.later_act) → (t : SyncAt events (d.frame) i (d.later_act)) → t.at < d.later_act
      sync_last i u t = elim (compare t.at d.later_act) [
        | Less3 l ↦ l
        | More3 l ↦ absurd (omega (arith, t.before))
        | Same3 same ↦ absurd (last d.second (subst (λ k. events k ≡ Acts t.node d.frame Sync) same t.is))
      ]
        where
          last : Under events y (d.frame) (d.later_act) → events (d.later_act) ≡ Acts t.node d.frame Sync → ⊥
          last (At b same) sy = let is' : events (d.later_act) ≡ Acts node g a = subst (λ k. events k ≡ Acts node g a) same is in ns cc
          last (Below other b i sp u) sy = not_both d.later_act t.node other d.frame d.frame b sy sp

      first_case : (Under events x (d.frame) (d.act)) → SyncAt events (d.frame) (d.act) (d.later_act) →
          Early events (d.later_act) (d.frame) x
      first_case (At b same) t =
          later d.frame x (suc d.act) d.later_act d.order (subst (λ k. Early events (suc d.act) d.frame k) (sym same) (own d.act d.frame b))
      first_case (Below other b i sp u) t =
          later d.frame x (suc t.at) d.later_act (sync_last d.act t t) (below_sync x d.frame d.act other b i t.at t.node sp u t.after t.is)

      at_j : (x ≡ d.act) ⊎ SyncAt events (d.frame) (d.act) (d.later_act) → Early events (d.later_act) (d.frame) x
      at_j (inl same) =
          later d.frame x (suc d.act) d.later_act d.order
          (subst (λ k. Early events (suc d.act) d.frame k) (sym same) (own d.act d.frame (act_of_under x d.frame d.act d.first)))
      at_j (inr t) = first_case d.first t

  pub dag_kept : (end : ℕ) → (other node word x y : ℕ) → y < end → IsAccess events other word x → IsAccess events node word y →
      Precedes events x y → Before events memory end word other x node y
  dag_kept end other node word x y yn ax (inl (inl (value, ay))) h =
      settled.early_first events memory caching has_returned stack edges taken end other node ay.frame word x y (Write word value) yn ay.is
      (precedes_early x y node ay.frame (Write word value) ay.is (λ k. cc) h) ax (inl (inl (value, ay)))
  dag_kept end other node word x y yn ax (inl (inr (value, ay))) h =
      settled.early_first events memory caching has_returned stack edges taken end other node ay.frame word x y (Read word value) yn ay.is
      (precedes_early x y node ay.frame (Read word value) ay.is (λ k. cc) h) ax (inl (inr (value, ay)))
  dag_kept end other node word x y yn ax (inr (old, ay)) h =
      settled.early_first events memory caching has_returned stack edges taken end other node ay.frame word x y (Add word old ay.addend) yn ay.is
      (precedes_early x y node ay.frame (Add word old ay.addend) ay.is (λ k. cc) h) ax (inr (old, ay))
