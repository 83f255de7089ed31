-- Settled frames: what is early for a frame on a stack was done there, or has its moment before a TakeUp there.
use Rattle.std.proofs.Common.{◌≡◌, ℕ, zero, suc, ◌<◌, ◌≤◌, ◌⊎◌, inl, inr, true, ◌∷◌, refl, sym, subst, arith}
use Rattle.page_messages.specs.declared.closure.FrameId.{FrameId}
use Rattle.backer_order.specs.Log.{main_id, Act, Read, Write, Add, Spawn, Sync, Done, Acts, TakeUp, Events, SharedMemory}
use Rattle.backer_order.specs.Moments.{IsAccess, Moment}
use Rattle.backer_order.specs.Rules.{Caching}
use Rattle.backer_order.specs.HomeOrder.{Before}
use Rattle.backer_order.specs.Edges.{Stacks, Returns, IsOn, ActOf, Spawned, Early, Away, Here, AllClean, Taken, Edges}
use Rattle.backer_order.proofs.Search.{Less3, Same3, More3, compare}
use Rattle.backer_order.proofs.Lists.{mem_right, mem_middle}
use Rattle.backer_order.proofs.TakeUps as ups
use Rattle.backer_order.proofs.Waits as waits
use Rattle.backer_order.proofs.Places as places
use Rattle.backer_order.proofs.Blocks as blocks
use Rattle.backer_order.proofs.Joins as joins

module _ (events : Events) (memory : SharedMemory) (caching : Caching events memory) (has_returned : Returns) (stack : Stacks)
    (edges : Edges events memory has_returned stack) (taken : Taken events stack) where
  abbrev Good : ℕ → ℕ → ℕ → Type 0
  Good now node x = ups.Good events memory caching now node x

  inv : (now : ℕ) → places.Inv events memory has_returned stack edges.frames now
  inv now = places.all_invs events memory has_returned stack edges.frames taken now now (omega arith)

  pub actor_on : (now node : ℕ) (g : FrameId) (a : Act) → events now ≡ Acts node g a → IsOn g (stack now node)
  actor_on now node g a is = waits.actor_on events memory caching has_returned stack edges.frames now node g a is

  abbrev Born : FrameId → ℕ → Type 0
  Born frame now = (frame ≡ main_id) ⊎ ((i : ℕ) × (i < now) × Spawned events frame i)

  born_more : (frame : FrameId) (now : ℕ) → Born frame now → Born frame (suc now)
  born_more frame now (inl z) = inl z
  born_more frame now (inr (i, l, sp)) = inr (i, omega arith, sp)

  actor_born : (now : ℕ) (frame : FrameId) → ActOf events frame now → Born frame now
  actor_born now frame (node, a, is) = (inv now).born node frame (actor_on now node frame a is)

  not_born_twice : (frame : FrameId) (now i : ℕ) → Born frame now → now ≤ i → Spawned events frame i → ⊥
  not_born_twice frame now i (inl z) h sp = edges.frames.not_main frame i sp z
  not_born_twice frame now i (inr (j, l, sj)) h sp = let same = edges.frames.fresh frame i j sp sj in absurd (omega arith)

  newly_born : (now : ℕ) (frame : FrameId) (x : ℕ) → blocks.Newly events memory has_returned stack edges now frame x → Born frame (suc now)
  newly_born now frame x (blocks.Own a h) = born_more frame now (actor_born now frame a)
  newly_born now frame x (blocks.ByMerge m) = born_more frame now (actor_born now frame (m.node, Sync, m.is))
  newly_born now frame x (blocks.ByBirth b) = inr (now, omega arith, (b.node, b.parent, b.is))

  early_born : (now : ℕ) (frame : FrameId) (x : ℕ) → Early events now frame x → Born frame now
  unfolding Early
  early_born zero frame x h = absurd h
  early_born (suc now) frame x h =
      elim (blocks.early_step events memory has_returned stack edges now frame x h)
      [ inl k ↦ born_more frame now (early_born now frame x k) | inr k ↦ newly_born now frame x k ]

  pub early_before : (now : ℕ) (frame : FrameId) (x : ℕ) → Early events now frame x → x < now
  unfolding Early
  early_before zero frame x h = absurd h
  early_before (suc now) frame x h = elim (blocks.early_step events memory has_returned stack edges now frame x h) [
    | inl k ↦ let l = early_before now frame x k in omega arith
    | inr (blocks.Own a same) ↦ omega arith
    | inr (blocks.ByMerge m) ↦ let l = early_before now m.child x m.early in omega arith
    | inr (blocks.ByBirth b) ↦ elim (b.early) [ inl k ↦ let l = early_before now b.parent x k in omega arith | inr same ↦ omega arith ]
  ]

  record HereBorn (now : ℕ) (frame d : FrameId) : Type 0 where
    parent : Born frame now
    birth : ℕ
    before : birth < now
    spawned : Spawned events d birth

  here_born : (now : ℕ) (frame d : FrameId) → Here events stack now frame d → HereBorn now frame d
  unfolding Here
  here_born zero frame d h = absurd h
  here_born (suc now) frame d h = elim (blocks.here_step events memory has_returned stack edges now frame d h) [
    | inl k ↦
        let b = here_born now frame d k in
        record { parent = born_more frame now b.parent; birth = b.birth; before = omega (arith, b.before); spawned = b.spawned }
    | inr (node, is) ↦
        record { parent = born_more frame now (actor_born now frame (node, Spawn d, is)); birth = now; before = omega arith; spawned = (node, frame, is) }
  ]

  -- while a frame makes no act, what is early for it stays
  abbrev Quiet : FrameId → ℕ → ℕ → Type 0
  Quiet frame k now = (i : ℕ) → k ≤ i → i < now → ActOf events frame i → ⊥

  frozen : (frame : FrameId) (x k now : ℕ) → Born frame k → Quiet frame k now → k ≤ now → Early events now frame x → Early events k frame x
  frozen frame x k zero b quiet h m = subst (λ i. Early events i frame x) (omega arith) m
  frozen frame x k (suc now) b quiet h m = elim (compare k (suc now)) [
    | Same3 same ↦ subst (λ i. Early events i frame x) (sym same) m
    | More3 l ↦ absurd (omega arith)
    | Less3 l ↦ elim (blocks.early_step events memory has_returned stack edges now frame x m) [
      | inl old ↦ frozen frame x k now b (λ i h1 h2. quiet i h1 (omega arith)) (omega arith) old
      | inr (blocks.Own a same) ↦ absurd (quiet now (omega arith) (omega arith) a)
      | inr (blocks.ByMerge g) ↦ absurd (quiet now (omega arith) (omega arith) (g.node, Sync, g.is))
      | inr (blocks.ByBirth g) ↦ absurd (not_born_twice frame k now b (omega arith) (g.node, g.parent, g.is))
    ]
  ]

  here_frozen : (frame d : FrameId) (k now : ℕ) → Quiet frame k now → k ≤ now → Here events stack now frame d → Here events stack k frame d
  here_frozen frame d k zero quiet h m = subst (λ i. Here events stack i frame d) (omega arith) m
  here_frozen frame d k (suc now) quiet h m = elim (compare k (suc now)) [
    | Same3 same ↦ subst (λ i. Here events stack i frame d) (sym same) m
    | More3 l ↦ absurd (omega arith)
    | Less3 l ↦ elim (blocks.here_step events memory has_returned stack edges now frame d m) [
      | inl old ↦ here_frozen frame d k now (λ i h1 h2. quiet i h1 (omega arith)) (omega arith) old
      | inr (node, is) ↦ absurd (quiet now (omega arith) (omega arith) (node, Spawn d, is))
    ]
  ]

  -- a returned frame is quiet
  pub returned_quiet : (frame : FrameId) (k now : ℕ) → has_returned k frame ≡ true → Quiet frame k now
  returned_quiet frame k now r i h l a = edges.no_act i frame (joins.returned_later events memory has_returned stack edges taken frame k i r h) a

  -- ---- the invariant

  pub record Fine (now : ℕ) : Type 0 where
    pub early : (node : ℕ) (frame : FrameId) (x : ℕ) → IsOn frame (stack now node) → Early events now frame x → Good now node x
    pub kept : (node : ℕ) (frame d : FrameId) (x : ℕ) → IsOn frame (stack now node) → Here events stack now frame d →
        has_returned now d ≡ true → Early events now d x → Good now node x

  good_more : (now node x : ℕ) → Good now node x → Good (suc now) node x
  good_more now node x g other word ax = elim (g other word ax) [
    | inl same ↦ inl same
    | inr k ↦
        inr (record { moment = k.moment; is = k.is; at = k.at; frame = k.frame; takes_up = k.takes_up; first = k.first; before = omega (arith, k.before) })
  ]

  -- where a clean node sends, what was good there has passed at a later TakeUp
  passed_on : (k node now taker : ℕ) (frame : FrameId) (m x : ℕ) → AllClean events memory node k → Good k node x → x < k → k < now →
      events now ≡ TakeUp taker frame → now < m → Good m taker x
  passed_on k node now taker frame m x clean g l l' is l2 other word ax = elim (g other word ax) [
    | inl same ↦
        let h = ups.clean_has events memory caching node k word x clean (subst (λ i. IsAccess events i word x) same ax) l in
        inr (record {
          moment = h.at;
          is = subst (λ i. Moment events memory i word x h.at) (sym same) h.moment;
          at = now;
          frame = frame;
          takes_up = is;
          first = omega (arith, h.before);
          before = l2;
        })
    | inr h ↦ inr (record { moment = h.moment; is = h.is; at = now; frame = frame; takes_up = is; first = omega (arith, h.first, h.before); before = l2 })
  ]

  done_here : (now node : ℕ) (g : FrameId) (x : ℕ) (a : Act) → events now ≡ Acts node g a → x ≡ now → Good (suc now) node x
  done_here now node g x a is same other word ax =
      inl (acts_node (access_node other word x ax) (subst (λ i. events i ≡ Acts node g a) (sym same) is))
    where
      access_node : (other word x : ℕ) → IsAccess events other word x → (frame : FrameId) × (b : Act) × (events x ≡ Acts other frame b)
      access_node other word x (inl (inl y)) = (y.1.frame, Write word y.0, y.1.is)
      access_node other word x (inl (inr y)) = (y.1.frame, Read word y.0, y.1.is)
      access_node other word x (inr y) = (y.1.frame, Add word y.0 y.1.addend, y.1.is)

      acts_node : ((frame : FrameId) × (b : Act) × (events x ≡ Acts other frame b)) → events x ≡ Acts node g a → other ≡ node
      acts_node k k' = let h = k.2 in cc

  abbrev Fines : ℕ → Type 0
  Fines now = (i : ℕ) → i ≤ now → Fine i

  from_join : (now node : ℕ) (frame d : FrameId) (x : ℕ) → Fines now → IsOn frame (stack now node) → events now ≡ Acts node frame Sync →
      Away events stack now frame d → Early events now d x → Good (suc now) node x
  from_join now node frame d x fines on is a m =
      let jd = joins.joined_done events memory has_returned stack edges taken now node frame d is a in
      let j = jd.joined in
      let dn = jd.done in
      let (on_d, r) = places.done_mem events memory has_returned stack edges.frames dn.post dn.sender dn.receiver frame d dn.is in
      let old : Early events dn.post d x =
      frozen d x dn.post now ((inv dn.post).born dn.sender d on_d) (returned_quiet d dn.post now r) (omega (arith, dn.before, j.before))
      m in
      let g = (fines dn.post (omega (arith, dn.before, j.before))).early dn.sender d x on_d old in
      let same_node : node ≡ j.node =
      joins.only_there events memory has_returned stack edges taken frame j.at j.node j.is now j.last j.before node on in
      let good : Good (suc now) (j.node) x =
      passed_on dn.post dn.sender j.at j.node frame (suc now) x
      (edges.frames.clean dn.post dn.sender dn.receiver (Done frame d) dn.is tt) g (early_before dn.post d x old) dn.before j.is
      (omega (arith, j.before)) in
      subst (λ i. Good (suc now) i x) (sym same_node) good

  -- the frame that acts
  acting : (now node : ℕ) (g : FrameId) (x : ℕ) (a : Act) → Fines now → events now ≡ Acts node g a → Early events (suc now) g x →
      Good (suc now) node x
  acting now node g x a fines is m =
      let on = actor_on now node g a is in
      let fine = fines now (omega arith) in
      elim (blocks.early_step events memory has_returned stack edges now g x m) [
        | inl old ↦ good_more now node x (fine.early node g x on old)
        | inr (blocks.Own o same) ↦ done_here now node g x a is same
        | inr (blocks.ByBirth b) ↦
            absurd (places.not_again events memory has_returned stack edges.frames now node g now (inv now) on (omega arith) (b.node, b.parent, b.is))
        | inr (blocks.ByMerge k) ↦
            let same_node : k.node ≡ node = (inv now).apart k.node node g (actor_on now k.node g Sync k.is) on in
            let is' : events now ≡ Acts node g Sync = subst (λ i. events now ≡ Acts i g Sync) same_node k.is in
            elim (blocks.here_or_away events memory has_returned stack edges now g k.child k.kid) [
              | inl h ↦ good_more now node x
                  (fine.kept node g k.child x on h (joins.here_returned events memory has_returned stack edges taken now node g k.child is' h) k.early)
              | inr h ↦ from_join now node g k.child x fines on is' h k.early
            ]
      ]

  old_early : (now node : ℕ) (frame : FrameId) (x : ℕ) → Fines now → IsOn frame (stack now node) → Early events (suc now) frame x →
      Good (suc now) node x
  old_early now node frame x fines on m = elim (blocks.early_step events memory has_returned stack edges now frame x m) [
    | inl old ↦ good_more now node x ((fines now (omega arith)).early node frame x on old)
    | inr (blocks.Own (other, a, is) same) ↦
        let same_node : other ≡ node = (inv now).apart other node frame (actor_on now other frame a is) on in
        acting now node frame x a fines (subst (λ i. events now ≡ Acts i frame a) same_node is) m
    | inr (blocks.ByMerge k) ↦
        let same_node : k.node ≡ node = (inv now).apart k.node node frame (actor_on now k.node frame Sync k.is) on in
        acting now node frame x Sync fines (subst (λ i. events now ≡ Acts i frame Sync) same_node k.is) m
    | inr (blocks.ByBirth b) ↦
        absurd (places.not_again events memory has_returned stack edges.frames now node frame now (inv now) on (omega arith) (b.node, b.parent, b.is))
  ]

  -- a frame that was spawned now
  new_early : (now node : ℕ) (g frame : FrameId) (x : ℕ) → Fines now → events now ≡ Acts node g (Spawn frame) →
      Early events (suc now) frame x → Good (suc now) node x
  new_early now node g frame x fines is m = elim (blocks.early_step events memory has_returned stack edges now frame x m) [
    | inl old ↦ absurd (not_born_twice frame now now (early_born now frame x old) (omega arith) (node, g, is))
    | inr (blocks.Own o same) ↦ absurd (not_born_twice frame now now (actor_born now frame o) (omega arith) (node, g, is))
    | inr (blocks.ByMerge k) ↦ let h = k.is in absurd cc
    | inr (blocks.ByBirth b) ↦
        let h = b.is in
        let parent : b.parent ≡ g = cc in
        elim (b.early) [
          | inl k ↦ good_more now node x
              ((fines now (omega arith)).early node g x (actor_on now node g (Spawn frame) is) (subst (λ i. Early events now i x) parent k))
          | inr same ↦ done_here now node g x (Spawn frame) is same
        ]
  ]

  old_kept : (now node : ℕ) (frame d : FrameId) (x : ℕ) → Fines now → IsOn frame (stack now node) → Here events stack (suc now) frame d →
      has_returned (suc now) d ≡ true → Early events (suc now) d x → Good (suc now) node x
  old_kept now node frame d x fines on h r m = elim (blocks.here_step events memory has_returned stack edges now frame d h) [
    | inr (other, is) ↦
        let same_node : other ≡ node = (inv now).apart other node frame (actor_on now other frame (Spawn d) is) on in
        new_early now node frame d x fines (subst (λ i. events now ≡ Acts i frame (Spawn d)) same_node is) m
    | inl old ↦ elim (blocks.stands events memory has_returned stack edges now frame d old) [
      | inl rn ↦
          let b = here_born now frame d old in
          let m' = frozen d x now (suc now) (inr (b.birth, b.before, b.spawned)) (returned_quiet d now (suc now) rn) (omega arith) m in
          good_more now node x ((fines now (omega arith)).kept node frame d x on old rn m')
      | inr t ↦
          let same_node : t.node ≡ node =
          (inv now).apart t.node node frame
          (subst (λ l. IsOn frame l) (sym t.is) (mem_right frame t.front (d ∷ (frame ∷ t.back)) (inr (inl refl)))) on in
          old_early now node d x fines
          (subst (λ i. IsOn d (stack now i)) same_node (subst (λ l. IsOn d l) (sym t.is) (mem_middle d t.front (frame ∷ t.back)))) m
    ]
  ]

  -- a frame that is taken up now
  module _ (now node : ℕ) (frame : FrameId) (fines : Fines now) (is : events now ≡ TakeUp node frame) where
    from : places.Sent events memory has_returned stack edges.frames now node frame
    from =
        places.sent events memory has_returned stack edges.frames now node frame (places.all_invs events memory has_returned stack edges.frames taken now)
        (taken now) is

    quiet : Quiet frame (from.post) (suc now)
    quiet i h l (other, a, is') = elim (compare from.post i) [
      | Same3 same ↦ from.quiet frame (subst (λ j. ActOf events frame j) (sym same) (other, a, is'))
      | More3 l' ↦ absurd (omega arith)
      | Less3 l' ↦ places.sent_out events memory has_returned stack edges.frames now node frame
          (places.all_invs events memory has_returned stack edges.frames taken now) from i l' (omega arith) other (actor_on i other frame a is')
    ]

    up_early : (x : ℕ) → Early events (suc now) frame x → Good (suc now) node x
    up_early x m =
        let old = frozen frame x from.post (suc now) ((inv from.post).born from.node frame from.on) quiet (omega (arith, from.before)) m in
        let g = (fines from.post (omega (arith, from.before))).early from.node frame x from.on old in
        passed_on from.post from.node now node frame (suc now) x from.clean g (early_before from.post frame x old) from.before is (omega arith)

    up_kept : (d : FrameId) (x : ℕ) → Here events stack (suc now) frame d → Early events (suc now) d x → Good (suc now) node x
    up_kept d x h m =
        let h1 = here_frozen frame d (suc from.post) (suc now) (λ i k k'. quiet i (omega arith) k') (omega (arith, from.before)) h in
        let h0 = here_frozen frame d from.post (suc from.post) (λ i k k'. quiet i k (omega (arith, from.before))) (omega arith) h1 in
        let r0 : has_returned (from.post) d ≡ true =
        elim (blocks.kept events memory has_returned stack edges from.post frame d h1) [
          | inl r ↦ r
          | inr t ↦ absurd (from.out t.node (subst (λ l. IsOn frame l) (sym t.is) (mem_right frame t.front (d ∷ (frame ∷ t.back)) (inr (inl refl)))))
        ] in
        let b = here_born from.post frame d h0 in
        let old =
        frozen d x from.post (suc now) (inr (b.birth, b.before, b.spawned)) (returned_quiet d from.post (suc now) r0) (omega (arith, from.before)) m in
        let g = (fines from.post (omega (arith, from.before))).kept from.node frame d x from.on h0 r0 old in
        passed_on from.post from.node now node frame (suc now) x from.clean g (early_before from.post d x old) from.before is (omega arith)

  next_fine : (now : ℕ) → Fines now → Fine (suc now)
  next_fine now fines = record {
    early = λ node frame x on m. elim (places.comes events memory has_returned stack edges.frames now node frame on) [
      | inl old ↦ old_early now node frame x fines old m
      | inr (inl (g, is)) ↦ new_early now node g frame x fines is m
      | inr (inr is) ↦ up_early now node frame fines is x m
    ];
    kept = λ node frame d x on h r m. elim (places.comes events memory has_returned stack edges.frames now node frame on) [
      | inl old ↦ old_kept now node frame d x fines old h r m
      | inr (inl (g, is)) ↦ elim (blocks.here_step events memory has_returned stack edges now frame d h) [
        | inl k ↦ absurd (not_born_twice frame now now ((here_born now frame d k).parent) (omega arith) (node, g, is))
        | inr (other, is') ↦ absurd (not_born_twice frame now now (actor_born now frame (other, Spawn d, is')) (omega arith) (node, g, is))
      ]
      | inr (inr is) ↦ up_kept now node frame fines is d x h m
    ];
  }

  first_fine : Fine 0
  unfolding Early Here
  first_fine = record { early = λ node frame x on m. absurd m; kept = λ node frame d x on h r m. absurd h }

  all_fines : (now : ℕ) → Fines now
  all_fines zero i h = subst (λ j. Fine j) (omega arith) first_fine
  all_fines (suc now) i h = elim (compare i (suc now)) [
    | Less3 l ↦ all_fines now i (omega arith)
    | Same3 same ↦ subst (λ j. Fine j) (sym same) (next_fine now (all_fines now))
    | More3 l ↦ absurd (omega arith)
  ]

  -- what is early for a frame stands before its act in the home order
  pub early_first : (end : ℕ) → (other node : ℕ) (frame : FrameId) (word x y : ℕ) (a : Act) → y < end → events y ≡ Acts node frame a →
      Early events y frame x → IsAccess events other word x → IsAccess events node word y → Before events memory end word other x node y
  early_first end other node frame word x y a yn is m ax ay =
      let g = (all_fines y y (omega arith)).early node frame x (actor_on y node frame a is) m in
      ups.good_before events memory caching has_returned stack edges end other node word x y yn g ax ay (early_before y frame x m)
