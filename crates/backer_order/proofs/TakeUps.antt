-- What a node does after a TakeUp has its moments after it; what is clean has its moments.
use Rattle.std.proofs.Common.{◌≡◌, ℕ, ℤ, ◌<◌, ◌⊎◌, inl, inr, refl, sym, subst, arith}
use Rattle.page_messages.specs.declared.closure.FrameId.{FrameId}
use Rattle.backer_order.specs.Log.{Drop, TakeUp, Events, SharedMemory}
use Rattle.backer_order.specs.Moments.{IsAccess, Arrives, ByPage, ByOwn, Resident, Stay, Moment}
use Rattle.backer_order.specs.Rules.{IsItem, Caching}
use Rattle.backer_order.specs.HomeOrder.{Before}
use Rattle.backer_order.specs.Edges.{Stacks, Returns, AllClean, Edges}
use Rattle.backer_order.proofs.Search.{Less3, Same3, More3, compare}
use Rattle.backer_order.proofs.Pages as pages
use Rattle.backer_order.proofs.ReadsLast as last

module _ (events : Events) (memory : SharedMemory) (caching : Caching events memory) where
  -- all that a clean node did has its moment
  pub clean_has : (node now word x : ℕ) → AllClean events memory node now → IsAccess events node word x → x < now →
      pages.Has events memory caching node word x now
  clean_has node now word x all ax l =
      clean_at node now word x all l ax
    where
      clean_at : (node now word x : ℕ) → AllClean events memory node now → x < now → IsAccess events node word x →
          pages.Has events memory caching node word x now
      clean_at node now word x all l (inl tx) =
          let (a, words, r) = caching.access.resident node word x tx in pages.settled events memory caching node word x a now words tx r l
          (λ z iz h h'. all word z iz (omega arith))
      clean_at node now word x all l (inr ax) = record { at = x; moment = inr (ax, refl); before = l }

  access_no_drop : (node word x page : ℕ) → IsAccess events node word x → events x ≡ Drop node page → ⊥
  access_no_drop node word x page ax d =
      pages.act_no_drop events memory caching x node page (pages.access_act events memory caching node word x ax) d

  take_up_no_arrival : (now node : ℕ) (frame : FrameId) (page : ℕ) (words : ℕ → ℤ) → events now ≡ TakeUp node frame →
      Arrives events node page now words → ⊥
  take_up_no_arrival now node frame page words is (ByPage h k t e) = cc
  take_up_no_arrival now node frame page words is (ByOwn e) = cc

  after_stay : (has_returned : Returns) (stack : Stacks) → Edges events memory has_returned stack →
      (node : ℕ) (frame : FrameId) (word y m now : ℕ) → events now ≡ TakeUp node frame → IsAccess events node word y → now < y →
      Stay events memory node word y m → now < m
  after_stay has_returned stack edges node frame word y m now is ay l mo =
      let (a, words, r) = pages.start_of events memory caching node word y m mo in
      let b = pages.behind events memory caching node (memory.page word) a words r.arrives in
      let af = pages.after_source events memory caching node word y m mo b in
      let item : IsItem memory node (events now) = subst (λ i. IsItem memory node i) (sym is) refl in
      elim (compare a now) [
        | Same3 h ↦
            absurd (take_up_no_arrival now node frame (memory.page word) words is (subst (λ i. Arrives events node (memory.page word) i words) h r.arrives))
        | More3 h ↦ let fa = (b.after now item h).1 in omega arith
        | Less3 h ↦
            let rn : Resident events node (memory.page word) now a words =
            pages.resident_at events memory caching node (memory.page word) y now a words r h (omega arith) in
            let d = edges.drops now node frame (memory.page word) a words is rn in
            elim (compare d.at y) [
              | Less3 h' ↦ absurd (r.kept d.at (omega (arith, d.after)) h' d.is)
              | Same3 h' ↦ absurd (access_no_drop node word y (memory.page word) ay (subst (λ i. events i ≡ Drop node (memory.page word)) h' d.is))
              | More3 h' ↦ let (page', is') = d.between y l h' in absurd (access_no_drop node word y page' ay is')
            ]
      ]

  pub after_take_up : (has_returned : Returns) (stack : Stacks) → Edges events memory has_returned stack →
      (node : ℕ) (frame : FrameId) (word y m now : ℕ) → events now ≡ TakeUp node frame → IsAccess events node word y → now < y →
      Moment events memory node word y m → now < m
  after_take_up has_returned stack edges node frame word y m now is ay l (inl mo) =
      after_stay has_returned stack edges node frame word y m now is ay l mo.1
  after_take_up has_returned stack edges node frame word y m now is ay l (inr mo) = let h = mo.1 in omega arith

  -- what was done by the node, or has its moment before a TakeUp of the node
  pub record Passed (other word x node now : ℕ) : Type 0 where
    pub moment : ℕ
    pub is : Moment events memory other word x moment
    pub at : ℕ
    pub frame : FrameId
    pub takes_up : events at ≡ TakeUp node frame
    pub first : moment < at
    pub before : at < now

  abbrev pub Good : ℕ → ℕ → ℕ → Type 0
  Good now node x = (other word : ℕ) → IsAccess events other word x → (other ≡ node) ⊎ Passed other word x node now

  -- and this stands before what the node does now
  pub good_before : (has_returned : Returns) (stack : Stacks) → Edges events memory has_returned stack → (end : ℕ) →
      (other node word x y : ℕ) → y < end → Good y node x → IsAccess events other word x → IsAccess events node word y → x < y →
      Before events memory end word other x node y
  good_before has_returned stack edges end other node word x y yn good ax ay l =
      elim (last.decide_moment events memory caching end node word y yn ay) [
        | inl (m, lm, mo) ↦ elim (good other word ax) [
          | inr k ↦
              let h = after_take_up has_returned stack edges node k.frame word y m k.at k.takes_up ay k.before mo in
              inl (inl (record {
                first = k.moment;
                second = m;
                first_is = k.is;
                second_is = mo;
                first_in = omega (arith, k.first, k.before);
                second_in = lm;
                order = inl (omega (arith, k.first));
              }))
          | inl same ↦
              let ax' : IsAccess events node word x = subst (λ i. IsAccess events i word x) same ax in
              let h = pages.never_fall events memory caching node word x y m ax' ay l mo in
              let hm : Moment events memory other word x h.at = subst (λ i. Moment events memory i word x h.at) (sym same) h.moment in
              elim (compare h.at m) [
                | Less3 k ↦
                    inl (inl (record { first = h.at; second = m; first_is = hm; second_is = mo; first_in = omega arith; second_in = lm; order = inl k }))
                | Same3 k ↦
                    inl (inl (record { first = h.at; second = m; first_is = hm; second_is = mo; first_in = omega arith; second_in = lm; order = inr (k, l) }))
                | More3 k ↦ absurd (omega (arith, h.before))
              ]
        ]
        | inr hn ↦ elim (last.decide_moment events memory caching end other word x (omega arith) ax) [
          | inl (m, lm, mo) ↦ inl (inr (record { first = m; first_is = mo; first_in = lm; second_is = hn }))
          | inr hx ↦ elim (good other word ax) [
            | inl same ↦ inr (record { first_is = hx; second_is = hn; order = inr (same, l) })
            | inr k ↦ absurd (hx k.moment (omega (arith, k.first, k.before)) k.is)
          ]
        ]
      ]
