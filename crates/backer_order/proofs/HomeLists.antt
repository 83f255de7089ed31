-- The home order is total and transitive on the accesses of a word, so inserting one after the other gives the list of the word.
use Rattle.std.proofs.Common.{◌≡◌, ◌≢◌, ℕ, ℤ, zero, suc, ◌<◌, ◌≤◌, ◌⊎◌, inl, inr, List, [], ◌∷◌, refl, sym, ◌∙◌, subst, arith}
use Rattle.page_messages.specs.declared.closure.FrameId.{FrameId}
use Rattle.backer_order.specs.Log.{Act, Read, Write, Add, Event, Acts, Events, SharedMemory}
use Rattle.backer_order.specs.Moments.{IsAccess}
use Rattle.backer_order.specs.Rules.{Caching}
use Rattle.backer_order.specs.HomeOrder.{Before}
use Rattle.backer_order.specs.HomeList.{Entry, Has, Sorted, HomeList}
use Rattle.backer_order.proofs.Search.{Less3, Same3, More3, compare}
use Rattle.backer_order.proofs.Decide.{same_or_not}
use Rattle.backer_order.proofs.ReadsLast as last

module _ (events : Events) (memory : SharedMemory) (caching : Caching events memory) (now word : ℕ) where
  abbrev Bef : ℕ → ℕ → ℕ → ℕ → Type 0
  Bef node x other y = Before events memory now word node x other y

  lex : (a b d x y z : ℕ) → (a < b) ⊎ ((a ≡ b) × (x < y)) → (b < d) ⊎ ((b ≡ d) × (y < z)) → (a < d) ⊎ ((a ≡ d) × (x < z))
  lex a b d x y z (inl h) (inl k) = inl (omega arith)
  lex a b d x y z (inl h) (inr k) = inl (omega (arith, k.0))
  lex a b d x y z (inr h) (inl k) = inl (omega (arith, h.0))
  lex a b d x y z (inr h) (inr k) = inr (h.0 ∙ k.0, omega (arith, h.1, k.1))

  pub trans : (node x other y r z : ℕ) → Bef node x other y → Bef other y r z → Bef node x r z
  trans node x other y r z (inl (inl a)) (inl (inl b)) =
      let e = last.moment_unique events memory caching other word y a.second b.first a.second_is b.first_is in
      inl (inl (record {
        first = a.first;
        second = b.second;
        first_is = a.first_is;
        second_is = b.second_is;
        first_in = a.first_in;
        second_in = b.second_in;
        order = lex a.first a.second b.second x y z a.order (subst (λ i. (i < b.second) ⊎ ((i ≡ b.second) × (y < z))) (sym e) b.order);
      }))
  trans node x other y r z (inl (inl a)) (inl (inr b)) =
      inl (inr (record { first = a.first; first_is = a.first_is; first_in = a.first_in; second_is = b.second_is }))
  trans node x other y r z (inl (inl a)) (inr b) = absurd (b.first_is a.second a.second_in a.second_is)
  trans node x other y r z (inl (inr a)) (inl (inl b)) = absurd (a.second_is b.first b.first_in b.first_is)
  trans node x other y r z (inl (inr a)) (inl (inr b)) = absurd (a.second_is b.first b.first_in b.first_is)
  trans node x other y r z (inl (inr a)) (inr b) =
      inl (inr (record { first = a.first; first_is = a.first_is; first_in = a.first_in; second_is = b.second_is }))
  trans node x other y r z (inr a) (inl (inl b)) = absurd (a.second_is b.first b.first_in b.first_is)
  trans node x other y r z (inr a) (inl (inr b)) = absurd (a.second_is b.first b.first_in b.first_is)
  trans node x other y r z (inr a) (inr b) =
      inr (record { first_is = a.first_is; second_is = b.second_is; order = lex node other r x y z a.order b.order })

  tri : (node x other y : ℕ) → x < now → y < now → x ≢ y → IsAccess events node word x → IsAccess events other word y →
      Bef node x other y ⊎ Bef other y node x
  tri node x other y lx ly ne ax ay = elim (last.decide_moment events memory caching now node word x lx ax) [
    | inl (m, mn, mo) ↦ elim (last.decide_moment events memory caching now other word y ly ay) [
      | inl (m', mn', mo') ↦ elim (compare m m') [
        | Less3 h ↦ inl (inl (inl (record { first = m; second = m'; first_is = mo; second_is = mo'; first_in = mn; second_in = mn'; order = inl h })))
        | More3 h ↦ inr (inl (inl (record { first = m'; second = m; first_is = mo'; second_is = mo; first_in = mn'; second_in = mn; order = inl h })))
        | Same3 h ↦ elim (compare x y) [
          | Less3 k ↦ inl (inl (inl (record { first = m; second = m'; first_is = mo; second_is = mo'; first_in = mn; second_in = mn'; order = inr (h, k) })))
          | Same3 k ↦ absurd (ne k)
          | More3 k ↦
              inr (inl (inl (record { first = m'; second = m; first_is = mo'; second_is = mo; first_in = mn'; second_in = mn; order = inr (sym h, k) })))
        ]
      ]
      | inr hn ↦ inl (inl (inr (record { first = m; first_is = mo; first_in = mn; second_is = hn })))
    ]
    | inr hm ↦ elim (last.decide_moment events memory caching now other word y ly ay) [
      | inl (m', mn', mo') ↦ inr (inl (inr (record { first = m'; first_is = mo'; first_in = mn'; second_is = hm })))
      | inr hn ↦ elim (compare node other) [
        | Less3 h ↦ inl (inr (record { first_is = hm; second_is = hn; order = inl h }))
        | More3 h ↦ inr (inr (record { first_is = hn; second_is = hm; order = inl h }))
        | Same3 h ↦ elim (compare x y) [
          | Less3 k ↦ inl (inr (record { first_is = hm; second_is = hn; order = inr (h, k) }))
          | Same3 k ↦ absurd (ne k)
          | More3 k ↦ inr (inr (record { first_is = hn; second_is = hm; order = inr (sym h, k) }))
        ]
      ]
    ]
  ]

  -- one node acts at a position
  one_node : (node other i : ℕ) → IsAccess events node word i → IsAccess events other word i → node ≡ other
  one_node node other i a b = acts_one node other i (acts_as node i a) (acts_as other i b)
    where
      acts_as : (node i : ℕ) → IsAccess events node word i → (frame : FrameId) × (x : Act) × (events i ≡ Acts node frame x)
      acts_as node i (inl (inl a)) = (a.1.frame, Write word a.0, a.1.is)
      acts_as node i (inl (inr a)) = (a.1.frame, Read word a.0, a.1.is)
      acts_as node i (inr a) = (a.1.frame, Add word a.0 a.1.addend, a.1.is)

      acts_one : (node other i : ℕ) → ((frame : FrameId) × (x : Act) × (events i ≡ Acts node frame x)) →
          ((frame : FrameId) × (x : Act) × (events i ≡ Acts other frame x)) → node ≡ other
      acts_one node other i a b = let h = a.2 in let k = b.2 in cc

  -- an insertion, with what it keeps
  record Inserted (a : Entry events now word) (l : List (Entry events now word)) : Type 0 where
    list : List (Entry events now word)
    keeps : (i : ℕ) → (a.at ≡ i) ⊎ Has i l → Has i list
    only : (i : ℕ) → Has i list → (a.at ≡ i) ⊎ Has i l
    sorted : Sorted events memory now word list

  at_head : (a x y : Entry events now word) → x.at ≡ y.at → Bef a.node a.at x.node x.at → Bef a.node a.at y.node y.at
  at_head a x y e b =
      let same : x.node ≡ y.node = one_node x.node y.node y.at (subst (λ i. IsAccess events x.node word i) e x.is) y.is in
      subst (λ i. Bef a.node a.at i y.at) same (subst (λ i. Bef a.node a.at x.node i) e b)

  insert : (a : Entry events now word) (l : List (Entry events now word)) → (Has (a.at) l → ⊥) → Sorted events memory now word l →
      Inserted a l
  insert a [] new so = record { list = a ∷ []; keeps = λ i h. h; only = λ i h. h; sorted = ((λ y h. absurd h), tt) }
  insert a (x ∷ l) new so = elim (tri a.node a.at x.node x.at a.inside x.inside (λ e. new (inl (sym e))) a.is x.is) [
    | inl b ↦ record {
      list = a ∷ (x ∷ l);
      keeps = λ i h. h;
      only = λ i h. h;
      sorted = ((λ y h. elim h [ inl e ↦ at_head a x y e b | inr k ↦ trans a.node a.at x.node x.at y.node y.at b (so.0 y k) ]), so);
    }
    | inr b ↦
        let r = insert a l (λ h. new (inr h)) so.1 in
        record {
          list = x ∷ r.list;
          keeps = λ i h. elim h [ inl e ↦ inr (r.keeps i (inl e)) | inr k ↦ elim k [ inl e ↦ inl e | inr k' ↦ inr (r.keeps i (inr k')) ] ];
          only = λ i h. elim h [ inl e ↦ inr (inl e) | inr k ↦ elim (r.only i k) [ inl e ↦ inl e | inr k' ↦ inr (inr k') ] ];
          sorted = ((λ y h. elim (r.only y.at h) [ inl e ↦ at_head x a y e b | inr k ↦ so.0 y k ]), r.sorted);
        }
  ]

  as_act : (node i : ℕ) → IsAccess events node word i →
      ((v : ℤ) × (frame : FrameId) × (events i ≡ Acts node frame (Write word v))) ⊎ (((v : ℤ) × (frame : FrameId) × (events i ≡ Acts node frame (Read word v)))
      ⊎ ((old : ℤ) × (frame : FrameId) × (d : ℤ) × (events i ≡ Acts node frame (Add word old d))))
  as_act node i (inl (inl a)) = inl (a.0, a.1.frame, a.1.is)
  as_act node i (inl (inr a)) = inr (inl (a.0, a.1.frame, a.1.is))
  as_act node i (inr a) = inr (inr (a.0, a.1.frame, a.1.addend, a.1.is))

  access_at : (i : ℕ) (y : Event) → events i ≡ y →
      ((node : ℕ) × IsAccess events node word i) ⊎ ((node : ℕ) → IsAccess events node word i → ⊥)
  access_at i (Acts node frame (Write u v)) is = elim (same_or_not u word) [
    | inl e ↦ inl (node, inl (inl (v, record { frame = frame; is = cc })))
    | inr ne ↦ inr (λ other a. elim (as_act other i a)
        [ inl x ↦ let h = x.2 in ne cc | inr k ↦ elim k [ inl x ↦ let h = x.2 in absurd cc | inr x ↦ let h = x.3 in absurd cc ] ])
  ]
  access_at i (Acts node frame (Read u v)) is = elim (same_or_not u word) [
    | inl e ↦ inl (node, inl (inr (v, record { frame = frame; is = cc })))
    | inr ne ↦ inr (λ other a. elim (as_act other i a)
        [ inl x ↦ let h = x.2 in absurd cc | inr k ↦ elim k [ inl x ↦ let h = x.2 in ne cc | inr x ↦ let h = x.3 in absurd cc ] ])
  ]
  access_at i (Acts node frame (Add u old d)) is = elim (same_or_not u word) [
    | inl e ↦ inl (node, inr (old, record { frame = frame; addend = d; is = cc }))
    | inr ne ↦ inr (λ other a. elim (as_act other i a)
        [ inl x ↦ let h = x.2 in absurd cc | inr k ↦ elim k [ inl x ↦ let h = x.2 in absurd cc | inr x ↦ let h = x.3 in ne cc ] ])
  ]
  access_at i y is =
      inr (λ other a. elim (as_act other i a) [ inl x ↦ let h = x.2 in cc | inr k ↦ elim k [ inl x ↦ let h = x.2 in cc | inr x ↦ let h = x.3 in cc ] ])

  record UpTo (k : ℕ) : Type 0 where
    list : List (Entry events now word)
    all : (node i : ℕ) → i < k → IsAccess events node word i → Has i list
    only : (i : ℕ) → Has i list → i < k
    sorted : Sorted events memory now word list

  up_to : (k : ℕ) → k ≤ now → UpTo k
  up_to zero h = record { list = []; all = λ node i l a. absurd (omega arith); only = λ i m. absurd m; sorted = tt }
  up_to (suc k) h =
      let u = up_to k (omega arith) in
      elim (access_at k (events k) refl) [
        | inr not ↦ record {
          list = u.list;
          all =
              λ node i l a. elim (compare i k) [
                | Less3 l' ↦ u.all node i l' a
                | Same3 e ↦ absurd (not node (subst (λ j. IsAccess events node word j) e a))
                | More3 l' ↦ absurd (omega arith)
              ];
          only = λ i m. let l = u.only i m in omega arith;
          sorted = u.sorted;
        }
        | inl (other, ak) ↦
            let r = insert (record { node = other; at = k; inside = h; is = ak }) u.list (λ m. let l = u.only k m in absurd (omega arith)) u.sorted in
            record {
              list = r.list;
              all =
                  λ node i l a. elim (compare i k) [
                    | Less3 l' ↦ r.keeps i (inr (u.all node i l' a))
                    | Same3 e ↦ r.keeps i (inl (sym e))
                    | More3 l' ↦
                        absurd (omega arith)
                  ];
              only = λ i m. elim (r.only i m) [ inl e ↦ omega arith | inr m' ↦ let l = u.only i m' in omega arith ];
              sorted = r.sorted;
            }
      ]

  pub home_list : HomeList events memory now word
  home_list = let u = up_to now (omega arith) in record { list = u.list; all = u.all; sorted = u.sorted }
