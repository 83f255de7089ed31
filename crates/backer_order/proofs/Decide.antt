-- What stands at a position can be told.
use Rattle.std.proofs.Common.{◌≡◌, ℕ, ℤ, ◌⊎◌, inl, inr, List, [], ◌∷◌, refl, sym, ◌∙◌, ap, subst, arith}
use Rattle.page_messages.specs.declared.closure.FrameId.{FrameId}
use Rattle.backer_order.specs.Log.{Write, Part, Note, Page, Reconcile, Event, Acts, Drop, OwnFetch, OwnReconcile, Post, Took, Events}
use Rattle.backer_order.specs.Moments.{IsWrite, ByPage, ByOwn, IsArrival, HasPart, ByPart, ByItem, Sends, TakenAt, Received, ByTaking, AtItem}
use Rattle.backer_order.proofs.Search.{Decided, Less3, Same3, More3, compare}

pub same_or_not : (a b : ℕ) → Decided (a ≡ b)
same_or_not a b =
    elim (compare a b) [ Less3 l ↦ inr (λ e. absurd (omega arith)) | Same3 e ↦ inl e | More3 l ↦ inr (λ e. absurd (omega arith)) ]

same_frame : (a b : FrameId) → a.node ≡ b.node → a.number ≡ b.number → a ≡ b
same_frame a b e h = ap (λ i. record { node = i; number = a.number }) e ∙ ap (λ i. record { node = b.node; number = i }) h

pub same_frame_or_not : (a b : FrameId) → Decided (a ≡ b)
same_frame_or_not a b = elim (same_or_not a.node b.node) [
  | inr ne ↦ inr (λ e. ne (ap (λ i. i.node) e))
  | inl e ↦ elim (same_or_not a.number b.number) [
    | inr ne ↦ inr (λ h. ne (ap (λ i. i.number) h))
    | inl h ↦ inl (same_frame a b e h)
  ]
]

module _ (events : Events) where
  write_at : (node word i : ℕ) (e : Event) → events i ≡ e → Decided (IsWrite events node word i)
  write_at node word i (Acts other frame (Write u v)) is = elim (same_or_not other node) [
    | inr ne ↦ inr (λ x. let h = x.1.is in ne cc)
    | inl e ↦ elim (same_or_not u word) [
      | inr ne ↦ inr (λ x. let h = x.1.is in ne cc)
      | inl e' ↦ inl (v, record { frame = frame; is = cc })
    ]
  ]
  write_at node word i e is = inr (λ x. let h = x.1.is in cc)

  pub decide_write : (node word i : ℕ) → Decided (IsWrite events node word i)
  decide_write node word i = write_at node word i (events i) refl

  part_in : (page : ℕ) (parts : List Part) → Decided ((part : Part) × HasPart part parts × (part.page ≡ page))
  part_in page [] = inr (λ x. x.1)
  part_in page (y ∷ ys) = elim (same_or_not (y.page) page) [
    | inl e ↦ inl (y, inl refl, e)
    | inr ne ↦ elim (part_in page ys) [
      | inl x ↦ inl (x.0, inr x.1, x.2)
      | inr no_more ↦ inr (λ x. elim (x.1) [ inl same ↦ ne (ap (λ i. i.page) same ∙ x.2) | inr m ↦ no_more (x.0, m, x.2) ])
    ]
  ]

  no_sending : (node page i : ℕ) (e : Event) → events i ≡ e →
      ((other : ℕ) (parts : List Part) → e ≡ Post node other (Reconcile parts) → ⊥) → ((part : Part) → e ≡ OwnReconcile node part → ⊥) →
      Sends events node page i → ⊥
  no_sending node page i e is a b (part, ByPart other parts h m, same) = a other parts (sym is ∙ h)
  no_sending node page i e is a b (part, ByItem h, same) = b part (sym is ∙ h)

  parts_same : (i node other node' other' : ℕ) (parts parts' : List Part) → events i ≡ Post node other (Reconcile parts) →
      events i ≡ Post node' other' (Reconcile parts') → (parts ≡ parts') × (node ≡ node') × (other ≡ other')
  parts_same i node other node' other' parts parts' h h' = (cc, cc, cc)

  own_same : (i node node' : ℕ) (part part' : Part) → events i ≡ OwnReconcile node part → events i ≡ OwnReconcile node' part' →
      (part ≡ part') × (node ≡ node')
  own_same i node node' part part' h h' = (cc, cc)

  clash : (i node node' other' : ℕ) (part : Part) (note : Note) → events i ≡ OwnReconcile node part → events i ≡ Post node' other' note → ⊥
  clash i node node' other' part note h h' = cc

  no_part : (node page i other r : ℕ) (parts : List Part) → events i ≡ Post other r (Reconcile parts) →
      ((part : Part) × HasPart part parts × (part.page ≡ page) → ⊥) → Sends events node page i → ⊥
  no_part node page i other r parts is none (part, ByPart other' parts' h m, same) =
      none (part, subst (λ l. HasPart part l) (parts_same i node other' other r parts' parts h is).0 m, same)
  no_part node page i other r parts is none (part, ByItem h, same) = clash i node other r part (Reconcile parts) h is

  not_mine : (node page i other r : ℕ) (parts : List Part) → events i ≡ Post other r (Reconcile parts) → (other ≡ node → ⊥) →
      Sends events node page i → ⊥
  not_mine node page i other r parts is ne (part, ByPart other' parts' h m, same) =
      ne ((parts_same i other r node other' parts parts' is h).1)
  not_mine node page i other r parts is ne (part, ByItem h, same) = clash i node other r part (Reconcile parts) h is

  not_own : (node page i other : ℕ) (x : Part) → events i ≡ OwnReconcile other x → ((other ≡ node) × (x.page ≡ page) → ⊥) →
      Sends events node page i → ⊥
  not_own node page i other x is ne (part, ByPart other' parts' h m, same) = clash i other node other' x (Reconcile parts') is h
  not_own node page i other x is ne (part, ByItem h, same) =
      let k = own_same i other node x part is h in ne (k.1, ap (λ j. j.page) k.0 ∙ same)

  sending_at : (node page i : ℕ) (e : Event) → events i ≡ e → Decided (Sends events node page i)
  sending_at node page i (Post other r (Reconcile parts)) is = elim (same_or_not other node) [
    | inr ne ↦ inr (not_mine node page i other r parts is ne)
    | inl e ↦ elim (part_in page parts) [
      | inr none ↦ inr (no_part node page i other r parts is none)
      | inl x ↦ inl (x.0, ByPart r parts (subst (λ k. events i ≡ Post k r (Reconcile parts)) e is) x.1, x.2)
    ]
  ]
  sending_at node page i (OwnReconcile other x) is = elim (same_or_not other node) [
    | inr ne ↦ inr (not_own node page i other x is (λ k. ne k.0))
    | inl e ↦ elim (same_or_not (x.page) page) [
      | inr ne ↦ inr (not_own node page i other x is (λ k. ne k.1))
      | inl e' ↦ inl (x, ByItem (subst (λ k. events i ≡ OwnReconcile k x) e is), e')
    ]
  ]
  sending_at node page i e is = inr (no_sending node page i e is (λ other parts h. cc) (λ part h. cc))

  pub decide_sending : (node page i : ℕ) → Decided (Sends events node page i)
  decide_sending node page i = sending_at node page i (events i) refl

  drop_at : (node page i : ℕ) (e : Event) → events i ≡ e → Decided (events i ≡ Drop node page)
  drop_at node page i (Drop other u) is = elim (same_or_not other node) [
    | inr ne ↦ inr (λ x. ne cc)
    | inl e ↦ elim (same_or_not u page) [ inr ne ↦ inr (λ x. ne cc) | inl e' ↦ inl cc ]
  ]
  drop_at node page i e is = inr (λ x. cc)

  pub decide_drop : (node page i : ℕ) → Decided (events i ≡ Drop node page)
  decide_drop node page i = drop_at node page i (events i) refl

  -- what an arrival is
  as_page : (node page a : ℕ) → IsArrival events node page a →
      ((h k : ℕ) × (words : ℕ → ℤ) × (events a ≡ Took node k) × (events k ≡ Post h node (Page page words)))
      ⊎ ((words : ℕ → ℤ) × (events a ≡ OwnFetch node page words))
  as_page node page a (words, ByPage h k t e) = inl (h, k, words, t, e)
  as_page node page a (words, ByOwn e) = inr (words, e)

  page_at : (node page a k : ℕ) (e : Event) → events k ≡ e → events a ≡ Took node k → Decided (IsArrival events node page a)
  page_at node page a k (Post other r (Page u ws)) is t = elim (same_or_not r node) [
    | inr ne ↦ inr (λ x. elim (as_page node page a x) [
      | inl (h, k', ws', t', e') ↦
          let same : k' ≡ k = cc in
          let e'' : events k ≡ Post h node (Page page ws') = subst (λ i. events i ≡ Post h node (Page page ws')) same e' in ne cc
      | inr (ws', e') ↦ absurd cc
    ])
    | inl e ↦ elim (same_or_not u page) [
      | inr ne ↦ inr (λ x. elim (as_page node page a x) [
        | inl (h, k', ws', t', e') ↦ let same : k' ≡ k = cc in let e'' : events k
            ≡ Post h node (Page page ws') = subst (λ i. events i ≡ Post h node (Page page ws')) same e' in ne cc
        | inr (ws', e') ↦ absurd cc
      ])
      | inl e' ↦ inl (ws, ByPage other k t cc)
    ]
  ]
  page_at node page a k e is t =
      inr (λ x. elim (as_page node page a x) [
        | inl (h, k', ws', t', e') ↦
            let same : k' ≡ k = cc in
            let e'' : events k ≡ Post h node (Page page ws') = subst (λ i. events i ≡ Post h node (Page page ws')) same e' in absurd cc
        | inr (ws', e') ↦ absurd cc
      ])

  arrival_at : (node page a : ℕ) (e : Event) → events a ≡ e → Decided (IsArrival events node page a)
  arrival_at node page a (Took other k) is = elim (same_or_not other node) [
    | inr ne ↦ inr (λ x. elim (as_page node page a x) [ inl (h, k', ws', t', e') ↦ ne cc | inr (ws', e') ↦ absurd cc ])
    | inl e ↦ page_at node page a k (events k) refl (subst (λ x. events a ≡ Took x k) e is)
  ]
  arrival_at node page a (OwnFetch other u ws) is = elim (same_or_not other node) [
    | inr ne ↦ inr (λ x. elim (as_page node page a x) [ inl (h, k', ws', t', e') ↦ absurd cc | inr (ws', e') ↦ ne cc ])
    | inl e ↦ elim (same_or_not u page) [
      | inr ne ↦ inr (λ x. elim (as_page node page a x) [ inl (h, k', ws', t', e') ↦ absurd cc | inr (ws', e') ↦ ne cc ])
      | inl e' ↦ inl (ws, ByOwn cc)
    ]
  ]
  arrival_at node page a e is = inr (λ x. elim (as_page node page a x) [ inl (h, k', ws', t', e') ↦ absurd cc | inr (ws', e') ↦ absurd cc ])

  pub decide_arrival : (node page a : ℕ) → Decided (IsArrival events node page a)
  decide_arrival node page a = arrival_at node page a (events a) refl

  taken_at : (k i : ℕ) (e : Event) → events i ≡ e → Decided (TakenAt events k i)
  taken_at k i (Took other u) is = elim (same_or_not u k) [
    | inr ne ↦ inr (λ x. let h = x.is in ne cc)
    | inl e ↦ inl (record { taker = other; is = cc })
  ]
  taken_at k i e is = inr (λ x. let h = x.is in cc)

  pub decide_taken : (k i : ℕ) → Decided (TakenAt events k i)
  decide_taken k i = taken_at k i (events i) refl

  item_at : (k : ℕ) (e : Event) → events k ≡ e → Decided ((node : ℕ) × (part : Part) × (events k ≡ OwnReconcile node part))
  item_at k (OwnReconcile node part) is = inl (node, part, is)
  item_at k e is = inr (λ x. let h = x.2 in cc)

  pub decide_item : (k : ℕ) → Decided ((node : ℕ) × (part : Part) × (events k ≡ OwnReconcile node part))
  decide_item k = item_at k (events k) refl

  received_or : (k i : ℕ) → ((node : ℕ) × (part : Part) × (events k ≡ OwnReconcile node part) → ⊥) → (TakenAt events k i → ⊥) →
      Received events k i → ⊥
  received_or k i none nt (ByTaking t) = nt t
  received_or k i none nt (AtItem node part is e) = none (node, part, is)

  received_not : (k i : ℕ) → (i ≡ k → ⊥) → (TakenAt events k i → ⊥) → Received events k i → ⊥
  received_not k i ne nt (ByTaking t) = nt t
  received_not k i ne nt (AtItem node part is e) = ne e

  pub decide_received : (k i : ℕ) → Decided (Received events k i)
  decide_received k i = elim (decide_taken k i) [
    | inl t ↦ inl (ByTaking t)
    | inr nt ↦ elim (decide_item k) [
      | inr none ↦ inr (received_or k i none nt)
      | inl (node, part, is) ↦ elim (same_or_not i k) [
        | inl e ↦ inl (AtItem node part is e)
        | inr ne ↦ inr (received_not k i ne nt)
      ]
    ]
  ]
