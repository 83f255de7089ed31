-- Children of the current block: separated, or returned, or directly above their parent.
use Rattle.std.proofs.Common.{◌≡◌, ℕ, zero, suc, ◌⊎◌, inl, inr, true, List, [], ◌∷◌, ◌++◌, append_assoc, refl, sym, ◌∙◌, ap, subst}
use Rattle.page_messages.specs.declared.closure.FrameId.{FrameId}
use Rattle.backer_order.specs.Log.{Act, Read, Write, Add, Print, Spawn, Sync, Fetch, Grant, Done, Park, AddTo, Event, Acts, TakeUp, OwnFetch, Post, Tick, Events, SharedMemory}
use Rattle.backer_order.specs.Edges.{Stacks, Returns, IsOn, Each, ActOf, Others, Moves, Bottom, Empties, StackRule, BlockChild, block_after, Early, early_after, Away, away_after, Here, here_after, Edges}
use Rattle.backer_order.proofs.Decide.{same_or_not, same_frame_or_not}
use Rattle.backer_order.proofs.Lists.{mem_middle, cut_front, cut_last, bottom_same, assoc}

module _ (events : Events) (memory : SharedMemory) (has_returned : Returns) (stack : Stacks) (edges : Edges events memory has_returned stack) where
  -- ---- one step of each view

  pub record Merged (now : ℕ) (frame : FrameId) (x : ℕ) : Type 0 where
    pub node : ℕ
    pub is : events now ≡ Acts node frame Sync
    pub child : FrameId
    pub kid : BlockChild events now frame child
    pub early : Early events now child x

  pub record Begins (now : ℕ) (frame : FrameId) (x : ℕ) : Type 0 where
    pub node : ℕ
    pub parent : FrameId
    pub is : events now ≡ Acts node parent (Spawn frame)
    pub early : Early events now parent x ⊎ (x ≡ now)

  pub data Newly (now : ℕ) (frame : FrameId) (x : ℕ) : Type 0 where
    Own : ActOf events frame now → x ≡ now → Newly now frame x
    ByMerge : Merged now frame x → Newly now frame x
    ByBirth : Begins now frame x → Newly now frame x

  own : (now node : ℕ) (g frame : FrameId) (x : ℕ) (a : Act) → events now ≡ Acts node g a → (g ≡ frame) → x ≡ now → Newly now frame x
  own now node g frame x a is same h = Own (node, a, subst (λ i. events now ≡ Acts node i a) same is) h

  early_at : (now : ℕ) (y : Event) → events now ≡ y → (frame : FrameId) (x : ℕ) →
      early_after now y (BlockChild events now) (Early events now) frame x → Early events now frame x ⊎ Newly now frame x
  early_at now (Acts node g (Spawn d)) is frame x (inl h) = inl h
  early_at now (Acts node g (Spawn d)) is frame x (inr (inl h)) = inr (own now node g frame x (Spawn d) is h.0 h.1)
  early_at now (Acts node g (Spawn d)) is frame x (inr (inr h)) =
      inr (ByBirth (record { node = node; parent = g; is = subst (λ i. events now ≡ Acts node g (Spawn i)) h.0 is; early = h.1 }))
  early_at now (Acts node g Sync) is frame x (inl h) = inl h
  early_at now (Acts node g Sync) is frame x (inr (same, inl h)) = inr (own now node g frame x Sync is same h)
  early_at now (Acts node g Sync) is frame x (inr (same, inr (child, k, h))) =
      inr (ByMerge (record { node = node; is = subst (λ i. events now ≡ Acts node i Sync) same is; child = child; kid = k; early = h }))
  early_at now (Acts node g (Read word value)) is frame x (inl h) = inl h
  early_at now (Acts node g (Add word value addend)) is frame x (inl h) = inl h
  early_at now (Acts node g (Read word value)) is frame x (inr h) = inr (own now node g frame x (Read word value) is h.0 h.1)
  early_at now (Acts node g (Add word value addend)) is frame x (inr h) = inr (own now node g frame x (Add word value addend) is h.0 h.1)
  early_at now (Acts node g (Write word value)) is frame x (inl h) = inl h
  early_at now (Acts node g (Write word value)) is frame x (inr h) = inr (own now node g frame x (Write word value) is h.0 h.1)
  early_at now (Acts node g (Print value)) is frame x (inl h) = inl h
  early_at now (Acts node g (Print value)) is frame x (inr h) = inr (own now node g frame x (Print value) is h.0 h.1)
  early_at now y is frame x h = inl h

  pub early_step : (now : ℕ) (frame : FrameId) (x : ℕ) → Early events (suc now) frame x → Early events now frame x ⊎ Newly now frame x
  unfolding Early
  early_step now frame x h = early_at now (events now) refl frame x h

  abbrev pub SpawnedBy : ℕ → FrameId → FrameId → Type 0
  SpawnedBy now frame child = (node : ℕ) × (events now ≡ Acts node frame (Spawn child))

  spawned_by : (now node : ℕ) (g d frame child : FrameId) → events now ≡ Acts node g (Spawn d) → (g ≡ frame) × (d ≡ child) →
      SpawnedBy now frame child
  spawned_by now node g d frame child is h =
      (node, subst (λ i. events now ≡ Acts node i (Spawn child)) h.0 (subst (λ i. events now ≡ Acts node g (Spawn i)) h.1 is))

  here_at : (now : ℕ) (y : Event) → events now ≡ y → (frame child : FrameId) → here_after stack now y (Here events stack now) frame child →
      Here events stack now frame child ⊎ SpawnedBy now frame child
  here_at now (Acts node g (Spawn d)) is frame child (inl h) = inl h
  here_at now (Acts node g (Spawn d)) is frame child (inr h) = inr (spawned_by now node g d frame child is h)
  here_at now (Acts node g Sync) is frame child h = inl h.0
  here_at now (Post node other (Grant g)) is frame child h = inl h.0
  here_at now y is frame child h = inl h

  pub here_step : (now : ℕ) (frame child : FrameId) → Here events stack (suc now) frame child →
      Here events stack now frame child ⊎ SpawnedBy now frame child
  unfolding Here
  here_step now frame child h = here_at now (events now) refl frame child h

  -- a child of the block is here or away
  split_at : (now : ℕ) (y : Event) → events now ≡ y → StackRule memory has_returned stack now y → (frame child : FrameId) →
      (BlockChild events now frame child → Here events stack now frame child ⊎ Away events stack now frame child) →
      block_after y (BlockChild events now) frame child →
      here_after stack now y (Here events stack now) frame child ⊎ away_after stack now y (Away events stack now) frame child
  split_at now (Acts node g (Spawn d)) is r frame child ih (inl h) = elim (ih h) [ inl k ↦ inl (inl k) | inr k ↦ inr k ]
  split_at now (Acts node g (Spawn d)) is r frame child ih (inr h) = inl (inr h)
  split_at now (Acts node g Sync) is r frame child ih h = elim (ih h.0) [ inl k ↦ inl (k, h.1) | inr k ↦ inr (k, h.1) ]
  split_at now (Post node other (Grant g)) is r frame child ih h = elim (ih h) [
    | inr k ↦ inr (inl k)
    | inl k ↦ elim (same_frame_or_not g frame) [
      | inr ne ↦ inl (k, λ same. absurd (ne same))
      | inl same ↦ elim (same_frame_or_not r.child child) [
        | inl same_child ↦ inr (inr (
          same,
          record {
            front = r.front;
            is = subst (λ i. Bottom (stack now node) child i r.front) same (subst (λ i. Bottom (stack now node) i g r.front) same_child r.old);
          },
        ))
        | inr ne ↦ inl (k, λ same' a. ne (bottom_same (stack now node) r.front a.front r.child child g frame r.old a.is).0)
      ]
    ]
  ]
  split_at now y is r frame child ih h = ih h

  pub here_or_away : (now : ℕ) (frame child : FrameId) → BlockChild events now frame child →
      Here events stack now frame child ⊎ Away events stack now frame child
  unfolding BlockChild Here Away
  here_or_away zero frame child k = absurd k
  here_or_away (suc now) frame child k =
      split_at now (events now) refl (edges.frames.stacks now) frame child (here_or_away now frame child) k

  -- ---- a child that is here has returned, or stands directly above its parent

  pub record OnTop (now : ℕ) (child frame : FrameId) : Type 0 where
    pub node : ℕ
    pub front : List FrameId
    pub back : List FrameId
    pub is : stack now node ≡ front ++ child ∷ (frame ∷ back)

  abbrev pub Stands : ℕ → FrameId → FrameId → Type 0
  Stands now frame child = (has_returned now child ≡ true) ⊎ OnTop now child frame

  -- so after a step, where a child that left its place had returned before that step
  abbrev pub Kept : ℕ → FrameId → FrameId → Type 0
  Kept now frame child = (has_returned now child ≡ true) ⊎ OnTop (suc now) child frame

  kept_others : (now node : ℕ) (frame child : FrameId) → Others stack now node → (t : OnTop now child frame) →
      (t.node ≡ node → Kept now frame child) → Kept now frame child
  kept_others now node frame child others t go = elim (same_or_not t.node node) [
    | inl same ↦ go same
    | inr ne ↦ inr (record { node = t.node; front = t.front; back = t.back; is = others t.node ne ∙ t.is })
  ]

  kept_pop : (now node : ℕ) (frame child : FrameId) (above below top : List FrameId) → Others stack now node →
      stack now node ≡ above ++ below → Each (λ i. has_returned now i ≡ true) above → stack (suc now) node ≡ top ++ below →
      OnTop now child frame → Kept now frame child
  kept_pop now node frame child above below top others old each new t = kept_others now node frame child others t
      (λ same. elim (cut_front t.front above below t.back child frame (sym t.is ∙ ap (stack now) same ∙ old)) [
        | inl m ↦ inl (each child m)
        | inr (rest, same_tail) ↦ inr (record {
          node = node;
          front = top ++ rest;
          back = t.back;
          is = new ∙ ap (λ l. top ++ l) same_tail ∙ sym (append_assoc top rest (child ∷ (frame ∷ t.back)));
        })
      ])

  kept_leave : (now node : ℕ) (frame child g : FrameId) → Empties has_returned stack now node g → OnTop now child frame →
      Kept now frame child
  kept_leave now node frame child g r t = kept_others now node frame child r.others t
      (λ same. elim (cut_last t.front r.front t.back child frame g (sym t.is ∙ ap (stack now) same ∙ r.old)) [
        | inl (x, same_tail) ↦ inl (r.returned child (subst (λ l. IsOn child l) (sym same_tail) (mem_middle child t.front [])))
        | inr (rest, same_tail) ↦ inl (r.returned child (subst (λ l. IsOn child l) (sym same_tail) (mem_middle child t.front (frame ∷ rest))))
      ])

  not_empty : (front back : List FrameId) (child : FrameId) → front ++ child ∷ back ≡ [] → ⊥
  not_empty [] back child other = cc
  not_empty (x ∷ front) back child other = cc

  moved_on : (now node : ℕ) (g frame child : FrameId) (top : List FrameId) → Moves has_returned stack now node g top →
      Stands now frame child → Kept now frame child
  moved_on now node g frame child top r (inl h) = inl h
  moved_on now node g frame child top r (inr t) = kept_pop now node frame child r.above (g ∷ r.below) top r.others r.old r.returned r.new t

  stands_at : (now : ℕ) (y : Event) → events now ≡ y → StackRule memory has_returned stack now y → (frame child : FrameId) →
      (Here events stack now frame child → Stands now frame child) → here_after stack now y (Here events stack now) frame child →
      Kept now frame child
  stands_at now (Acts node g (Spawn d)) is r frame child ih (inl h) = moved_on now node g frame child (d ∷ []) r (ih h)
  stands_at now (Acts node g (Spawn d)) is r frame child ih (inr (h, h')) =
      inr (record {
        node = node;
        front = [];
        back = r.below;
        is = subst (λ i. stack (suc now) node ≡ child ∷ (i ∷ r.below)) h (subst (λ i. stack (suc now) node ≡ i ∷ (g ∷ r.below)) h' r.new);
      })
  stands_at now (Acts node g Sync) is r frame child ih h = moved_on now node g frame child [] r (ih h.0)
  stands_at now (Acts node g (Read word value)) is r frame child ih h = moved_on now node g frame child [] r (ih h)
  stands_at now (Acts node g (Add word value addend)) is r frame child ih h =
      elim (same_or_not (memory.home (memory.page word)) node) [
        | inl e' ↦ moved_on now node g frame child [] (r.own e') (ih h)
        | inr ne ↦
            elim (ih h) [ inl k ↦ inl k | inr t ↦ inr (record { node = t.node; front = t.front; back = t.back; is = r.other ne t.node ∙ t.is }) ]
      ]
  stands_at now (Acts node g (Write word value)) is r frame child ih h = moved_on now node g frame child [] r (ih h)
  stands_at now (Acts node g (Print value)) is r frame child ih h = moved_on now node g frame child [] r (ih h)
  stands_at now (Tick node g) is r frame child ih h = moved_on now node g frame child [] r (ih h)
  stands_at now (TakeUp node d) is r frame child ih h = elim (ih h) [
    | inl k ↦ inl k
    | inr t ↦ kept_others now node frame child r.2 t (λ same. absurd (not_empty t.front (frame ∷ t.back) child (sym t.is ∙ ap (stack now) same ∙ r.0)))
  ]
  stands_at now (Post node x (Grant d)) is r frame child ih h = elim (ih h.0) [
    | inl k ↦ inl k
    | inr t ↦ kept_others now node frame child r.others t
        (λ same. elim (cut_last t.front (r.front ++ r.child ∷ []) t.back child frame d (sym t.is ∙ ap (stack now) same ∙ r.old ∙ assoc r.front r.child d)) [
          | inl (same_tail, l) ↦ absurd (h.1 (sym same_tail) (record {
            front = t.front;
            is = r.old ∙ assoc r.front r.child d ∙ ap (λ i. i ++ d ∷ []) l
                ∙ sym (assoc t.front child d) ∙ ap (λ i. t.front ++ child ∷ (i ∷ [])) (sym same_tail);
          }))
          | inr (rest, same_tail) ↦ inr (record { node = node; front = t.front; back = rest; is = r.new ∙ same_tail })
        ])
  ]
  stands_at now (Post node x (Done frame' d)) is r frame child ih h =
      elim (ih h) [ inl k ↦ inl k | inr t ↦ kept_leave now node frame child d r.0 t ]
  stands_at now (Post node x (Park d)) is r frame child ih h =
      elim (ih h) [ inl k ↦ inl k | inr t ↦ kept_leave now node frame child d r t ]
  stands_at now (Post node x (Fetch g)) is r frame child ih h =
      elim (ih h) [ inl k ↦ inl k | inr t ↦ kept_pop now node frame child r.above r.below [] r.others r.old r.returned r.new t ]
  stands_at now (Post node x (AddTo g word addend)) is r frame child ih h = moved_on now node g frame child [] r (ih h)
  stands_at now (OwnFetch node g ws) is r frame child ih h =
      elim (ih h) [ inl k ↦ inl k | inr t ↦ kept_pop now node frame child r.above r.below [] r.others r.old r.returned r.new t ]
  stands_at now y is r frame child ih h =
      elim (ih h) [ inl k ↦ inl k | inr t ↦ inr (record { node = t.node; front = t.front; back = t.back; is = r t.node ∙ t.is }) ]

  pub stands : (now : ℕ) (frame child : FrameId) → Here events stack now frame child → Stands now frame child
  unfolding Here
  stands zero frame child h = absurd h
  stands (suc now) frame child h =
      elim (stands_at now (events now) refl (edges.frames.stacks now) frame child (stands now frame child) h) [
        | inl k ↦ inl (edges.stays now child k)
        | inr t ↦ inr t
      ]

  pub kept : (now : ℕ) (frame child : FrameId) → Here events stack (suc now) frame child → Kept now frame child
  unfolding Here
  kept now frame child h = stands_at now (events now) refl (edges.frames.stacks now) frame child (stands now frame child) h
