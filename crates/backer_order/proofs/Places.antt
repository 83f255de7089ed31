-- Each frame stands on at most one stack, once, and is on none between a Grant or a Park and its TakeUp.
use Rattle.std.proofs.Common.{◌≡◌, ℕ, zero, suc, ◌<◌, ◌≤◌, ◌⊎◌, inl, inr, true, List, [], ◌∷◌, ◌++◌, refl, sym, ◌∙◌, subst, arith}
use Rattle.page_messages.specs.declared.closure.FrameId.{FrameId}
use Rattle.backer_order.specs.Log.{main_id, Read, Write, Add, Print, Spawn, Sync, Note, Fetch, Grant, Done, Park, AddTo, Event, Acts, TakeUp, OwnFetch, Post, Tick, Events, SharedMemory}
use Rattle.backer_order.specs.Moments.{NoneBetween, IsWrite}
use Rattle.backer_order.specs.Rules.{Cleaned}
use Rattle.backer_order.specs.Edges.{Stacks, Returns, IsOn, ActOf, Others, Moves, Grants, Empties, StackRule, first_stacks, TakesUp, Spawned, FromGrant, FromJoin, Away, away_after, Taken, Frames}
use Rattle.backer_order.specs.Ready.{SendsFrame}
use Rattle.backer_order.proofs.Search.{Less3, Same3, More3, compare}
use Rattle.backer_order.proofs.Decide.{same_or_not}
use Rattle.backer_order.proofs.Lists.{mem_cases, mem_left, mem_right, Distinct, distinct_right, distinct_left, apart_lists, assoc}

module _ (events : Events) (memory : SharedMemory) (has_returned : Returns) (stack : Stacks) (frames : Frames events memory has_returned stack) where
  -- how a frame may come onto a stack
  abbrev pub Comes : ℕ → ℕ → FrameId → Type 0
  Comes now node frame = ((g : FrameId) × (events now ≡ Acts node g (Spawn frame))) ⊎ (events now ≡ TakeUp node frame)

  old_mem : (now node other : ℕ) (frame : FrameId) (l : List FrameId) → Others stack now node → stack (suc now) node ≡ l →
      (IsOn frame l → IsOn frame (stack now node) ⊎ Comes now node frame) → IsOn frame (stack (suc now) other) →
      IsOn frame (stack now other) ⊎ Comes now other frame
  old_mem now node other frame l others new go m = elim (same_or_not other node) [
    | inl same ↦ subst (λ i. IsOn frame (stack now i) ⊎ Comes now i frame) (sym same)
        (go (subst (λ k. IsOn frame k) new (subst (λ i. IsOn frame (stack (suc now) i)) same m)))
    | inr ne ↦ inl (subst (λ k. IsOn frame k) (others other ne) m)
  ]

  moved : (now node other : ℕ) (g frame : FrameId) (top : List FrameId) → Moves has_returned stack now node g top →
      (IsOn frame top → Comes now node frame) → IsOn frame (stack (suc now) other) → IsOn frame (stack now other) ⊎ Comes now other frame
  moved now node other g frame top r go m = old_mem now node other frame (top ++ g ∷ r.below) r.others r.new
      (λ k. elim (mem_cases frame top (g ∷ r.below) k)
      [ inl h ↦ inr (go h) | inr h ↦ inl (subst (λ l. IsOn frame l) (sym r.old) (mem_right frame r.above (g ∷ r.below) h)) ]) m

  top_comes : (now node : ℕ) (g d frame : FrameId) → events now ≡ Acts node g (Spawn d) → IsOn frame (d ∷ []) → Comes now node frame
  top_comes now node g d frame is (inl h) = inl (g, subst (λ i. events now ≡ Acts node g (Spawn i)) h is)
  top_comes now node g d frame is (inr h) = absurd h

  one_comes : (now node : ℕ) (d frame : FrameId) → events now ≡ TakeUp node d → IsOn frame (d ∷ []) → Comes now node frame
  one_comes now node d frame is (inl h) = inr (subst (λ i. events now ≡ TakeUp node i) h is)
  one_comes now node d frame is (inr h) = absurd h

  comes_at : (now : ℕ) (x : Event) → events now ≡ x → StackRule memory has_returned stack now x → (other : ℕ) (frame : FrameId) →
      IsOn frame (stack (suc now) other) → IsOn frame (stack now other) ⊎ Comes now other frame
  comes_at now (Acts node g (Spawn d)) is r other frame m = moved now node other g frame (d ∷ []) r (top_comes now node g d frame is) m
  comes_at now (Acts node g (Read word value)) is r other frame m = moved now node other g frame [] r (λ h. absurd h) m
  comes_at now (Acts node g (Add word value addend)) is r other frame m =
      elim (same_or_not (memory.home (memory.page word)) node)
      [ inl e' ↦ moved now node other g frame [] (r.own e') (λ h. absurd h) m | inr ne ↦ inl (subst (λ l. IsOn frame l) (r.other ne other) m) ]
  comes_at now (Acts node g (Write word value)) is r other frame m = moved now node other g frame [] r (λ h. absurd h) m
  comes_at now (Acts node g (Print value)) is r other frame m = moved now node other g frame [] r (λ h. absurd h) m
  comes_at now (Acts node g Sync) is r other frame m = moved now node other g frame [] r (λ h. absurd h) m
  comes_at now (Tick node g) is r other frame m = moved now node other g frame [] r (λ h. absurd h) m
  comes_at now (TakeUp node d) is r other frame m =
      old_mem now node other frame (d ∷ []) r.2 r.1 (λ k. inr (one_comes now node d frame is k)) m
  comes_at now (Post node x (Grant d)) is r other frame m = old_mem now node other frame (r.front ++ r.child ∷ []) r.others r.new
      (λ k. inl (subst (λ l. IsOn frame l) (sym (r.old ∙ assoc r.front r.child d)) (mem_left frame (r.front ++ r.child ∷ []) (d ∷ []) k))) m
  comes_at now (Post node x (Done frame' d)) is r other frame m = old_mem now node other frame [] r.0.others r.0.new (λ k. absurd k) m
  comes_at now (Post node x (Park d)) is r other frame m = old_mem now node other frame [] r.others r.new (λ k. absurd k) m
  comes_at now (Post node x (Fetch g)) is r other frame m =
      old_mem now node other frame r.below r.others r.new
      (λ k. inl (subst (λ l. IsOn frame l) (sym r.old) (mem_right frame r.above r.below k))) m
  comes_at now (Post node x (AddTo g word addend)) is r other frame m = moved now node other g frame [] r (λ h. absurd h) m
  comes_at now (OwnFetch node g ws) is r other frame m =
      old_mem now node other frame r.below r.others r.new
      (λ k. inl (subst (λ l. IsOn frame l) (sym r.old) (mem_right frame r.above r.below k))) m
  comes_at now x is r other frame m = inl (subst (λ l. IsOn frame l) (r other) m)

  pub comes : (now other : ℕ) (frame : FrameId) → IsOn frame (stack (suc now) other) → IsOn frame (stack now other) ⊎ Comes now other frame
  comes now other frame m = comes_at now (events now) refl (frames.stacks now) other frame m

  -- distinct stays
  same_distinct : (now node other : ℕ) (l : List FrameId) → Others stack now node → stack (suc now) node ≡ l → Distinct l →
      Distinct (stack now other) → Distinct (stack (suc now) other)
  same_distinct now node other l others new d old = elim (same_or_not other node) [
    | inl same ↦ subst (λ i. Distinct (stack (suc now) i)) (sym same) (subst (λ k. Distinct k) (sym new) d)
    | inr ne ↦ subst (λ k. Distinct k) (sym (others other ne)) old
  ]

  pub record Inv (now : ℕ) : Type 0 where
    pub distinct : (node : ℕ) → Distinct (stack now node)
    pub apart : (node other : ℕ) (frame : FrameId) → IsOn frame (stack now node) → IsOn frame (stack now other) → node ≡ other
    pub born : (node : ℕ) (frame : FrameId) → IsOn frame (stack now node) →
        (frame ≡ main_id) ⊎ ((i : ℕ) × (i < now) × Spawned events frame i)

  -- a frame that stands on a stack is not spawned later
  pub not_again : (now node : ℕ) (frame : FrameId) (i : ℕ) → Inv now → IsOn frame (stack now node) → now ≤ i → Spawned events frame i → ⊥
  not_again now node frame i inv m h sp = elim (inv.born node frame m) [
    | inl z ↦ frames.not_main frame i sp z
    | inr (j, l, sj) ↦ let same = frames.fresh frame i j sp sj in absurd (omega arith)
  ]

  abbrev pub Out : FrameId → ℕ → Type 0
  Out frame now = (node : ℕ) → IsOn frame (stack now node) → ⊥

  -- who is out stays out up to the next TakeUp
  pub stays_out : (frame : FrameId) (k now : ℕ) → Out frame (suc k) → ((i : ℕ) → k < i → i < now → Spawned events frame i → ⊥) →
      NoneBetween (TakesUp events frame) k now → (i : ℕ) → k < i → i ≤ now → Out frame i
  stays_out frame k now out nosp none zero h h' node m = absurd (omega arith)
  stays_out frame k now out nosp none (suc i) h h' node m = elim (compare k i) [
    | Same3 same ↦ out node (subst (λ j. IsOn frame (stack (suc j) node)) (sym same) m)
    | More3 l ↦ absurd (omega arith)
    | Less3 l ↦ elim (comes i node frame m) [
      | inl old ↦ stays_out frame k now out nosp none i l (omega arith) node old
      | inr (inl (g, is)) ↦ nosp i l (omega arith) (node, g, is)
      | inr (inr is) ↦ none i l (omega arith) (node, is)
    ]
  ]

  -- after its Grant or Park a frame is out
  mem_bottom : (frame : FrameId) (front : List FrameId) → IsOn frame (front ++ frame ∷ [])
  mem_bottom frame front = mem_right frame front (frame ∷ []) (inl refl)

  pub grant_mem : (k other r : ℕ) (frame : FrameId) → events k ≡ Post other r (Grant frame) → IsOn frame (stack k other)
  grant_mem k other r frame is =
      let g : Grants stack k other frame = subst (λ x. StackRule memory has_returned stack k x) is (frames.stacks k) in
      subst (λ l. IsOn frame l) (sym (g.old ∙ assoc g.front g.child frame)) (mem_bottom frame (g.front ++ g.child ∷ []))

  pub park_mem : (k other r : ℕ) (frame : FrameId) → events k ≡ Post other r (Park frame) → IsOn frame (stack k other)
  park_mem k other r frame is =
      let g : Empties has_returned stack k other frame = subst (λ x. StackRule memory has_returned stack k x) is (frames.stacks k) in
      subst (λ l. IsOn frame l) (sym g.old) (mem_bottom frame g.front)

  pub done_mem : (k other r : ℕ) (frame c : FrameId) → events k ≡ Post other r (Done frame c) →
      IsOn c (stack k other) × (has_returned k c ≡ true)
  done_mem k other r frame c is =
      let g : Empties has_returned stack k other c × (has_returned k c ≡ true) =
      subst (λ x. StackRule memory has_returned stack k x) is (frames.stacks k) in
      (subst (λ l. IsOn c l) (sym g.0.old) (mem_bottom c g.0.front), g.1)

  pub grant_out : (k other r : ℕ) (frame : FrameId) → Inv k → events k ≡ Post other r (Grant frame) → Out frame (suc k)
  grant_out k other r frame inv is node m =
      let g : Grants stack k other frame = subst (λ x. StackRule memory has_returned stack k x) is (frames.stacks k) in
      let old : stack k other ≡ (g.front ++ g.child ∷ []) ++ frame ∷ [] = g.old ∙ assoc g.front g.child frame in
      elim (same_or_not node other) [
        | inl same ↦ apart_lists frame (g.front ++ g.child ∷ []) (frame ∷ []) (subst (λ l. Distinct l) old (inv.distinct other))
            (subst (λ l. IsOn frame l) g.new (subst (λ i. IsOn frame (stack (suc k) i)) same m)) (inl refl)
        | inr ne ↦ ne (inv.apart node other frame (subst (λ l. IsOn frame l) (g.others node ne) m) (grant_mem k other r frame is))
      ]

  pub park_out : (k other r : ℕ) (frame : FrameId) → Inv k → events k ≡ Post other r (Park frame) → Out frame (suc k)
  park_out k other r frame inv is node m =
      let g : Empties has_returned stack k other frame = subst (λ x. StackRule memory has_returned stack k x) is (frames.stacks k) in
      elim (same_or_not node other) [
        | inl same ↦ subst (λ l. IsOn frame l) g.new (subst (λ i. IsOn frame (stack (suc k) i)) same m)
        | inr ne ↦ ne (inv.apart node other frame (subst (λ l. IsOn frame l) (g.others node ne) m) (park_mem k other r frame is))
      ]

  -- separation goes by grants alone
  abbrev pub Grants_at : ℕ → FrameId → Type 0
  Grants_at now frame = (node other : ℕ) × (events now ≡ Post node other (Grant frame))

  away_at : (now : ℕ) (y : Event) → events now ≡ y → (frame child : FrameId) → away_after stack now y (Away events stack now) frame child →
      Away events stack now frame child ⊎ Grants_at now frame
  away_at now (Acts node g Sync) is frame child h = inl h.0
  away_at now (Post node other (Grant g)) is frame child (inl h) = inl h
  away_at now (Post node other (Grant g)) is frame child (inr h) =
      inr (node, other, subst (λ i. events now ≡ Post node other (Grant i)) h.0 is)
  away_at now y is frame child h = inl h

  pub away_step : (now : ℕ) (frame child : FrameId) → Away events stack (suc now) frame child →
      Away events stack now frame child ⊎ Grants_at now frame
  unfolding Away
  away_step now frame child h = away_at now (events now) refl frame child h

  abbrev pub Invs : ℕ → Type 0
  Invs now = (i : ℕ) → i ≤ now → Inv i

  -- two messages that bring a frame which was not taken up since are one
  send_mem : (k node : ℕ) (frame : FrameId) → SendsFrame events k node frame → (other : ℕ) × IsOn frame (stack k other)
  send_mem k node frame (other, inl is) = (other, grant_mem k other node frame is)
  send_mem k node frame (other, inr is) = (other, park_mem k other node frame is)

  send_out : (k node : ℕ) (frame : FrameId) → Inv k → SendsFrame events k node frame →
      Out frame (suc k)
  send_out k node frame inv (other, inl is) = grant_out k other node frame inv is
  send_out k node frame inv (other, inr is) = park_out k other node frame inv is

  pub out_since : (now k node : ℕ) (frame : FrameId) → Invs now → k < now → SendsFrame events k node frame →
      NoneBetween (TakesUp events frame) k now → (i : ℕ) → k < i → i ≤ now → Out frame i
  out_since now k node frame invs l sd none i h h' =
      let inv = invs k (omega arith) in
      let (other, m) = send_mem k node frame sd in
      stays_out frame k now (send_out k node frame inv sd) (λ j l1 l2 sp. not_again k other frame j inv m (omega arith) sp) none i h h'

  pub same_token : (now k k' node node' : ℕ) (frame : FrameId) → Invs now → k < now → k' < now → SendsFrame events k node frame →
      SendsFrame events k' node' frame → NoneBetween (TakesUp events frame) k now → NoneBetween (TakesUp events frame) k' now → k ≡ k'
  same_token now k k' node node' frame invs l l' sd sd' none none' = elim (compare k k') [
    | Same3 same ↦ same
    | Less3 h ↦
        let (other, m) = send_mem k' node' frame sd' in
        absurd (out_since now k node frame invs l sd none k' h (omega arith) other m)
    | More3 h ↦
        let (other, m) = send_mem k node frame sd in
        absurd (out_since now k' node' frame invs l' sd' none' k h (omega arith) other m)
  ]

  -- where a TakeUp comes from
  pub record Sent (now taker : ℕ) (frame : FrameId) : Type 0 where
    pub post : ℕ
    pub node : ℕ
    pub before : post < now
    pub on : IsOn frame (stack post node)
    pub out : Out frame (suc post)
    pub clean : (word z : ℕ) → IsWrite events node word z → z < post → Cleaned events node (memory.page word) word z post
    pub quiet : (g : FrameId) → ActOf events g post → ⊥
    pub none : NoneBetween (TakesUp events frame) post now

  post_no_act : (k other r : ℕ) (frame : FrameId) (note : Note) → events k ≡ Post other r note → ActOf events frame k → ⊥
  post_no_act k other r frame note is a = let h = a.2 in cc

  abbrev pub RuleAt : ℕ → Type 0
  RuleAt now =
      (node : ℕ) (frame : FrameId) → events now ≡ TakeUp node frame → FromGrant events now node frame ⊎ FromJoin events stack now node frame

  pub sent : (now node : ℕ) (frame : FrameId) → Invs now → RuleAt now → events now ≡ TakeUp node frame → Sent now node frame
  sent now node frame invs tu is = elim (tu node frame is) [
    | inl g ↦ record {
      post = g.post;
      node = g.sender;
      before = g.before;
      on = grant_mem g.post g.sender node frame g.is;
      out = grant_out g.post g.sender node frame (invs g.post (omega (arith, g.before))) g.is;
      clean = frames.clean g.post g.sender node (Grant frame) g.is tt;
      quiet = λ i. post_no_act g.post g.sender node i (Grant frame) g.is;
      none = g.none;
    }
    | inr g ↦ record {
      post = g.post;
      node = g.sender;
      before = g.before;
      on = park_mem g.post g.sender node frame g.is;
      out = park_out g.post g.sender node frame (invs g.post (omega (arith, g.before))) g.is;
      clean = frames.clean g.post g.sender node (Park frame) g.is tt;
      quiet = λ i. post_no_act g.post g.sender node i (Park frame) g.is;
      none = g.none;
    }
  ]

  pub sent_out : (now node : ℕ) (frame : FrameId) → Invs now → (t : Sent now node frame) → (i : ℕ) → t.post < i → i ≤ now → Out frame i
  sent_out now node frame invs t i h h' =
      stays_out frame t.post now t.out (λ j l l' sp. not_again t.post t.node frame j (invs t.post (omega (arith, t.before))) t.on (omega arith) sp)
      t.none i h h'

  distinct_move : (now node other : ℕ) (g : FrameId) (top : List FrameId) → Inv now → (r : Moves has_returned stack now node g top) →
      Distinct (top ++ g ∷ r.below) → Distinct (stack (suc now) other)
  distinct_move now node other g top inv r d = same_distinct now node other (top ++ g ∷ r.below) r.others r.new d (inv.distinct other)

  rest_distinct : (now node : ℕ) (g : FrameId) (top : List FrameId) → Inv now → (r : Moves has_returned stack now node g top) →
      Distinct (g ∷ r.below)
  rest_distinct now node g top inv r = distinct_right r.above (g ∷ r.below) (subst (λ l. Distinct l) r.old (inv.distinct node))

  distinct_at : (now : ℕ) (x : Event) → events now ≡ x → StackRule memory has_returned stack now x → Inv now → (other : ℕ) →
      Distinct (stack (suc now) other)
  distinct_at now (Acts node g (Spawn d)) is r inv other = distinct_move now node other g (d ∷ []) inv r (
    (λ m. not_again now node d now inv (subst (λ l. IsOn d l) (sym r.old) (mem_right d r.above (g ∷ r.below) m)) (omega arith) (node, g, is)),
    rest_distinct now node g (d ∷ []) inv r,
  )
  distinct_at now (Acts node g (Read word value)) is r inv other =
      distinct_move now node other g [] inv r (rest_distinct now node g [] inv r)
  distinct_at now (Acts node g (Add word value addend)) is r inv other =
      elim (same_or_not (memory.home (memory.page word)) node) [
        | inl e' ↦ distinct_move now node other g [] inv (r.own e')
            (rest_distinct now node g [] inv (r.own e'))
        | inr ne ↦ subst (λ l. Distinct l) (sym (r.other ne other)) (inv.distinct other)
      ]
  distinct_at now (Acts node g (Write word value)) is r inv other =
      distinct_move now node other g [] inv r (rest_distinct now node g [] inv r)
  distinct_at now (Acts node g (Print value)) is r inv other = distinct_move now node other g [] inv r (rest_distinct now node g [] inv r)
  distinct_at now (Acts node g Sync) is r inv other = distinct_move now node other g [] inv r (rest_distinct now node g [] inv r)
  distinct_at now (Tick node g) is r inv other = distinct_move now node other g [] inv r (rest_distinct now node g [] inv r)
  distinct_at now (TakeUp node d) is r inv other = same_distinct now node other (d ∷ []) r.2 r.1 ((λ m. m), tt) (inv.distinct other)
  distinct_at now (Post node x (Grant d)) is r inv other =
      same_distinct now node other (r.front ++ r.child ∷ []) r.others r.new
      (distinct_left (r.front ++ r.child ∷ []) (d ∷ []) (subst (λ l. Distinct l) (r.old ∙ assoc r.front r.child d) (inv.distinct node)))
      (inv.distinct other)
  distinct_at now (Post node x (Done frame' d)) is r inv other = same_distinct now node other [] r.0.others r.0.new tt (inv.distinct other)
  distinct_at now (Post node x (Park d)) is r inv other = same_distinct now node other [] r.others r.new tt (inv.distinct other)
  distinct_at now (Post node x (Fetch g)) is r inv other =
      same_distinct now node other r.below r.others r.new
      (distinct_right r.above r.below (subst (λ l. Distinct l) r.old (inv.distinct node))) (inv.distinct other)
  distinct_at now (Post node x (AddTo g word addend)) is r inv other =
      distinct_move now node other g [] inv r (rest_distinct now node g [] inv r)
  distinct_at now (OwnFetch node g ws) is r inv other =
      same_distinct now node other r.below r.others r.new
      (distinct_right r.above r.below (subst (λ l. Distinct l) r.old (inv.distinct node))) (inv.distinct other)
  distinct_at now x is r inv other = subst (λ l. Distinct l) (sym (r other)) (inv.distinct other)

  came_not_old : (now node other : ℕ) (frame : FrameId) → Invs now → RuleAt now → Comes now node frame → IsOn frame (stack now other) → ⊥
  came_not_old now node other frame invs tu (inl (g, is)) m =
      not_again now other frame now (invs now (omega arith)) m (omega arith) (node, g, is)
  came_not_old now node other frame invs tu (inr is) m =
      let t = sent now node frame invs tu is in sent_out now node frame invs t now t.before (omega arith) other m

  came_same : (now node other : ℕ) (frame : FrameId) → Comes now node frame → Comes now other frame → node ≡ other
  came_same now node other frame (inl (g, is)) (inl (g', is')) = cc
  came_same now node other frame (inl (g, is)) (inr is') = absurd cc
  came_same now node other frame (inr is) (inl (g', is')) = absurd cc
  came_same now node other frame (inr is) (inr is') = cc

  came_born : (now node : ℕ) (frame : FrameId) → Invs now → RuleAt now → Comes now node frame →
      (frame ≡ main_id) ⊎ ((i : ℕ) × (i < suc now) × Spawned events frame i)
  came_born now node frame invs tu (inl (g, is)) = inr (now, omega arith, (node, g, is))
  came_born now node frame invs tu (inr is) =
      let t = sent now node frame invs tu is in
      elim ((invs t.post (omega (arith, t.before))).born t.node frame t.on) [ inl z ↦ inl z | inr (i, l, sp) ↦ inr (i, omega (arith, t.before), sp) ]

  pub next_inv : (now : ℕ) → Invs now → RuleAt now → Inv (suc now)
  next_inv now invs tu =
      let inv = invs now (omega arith) in
      record {
        distinct = distinct_at now (events now) refl (frames.stacks now) inv;
        apart = λ node other frame m m'. elim (comes now node frame m) [
          | inl o ↦
              elim (comes now other frame m') [ inl o' ↦ inv.apart node other frame o o' | inr k' ↦ absurd (came_not_old now other node frame invs tu k' o) ]
          | inr k ↦ elim (comes now other frame m') [
            | inl o' ↦ absurd (came_not_old now node other frame invs tu k o')
            | inr k' ↦
                came_same now node other frame k k'
          ]
        ];
        born = λ node frame m. elim (comes now node frame m) [
          | inl o ↦ elim (inv.born node frame o) [ inl z ↦ inl z | inr (i, l, sp) ↦ inr (i, omega arith, sp) ]
          | inr k ↦ came_born now node frame invs tu k
        ];
      }

  start_mem : (node : ℕ) (frame : FrameId) → IsOn frame (first_stacks node) → (node ≡ 0) × (frame ≡ main_id)
  start_mem zero frame (inl h) = (refl, sym h)
  start_mem zero frame (inr h) = absurd h
  start_mem (suc node) frame m = absurd m

  start_distinct : (node : ℕ) → Distinct (first_stacks node)
  start_distinct zero = ((λ m. m), tt)
  start_distinct (suc node) = tt

  pub first_inv : Inv 0
  first_inv = record {
    distinct = λ node. subst (λ l. Distinct l) (sym (frames.start node)) (start_distinct node);
    apart =
        λ node other frame m m'. (start_mem node frame (subst (λ l. IsOn frame l) (frames.start node) m)).0
        ∙ sym (start_mem other frame (subst (λ l. IsOn frame l) (frames.start other) m')).0;
    born = λ node frame m. inl (start_mem node frame (subst (λ l. IsOn frame l) (frames.start node) m)).1;
  }

  pub all_invs : Taken events stack → (now : ℕ) → Invs now
  all_invs tk zero i h = subst (λ j. Inv j) (omega arith) first_inv
  all_invs tk (suc now) i h = elim (compare i (suc now)) [
    | Less3 l ↦ all_invs tk now i (omega arith)
    | Same3 same ↦ subst (λ j. Inv j) (sym same) (next_inv now (all_invs tk now) (tk now))
    | More3 l ↦ absurd (omega arith)
  ]
