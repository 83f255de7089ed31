-- What the rules for pages and adds give: of one node and one word, a later access has no earlier moment.
-- Here and in the other files x and y are positions of accesses, m is one of a moment, k of a post, t of a taking, a of an arrival, z of a
-- write.
use Rattle.std.proofs.Common.{◌≡◌, ◌≢◌, ℕ, ℤ, suc, ◌<◌, ◌≤◌, ◌⊎◌, inl, inr, true, false, refl, sym, ◌∙◌, subst, arith, rules}
use Rattle.page_messages.specs.declared.closure.FrameId.{FrameId}
use Rattle.std.specs.Prelude.{◌==◌}
use Rattle.backer_order.specs.Log.{Act, Read, Write, Add, Part, Note, Fetch, Page, Reconcile, AddTo, Acts, Drop, OwnFetch, Post, Took, Events, SharedMemory}
use Rattle.backer_order.specs.Moments.{NoneBetween, is_reply, takes_request, gives_reply, takes_add, serves, gives_added, Answers, Serves, Tells, Replied, AddDone, IsWrite, IsTouch, IsAdd, IsAccess, Arrives, ByPage, ByOwn, IsArrival, Source, FromPage, FromOwn, Resident, NoWrite, Sending, ByPart, ByItem, Sends, FirstSending, TakenAt, Received, ByTaking, AtItem, Settled, Acked, AtOnce, Stay, Moment}
use Rattle.backer_order.specs.Rules.{IsItem, Cleaned, HomeWord, Serving, Caching}
use Rattle.backer_order.proofs.Search.{Decided, Less3, Same3, More3, compare, find_last, find_first}
use Rattle.backer_order.proofs.Decide.{same_or_not, decide_write, decide_sending, decide_drop, decide_arrival}
use Rattle.backer_order.proofs.Owed as owed

eqb_self : (now : ℕ) → (now == now) ≡ true
eqb_self now = search rules

eqb_other : (node h : ℕ) → (node ≡ h → ⊥) → (node == h) ≡ false
eqb_other node h ne = search (rules, ne)

module _ (events : Events) (memory : SharedMemory) (caching : Caching events memory) where
  -- who takes a message is its receiver, later
  pub taken_by : (k m node other : ℕ) (note : Note) → events k ≡ Post node other note → TakenAt events k m →
      (events m ≡ Took other k) × (k < m)
  taken_by k m node other note e t =
      let (node', note', e', l) = caching.delivery.posted m t.taker k t.is in
      let same : t.taker ≡ other = cc in
      (subst (λ x. events m ≡ Took x k) same t.is, l)

  -- ---- answers

  pub answers_before : (h r t : ℕ) → Answers events h r t → t < r
  answers_before h r t a = owed.head-before (λ i. takes_request events h (events i)) (λ i. gives_reply h (events i)) r t a

  gives : (h node r : ℕ) (note : Note) → events r ≡ Post h node note → is_reply note ≡ true → gives_reply h (events r) ≡ true
  gives h node r note e k = rw (e, eqb_self h, k) refl

  pub answers_once : (h r r' t node node' : ℕ) (note note' : Note) → events r ≡ Post h node note → is_reply note ≡ true →
      events r' ≡ Post h node' note' → is_reply note' ≡ true → Answers events h r t → Answers events h r' t → r ≡ r'
  answers_once h r r' t node node' note note' e k e' k' a a' =
      owed.once (λ i. takes_request events h (events i)) (λ i. gives_reply h (events i)) r r' t (gives h node r note e k) (gives h node' r' note' e' k') a a'

  pub answers_same : (h r t t' : ℕ) → Answers events h r t → Answers events h r t' → t ≡ t'
  answers_same h r t t' a a' = owed.head-same (λ i. takes_request events h (events i)) (λ i. gives_reply h (events i)) r t t' a a'

  pub replied_taken : (node k now : ℕ) → Replied events node k now → (m : ℕ) × TakenAt events k m × (m < now)
  replied_taken node k now an =
      let l2 = answers_before an.home an.reply an.taking an.answers in
      let (other', note', e2, l3) = caching.delivery.posted an.at node an.reply an.takes in
      (an.taking, record { taker = an.home; is = an.took }, omega (arith, an.before))

  -- ---- what stands behind an arrival

  pub record PageBehind (node page a from t : ℕ) : Type 0 where
    pub home : ℕ
    pub fetch : events from ≡ Post node home (Fetch page)
    pub back : (now : ℕ) → Replied events node from now → a < now
    pub took : events t ≡ Took home from
    pub later : from < t
    pub takes : ℕ
    pub arrived : events a ≡ Took node takes

  pub record OwnBehind (node page a from t : ℕ) : Type 0 where
    pub words : ℕ → ℤ
    pub is : events a ≡ OwnFetch node page words
    pub from_is : from ≡ a
    pub at_is : t ≡ a

  -- at: where the home gave it; from: the Fetch's post, or the own fetch
  pub record Behind (node page a : ℕ) (words : ℕ → ℤ) : Type 0 where
    pub at : ℕ
    pub from : ℕ
    pub source : Source events node page a at
    pub from_first : from ≤ at
    pub at_first : at ≤ a
    pub absent : (b : ℕ) (ws : ℕ → ℤ) → Resident events node page from b ws → ⊥
    pub after : (i : ℕ) → IsItem memory node (events i) → i < a → (i ≤ from) × (i < at)
    pub given : (word : ℕ) → memory.page word ≡ page → HomeWord events memory word at (words word)
    pub which : PageBehind node page a from at ⊎ OwnBehind node page a from at

  pub behind : (node page a : ℕ) (words : ℕ → ℤ) → Arrives events node page a words → Behind node page a words
  behind node page a words (ByOwn e) =
      let (at_home, given) = caching.homes.own_fetch node page a words e in
      record {
        at = a;
        from = a;
        source = FromOwn words e refl;
        from_first = omega arith;
        at_first = omega arith;
        absent = λ b ws r. caching.access.own_absent node page a b words ws e r;
        after = λ i item l. (omega arith, l);
        given = given;
        which = inr (record { words = words; is = e; from_is = refl; at_is = refl });
      }
  behind node page a words (ByPage h r tk pg) =
      let (t, k, rep, e, given) = caching.homes.page h node page r words pg in
      let (other, note, e1, l) = caching.delivery.posted a node r tk in
      let (other', note', e2, l2) = caching.delivery.posted t h k rep.took in
      let tr = answers_before h r t rep.answers in
      record {
        at = t;
        from = k;
        source = FromPage h r words tk pg rep.answers;
        from_first = omega arith;
        at_first = omega arith;
        absent = λ b ws res. caching.access.absent node page k h b ws e res;
        after = λ i item h'. let lk = first t k h rep.took rep.answers e i item h' in (lk, omega arith);
        given = given;
        which = inl (record { home = h; fetch = e; back = back t k rep.took rep.answers e; took = rep.took; later = l2; takes = r; arrived = tk });
      }
    where
      back : (t k : ℕ) → events t ≡ Took h k → Answers events h r t → events k ≡ Post node h (Fetch page) → (now : ℕ) →
          Replied events node k now → a < now
      back t k took answers e now an =
          let (e1, l1) = taken_by k an.taking node h (Fetch page) e (record { taker = an.home; is = an.took }) in
          let t' : an.taking ≡ t = caching.delivery.once an.taking t an.home h k an.took took in
          let h' : an.home ≡ h = cc in
          let an' : Answers events h (an.reply) t =
          subst (λ x. Answers events x (an.reply) t) h' (subst (λ x. Answers events (an.home) (an.reply) x) t' an.answers) in
          let posted' : events (an.reply) ≡ Post h node an.note = subst (λ x. events (an.reply) ≡ Post x node an.note) h' an.posted in
          let same : an.reply ≡ r =
          answers_once h (an.reply) r t node node an.note (Page page words) posted' an.replies pg refl an' answers in
          let at_same : an.at ≡ a =
          caching.delivery.once an.at a node node r (subst (λ x. events (an.at) ≡ Took node x) same an.takes) tk in
          omega (arith, an.before)

      first : (t k h' : ℕ) → events t ≡ Took h k → Answers events h r t → events k ≡ Post node h (Fetch page) → (i : ℕ) →
          IsItem memory node (events i) → i < a → i ≤ k
      first t k h' took answers e i item l = elim (compare k i) [
        | Less3 l' ↦ let bk = back t k took answers e i (caching.access.item node i k h (Fetch page) item l' e) in absurd (omega arith)
        | Same3 e' ↦ omega arith
        | More3 l' ↦ omega arith
      ]

  pub source_same : (node page a t t' : ℕ) → Source events node page a t → Source events node page a t' → t ≡ t'
  source_same node page a t t' (FromOwn ws is e) (FromOwn ws' is' e') = e ∙ sym e'
  source_same node page a t t' (FromOwn ws is e) (FromPage h k ws' tk pg an) = absurd cc
  source_same node page a t t' (FromPage h k ws' tk pg an) (FromOwn ws is e) = absurd cc
  source_same node page a t t' (FromPage h k ws tk pg an) (FromPage h' k' ws' tk' pg' an') =
      let same : k' ≡ k = cc in
      let pg1 : events k ≡ Post h' node (Page page ws') = subst (λ i. events i ≡ Post h' node (Page page ws')) same pg' in
      let same_home : h' ≡ h = cc in
      let an1 : Answers events h k t' = subst (λ i. Answers events i k t') same_home (subst (λ i. Answers events h' i t') same an') in
      answers_same h k t t' an an1

  -- ---- sendings

  -- a sending was received before the node's next item
  pub received_next : (node page k i : ℕ) → Sends events node page k → IsItem memory node (events i) → k < i →
      (m : ℕ) × Received events k m × (m < i)
  received_next node page k i (part, ByPart other parts is m, same) item l =
      let (t, tk, h) = replied_taken node k i (caching.access.item node i k other (Reconcile parts) item l is) in
      (t, ByTaking tk, h)
  received_next node page k i (part, ByItem is, same) item l = (k, AtItem node part is refl, l)

  pub received_later : (k m : ℕ) → Received events k m → k ≤ m
  received_later k m (ByTaking t) = let (other, note, e, l) = caching.delivery.posted m t.taker k t.is in omega arith
  received_later k m (AtItem node part is e) = omega arith

  pub received_once : (k m m' : ℕ) → Received events k m → Received events k m' → m ≡ m'
  received_once k m m' (ByTaking t) (ByTaking t') = caching.delivery.once m m' t.taker t'.taker k t.is t'.is
  received_once k m m' (AtItem node part is e) (AtItem node' part' is' e') = e ∙ sym e'
  received_once k m m' (ByTaking t) (AtItem node part is e) =
      let (other, note, e', l) = caching.delivery.posted m t.taker k t.is in absurd cc
  received_once k m m' (AtItem node part is e) (ByTaking t) =
      let (other, note, e', l) = caching.delivery.posted m' t.taker k t.is in absurd cc

  pub settled_received : (node k now : ℕ) → Settled events node k now → (m : ℕ) × Received events k m × (m < now)
  settled_received node k now (Acked an) = let (m, t, l) = replied_taken node k now an in (m, ByTaking t, l)
  settled_received node k now (AtOnce part is l) = (k, AtItem node part is refl, l)

  -- nothing but a sending is received
  pub received_no_act : (k m other : ℕ) (frame : FrameId) (a : Act) → Received events k m → events m ≡ Acts other frame a → ⊥
  received_no_act k m other frame a (ByTaking t) e = let h = t.is in cc
  received_no_act k m other frame a (AtItem node part is h) e =
      let e' : events k ≡ Acts other frame a = subst (λ i. events i ≡ Acts other frame a) h e in cc

  -- ---- residency

  pub resident_unique : (node page i a a' : ℕ) (words words' : ℕ → ℤ) → Resident events node page i a words →
      Resident events node page i a' words' → a ≡ a'
  resident_unique node page i a a' words words' r r' = elim (compare a a') [
    | Same3 e ↦ e
    | Less3 l ↦ absurd (r.last a' l r'.before (words', r'.arrives))
    | More3 l ↦ absurd (r'.last a l r.before (words, r.arrives))
  ]

  pub resident_at : (node page x i a : ℕ) (words : ℕ → ℤ) → Resident events node page x a words → a < i → i ≤ x →
      Resident events node page i a words
  resident_at node page x i a words r h h' =
      record { before = h; arrives = r.arrives; kept = λ j k k'. r.kept j k (omega arith); last = λ j k k'. r.last j k (omega arith) }

  pub write_item : (node word i : ℕ) → IsWrite events node word i → IsItem memory node (events i)
  write_item node word i x = subst (λ e. IsItem memory node e) (sym x.1.is) refl

  pub touch_item : (node word i : ℕ) → IsTouch events node word i → IsItem memory node (events i)
  touch_item node word i (inl x) = write_item node word i x
  touch_item node word i (inr x) = subst (λ e. IsItem memory node e) (sym x.1.is) refl

  abbrev pub IsAct : ℕ → Type 0
  IsAct i = (other : ℕ) × (frame : FrameId) × (a : Act) × (events i ≡ Acts other frame a)

  pub touch_act : (node word i : ℕ) → IsTouch events node word i → IsAct i
  touch_act node word i (inl x) = (node, x.1.frame, Write word x.0, x.1.is)
  touch_act node word i (inr x) = (node, x.1.frame, Read word x.0, x.1.is)

  pub access_act : (node word i : ℕ) → IsAccess events node word i → IsAct i
  access_act node word i (inl x) = touch_act node word i x
  access_act node word i (inr x) = (node, x.1.frame, Add word x.0 x.1.addend, x.1.is)

  pub act_no_drop : (x other page : ℕ) → IsAct x → events x ≡ Drop other page → ⊥
  act_no_drop x other page a d = let h = a.3 in cc

  pub act_no_arrival : (x other page : ℕ) (words : ℕ → ℤ) → IsAct x → Arrives events other page x words → ⊥
  act_no_arrival x other page words a (ByPage h k t e) = let h' = a.3 in cc
  act_no_arrival x other page words a (ByOwn e) = let h' = a.3 in cc

  pub act_no_sending : (x node page : ℕ) → IsAct x → Sends events node page x → ⊥
  act_no_sending x node page a (part, ByPart other parts is m, same) = let h = a.3 in cc
  act_no_sending x node page a (part, ByItem is, same) = let h = a.3 in cc

  -- the page was dropped after the act x and before n
  pub record Dropped (node page x a now : ℕ) (words : ℕ → ℤ) : Type 0 where
    pub at : ℕ
    pub after : x < at
    pub before : at < now
    pub is : events at ≡ Drop node page
    pub resident : Resident events node page at a words

  Leave : ℕ → ℕ → ℕ → Type 0
  Leave node page i = (events i ≡ Drop node page) ⊎ IsArrival events node page i

  decide_leave : (node page i : ℕ) → Decided (Leave node page i)
  unfolding Leave
  decide_leave node page i = elim (decide_drop events node page i) [
    | inl d ↦ inl (inl d)
    | inr nd ↦ elim (decide_arrival events node page i) [ inl a ↦ inl (inr a) | inr na ↦ inr (λ x. elim x [ inl d ↦ nd d | inr a ↦ na a ]) ]
  ]

  -- resident still, where nothing happened to the page
  stays : (node page x a now : ℕ) (words : ℕ → ℤ) → IsAct x → Resident events node page x a words → x ≤ now →
      NoneBetween (Leave node page) x now → Resident events node page now a words
  unfolding Leave
  stays node page x a now words act r l none = record {
    before = omega (arith, r.before);
    arrives = r.arrives;
    kept =
        λ i h k e. elim (compare i x) [
          | Less3 l' ↦ r.kept i h l' e
          | Same3 e' ↦ act_no_drop x node page act (subst (λ y. events y ≡ Drop node page) e' e)
          | More3 l' ↦ none i l' k (inl e)
        ];
    last = λ i h k e. elim (compare i x) [
      | Less3 l' ↦ r.last i h l' e
      | Same3 e' ↦ act_no_arrival x node page e.0 act (subst (λ y. Arrives events node page y e.0) e' e.1)
      | More3 l' ↦ none i l' k (inr e)
    ];
  }

  -- resident at an act of its own, and absent later: dropped in between
  pub dropped : (node page x a now : ℕ) (words : ℕ → ℤ) → IsItem memory node (events x) → IsAct x → Resident events node page x a words →
      x ≤ now → ((b : ℕ) (ws : ℕ → ℤ) → Resident events node page now b ws → ⊥) → Dropped node page x a now words
  unfolding Leave
  dropped node page x a now words item act r l absent = elim (find_first (Leave node page) (decide_leave node page) x now) [
    | inr none ↦ absurd (absent a words (stays node page x a now words act r l none))
    | inl hit ↦ elim (hit.here) [
      | inl d ↦ record {
        at = hit.at;
        after = hit.after;
        before = hit.before;
        is = d;
        resident = stays node page x a hit.at words act r (omega (arith, hit.after)) hit.none;
      }
      | inr (ws, a2) ↦
          let b = behind node page hit.at ws a2 in
          let h = b.after x item hit.after in
          let res = stays node page x a b.from words act r h.0 (λ i h1 h2. hit.none i h1 (omega (arith, b.from_first, b.at_first))) in
          absurd (b.absent a words res)
    ]
  ]

  -- ---- moments

  -- an access that has its moment before n
  pub record Has (node word x now : ℕ) : Type 0 where
    pub at : ℕ
    pub moment : Moment events memory node word x at
    pub before : at < now

  pub by_arrival : (node word x a now : ℕ) (words : ℕ → ℤ) → IsTouch events node word x →
      Resident events node (memory.page word) x a words → NoWrite events node word a (suc x) → a < now → Has node word x now
  by_arrival node word x a now words tx r none h =
      let b = behind node (memory.page word) a words r.arrives in
      record {
        at = b.at;
        moment = inl (tx, inr (record { arrival = a; words = words; resident = r; none = none; source = b.source }));
        before = omega (arith, b.at_first);
      }

  -- the first sending after a write that was settled was received
  first_received : (node word z now K : ℕ) (part : Part) → z < K → Sending events node K part → part.page ≡ memory.page word →
      part.mask word ≡ true → Settled events node K now
      → (k m : ℕ) × FirstSending events node (memory.page word) z k × Received events k m × (m < now)
  first_received node word z now K part l sd pg marked st =
      elim (find_first (Sends events node (memory.page word)) (decide_sending events node (memory.page word)) z (suc K)) [
        | inr none ↦ absurd (none K l (omega arith) (part, sd, pg))
        | inl hit ↦
            let first : FirstSending events node (memory.page word) z (hit.at) =
            record { after = hit.after; sends = hit.here; none = hit.none } in
            elim (compare hit.at K) [
              | More3 l' ↦ absurd (omega (arith, hit.before))
              | Same3 e ↦
                  let (m, t, l') = settled_received node K now st in (hit.at, m, first, subst (λ y. Received events y m) (sym e) t, l')
              | Less3 l' ↦
                  let cl = caching.cleans node K part sd in
                  let (z', last, none) = cl.marked word (sym pg) marked in
                  let (m', t', b') = settled_received node K now st in
                  let later = received_later K m' t' in
                  elim (compare hit.at z') [
                    | More3 h ↦ absurd (none hit.at h l' (subst (λ i. Sends events node i hit.at) (sym pg) hit.here))
                    | Same3 e ↦ absurd (act_no_sending z' node (memory.page word) (node, last.writes.frame, Write word (part.words word), last.writes.is)
                        (subst (λ y. Sends events node (memory.page word) y) e hit.here))
                    | Less3 h ↦
                        let (m, t, b) =
                        received_next node (memory.page word) hit.at z' hit.here (write_item node word z' (part.words word, last.writes)) h
                        in
                        (hit.at, m, first, t, omega (arith, last.before))
                  ]
            ]
      ]

  pub settled : (node word x a now : ℕ) (words : ℕ → ℤ) → IsTouch events node word x → Resident events node (memory.page word) x a words →
      x < now → ((z : ℕ) → IsWrite events node word z → a < z → z ≤ x → Cleaned events node (memory.page word) word z now) →
      Has node word x now
  settled node word x a now words tx r l clean = elim (find_last (IsWrite events node word) (decide_write events node word) a (suc x)) [
    | inr none ↦ by_arrival node word x a now words tx r none (omega (arith, r.before))
    | inl z ↦
        let cl = clean z.at z.here z.after (omega (arith, z.before)) in
        let (k, m, first, t, b) = first_received node word z.at now cl.post cl.part cl.after cl.sends cl.page cl.marked cl.settled in
        let (v, wr) = z.here in
        record {
          at = m;
          moment = inl (
            tx,
            inl (record {
              arrival = a;
              words = words;
              resident = r;
              write = z.at;
              value = v;
              last = record { after = z.after; before = z.before; writes = wr; none = z.none };
              post = k;
              first = first;
              received = t;
            }),
          );
          before = b;
        }
  ]

  -- where the residency of a moment began
  abbrev pub start_of : (node word x m : ℕ) → Stay events memory node word x m →
      (a : ℕ) × (words : ℕ → ℤ) × Resident events node (memory.page word) x a words
  start_of node word x m (inl b) = (b.arrival, b.words, b.resident)
  start_of node word x m (inr b) = (b.arrival, b.words, b.resident)

  -- a moment is not before the home gave what arrived
  pub after_source : (node word y m : ℕ) (mo : Stay events memory node word y m) →
      (b : Behind node (memory.page word) ((start_of node word y m mo).0) ((start_of node word y m mo).1)) → b.at ≤ m
  after_source node word y m (inl d) b =
      let l = received_later d.post m d.received in
      omega (arith, b.at_first, d.last.after, d.first.after)
  after_source node word y m (inr d) b =
      let e = source_same node (memory.page word) d.arrival b.at m b.source d.source in
      omega arith

  same_stay : (node word x y a m : ℕ) (words : ℕ → ℤ) → Resident events node (memory.page word) x a words → IsTouch events node word x →
      x < y → (mo : Stay events memory node word y m) → a ≡ (start_of node word y m mo).0 → Has node word x (suc m)
  same_stay node word x y a m words r ax l (inr d) e =
      let r' : Resident events node (memory.page word) x (d.arrival) d.words =
      record {
        before = omega (arith, r.before);
        arrives = d.resident.arrives;
        kept = subst (λ i. NoneBetween (λ j. events j ≡ Drop node (memory.page word)) i x) e r.kept;
        last = subst (λ i. NoneBetween (IsArrival events node (memory.page word)) i x) e r.last;
      } in
      record {
        at = m;
        moment = inl (ax, inr (record { arrival = d.arrival; words = d.words; resident = r'; none = λ i h k. d.none i h (omega arith); source = d.source }));
        before = omega arith;
      }
  same_stay node word x y a m words r ax l (inl d) e =
      let later = received_later d.post m d.received in
      elim (find_last (IsWrite events node word) (decide_write events node word) a (suc x)) [
        | inr none ↦ by_arrival node word x a (suc m) words ax r none (omega (arith, d.last.after, d.first.after))
        | inl z ↦
            let z_first : z.at ≤ d.write = elim (compare d.write z.at) [
              | Less3 h ↦ absurd (d.last.none z.at h (omega (arith, z.before)) z.here)
              | Same3 h ↦ omega arith
              | More3 h ↦ omega arith
            ] in
            let (v, wr) = z.here in
            let make : (k t : ℕ) → FirstSending events node (memory.page word) (z.at) k → Received events k t → t < suc m → Has node word x (suc m)
            = λ k t first tk h. record {
              at = t;
              moment = inl (
                ax,
                inl (record {
                  arrival = a;
                  words = words;
                  resident = r;
                  write = z.at;
                  value = v;
                  last = record { after = z.after; before = z.before; writes = wr; none = z.none };
                  post = k;
                  first = first;
                  received = tk;
                }),
              );
              before = h;
            } in
            elim (find_first (Sends events node (memory.page word)) (decide_sending events node (memory.page word)) z.at (suc d.post)) [
              | inr none ↦ absurd (none d.post (omega (arith, d.first.after)) (omega arith) d.first.sends)
              | inl hit ↦
                  let first : FirstSending events node (memory.page word) (z.at) (hit.at) =
                  record { after = hit.after; sends = hit.here; none = hit.none } in
                  elim (compare hit.at d.post) [
                    | More3 h ↦ absurd (omega (arith, hit.before))
                    | Same3 h ↦ make hit.at m first (subst (λ y. Received events y m) (sym h) d.received) (omega arith)
                    | Less3 h ↦ elim (compare hit.at d.write) [
                      | More3 h' ↦ absurd (d.first.none hit.at h' h hit.here)
                      | Same3 h' ↦ absurd (act_no_sending d.write node (memory.page word) (node, d.last.writes.frame, Write word d.value, d.last.writes.is)
                          (subst (λ y. Sends events node (memory.page word) y) h' hit.here))
                      | Less3 h' ↦
                          let (t, tk, b) =
                          received_next node (memory.page word) hit.at d.write hit.here
                          (write_item node word d.write (d.value, d.last.writes)) h' in
                          make hit.at t first tk (omega (arith, d.first.after))
                    ]
                  ]
            ]
      ]

  -- ---- adds

  -- from: the post of p's Add, or the own item; the node stands still from there to x
  pub record Adding (node word x : ℕ) : Type 0 where
    pub from : ℕ
    pub from_first : from ≤ x
    pub absent : (b : ℕ) (ws : ℕ → ℤ) → Resident events node (memory.page word) from b ws → ⊥
    pub items : (i : ℕ) → IsItem memory node (events i) → i < x → i ≤ from
    pub apart : (page a : ℕ) (words : ℕ → ℤ) (b : Behind node page a words) → (a < from) ⊎ (x ≤ b.at)

  arrival_of : (node page a : ℕ) (words : ℕ → ℤ) → Behind node page a words →
      ((k : ℕ) × (events a ≡ Took node k)) ⊎ ((ws : ℕ → ℤ) × (events a ≡ OwnFetch node page ws))
  arrival_of node page a words b = elim (b.which) [ inl k ↦ inl (k.takes, k.arrived) | inr o ↦ inr (o.words, o.is) ]

  own_add : (node word x : ℕ) (old d : ℤ) (frame : FrameId) → events x ≡ Acts node frame (Add word old d) →
      memory.home (memory.page word) ≡ node → Adding node word x
  own_add node word x old d frame is home =
      let item : IsItem memory node (events x) = subst (λ e. IsItem memory node e) (sym is) (refl, home) in
      record {
        from = x;
        from_first = omega arith;
        absent = λ b ws r. caching.access.own_add_absent node frame word old d x b ws is home r;
        items = λ i h l. omega arith;
        apart = λ page a words b. elim (compare a x) [
          | Less3 l ↦ inl l
          | More3 l ↦ inr (let k = (b.after x item l).1 in omega arith)
          | Same3 e ↦ elim (arrival_of node page a words b) [
            | inl (k, t) ↦ let t' : events x ≡ Took node k = subst (λ i. events i ≡ Took node k) e t in absurd cc
            | inr (ws, t) ↦ let t' : events x ≡ OwnFetch node page ws = subst (λ i. events i ≡ OwnFetch node page ws) e t in absurd cc
          ]
        ];
      }

  pub served_by : (h node word x : ℕ) (old d : ℤ) (frame : FrameId) → events x ≡ Acts node frame (Add word old d) →
      memory.home (memory.page word) ≡ h → h ≢ node → serves memory h (events x) ≡ true
  served_by h node word x old d frame is home ne = rw (is, home, eqb_self h, eqb_other node h (λ e. ne (sym e))) refl

  module _ (node word x : ℕ) (old d : ℤ) (frame : FrameId) (is : events x ≡ Acts node frame (Add word old d)) (ne : memory.home (memory.page word) ≢ node) where
    h : ℕ
    h = memory.home (memory.page word)

    pub sv : Serving events memory (memory.home (memory.page word)) node frame word d x
    sv = caching.adds.served node frame word old d x is ne

    -- the Added is taken after the item
    pub done_later : (now : ℕ) → AddDone events memory node (sv.post) now → x < now
    done_later now an =
        let hh : ℕ = memory.home (memory.page word) in
        let (e1, l1) = taken_by sv.post an.taking node hh (AddTo frame word d) sv.posted (record { taker = an.home; is = an.took }) in
        let t : an.taking ≡ sv.taking = caching.delivery.once an.taking sv.taking an.home hh sv.post an.took sv.took in
        let same_home : an.home ≡ hh = cc in
        let sv' : Serves events memory hh (an.served) (sv.taking) =
        subst (λ i. Serves events memory i (an.served) (sv.taking)) same_home
        (subst (λ i. Serves events memory (an.home) (an.served) i) t an.serves) in
        let tells' : Tells events memory hh (an.reply) (an.served) =
        subst (λ i. Tells events memory i (an.reply) (an.served)) same_home an.tells in
        let k = owed.head-pushed (λ i. serves memory hh (events i)) (λ i. gives_added hh (events i)) an.reply an.served tells' in
        let same : x ≡ an.served =
        owed.once (λ i. takes_add events hh (events i)) (λ i. serves memory hh (events i)) x an.served sv.taking
        (served_by hh node word x old d frame is refl ne) k sv.serves sv' in
        let l2 = owed.head-before (λ i. serves memory hh (events i)) (λ i. gives_added hh (events i)) an.reply an.served tells' in
        let (other', note', e2, l3) = caching.delivery.posted an.at node an.reply an.takes in
        omega (arith, an.before)

    pub post_first : sv.post < x
    post_first =
        let hh : ℕ = memory.home (memory.page word) in
        let (other, note, e, l) = caching.delivery.posted sv.taking hh sv.post sv.took in
        let l2 = owed.head-before (λ i. takes_add events hh (events i)) (λ i. serves memory hh (events i)) x sv.taking sv.serves in
        omega arith

    beyond : (i : ℕ) → IsItem memory node (events i) → sv.post < i → x < i
    beyond i item l =
        done_later i (caching.access.item node i sv.post (memory.home (memory.page word)) (AddTo frame word d) item l sv.posted)

    pub other_add : Adding node word x
    other_add = record {
      from = sv.post;
      from_first = let l = post_first in omega arith;
      absent = λ b ws r. caching.access.add_absent node frame word d sv.post (memory.home (memory.page word)) b ws sv.posted r;
      items =
          λ i item l. elim (compare sv.post i) [ Less3 k ↦ let l2 = beyond i item k in absurd (omega arith) | Same3 k ↦ omega arith | More3 k ↦ omega arith ];
      apart = λ page a words b. elim (compare a sv.post) [
        | Less3 l ↦ inl l
        | Same3 e ↦ elim (arrival_of node page a words b) [
          | inl (k, t) ↦
              let t' : events (sv.post) ≡ Took node k = subst (λ i. events i ≡ Took node k) e t in
              let po = sv.posted in absurd cc
          | inr (ws, t) ↦
              let t' : events (sv.post) ≡ OwnFetch node page ws = subst (λ i. events i ≡ OwnFetch node page ws) e t in
              let po = sv.posted in absurd cc
        ]
        | More3 l ↦ inr (after_post page a words b l)
      ];
    }
      where
        after_post : (page a : ℕ) (words : ℕ → ℤ) (b : Behind node page a words) → sv.post < a → x ≤ b.at
        after_post page a words b l = elim (b.which) [
          | inr o ↦ let k = beyond a (subst (λ e. IsItem memory node e) (sym o.is) refl) l in let e = o.at_is in omega arith
          | inl o ↦ elim (compare b.from sv.post) [
            | Less3 k ↦
                let an =
                caching.access.alone node sv.post b.from o.home (memory.home (memory.page word)) (Fetch page) (AddTo frame word d) sv.posted tt k o.fetch in
                let l2 = o.back sv.post an in absurd (omega arith)
            | Same3 e ↦
                let fe = o.fetch in
                let fe' : events (sv.post) ≡ Post node o.home (Fetch page) =
                subst (λ i. events i ≡ Post node o.home (Fetch page)) e fe in let po = sv.posted in absurd cc
            | More3 k ↦
                let l2 = done_later b.from (caching.access.alone node b.from sv.post (memory.home (memory.page word)) o.home (AddTo frame word d)
                (Fetch page) o.fetch tt k sv.posted) in
                let l3 = b.from_first in omega arith
          ]
        ]

  pub adding : (node word x : ℕ) → IsAdd events node word x → Adding node word x
  adding node word x (old, a) = elim (same_or_not (memory.home (memory.page word)) node) [
    | inl e ↦ own_add node word x old a.addend a.frame a.is e
    | inr ne ↦ other_add node word x old a.addend a.frame a.is ne
  ]

  -- ---- along one node's acts of one word, moments never fall

  -- what is touched, and whose page is absent at n, has its moment before n
  pub gone : (node word x now : ℕ) → IsTouch events node word x → x ≤ now →
      ((b : ℕ) (ws : ℕ → ℤ) → Resident events node (memory.page word) now b ws → ⊥) → Has node word x now
  gone node word x now tx l absent =
      let (a, words, r) = caching.access.resident node word x tx in
      let d = dropped node (memory.page word) x a now words (touch_item node word x tx) (touch_act node word x tx) r l absent in
      let dr = caching.drops node (memory.page word) d.at d.is in
      let same : dr.arrival ≡ a = resident_unique node (memory.page word) d.at dr.arrival a dr.found words dr.resident d.resident in
      let hs = settled node word x a d.at words tx r d.after (λ z wr h1 h2. dr.clean word z refl wr (omega arith) (omega (arith, d.after))) in
      record { at = hs.at; moment = hs.moment; before = omega (arith, hs.before, d.before) }

  touch_touch : (node word x y m : ℕ) → IsTouch events node word x → x < y → Stay events memory node word y m → Has node word x (suc m)
  touch_touch node word x y m ax l mo =
      let (a, words, r) = caching.access.resident node word x ax in
      let (a', words', r') = start_of node word y m mo in
      elim (compare a a') [
        | Same3 e ↦ same_stay node word x y a m words r ax l mo e
        | More3 h ↦ absurd (r'.last a h (omega (arith, r.before)) (words, r.arrives))
        | Less3 h ↦ elim (compare a' x) [
          | Less3 h' ↦ absurd (r.last a' h h' (words', r'.arrives))
          | Same3 h' ↦ absurd (act_no_arrival x node (memory.page word) words' (touch_act node word x ax)
              (subst (λ i. Arrives events node (memory.page word) i words') h' r'.arrives))
          | More3 h' ↦
              let b = behind node (memory.page word) a' words' r'.arrives in
              let af = after_source node word y m mo b in
              let fa = b.after x (touch_item node word x ax) h' in
              let hs = gone node word x b.from ax fa.0 b.absent in
              record { at = hs.at; moment = hs.moment; before = omega (arith, hs.before, b.from_first) }
        ]
      ]

  add_touch : (node word x y m : ℕ) → IsAdd events node word x → x < y → Stay events memory node word y m → Has node word x (suc m)
  add_touch node word x y m ax l mo =
      let (a', words', r') = start_of node word y m mo in
      let b = behind node (memory.page word) a' words' r'.arrives in
      let ad = adding node word x ax in
      let af = after_source node word y m mo b in
      elim (ad.apart (memory.page word) a' words' b) [
        | inl h ↦ absurd (ad.absent a' words' (resident_at node (memory.page word) y ad.from a' words' r' h (omega (arith, ad.from_first))))
        | inr h ↦ record { at = x; moment = inr (ax, refl); before = omega arith }
      ]

  touch_add : (node word x y : ℕ) → IsTouch events node word x → IsAdd events node word y → x < y → Has node word x (suc y)
  touch_add node word x y ax ay l =
      let ad = adding node word y ay in
      let k = ad.items x (touch_item node word x ax) l in
      let hs = gone node word x ad.from ax k ad.absent in
      record { at = hs.at; moment = hs.moment; before = omega (arith, hs.before, ad.from_first) }

  pub never_fall : (node word x y m : ℕ) → IsAccess events node word x → IsAccess events node word y → x < y →
      Moment events memory node word y m → Has node word x (suc m)
  never_fall node word x y m (inl ax) ay l (inl (ty, mo)) = touch_touch node word x y m ax l mo
  never_fall node word x y m (inr ax) ay l (inl (ty, mo)) = add_touch node word x y m ax l mo
  never_fall node word x y m (inl ax) ay l (inr (ty, e)) =
      let h = touch_add node word x y ax ty l in record { at = h.at; moment = h.moment; before = omega (arith, h.before) }
  never_fall node word x y m (inr ax) ay l (inr (ty, e)) = record { at = x; moment = inr (ax, refl); before = omega arith }
