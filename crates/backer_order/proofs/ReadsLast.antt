-- Each read gives, and each add has as its old value, what the last place before it in the home order leaves.
use Rattle.std.proofs.Common.{◌≡◌, ℕ, ℤ, suc, ◌<◌, ◌≤◌, ◌⊎◌, inl, inr, true, refl, sym, ◌∙◌, subst, arith}
use Rattle.page_messages.specs.declared.closure.FrameId.{FrameId}
use Rattle.backer_order.specs.Log.{Act, Add, Part, Fetch, Acts, OwnFetch, OwnReconcile, Post, Took, Events, SharedMemory}
use Rattle.backer_order.specs.Moments.{NoneBetween, Wrote, IsWrite, HasRead, IsTouch, IsAdd, IsAccess, Leaves, OfWrite, OfAdd, IsLeaving, Arrives, Source, Resident, LastWrite, Sending, ByPart, ByItem, Sends, FirstSending, TakenAt, Received, ByTaking, AtItem, Stay, Moment}
use Rattle.backer_order.specs.Rules.{Changes, MergedAt, AddedAt, IsChange, HomeWord, Caching}
use Rattle.backer_order.specs.HomeOrder.{HasNone, Before, LastIn, NoneIn, ReadsLast}
use Rattle.backer_order.proofs.Search.{Less3, Same3, More3, compare, find_last, find_first}
use Rattle.backer_order.proofs.Decide.{decide_write, decide_sending, decide_received}
use Rattle.backer_order.proofs.Pages as pages

module _ (events : Events) (memory : SharedMemory) (caching : Caching events memory) where
  -- the moment of a write
  pub record Sent (node word y m : ℕ) : Type 0 where
    pub arrival : ℕ
    pub words : ℕ → ℤ
    pub resident : Resident events node (memory.page word) y arrival words
    pub post : ℕ
    pub first : FirstSending events node (memory.page word) y post
    pub received : Received events post m

  touch_no_add : (node other word x : ℕ) → IsTouch events node word x → IsAdd events other word x → ⊥
  touch_no_add node other word x (inl a) b = let h = a.1.is in let h' = b.1.is in cc
  touch_no_add node other word x (inr a) b = let h = a.1.is in let h' = b.1.is in cc

  pub stay_of : (node word x m : ℕ) → IsTouch events node word x → Moment events memory node word x m → Stay events memory node word x m
  stay_of node word x m tx (inl mo) = mo.1
  stay_of node word x m tx (inr mo) = absurd (touch_no_add node node word x tx mo.0)

  pub add_moment : (node word x m : ℕ) → IsAdd events node word x → Moment events memory node word x m → m ≡ x
  add_moment node word x m ax (inl mo) = absurd (touch_no_add node node word x mo.0 ax)
  add_moment node word x m ax (inr mo) = mo.1

  of_write_stay : (node word y m : ℕ) → IsWrite events node word y → Stay events memory node word y m → Sent node word y m
  of_write_stay node word y m x (inr d) = absurd (d.none y d.resident.before (omega arith) x)
  of_write_stay node word y m x (inl d) = elim (compare d.write y) [
    | Less3 h ↦ absurd (d.last.none y h (omega arith) x)
    | More3 h ↦ absurd (omega (arith, d.last.before))
    | Same3 e ↦ record {
      arrival = d.arrival;
      words = d.words;
      resident = d.resident;
      post = d.post;
      first = subst (λ i. FirstSending events node (memory.page word) i d.post) e d.first;
      received = d.received;
    }
  ]

  pub of_write : (node word y m : ℕ) → IsWrite events node word y → Moment events memory node word y m → Sent node word y m
  of_write node word y m x mo = of_write_stay node word y m x (stay_of node word y m (inl x) mo)

  -- two moments at one place are of one node's one sending
  pub one_source : (k k' m : ℕ) → Received events k m → Received events k' m → k ≡ k'
  one_source k k' m (ByTaking t) (ByTaking t') = let a = t.is in let b = t'.is in cc
  one_source k k' m (ByTaking t) (AtItem node part is e) =
      let a = t.is in let b : events m ≡ OwnReconcile node part = subst (λ i. events i ≡ OwnReconcile node part) (sym e) is in absurd cc
  one_source k k' m (AtItem node part is e) (ByTaking t) =
      let a = t.is in let b : events m ≡ OwnReconcile node part = subst (λ i. events i ≡ OwnReconcile node part) (sym e) is in absurd cc
  one_source k k' m (AtItem node part is e) (AtItem node' part' is' e') = sym e ∙ e'

  sender_same : (node other page k : ℕ) → Sends events node page k → Sends events other page k → node ≡ other
  sender_same node other page k (x, ByPart r parts is m, e) (x', ByPart r' parts' is' m', e') = cc
  sender_same node other page k (x, ByPart r parts is m, e) (x', ByItem is', e') = absurd cc
  sender_same node other page k (x, ByItem is, e) (x', ByPart r' parts' is' m', e') = absurd cc
  sender_same node other page k (x, ByItem is, e) (x', ByItem is', e') = cc

  pub one_sender : (node other page k k' : ℕ) → Sends events node page k → Sends events other page k' → k ≡ k' → node ≡ other
  one_sender node other page k k' r r' e = sender_same node other page k r (subst (λ i. Sends events other page i) (sym e) r')

  -- a write's sending marks its word
  pub marks : (node word y m : ℕ) → IsWrite events node word y → Sent node word y m → IsChange events memory word m
  marks node word y m x o =
      let (part, sd, pg) = o.first.sends in
      let cl = caching.cleans node o.post part sd in
      let act = pages.touch_act events memory caching node word y (inl x) in
      let found : Resident events node (memory.page word) (o.post) (cl.arrival) cl.found =
      subst (λ i. Resident events node i (o.post) (cl.arrival) cl.found) pg cl.resident in
      let since : cl.arrival < y = elim (compare cl.arrival y) [
        | Less3 h ↦ h
        | Same3 h ↦ absurd (pages.act_no_arrival events memory caching y node (memory.page word) cl.found act
            (subst (λ i. Arrives events node (memory.page word) i cl.found) h found.arrives))
        | More3 h ↦
            let b = pages.behind events memory caching node (memory.page word) cl.arrival cl.found found.arrives in
            let l = (b.after y (pages.write_item events memory caching node word y x) h).0 in
            let d = pages.dropped events memory caching node (memory.page word) y o.arrival b.from o.words
            (pages.write_item events memory caching node word y x) act o.resident l b.absent in
            let dr = caching.drops node (memory.page word) d.at d.is in
            let same : dr.arrival ≡ o.arrival =
            pages.resident_unique events memory caching node (memory.page word) d.at dr.arrival o.arrival dr.found o.words dr.resident
            d.resident in
            let cd = dr.clean word y refl x (omega (arith, o.resident.before)) d.after in
            let (mk, rk, bk) = pages.settled_received events memory caching node cd.post d.at cd.settled in
            let lk = pages.received_later events memory caching cd.post mk rk in
            absurd (o.first.none cd.post cd.after (omega (arith, d.before, b.from_first, b.at_first, found.before)) (cd.part, cd.sends, cd.page))
      ] in (
        part.words word,
        MergedAt node o.post part sd o.received pg
            (cl.all word y (sym pg) x since o.first.after (λ i k k' h. o.first.none i k k' (subst (λ j. Sends events node j i) pg h))) refl,
      )

  -- an access that leaves a value is a change at its moment
  leaving_case : (node word y : ℕ) → IsLeaving events memory node word y →
      IsWrite events node word y ⊎ (IsAdd events node word y × IsChange events memory word y)
  leaving_case node word y (value, OfWrite x) = inl (value, x)
  leaving_case node word y (value, OfAdd frame old d is e) =
      inr ((old, record { frame = frame; addend = d; is = is }), (value, AddedAt node frame old d is e))

  pub leaving_access : (node word y : ℕ) → IsLeaving events memory node word y → IsAccess events node word y
  leaving_access node word y (value, OfWrite x) = inl (inl (value, x))
  leaving_access node word y (value, OfAdd frame old d is e) = inr (old, record { frame = frame; addend = d; is = is })

  pub change_at : (node word y m : ℕ) → IsLeaving events memory node word y → Moment events memory node word y m →
      IsChange events memory word m
  change_at node word y m lv mo = elim (leaving_case node word y lv) [
    | inl x ↦ marks node word y m x (of_write node word y m x mo)
    | inr (ax, ch) ↦ subst (λ i. IsChange events memory word i) (sym (add_moment node word y m ax mo)) ch
  ]

  -- ---- a read after a write of its own

  pub of_z : (node word x a z : ℕ) (value : ℤ) (m : ℕ) (words : ℕ → ℤ) → Resident events node (memory.page word) x a words →
      LastWrite events node word a (suc x) z value → Stay events memory node word x m → Sent node word z m
  of_z node word x a z value m words r l (inr d) =
      let same = pages.resident_unique events memory caching node (memory.page word) x d.arrival a d.words words d.resident r in
      absurd (d.none z (omega (arith, l.after)) l.before (value, l.writes))
  of_z node word x a z value m words r l (inl d) =
      let same : d.write ≡ z = elim (compare d.write z) [
        | Less3 h ↦ absurd (d.last.none z h l.before (value, l.writes))
        | Same3 e ↦ e
        | More3 h ↦ absurd (l.none d.write h d.last.before (d.value, d.last.writes))
      ] in
      record {
        arrival = a;
        words = words;
        resident = pages.resident_at events memory caching node (memory.page word) x z a words r l.after (omega (arith, l.before));
        post = d.post;
        first = subst (λ i. FirstSending events node (memory.page word) i d.post) same d.first;
        received = d.received;
      }

  pub own_moment : (node word z : ℕ) (value : ℤ) (m : ℕ) → Wrote events node word z value → Sent node word z m →
      Moment events memory node word z m
  own_moment node word z value m wr o = inl (
    inl (value, wr),
    inl (record {
      arrival = o.arrival;
      words = o.words;
      resident = o.resident;
      write = z;
      value = value;
      last = record { after = o.resident.before; before = omega arith; writes = wr; none = λ i h k. absurd (omega arith) };
      post = o.post;
      first = o.first;
      received = o.received;
    }),
  )

  -- with the write's moment the read has it too
  with_z : (node word x a z : ℕ) (value : ℤ) (m : ℕ) (words : ℕ → ℤ) → IsTouch events node word x →
      Resident events node (memory.page word) x a words → LastWrite events node word a (suc x) z value → Sent node word z m →
      Moment events memory node word x m
  with_z node word x a z value m words tx r l o =
      inl (
        tx,
        inl (record { arrival = a; words = words; resident = r; write = z; value = value; last = l; post = o.post; first = o.first; received = o.received }),
      )

  earlier_last : (now node word x a z : ℕ) (value : ℤ) (other y m m' : ℕ) (words : ℕ → ℤ) →
      Resident events node (memory.page word) x a words → LastWrite events node word a (suc x) z value → Stay events memory node word x m →
      m < now → m' < now
      → IsLeaving events memory other word y → Moment events memory other word y m' → (m' < m) ⊎ ((m' ≡ m) × (y < x)) →
      (y ≡ z) ⊎ Before events memory now word other y node z
  earlier_last now node word x a z value other y m m' words r l mx lm lm' lv my (inl h) =
      inr (inl (inl (record {
        first = m';
        second = m;
        first_is = my;
        second_is = own_moment node word z value m l.writes (of_z node word x a z value m words r l mx);
        first_in = lm';
        second_in = lm;
        order = inl h;
      })))
  earlier_last now node word x a z value other y m m' words r l mx lm lm' lv my (inr (e, h)) =
      let oz = of_z node word x a z value m words r l mx in
      elim (leaving_case other word y lv) [
        | inr (ay, ch) ↦
            let same : m' ≡ y = add_moment other word y m' ay my in
            absurd (pages.received_no_act events memory caching oz.post m other ay.1.frame (Add word ay.0 ay.1.addend) oz.received
            (subst (λ i. events i ≡ Acts other ay.1.frame (Add word ay.0 ay.1.addend)) (sym same ∙ e) ay.1.is))
        | inl iy ↦
            let oy = of_write other word y m' iy my in
            let k : oy.post ≡ oz.post = one_source oy.post oz.post m (subst (λ i. Received events oy.post i) e oy.received) oz.received in
            let same_node : other ≡ node = one_sender other node (memory.page word) oy.post oz.post oy.first.sends oz.first.sends k in
            elim (compare y z) [
              | Same3 e' ↦ inl e'
              | Less3 h' ↦ inr (inl (inl (record {
                first = m';
                second = m;
                first_is = my;
                second_is = own_moment node word z value m l.writes oz;
                first_in = lm';
                second_in = lm;
                order = inr (e, h');
              })))
              | More3 h' ↦ absurd (l.none y h' (omega arith) (subst (λ i. IsWrite events i word y) same_node iy))
            ]
      ]

  -- ---- the moment of an access, where it is decided

  stay_unique : (node word x m m' : ℕ) → Stay events memory node word x m → Stay events memory node word x m' → m ≡ m'
  stay_unique node word x m m' (inl d) (inl d') =
      let a = pages.resident_unique events memory caching node (memory.page word) x d.arrival d'.arrival d.words d'.words d.resident d'.resident in
      let z : d.write ≡ d'.write = elim (compare d.write d'.write) [
        | Less3 h ↦ absurd (d.last.none d'.write h d'.last.before (d'.value, d'.last.writes))
        | Same3 e ↦ e
        | More3 h ↦ absurd (d'.last.none d.write h d.last.before (d.value, d.last.writes))
      ] in
      let k : d.post ≡ d'.post = elim (compare d.post d'.post) [
        | Less3 h ↦ absurd (d'.first.none d.post (omega (arith, d.first.after)) h d.first.sends)
        | Same3 e ↦ e
        | More3 h ↦ absurd (d.first.none d'.post (omega (arith, d'.first.after)) h d'.first.sends)
      ] in
      pages.received_once events memory caching d'.post m m' (subst (λ i. Received events i m) k d.received) d'.received
  stay_unique node word x m m' (inl d) (inr d') =
      let a = pages.resident_unique events memory caching node (memory.page word) x d.arrival d'.arrival d.words d'.words d.resident d'.resident in
      absurd (d'.none d.write (omega (arith, d.last.after)) d.last.before (d.value, d.last.writes))
  stay_unique node word x m m' (inr d') (inl d) =
      let a = pages.resident_unique events memory caching node (memory.page word) x d.arrival d'.arrival d.words d'.words d.resident d'.resident in
      absurd (d'.none d.write (omega (arith, d.last.after)) d.last.before (d.value, d.last.writes))
  stay_unique node word x m m' (inr d) (inr d') =
      let a = pages.resident_unique events memory caching node (memory.page word) x d.arrival d'.arrival d.words d'.words d.resident d'.resident in
      pages.source_same events memory caching node (memory.page word) d'.arrival m m'
      (subst (λ i. Source events node (memory.page word) i m) a d.source) d'.source

  pub moment_unique : (node word x m m' : ℕ) → Moment events memory node word x m → Moment events memory node word x m' → m ≡ m'
  moment_unique node word x m m' (inl d) (inl d') = stay_unique node word x m m' d.1 d'.1
  moment_unique node word x m m' (inl d) (inr d') = absurd (touch_no_add node node word x d.0 d'.0)
  moment_unique node word x m m' (inr d) (inl d') = absurd (touch_no_add node node word x d'.0 d.0)
  moment_unique node word x m m' (inr d) (inr d') = d.1 ∙ sym d'.1

  decide_touch : (now node word x : ℕ) → x < now → IsTouch events node word x →
      ((m : ℕ) × (m < now) × Moment events memory node word x m) ⊎ HasNone events memory now node word x
  decide_touch now node word x lx ax =
      let (a, words, r) = caching.access.resident node word x ax in
      elim (find_last (IsWrite events node word) (decide_write events node word) a (suc x)) [
        | inr none ↦
            let h = pages.by_arrival events memory caching node word x a x words ax r none r.before in
            inl (h.at, omega (arith, h.before), h.moment)
        | inl z ↦
            let (value, wr) = z.here in
            let l : LastWrite events node word a (suc x) (z.at) value =
            record { after = z.after; before = z.before; writes = wr; none = z.none } in
            elim (find_first (Sends events node (memory.page word)) (decide_sending events node (memory.page word)) z.at now) [
              | inr none ↦ inr (λ m lm mo.
                  let o = of_z node word x a z.at value m words r l (stay_of node word x m ax mo) in
                  let later = pages.received_later events memory caching o.post m o.received in
                  none o.post o.first.after (omega arith) o.first.sends)
              | inl hit ↦
                  let first : FirstSending events node (memory.page word) (z.at) (hit.at) =
                  record { after = hit.after; sends = hit.here; none = hit.none } in
                  elim (find_first (Received events hit.at) (decide_received events hit.at) z.at now) [
                    | inl t ↦ inl (
                      t.at,
                      t.before,
                      inl (
                        ax,
                        inl (record {
                          arrival = a;
                          words = words;
                          resident = r;
                          write = z.at;
                          value = value;
                          last = l;
                          post = hit.at;
                          first = first;
                          received = t.here;
                        }),
                      ),
                    )
                    | inr none ↦ inr (λ m lm mo.
                        let o = of_z node word x a z.at value m words r l (stay_of node word x m ax mo) in
                        let k : o.post ≡ hit.at = elim (compare o.post hit.at) [
                          | Less3 h ↦ absurd (hit.none o.post o.first.after h o.first.sends)
                          | Same3 e ↦ e
                          | More3 h ↦ absurd (o.first.none hit.at hit.after h hit.here)
                        ] in
                        let later = pages.received_later events memory caching o.post m o.received in
                        none m (omega (arith, hit.after)) lm (subst (λ i. Received events i m) k o.received))
                  ]
            ]
      ]

  -- whether an access has a moment
  pub decide_moment : (now node word x : ℕ) → x < now → IsAccess events node word x →
      ((m : ℕ) × (m < now) × Moment events memory node word x m) ⊎ HasNone events memory now node word x
  decide_moment now node word x lx (inl ax) = decide_touch now node word x lx ax
  decide_moment now node word x lx (inr ax) = inl (x, lx, inr (ax, refl))

  own_case : (now : ℕ) → (node word x : ℕ) (value : ℤ) (a z : ℕ) (value' : ℤ) (words : ℕ → ℤ) → HasRead events node word x value →
      Resident events node (memory.page word) x a words → z < x → x < now → LastWrite events node word a (suc x) z value' →
      LastIn events memory now word node x value'
  own_case now node word x value a z value' words rd r zx xn l =
      let tx : IsTouch events node word x = inr (value, rd) in
      elim (decide_touch now node word x xn tx) [
        | inl (m, lm, mo) ↦
            let stay = stay_of node word x m tx mo in
            let oz = of_z node word x a z value' m words r l stay in
            record {
              node = node;
              at = z;
              leaves = OfWrite l.writes;
              earlier = zx;
              before = inl (inl (record {
                first = m;
                second = m;
                first_is = own_moment node word z value' m l.writes oz;
                second_is = mo;
                first_in = lm;
                second_in = lm;
                order = inr (refl, zx);
              }));
              last = λ other y ly lv b. elim b [
                | inl (inl both) ↦ earlier_last now node word x a z value' other y m both.first words r l stay lm both.first_in lv both.first_is
                    (subst (λ i. (both.first < i) ⊎ ((both.first ≡ i) × (y < x))) (moment_unique node word x both.second m both.second_is mo) both.order)
                | inl (inr one) ↦ absurd (one.second_is m lm mo)
                | inr none ↦ absurd (none.second_is m lm mo)
              ];
            }
        | inr hn ↦
            let zn : HasNone events memory now node word z =
            λ m lm mo. hn m lm (with_z node word x a z value' m words tx r l (of_write node word z m (value', l.writes) mo)) in
            record {
              node = node;
              at = z;
              leaves = OfWrite l.writes;
              earlier = zx;
              before = inr (record { first_is = zn; second_is = hn; order = inr (refl, zx) });
              last = λ other y ly lv b. elim b [
                | inl (inl both) ↦ absurd (hn both.second both.second_in both.second_is)
                | inl (inr one) ↦ inr (inl (inr (record { first = one.first; first_is = one.first_is; first_in = one.first_in; second_is = zn })))
                | inr none ↦ elim (none.order) [
                  | inl h ↦ inr (inr (record { first_is = none.first_is; second_is = zn; order = inl h }))
                  | inr (e, h) ↦ elim (compare y z) [
                    | Less3 h' ↦ inr (inr (record { first_is = none.first_is; second_is = zn; order = inr (e, h') }))
                    | Same3 h' ↦ inl h'
                    | More3 h' ↦ elim (leaving_case other word y lv) [
                      | inl iy ↦ absurd (l.none y h' (omega arith) (subst (λ i. IsWrite events i word y) e iy))
                      | inr (ay, ch) ↦ absurd (none.first_is y ly (inr (ay, refl)))
                    ]
                  ]
                ]
              ];
            }
      ]

  -- ---- what the home gave

  module _ (now node word x t : ℕ) (xn : x < now) (tx : t ≤ x) (mo : Moment events memory node word x t)
      (not_received : (k other page : ℕ) → Sends events other page k → Received events k t → ⊥)
      (no_add : (other y : ℕ) → IsAdd events other word y → y ≡ t → y < x → ⊥) where
    tn : t < now
    tn = omega (arith, xn, tx)

    -- what stands before in the home order changed the home before
    changed_before : (other y : ℕ) → IsLeaving events memory other word y → Before events memory now word other y node x →
        (m : ℕ) × Moment events memory other word y m × (m < t)
    changed_before other y lv (inl (inl both)) =
        let u : both.second ≡ t = moment_unique node word x both.second t both.second_is mo in
        elim (both.order) [
          | inl h ↦ (both.first, both.first_is, omega arith)
          | inr (e', h) ↦ elim (leaving_case other word y lv) [
            | inl iy ↦
                let o = of_write other word y both.first iy both.first_is in
                absurd (not_received o.post other (memory.page word) o.first.sends (subst (λ i. Received events o.post i) (e' ∙ u) o.received))
            | inr (ay, ch) ↦ absurd (no_add other y ay (sym (add_moment other word y both.first ay both.first_is) ∙ e' ∙ u) h)
          ]
        ]
    changed_before other y lv (inl (inr one)) = absurd (one.second_is t tn mo)
    changed_before other y lv (inr none) = absurd (none.second_is t tn mo)

    by_add : (value : ℤ) (u : ℕ) → u < t → NoneBetween (IsChange events memory word) u t → (node' : ℕ) (frame : FrameId) (old d : ℤ) →
        events u ≡ Acts node' frame (Add word old d) → Leaves events memory node' word u value → LastIn events memory now word node x value
    by_add value u before none node' frame old d is lv =
        let au : IsAdd events node' word u = (old, record { frame = frame; addend = d; is = is }) in
        record {
          node = node';
          at = u;
          leaves = lv;
          earlier = omega (arith, tx);
          before = inl (inl (record {
            first = u;
            second = t;
            first_is = inr (au, refl);
            second_is = mo;
            first_in = omega (arith, xn, tx);
            second_in = tn;
            order = inl before;
          }));
          last = λ other y ly lv bf.
              let (m, my, lt) = changed_before other y lv bf in
              elim (compare m u) [
                | Less3 h ↦ inr (inl (inl (record {
                  first = m;
                  second = u;
                  first_is = my;
                  second_is = inr (au, refl);
                  first_in = omega (arith, xn, tx);
                  second_in = omega (arith, xn, tx);
                  order = inl h;
                })))
                | More3 h ↦ absurd (none m h lt (change_at other word y m lv my))
                | Same3 h ↦ elim (leaving_case other word y lv) [
                  | inl iy ↦
                      let o = of_write other word y m iy my in
                      absurd (pages.received_no_act events memory caching o.post u node' frame (Add word old d)
                      (subst (λ i. Received events o.post i) h o.received) is)
                  | inr (ay, ch) ↦ inl (sym (add_moment other word y m ay my) ∙ h)
                ]
              ];
        }

    by_merge : (value : ℤ) (u : ℕ) → u < t → NoneBetween (IsChange events memory word) u t → (node' k : ℕ) (part : Part) →
        Sending events node' k part → Received events k u → part.page ≡ memory.page word → part.mask word ≡ true → part.words word ≡ value →
        LastIn events memory now word node x value
    by_merge value u before none node' k part sd rc pg marked valued =
        let cl = caching.cleans node' k part sd in
        let (z, l, no_rec) = cl.marked word (sym pg) marked in
        let found : Resident events node' (memory.page word) k (cl.arrival) cl.found =
        subst (λ i. Resident events node' i k (cl.arrival) cl.found) pg cl.resident in
        let rz = pages.resident_at events memory caching node' (memory.page word) k z cl.arrival cl.found found l.after (omega (arith, l.before)) in
        let oz : Sent node' word z u = record {
          arrival = cl.arrival;
          words = cl.found;
          resident = rz;
          post = k;
          first = record { after = l.before; sends = (part, sd, pg); none = λ i h h' sn. no_rec i h h' (subst (λ j. Sends events node' j i) (sym pg) sn) };
          received = rc;
        } in
        let mz = own_moment node' word z (part.words word) u l.writes oz in
        let later = pages.received_later events memory caching k u rc in
        record {
          node = node';
          at = z;
          leaves = OfWrite (subst (λ i. Wrote events node' word z i) valued l.writes);
          earlier = omega (arith, l.before, tx);
          before =
              inl (inl (record { first = u; second = t; first_is = mz; second_is = mo; first_in = omega (arith, xn, tx); second_in = tn; order = inl before }));
          last = λ other y ly lv bf.
              let (m, my, lt) = changed_before other y lv bf in
              elim (compare m u) [
                | Less3 h ↦ inr (inl (inl (record {
                  first = m;
                  second = u;
                  first_is = my;
                  second_is = mz;
                  first_in = omega (arith, xn, tx);
                  second_in = omega (arith, xn, tx);
                  order = inl h;
                })))
                | More3 h ↦ absurd (none m h lt (change_at other word y m lv my))
                | Same3 h ↦ elim (leaving_case other word y lv) [
                  | inr (ay, ch) ↦ absurd (pages.received_no_act events memory caching k u other ay.1.frame (Add word ay.0 ay.1.addend) rc
                      (subst (λ i. events i ≡ Acts other ay.1.frame (Add word ay.0 ay.1.addend)) (sym (add_moment other word y m ay my) ∙ h) ay.1.is))
                  | inl iy ↦
                      let oy = of_write other word y m iy my in
                      let kk : oy.post ≡ k = one_source oy.post k u (subst (λ i. Received events oy.post i) h oy.received) rc in
                      let same_node : other ≡ node' =
                      one_sender other node' (memory.page word) oy.post k oy.first.sends (part, sd, pg) kk in
                      elim (compare y z) [
                        | Same3 e' ↦ inl e'
                        | Less3 h' ↦ inr (inl (inl (record {
                          first = m;
                          second = u;
                          first_is = my;
                          second_is = mz;
                          first_in = omega (arith, xn, tx);
                          second_in = omega (arith, xn, tx);
                          order = inr (h, h');
                        })))
                        | More3 h' ↦ absurd (l.none y h' (subst (λ i. y < i) kk oy.first.after) (subst (λ i. IsWrite events i word y) same_node iy))
                      ]
                ]
              ];
        }

    changed_case : (value : ℤ) (u : ℕ) → u < t → NoneBetween (IsChange events memory word) u t → Changes events memory word u value →
        LastIn events memory now word node x value
    changed_case value u before none (AddedAt node' frame old d is e) =
        by_add value u before none node' frame old d is (OfAdd frame old d is e)
    changed_case value u before none (MergedAt node' k part sd rc pg marked is) =
        by_merge value u before none node' k part sd rc pg marked is

    pub home_case : (value : ℤ) → HomeWord events memory word t value →
        LastIn events memory now word node x value ⊎ NoneIn events memory now word node x value
    home_case value (inl (u, lc)) = inl (changed_case value u lc.before lc.none lc.changes)
    home_case value (inr (none, start)) = inr (record {
      start = start;
      none = λ other y ly lv bf. let (m, my, l) = changed_before other y lv bf in none m l (change_at other word y m lv my);
    })

  read_no_write : (node word x : ℕ) (value : ℤ) → HasRead events node word x value → IsWrite events node word x → ⊥
  read_no_write node word x value r x' = let h = r.is in let h' = x'.1.is in cc

  -- where the home gave a page, it received nothing, and no act stands
  given_no_act : (node page a other : ℕ) (frame : FrameId) (words : ℕ → ℤ) (act : Act) (b : pages.Behind events memory caching node page a words)
      → events (b.at) ≡ Acts other frame act → ⊥
  given_no_act node page a other frame words act b is = elim (b.which) [
    | inl k ↦ let h = k.took in cc
    | inr k ↦
        let h = k.is in
        let h' : events (b.at) ≡ OwnFetch node page k.words = subst (λ i. events i ≡ OwnFetch node page k.words) (sym k.at_is) k.is in cc
  ]

  not_taken : (node h page k k' m : ℕ) → events m ≡ Took h k → events k ≡ Post node h (Fetch page) → TakenAt events k' m →
      (other page' : ℕ) → Sends events other page' k' → ⊥
  not_taken node h page k k' m t e tk other page' sn =
      let t' = tk.is in
      let same : k' ≡ k = cc in
      let e' : events k' ≡ Post node h (Fetch page) = subst (λ i. events i ≡ Post node h (Fetch page)) (sym same) e in
      fetch_no_sending k' node h page other page' e' sn
    where
      fetch_no_sending : (k node h page other page' : ℕ) → events k ≡ Post node h (Fetch page) → Sends events other page' k → ⊥
      fetch_no_sending k node h page other page' e (part, ByPart r parts is m, e') = cc
      fetch_no_sending k node h page other page' e (part, ByItem is, e') = cc

  pub reads_last : (now : ℕ) → ReadsLast events memory now
  reads_last now word node x value xn (inr ad) =
      let ax : IsAdd events node word x = (value, ad) in
      home_case now node word x x xn (omega arith) (inr (ax, refl))
      (λ k other page sn rc. pages.received_no_act events memory caching k x node ad.frame (Add word value ad.addend) rc ad.is)
      (λ other y ay e l. absurd (omega arith))
      value (caching.adds.old node ad.frame word value ad.addend x ad.is)
  reads_last now word node x value xn (inl rd) =
      let (a, words, r) = caching.access.resident node word x (inr (value, rd)) in
      elim (find_last (IsWrite events node word) (decide_write events node word) a (suc x)) [
        | inl z ↦
            let (value', wr) = z.here in
            let zx : z.at < x = elim (compare z.at x) [
              | Less3 h ↦ h
              | Same3 h ↦ absurd (read_no_write node word x value rd (subst (λ i. IsWrite events node word i) h z.here))
              | More3 h ↦ absurd (omega (arith, z.before))
            ] in
            let l : LastWrite events node word a (suc x) (z.at) value' =
            record { after = z.after; before = z.before; writes = wr; none = z.none } in
            let l' : LastWrite events node word a x (z.at) value' =
            record { after = z.after; before = zx; writes = wr; none = λ i h k. z.none i h (omega arith) } in
            let same : value ≡ value' = caching.reads.own node word x value a z.at value' words rd r l' in
            inl (subst (λ i. LastIn events memory now word node x i) (sym same) (own_case now node word x value a z.at value' words rd r zx xn l))
        | inr none ↦
            let same : value ≡ words word = caching.reads.page node word x value a words rd r (λ i h k. none i h (omega arith)) in
            let b = pages.behind events memory caching node (memory.page word) a words r.arrives in
            let mo : Moment events memory node word x (b.at) =
            inl (inr (value, rd), inr (record { arrival = a; words = words; resident = r; none = none; source = b.source })) in
            home_case now node word x b.at xn (omega (arith, b.at_first, r.before)) mo
            (λ k other page sn rc. page_not_received node (memory.page word) a words b k other page sn rc)
            (λ other y ay e l. given_no_act node (memory.page word) a other ay.1.frame words (Add word ay.0 ay.1.addend) b
            (subst (λ i. events i ≡ Acts other ay.1.frame (Add word ay.0 ay.1.addend)) e ay.1.is))
            value (subst (λ i. HomeWord events memory word (b.at) i) (sym same) (b.given word refl))
      ]
    where
      own_not : (a' other' : ℕ) (part : Part) (ws : ℕ → ℤ) (pp gg : ℕ) → events a' ≡ OwnFetch pp gg ws →
          events a' ≡ OwnReconcile other' part → ⊥
      own_not a' other' part ws pp gg e e' = cc

      took_not : (a' other' k' h : ℕ) (part : Part) → events a' ≡ Took h k' → events a' ≡ OwnReconcile other' part → ⊥
      took_not a' other' k' h part e e' = cc

      own_took : (a' k' h pp gg : ℕ) (ws : ℕ → ℤ) → events a' ≡ OwnFetch pp gg ws → events a' ≡ Took h k' → ⊥
      own_took a' k' h pp gg ws e e' = cc

      page_not_received : (node page a : ℕ) (words : ℕ → ℤ) (b : pages.Behind events memory caching node page a words) (k other page' : ℕ) →
          Sends events other page' k → Received events k (b.at) → ⊥
      page_not_received node page a words b k other page' sn (ByTaking t) = elim (b.which) [
        | inl o ↦ not_taken node o.home page b.from k b.at o.took o.fetch t other page' sn
        | inr o ↦ own_took b.at k t.taker node page o.words (subst (λ i. events i ≡ OwnFetch node page o.words) (sym o.at_is) o.is) t.is
      ]
      page_not_received node page a words b k other page' sn (AtItem other' part is e) = elim (b.which) [
        | inl o ↦ took_not b.at other' b.from o.home part o.took (subst (λ i. events i ≡ OwnReconcile other' part) (sym e) is)
        | inr o ↦ own_not b.at other' part o.words node page (subst (λ i. events i ≡ OwnFetch node page o.words) (sym o.at_is) o.is)
            (subst (λ i. events i ≡ OwnReconcile other' part) (sym e) is)
      ]
