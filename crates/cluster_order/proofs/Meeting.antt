-- The moment of an access by the rules of the cluster is the one by the rules over positions.
use Rattle.std.proofs.Common.{◌≡◌, inl, inr, ℕ, ℤ, suc, ◌<◌, ◌≤◌, List, Some, Bool, true, false, refl, sym, ◌∙◌, ap, subst, arith}
use Rattle.page_messages.specs.declared.closure.FrameId.{FrameId}
use Rattle.cluster_rules.specs.Turns.{WholeTurn, Event}
use Rattle.cluster_rules.specs.Node.{page_of}
use Rattle.cluster_rules.specs.Cache.{arrives, writes}
use Rattle.cluster_rules.specs.Sendings.{sends}
use Rattle.cluster_rules.specs.Positions.{Moved, Course, course_of, at, Happens}
use Rattle.cluster_rules.specs.Positions as positions
use Rattle.cluster_rules.specs.Moments.{touches, NoneUpTo, IsLast, IsFirst, IsTouch, IsSentMoment, IsArrivedMoment, IsMoment}
use Rattle.cluster_rules.specs.Runs.{Cluster, IsLawful, node_at}
use Rattle.backer_order.specs.Log as log
use Rattle.backer_order.specs.Moments.{NoneBetween, IsWrite, IsArrival, Resident, LastWrite, NoWrite, Sends, FirstSending, Stay, ByWrite, ByArrival, Moment, IsAccess}
use Rattle.backer_order.specs.Moments as moments
use Rattle.backer_order.specs.Rules.{Caching}
use Rattle.backer_order.proofs.Search.{Order3, Less3, Same3, More3, compare}
use Rattle.cluster_order.specs.Reading.{memory_of}
use Rattle.cluster_order.proofs.Accesses.{ev, write_at, write_there, arrival_at, arrival_there}
use Rattle.cluster_order.proofs.Cleaning.{sends_at, sends_there}
use Rattle.cluster_order.proofs.Caching.{keeps_the_page_rules}
use Rattle.cluster_order.proofs.Touching.{Touch, Writes, Reads, touch_in, touch_at, touch_there, add_at, add_there, same_happening}
use Rattle.cluster_order.proofs.Sources.{source_at, source_there, receipt_at, receipt_there}

-- ---- nothing such stands between

module _ (course : Course) (number : ℕ) (such : Event → Bool) (P : ℕ → Type 0) where
  -- what holds at a position happens to the node there, and the other way round
  abbrev pub Stands : Type 0
  Stands = (i : ℕ) → P i → (event : Event) × Happens course number i event × (such event ≡ true)

  abbrev pub Holds : Type 0
  Holds = (i : ℕ) (event : Event) → Happens course number i event → such event ≡ true → P i

  pub none_between : (start end : ℕ) → Stands → positions.NoneBetween course number such start end → NoneBetween P start end
  none_between start end stands none = λ i behind less holds.
      let it = stands i holds in
      let not = none i (it.1.moved) behind less (it.1.is) (it.1.by) in
      let is : such (it.1.moved.event) ≡ true = ap such (it.1.event_is) ∙ it.2 in
      absurd (cc)

  pub between_none : (start end : ℕ) → Holds → NoneBetween P start end → positions.NoneBetween course number such start end
  between_none start end holds none = λ i moved behind less here by.
      on (such moved.event) refl (λ is. none i behind less (holds i moved.event (record { moved = moved; is = here; by = by; event_is = refl }) is))
    where
      on : {b : Bool} (c : Bool) → b ≡ c → (b ≡ true → ⊥) → b ≡ false
      on true is no_such = absurd (no_such is)
      on false is no_such = is

  pub none_up_to : (start end : ℕ) → Stands → NoneUpTo course number such start end → NoneBetween P start (suc end)
  none_up_to start end stands none = none_between start (suc end) stands (λ i moved behind less here by. none i moved behind (omega (arith, less)) here by)

  pub up_to_none : (start end : ℕ) → Holds → NoneBetween P start (suc end) → NoneUpTo course number such start end
  up_to_none start end holds none = λ i moved behind less here by. between_none start (suc end) holds none i moved behind (omega (arith, less)) here by

-- an access has one owner
acts_in : (events : ℕ → log.Event) (at word node : ℕ) → IsAccess events node word at
    → (frame : FrameId) × (done : log.Act) × (events at ≡ log.Acts node frame done)
acts_in events at word node (inl (inl write)) = (write.1.frame, log.Write word (write.0), write.1.is)
acts_in events at word node (inl (inr read)) = (read.1.frame, log.Read word (read.0), read.1.is)
acts_in events at word node (inr add) = (add.1.frame, log.Add word (add.0) (add.1.addend), add.1.is)

pub one_owner : (events : ℕ → log.Event) (at word node other : ℕ) → IsAccess events node word at → IsAccess events other word at → node ≡ other
one_owner events at word node other one two =
    let first = acts_in events at word node one in
    let second = acts_in events at word other two in
    let both : log.Acts node (first.0) (first.1) ≡ log.Acts other (second.0) (second.1) = sym (first.2) ∙ second.2 in
    cc

-- a read or a write is no arrival
no_arrival : (word page : ℕ) (event : Event) → touches word event ≡ true → arrives page event ≡ false
no_arrival word page event is = on (touch_in word event is)
  where
    on : Touch word event → arrives page event ≡ false
    on (Writes frame index value same) = ap (arrives page) same
    on (Reads frame index value same) = ap (arrives page) same

module _ (cluster : Cluster) (turns : List WholeTurn) (lawful : IsLawful cluster turns) where
  abbrev course : Course
  course = course_of turns

  abbrev events : ℕ → log.Event
  events = ev cluster turns lawful

  caching : Caching events (memory_of cluster)
  caching = keeps_the_page_rules cluster turns lawful

  abbrev its_page : ℕ → ℕ
  its_page word = page_of (node_at cluster 0) word

  module _ (node word access : ℕ) where
    -- ---- the arrival

    -- the node reads or writes the word there
    abbrev Here : Type 0
    Here = (event : Event) × Happens course node access event × (touches word event ≡ true)

    -- the page of an access is in the cache since its last arrival
    resident_of : (arrival : ℕ) → Here → IsLast course node (arrives (its_page word)) access arrival
        → (words : ℕ → ℤ) × Resident events node (its_page word) access arrival words
    resident_of arrival here last = on (compare arrival (found.0))
      where
        touch : moments.IsTouch events node word access
        touch = touch_at cluster turns lawful node word access (here.0) (here.1) (here.2)

        found : (other : ℕ) × (words : ℕ → ℤ) × Resident events node (its_page word) access other words
        found = caching.access.resident node word access touch

        came : IsArrival events node (its_page word) (found.0)
        came = (found.1, found.2.arrives)

        none : NoneBetween (IsArrival events node (its_page word)) arrival (suc access)
        none =
            none_up_to course node (arrives (its_page word)) (IsArrival events node (its_page word)) arrival access
            (λ i. arrival_there cluster turns lawful node (its_page word) i) (last.none)

        it : IsArrival events node (its_page word) arrival
        it = arrival_at cluster turns lawful node (its_page word) arrival (last.event) (last.is) (last.such_is)

        -- it is not at the access itself
        smaller : arrival < access
        smaller = elim (compare arrival access) [
          | Less3 less ↦ less
          | Same3 same ↦ (let one =
              same_happening course node node access (last.event) (here.0) (subst (λ i. Happens course node i (last.event)) same (last.is)) (here.1) in
              let not : arrives (its_page word) (last.event) ≡ false =
              ap (arrives (its_page word)) (one.1) ∙ no_arrival word (its_page word) (here.0) (here.2) in
              let is = last.such_is in
              absurd (cc))
          | More3 more ↦ (let within = last.within in absurd (omega (arith, more, within)))
        ]

        on : Order3 arrival (found.0) → (words : ℕ → ℤ) × Resident events node (its_page word) access arrival words
        on (Less3 less) = let before = found.2.before in absurd (none (found.0) less (omega (arith, before)) came)
        on (Same3 same) = subst (λ i. (words : ℕ → ℤ) × Resident events node (its_page word) access i words) (sym same) (found.1, found.2)
        on (More3 more) = absurd (found.2.last arrival more smaller it)

    last_arrival : (arrival : ℕ) (words : ℕ → ℤ) → Here → Resident events node (its_page word) access arrival words
        → IsLast course node (arrives (its_page word)) access arrival
    last_arrival arrival words here resident =
        let came = arrival_there cluster turns lawful node (its_page word) arrival (words, resident.arrives) in
        let before = resident.before in
        record {
          event = came.0;
          is = came.1;
          such_is = came.2;
          within = omega (arith, before);
          none = λ i moved behind less found by. none i moved behind found by (compare i access) less;
        }
      where
        earlier : positions.NoneBetween course node (arrives (its_page word)) arrival access
        earlier = between_none course node (arrives (its_page word)) (IsArrival events node (its_page word)) arrival access
            (λ i event happens is. arrival_at cluster turns lawful node (its_page word) i event happens is) (resident.last)

        none : (i : ℕ) (moved : Moved) → arrival < i → at course i ≡ Some moved → moved.node ≡ node → Order3 i access → i ≤ access
            → arrives (its_page word) moved.event ≡ false
        none i moved behind found by (Less3 smaller) less = earlier i moved behind smaller found by
        none i moved behind found by (Same3 same) less =
            let one = same_happening course node node access moved.event (here.0)
            (subst (λ k. Happens course node k moved.event) same (record { moved = moved; is = found; by = by; event_is = refl })) (here.1) in
            ap (arrives (its_page word)) (one.1) ∙ no_arrival word (its_page word) (here.0) (here.2)
        none i moved behind found by (More3 more) less = absurd (omega (arith, more, less))

    its_touch : (arrival : ℕ) (words : ℕ → ℤ) → Here → Resident events node (its_page word) access arrival words
        → IsTouch (node_at cluster node) course word access arrival
    its_touch arrival words here resident = record { event = here.0; is = here.1; touches_word = here.2; arrived = last_arrival arrival words here resident }

    -- ---- the last write and the first sending behind it

    last_write : (arrival write : ℕ) → IsLast course node (writes word) access write → arrival < write
        → (value : ℤ) × LastWrite events node word arrival (suc access) write value
    last_write arrival write last behind =
        let it = write_at cluster turns lawful node word write (last.event) (last.is) (last.such_is) in
        let within = last.within in (
          it.0,
          record {
            after = behind;
            before = omega (arith, within);
            writes = it.1;
            none = none_up_to course node (writes word) (IsWrite events node word) write access (λ i. write_there cluster turns lawful node word i) (last.none);
          },
        )

    write_last : (arrival write : ℕ) (value : ℤ) → LastWrite events node word arrival (suc access) write value → IsLast course node (writes word) access write
    write_last arrival write value last =
        let it = write_there cluster turns lawful node word write (value, last.writes) in
        let before = last.before in
        record {
          event = it.0;
          is = it.1;
          such_is = it.2;
          within = omega (arith, before);
          none =
              up_to_none course node (writes word) (IsWrite events node word) write access
              (λ i event happens is. write_at cluster turns lawful node word i event happens is) (last.none);
        }

    first_sending : (write sending : ℕ) → IsFirst course node (sends (its_page word)) write sending → FirstSending events node (its_page word) write sending
    first_sending write sending first = record {
      after = first.behind;
      sends = sends_at cluster turns lawful node (its_page word) sending (first.event) (first.is) (first.such_is);
      none =
          none_between course node (sends (its_page word)) (Sends events node (its_page word)) write sending
          (λ i. sends_there cluster turns lawful node (its_page word) i) (first.none);
    }

    sending_first : (write sending : ℕ) → FirstSending events node (its_page word) write sending → IsFirst course node (sends (its_page word)) write sending
    sending_first write sending first =
        let it = sends_there cluster turns lawful node (its_page word) sending (first.sends) in
        record {
          event = it.0;
          is = it.1;
          such_is = it.2;
          behind = first.after;
          none = between_none course node (sends (its_page word)) (Sends events node (its_page word)) write sending
              (λ i event happens is. sends_at cluster turns lawful node (its_page word) i event happens is) (first.none);
        }

    -- ---- the moment of a read or a write

    sent_stay : (moment : ℕ) → IsSentMoment (node_at cluster node) course word access moment → Stay events (memory_of cluster) node word access moment
    sent_stay moment it =
        let here : Here = (it.touch.event, it.touch.is, it.touch.touches_word) in
        let resident = resident_of (it.arrival) here (it.touch.arrived) in
        let last = last_write (it.arrival) (it.write) (it.wrote) (it.since_arrival) in
        inl (record {
          arrival = it.arrival;
          words = resident.0;
          resident = resident.1;
          write = it.write;
          value = last.0;
          last = last.1;
          post = it.sending;
          first = first_sending (it.write) (it.sending) (it.sent);
          received = receipt_at cluster turns lawful node (its_page word) (it.sending) moment (it.sent.event) (it.sent.is) (it.sent.such_is) (it.received);
        })

    arrived_stay : (moment : ℕ) → IsArrivedMoment (node_at cluster node) course word access moment → Stay events (memory_of cluster) node word access moment
    arrived_stay moment it =
        let here : Here = (it.touch.event, it.touch.is, it.touch.touches_word) in
        let resident = resident_of (it.arrival) here (it.touch.arrived) in
        let arrived = it.touch.arrived in
        inr (record {
          arrival = it.arrival;
          words = resident.0;
          resident = resident.1;
          none =
              none_up_to course node (writes word) (IsWrite events node word) (it.arrival) access (λ i. write_there cluster turns lawful node word i)
              (it.unwritten);
          source = source_at cluster turns lawful node (its_page word) (it.arrival) moment (arrived.event) (arrived.is) (arrived.such_is) (it.source);
        })

    stay_moment : (moment : ℕ) → Here → Stay events (memory_of cluster) node word access moment → IsMoment (node_at cluster node) course word access moment
    stay_moment moment here (inl it) =
        let sending = sending_first (it.write) (it.post) (it.first) in
        inl (record {
          arrival = it.arrival;
          write = it.write;
          sending = it.post;
          touch = its_touch (it.arrival) (it.words) here (it.resident);
          wrote = write_last (it.arrival) (it.write) (it.value) (it.last);
          since_arrival = it.last.after;
          sent = sending;
          received = receipt_there cluster turns lawful (it.post) moment (it.received);
        })
    stay_moment moment here (inr it) = inr (inl (record {
      arrival = it.arrival;
      touch = its_touch (it.arrival) (it.words) here (it.resident);
      unwritten =
          up_to_none course node (writes word) (IsWrite events node word) (it.arrival) access
          (λ i event happens is. write_at cluster turns lawful node word i event happens is) (it.none);
      source = source_there cluster turns lawful node (its_page word) (it.arrival) moment (it.source);
    }))

  -- ---- moments agree

  -- The owner of an access is the node in whose frame it is. For an add that is not the node at which it happens, its home.
  module _ (owner node word access : ℕ) (event : Event) (happens : Happens course node access event) (is : IsAccess events owner word access) where
    -- an access that happens to a node as a read or a write is its own
    own_access : (other : Event) → Happens course node access other → touches word other ≡ true → node ≡ owner
    own_access other there touched =
        one_owner events access word node owner (inl (touch_at cluster turns lawful node word access other there touched)) is

    touched_moment : (moment : ℕ) (other : Event) → Happens course node access other → touches word other ≡ true
        → Stay events (memory_of cluster) node word access moment
        → Moment events (memory_of cluster) owner word access moment
    touched_moment moment other there touched stay =
        let mine = own_access other there touched in
        subst (λ it. Moment events (memory_of cluster) it word access moment) mine
        (inl (touch_at cluster turns lawful node word access other there touched, stay))

    pub moment_at : (moment : ℕ) → IsMoment (node_at cluster node) course word access moment → Moment events (memory_of cluster) owner word access moment
    moment_at moment (inl it) = touched_moment moment (it.touch.event) (it.touch.is) (it.touch.touches_word) (sent_stay node word access moment it)
    moment_at moment (inr (inl it)) = touched_moment moment (it.touch.event) (it.touch.is) (it.touch.touches_word) (arrived_stay node word access moment it)
    moment_at moment (inr (inr it)) =
        let add = add_at cluster turns lawful node word access (it.event) (it.is) (it.adds_word) in
        let mine = one_owner events access word _ owner (inr add) is in
        inr (subst (λ one. moments.IsAdd events one word access) mine add, it.at_once)

    pub moment_there : (moment : ℕ) → Moment events (memory_of cluster) owner word access moment → IsMoment (node_at cluster node) course word access moment
    moment_there moment (inl (touch, stay)) =
        let it = touch_there cluster turns lawful owner word access touch in
        let same = same_happening course owner node access (it.0) event (it.1) happens in
        let here : (other : Event) × Happens course node access other × (touches word other ≡ true) =
        (it.0, subst (λ one. Happens course one access (it.0)) (same.0) (it.1), it.2) in
        stay_moment node word access moment here (subst (λ one. Stay events (memory_of cluster) one word access moment) (same.0) stay)
    moment_there moment (inr (add, at_once)) =
        let it = add_there cluster turns lawful owner word access add in
        let same = same_happening course (it.0) node access (it.1) event (it.2) happens in
        inr (inr (record { event = it.1; is = subst (λ one. Happens course one access (it.1)) (same.0) (it.2); adds_word = it.3; at_once = at_once }))
