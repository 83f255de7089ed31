-- Sendings, clean pages and settled writes, at positions.
use Rattle.std.proofs.Common.{◌≡◌, ◌⊎◌, inl, inr, ℕ, ℤ, suc, ◌<◌, ◌≤◌, List, [], ◌∷◌, ◌++◌, Some, Bool, true, false, cond, ◌||◌, eqb, length, refl, sym, ◌∙◌, ap, subst, append_assoc, length-append, arith}
use Rattle.std.proofs.lemmas.Bool.Decides.{nat_tests}
use Rattle.std.specs.List.{list_any}
use Rattle.page_messages.specs.declared.message.Msg.{Msg}
use Rattle.page_messages.specs.declared.message.Body.{Body}
use Rattle.page_messages.specs.declared.message.Body.TheVariants as body
use Rattle.page_messages.specs.declared.parts.Part as page
use Rattle.page_messages.specs.declared.log.Item.{Item}
use Rattle.page_messages.specs.declared.log.Item.TheVariants as item
use Rattle.cluster_rules.specs.Walking.{since}
use Rattle.cluster_rules.specs.Turns.{WholeTurn, Event, Did, Sent, Took, Ended}
use Rattle.cluster_rules.specs.Node.{page_of, place_of}
use Rattle.cluster_rules.specs.Cache.{arrives, writes, written, cached}
use Rattle.cluster_rules.specs.Sendings.{ForAck, parts_in, sendings, marks, marks_word, sends, is_dirty, ends, settles, reconciles_in, IsSettled, AllSettled}
use Rattle.cluster_rules.specs.Paging.{IsSending}
use Rattle.cluster_rules.specs.Positions.{Moved, Course, course_of, own, at, before, Happens}
use Rattle.cluster_rules.specs.Runs.{Cluster, IsLawful, node_at}
use Rattle.cluster_rules.proofs.Backward.{any_latest, since_front, since_none, none_front, gives_some}
use Rattle.backer_order.specs.Log as log
use Rattle.backer_order.specs.Moments.{NoneBetween, IsWrite, IsArrival, Resident, LastWrite, HasPart, Sending, ByPart, ByItem, Sends, Settled, Acked, AtOnce}
use Rattle.backer_order.specs.Rules.{Cleaning, Cleaned}
use Rattle.backer_order.proofs.Search.{Order3, Less3, Same3, More3, compare}
use Rattle.cluster_order.specs.Reading.{memory_of, words_of, part_of, parts_of, note_of}
use Rattle.cluster_order.proofs.Growing.{within, at_behind, at_last}
use Rattle.cluster_order.proofs.Events.{happens, own_part_is}
use Rattle.cluster_order.proofs.Between.{own_more, own_first, Stands, stands, stands_at, past_parts, is_before, happens_there, none_behind, none_newer}
use Rattle.cluster_order.proofs.Messages.{length_before, happens_before, happened_before, none_between, none_from}
use Rattle.cluster_order.proofs.Accesses.{ev, write_in, event_there, write_at, write_there, arrival_at, arrival_there}
use Rattle.cluster_order.proofs.Residing.{Since, resident_at, residing, cached_last}
use Rattle.cluster_order.proofs.Homing.{has_part, reconciled, place_within, word_at_place}
use Rattle.cluster_order.proofs.Lawful.{own_part_allowed}
use Rattle.cluster_order.proofs.Answering.{Request, told_behind_answer, replied_by, some_later, ended_by}
use Rattle.cluster_rules.proofs.Testing.{both_true}

equal : (number other : ℕ) → eqb number other ≡ true → number ≡ other
equal number other is = grind (arith, nat_tests)

itself : (number : ℕ) → eqb number number ≡ true
itself number = grind (arith, nat_tests)

longer : (front : Course) (one : Moved) (back : Course) (n : ℕ) → length back ≡ n → n < length (front ++ one ∷ back)
longer front one back n is = let sum = length-append front (one ∷ back) in omega (arith, sum, is)

shorter : (whole front : Course) (one : Moved) (back : Course) (n : ℕ) → whole ≡ front ++ one ∷ back → length whole ≡ n → length back < n
shorter whole front one back n parts is = let sum = length-append front (one ∷ back) in let all = ap length parts in omega (arith, sum, all, is)

enough : (position post : ℕ) → suc post ≤ position → post < position
enough position post less = omega (arith, less)

at_last_before : (told answer position : ℕ) (front : Course) → told ≤ answer → answer < length front → length front ≡ position → told < position
at_last_before told answer position front one two three = omega (arith, one, two, three)

-- ---- one of a list that is such

pub record OneOf {A : Type 0} (such : A → Bool) (list : List A) : Type 0 where
  pub newer : List A
  pub older : List A
  pub one : A
  pub split : list ≡ newer ++ one ∷ older
  pub such_is : such one ≡ true

pub one_of : {A : Type 0} (such : A → Bool) (list : List A) → list_any such list ≡ true → OneOf such list
one_of such [] any = absurd (cc)
one_of such (first ∷ rest) any = on (such first) refl any (one_of such rest)
  where
    on : (b : Bool) → such first ≡ b → b || list_any such rest ≡ true → (list_any such rest ≡ true → OneOf such rest) → OneOf such (first ∷ rest)
    on true is any more = record { newer = []; older = rest; one = first; split = refl; such_is = is }
    on false is any more =
        let found = more any in
        record { newer = first ∷ found.newer; older = found.older; one = found.one; split = ap (λ it. first ∷ it) (found.split); such_is = found.such_is }

any_one : {A : Type 0} (such : A → Bool) (newer : List A) (one : A) (older : List A) → such one ≡ true → list_any such (newer ++ one ∷ older) ≡ true
any_one such [] one older is = rw is refl
any_one such (first ∷ newer) one older is = on (such first) (any_one such newer one older is)
  where
    on : (b : Bool) → list_any such (newer ++ one ∷ older) ≡ true → b || list_any such (newer ++ one ∷ older) ≡ true
    on true any = refl
    on false any = any

any_since : {A : Type 0} (such stop : A → Bool) (newer : List A) (one : A) (older : List A) → list_any stop newer ≡ false → stop one ≡ false → such one ≡ true
    → list_any such (since stop (newer ++ one ∷ older)) ≡ true
any_since such stop [] one older none going is = rw (going, is) refl
any_since such stop (first ∷ newer) one older none going is = on (stop first) refl none (λ rest. any_since such stop newer one older rest going is)
  where
    either : (b : Bool) → list_any such (since stop (newer ++ one ∷ older)) ≡ true → b || list_any such (since stop (newer ++ one ∷ older)) ≡ true
    either true any = refl
    either false any = any

    on : (b : Bool) → stop first ≡ b → b || list_any stop newer ≡ false
        → (list_any stop newer ≡ false → list_any such (since stop (newer ++ one ∷ older)) ≡ true)
        → list_any such (cond b [] (first ∷ since stop (newer ++ one ∷ older))) ≡ true
    on true is none more = absurd (cc)
    on false is none more = either (such first) (more none)

-- ---- what sends

sending_body : (such : page.Part → Bool) (said : Body) → list_any such (parts_in said) ≡ true
    → (parts : List page.Part) × (said ≡ body.Reconcile parts) × OneOf such parts
sending_body such (body.Fetch page) any = absurd (cc)
sending_body such (body.Page page words) any = absurd (cc)
sending_body such (body.Reconcile parts) any = (parts, refl, one_of such parts any)
sending_body such body.Ack any = absurd (cc)
sending_body such body.Ask any = absurd (cc)
sending_body such (body.Grant closure) any = absurd (cc)
sending_body such body.Refuse any = absurd (cc)
sending_body such (body.Done join index value) any = absurd (cc)
sending_body such (body.Park join closure) any = absurd (cc)
sending_body such (body.Add frame index word addend) any = absurd (cc)
sending_body such (body.Added old) any = absurd (cc)

-- a sending of such a part: in a message, or of the node's own
sending_event : (such : page.Part → Bool) (event : Event) → list_any such (sendings event) ≡ true
    → ((message : Msg) × (parts : List page.Part) × (event ≡ Sent message) × (message.body ≡ body.Reconcile parts) × OneOf such parts)
    ⊎ ((part : page.Part) × (event ≡ Did (item.OwnReconcile part)) × (such part ≡ true))
sending_event such (Did (item.Act frame index act)) any = absurd (cc)
sending_event such (Did (item.Tick frame)) any = absurd (cc)
sending_event such (Did (item.Drop page)) any = absurd (cc)
sending_event such (Did (item.TakeUp frame)) any = absurd (cc)
sending_event such (Did (item.OwnFetch page words)) any = absurd (cc)
sending_event such (Did (item.OwnReconcile part)) any = inr (part, refl, on (such part) refl any)
  where
    on : (b : Bool) → such part ≡ b → b || false ≡ true → such part ≡ true
    on true is any = is
    on false is any = absurd (cc)
sending_event such (Did (item.Served frame index word old addend)) any = absurd (cc)
sending_event such (Sent message) any = let it = sending_body such message.body any in inl (message, it.0, refl, it.1, it.2)
sending_event such (Took message) any = absurd (cc)
sending_event such (Ended end) any = absurd (cc)

module _ (cluster : Cluster) (turns : List WholeTurn) (lawful : IsLawful cluster turns) where
  abbrev events : ℕ → log.Event
  events = ev cluster turns lawful

  abbrev course : Course
  course = course_of turns

  -- a part that is such is sent at the position
  sent_at : (such : page.Part → Bool) (number position : ℕ) (event : Event) → Happens course number position event → list_any such (sendings event) ≡ true
      → (part : page.Part) × (such part ≡ true) × Sending events number position (part_of cluster part)
  sent_at such number position event happens any = on (sending_event such event any)
    where
      on : ((message : Msg) × (parts : List page.Part) × (event ≡ Sent message) × (message.body ≡ body.Reconcile parts) × OneOf such parts)
          ⊎ ((part : page.Part) × (event ≡ Did (item.OwnReconcile part)) × (such part ≡ true))
          → (part : page.Part) × (such part ≡ true) × Sending events number position (part_of cluster part)
      on (inl it) =
          let happened = subst (λ one. Happens course number position one) (it.2) happens in
          let posted = event_there cluster turns lawful number position (Sent (it.0)) happened
          ∙ ap (λ said. log.Post number (it.0.receiver) (note_of cluster number (before course position) said)) (it.3) in
          let one = it.4 in (
            one.one,
            one.such_is,
            ByPart (it.0.receiver) (parts_of cluster (it.1)) posted
                (subst (λ list. HasPart (part_of cluster (one.one)) (parts_of cluster list)) (sym (one.split))
                (has_part cluster (one.newer) (one.one) (one.older))),
          )
      on (inr it) =
          let happened = subst (λ one. Happens course number position one) (it.1) happens in
          (it.0, it.2, ByItem (event_there cluster turns lawful number position (Did (item.OwnReconcile (it.0))) happened))

  pub sends_at : (number page position : ℕ) (event : Event) → Happens course number position event → sends page event ≡ true → Sends events number page position
  sends_at number page position event happens is =
      let it = sent_at (λ part. eqb part.page page) number position event happens is in (part_of cluster (it.0), it.2, equal (it.0.page) page (it.1))

  -- what is sent at a position is resident, dirty, and as cached
  pub record SentThere (number position : ℕ) (sent : log.Part) : Type 0 where
    pub event : Event
    pub is : Happens course number position event
    pub part : page.Part
    pub part_is : part_of cluster part ≡ sent
    pub home : ℕ
    pub sending : IsSending (node_at cluster number) (own number (before course position)) home part
    pub any : (such : page.Part → Bool) → such part ≡ true → list_any such (sendings event) ≡ true

  pub sent_there : (number position : ℕ) (sent : log.Part) → Sending events number position sent → SentThere number position sent
  sent_there number position sent (ByPart receiver parts is has) =
      let it = reconciled cluster turns lawful number receiver position parts sent is has in
      record {
        event = Sent (it.message);
        is = happens cluster course position number (it.place) (Sent (it.message)) (it.found);
        part = it.among.part;
        part_is = it.among.is;
        home = receiver;
        sending = it.sending;
        any = λ such one. subst (λ said. list_any such (parts_in said) ≡ true) (sym (it.says))
            (subst (λ list. list_any such list ≡ true) (sym (it.among.split)) (any_one such (it.among.newer) (it.among.part) (it.among.older) one));
      }
  sent_there number position sent (ByItem is) =
      let it = own_part_is cluster course position number sent is in
      let may = own_part_allowed cluster turns lawful number position (it.0) (it.1) in
      record {
        event = Did (item.OwnReconcile (it.0));
        is = it.1;
        part = it.0;
        part_is = it.2;
        home = number;
        sending = may.1;
        any = λ such one. rw one refl;
      }

  pub sends_there : (number page position : ℕ) → Sends events number page position
      → (event : Event) × Happens course number position event × (sends page event ≡ true)
  sends_there number page position it =
      let there = sent_there number position (it.0) (it.1) in
      (there.event, there.is, there.any (λ part. eqb part.page page) (ap (λ one. eqb one page) (ap (λ one. one.page) (there.part_is) ∙ it.2) ∙ itself page))

  -- ---- marked reconcile

  abbrev fresh : ℕ → Event → Bool
  fresh page event = arrives page event || sends page event

  -- an arrival or a sending of the page
  abbrev Fresh : ℕ → ℕ → ℕ → Type 0
  Fresh number page position = IsArrival events number page position ⊎ Sends events number page position

  fresh_at : (number page position : ℕ) (event : Event) → Happens course number position event → fresh page event ≡ true → Fresh number page position
  fresh_at number page position event happens is = on (arrives page event) refl is
    where
      on : (b : Bool) → arrives page event ≡ b → b || sends page event ≡ true → Fresh number page position
      on true arrived any = inl (arrival_at cluster turns lawful number page position event happens arrived)
      on false arrived any = inr (sends_at number page position event happens any)

  fresh_there : (number page position : ℕ) → Fresh number page position → (event : Event) × Happens course number position event × (fresh page event ≡ true)
  fresh_there number page position (inl arrival) =
      let it = arrival_there cluster turns lawful number page position arrival in (it.0, it.1, first_so (arrives page (it.0)) (sends page (it.0)) (it.2))
    where
      first_so : (one other : Bool) → one ≡ true → one || other ≡ true
      first_so true other is = refl
      first_so false other is = absurd (cc)
  fresh_there number page position (inr sent) =
      let it = sends_there number page position sent in (it.0, it.1, second_so (arrives page (it.0)) (sends page (it.0)) (it.2))
    where
      second_so : (one other : Bool) → other ≡ true → one || other ≡ true
      second_so true other is = refl
      second_so false other is = is

  write_is_old : (word page : ℕ) (event : Event) → writes word event ≡ true → fresh page event ≡ false
  write_is_old word page event is =
      let some = gives_some (written word event) is in let it = write_in word (some.0) event (some.1) in
      subst (λ one. fresh page one ≡ false) (sym (it.2)) refl

  -- a dirty word has a last write, behind which its page is neither brought nor sent
  dirty_write : (number word position : ℕ) (moved : Moved) → at course position ≡ Some moved
      → is_dirty (node_at cluster number) word (own number (before course position)) ≡ true
      → (write : ℕ) × IsWrite events number word write × (write < position) × NoneBetween (IsWrite events number word) write position
      × NoneBetween (Fresh number (page_of (node_at cluster number) word)) write position
  dirty_write number word position moved found dirty =
      let page = page_of (node_at cluster number) word in
      let front = before course position in
      let latest = any_latest (writes word) (since (fresh page) (own number front)) dirty in
      let cut = since_front (fresh page) (own number front) in
      let it = latest.1 in
      let parts : own number front ≡ it.newer ++ latest.0 ∷ (it.older ++ cut.0) =
      cut.1 ∙ ap (λ list. list ++ cut.0) (it.parts) ∙ append_assoc (it.newer) (latest.0 ∷ it.older) (cut.0) in
      let none_fresh = none_front (fresh page) (it.newer) (latest.0 ∷ it.older)
      (subst (λ list. list_any (fresh page) list ≡ false) (it.parts) (since_none (fresh page) (own number front))) in
      let there = stands number front (it.newer) (latest.0) (it.older ++ cut.0) parts in
      let here = happens_there number front (it.newer) (latest.0) (it.older ++ cut.0) (there.0) (there.1) in
      let happened = happened_before course position moved found number (there.0) (latest.0) here in
      let less : there.0 < position =
      let inside = is_before number front (it.newer) (latest.0) (it.older ++ cut.0) (there.0) (there.1) in
      let count = length_before course position moved found in omega (arith, inside, count) in (
        there.0,
        write_at cluster turns lawful number word (there.0) (latest.0) happened (it.such),
        less,
        none_between course position moved found number (writes word) (IsWrite events number word) (there.0)
            (λ i. write_there cluster turns lawful number word i)
            (none_behind number front (it.newer) (latest.0) (it.older ++ cut.0) (there.0) (there.1) (writes word) (it.none)),
        none_between course position moved found number (fresh page) (Fresh number page) (there.0) (λ i. fresh_there number page i)
            (none_behind number front (it.newer) (latest.0) (it.older ++ cut.0) (there.0) (there.1) (fresh page) none_fresh),
      )

  -- and where there is such a write, the word is dirty
  write_dirty : (number word position write : ℕ) (moved : Moved) → at course position ≡ Some moved → IsWrite events number word write → write < position
      → NoneBetween (Fresh number (page_of (node_at cluster number) word)) write position
      → is_dirty (node_at cluster number) word (own number (before course position)) ≡ true
  write_dirty number word position write moved found wrote less none =
      let page = page_of (node_at cluster number) word in
      let front = before course position in
      let it = write_there cluster turns lawful number word write wrote in
      let here = happens_before course position moved found number write (it.0) less (it.1) in
      let there = stands_at number front write (it.0) here in
      let parts = past_parts number front (there.0) (it.0) (own number (before front write)) write (there.1) in
      let no_newer = none_newer number front (there.0) (it.0) (own number (before front write)) write (there.1) (fresh page)
      (none_from course position moved found number (fresh page) (Fresh number page) write
      (λ i other happened is. fresh_at number page i other happened is) none) in
      ap (λ past. list_any (writes word) (since (fresh page) past)) parts
      ∙ any_since (writes word) (fresh page) (there.0) (it.0) (own number (before front write)) no_newer (write_is_old word page (it.0) (it.2)) (it.2)

  sent_dirty : (number position : ℕ) (sent : log.Part) (it : SentThere number position sent) (word : ℕ) → page_of (node_at cluster 0) word ≡ sent.page
      → sent.mask word ≡ is_dirty (node_at cluster number) word (own number (before course position))
  sent_dirty number position sent it word same =
      let page_is : page_of (node_at cluster 0) word ≡ it.part.page = same ∙ sym (ap (λ one. one.page) (it.part_is)) in
      ap (λ one. one.mask word) (sym (it.part_is))
      ∙ it.sending.dirty (place_of (node_at cluster 0) word) (place_within cluster word)
      ∙ ap (λ one. is_dirty (node_at cluster number) one (own number (before course position))) (word_at_place cluster word (it.part.page) page_is)

  -- Marked reconcile.
  pub cleaning : (number position : ℕ) (sent : log.Part) → Sending events number position sent → Cleaning events (memory_of cluster) number position sent
  cleaning number position sent sending = record {
    arrival = arrival;
    found = words_of cluster list;
    resident = resident;
    marked = marked;
    all = all;
  }
    where
      it : SentThere number position sent
      it = sent_there number position sent sending

      moved : Moved
      moved = it.is.moved

      found : at course position ≡ Some moved
      found = it.is.is

      page_same : it.part.page ≡ sent.page
      page_same = ap (λ one. one.page) (it.part_is)

      in_cache : (list : List ℤ) × (arrival : ℕ) × Since cluster turns lawful position moved found number (it.part.page) arrival list
      in_cache = resident_at cluster turns lawful position moved found number (it.part.page) (it.sending.is_in)

      list : List ℤ
      list = in_cache.0

      arrival : ℕ
      arrival = in_cache.1

      since_there : Since cluster turns lawful position moved found number (sent.page) arrival list
      since_there = subst (λ page. Since cluster turns lawful position moved found number page arrival list) page_same (in_cache.2)

      resident : Resident events number (sent.page) position arrival (words_of cluster list)
      resident = residing cluster turns lawful position moved found number (sent.page) arrival list since_there

      after : (word write : ℕ) → page_of (node_at cluster 0) word ≡ sent.page → IsWrite events number word write → write < position
          → NoneBetween (Fresh number (sent.page)) write position → arrival < write
      after word write same wrote less none = by_order (compare arrival write)
        where
          by_order : Order3 arrival write → arrival < write
          by_order (Less3 smaller) = smaller
          by_order (More3 more) = absurd (none arrival more (resident.before) (inl (words_of cluster list, resident.arrives)))
          by_order (Same3 equal) =
              let one = write_there cluster turns lawful number word write wrote in
              let two = arrival_there cluster turns lawful number (sent.page) write
              (subst (λ it. IsArrival events number (sent.page) it) equal (words_of cluster list, resident.arrives)) in
              let both : Some (one.1.moved) ≡ Some (two.1.moved) = sym (one.1.is) ∙ two.1.is in
              let same_moved : one.1.moved ≡ two.1.moved = cc in
              let same_event : one.0 ≡ two.0 = sym (one.1.event_is) ∙ ap (λ it. it.event) same_moved ∙ two.1.event_is in
              let fresh_one : fresh (sent.page) (one.0) ≡ false = write_is_old word (sent.page) (one.0) (one.2) in
              let arrived : arrives (sent.page) (one.0) ≡ true = ap (arrives (sent.page)) same_event ∙ two.2 in
              absurd (no_arrival (arrives (sent.page) (one.0)) (sends (sent.page) (one.0)) fresh_one arrived)
            where
              no_arrival : (first second : Bool) → first || second ≡ false → first ≡ true → ⊥
              no_arrival true second none is = cc
              no_arrival false second none is = cc

      marked : (word : ℕ) → page_of (node_at cluster 0) word ≡ sent.page → sent.mask word ≡ true
          → (write : ℕ) × LastWrite events number word arrival position write (sent.words word) × NoneBetween (Sends events number (sent.page)) write position
      marked word same mask =
          let dirty : is_dirty (node_at cluster number) word (own number (before course position)) ≡ true =
          sym (sent_dirty number position sent it word same) ∙ mask in
          let write = dirty_write number word position moved found dirty in
          let none_fresh = subst (λ page. NoneBetween (Fresh number page) (write.0) position) same (write.4) in
          let later = after word (write.0) same (write.1) (write.2) none_fresh in
          let last : LastWrite events number word arrival position (write.0) (write.1.0) =
          record { after = later; before = write.2; writes = write.1.1; none = write.3 } in
          let cached_is = cached_last cluster turns lawful position moved found number word arrival (write.0) (write.1.0) list
          (subst (λ page. Since cluster turns lawful position moved found number page arrival list) (sym same) since_there) last in
          let page_is : page_of (node_at cluster 0) word ≡ it.part.page = same ∙ sym page_same in
          let marks_is : marks (it.part.mask) (place_of (node_at cluster 0) word) ≡ true = ap (λ one. one.mask word) (it.part_is) ∙ mask in
          let value : sent.words word ≡ write.1.0 =
          ap (λ one. one.words word) (sym (it.part_is)) ∙ it.sending.words (place_of (node_at cluster 0) word) (place_within cluster word) marks_is
          ∙ ap (λ one. cached (node_at cluster number) one (own number (before course position))) (word_at_place cluster word (it.part.page) page_is)
          ∙ cached_is in (
            write.0,
            subst (λ it. LastWrite events number word arrival position (write.0) it) (sym value) last,
            λ i behind ahead sends. none_fresh i behind ahead (inr sends),
          )

      all : (word write : ℕ) → page_of (node_at cluster 0) word ≡ sent.page → IsWrite events number word write → arrival < write → write < position
          → NoneBetween (Sends events number (sent.page)) write position → sent.mask word ≡ true
      all word write same wrote later less none =
          sent_dirty number position sent it word same
          ∙ write_dirty number word position write moved found wrote less
          (λ i behind ahead fresh_one. by_kind i behind ahead (subst (λ page. Fresh number page i) same fresh_one))
        where
          by_kind : (i : ℕ) → write < i → i < position → Fresh number (sent.page) i → ⊥
          by_kind i behind ahead (inl arrived) = resident.last i (omega (arith, later, behind)) ahead arrived
          by_kind i behind ahead (inr sent_again) = none i behind ahead sent_again

  -- ---- settled writes

  -- a front of what happened, cut at a position
  cut_at : (later rest : Course) (position : ℕ) (moved : Moved) → at (later ++ rest) position ≡ Some moved → length rest ≤ position
      → (newer older : Course) × (later ≡ newer ++ moved ∷ older) × (length (older ++ rest) ≡ position)
  cut_at [] rest position moved found start = let inside = within rest position moved found in absurd (omega (arith, inside, start))
  cut_at (first ∷ later) rest position moved found start =
      on (eqb position (length (later ++ rest))) refl found (λ here. cut_at later rest position moved here start)
    where
      on : (b : Bool) → eqb position (length (later ++ rest)) ≡ b → cond b (Some first) (at (later ++ rest) position) ≡ Some moved
          → (at (later ++ rest) position ≡ Some moved → (newer older : Course) × (later ≡ newer ++ moved ∷ older) × (length (older ++ rest) ≡ position))
          → (newer older : Course) × (first ∷ later ≡ newer ++ moved ∷ older) × (length (older ++ rest) ≡ position)
      on true is here more = let same : first ≡ moved = cc in ([], later, ap (λ it. it ∷ later) same, grind (arith, nat_tests))
      on false is here more = let found = more here in (first ∷ found.0, found.1, ap (λ it. first ∷ it) (found.2), found.3)

  -- A write that is settled by the rules is cleaned.
  pub cleaned : (number word write position : ℕ) (moved : Moved) (found : at course position ≡ Some moved) (later rest : Course)
      → before course position ≡ later ++ rest
      → AllSettled (node_at cluster number) word (own number later) → IsWrite events number word write → length rest ≤ write → write < position
      → Cleaned events number (page_of (node_at cluster 0) word) word write position
  cleaned number word write position moved found later rest front settled wrote start less = on (is.event) refl
    where
      there : (event : Event) × Happens course number write event × (writes word event ≡ true)
      there = write_there cluster turns lawful number word write wrote

      here : Happens (before course position) number write (there.0)
      here = happens_before course position moved found number write (there.0) less (there.1)

      cut : (newer older : Course) × (later ≡ newer ++ here.moved ∷ older) × (length (older ++ rest) ≡ write)
      cut = cut_at later rest write (here.moved) (ap (λ all. at all write) (sym front) ∙ here.is) start

      past_is : own number later ≡ own number (cut.0) ++ there.0 ∷ own number (cut.1)
      past_is =
          ap (own number) (cut.2) ∙ own_more number (cut.0) (here.moved ∷ cut.1)
          ∙ ap (λ it. own number (cut.0) ++ it) (own_first number (here.moved) (cut.1) (here.by))
          ∙ ap (λ event. own number (cut.0) ++ event ∷ own number (cut.1)) (here.event_is)

      is : IsSettled (node_at cluster number) word (own number (cut.0))
      is = settled (own number (cut.0)) (own number (cut.1)) (there.0) past_is (there.2)

      sent : (at_cut : ℕ) × Stands number (cut.0) (is.newer) (is.event) (is.older) at_cut
      sent = stands number (cut.0) (is.newer) (is.event) (is.older) (is.parts)

      older : Course
      older = before (cut.0) (sent.0) ++ (here.moved ∷ (cut.1 ++ rest))

      post : ℕ
      post = length older

      whole : before course position ≡ sent.1.later ++ sent.1.moved ∷ older
      whole =
          front ∙ ap (λ it. it ++ rest) (cut.2) ∙ append_assoc (cut.0) (here.moved ∷ cut.1) rest
          ∙ ap (λ it. it ++ (here.moved ∷ (cut.1 ++ rest))) (sent.1.parts)
          ∙ append_assoc (sent.1.later) (sent.1.moved ∷ before (cut.0) (sent.0)) (here.moved ∷ (cut.1 ++ rest))

      behind : write < post
      behind = longer (before (cut.0) (sent.0)) (here.moved) (cut.1 ++ rest) write (cut.3)

      ahead : post < position
      ahead = shorter (before course position) (sent.1.later) (sent.1.moved) older position whole (length_before course position moved found)

      posted : Happens course number post (is.event)
      posted =
          let less_here : post < length (sent.1.moved ∷ older) = longer [] (sent.1.moved) older post refl in
          happened_before course position moved found number post (is.event) (record {
            moved = sent.1.moved;
            is = ap (λ all. at all post) whole ∙ at_behind (sent.1.later) (sent.1.moved ∷ older) post less_here ∙ at_last (sent.1.moved) older;
            by = sent.1.by;
            event_is = sent.1.event_is;
          })

      part : (part : page.Part) × (marks_word (node_at cluster number) word part ≡ true) × Sending events number post (part_of cluster part)
      part = sent_at (marks_word (node_at cluster number) word) number post (is.event) posted (is.sends)

      marked : (part.0.page ≡ page_of (node_at cluster 0) word) × (marks (part.0.mask) (place_of (node_at cluster 0) word) ≡ true)
      marked =
          let both =
          both_true (eqb (part.0.page) (page_of (node_at cluster number) word)) (marks (part.0.mask) (place_of (node_at cluster number) word)) (part.1) in
          (equal (part.0.page) (page_of (node_at cluster 0) word) (both.0), both.1)

      by : Settled events number post position → Cleaned events number (page_of (node_at cluster 0) word) word write position
      by known = record { post = post; part = part_of cluster (part.0); after = behind; sends = part.2; page = marked.0; marked = marked.1; settled = known }

      by_ack : (message : Msg) → is.event ≡ Sent message → Settled events number post position
      by_ack message same =
          let sent_one = sending_event (marks_word (node_at cluster number) word) (Sent message)
          (ap (λ it. list_any (marks_word (node_at cluster number) word) (sendings it)) (sym same) ∙ is.sends) in
          let reconciles : reconciles_in message.body ≡ true = is_reconcile sent_one in
          let request : Request cluster turns lawful number (ForAck message.receiver) post =
          record { message = message; is = subst (λ it. Happens course number post it) same posted; asks = rw (reconciles, itself message.receiver) refl } in
          let any : list_any (ends (ForAck message.receiver)) (own number (sent.1.later)) ≡ true =
          ap (list_any (ends (ForAck message.receiver))) (sent.1.newer_is) ∙ ap (λ it. settles it (is.newer)) (sym same) ∙ is.settled in
          let somewhere = some_later number (ends (ForAck message.receiver)) (sent.1.later) (sent.1.moved ∷ older) any in
          let there_at : at (before course position) (somewhere.position) ≡ Some (somewhere.moved) =
          ap (λ all. at all (somewhere.position)) whole ∙ somewhere.is in
          let happened = happened_before course position moved found number (somewhere.position) (somewhere.moved.event)
          (record { moved = somewhere.moved; is = there_at; by = somewhere.by; event_is = refl }) in
          let start_there = somewhere.behind in
          let inside = within (before course position) (somewhere.position) (somewhere.moved) there_at in
          let count = length_before course position moved found in
          let answer =
          ended_by cluster turns lawful number (ForAck message.receiver) (somewhere.position) (somewhere.moved.event) happened (somewhere.such_is) in
          let told = told_behind_answer cluster turns lawful number (ForAck message.receiver) (somewhere.position) post request
          (enough (somewhere.position) post start_there) answer in
          Acked (replied_by cluster turns lawful number post (told.0) position (told.2)
          (at_last_before (told.0) (somewhere.position) position (before course position) told.1 inside count))
        where
          is_reconcile : ((it : Msg) × (parts : List page.Part) × (Sent message ≡ Sent it) × (it.body ≡ body.Reconcile parts)
              × OneOf (marks_word (node_at cluster number) word) parts)
              ⊎ ((part : page.Part) × (Sent message ≡ Did (item.OwnReconcile part)) × (marks_word (node_at cluster number) word part ≡ true))
              → reconciles_in message.body ≡ true
          is_reconcile (inl it) = let same_one : message ≡ it.0 = let both = it.2 in cc in ap (λ one. reconciles_in one.body) same_one ∙ ap reconciles_in (it.3)
          is_reconcile (inr it) = let both = it.1 in absurd (cc)

      by_item : (done : Item) → is.event ≡ Did done → Settled events number post position
      by_item done same =
          at_once (sending_event (marks_word (node_at cluster number) word) (Did done)
          (ap (λ it. list_any (marks_word (node_at cluster number) word) (sendings it)) (sym same) ∙ is.sends))
        where
          at_once : ((it : Msg) × (parts : List page.Part) × (Did done ≡ Sent it) × (it.body ≡ body.Reconcile parts)
              × OneOf (marks_word (node_at cluster number) word) parts)
              ⊎ ((part : page.Part) × (Did done ≡ Did (item.OwnReconcile part)) × (marks_word (node_at cluster number) word part ≡ true))
              → Settled events number post position
          at_once (inl it) = let both = it.2 in absurd (cc)
          at_once (inr it) =
              AtOnce (part_of cluster (it.0)) (event_there cluster turns lawful number post (Did (item.OwnReconcile (it.0)))
              (subst (λ one. Happens course number post one) (same ∙ it.1) posted)) ahead

      no_sending : (event : Event) → is.event ≡ event → list_any (marks_word (node_at cluster number) word) (sendings event) ≡ true
      no_sending event same = ap (λ it. list_any (marks_word (node_at cluster number) word) (sendings it)) (sym same) ∙ is.sends

      on : (event : Event) → is.event ≡ event → Cleaned events number (page_of (node_at cluster 0) word) word write position
      on (Did done) same = by (by_item done same)
      on (Sent message) same = by (by_ack message same)
      on (Took message) same = let none = no_sending (Took message) same in absurd (cc)
      on (Ended end) same = let none = no_sending (Ended end) same in absurd (cc)
