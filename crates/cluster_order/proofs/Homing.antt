-- What a home stores, as the last change at positions.
use Rattle.std.proofs.Common.{◌≡◌, ◌≢◌, ◌⊎◌, inl, inr, ℕ, ℤ, zero, suc, ◌+◌, ◌*◌, ◌%◌, ◌<◌, List, [], ◌∷◌, ◌++◌, Option, Some, None, Bool, true, false, cond, eqb, is_some, refl, sym, ◌∙◌, ap, subst, arith}
use Rattle.std.proofs.lemmas.Bool.Decides.{nat_tests}
use Rattle.std.proofs.lemmas.List.{append-nil}
use Rattle.std.proofs.lemmas.Nat.{div-add-mod', mod_below}
use Rattle.std.specs.List.{list_any}
use Rattle.std.specs.Prelude.{slice_index_or, pos, unwrap_or}
use Rattle.page_words.specs.Limits.{page_sizes}
use Rattle.page_messages.specs.declared.message.Msg.{Msg}
use Rattle.page_messages.specs.declared.message.Body.{Body}
use Rattle.page_messages.specs.declared.message.Body.TheVariants as body
use Rattle.page_messages.specs.declared.parts.Part as page
use Rattle.page_messages.specs.declared.log.Item.TheVariants as item
use Rattle.page_messages.specs.declared.log.PostAt.{PostAt}
use Rattle.cluster_rules.specs.Turns.{WholeTurn, Event, Did, Sent, Took, Ended, Past}
use Rattle.cluster_rules.specs.Node.{Node, page_of, place_of, home_of, word_of, start_word}
use Rattle.cluster_rules.specs.Walking.{given, or_else}
use Rattle.cluster_rules.specs.Sendings.{parts_in, marks, marks_word}
use Rattle.cluster_rules.specs.Home.{word_in, sum_in, changes, stored, stored_from, stored_page, owed_adds}
use Rattle.cluster_rules.specs.Positions.{Moved, Course, course_of, own, at, before, Happens}
use Rattle.cluster_rules.specs.Runs.{Cluster, IsLawful, node_at}
use Rattle.cluster_rules.specs.Paging.{EachIsSending, IsSending}
use Rattle.backer_order.specs.Log as log
use Rattle.backer_order.specs.Moments.{HasPart, ByPart, ByItem, ByTaking, AtItem}
use Rattle.backer_order.specs.Rules.{Changes, MergedAt, AddedAt, IsChange, HomeWord}
use Rattle.cluster_order.specs.Reading.{memory_of, words_of, part_of, parts_of, note_of, served_for, taken_from}
use Rattle.cluster_order.proofs.Events.{Found, happens, posted_is, own_part_is, acted_is, Acted, Served, no_add, reconcile_is}
use Rattle.cluster_order.proofs.Between.{none_later, stands, is_before, happens_there, none_behind}
use Rattle.cluster_order.proofs.Messages.{length_before, happens_before, happened_before, none_between, taking_at, taking_found, posted_event, taken_event, same_message}
use Rattle.cluster_order.proofs.Accesses.{ev, found_of, event_there}
use Rattle.cluster_order.proofs.Lawful.{own_part_allowed, reconcile_allowed, home_served}
use Rattle.cluster_rules.proofs.Testing.{both_true}

-- ---- what the latest gives

-- where something is given, something gives it, and nothing newer gives any
pub record Given {A B : Type 0} (by : A → Option B) (events : List A) (value : B) : Type 0 where
  pub newer : List A
  pub older : List A
  pub event : A
  pub parts : events ≡ newer ++ event ∷ older
  pub gives : by event ≡ Some value
  pub none : list_any (λ one. is_some (by one)) newer ≡ false

module _ {A B : Type 0} (by : A → Option B) where
  pub given_latest : (events : List A) (value : B) → given by events ≡ Some value → Given by events value
  given_latest [] value is = absurd (cc)
  given_latest (event ∷ events) value is = on (by event) refl is (given_latest events value)
    where
      on : (option : Option B) → by event ≡ option → or_else option (given by events) ≡ Some value → (given by events ≡ Some value → Given by events value)
          → Given by (event ∷ events) value
      on None none rest more =
          let found = more rest in
          record {
            newer = event ∷ found.newer;
            older = found.older;
            event = found.event;
            parts = ap (λ it. event ∷ it) (found.parts);
            gives = found.gives;
            none = rw (none, found.none) refl;
          }
      on (Some one) some same more = record { newer = []; older = events; event = event; parts = refl; gives = some ∙ same; none = refl }

  pub given_absent : (events : List A) → given by events ≡ None → list_any (λ one. is_some (by one)) events ≡ false
  given_absent [] is = refl
  given_absent (event ∷ events) is = on (by event) refl is (given_absent events)
    where
      on : (option : Option B) → by event ≡ option → or_else option (given by events) ≡ None
          → (given by events ≡ None → list_any (λ one. is_some (by one)) events ≡ false)
          → list_any (λ one. is_some (by one)) (event ∷ events) ≡ false
      on None none rest more = rw (none, more rest) refl
      on (Some one) some same more = absurd (cc)

  -- one that gives something
  pub given_in : (newer : List A) (event : A) (older : List A) → is_some (by event) ≡ true → is_some (given by (newer ++ event ∷ older)) ≡ true
  given_in [] event older gives = on (by event) gives
    where
      on : (option : Option B) → is_some option ≡ true → is_some (or_else option (given by older)) ≡ true
      on None some = absurd (cc)
      on (Some value) some = refl
  given_in (first ∷ newer) event older gives = on (by first) (given_in newer event older gives)
    where
      on : (option : Option B) → is_some (given by (newer ++ event ∷ older)) ≡ true → is_some (or_else option (given by (newer ++ event ∷ older))) ≡ true
      on None rest = rest
      on (Some value) rest = refl

-- ---- parts

pub has_part : (cluster : Cluster) (newer : List page.Part) (part : page.Part) (older : List page.Part)
    → HasPart (part_of cluster part) (parts_of cluster (newer ++ part ∷ older))
has_part cluster [] part older = inl refl
has_part cluster (first ∷ newer) part older = inr (has_part cluster newer part older)

pub record PartAmong (cluster : Cluster) (parts : List page.Part) (sent : log.Part) : Type 0 where
  pub newer : List page.Part
  pub older : List page.Part
  pub part : page.Part
  pub split : parts ≡ newer ++ part ∷ older
  pub is : part_of cluster part ≡ sent

pub part_among : (cluster : Cluster) (parts : List page.Part) (sent : log.Part) → HasPart sent (parts_of cluster parts) → PartAmong cluster parts sent
part_among cluster [] sent has = absurd has
part_among cluster (part ∷ parts) sent (inl same) = record { newer = []; older = parts; part = part; split = refl; is = same }
part_among cluster (part ∷ parts) sent (inr has) =
    let found = part_among cluster parts sent has in
    record { newer = part ∷ found.newer; older = found.older; part = found.part; split = ap (λ it. part ∷ it) (found.split); is = found.is }

-- ---- changes

some_on : {A : Type 0} (b : Bool) (value other : A) → cond b (Some value) None ≡ Some other → (b ≡ true) × (value ≡ other)
some_on true value other some = let same : value ≡ other = cc in (refl, same)
some_on false value other some = absurd (cc)

equal : (number other : ℕ) → eqb number other ≡ true → number ≡ other
equal number other is = grind (arith, nat_tests)

itself : (number : ℕ) → eqb number number ≡ true
itself number = grind (arith, nat_tests)

-- a part that changes the word has it, marked, with that value
pub record Marked (node : Node) (word : ℕ) (part : page.Part) (value : ℤ) : Type 0 where
  pub page_is : part.page ≡ page_of node word
  pub marked : marks part.mask (place_of node word) ≡ true
  pub value_is : slice_index_or part.words (place_of node word) (pos 0) ≡ value

pub word_marked : (node : Node) (word : ℕ) (part : page.Part) (value : ℤ) → word_in node word part ≡ Some value → Marked node word part value
word_marked node word part value is =
    let both = some_on (marks_word node word part) (slice_index_or part.words (place_of node word) (pos 0)) value is in
    let marked = both_true (eqb part.page (page_of node word)) (marks part.mask (place_of node word)) (both.0) in
    record { page_is = equal part.page (page_of node word) (marked.0); marked = marked.1; value_is = both.1 }

pub word_there : (node : Node) (word : ℕ) (part : page.Part) → part.page ≡ page_of node word → marks part.mask (place_of node word) ≡ true
    → is_some (word_in node word part) ≡ true
word_there node word part same marked = let is : eqb part.page (page_of node word) ≡ true = grind (arith, nat_tests) in rw (is, marked) refl

reconciles : (said : Body) (node : Node) (word : ℕ) (value : ℤ) → given (word_in node word) (parts_in said) ≡ Some value
    → (parts : List page.Part) × (said ≡ body.Reconcile parts)
reconciles (body.Fetch page) here its v is = absurd (cc)
reconciles (body.Page page words) here its v is = absurd (cc)
reconciles (body.Reconcile parts) here its v is = (parts, refl)
reconciles body.Ack here its v is = absurd (cc)
reconciles body.Ask here its v is = absurd (cc)
reconciles (body.Grant closure) here its v is = absurd (cc)
reconciles body.Refuse here its v is = absurd (cc)
reconciles (body.Done join index value) here its v is = absurd (cc)
reconciles (body.Park join closure) here its v is = absurd (cc)
reconciles (body.Add frame index word addend) here its v is = absurd (cc)
reconciles (body.Added old) here its v is = absurd (cc)

module _ (cluster : Cluster) (turns : List WholeTurn) (lawful : IsLawful cluster turns) where
  abbrev events : ℕ → log.Event
  events = ev cluster turns lawful

  abbrev course : Course
  course = course_of turns

  -- a change at the home is a change at that position
  pub changed_at : (home word position : ℕ) (value : ℤ) (event : Event) → Happens course home position event
      → changes (node_at cluster home) word event ≡ Some value
      → Changes events (memory_of cluster) word position value
  changed_at home word position value (Did (item.Act frame index act)) happens is = absurd (cc)
  changed_at home word position value (Did (item.Tick frame)) happens is = absurd (cc)
  changed_at home word position value (Did (item.Drop page)) happens is = absurd (cc)
  changed_at home word position value (Did (item.TakeUp frame)) happens is = absurd (cc)
  changed_at home word position value (Did (item.OwnFetch page words)) happens is = absurd (cc)
  changed_at home word position value (Did (item.OwnReconcile part)) happens is =
      let marked = word_marked (node_at cluster home) word part value is in
      let event = event_there cluster turns lawful home position (Did (item.OwnReconcile part)) happens in
      MergedAt home position (part_of cluster part) (ByItem event) (AtItem home (part_of cluster part) event refl) (marked.page_is) (marked.marked)
      (marked.value_is)
  changed_at home word position value (Did (item.Served frame index other old addend)) happens is =
      let both = adds_to (eqb other word) (sum_in old addend) is in
      let same : other ≡ word = equal other word (both.0) in
      let event = event_there cluster turns lawful home position (Did (item.Served frame index other old addend)) happens in
      let for = served_for home (owed_adds (own home (before course position))) in
      AddedAt for frame old addend (event ∙ ap (λ it. log.Acts for frame (log.Add it old addend)) same) (both.1)
    where
      adds_to : (b : Bool) (sum : Option ℤ) → cond b sum None ≡ Some value → (b ≡ true) × (sum ≡ Some value)
      adds_to true sum some = (refl, some)
      adds_to false sum some = absurd (cc)
  changed_at home word position value (Sent message) happens is = absurd (cc)
  changed_at home word position value (Ended end) happens is = absurd (cc)
  changed_at home word position value (Took message) happens is =
      let said = reconciles message.body (node_at cluster home) word value is in
      let found = given_latest (word_in (node_at cluster home) word) (said.0) value
      (subst (λ it. given (word_in (node_at cluster home) word) (parts_in it) ≡ Some value) (said.1) is) in
      let marked = word_marked (node_at cluster home) word (found.event) value (found.gives) in
      let post = taken_from (before course position) (happens.moved.message) in
      let place_found = found_of cluster turns lawful home position (Took message) happens in
      let taking = taking_found cluster turns lawful home position (happens.moved.message) message place_found in
      let posted = posted_event cluster turns lawful home post position message taking
      ∙ ap (λ it. log.Post (taking.sender) home (note_of cluster (taking.sender) (before course post) it)) (said.1) in
      let has : HasPart (part_of cluster (found.event)) (parts_of cluster (said.0)) =
      subst (λ it. HasPart (part_of cluster (found.event)) (parts_of cluster it)) (sym (found.parts))
      (has_part cluster (found.newer) (found.event) (found.older)) in
      MergedAt (taking.sender) post (part_of cluster (found.event)) (ByPart home (parts_of cluster (said.0)) posted has)
      (ByTaking (record { taker = home; is = taken_event cluster turns lawful home position (happens.moved.message) message place_found })) (marked.page_is)
      (marked.marked) (marked.value_is)

  -- each part of a Reconcile is a sending to the home of its page
  pub each_sending : (number position receiver : ℕ) (newer : List page.Part) (part : page.Part) (older : List page.Part)
      → EachIsSending (node_at cluster number) (own number (before course position)) receiver (newer ++ part ∷ older)
      → IsSending (node_at cluster number) (own number (before course position)) receiver part
  each_sending number position receiver [] part older each = each.0
  each_sending number position receiver (first ∷ newer) part older each = each_sending number position receiver newer part older (each.1)

  -- what a node posts as a Reconcile
  pub record Reconciled (sender receiver post : ℕ) (sent : log.Part) : Type 0 where
    pub message : Msg
    pub list : List page.Part
    pub place : Option PostAt
    pub found : Found cluster course post sender place (Sent message)
    pub to : message.receiver ≡ receiver
    pub says : message.body ≡ body.Reconcile list
    pub among : PartAmong cluster list sent
    pub sending : IsSending (node_at cluster sender) (own sender (before course post)) receiver (among.part)
    pub other : receiver ≢ sender

  pub reconciled : (sender receiver post : ℕ) (parts : List log.Part) (sent : log.Part) → events post ≡ log.Post sender receiver (log.Reconcile parts)
      → HasPart sent parts → Reconciled sender receiver post sent
  reconciled sender receiver post parts sent is has =
      let it = posted_is cluster course post sender receiver (log.Reconcile parts) is in
      let said = reconcile_is cluster sender (before course post) parts (it.1.body) (it.4) in
      let among = part_among cluster (said.0) sent (subst (λ list. HasPart sent list) (sym (said.2)) has) in
      let may = reconcile_allowed cluster turns lawful sender post (it.1) (said.0) (happens cluster course post sender (it.0) (Sent (it.1)) (it.2)) (said.1) in
      let each = subst (λ list. EachIsSending (node_at cluster sender) (own sender (before course post)) (it.1.receiver) list) (among.split) (may.sendings) in
      let sending = each_sending sender post (it.1.receiver) (among.newer) (among.part) (among.older) each in
      record {
        message = it.1;
        list = said.0;
        place = it.0;
        found = it.2;
        to = it.3;
        says = said.1;
        among = among;
        sending = subst (λ to. IsSending (node_at cluster sender) (own sender (before course post)) to (among.part)) (it.3) sending;
        other = λ same. may.other (it.3 ∙ same);
      }

  -- A change at a position happens to the home of the word, and changes it.
  pub change_there : (home word position : ℕ) → home_of (node_at cluster 0) (page_of (node_at cluster 0) word) ≡ home
      → IsChange events (memory_of cluster) word position
      → (event : Event) × Happens course home position event × (is_some (changes (node_at cluster home) word event) ≡ true)
  change_there home word position at_home (value, AddedAt number frame old addend is sum) =
      on (acted_is cluster course position number frame (log.Add word old addend) is)
    where
      on : Acted cluster course position number frame (log.Add word old addend) ⊎ Served cluster course position number frame (log.Add word old addend)
          → (event : Event) × Happens course home position event × (is_some (changes (node_at cluster home) word event) ≡ true)
      on (inl acted) = absurd (no_add word old addend (acted.act) (acted.act_is))
      on (inr served) =
          let add_is : log.Add (served.word) (served.old) (served.addend) ≡ log.Add word old addend = served.act_is in
          let word_is : served.word ≡ word = cc in
          let old_is : served.old ≡ old = cc in
          let addend_is : served.addend ≡ addend = cc in
          let there = home_served cluster turns lawful (served.home) position frame (served.index) (served.word) (served.old) (served.addend) (served.is) in
          let same : served.home ≡ home = sym there ∙ ap (λ it. home_of (node_at cluster 0) (page_of (node_at cluster 0) it)) word_is ∙ at_home in
          let sums : sum_in (served.old) (served.addend) ≡ Some value = ap (λ it. sum_in it (served.addend)) old_is ∙ ap (sum_in old) addend_is ∙ sum in
          let is_word : eqb (served.word) word ≡ true = ap (λ it. eqb it word) word_is ∙ itself word in (
            Did (item.Served frame (served.index) (served.word) (served.old) (served.addend)),
            subst (λ it. Happens course it position (Did (item.Served frame (served.index) (served.word) (served.old) (served.addend)))) same (served.is),
            rw (is_word, sums) refl,
          )
  change_there home word position at_home (value, MergedAt sender post sent (ByItem is) (ByTaking taken) page_is mask words) =
      let it = taking_at cluster turns lawful (taken.taker) post position (taken.is) in
      let two : log.OwnReconcile sender sent ≡ log.Post (it.1.sender) (taken.taker) (note_of cluster (it.1.sender) (before course post) (it.0.body)) =
      sym is ∙ posted_event cluster turns lawful (taken.taker) post position (it.0) (it.1) in
      absurd (cc)
  change_there home word position at_home (value, MergedAt sender post sent (ByItem is) (AtItem other part is' same) page_is mask words) =
      let it = own_part_is cluster course post sender sent is in
      let may = own_part_allowed cluster turns lawful sender post (it.0) (it.1) in
      let mine : sender ≡ home = may.1.at_home ∙ ap (home_of (node_at cluster 0)) (ap (λ one. one.page) (it.2) ∙ page_is) ∙ at_home in
      let marked : marks (it.0.mask) (place_of (node_at cluster 0) word) ≡ true = ap (λ one. one.mask word) (it.2) ∙ mask in (
        Did (item.OwnReconcile (it.0)),
        subst (λ to. Happens course home to (Did (item.OwnReconcile (it.0)))) (sym same)
            (subst (λ one. Happens course one post (Did (item.OwnReconcile (it.0)))) mine (it.1)),
        word_there (node_at cluster home) word (it.0) (ap (λ one. one.page) (it.2) ∙ page_is) marked,
      )
  change_there home word position at_home (value, MergedAt sender post sent (ByPart receiver parts is has) (AtItem other part is' same) page_is mask words) =
      let two : log.Post sender receiver (log.Reconcile parts) ≡ log.OwnReconcile other part = sym is ∙ is' in absurd (cc)
  change_there home word position at_home (value, MergedAt sender post sent (ByPart receiver parts is has) (ByTaking taken) page_is mask words) =
      let it = taking_at cluster turns lawful (taken.taker) post position (taken.is) in
      let sent_is = reconciled sender receiver post parts sent is has in
      let same = same_message cluster turns lawful (it.0) (sent_is.message) (it.1.sender) sender post (Some (it.1.place)) (sent_is.place) (it.1.posted)
      (sent_is.found) in
      let body_is : it.0.body ≡ body.Reconcile (sent_is.list) = ap (λ one. one.body) (same.0) ∙ sent_is.says in
      let part = sent_is.among.part in
      let home_is : taken.taker ≡ home =
      sym (it.1.to) ∙ ap (λ one. one.receiver) (same.0) ∙ sent_is.to ∙ sent_is.sending.at_home
      ∙ ap (home_of (node_at cluster 0)) (ap (λ one. one.page) (sent_is.among.is) ∙ page_is) ∙ at_home in
      let marked : marks (part.mask) (place_of (node_at cluster 0) word) ≡ true = ap (λ one. one.mask word) (sent_is.among.is) ∙ mask in
      let there = word_there (node_at cluster home) word part (ap (λ one. one.page) (sent_is.among.is) ∙ page_is) marked in
      let any : is_some (given (word_in (node_at cluster home) word) (sent_is.list)) ≡ true =
      subst (λ list. is_some (given (word_in (node_at cluster home) word) list) ≡ true) (sym (sent_is.among.split))
      (given_in (word_in (node_at cluster home) word) (sent_is.among.newer) part (sent_is.among.older) there) in (
        Took (it.0),
        subst (λ one. Happens course one position (Took (it.0))) home_is
            (happens cluster course position (taken.taker) (Some (it.1.place)) (Took (it.0)) (it.1.taken)),
        subst (λ said. is_some (given (word_in (node_at cluster home) word) (parts_in said)) ≡ true) (sym body_is) any,
      )

  -- ---- stored words

  -- What the home stores at a position is the word of the home there.
  pub home_word : (position : ℕ) (moved : Moved) → at course position ≡ Some moved → (home word : ℕ)
      → home_of (node_at cluster 0) (page_of (node_at cluster 0) word) ≡ home
      → HomeWord events (memory_of cluster) word position (stored (node_at cluster home) word (own home (before course position)))
  home_word position moved found home word at_home = on (given (changes (node_at cluster home) word) (own home (before course position))) refl
    where
      on : (option : Option ℤ) → given (changes (node_at cluster home) word) (own home (before course position)) ≡ option
          → HomeWord events (memory_of cluster) word position (unwrap_or option (start_word (node_at cluster home) word))
      on None none = inr (
        λ earlier less change.
            let there = change_there home word earlier at_home change in
            let here = happens_before course position moved found home earlier (there.0) less (there.1) in
            let absent = given_absent (changes (node_at cluster home) word) (own home (before course position)) none in
            let nowhere = none_later home (λ one. is_some (changes (node_at cluster home) word one)) (before course position) [] absent in
            let none_here = nowhere earlier (here.moved) (omega (arith)) (ap (λ it. at it earlier) (append-nil (before course position)) ∙ here.is) (here.by) in
            let is : is_some (changes (node_at cluster home) word (here.moved.event)) ≡ true =
            ap (λ one. is_some (changes (node_at cluster home) word one)) (here.event_is) ∙ there.2 in
            absurd (cc),
        refl,
      )
      on (Some value) some =
          let latest = given_latest (changes (node_at cluster home) word) (own home (before course position)) value some in
          let it = stands home (before course position) (latest.newer) (latest.event) (latest.older) (latest.parts) in
          let here = happens_there home (before course position) (latest.newer) (latest.event) (latest.older) (it.0) (it.1) in
          let there = happened_before course position moved found home (it.0) (latest.event) here in
          let less : it.0 < position =
          let inside = is_before home (before course position) (latest.newer) (latest.event) (latest.older) (it.0) (it.1) in
          let count = length_before course position moved found in omega (arith, inside, count) in
          inl (
            it.0,
            record {
              before = less;
              changes = changed_at home word (it.0) value (latest.event) there (latest.gives);
              none =
                  none_between course position moved found home (λ one. is_some (changes (node_at cluster home) word one))
                  (IsChange events (memory_of cluster) word) (it.0) (λ i change. change_there home word i at_home change)
                  (none_behind home (before course position) (latest.newer) (latest.event) (latest.older) (it.0) (it.1)
                  (λ one. is_some (changes (node_at cluster home) word one)) (latest.none));
            },
          )

some_words : (n : ℕ) → list_any (λ size. eqb size n) page_sizes ≡ true → 0 < n
some_words zero is = absurd (cc)
some_words (suc n) is = omega (arith)

from_at : (node : Node) (word count place : ℕ) (past : Past) → place < count
    → slice_index_or (stored_from node word count past) place (pos 0) ≡ stored node (word + place) past
from_at node word zero place past less = absurd (omega (arith, less))
from_at node word (suc count) zero past less = ap (λ it. stored node it past) (omega (arith))
from_at node word (suc count) (suc place) past less =
    let next : (word + 1) + place ≡ word + suc place = omega (arith) in
    from_at node (word + 1) count place past (omega (arith, less)) ∙ ap (λ it. stored node it past) next

pub place_within : (cluster : Cluster) (word : ℕ) → place_of (node_at cluster 0) word < cluster.config.page_words
place_within cluster word = mod_below word (cluster.config.page_words) (some_words (cluster.config.page_words) (cluster.config.limits.page_size))

-- the word at its place of its page
pub word_at_place : (cluster : Cluster) (word page : ℕ) → page_of (node_at cluster 0) word ≡ page
    → word_of (node_at cluster 0) page (place_of (node_at cluster 0) word) ≡ word
word_at_place cluster word page same =
    ap (λ it. it * cluster.config.page_words + word % cluster.config.page_words) (sym same) ∙ div-add-mod' word (cluster.config.page_words)

-- a page has the stored words
pub stored_words : (cluster : Cluster) (home page word : ℕ) (past : Past) → page_of (node_at cluster 0) word ≡ page
    → words_of cluster (stored_page (node_at cluster home) page past) word ≡ stored (node_at cluster home) word past
stored_words cluster home page word past same =
    let base : (page * cluster.config.page_words + 0) + word % cluster.config.page_words ≡ page * cluster.config.page_words + word % cluster.config.page_words =
    omega (arith) in
    from_at (node_at cluster home) (word_of (node_at cluster home) page 0) (cluster.config.page_words) (place_of (node_at cluster 0) word) past
    (place_within cluster word)
    ∙ ap (λ it. stored (node_at cluster home) it past) (base ∙ word_at_place cluster word page same)
