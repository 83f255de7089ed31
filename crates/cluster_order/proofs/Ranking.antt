-- A reply of a home is for what it took where as many replies were made before as requests were taken before.
use Rattle.std.proofs.Common.{◌≡◌, ℕ, zero, suc, List, ◌∷◌, Option, Some, None, Bool, true, false, cond, ◌&&◌, ◌||◌, eqb, refl, sym, ◌∙◌, ap, subst, arith}
use Rattle.std.proofs.lemmas.Bool.Decides.{nat_tests}
use Rattle.std.proofs.lemmas.List.Sums.{sum_by-cons}
use Rattle.std.specs.List.{count_by}
use Rattle.page_messages.specs.declared.message.Msg.{Msg}
use Rattle.page_messages.specs.declared.message.Body.{Body}
use Rattle.page_messages.specs.declared.message.Body.TheVariants as body
use Rattle.cluster_rules.specs.Turns.{WholeTurn, Event, Did, Sent, Took, Ended, Past}
use Rattle.cluster_rules.specs.Sendings.{reconciles_in}
use Rattle.cluster_rules.specs.Home.{replies_in}
use Rattle.cluster_rules.specs.Positions.{Moved, Course, course_of, own, at, before, Happens}
use Rattle.cluster_rules.specs.Moments.{is_fetch, asks_home, answers_home, IsAnswerTo}
use Rattle.cluster_rules.specs.Runs.{Cluster, IsLawful}
use Rattle.backer_order.specs.Log as log
use Rattle.backer_order.specs.Moments.{Answers, takes_request, gives_reply}
use Rattle.backer_order.proofs.Owed as owed
use Rattle.cluster_order.specs.Reading.{taken_from, happens_to}
use Rattle.cluster_order.specs.Standing.{first}
use Rattle.cluster_order.proofs.Messages.{posted_event}
use Rattle.cluster_order.proofs.Accesses.{ev}
use Rattle.cluster_order.proofs.Fronts.{first_none, first_at}
use Rattle.cluster_order.proofs.Counting.{count, same_count, head_count}
use Rattle.cluster_order.proofs.Owing.{asks_home_in, request_same, reply_same, item_no_message, event_of_moved, nothing_there, past_same, past_other, past_next, taken_message, reply_for}
use Rattle.cluster_rules.proofs.Testing.{both_true}

-- ---- tests on events

asks_same : (said : Body) → is_fetch said || reconciles_in said ≡ asks_home_in said
asks_same (body.Fetch page) = refl
asks_same (body.Page page words) = refl
asks_same (body.Reconcile parts) = refl
asks_same body.Ack = refl
asks_same body.Ask = refl
asks_same (body.Grant closure) = refl
asks_same body.Refuse = refl
asks_same (body.Done join index value) = refl
asks_same (body.Park join closure) = refl
asks_same (body.Add frame index word addend) = refl
asks_same (body.Added old) = refl

and_not : (b : Bool) → b && false ≡ false
and_not true = refl
and_not false = refl

equal : (number other : ℕ) → eqb number other ≡ true → number ≡ other
equal number other is = grind (arith, nat_tests)

itself : (number : ℕ) → eqb number number ≡ true
itself number = grind (arith, nat_tests)

abbrev units : Bool → ℕ
units b = cond b 1 0

count_one : (such : Event → Bool) (event : Event) (past : Past) → such event ≡ true → count_by such (event ∷ past) ≡ suc (count_by such past)
count_one such event past is =
    let sum = sum_by-cons (λ one. units (such one)) event past in
    let one = ap units is in
    let unit : units true ≡ suc zero = refl in
    omega (arith, sum, one, unit)

count_none : (such : Event → Bool) (event : Event) (past : Past) → such event ≡ false → count_by such (event ∷ past) ≡ count_by such past
count_none such event past is =
    let sum = sum_by-cons (λ one. units (such one)) event past in
    let one = ap units is in
    let unit : units false ≡ zero = refl in
    omega (arith, sum, one, unit)

-- an answer is posted, and a request is taken
answer_in : (event : Event) → answers_home event ≡ true → (message : Msg) × (event ≡ Sent message) × (replies_in message.body ≡ true)
answer_in (Did done) is = absurd (cc)
answer_in (Sent message) is = (message, refl, is)
answer_in (Took message) is = absurd (cc)
answer_in (Ended end) is = absurd (cc)

no_request : (event : Event) → answers_home event ≡ true → asks_home event ≡ false
no_request (Did done) is = absurd (cc)
no_request (Sent message) is = refl
no_request (Took message) is = absurd (cc)
no_request (Ended end) is = absurd (cc)

module _ (cluster : Cluster) (turns : List WholeTurn) (lawful : IsLawful cluster turns) (home : ℕ) where
  abbrev course : Course
  course = course_of turns

  abbrev events : ℕ → log.Event
  events = ev cluster turns lawful

  abbrev requested : ℕ → Bool
  requested position = takes_request events home (events position)

  abbrev replied : ℕ → Bool
  replied position = gives_reply home (events position)

  -- ---- what happens at a position, by the tests of either side

  -- a test on the event that stands at a position is one on what the home did there
  abbrev Tests : (ℕ → Bool) → (Event → Bool) → Type 0
  Tests test such = (position : ℕ) (moved : Moved) → at course position ≡ Some moved → test position ≡ eqb moved.node home && such moved.event

  reply_event : (position : ℕ) (moved : Moved) → at course position ≡ Some moved → (event : Event) → moved.event ≡ event
      → gives_reply home (happens_to cluster (before course position) moved.node moved.message event) ≡ eqb moved.node home && answers_home event
  reply_event position moved found (Did done) is =
      (item_no_message cluster home moved.node events (own moved.node (before course position)) done).no_reply ∙ sym (and_not (eqb moved.node home))
  reply_event position moved found (Sent message) is =
      ap (λ it. eqb moved.node home && it) (reply_same cluster moved.node message.receiver (before course position) message.body)
  reply_event position moved found (Took message) is = sym (and_not (eqb moved.node home))
  reply_event position moved found (Ended end) is = sym (and_not (eqb moved.node home))

  reply_test : Tests replied answers_home
  reply_test position moved found =
      ap (gives_reply home) (event_of_moved cluster turns lawful home position moved found) ∙ reply_event position moved found moved.event refl

  took_event : (position : ℕ) (moved : Moved) (message : Msg) → at course position ≡ Some moved → moved.event ≡ Took message → (b : Bool)
      → eqb moved.node home ≡ b
      → takes_request events home (log.Took moved.node (taken_from (before course position) moved.message)) ≡ b && asks_home (Took message)
  took_event position moved message found is false other = rw other refl
  took_event position moved message found is true mine =
      let post = taken_from (before course position) moved.message in
      let it = taken_message cluster turns lawful home position moved message found (equal moved.node home mine) is in
      rw (mine, posted_event cluster turns lawful home post position message it)
      (request_same cluster (it.sender) home (before course post) message.body ∙ sym (asks_same message.body))

  request_event : (position : ℕ) (moved : Moved) → at course position ≡ Some moved → (event : Event) → moved.event ≡ event
      → takes_request events home (happens_to cluster (before course position) moved.node moved.message event) ≡ eqb moved.node home && asks_home event
  request_event position moved found (Did done) is =
      (item_no_message cluster home moved.node events (own moved.node (before course position)) done).no_request ∙ sym (and_not (eqb moved.node home))
  request_event position moved found (Sent message) is = sym (and_not (eqb moved.node home))
  request_event position moved found (Took message) is = took_event position moved message found is (eqb moved.node home) refl
  request_event position moved found (Ended end) is = sym (and_not (eqb moved.node home))

  request_test : Tests requested asks_home
  request_test position moved found =
      ap (takes_request events home) (event_of_moved cluster turns lawful home position moved found) ∙ request_event position moved found moved.event refl

  -- where a test holds, the home did such a thing
  tested : (test : ℕ → Bool) (such : Event → Bool) → Tests test such → ((position : ℕ) → at course position ≡ None → test position ≡ false)
      → (position : ℕ) → test position ≡ true → (event : Event) × Happens course home position event × (such event ≡ true)
  tested test such is nothing position holds = on (at course position) refl
    where
      on : (option : Option Moved) → at course position ≡ option → (event : Event) × Happens course home position event × (such event ≡ true)
      on None none = let not = nothing position none in absurd (cc)
      on (Some moved) found =
          let both = both_true (eqb moved.node home) (such moved.event) (sym (is position moved found) ∙ holds) in
          (moved.event, record { moved = moved; is = found; by = equal moved.node home (both.0); event_is = refl }, both.1)

  holds_there : (test : ℕ → Bool) (such : Event → Bool) → Tests test such → (position : ℕ) (event : Event) → Happens course home position event
      → such event ≡ true → test position ≡ true
  holds_there test such is position event happens holds =
      let mine : eqb (happens.moved.node) home ≡ true = ap (λ it. eqb it home) (happens.by) ∙ itself home in
      let it : such (happens.moved.event) ≡ true = ap such (happens.event_is) ∙ holds in
      is position (happens.moved) (happens.is) ∙ rw (mine, it) refl

  no_reply_there : (position : ℕ) → at course position ≡ None → replied position ≡ false
  no_reply_there position none = ap (gives_reply home) (nothing_there cluster turns lawful home position none)

  no_request_there : (position : ℕ) → at course position ≡ None → requested position ≡ false
  no_request_there position none = ap (takes_request events home) (nothing_there cluster turns lawful home position none)

  -- ---- counts

  counted : (test : ℕ → Bool) (such : Event → Bool) → Tests test such → ((position : ℕ) → at course position ≡ None → test position ≡ false)
      → (position : ℕ) → count test position ≡ count_by such (own home (first position course))
  counted test such is nothing zero = sym (ap (λ it. count_by such (own home it)) (first_none course))
  counted test such is nothing (suc position) = on (at course position) refl (counted test such is nothing position)
    where
      mine : (moved : Moved) → at course position ≡ Some moved → (b : Bool) → eqb moved.node home ≡ b → (c : Bool) → such moved.event ≡ c
          → count test position ≡ count_by such (own home (first position course))
          → count test (suc position) ≡ count_by such (own home (first (suc position) course))
      mine moved found false other c holds earlier =
          let none : test position ≡ false = is position moved found ∙ ap (λ b. b && such moved.event) other in
          let next = past_other cluster turns lawful home position moved found other in
          rw (none, next) earlier
      mine moved found true its true holds earlier =
          let here : test position ≡ true = is position moved found ∙ rw (its, holds) refl in
          let next = past_next cluster turns lawful home position moved found (equal moved.node home its) in
          rw (here, next) (ap suc earlier ∙ sym (count_one such moved.event (own home (first position course)) holds))
      mine moved found true its false holds earlier =
          let here : test position ≡ false = is position moved found ∙ rw (its, holds) refl in
          let next = past_next cluster turns lawful home position moved found (equal moved.node home its) in
          rw (here, next) (earlier ∙ sym (count_none such moved.event (own home (first position course)) holds))

      on : (option : Option Moved) → at course position ≡ option → count test position ≡ count_by such (own home (first position course))
          → count test (suc position) ≡ count_by such (own home (first (suc position) course))
      on None none earlier =
          let not = nothing position none in
          let next = past_same cluster turns lawful home position none in
          rw (not, next) earlier
      on (Some moved) found earlier = mine moved found (eqb moved.node home) refl (such moved.event) refl earlier

  replies_before : (position : ℕ) (event : Event) → Happens course home position event
      → count replied position ≡ count_by answers_home (own home (before course position))
  replies_before position event happens =
      counted replied answers_home reply_test no_reply_there position
      ∙ ap (λ it. count_by answers_home (own home it)) (first_at position course (happens.moved) (happens.is))

  requests_before : (position : ℕ) (event : Event) → Happens course home position event
      → count requested position ≡ count_by asks_home (own home (before course position))
  requests_before position event happens =
      counted requested asks_home request_test no_request_there position
      ∙ ap (λ it. count_by asks_home (own home it)) (first_at position course (happens.moved) (happens.is))

  -- ---- answers

  reply_there : (position : ℕ) → replied position ≡ true → (event : Event) × Happens course home position event × (answers_home event ≡ true)
  reply_there position is = tested replied answers_home reply_test no_reply_there position is

  request_there : (position : ℕ) → requested position ≡ true → (event : Event) × Happens course home position event × (asks_home event ≡ true)
  request_there position is = tested requested asks_home request_test no_request_there position is

  owed_there : (position : ℕ) (event : Event) → Happens course home position event → answers_home event ≡ true
      → (taking : ℕ) × Answers events home position taking
  owed_there position event happens is =
      let it = answer_in event is in
      let due = reply_for cluster turns lawful home position (it.0) (subst (λ one. Happens course home position one) (it.1) happens) (it.2) in (due.0, due.1)

  owed_reply : (position : ℕ) → replied position ≡ true → (taking : ℕ) × Answers events home position taking
  owed_reply position is = let it = reply_there position is in owed_there position (it.0) (it.1) (it.2)

  apart : (position : ℕ) → replied position ≡ true → requested position ≡ false
  apart position is =
      let it = reply_there position is in
      let not : asks_home (it.1.moved.event) ≡ false = ap asks_home (it.1.event_is) ∙ no_request (it.0) (it.2) in
      request_test position (it.1.moved) (it.1.is) ∙ ap (λ one. eqb (it.1.moved.node) home && one) not ∙ and_not (eqb (it.1.moved.node) home)

  same_counts : (reply taking : ℕ) → Answers events home reply taking → count replied reply ≡ count requested taking
  same_counts reply taking answers = head_count requested replied apart owed_reply reply taking answers

  -- A reply by counting is one by the queue,
  pub answer_queued : (reply taking : ℕ) → IsAnswerTo course home reply taking → Answers events home reply taking
  answer_queued reply taking it =
      let due = owed_there reply (it.replied) (it.reply_is) (it.answers) in
      let pushed : requested (due.0) ≡ true = owed.head-pushed requested replied reply (due.0) (due.1) in
      let asked : requested taking ≡ true = holds_there requested asks_home request_test taking (it.taken) (it.taking_is) (it.asked) in
      let same : count requested (due.0) ≡ count requested taking =
      sym (same_counts reply (due.0) (due.1)) ∙ replies_before reply (it.replied) (it.reply_is) ∙ it.same_place
      ∙ sym (requests_before taking (it.taken) (it.taking_is)) in
      subst (λ one. Answers events home reply one) (same_count requested (due.0) taking pushed asked same) (due.1)

  -- and the other way round.
  pub answer_counted : (reply taking : ℕ) (event : Event) → Happens course home reply event → answers_home event ≡ true → Answers events home reply taking
      → IsAnswerTo course home reply taking
  answer_counted reply taking event happens is answers =
      let asked = request_there taking (owed.head-pushed requested replied reply taking answers) in
      record {
        replied = event;
        taken = asked.0;
        reply_is = happens;
        taking_is = asked.1;
        answers = is;
        asked = asked.2;
        same_place = sym (replies_before reply event happens) ∙ same_counts reply taking answers ∙ requests_before taking (asked.0) (asked.1);
      }
