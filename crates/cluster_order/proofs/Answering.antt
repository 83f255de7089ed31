-- Each request is answered before its node goes on: the answer that is taken is the one for it.
use Rattle.std.proofs.Common.{◌≡◌, ℕ, ℤ, zero, suc, ◌<◌, ◌≤◌, List, [], ◌∷◌, ◌++◌, Option, Some, None, Bool, true, false, cond, ◌||◌, eqb, length, is_some, refl, sym, ◌∙◌, ap, subst, arith}
use Rattle.std.proofs.lemmas.Bool.Decides.{nat_tests}
use Rattle.std.specs.List.{list_any}
use Rattle.page_messages.specs.declared.closure.FrameId.{FrameId}
use Rattle.page_messages.specs.declared.log.PostAt.{PostAt}
use Rattle.page_messages.specs.declared.message.Msg.{Msg}
use Rattle.page_messages.specs.declared.message.Body.{Body}
use Rattle.page_messages.specs.declared.message.Body.TheVariants as body
use Rattle.page_messages.specs.declared.parts.Part.{Part}
use Rattle.cluster_rules.specs.Walking.{since}
use Rattle.cluster_rules.specs.Turns.{WholeTurn, Event, Did, Sent, Took, Ended, Past}
use Rattle.cluster_rules.specs.Cache.{page_in}
use Rattle.cluster_rules.specs.Sendings.{Wait, ForPage, ForAck, ForAdded, requests, answers, begins, ends, awaits, fetches_in, reconciles_in, acks_in, adds_in, tells_in}
use Rattle.cluster_rules.specs.Home.{replies_in}
use Rattle.cluster_rules.specs.Positions.{Moved, Course, course_of, own, at, before, Happens}
use Rattle.cluster_rules.specs.Runs.{Cluster, IsLawful}
use Rattle.backer_order.specs.Log as log
use Rattle.backer_order.specs.Moments.{is_reply, Answers, Serves, Tells, Replied, AddDone, Answered, takes_request, gives_reply, takes_add, serves, gives_added}
use Rattle.backer_order.proofs.Owed as owed
use Rattle.backer_order.proofs.Search.{Order3, Less3, Same3, More3, compare}
use Rattle.cluster_order.specs.Reading.{memory_of, note_of, taken_from}
use Rattle.cluster_order.proofs.Growing.{within, at_behind, at_last}
use Rattle.cluster_order.proofs.Events.{Found, happens}
use Rattle.cluster_order.proofs.Between.{Stands, stands_at, past_parts}
use Rattle.cluster_order.proofs.Messages.{length_before, happens_before, happened_before, Taking, taking_found, posted_event, delivery}
use Rattle.cluster_order.proofs.Accesses.{ev, found_of}
use Rattle.cluster_order.proofs.Lawful.{sent_by, fetch_allowed, reconcile_allowed, add_allowed}
use Rattle.cluster_order.proofs.Owing.{OwesFor, PageFor, AckFor, reply_for}
use Rattle.cluster_order.proofs.Adding.{add_for, old_for}
use Rattle.cluster_rules.proofs.Testing.{both_true}

-- ---- one that is such stands somewhere

pub record Somewhere (course : Course) (number : ℕ) (such : Event → Bool) (start : ℕ) : Type 0 where
  pub position : ℕ
  pub moved : Moved
  pub behind : start ≤ position
  pub is : at course position ≡ Some moved
  pub by : moved.node ≡ number
  pub such_is : such moved.event ≡ true

pub some_later : (number : ℕ) (such : Event → Bool) (later rest : Course) → list_any such (own number later) ≡ true
    → Somewhere (later ++ rest) number such (length rest)
some_later number such [] rest any = absurd (cc)
some_later number such (first ∷ later) rest any = on (eqb first.node number) refl any (some_later number such later rest)
  where
    more : Somewhere (later ++ rest) number such (length rest) → Somewhere (first ∷ (later ++ rest)) number such (length rest)
    more it =
        record {
          position = it.position;
          moved = it.moved;
          behind = it.behind;
          is = at_behind (first ∷ []) (later ++ rest) (it.position)
              (within (later ++ rest) (it.position) (it.moved) (it.is)) ∙ it.is;
          by = it.by;
          such_is = it.such_is;
        }

    now : (b : Bool) → such first.event ≡ b → eqb first.node number ≡ true → b || list_any such (own number later) ≡ true
        → (list_any such (own number later) ≡ true → Somewhere (later ++ rest) number such (length rest))
        → Somewhere (first ∷ (later ++ rest)) number such (length rest)
    now true is mine any before =
        let count = length_sum later rest in
        record {
          position = length (later ++ rest);
          moved = first;
          behind = omega (arith, count);
          is = at_last first (later ++ rest);
          by = grind (arith, nat_tests);
          such_is = is;
        }
      where
        length_sum : (front back : Course) → length back ≤ length (front ++ back)
        length_sum [] back = omega (arith)
        length_sum (one ∷ front) back = let less = length_sum front back in omega (arith, less)
    now false is mine any before = more (before any)

    on : (b : Bool) → eqb first.node number ≡ b → list_any such (cond b (first.event ∷ own number later) (own number later)) ≡ true
        → (list_any such (own number later) ≡ true → Somewhere (later ++ rest) number such (length rest))
        → Somewhere (first ∷ (later ++ rest)) number such (length rest)
    on true mine any before = now (such first.event) refl mine any before
    on false other any before = more (before any)

-- ---- what begins and ends a wait

pub any_waits : (wait : Wait) (newer : Past) (event : Event) (older : Past) → list_any (ends wait) newer ≡ false → ends wait event ≡ false
    → begins wait event ≡ true → awaits wait (newer ++ event ∷ older) ≡ true
any_waits wait [] event older none not is = rw (not, is) refl
any_waits wait (first ∷ newer) event older none not is = on (ends wait first) refl none (any_waits wait newer event older)
  where
    any_or : (b : Bool) → list_any (begins wait) (since (ends wait) (newer ++ event ∷ older)) ≡ true
        → b || list_any (begins wait) (since (ends wait) (newer ++ event ∷ older)) ≡ true
    any_or true any = refl
    any_or false any = any

    on : (b : Bool) → ends wait first ≡ b → b || list_any (ends wait) newer ≡ false
        → (list_any (ends wait) newer ≡ false → ends wait event ≡ false → begins wait event ≡ true → awaits wait (newer ++ event ∷ older) ≡ true)
        → list_any (begins wait) (cond b [] (first ∷ since (ends wait) (newer ++ event ∷ older))) ≡ true
    on true ended none rest = absurd (cc)
    on false unended none rest = any_or (begins wait first) (rest none not is)

no_end : (wait : Wait) (message : Msg) → ends wait (Sent message) ≡ false
no_end wait message = refl

equal : (number other : ℕ) → eqb number other ≡ true → number ≡ other
equal number other is = grind (arith, nat_tests)

itself : (number : ℕ) → eqb number number ≡ true
itself number = grind (arith, nat_tests)

fetching : (its_page : ℕ) (said : Body) → fetches_in its_page said ≡ true → said ≡ body.Fetch its_page
fetching its_page (body.Fetch page) is = ap body.Fetch (equal page its_page is)
fetching its_page (body.Page page words) is = absurd (cc)
fetching its_page (body.Reconcile parts) is = absurd (cc)
fetching its_page body.Ack is = absurd (cc)
fetching its_page body.Ask is = absurd (cc)
fetching its_page (body.Grant closure) is = absurd (cc)
fetching its_page body.Refuse is = absurd (cc)
fetching its_page (body.Done join index value) is = absurd (cc)
fetching its_page (body.Park join closure) is = absurd (cc)
fetching its_page (body.Add frame index word addend) is = absurd (cc)
fetching its_page (body.Added old) is = absurd (cc)

reconciling : (said : Body) → reconciles_in said ≡ true → (list : List Part) × (said ≡ body.Reconcile list)
reconciling (body.Fetch page) is = absurd (cc)
reconciling (body.Page page words) is = absurd (cc)
reconciling (body.Reconcile parts) is = (parts, refl)
reconciling body.Ack is = absurd (cc)
reconciling body.Ask is = absurd (cc)
reconciling (body.Grant closure) is = absurd (cc)
reconciling body.Refuse is = absurd (cc)
reconciling (body.Done join index value) is = absurd (cc)
reconciling (body.Park join closure) is = absurd (cc)
reconciling (body.Add frame index word addend) is = absurd (cc)
reconciling (body.Added old) is = absurd (cc)

pub adding : (said : Body) → adds_in said ≡ true → (frame : FrameId) × (index word : ℕ) × (addend : ℤ) × (said ≡ body.Add frame index word addend)
adding (body.Fetch page) is = absurd (cc)
adding (body.Page page words) is = absurd (cc)
adding (body.Reconcile parts) is = absurd (cc)
adding body.Ack is = absurd (cc)
adding body.Ask is = absurd (cc)
adding (body.Grant closure) is = absurd (cc)
adding body.Refuse is = absurd (cc)
adding (body.Done join index value) is = absurd (cc)
adding (body.Park join closure) is = absurd (cc)
adding (body.Add frame index word addend) is = (frame, index, word, addend, refl)
adding (body.Added old) is = absurd (cc)

acking : (said : Body) → acks_in said ≡ true → said ≡ body.Ack
acking (body.Fetch page) is = absurd (cc)
acking (body.Page page words) is = absurd (cc)
acking (body.Reconcile parts) is = absurd (cc)
acking body.Ack is = refl
acking body.Ask is = absurd (cc)
acking (body.Grant closure) is = absurd (cc)
acking body.Refuse is = absurd (cc)
acking (body.Done join index value) is = absurd (cc)
acking (body.Park join closure) is = absurd (cc)
acking (body.Add frame index word addend) is = absurd (cc)
acking (body.Added old) is = absurd (cc)

telling : (said : Body) → tells_in said ≡ true → (old : ℤ) × (said ≡ body.Added old)
telling (body.Fetch page) is = absurd (cc)
telling (body.Page page words) is = absurd (cc)
telling (body.Reconcile parts) is = absurd (cc)
telling body.Ack is = absurd (cc)
telling body.Ask is = absurd (cc)
telling (body.Grant closure) is = absurd (cc)
telling body.Refuse is = absurd (cc)
telling (body.Done join index value) is = absurd (cc)
telling (body.Park join closure) is = absurd (cc)
telling (body.Add frame index word addend) is = absurd (cc)
telling (body.Added old) is = (old, refl)

paging : (its_page : ℕ) (said : Body) → is_some (page_in its_page said) ≡ true → (words : List ℤ) × (said ≡ body.Page its_page words)
paging its_page (body.Fetch page) is = absurd (cc)
paging its_page (body.Page page words) is = (words, ap (λ it. body.Page it words) (equal page its_page (gives (eqb page its_page) is)))
  where
    gives : (b : Bool) → is_some (cond b (Some words) None) ≡ true → b ≡ true
    gives true some = refl
    gives false some = absurd (cc)
paging its_page (body.Reconcile parts) is = absurd (cc)
paging its_page body.Ack is = absurd (cc)
paging its_page body.Ask is = absurd (cc)
paging its_page (body.Grant closure) is = absurd (cc)
paging its_page body.Refuse is = absurd (cc)
paging its_page (body.Done join index value) is = absurd (cc)
paging its_page (body.Park join closure) is = absurd (cc)
paging its_page (body.Add frame index word addend) is = absurd (cc)
paging its_page (body.Added old) is = absurd (cc)

module _ (cluster : Cluster) (turns : List WholeTurn) (lawful : IsLawful cluster turns) where
  abbrev events : ℕ → log.Event
  events = ev cluster turns lawful

  abbrev course : Course
  course = course_of turns

  -- the node posts a request of this kind, or takes an answer
  pub record Request (number : ℕ) (wait : Wait) (position : ℕ) : Type 0 where
    pub message : Msg
    pub is : Happens course number position (Sent message)
    pub asks : requests wait message ≡ true

  pub record Answer (number : ℕ) (wait : Wait) (position : ℕ) : Type 0 where
    pub message : Msg
    pub is : Happens course number position (Took message)
    pub tells : answers wait message ≡ true

  pub ended_by : (number : ℕ) (wait : Wait) (position : ℕ) (event : Event) → Happens course number position event → ends wait event ≡ true
      → Answer number wait position
  ended_by number wait position (Did done) happens is = absurd (cc)
  ended_by number wait position (Sent message) happens is = absurd (cc)
  ended_by number wait position (Took message) happens is = record { message = message; is = happens; tells = is }
  ended_by number wait position (Ended end) happens is = absurd (cc)

  -- where a node does not wait, what it asked was answered since
  pub answer_between : (number : ℕ) (wait : Wait) (position : ℕ) (moved : Moved) → at course position ≡ Some moved
      → awaits wait (own number (before course position)) ≡ false
      → (request : ℕ) → Request number wait request → request < position → (answer : ℕ) × (request < answer) × (answer < position) × Answer number wait answer
  answer_between number wait position moved found quiet request asked less = on (list_any (ends wait) (it.0)) refl
    where
      front : Course
      front = before course position

      here : Happens front number request (Sent (asked.message))
      here = happens_before course position moved found number request (Sent (asked.message)) less (asked.is)

      it : (newer : Past) × Stands number front newer (Sent (asked.message)) (own number (before front request)) request
      it = stands_at number front request (Sent (asked.message)) here

      on : (b : Bool) → list_any (ends wait) (it.0) ≡ b → (answer : ℕ) × (request < answer) × (answer < position) × Answer number wait answer
      on false none =
          let parts = past_parts number front (it.0) (Sent (asked.message)) (own number (before front request)) request (it.1) in
          let waits : awaits wait (own number front) ≡ true =
          ap (awaits wait) parts ∙ any_waits wait (it.0) (Sent (asked.message)) (own number (before front request)) none (no_end wait (asked.message))
          (asked.asks) in
          absurd (cc)
      on true some =
          let rest = it.1.moved ∷ before front request in
          let count : length rest ≡ suc request = ap suc (it.1.count) in
          let any : list_any (ends wait) (own number (it.1.later)) ≡ true = ap (list_any (ends wait)) (it.1.newer_is) ∙ some in
          let somewhere = some_later number (ends wait) (it.1.later) rest any in
          let there : at front (somewhere.position) ≡ Some (somewhere.moved) = ap (λ all. at all (somewhere.position)) (it.1.parts) ∙ somewhere.is in
          let happened = happened_before course position moved found number (somewhere.position) (somewhere.moved.event)
          (record { moved = somewhere.moved; is = there; by = somewhere.by; event_is = refl }) in
          let inside = within front (somewhere.position) (somewhere.moved) there in
          let all = length_before course position moved found in
          let start = somewhere.behind in (
            somewhere.position,
            omega (arith, start, count),
            omega (arith, inside, all),
            ended_by number wait (somewhere.position) (somewhere.moved.event) happened (somewhere.such_is),
          )

  -- a node asks where it does not wait for such an answer
  pub quiet_request : (number : ℕ) (wait : Wait) (position : ℕ) → Request number wait position → awaits wait (own number (before course position)) ≡ false
  quiet_request number (ForPage page) position it =
      (fetch_allowed cluster turns lawful number position (it.message) page (it.is) (fetching page (it.message.body) (it.asks))).quiet (ForPage page)
  quiet_request number (ForAck home) position it =
      let both = both_true (reconciles_in (it.message.body)) (eqb (it.message.receiver) home) (it.asks) in
      let said = reconciling (it.message.body) (both.0) in
      subst (λ to. awaits (ForAck to) (own number (before course position)) ≡ false) (equal (it.message.receiver) home (both.1))
      ((reconcile_allowed cluster turns lawful number position (it.message) (said.0) (it.is) (said.1)).alone)
  quiet_request number ForAdded position it =
      let said = adding (it.message.body) (it.asks) in
      (add_allowed cluster turns lawful number position (it.message) (said.0) (said.1) (said.2) (said.3) (it.is) (said.4)).quiet ForAdded

  -- ---- for which request an answer is

  -- the Page or Ack that is taken at a position is the one for what was posted at the other
  pub record RepliedAt (number post position : ℕ) : Type 0 where
    pub reply : ℕ
    pub home : ℕ
    pub taking : ℕ
    pub note : log.Note
    pub takes : events position ≡ log.Took number reply
    pub posted : events reply ≡ log.Post home number note
    pub replies : is_reply note ≡ true
    pub answers : Answers events home reply taking
    pub took : events taking ≡ log.Took home post

  pub record DoneAt (number post position : ℕ) : Type 0 where
    pub reply : ℕ
    pub home : ℕ
    pub served : ℕ
    pub taking : ℕ
    pub old : ℤ
    pub takes : events position ≡ log.Took number reply
    pub posted : events reply ≡ log.Post home number (log.Added old)
    pub tells : Tells events (memory_of cluster) home reply served
    pub serves : Serves events (memory_of cluster) home served taking
    pub took : events taking ≡ log.Took home post

  abbrev pub Told : ℕ → Wait → ℕ → ℕ → Type 0
  Told number (ForPage page) post position = RepliedAt number post position
  Told number (ForAck home) post position = RepliedAt number post position
  Told number ForAdded post position = DoneAt number post position

  abbrev Due : ℕ → Wait → ℕ → Type 0
  Due number wait position = (post : ℕ) × Request number wait post × (post < position) × Told number wait post position

  happens_of : (position number : ℕ) (place : Option PostAt) (event : Event) → Found cluster course position number place event
      → Happens course number position event
  happens_of position number place event it = happens cluster course position number place event it

  -- what a taken message was posted at, as the place says
  pub record Came (number position : ℕ) (message : Msg) : Type 0 where
    pub post : ℕ
    pub it : Taking cluster turns lawful number post position message

  pub came : (number position : ℕ) (message : Msg) → Happens course number position (Took message) → Came number position message
  came number position message happens =
      let found = found_of cluster turns lawful number position (Took message) happens in
      record {
        post = taken_from (before course position) (happens.moved.message);
        it = taking_found cluster turns lawful number position (happens.moved.message) message found;
      }

  poster : (number post position : ℕ) (message : Msg) → (it : Taking cluster turns lawful number post position message)
      → Happens course (it.sender) post (Sent message)
  poster number post position message it = happens_of post (it.sender) (Some (it.place)) (Sent message) (it.posted)

  -- a Page or an Ack
  reply_due : (number position : ℕ) (answer : Msg) (came : Came number position answer) (post taking : ℕ) (message : Msg)
      (asked : Taking cluster turns lawful (came.it.sender) post taking message)
      → replies_in answer.body ≡ true → Answers events (came.it.sender) (came.post) taking → answer.receiver ≡ message.sender
      → (message.sender ≡ number) × (asked.sender ≡ number) × (post < position) × RepliedAt number post position
  reply_due number position answer came post taking message asked replies answering to =
      let home = came.it.sender in
      let sender_is : message.sender ≡ number = sym to ∙ came.it.to in
      let asked_by : asked.sender ≡ number =
      sym (sent_by cluster turns lawful (asked.sender) post message (poster home post taking message asked)) ∙ sender_is in
      let earlier = owed.head-before (λ at. takes_request events home (events at)) (λ at. gives_reply home (events at)) (came.post) taking answering in
      let first = asked.before in
      let second = came.it.before in (
        sender_is,
        asked_by,
        omega (arith, earlier, first, second),
        record {
          reply = came.post;
          home = home;
          taking = taking;
          note = note_of cluster home (before course (came.post)) answer.body;
          takes = came.it.event;
          posted = posted_event cluster turns lawful number (came.post) position answer (came.it);
          replies = reply_note (answer.body) home (came.post) replies;
          answers = answering;
          took = asked.event;
        },
      )
    where
      reply_note : (said : Body) (home at_post : ℕ) → replies_in said ≡ true → is_reply (note_of cluster home (before course at_post) said) ≡ true
      reply_note (body.Fetch page) home at_post is = absurd (cc)
      reply_note (body.Page page words) home at_post is = refl
      reply_note (body.Reconcile parts) home at_post is = absurd (cc)
      reply_note body.Ack home at_post is = refl
      reply_note body.Ask home at_post is = absurd (cc)
      reply_note (body.Grant closure) home at_post is = absurd (cc)
      reply_note body.Refuse home at_post is = absurd (cc)
      reply_note (body.Done join index value) home at_post is = absurd (cc)
      reply_note (body.Park join closure) home at_post is = absurd (cc)
      reply_note (body.Add frame index word addend) home at_post is = absurd (cc)
      reply_note (body.Added old) home at_post is = absurd (cc)

  told_page : (number position its_page : ℕ) (words : List ℤ) (answer : Msg) (came : Came number position answer) → answer.body ≡ body.Page its_page words
      → Due number (ForPage its_page) position
  told_page number position its_page words answer came says = on (due.2)
    where
      home : ℕ
      home = came.it.sender

      due : (taking : ℕ) × Answers events home (came.post) taking × OwesFor cluster turns lawful home answer taking
      due = reply_for cluster turns lawful home (came.post) answer (poster number (came.post) position answer (came.it)) (ap replies_in says)

      on : OwesFor cluster turns lawful home answer (due.0) → Due number (ForPage its_page) position
      on (PageFor post page message asked fetches is) =
          let body_is : body.Page page _ ≡ body.Page its_page words = sym (ap (λ it. it.body) is) ∙ says in
          let page_is : page ≡ its_page = cc in
          let replied = reply_due number position answer came post (due.0) message asked (ap replies_in says) (due.1) (ap (λ it. it.receiver) is) in (
            post,
            record {
              message = message;
              is = subst (λ one. Happens course one post (Sent message)) (replied.1) (poster home post (due.0) message asked);
              asks = ap (fetches_in its_page) fetches ∙ ap (λ it. eqb it its_page) page_is ∙ itself its_page;
            },
            replied.2,
            replied.3,
          )
      on (AckFor post parts message asked reconciles is) =
          let body_is : body.Ack ≡ body.Page its_page words = sym (ap (λ it. it.body) is) ∙ says in absurd (cc)

  told_ack : (number position its_home : ℕ) (answer : Msg) (came : Came number position answer) → answer.body ≡ body.Ack → answer.sender ≡ its_home
      → Due number (ForAck its_home) position
  told_ack number position its_home answer came says by_home = on (due.2)
    where
      home : ℕ
      home = came.it.sender

      due : (taking : ℕ) × Answers events home (came.post) taking × OwesFor cluster turns lawful home answer taking
      due = reply_for cluster turns lawful home (came.post) answer (poster number (came.post) position answer (came.it)) (ap replies_in says)

      home_is : home ≡ its_home
      home_is = sym (sent_by cluster turns lawful home (came.post) answer (poster number (came.post) position answer (came.it))) ∙ by_home

      on : OwesFor cluster turns lawful home answer (due.0) → Due number (ForAck its_home) position
      on (PageFor post page message asked fetches is) =
          let body_is : body.Page page _ ≡ body.Ack = sym (ap (λ it. it.body) is) ∙ says in absurd (cc)
      on (AckFor post parts message asked reconciles is) =
          let replied = reply_due number position answer came post (due.0) message asked (ap replies_in says) (due.1) (ap (λ it. it.receiver) is) in
          let first : reconciles_in (message.body) ≡ true = ap reconciles_in reconciles in
          let second : eqb (message.receiver) its_home ≡ true = ap (λ it. eqb it its_home) (asked.to ∙ home_is) ∙ itself its_home in (
            post,
            record {
              message = message;
              is = subst (λ one. Happens course one post (Sent message)) (replied.1) (poster home post (due.0) message asked);
              asks = rw (first, second) refl;
            },
            replied.2,
            replied.3,
          )

  told_added : (number position : ℕ) (old : ℤ) (answer : Msg) (came : Came number position answer) → answer.body ≡ body.Added old → Due number ForAdded position
  told_added number position old answer came says =
      let home = came.it.sender in
      let told = old_for cluster turns lawful home (came.post) answer old (poster number (came.post) position answer (came.it)) says in
      let it = told.2 in
      let receiver_is : answer.receiver ≡ it.add.sender = ap (λ one. one.receiver) (it.due_is) in
      let adds = add_for cluster turns lawful home (told.0) (it.done.moved) (it.done.is) (it.add) (it.later) (it.oldest) in
      let asked = adds.2.taken in
      let sender_is : asked.sender ≡ number =
      sym (sent_by cluster turns lawful (asked.sender) (adds.2.post) (it.add) (poster home (adds.2.post) (adds.0) (it.add) asked)) ∙ sym receiver_is
      ∙ came.it.to in
      let earlier = owed.head-before (λ at. serves (memory_of cluster) home (events at)) (λ at. gives_added home (events at)) (came.post) (told.0) (told.1) in
      let before_that =
      owed.head-before (λ at. takes_add events home (events at)) (λ at. serves (memory_of cluster) home (events at)) (told.0) (adds.0) (adds.1) in
      let first = asked.before in
      let second = came.it.before in (
        adds.2.post,
        record {
          message = it.add;
          is = subst (λ one. Happens course one (adds.2.post) (Sent (it.add))) sender_is (poster home (adds.2.post) (adds.0) (it.add) asked);
          asks = ap adds_in (adds.2.asked);
        },
        omega (arith, earlier, before_that, first, second),
        record {
          reply = came.post;
          home = home;
          served = told.0;
          taking = adds.0;
          old = old;
          takes = came.it.event;
          posted =
              posted_event cluster turns lawful number (came.post) position answer (came.it)
              ∙ ap (λ said. log.Post home number (note_of cluster home (before course (came.post)) said)) says;
          tells = told.1;
          serves = adds.1;
          took = asked.event;
        },
      )

  -- each answer that is taken is for a request of its kind
  pub told_by : (number : ℕ) (wait : Wait) (position : ℕ) → Answer number wait position → Due number wait position
  told_by number (ForPage page) position it =
      let said = paging page (it.message.body) (it.tells) in
      told_page number position page (said.0) (it.message) (came number position (it.message) (it.is)) (said.1)
  told_by number (ForAck home) position it =
      let both = both_true (acks_in (it.message.body)) (eqb (it.message.sender) home) (it.tells) in
      told_ack number position home (it.message) (came number position (it.message) (it.is)) (acking (it.message.body) (both.0))
      (equal (it.message.sender) home (both.1))
  told_by number ForAdded position it =
      let said = telling (it.message.body) (it.tells) in told_added number position (said.0) (it.message) (came number position (it.message) (it.is)) (said.1)

  -- ---- a request is told once

  same_taking : (home other post taking again : ℕ) → events taking ≡ log.Took home post → events again ≡ log.Took other post → (taking ≡ again) × (home ≡ other)
  same_taking home other post taking again one two =
      let same = (delivery cluster turns lawful).once taking again home other post one two in
      let both : log.Took home post ≡ log.Took other post = sym one ∙ ap events same ∙ two in
      let home_same : home ≡ other = cc in (same, home_same)

  gave_reply : (home number reply : ℕ) (note : log.Note) → events reply ≡ log.Post home number note → is_reply note ≡ true
      → gives_reply home (events reply) ≡ true
  gave_reply home number reply note posted is = ap (gives_reply home) posted ∙ rw (itself home, is) refl

  replied_once : (number post one other : ℕ) → RepliedAt number post one → RepliedAt number post other → one ≡ other
  replied_once number post one other first second =
      let same = same_taking (first.home) (second.home) post (first.taking) (second.taking) (first.took) (second.took) in
      let push = λ (at : ℕ). takes_request events (first.home) (events at) in
      let pop = λ (at : ℕ). gives_reply (first.home) (events at) in
      let answers_second : Answers events (first.home) (second.reply) (first.taking) =
      subst (λ it. Answers events (first.home) (second.reply) it) (sym (same.0))
      (subst (λ it. Answers events it (second.reply) (second.taking)) (sym (same.1)) (second.answers)) in
      let popped_second : gives_reply (first.home) (events (second.reply)) ≡ true =
      subst (λ it. gives_reply it (events (second.reply)) ≡ true) (sym (same.1))
      (gave_reply (second.home) number (second.reply) (second.note) (second.posted) (second.replies)) in
      let reply_same = owed.once push pop (first.reply) (second.reply) (first.taking)
      (gave_reply (first.home) number (first.reply) (first.note) (first.posted) (first.replies)) popped_second (first.answers) answers_second in
      (delivery cluster turns lawful).once one other number number (first.reply) (first.takes) (second.takes ∙ ap (log.Took number) (sym reply_same))

  pub done_once : (number post one other : ℕ) → DoneAt number post one → DoneAt number post other → one ≡ other
  done_once number post one other first second =
      let same = same_taking (first.home) (second.home) post (first.taking) (second.taking) (first.took) (second.took) in
      let takes = λ (at : ℕ). takes_add events (first.home) (events at) in
      let does = λ (at : ℕ). serves (memory_of cluster) (first.home) (events at) in
      let tells = λ (at : ℕ). gives_added (first.home) (events at) in
      let serves_second : Serves events (memory_of cluster) (first.home) (second.served) (first.taking) =
      subst (λ it. Serves events (memory_of cluster) (first.home) (second.served) it) (sym (same.0))
      (subst (λ it. Serves events (memory_of cluster) it (second.served) (second.taking)) (sym (same.1)) (second.serves)) in
      let tells_second : Tells events (memory_of cluster) (first.home) (second.reply) (second.served) =
      subst (λ it. Tells events (memory_of cluster) it (second.reply) (second.served)) (sym (same.1)) (second.tells) in
      let served_first = owed.head-pushed does tells (first.reply) (first.served) (first.tells) in
      let served_second = owed.head-pushed does tells (second.reply) (second.served) tells_second in
      let served_same = owed.once takes does (first.served) (second.served) (first.taking) served_first served_second (first.serves) serves_second in
      let told_second : gives_added (first.home) (events (second.reply)) ≡ true =
      ap (gives_added (first.home)) (second.posted) ∙ ap (λ it. eqb it (first.home)) (sym (same.1)) ∙ itself (first.home) in
      let told_first : gives_added (first.home) (events (first.reply)) ≡ true = ap (gives_added (first.home)) (first.posted) ∙ itself (first.home) in
      let reply_same = owed.once does tells (first.reply) (second.reply) (first.served) told_first told_second (first.tells)
      (subst (λ it. Tells events (memory_of cluster) (first.home) (second.reply) it) (sym served_same) tells_second) in
      (delivery cluster turns lawful).once one other number number (first.reply) (first.takes) (second.takes ∙ ap (log.Took number) (sym reply_same))

  told_once : (number : ℕ) (wait : Wait) (post one other : ℕ) → Told number wait post one → Told number wait post other → one ≡ other
  told_once number (ForPage page) post one other first second = replied_once number post one other first second
  told_once number (ForAck home) post one other first second = replied_once number post one other first second
  told_once number ForAdded post one other first second = done_once number post one other first second

  -- ---- each request is answered

  -- behind an answer of its kind a request has been told
  answered_then : (bound number : ℕ) (wait : Wait) (answer request : ℕ) → answer < bound → Request number wait request → request < answer
      → Answer number wait answer
      → (told : ℕ) × (told ≤ answer) × Told number wait request told
  answered_then zero number wait answer request small asked less taken = absurd (omega (arith, small))
  answered_then (suc bound) number wait answer request small asked less taken = on (told_by number wait answer taken) (answered_then bound number wait)
    where
      quiet_there : (post : ℕ) → (it : Request number wait post) → (earlier : ℕ) → Request number wait earlier → earlier < post
          → (between : ℕ) × (earlier < between) × (between < post) × Answer number wait between
      quiet_there post it earlier asked less = answer_between number wait post (it.is.moved) (it.is.is) (quiet_request number wait post it) earlier asked less

      on : Due number wait answer
          → ((answer request : ℕ) → answer < bound → Request number wait request → request < answer → Answer number wait answer
          → (told : ℕ) × (told ≤ answer) × Told number wait request told)
          → (told : ℕ) × (told ≤ answer) × Told number wait request told
      on (post, its, before_that, told) before = by_order (compare post request)
        where
          by_order : Order3 post request → (it : ℕ) × (it ≤ answer) × Told number wait request it
          by_order (Same3 same) = (answer, omega (arith), subst (λ it. Told number wait it answer) same told)
          by_order (More3 more) =
              let between = quiet_there post its request asked more in
              let found = before (between.0) request (omega (arith, between.2, before_that, small)) asked (between.1) (between.3) in
              (found.0, omega (arith, found.1, between.2, before_that), found.2)
          by_order (Less3 smaller) =
              let between = quiet_there request asked post its smaller in
              let found = before (between.0) post (omega (arith, between.2, less, small)) its (between.1) (between.3) in
              let same = told_once number wait post answer (found.0) told (found.2) in
              absurd (omega (arith, same, found.1, between.2, less))

  -- Where a node does not wait, each of its requests has been told.
  pub told_where_quiet : (number : ℕ) (wait : Wait) (position : ℕ) (moved : Moved) → at course position ≡ Some moved
      → awaits wait (own number (before course position)) ≡ false
      → (request : ℕ) → Request number wait request → request < position → (told : ℕ) × (told < position) × Told number wait request told
  told_where_quiet number wait position moved found quiet request asked less =
      let between = answer_between number wait position moved found quiet request asked less in
      let it = answered_then (suc (between.0)) number wait (between.0) request (omega (arith)) asked (between.1) (between.3) in
      (it.0, omega (arith, it.1, between.2), it.2)

  -- Where an answer of its kind was taken since, too.
  pub told_behind_answer : (number : ℕ) (wait : Wait) (answer request : ℕ) → Request number wait request → request < answer → Answer number wait answer
      → (told : ℕ) × (told ≤ answer) × Told number wait request told
  told_behind_answer number wait answer request asked less taken = answered_then (suc answer) number wait answer request (omega (arith)) asked less taken

  pub replied_by : (number post told now : ℕ) → RepliedAt number post told → told < now → Replied events number post now
  replied_by number post told now it less = record {
    at = told;
    reply = it.reply;
    home = it.home;
    taking = it.taking;
    note = it.note;
    before = less;
    takes = it.takes;
    posted = it.posted;
    replies = it.replies;
    answers = it.answers;
    took = it.took;
  }

  pub done_by : (number post told now : ℕ) → DoneAt number post told → told < now → AddDone events (memory_of cluster) number post now
  done_by number post told now it less = record {
    at = told;
    reply = it.reply;
    home = it.home;
    served = it.served;
    taking = it.taking;
    old = it.old;
    before = less;
    takes = it.takes;
    posted = it.posted;
    tells = it.tells;
    serves = it.serves;
    took = it.took;
  }

  -- what a node posted has its answer where the node waits for nothing
  pub answered : (number position post : ℕ) (moved : Moved) (message : Msg) → at course position ≡ Some moved
      → ((wait : Wait) → awaits wait (own number (before course position)) ≡ false) → Happens course number post (Sent message)
      → post < position → Answered events (memory_of cluster) number post position (note_of cluster number (before course post) message.body)
  answered number position post moved message found quiet happens less = on (message.body) refl
    where
      told : (wait : Wait) → requests wait message ≡ true → (it : ℕ) × (it < position) × Told number wait post it
      told wait asks = told_where_quiet number wait position moved found (quiet wait) post (record { message = message; is = happens; asks = asks }) less

      on : (said : Body) → message.body ≡ said → Answered events (memory_of cluster) number post position (note_of cluster number (before course post) said)
      on (body.Fetch page) says = let it = told (ForPage page) (ap (fetches_in page) says ∙ itself page) in replied_by number post (it.0) position (it.2) (it.1)
      on (body.Page page words) says = tt
      on (body.Reconcile parts) says =
          let first : reconciles_in message.body ≡ true = ap reconciles_in says in
          let it = told (ForAck message.receiver) (rw (first, itself message.receiver) refl) in replied_by number post (it.0) position (it.2) (it.1)
      on body.Ack says = tt
      on body.Ask says = tt
      on (body.Grant closure) says = tt
      on body.Refuse says = tt
      on (body.Done join index value) says = tt
      on (body.Park join closure) says = tt
      on (body.Add frame index word addend) says = let it = told ForAdded (ap adds_in says) in done_by number post (it.0) position (it.2) (it.1)
      on (body.Added old) says = tt
