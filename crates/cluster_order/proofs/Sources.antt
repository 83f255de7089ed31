-- From where an arrival had its words, and where a sending is received: by places and counts as by the queues of positions.
use Rattle.std.proofs.Common.{◌≡◌, ◌⊎◌, inl, inr, ℕ, ℤ, List, Some, true, refl, sym, ◌∙◌, ap, subst}
use Rattle.page_messages.specs.declared.message.Msg.{Msg}
use Rattle.page_messages.specs.declared.message.Body.TheVariants as body
use Rattle.page_messages.specs.declared.parts.Part as page
use Rattle.page_messages.specs.declared.log.Item.{Item}
use Rattle.page_messages.specs.declared.log.Item.TheVariants as item
use Rattle.cluster_rules.specs.Turns.{WholeTurn, Event, Did, Sent, Took}
use Rattle.cluster_rules.specs.Cache.{brings, arrives}
use Rattle.cluster_rules.specs.Sendings.{sends}
use Rattle.cluster_rules.specs.Home.{replies_in}
use Rattle.cluster_rules.specs.Positions.{Course, course_of, before, Happens}
use Rattle.cluster_rules.specs.Moments.{IsAnswerTo, IsTakenAt, IsSource, Answered, Loaded, IsReceipt, Taken, AtOnce}
use Rattle.cluster_rules.specs.Runs.{Cluster, IsLawful}
use Rattle.cluster_rules.proofs.Backward.{gives_some}
use Rattle.backer_order.specs.Log as log
use Rattle.backer_order.specs.Moments.{Source, FromPage, FromOwn, Received, ByTaking, AtItem}
use Rattle.cluster_order.specs.Reading.{words_of, part_of, note_of}
use Rattle.cluster_order.proofs.Events.{happens, posted_is, loaded_is, own_part_is, page_is}
use Rattle.cluster_order.proofs.Messages.{Taking, taking_at, posted_event}
use Rattle.cluster_order.proofs.Accesses.{ev, event_there, bring_in}
use Rattle.cluster_order.proofs.Ranking.{answer_queued, answer_counted}
use Rattle.cluster_order.proofs.Placing.{taking_of, taken_of}
use Rattle.cluster_order.proofs.Touching.{same_happening}

own_sending : (its_page : ℕ) (done : Item) → sends its_page (Did done) ≡ true → (part : page.Part) × (done ≡ item.OwnReconcile part)
own_sending its_page (item.Act frame index act) is = absurd (cc)
own_sending its_page (item.Tick frame) is = absurd (cc)
own_sending its_page (item.Drop page) is = absurd (cc)
own_sending its_page (item.TakeUp frame) is = absurd (cc)
own_sending its_page (item.OwnFetch page words) is = absurd (cc)
own_sending its_page (item.OwnReconcile part) is = (part, refl)
own_sending its_page (item.Served frame index word old addend) is = absurd (cc)

module _ (cluster : Cluster) (turns : List WholeTurn) (lawful : IsLawful cluster turns) where
  abbrev course : Course
  course = course_of turns

  abbrev events : ℕ → log.Event
  events = ev cluster turns lawful

  -- ---- where the words of an arrival came from

  -- what arrives as a Page
  page_source : (node its_page arrival moment home reply : ℕ) (list : List ℤ) (message : Msg) → message.body ≡ body.Page its_page list
      → Taking cluster turns lawful node reply arrival message
      → IsAnswerTo course home reply moment → Source events node its_page arrival moment
  page_source node its_page arrival moment home reply list message says taking answer =
      let sent : Happens course (taking.sender) reply (Sent message) =
      happens cluster course reply (taking.sender) (Some (taking.place)) (Sent message) (taking.posted) in
      let same = same_happening course home (taking.sender) reply (answer.replied) (Sent message) (answer.reply_is) sent in
      let posted = posted_event cluster turns lawful node reply arrival message taking
      ∙ ap (λ said. log.Post (taking.sender) node (note_of cluster (taking.sender) (before course reply) said)) says
      ∙ ap (λ one. log.Post one node (log.Page its_page (words_of cluster list))) (sym (same.0)) in
      FromPage home reply (words_of cluster list) (taking.event) posted (answer_queued cluster turns lawful home reply moment answer)

  -- what an event that brings the page is
  abbrev Brought : ℕ → Event → List ℤ → Type 0
  Brought its_page event list =
      ((message : Msg) × (event ≡ Took message) × (message.body ≡ body.Page its_page list)) ⊎ (event ≡ Did (item.OwnFetch its_page list))

  taken_source : (node its_page arrival moment home reply : ℕ) (event : Event) (list : List ℤ) → Happens course node arrival event
      → Brought its_page event list →
      (taken : IsTakenAt course reply arrival)
      → IsAnswerTo course home reply moment → Source events node its_page arrival moment
  taken_source node its_page arrival moment home reply event list happened brought taken answer = on brought
    where
      it : Taking cluster turns lawful (taken.receiver.node) reply arrival (taken.message)
      it = taking_of cluster turns lawful reply arrival taken

      same : (node ≡ taken.receiver.node) × (event ≡ Took (taken.message))
      same = same_happening course node (taken.receiver.node) arrival event (Took (taken.message)) happened
          (happens cluster course arrival (taken.receiver.node) (Some (it.place)) (Took (taken.message)) (it.taken))

      on : Brought its_page event list → Source events node its_page arrival moment
      on (inl page) =
          let both : Took (page.0) ≡ Took (taken.message) = sym (page.1) ∙ same.1 in
          let message_is : page.0 ≡ taken.message = cc in
          page_source node its_page arrival moment home reply list (taken.message) (ap (λ one. one.body) (sym message_is) ∙ page.2)
          (subst (λ one. Taking cluster turns lawful one reply arrival (taken.message)) (sym (same.0)) it) answer
      on (inr own) = let both : Did (item.OwnFetch its_page list) ≡ Took (taken.message) = sym own ∙ same.1 in absurd (cc)

  loaded_source : (node its_page arrival other page : ℕ) (words : List ℤ) (event : Event) (list : List ℤ) → Happens course node arrival event
      → Brought its_page event list
      → Happens course other arrival (Did (item.OwnFetch page words)) → Source events node its_page arrival arrival
  loaded_source node its_page arrival other page words event list happened brought loaded = on brought
    where
      same : (node ≡ other) × (event ≡ Did (item.OwnFetch page words))
      same = same_happening course node other arrival event (Did (item.OwnFetch page words)) happened loaded

      on : Brought its_page event list → Source events node its_page arrival arrival
      on (inl taken) = let both : Took (taken.0) ≡ Did (item.OwnFetch page words) = sym (taken.1) ∙ same.1 in absurd (cc)
      on (inr own) =
          FromOwn (words_of cluster list) (event_there cluster turns lawful node arrival (Did (item.OwnFetch its_page list))
          (subst (λ one. Happens course node arrival one) own happened)) refl

  pub source_at : (node its_page arrival moment : ℕ) (event : Event) → Happens course node arrival event → arrives its_page event ≡ true
      → IsSource course arrival moment
      → Source events node its_page arrival moment
  source_at node its_page arrival moment event happened arrived (Answered home reply taking taken answer) =
      let some = gives_some (brings its_page event) arrived in
      taken_source node its_page arrival moment home reply event (some.0) happened (bring_in its_page (some.0) event (some.1)) taken answer
  source_at node its_page arrival moment event happened arrived (Loaded other page words loaded) =
      let some = gives_some (brings its_page event) arrived in
      loaded_source node its_page arrival other page words event (some.0) happened (bring_in its_page (some.0) event (some.1)) loaded

  pub source_there : (node its_page arrival moment : ℕ) → Source events node its_page arrival moment → IsSource course arrival moment
  source_there node its_page arrival moment (FromPage home post words took posted answers) =
      let it = taking_at cluster turns lawful node post arrival took in
      let sent = posted_is cluster course post home node (log.Page its_page words) posted in
      let said = page_is cluster home (before course post) its_page words (sent.1.body) (sent.4) in
      Answered home post moment (taken_of cluster turns lawful node post arrival (it.0) (it.1))
      (answer_counted cluster turns lawful home post moment (Sent (sent.1)) (happens cluster course post home (sent.0) (Sent (sent.1)) (sent.2))
      (ap replies_in (said.1)) answers)
  source_there node its_page arrival moment (FromOwn words is same) =
      let it = loaded_is cluster course arrival node its_page words is in
      subst (λ one. IsSource course arrival one) (sym same) (Loaded node its_page (it.0) (it.1))

  -- ---- where a sending is received

  pub receipt_at : (node its_page sending moment : ℕ) (event : Event) → Happens course node sending event → sends its_page event ≡ true
      → IsReceipt course sending moment
      → Received events sending moment
  receipt_at node its_page sending moment event happened sent (Taken taking taken) =
      ByTaking (record { taker = taken.receiver.node; is = (taking_of cluster turns lawful sending taking taken).event })
  receipt_at node its_page sending moment event happened sent (AtOnce other done there) =
      let same = same_happening course node other sending event (Did done) happened there in
      let own = own_sending its_page done (ap (sends its_page) (sym (same.1)) ∙ sent) in
      AtItem other (part_of cluster (own.0))
      (event_there cluster turns lawful other sending (Did (item.OwnReconcile (own.0)))
      (subst (λ one. Happens course other sending (Did one)) (own.1) there)) refl

  pub receipt_there : (sending moment : ℕ) → Received events sending moment → IsReceipt course sending moment
  receipt_there sending moment (ByTaking it) =
      let taking = taking_at cluster turns lawful (it.taker) sending moment (it.is) in
      Taken moment (taken_of cluster turns lawful (it.taker) sending moment (taking.0) (taking.1))
  receipt_there sending moment (AtItem node part is same) =
      let it = own_part_is cluster course sending node part is in
      subst (λ one. IsReceipt course sending one) (sym same) (AtOnce node (item.OwnReconcile (it.0)) (it.1))
