-- The frame whose add was asked for waits for it where the home does the add, and where the old value comes.
use Rattle.std.proofs.Common.{◌≡◌, ◌≢◌, ℕ, suc, ℤ, ◌<◌, ◌≤◌, List, ◌∷◌, ◌++◌, Some, Bool, true, false, eqb, refl, sym, ◌∙◌, ap, subst, arith}
use Rattle.std.proofs.lemmas.Bool.Decides.{nat_tests}
use Rattle.std.specs.List.{list_any}
use Rattle.page_messages.specs.declared.closure.FrameId.{FrameId}
use Rattle.page_messages.specs.declared.message.Msg.{Msg}
use Rattle.page_messages.specs.declared.message.Body.TheVariants as body
use Rattle.page_messages.specs.declared.log.Item.TheVariants as item
use Rattle.cluster_rules.specs.Turns.{WholeTurn, Did, Sent, Took, Past}
use Rattle.cluster_rules.specs.Sendings.{ForAdded, ends, adds_in, tells_in}
use Rattle.cluster_rules.specs.Frames.{stack_of}
use Rattle.cluster_rules.specs.Acting.{Serves as DoesOwed}
use Rattle.cluster_rules.specs.Runs.{Cluster, IsLawful, node_at}
use Rattle.cluster_rules.specs.Allowed.{AllAllowed}
use Rattle.cluster_rules.specs.Positions.{Moved, Course, course_of, own, at, before, Happens}
use Rattle.cluster_rules.proofs.Stepping.{lawful_stepped, stepped_before}
use Rattle.backer_order.specs.Log as log
use Rattle.backer_order.specs.Moments.{Serves, takes_add, serves, gives_added}
use Rattle.backer_order.proofs.Owed as owed
use Rattle.cluster_order.specs.Reading.{memory_of}
use Rattle.cluster_order.proofs.Growing.{within}
use Rattle.cluster_order.proofs.Events.{happens}
use Rattle.cluster_order.proofs.Between.{Stands, stands_at, past_parts, none_newer}
use Rattle.cluster_order.proofs.Messages.{length_before, happens_before, happened_before, Taking, delivery}
use Rattle.cluster_order.proofs.Accesses.{ev}
use Rattle.cluster_order.proofs.Lawful.{sent_by}
use Rattle.cluster_order.proofs.Adding.{AddTaken, add_other, add_for, served_at_home, serves_other}
use Rattle.cluster_order.proofs.Answering.{Request, Answer, DoneAt, ended_by, told_by, told_behind_answer, done_once, adding}
use Rattle.cluster_edges.proofs.Asking.{AsksFirst, AsksSome, asks_since, stepped_allowed, step_at}

module _ (cluster : Cluster) (turns : List WholeTurn) (lawful : IsLawful cluster turns) where
  abbrev course : Course
  course = course_of turns

  abbrev events : ℕ → log.Event
  events = ev cluster turns lawful

  abbrev past : ℕ → ℕ → Past
  past number position = own number (before course position)

  -- the node takes no old value between two positions
  abbrev NoAnswer : ℕ → ℕ → ℕ → Type 0
  NoAnswer number post position = (between : ℕ) → post < between → between < position → Answer cluster turns lawful number ForAdded between → ⊥

  -- Where no old value came since an add was asked for, its frame is the first.
  asks_there : (number post position : ℕ) (message : Msg) (frame : FrameId) (index word : ℕ) (addend : ℤ) (moved : Moved) → at course position ≡ Some moved
      → Happens course number post (Sent message) → message.body ≡ body.Add frame index word addend → post < position → NoAnswer number post position
      → AsksFirst frame word addend (stack_of (node_at cluster number) (past number position))
  asks_there number post position message frame index word addend moved found sent is less no_answer =
      subst (λ it. AsksFirst frame word addend (stack_of (node_at cluster number) it)) (sym parts)
      (asks_since (node_at cluster number) newer.0 (own number (before front post)) message frame index word addend
      (subst (AllAllowed (node_at cluster number)) parts
      (stepped_allowed cluster front (stepped_before cluster course (lawful_stepped cluster turns lawful) position) number))
      is none)
    where
      front : Course
      front = before course position

      here : Happens front number post (Sent message)
      here = happens_before course position moved found number post (Sent message) less sent

      newer : (newer : Past) × Stands number front newer (Sent message) (own number (before front post)) post
      newer = stands_at number front post (Sent message) here

      parts : own number front ≡ newer.0 ++ Sent message ∷ own number (before front post)
      parts = past_parts number front newer.0 (Sent message) (own number (before front post)) post newer.1

      not_such : (b : Bool) (between : ℕ) (other : Moved) → suc post ≤ between → at front between ≡ Some other → other.node ≡ number
          → ends ForAdded other.event ≡ b → b ≡ false
      not_such false between other behind there by such = refl
      not_such true between other behind there by such =
          let happened =
          happened_before course position moved found number between other.event (record { moved = other; is = there; by = by; event_is = refl }) in
          let inside = within front between other there in
          let count = length_before course position moved found in
          absurd (no_answer between (omega (arith, behind)) (omega (arith, inside, count))
          (ended_by cluster turns lawful number ForAdded between other.event happened such))

      none : list_any (ends ForAdded) newer.0 ≡ false
      none = none_newer number front newer.0 (Sent message) (own number (before front post)) post newer.1 (ends ForAdded)
          (λ between other behind there by. not_such (ends ForAdded other.event) between other behind there by refl)

  -- ---- where the old value comes

  pub asks_told : (number position : ℕ) (message : Msg) (old : ℤ) → Happens course number position (Took message) → message.body ≡ body.Added old
      → AsksSome (stack_of (node_at cluster number) (past number position))
  asks_told number position message old took is =
      let answer : Answer cluster turns lawful number ForAdded position = record { message = message; is = took; tells = ap tells_in is } in
      let due = told_by cluster turns lawful number ForAdded position answer in
      let said = adding due.1.message.body due.1.asks in (
        said.0,
        said.2,
        said.3,
        asks_there number due.0 position due.1.message said.0 said.1 said.2 said.3 took.moved took.is due.1.is said.4 due.2
            (λ between after earlier other.
            let found = told_behind_answer cluster turns lawful number ForAdded between due.0 due.1 after other in
            let same = done_once cluster turns lawful number due.0 position found.0 due.3 found.2 in
            absurd (omega (arith, earlier, same, found.1))),
      )

  -- ---- where the home does the add

  module _ (home position : ℕ) (frame : FrameId) (index word : ℕ) (old addend : ℤ)
      (here : Happens course home position (Did (item.Served frame index word old addend)))
      (owes : DoesOwed (node_at cluster home) (past home position) frame index word old addend) where
    taken : (taking : ℕ) × Serves events (memory_of cluster) home position taking × AddTaken cluster turns lawful home owes.add taking
    taken = add_for cluster turns lawful home position here.moved here.is owes.add owes.later owes.oldest

    asked : Taking cluster turns lawful home taken.2.post taken.0 owes.add
    asked = taken.2.taken

    sent : Happens course asked.sender taken.2.post (Sent owes.add)
    sent = happens cluster course taken.2.post asked.sender (Some asked.place) (Sent owes.add) asked.posted

    serving : serves (memory_of cluster) home (events position) ≡ true
    serving =
        let other : owes.add.sender ≢ home = add_other cluster turns lawful home owes.add taken.0 taken.2 in
        let not : eqb owes.add.sender home ≡ false = grind (arith, nat_tests) in
        served_at_home cluster turns lawful home position frame index word old addend here ∙ ap (serves_other home) owes.oldest ∙ rw not refl

    same_home : (first second post : ℕ) → log.Took first post ≡ log.Took second post → first ≡ second
    same_home first second post same = cc

    -- what tells this add comes later
    told_later : (told : ℕ) → DoneAt cluster turns lawful asked.sender taken.2.post told → position < told
    told_later told it = omega (arith, earlier, posted.3, same)
      where
        taking_same : it.taking ≡ taken.0
        taking_same = (delivery cluster turns lawful).once it.taking taken.0 it.home home taken.2.post it.took asked.event

        home_same : it.home ≡ home
        home_same = same_home it.home home taken.2.post (sym it.took ∙ ap events taking_same ∙ asked.event)

        does : ℕ → ℕ → Bool
        does number = λ (at : ℕ). serves (memory_of cluster) number (events at)

        its_serving : does it.home it.served ≡ true
        its_serving = owed.head-pushed (does it.home) (λ (at : ℕ). gives_added it.home (events at)) it.reply it.served it.tells

        its_serves : Serves events (memory_of cluster) home it.served taken.0
        its_serves =
            subst (λ number. Serves events (memory_of cluster) number it.served taken.0) home_same
            (subst (Serves events (memory_of cluster) it.home it.served) taking_same it.serves)

        same : it.served ≡ position
        same = owed.once (λ (at : ℕ). takes_add events home (events at)) (does home) it.served position taken.0
            (subst (λ number. does number it.served ≡ true) home_same its_serving) serving its_serves taken.1

        earlier : it.served < it.reply
        earlier = owed.head-before (does it.home) (λ (at : ℕ). gives_added it.home (events at)) it.reply it.served it.tells

        posted : (sender : ℕ) × (note : log.Note) × (events it.reply ≡ log.Post sender asked.sender note) × (it.reply < told)
        posted = (delivery cluster turns lawful).posted told asked.sender it.reply it.takes

    -- who asked for it is its sender
    sender_is : asked.sender ≡ owes.add.sender
    sender_is = sym (sent_by cluster turns lawful asked.sender taken.2.post owes.add sent)

    asks_then : AsksFirst frame word addend (stack_of (node_at cluster asked.sender) (past asked.sender position))
    asks_then =
        let earlier = asked.before in
        let served_later = owed.head-before (λ (at : ℕ). takes_add events home (events at))
        (λ (at : ℕ). serves (memory_of cluster) home (events at)) position taken.0 taken.1 in
        asks_there asked.sender taken.2.post position owes.add frame index word addend here.moved here.is sent owes.asked (omega (arith, earlier, served_later))
        (λ between after before_it other.
        let request : Request cluster turns lawful asked.sender ForAdded taken.2.post =
        record { message = owes.add; is = sent; asks = ap adds_in owes.asked } in
        let found = told_behind_answer cluster turns lawful asked.sender ForAdded between taken.2.post request after other in
        let more = told_later found.0 found.2 in
        absurd (omega (arith, more, found.1, before_it)))

    asker_within : asked.sender < cluster.config.nodes
    asker_within =
        subst (λ it. it < cluster.config.nodes) sent.by
        ((step_at cluster course (lawful_stepped cluster turns lawful) taken.2.post sent.moved sent.is).within)

    -- The sender of the add is a node that has that frame as its first, and the frame wants this very add.
    pub asks_served : (owes.add.sender < cluster.config.nodes)
        × AsksFirst frame word addend (stack_of (node_at cluster owes.add.sender) (past owes.add.sender position))
    asks_served =
        subst (λ number. (number < cluster.config.nodes) × AsksFirst frame word addend (stack_of (node_at cluster number) (past number position))) sender_is
        (asker_within, asks_then)
