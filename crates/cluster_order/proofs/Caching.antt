-- Every run keeps the rules for pages and adds, over positions.
use Rattle.std.proofs.Common.{◌≡◌, ◌≢◌, ◌⊎◌, inl, inr, ℕ, ℤ, ◌<◌, ◌≤◌, List, ◌∷◌, Option, Some, None, true, false, length, refl, sym, ◌∙◌, ap, subst, arith}
use Rattle.page_messages.specs.declared.closure.FrameId.{FrameId}
use Rattle.page_messages.specs.declared.log.PostAt.{PostAt}
use Rattle.page_messages.specs.declared.message.Msg.{Msg}
use Rattle.page_messages.specs.declared.message.Body.TheVariants as body
use Rattle.page_messages.specs.declared.log.LoggedAct.TheVariants as act
use Rattle.page_messages.specs.declared.log.Item.TheVariants as item
use Rattle.cluster_rules.specs.Turns.{WholeTurn, Event, Did, Sent, Took, Ended, Past}
use Rattle.cluster_rules.specs.Node.{Node, page_of, home_of}
use Rattle.cluster_rules.specs.Cache.{is_resident, cached}
use Rattle.cluster_rules.specs.Sendings.{IsQuiet, AllSettled}
use Rattle.cluster_rules.specs.Home.{stored, stored_page, owed_adds, replies_in}
use Rattle.cluster_rules.specs.Acting.{MayAddHere, Serves as DoesOwed}
use Rattle.cluster_rules.specs.Positions.{Moved, Course, course_of, own, at, before, Happens}
use Rattle.cluster_rules.specs.Runs.{Cluster, IsLawful, IsFree, node_at}
use Rattle.backer_order.specs.Log as log
use Rattle.backer_order.specs.Moments.{HasRead, IsTouch, Resident, Answers, Answered}
use Rattle.backer_order.specs.Rules.{IsItem, IsAlone, Access, Reads, Cleaned, Drops, HomeWord, Replying, Homes, Serving, Adds, Caching}
use Rattle.cluster_order.specs.Reading.{memory_of, words_of, parts_of, note_of, served_for, happens_to}
use Rattle.cluster_order.proofs.Events.{Found, happens, posted_is, dropped_is, loaded_is, own_part_is, acted_is, Acted, Served, fetch_is, page_is, ack_is, add_is, added_is, no_add}
use Rattle.cluster_order.proofs.Messages.{delivery, posted_event}
use Rattle.cluster_order.proofs.Accesses.{ev, event_there, wrote_there, read_there}
use Rattle.cluster_order.proofs.Residing.{resident_at, resided, residing, arrival_resident, staying, cached_last, cached_first}
use Rattle.cluster_order.proofs.Lawful.{act_allowed, tick_allowed, drop_allowed, take_up_allowed, load_allowed, own_part_allowed, served_allowed, sent_by, fetch_allowed, add_allowed, home_served}
use Rattle.cluster_order.proofs.Owing.{OwesFor, PageFor, AckFor, reply_for}
use Rattle.cluster_order.proofs.Adding.{add_other, add_for, old_for}
use Rattle.cluster_order.proofs.Homing.{reconciled, home_word, stored_words}
use Rattle.cluster_order.proofs.Answering.{answered}
use Rattle.cluster_order.proofs.Cleaning.{cleaning, cleaned}

module _ (cluster : Cluster) (turns : List WholeTurn) (lawful : IsLawful cluster turns) where
  abbrev events : ℕ → log.Event
  events = ev cluster turns lawful

  abbrev course : Course
  course = course_of turns

  abbrev node : ℕ → Node
  node number = node_at cluster number

  abbrev past : ℕ → ℕ → Past
  past number position = own number (before course position)

  -- ---- the cache

  -- a page that is resident by the rules is so at positions
  in_cache : (number position page : ℕ) (event : Event) → Happens course number position event → is_resident page (past number position) ≡ true
      → (arrival : ℕ) × (words : ℕ → ℤ) × Resident events number page position arrival words
  in_cache number position page event happens is =
      let it = resident_at cluster turns lawful position (happens.moved) (happens.is) number page is in
      (it.1, words_of cluster (it.0), residing cluster turns lawful position (happens.moved) (happens.is) number page (it.1) (it.0) (it.2))

  -- and one that is absent is not
  not_in_cache : (number position page : ℕ) (event : Event) → Happens course number position event → is_resident page (past number position) ≡ false
      → (arrival : ℕ) (words : ℕ → ℤ) → Resident events number page position arrival words → ⊥
  not_in_cache number position page event happens absent arrival words resident =
      let it = resided cluster turns lawful position (happens.moved) (happens.is) number page arrival words resident in
      let is = arrival_resident page (past number position) (it.0) (it.1.past) in
      absurd (cc)

  touched : (number word position : ℕ) → IsTouch events number word position
      → (arrival : ℕ) × (words : ℕ → ℤ) × Resident events number (page_of (node 0) word) position arrival words
  touched number word position (inl (value, wrote)) =
      let it = wrote_there cluster turns lawful number word position value wrote in
      let may = act_allowed cluster turns lawful number position (it.0) (it.1) (act.Write word value) (it.2) in
      in_cache number position (page_of (node 0) word) _ (it.2) (may.1.makes.is_in)
  touched number word position (inr (value, read)) =
      let it = read_there cluster turns lawful number word position value read in
      let may = act_allowed cluster turns lawful number position (it.0) (it.1) (act.Read word value) (it.2) in
      in_cache number position (page_of (node 0) word) _ (it.2) (may.1.makes.is_in)

  -- what a node does by itself it does where it waits for nothing
  record OwnItem (number position : ℕ) : Type 0 where
    pub moved : Moved
    pub found : at course position ≡ Some moved
    pub free : IsFree (past number position)

  own_item_of : (number position : ℕ) (moved : Moved) → at course position ≡ Some moved → (event : Event) → moved.event ≡ event
      → IsItem (memory_of cluster) number (happens_to cluster (before course position) moved.node moved.message event) → OwnItem number position
  own_item_of number position moved found (Did (item.Act frame index (act.Read word value))) same mine =
      record {
        moved = moved;
        found = found;
        free = subst (λ it. IsFree (past it position)) mine ((act_allowed cluster turns lawful moved.node position frame
            index (act.Read word value) (record { moved = moved; is = found; by = refl; event_is = same })).0);
      }
  own_item_of number position moved found (Did (item.Act frame index (act.Write word value))) same mine =
      record {
        moved = moved;
        found = found;
        free = subst (λ it. IsFree (past it position)) mine ((act_allowed cluster turns lawful moved.node position frame
            index (act.Write word value) (record { moved = moved; is = found; by = refl; event_is = same })).0);
      }
  own_item_of number position moved found (Did (item.Act frame index (act.Print value))) same mine =
      record {
        moved = moved;
        found = found;
        free = subst (λ it. IsFree (past it position)) mine ((act_allowed cluster turns lawful moved.node position frame
            index (act.Print value) (record { moved = moved; is = found; by = refl; event_is = same })).0);
      }
  own_item_of number position moved found (Did (item.Act frame index (act.Spawn child procedure arguments))) same mine =
      record {
        moved = moved;
        found = found;
        free = subst (λ it. IsFree (past it position)) mine ((act_allowed cluster turns lawful moved.node position frame
            index (act.Spawn child procedure arguments) (record { moved = moved; is = found; by = refl; event_is = same })).0);
      }
  own_item_of number position moved found (Did (item.Act frame index act.Sync)) same mine =
      record {
        moved = moved;
        found = found;
        free = subst (λ it. IsFree (past it position)) mine
            ((act_allowed cluster turns lawful moved.node position frame index act.Sync (record { moved = moved; is = found; by = refl; event_is = same })).0);
      }
  own_item_of number position moved found (Did (item.Tick frame)) same mine =
      record {
        moved = moved;
        found = found;
        free = subst (λ it. IsFree (past it position)) mine
            ((tick_allowed cluster turns lawful moved.node position frame (record { moved = moved; is = found; by = refl; event_is = same })).0);
      }
  own_item_of number position moved found (Did (item.Drop page)) same mine =
      record {
        moved = moved;
        found = found;
        free = subst (λ it. IsFree (past it position)) mine
            ((drop_allowed cluster turns lawful moved.node position page (record { moved = moved; is = found; by = refl; event_is = same })).0);
      }
  own_item_of number position moved found (Did (item.TakeUp frame)) same mine =
      record {
        moved = moved;
        found = found;
        free = subst (λ it. IsFree (past it position)) mine
            ((take_up_allowed cluster turns lawful moved.node position frame (record { moved = moved; is = found; by = refl; event_is = same })).0);
      }
  own_item_of number position moved found (Did (item.OwnFetch page words)) same mine =
      record {
        moved = moved;
        found = found;
        free = subst (λ it. IsFree (past it position)) mine
            ((load_allowed cluster turns lawful moved.node position page words (record { moved = moved; is = found; by = refl; event_is = same })).0);
      }
  own_item_of number position moved found (Did (item.OwnReconcile part)) same mine =
      record {
        moved = moved;
        found = found;
        free = subst (λ it. IsFree (past it position)) mine
            ((own_part_allowed cluster turns lawful moved.node position part (record { moved = moved; is = found; by = refl; event_is = same })).0);
      }
  own_item_of number position moved found (Did (item.Served frame index word old addend)) same (for, at_home) =
      on (served_allowed cluster turns lawful moved.node position frame index word old addend here)
    where
      here : Happens course moved.node position (Did (item.Served frame index word old addend))
      here = record { moved = moved; is = found; by = refl; event_is = same }

      mine : moved.node ≡ number
      mine = sym (home_served cluster turns lawful moved.node position frame index word old addend here) ∙ at_home

      on : DoesOwed (node moved.node) (past moved.node position) frame index word old addend
          ⊎ (IsFree (past moved.node position) × MayAddHere (node moved.node) (past moved.node position) frame index word old addend)
          → OwnItem number position
      on (inr own_add) = record { moved = moved; found = found; free = subst (λ it. IsFree (past it position)) mine (own_add.0) }
      on (inl serves) =
          let taken = add_for cluster turns lawful moved.node position moved found (serves.add) (serves.later) (serves.oldest) in
          let other = add_other cluster turns lawful moved.node (serves.add) (taken.0) (taken.2) in
          let sender : served_for moved.node (owed_adds (past moved.node position)) ≡ serves.add.sender = ap (served_for moved.node) (serves.oldest) in
          absurd (other (sym sender ∙ for ∙ sym mine))
  own_item_of number position moved found (Sent message) same none = absurd none
  own_item_of number position moved found (Took message) same none = absurd none
  own_item_of number position moved found (Ended end) same none = absurd none

  own_item : (number position : ℕ) → IsItem (memory_of cluster) number (events position) → OwnItem number position
  own_item number position is = on (at course position) refl
    where
      on : (option : Option Moved) → at course position ≡ option → OwnItem number position
      on None none =
          let empty : events position ≡ log.Nothing = rw none refl in
          let nothing : IsItem (memory_of cluster) number log.Nothing = subst (IsItem (memory_of cluster) number) empty is in absurd nothing
      on (Some moved) found =
          own_item_of number position moved found moved.event refl
          (subst (IsItem (memory_of cluster) number)
          (event_there cluster turns lawful moved.node position moved.event (record { moved = moved; is = found; by = refl; event_is = refl })) is)

  -- what was posted is answered where the node waits for nothing
  answered_there : (number position post receiver : ℕ) (note : log.Note) (moved : Moved) → at course position ≡ Some moved → IsQuiet (past number position)
      → post < position
      → events post ≡ log.Post number receiver note → Answered events (memory_of cluster) number post position note
  answered_there number position post receiver note moved found quiet less posted =
      let it = posted_is cluster course post number receiver note posted in
      subst (Answered events (memory_of cluster) number post position) (it.4)
      (answered cluster turns lawful number position post moved (it.1) found quiet (happens cluster course post number (it.0) (Sent (it.1)) (it.2)) less)

  alone_there : (number position post receiver other : ℕ) (note later : log.Note) → events position ≡ log.Post number other later → IsAlone later
      → post < position
      → events post ≡ log.Post number receiver note → Answered events (memory_of cluster) number post position note
  alone_there number position post receiver other note (log.Fetch page) is alone less posted =
      let it = posted_is cluster course position number other (log.Fetch page) is in
      let sent = happens cluster course position number (it.0) (Sent (it.1)) (it.2) in
      let may =
      fetch_allowed cluster turns lawful number position (it.1) page sent (fetch_is cluster number (before course position) page (it.1.body) (it.4)) in
      answered_there number position post receiver note (sent.moved) (sent.is) (may.quiet) less posted
  alone_there number position post receiver other note (log.AddTo frame word addend) is alone less posted =
      let it = posted_is cluster course position number other (log.AddTo frame word addend) is in
      let sent = happens cluster course position number (it.0) (Sent (it.1)) (it.2) in
      let says = add_is cluster number (before course position) frame word addend (it.1.body) (it.4) in
      let may = add_allowed cluster turns lawful number position (it.1) frame (says.0) word addend sent (says.1) in
      answered_there number position post receiver note (sent.moved) (sent.is) (may.quiet) less posted
  alone_there number position post receiver other note (log.Page page words) is alone less posted = absurd alone
  alone_there number position post receiver other note (log.Reconcile parts) is alone less posted = absurd alone
  alone_there number position post receiver other note log.Ack is alone less posted = absurd alone
  alone_there number position post receiver other note log.Ask is alone less posted = absurd alone
  alone_there number position post receiver other note (log.Grant frame) is alone less posted = absurd alone
  alone_there number position post receiver other note log.Refuse is alone less posted = absurd alone
  alone_there number position post receiver other note (log.Done parent child) is alone less posted = absurd alone
  alone_there number position post receiver other note (log.Park frame) is alone less posted = absurd alone
  alone_there number position post receiver other note (log.Added old) is alone less posted = absurd alone

  -- what an add at a position is: served at the home of its word
  pub added_there : (number : ℕ) (frame : FrameId) (word : ℕ) (old addend : ℤ) (position : ℕ)
      → events position ≡ log.Acts number frame (log.Add word old addend)
      → (home index : ℕ) × Happens course home position (Did (item.Served frame index word old addend))
      × (served_for home (owed_adds (past home position)) ≡ number)
  added_there number frame word old addend position is = on (acted_is cluster course position number frame (log.Add word old addend) is)
    where
      on : Acted cluster course position number frame (log.Add word old addend) ⊎ Served cluster course position number frame (log.Add word old addend)
          → (home index : ℕ) × Happens course home position (Did (item.Served frame index word old addend))
          × (served_for home (owed_adds (past home position)) ≡ number)
      on (inl it) = absurd (no_add word old addend (it.act) (it.act_is))
      on (inr it) =
          let same = it.act_is in
          let word_is : it.word ≡ word = cc in
          let old_is : it.old ≡ old = cc in
          let addend_is : it.addend ≡ addend = cc in (
            it.home,
            it.index,
            subst (λ one. Happens course (it.home) position (Did (item.Served frame (it.index) word old one))) addend_is
                (subst (λ one. Happens course (it.home) position (Did (item.Served frame (it.index) word one (it.addend)))) old_is
                (subst (λ one. Happens course (it.home) position (Did (item.Served frame (it.index) one (it.old) (it.addend)))) word_is (it.is))),
            it.for,
          )

  access : Access events (memory_of cluster)
  access = record {
    resident = touched;
    item = λ number position post receiver note is less posted.
        let it = own_item number position is in
        answered_there number position post receiver note (it.moved) (it.found) (it.free.quiet) less posted;
    alone = alone_there;
    absent = λ number page post home arrival words is resident.
        let it = posted_is cluster course post number home (log.Fetch page) is in
        let sent = happens cluster course post number (it.0) (Sent (it.1)) (it.2) in
        let may = fetch_allowed cluster turns lawful number post (it.1) page sent (fetch_is cluster number (before course post) page (it.1.body) (it.4)) in
        not_in_cache number post page (Sent (it.1)) sent (may.bring.wanted.absent) arrival words resident;
    own_absent = λ number page position arrival found words is resident.
        let it = loaded_is cluster course position number page found is in
        let may = load_allowed cluster turns lawful number position page (it.0) (it.1) in
        not_in_cache number position page (Did (item.OwnFetch page (it.0))) (it.1) (may.1.bring.wanted.absent) arrival words resident;
    add_absent = λ number frame word addend post home arrival words is resident.
        let it = posted_is cluster course post number home (log.AddTo frame word addend) is in
        let sent = happens cluster course post number (it.0) (Sent (it.1)) (it.2) in
        let says = add_is cluster number (before course post) frame word addend (it.1.body) (it.4) in
        let may = add_allowed cluster turns lawful number post (it.1) frame (says.0) word addend sent (says.1) in
        not_in_cache number post (page_of (node 0) word) (Sent (it.1)) sent (may.add.absent) arrival words resident;
    own_add_absent =
        λ number frame word old addend position arrival words is at_home resident.
        own_add_absent number frame word old addend position arrival words is at_home resident;
  }
    where
      own_add_absent : (number : ℕ) (frame : FrameId) (word : ℕ) (old addend : ℤ) (position arrival : ℕ) (words : ℕ → ℤ)
          → events position ≡ log.Acts number frame (log.Add word old addend)
          → home_of (node 0) (page_of (node 0) word) ≡ number → Resident events number (page_of (node 0) word) position arrival words → ⊥
      own_add_absent number frame word old addend position arrival words is at_home resident =
          on (served_allowed cluster turns lawful (it.0) position frame (it.1) word old addend (it.2))
        where
          it : (home index : ℕ) × Happens course home position (Did (item.Served frame index word old addend))
              × (served_for home (owed_adds (past home position)) ≡ number)
          it = added_there number frame word old addend position is

          mine : it.0 ≡ number
          mine = sym (home_served cluster turns lawful (it.0) position frame (it.1) word old addend (it.2)) ∙ at_home

          on : DoesOwed (node (it.0)) (past (it.0) position) frame (it.1) word old addend
              ⊎ (IsFree (past (it.0) position) × MayAddHere (node (it.0)) (past (it.0) position) frame (it.1) word old addend) → ⊥
          on (inr own_add) =
              not_in_cache (it.0) position (page_of (node 0) word) (Did (item.Served frame (it.1) word old addend)) (it.2) (own_add.1.add.absent) arrival words
              (subst (λ one. Resident events one (page_of (node 0) word) position arrival words) (sym mine) resident)
          on (inl serves) =
              let taken = add_for cluster turns lawful (it.0) position (it.2.moved) (it.2.is) (serves.add) (serves.later) (serves.oldest) in
              let other = add_other cluster turns lawful (it.0) (serves.add) (taken.0) (taken.2) in
              let sender : served_for (it.0) (owed_adds (past (it.0) position)) ≡ serves.add.sender = ap (served_for (it.0)) (serves.oldest) in
              other (sym sender ∙ it.3 ∙ sym mine)

  read_value : (number word position : ℕ) (value : ℤ) → (read : HasRead events number word position value)
      → (moved : Moved) × (at course position ≡ Some moved) × (value ≡ cached (node number) word (past number position))
  read_value number word position value read =
      let it = read_there cluster turns lawful number word position value read in
      let may = act_allowed cluster turns lawful number position (it.0) (it.1) (act.Read word value) (it.2) in
      (it.2.moved, it.2.is, may.1.makes.value_is)

  reads : Reads events (memory_of cluster)
  reads = record {
    own = λ number word position value arrival write written words read resident last.
        let it = read_value number word position value read in
        let stay = resided cluster turns lawful position (it.0) (it.1) number (page_of (node 0) word) arrival words resident in
        it.2 ∙ cached_last cluster turns lawful position (it.0) (it.1) number word arrival write written (stay.0) (stay.1) last;
    page = λ number word position value arrival words read resident none.
        let it = read_value number word position value read in
        let stay = resided cluster turns lawful position (it.0) (it.1) number (page_of (node 0) word) arrival words resident in
        it.2 ∙ cached_first cluster turns lawful position (it.0) (it.1) number word arrival (stay.0) (stay.1) none ∙ sym (ap (λ all. all word) (stay.2));
  }

  drops : Drops events (memory_of cluster)
  drops number page position is =
      let happened = dropped_is cluster course position number page is in
      let may = drop_allowed cluster turns lawful number position page happened in
      let drop = may.3 in
      let it = resident_at cluster turns lawful position (happened.moved) (happened.is) number page (drop.is_in) in
      let since = it.2 in
      record {
        arrival = it.1;
        found = words_of cluster (it.0);
        resident = residing cluster turns lawful position (happened.moved) (happened.is) number page (it.1) (it.0) since;
        clean = λ word write same wrote after less.
            subst (λ its. Cleaned events number its word write position) same
            (cleaned cluster turns lawful number word write position (happened.moved) (happened.is) (since.there.later)
            (since.there.moved ∷ before (before course position) (it.1)) (since.there.parts)
            (subst (AllSettled (node number) word) (staying cluster turns lawful position (happened.moved) (happened.is) number page (it.1) (it.0) since)
            (drop.clean word same))
            wrote (start (before (before course position) (it.1)) (since.there.moved) (it.1) write (since.there.count) after) less);
      }
    where
      start : (front : Course) (one : Moved) (arrival write : ℕ) → length front ≡ arrival → arrival < write → length (one ∷ front) ≤ write
      start front one arrival write count after = omega (arith, count, after)

  homes : Homes events (memory_of cluster)
  homes = record {
    fetch_to = λ number receiver page post is.
        let it = posted_is cluster course post number receiver (log.Fetch page) is in
        let sent = happens cluster course post number (it.0) (Sent (it.1)) (it.2) in
        let may = fetch_allowed cluster turns lawful number post (it.1) page sent (fetch_is cluster number (before course post) page (it.1.body) (it.4)) in
        (sym (it.3) ∙ may.bring.at_home, λ same. may.other (it.3 ∙ same));
    part_to = λ number receiver post part parts is has.
        let it = reconciled cluster turns lawful number receiver post parts part is has in
        (it.sending.at_home ∙ ap (home_of (node 0)) (ap (λ one. one.page) (it.among.is)), it.other);
    own_part = λ number position part is.
        let it = own_part_is cluster course position number part is in
        let may = own_part_allowed cluster turns lawful number position (it.0) (it.1) in
        sym (may.1.at_home ∙ ap (home_of (node 0)) (ap (λ one. one.page) (it.2)));
    own_fetch = λ number page position words is.
        let it = loaded_is cluster course position number page words is in
        let may = load_allowed cluster turns lawful number position page (it.0) (it.1) in (
          sym (may.1.bring.at_home),
          λ word same.
              let value : words word ≡ stored (node number) word (past number position) =
              ap (λ all. all word) (it.2) ∙ ap (λ list. words_of cluster list word) (may.1.words_are)
              ∙ stored_words cluster number page word (past number position) same in
              subst (HomeWord events (memory_of cluster) word position) (sym value)
              (home_word cluster turns lawful position (it.1.moved) (it.1.is) number word (ap (home_of (node 0)) same ∙ sym (may.1.bring.at_home))),
        );
    page = page_reply;
    ack = ack_reply;
  }
    where
      page_reply : (home number page reply : ℕ) (words : ℕ → ℤ) → events reply ≡ log.Post home number (log.Page page words)
          → (taking post : ℕ) × Replying events home reply post taking × (events post ≡ log.Post number home (log.Fetch page))
          × ((word : ℕ) → page_of (node 0) word ≡ page → HomeWord events (memory_of cluster) word taking (words word))
      page_reply home number page reply words is = on (due.2)
        where
          it : (place : Option PostAt) × (message : Msg) × Found cluster course reply home place (Sent message) × (message.receiver ≡ number)
              × (note_of cluster home (before course reply) message.body ≡ log.Page page words)
          it = posted_is cluster course reply home number (log.Page page words) is

          says : (list : List ℤ) × (it.1.body ≡ body.Page page list) × (words ≡ words_of cluster list)
          says = page_is cluster home (before course reply) page words (it.1.body) (it.4)

          due : (taking : ℕ) × Answers events home reply taking × OwesFor cluster turns lawful home (it.1) taking
          due = reply_for cluster turns lawful home reply (it.1) (happens cluster course reply home (it.0) (Sent (it.1)) (it.2)) (ap replies_in (says.1))

          on : OwesFor cluster turns lawful home (it.1) (due.0)
              → (taking post : ℕ) × Replying events home reply post taking × (events post ≡ log.Post number home (log.Fetch page))
              × ((word : ℕ) → page_of (node 0) word ≡ page → HomeWord events (memory_of cluster) word taking (words word))
          on (AckFor post parts message asked reconciles same) =
              let body_is : body.Ack ≡ body.Page page (says.0) = sym (ap (λ one. one.body) same) ∙ says.1 in absurd (cc)
          on (PageFor post its_page message asked fetches same) =
              let body_is : body.Page its_page (stored_page (node home) its_page (past home (due.0))) ≡ body.Page page (says.0) =
              sym (ap (λ one. one.body) same) ∙ says.1 in
              let page_same : its_page ≡ page = cc in
              let list_same : stored_page (node home) its_page (past home (due.0)) ≡ says.0 = cc in
              let sender : asked.sender ≡ number =
              sym (sent_by cluster turns lawful (asked.sender) post message (happens cluster course post (asked.sender) (Some (asked.place)) (Sent message)
              (asked.posted))) ∙ sym (ap (λ one. one.receiver) same) ∙ it.3 in
              let posted = posted_event cluster turns lawful home post (due.0) message asked
              ∙ ap (λ said. log.Post (asked.sender) home (note_of cluster (asked.sender) (before course post) said)) fetches
              ∙ ap (λ one. log.Post one home (log.Fetch its_page)) sender ∙ ap (λ one. log.Post number home (log.Fetch one)) page_same in
              let may = fetch_allowed cluster turns lawful (asked.sender) post message its_page
              (happens cluster course post (asked.sender) (Some (asked.place)) (Sent message) (asked.posted)) fetches in
              let home_is : home ≡ home_of (node 0) its_page = sym (asked.to) ∙ may.bring.at_home in (
                due.0,
                post,
                record { answers = due.1; took = asked.event },
                posted,
                λ word same_page.
                    let value : words word ≡ stored (node home) word (past home (due.0)) =
                    ap (λ all. all word) (says.2) ∙ ap (λ list. words_of cluster list word) (sym list_same)
                    ∙ stored_words cluster home its_page word (past home (due.0)) (same_page ∙ sym page_same) in
                    subst (HomeWord events (memory_of cluster) word (due.0)) (sym value)
                    (home_word cluster turns lawful (due.0) (asked.taken.moved) (asked.taken.is) home word
                    (ap (home_of (node 0)) (same_page ∙ sym page_same) ∙ sym home_is)),
              )

      ack_reply : (home number reply : ℕ) → events reply ≡ log.Post home number log.Ack
          → (taking post : ℕ) × (parts : List log.Part) × Replying events home reply post taking × (events post ≡ log.Post number home (log.Reconcile parts))
      ack_reply home number reply is = on (due.2)
        where
          it : (place : Option PostAt) × (message : Msg) × Found cluster course reply home place (Sent message) × (message.receiver ≡ number)
              × (note_of cluster home (before course reply) message.body ≡ log.Ack)
          it = posted_is cluster course reply home number log.Ack is

          says : it.1.body ≡ body.Ack
          says = ack_is cluster home (before course reply) (it.1.body) (it.4)

          due : (taking : ℕ) × Answers events home reply taking × OwesFor cluster turns lawful home (it.1) taking
          due = reply_for cluster turns lawful home reply (it.1) (happens cluster course reply home (it.0) (Sent (it.1)) (it.2)) (ap replies_in says)

          on : OwesFor cluster turns lawful home (it.1) (due.0) → (taking post : ℕ) × (parts : List log.Part) × Replying events home reply post taking
              × (events post ≡ log.Post number home (log.Reconcile parts))
          on (PageFor post its_page message asked fetches same) =
              let body_is : body.Page its_page (stored_page (node home) its_page (past home (due.0))) ≡ body.Ack =
              sym (ap (λ one. one.body) same) ∙ says in absurd (cc)
          on (AckFor post parts message asked reconciles same) =
              let sender : asked.sender ≡ number =
              sym (sent_by cluster turns lawful (asked.sender) post message (happens cluster course post (asked.sender) (Some (asked.place)) (Sent message)
              (asked.posted))) ∙ sym (ap (λ one. one.receiver) same) ∙ it.3 in
              let posted = posted_event cluster turns lawful home post (due.0) message asked
              ∙ ap (λ said. log.Post (asked.sender) home (note_of cluster (asked.sender) (before course post) said)) reconciles
              ∙ ap (λ one. log.Post one home (log.Reconcile (parts_of cluster parts))) sender in
              (due.0, post, parts_of cluster parts, record { answers = due.1; took = asked.event }, posted)

  adds : Adds events (memory_of cluster)
  adds = record {
    add_to = λ number receiver frame word addend post is.
        let it = posted_is cluster course post number receiver (log.AddTo frame word addend) is in
        let sent = happens cluster course post number (it.0) (Sent (it.1)) (it.2) in
        let says = add_is cluster number (before course post) frame word addend (it.1.body) (it.4) in
        let may = add_allowed cluster turns lawful number post (it.1) frame (says.0) word addend sent (says.1) in
        (sym (it.3) ∙ may.add.at_home, λ same. may.other (it.3 ∙ same));
    served = λ number frame word old addend position is other. add_served number frame word old addend position is other;
    old = λ number frame word old addend position is. add_old number frame word old addend position is;
    added = λ home number value reply is.
        let it = posted_is cluster course reply home number (log.Added value) is in
        let sent = happens cluster course reply home (it.0) (Sent (it.1)) (it.2) in
        let told = old_for cluster turns lawful home reply (it.1) value sent (added_is cluster home (before course reply) value (it.1.body) (it.4)) in
        let due = told.2 in
        let receiver_is : it.1.receiver ≡ due.add.sender = ap (λ one. one.receiver) (due.due_is) in
        let body_is : body.Added value ≡ body.Added (due.old) = ap (λ one. one.body) (due.due_is) in
        let value_is : value ≡ due.old = cc in (
          told.0,
          due.frame,
          due.word,
          due.addend,
          told.1,
          due.served ∙ ap (λ one. log.Acts one (due.frame) (log.Add (due.word) (due.old) (due.addend))) (sym receiver_is ∙ it.3)
              ∙ ap (λ one. log.Acts number (due.frame) (log.Add (due.word) one (due.addend))) (sym value_is),
        );
  }
    where
      add_served : (number : ℕ) (frame : FrameId) (word : ℕ) (old addend : ℤ) (position : ℕ) → events position ≡ log.Acts number frame (log.Add word old addend)
          → home_of (node 0) (page_of (node 0) word) ≢ number
          → Serving events (memory_of cluster) (home_of (node 0) (page_of (node 0) word)) number frame word addend position
      add_served number frame word old addend position is other = on (served_allowed cluster turns lawful (it.0) position frame (it.1) word old addend (it.2))
        where
          it : (home index : ℕ) × Happens course home position (Did (item.Served frame index word old addend))
              × (served_for home (owed_adds (past home position)) ≡ number)
          it = added_there number frame word old addend position is

          home_is : home_of (node 0) (page_of (node 0) word) ≡ it.0
          home_is = home_served cluster turns lawful (it.0) position frame (it.1) word old addend (it.2)

          on : DoesOwed (node (it.0)) (past (it.0) position) frame (it.1) word old addend
              ⊎ (IsFree (past (it.0) position) × MayAddHere (node (it.0)) (past (it.0) position) frame (it.1) word old addend)
              → Serving events (memory_of cluster) (home_of (node 0) (page_of (node 0) word)) number frame word addend position
          on (inr own_add) =
              let own : served_for (it.0) (owed_adds (past (it.0) position)) ≡ it.0 = ap (served_for (it.0)) (own_add.0.none_owed) in
              absurd (other (home_is ∙ sym own ∙ it.3))
          on (inl serves) =
              let taken = add_for cluster turns lawful (it.0) position (it.2.moved) (it.2.is) (serves.add) (serves.later) (serves.oldest) in
              let asked = taken.2.taken in
              let sender_add : served_for (it.0) (owed_adds (past (it.0) position)) ≡ serves.add.sender = ap (served_for (it.0)) (serves.oldest) in
              let sender : asked.sender ≡ number =
              sym (sent_by cluster turns lawful (asked.sender) (taken.2.post) (serves.add)
              (happens cluster course (taken.2.post) (asked.sender) (Some (asked.place)) (Sent (serves.add)) (asked.posted))) ∙ sym sender_add ∙ it.3 in
              let posted = posted_event cluster turns lawful (it.0) (taken.2.post) (taken.0) (serves.add) asked
              ∙ ap (λ said. log.Post (asked.sender) (it.0) (note_of cluster (asked.sender) (before course (taken.2.post)) said)) (serves.asked)
              ∙ ap (λ one. log.Post one (it.0) (log.AddTo frame word addend)) sender in
              subst (λ home. Serving events (memory_of cluster) home number frame word addend position) (sym home_is)
              (record { taking = taken.0; post = taken.2.post; serves = taken.1; took = asked.event; posted = posted })

      add_old : (number : ℕ) (frame : FrameId) (word : ℕ) (old addend : ℤ) (position : ℕ) → events position ≡ log.Acts number frame (log.Add word old addend)
          → HomeWord events (memory_of cluster) word position old
      add_old number frame word old addend position is =
          subst (HomeWord events (memory_of cluster) word position)
          (sym (on (served_allowed cluster turns lawful (it.0) position frame (it.1) word old addend (it.2))))
          (home_word cluster turns lawful position (it.2.moved) (it.2.is) (it.0) word
          (home_served cluster turns lawful (it.0) position frame (it.1) word old addend (it.2)))
        where
          it : (home index : ℕ) × Happens course home position (Did (item.Served frame index word old addend))
              × (served_for home (owed_adds (past home position)) ≡ number)
          it = added_there number frame word old addend position is

          on : DoesOwed (node (it.0)) (past (it.0) position) frame (it.1) word old addend
              ⊎ (IsFree (past (it.0) position) × MayAddHere (node (it.0)) (past (it.0) position) frame (it.1) word old addend)
              → old ≡ stored (node (it.0)) word (past (it.0) position)
          on (inl serves) = serves.old_is
          on (inr own_add) = own_add.1.old_is

  -- Every run keeps BACKER's rules for pages and adds.
  pub keeps_the_page_rules : Caching events (memory_of cluster)
  keeps_the_page_rules = record {
    delivery = delivery cluster turns lawful;
    access = access;
    reads = reads;
    cleans = cleaning cluster turns lawful;
    drops = drops;
    homes = homes;
    adds = adds;
  }
