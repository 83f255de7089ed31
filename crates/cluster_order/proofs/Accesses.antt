-- What the tests on events say, as what stands at positions.
use Rattle.std.proofs.Common.{◌≡◌, ◌⊎◌, inl, inr, ℕ, ℤ, List, Option, Some, None, Bool, true, false, cond, eqb, refl, sym, ◌∙◌, ap, subst, arith, is_some}
use Rattle.std.proofs.lemmas.Bool.Decides.{nat_tests}
use Rattle.page_messages.specs.declared.closure.FrameId.{FrameId}
use Rattle.page_messages.specs.declared.message.Msg.{Msg}
use Rattle.page_messages.specs.declared.message.Body.{Body}
use Rattle.page_messages.specs.declared.message.Body.TheVariants as body
use Rattle.page_messages.specs.declared.log.LoggedAct.TheVariants as act
use Rattle.page_messages.specs.declared.log.Item.TheVariants as item
use Rattle.cluster_rules.specs.Turns.{WholeTurn, Event, Did, Sent, Took, Ended}
use Rattle.cluster_rules.specs.Cache.{brings, arrives, drops, written, writes}
use Rattle.cluster_rules.specs.Positions.{course_of, before, Happens}
use Rattle.cluster_rules.specs.Runs.{Cluster, IsLawful}
use Rattle.cluster_rules.proofs.Backward.{gives_some}
use Rattle.backer_order.specs.Log as log
use Rattle.backer_order.specs.Moments.{Wrote, IsWrite, HasRead, Arrives, ByPage, ByOwn, IsArrival}
use Rattle.cluster_order.specs.Reading.{words_of, note_of, taken_from, happens_to, events_of}
use Rattle.cluster_order.proofs.Events.{Found, happens, event_at, posted_is, dropped_is, loaded_is, acted_is, Acted, Served, page_is, write_is, read_is}
use Rattle.cluster_order.proofs.Messages.{taking_at, taking_found, posted_event, taken_event, same_message}
use Rattle.cluster_rules.proofs.Testing.{own_number}

-- ---- which events are such

same_number : (number other : ℕ) → eqb number other ≡ true → number ≡ other
same_number number other is = grind (arith, nat_tests)

pub drop_in : (g : ℕ) (event : Event) → drops g event ≡ true → event ≡ Did (item.Drop g)
drop_in g (Did (item.Act frame index act)) is = absurd (cc)
drop_in g (Did (item.Tick frame)) is = absurd (cc)
drop_in g (Did (item.Drop page)) is = ap (λ it. Did (item.Drop it)) (same_number page g is)
drop_in g (Did (item.TakeUp frame)) is = absurd (cc)
drop_in g (Did (item.OwnFetch page words)) is = absurd (cc)
drop_in g (Did (item.OwnReconcile part)) is = absurd (cc)
drop_in g (Did (item.Served frame index word old addend)) is = absurd (cc)
drop_in g (Sent message) is = absurd (cc)
drop_in g (Took message) is = absurd (cc)
drop_in g (Ended end) is = absurd (cc)

some_on : {A : Type 0} (b : Bool) (value other : A) → (if_so : Option A) → if_so ≡ cond b (Some value) None → if_so ≡ Some other → (b ≡ true) × (value ≡ other)
some_on true value other if_so is some = let both : Some value ≡ Some other = sym is ∙ some in let same : value ≡ other = cc in (refl, same)
some_on false value other if_so is some = let both : None ≡ Some other = sym is ∙ some in absurd (cc)

pub write_in : (w : ℕ) (v : ℤ) (event : Event) → written w event ≡ Some v
    → (frame : FrameId) × (index : ℕ) × (event ≡ Did (item.Act frame index (act.Write w v)))
write_in w v (Did (item.Act frame index (act.Read word value))) is = absurd (cc)
write_in w v (Did (item.Act frame index (act.Write word value))) is =
    let both = some_on (eqb word w) value v (cond (eqb word w) (Some value) None) refl is in (
      frame,
      index,
      ap (λ it. Did (item.Act frame index (act.Write it value))) (same_number word w both.0)
          ∙ ap (λ it. Did (item.Act frame index (act.Write w it))) both.1,
    )
write_in w v (Did (item.Act frame index (act.Print value))) is = absurd (cc)
write_in w v (Did (item.Act frame index (act.Spawn child procedure arguments))) is = absurd (cc)
write_in w v (Did (item.Act frame index act.Sync)) is = absurd (cc)
write_in w v (Did (item.Tick frame)) is = absurd (cc)
write_in w v (Did (item.Drop page)) is = absurd (cc)
write_in w v (Did (item.TakeUp frame)) is = absurd (cc)
write_in w v (Did (item.OwnFetch page words)) is = absurd (cc)
write_in w v (Did (item.OwnReconcile part)) is = absurd (cc)
write_in w v (Did (item.Served frame index word old addend)) is = absurd (cc)
write_in w v (Sent message) is = absurd (cc)
write_in w v (Took message) is = absurd (cc)
write_in w v (Ended end) is = absurd (cc)

page_taken : (g : ℕ) (list : List ℤ) (message : Msg) (said : Body) → message.body ≡ said → brings g (Took message) ≡ Some list → message.body ≡ body.Page g list
page_taken g list message (body.Fetch page) says is =
    let none : None ≡ Some list = subst (λ it. (brings g (Took (record message { body = it }))) ≡ Some list) says is in absurd (cc)
page_taken g list message (body.Page page words) says is =
    let here : cond (eqb page g) (Some words) None ≡ Some list = subst (λ it. (brings g (Took (record message { body = it }))) ≡ Some list) says is in
    let both = some_on (eqb page g) words list (cond (eqb page g) (Some words) None) refl here in
    says ∙ ap (λ it. body.Page it words) (same_number page g both.0) ∙ ap (body.Page g) both.1
page_taken g list message (body.Reconcile parts) says is =
    let none : None ≡ Some list = subst (λ it. (brings g (Took (record message { body = it }))) ≡ Some list) says is in absurd (cc)
page_taken g list message body.Ack says is =
    let none : None ≡ Some list = subst (λ it. (brings g (Took (record message { body = it }))) ≡ Some list) says is in absurd (cc)
page_taken g list message body.Ask says is =
    let none : None ≡ Some list = subst (λ it. (brings g (Took (record message { body = it }))) ≡ Some list) says is in absurd (cc)
page_taken g list message (body.Grant closure) says is =
    let none : None ≡ Some list = subst (λ it. (brings g (Took (record message { body = it }))) ≡ Some list) says is in absurd (cc)
page_taken g list message body.Refuse says is =
    let none : None ≡ Some list = subst (λ it. (brings g (Took (record message { body = it }))) ≡ Some list) says is in absurd (cc)
page_taken g list message (body.Done join index value) says is =
    let none : None ≡ Some list = subst (λ it. (brings g (Took (record message { body = it }))) ≡ Some list) says is in absurd (cc)
page_taken g list message (body.Park join closure) says is =
    let none : None ≡ Some list = subst (λ it. (brings g (Took (record message { body = it }))) ≡ Some list) says is in absurd (cc)
page_taken g list message (body.Add frame index word addend) says is =
    let none : None ≡ Some list = subst (λ it. (brings g (Took (record message { body = it }))) ≡ Some list) says is in absurd (cc)
page_taken g list message (body.Added old) says is =
    let none : None ≡ Some list = subst (λ it. (brings g (Took (record message { body = it }))) ≡ Some list) says is in absurd (cc)

pub bring_in : (g : ℕ) (list : List ℤ) (event : Event) → brings g event ≡ Some list
    → ((message : Msg) × (event ≡ Took message) × (message.body ≡ body.Page g list)) ⊎ (event ≡ Did (item.OwnFetch g list))
bring_in g list (Did (item.Act frame index act)) is = absurd (cc)
bring_in g list (Did (item.Tick frame)) is = absurd (cc)
bring_in g list (Did (item.Drop page)) is = absurd (cc)
bring_in g list (Did (item.TakeUp frame)) is = absurd (cc)
bring_in g list (Did (item.OwnFetch page words)) is = let both = some_on (eqb page g) words list (cond (eqb page g) (Some words) None) refl is in
    inr (ap (λ it. Did (item.OwnFetch it words)) (same_number page g both.0) ∙ ap (λ it. Did (item.OwnFetch g it)) both.1)
bring_in g list (Did (item.OwnReconcile part)) is = absurd (cc)
bring_in g list (Did (item.Served frame index word old addend)) is = absurd (cc)
bring_in g list (Sent message) is = absurd (cc)
bring_in g list (Took message) is = inl (message, refl, page_taken g list message (message.body) refl is)
bring_in g list (Ended end) is = absurd (cc)

-- ---- what stands at positions

module _ (cluster : Cluster) (turns : List WholeTurn) (lawful : IsLawful cluster turns) where
  abbrev pub ev : ℕ → log.Event
  ev = events_of cluster (course_of turns)

  pub found_of : (number position : ℕ) (event : Event) → (it : Happens (course_of turns) number position event)
      → Found cluster (course_of turns) position number (it.moved.message) event
  found_of number position event it = record { moved = it.moved; is = it.is; by = it.by; place_is = refl; event_is = it.event_is }

  pub event_there : (number position : ℕ) (event : Event) → (it : Happens (course_of turns) number position event)
      → ev position ≡ happens_to cluster (before (course_of turns) position) number (it.moved.message) event
  event_there number position event it =
      event_at cluster (course_of turns) position (it.moved) (it.is)
      ∙ ap (λ other. happens_to cluster (before (course_of turns) position) other (it.moved.message) (it.moved.event)) (it.by)
      ∙ ap (λ other. happens_to cluster (before (course_of turns) position) number (it.moved.message) other) (it.event_is)

  -- Drops
  pub drop_at : (p g i : ℕ) (event : Event) → Happens (course_of turns) p i event → drops g event ≡ true → ev i ≡ log.Drop p g
  drop_at p g i event happens is =
      event_there p i (Did (item.Drop g)) (subst (λ it. Happens (course_of turns) p i it) (drop_in g event is) happens)

  pub drop_there : (p g i : ℕ) → ev i ≡ log.Drop p g → (event : Event) × Happens (course_of turns) p i event × (drops g event ≡ true)
  drop_there p g i is = (Did (item.Drop g), dropped_is cluster (course_of turns) i p g is, own_number g)

  -- Writes and Reads
  pub wrote_at : (p w i : ℕ) (v : ℤ) (event : Event) → Happens (course_of turns) p i event → written w event ≡ Some v → Wrote ev p w i v
  wrote_at p w i v event happens is =
      let it = write_in w v event is in
      record {
        frame = it.0;
        is = event_there p i (Did (item.Act (it.0) (it.1) (act.Write w v))) (subst (λ it. Happens (course_of turns) p i it) (it.2) happens);
      }

  pub write_at : (p w i : ℕ) (event : Event) → Happens (course_of turns) p i event → writes w event ≡ true → IsWrite ev p w i
  write_at p w i event happens is = let some = gives_some (written w event) is in (some.0, wrote_at p w i (some.0) event happens some.1)

  pub wrote_there : (p w i : ℕ) (v : ℤ) → Wrote ev p w i v
      → (frame : FrameId) × (index : ℕ) × Happens (course_of turns) p i (Did (item.Act frame index (act.Write w v)))
  wrote_there p w i v wrote = on (acted_is cluster (course_of turns) i p (wrote.frame) (log.Write w v) (wrote.is))
    where
      on : Acted cluster (course_of turns) i p (wrote.frame) (log.Write w v) ⊎ Served cluster (course_of turns) i p (wrote.frame) (log.Write w v)
          → (frame : FrameId) × (index : ℕ) × Happens (course_of turns) p i (Did (item.Act frame index (act.Write w v)))
      on (inl it) = (
        wrote.frame,
        it.index,
        subst (λ done. Happens (course_of turns) p i (Did (item.Act (wrote.frame) (it.index) done)))
            (write_is w v (it.act) (it.act_is)) (it.is),
      )
      on (inr it) = let no : log.Add (it.word) (it.old) (it.addend) ≡ log.Write w v = it.act_is in absurd (cc)

  pub written_own : (w : ℕ) (v : ℤ) (frame : FrameId) (index : ℕ) → written w (Did (item.Act frame index (act.Write w v))) ≡ Some v
  written_own w v frame index = rw (own_number w) refl

  pub write_there : (p w i : ℕ) → IsWrite ev p w i → (event : Event) × Happens (course_of turns) p i event × (writes w event ≡ true)
  write_there p w i wrote =
      let it = wrote_there p w i (wrote.0) (wrote.1) in
      (Did (item.Act (it.0) (it.1) (act.Write w (wrote.0))), it.2, ap is_some (written_own w (wrote.0) (it.0) (it.1)))

  pub read_there : (p w i : ℕ) (v : ℤ) → HasRead ev p w i v
      → (frame : FrameId) × (index : ℕ) × Happens (course_of turns) p i (Did (item.Act frame index (act.Read w v)))
  read_there p w i v read = on (acted_is cluster (course_of turns) i p (read.frame) (log.Read w v) (read.is))
    where
      on : Acted cluster (course_of turns) i p (read.frame) (log.Read w v) ⊎ Served cluster (course_of turns) i p (read.frame) (log.Read w v)
          → (frame : FrameId) × (index : ℕ) × Happens (course_of turns) p i (Did (item.Act frame index (act.Read w v)))
      on (inl it) = (
        read.frame,
        it.index,
        subst (λ done. Happens (course_of turns) p i (Did (item.Act (read.frame) (it.index) done)))
            (read_is w v (it.act) (it.act_is)) (it.is),
      )
      on (inr it) = let no : log.Add (it.word) (it.old) (it.addend) ≡ log.Read w v = it.act_is in absurd (cc)

  -- arrivals
  pub arrived_at : (p g i : ℕ) (list : List ℤ) (event : Event) → Happens (course_of turns) p i event → brings g event ≡ Some list
      → Arrives ev p g i (words_of cluster list)
  arrived_at p g i list event happens is = on (bring_in g list event is)
    where
      on : ((message : Msg) × (event ≡ Took message) × (message.body ≡ body.Page g list)) ⊎ (event ≡ Did (item.OwnFetch g list))
          → Arrives ev p g i (words_of cluster list)
      on (inl it) =
          let found : Found cluster (course_of turns) i p (happens.moved.message) (Took (it.0)) =
          record { moved = happens.moved; is = happens.is; by = happens.by; place_is = refl; event_is = happens.event_is ∙ it.1 } in
          let taking = taking_found cluster turns lawful p i (happens.moved.message) (it.0) found in
          ByPage (taking.sender) (taken_from (before (course_of turns) i) (happens.moved.message))
          (taken_event cluster turns lawful p i (happens.moved.message) (it.0) found)
          (posted_event cluster turns lawful p (taken_from (before (course_of turns) i) (happens.moved.message)) i (it.0) taking
          ∙ ap (λ said. log.Post (taking.sender) p
          (note_of cluster (taking.sender) (before (course_of turns) (taken_from (before (course_of turns) i) (happens.moved.message))) said)) (it.2))
      on (inr same) = ByOwn (event_there p i (Did (item.OwnFetch g list)) (subst (λ one. Happens (course_of turns) p i one) same happens))

  pub arrival_at : (p g i : ℕ) (event : Event) → Happens (course_of turns) p i event → arrives g event ≡ true → IsArrival ev p g i
  arrival_at p g i event happens is = let some = gives_some (brings g event) is in (words_of cluster (some.0), arrived_at p g i (some.0) event happens some.1)

  pub arrived_there : (p g i : ℕ) (words : ℕ → ℤ) → Arrives ev p g i words
      → (list : List ℤ) × (event : Event) × Happens (course_of turns) p i event × (brings g event ≡ Some list) × (words ≡ words_of cluster list)
  arrived_there p g i words (ByOwn is) =
      let it = loaded_is cluster (course_of turns) i p g words is in (it.0, Did (item.OwnFetch g (it.0)), it.1, rw (own_number g) refl, it.2)
  arrived_there p g i words (ByPage home post took posted) =
      let it = taking_at cluster turns lawful p post i took in
      let source = posted_is cluster (course_of turns) post home p (log.Page g words) posted in
      let same = same_message cluster turns lawful (it.0) (source.1) (it.1.sender) home post (Some (it.1.place)) (source.0) (it.1.posted) (source.2) in
      let said = page_is cluster home (before (course_of turns) post) g words (source.1.body) (source.4) in
      let body_is : it.0.body ≡ body.Page g (said.0) = ap (λ message. message.body) (same.0) ∙ said.1 in (
        said.0,
        Took (it.0),
        happens cluster (course_of turns) i p (Some (it.1.place)) (Took (it.0)) (it.1.taken),
        brought (it.0) (said.0) (it.0.body) refl body_is,
        said.2,
      )
    where
      brought : (message : Msg) (list : List ℤ) (said : Body) → message.body ≡ said → said ≡ body.Page g list → brings g (Took message) ≡ Some list
      brought message list said says is = rw (says ∙ is, own_number g) refl

  pub arrival_there : (p g i : ℕ) → IsArrival ev p g i → (event : Event) × Happens (course_of turns) p i event × (arrives g event ≡ true)
  arrival_there p g i arrival = let it = arrived_there p g i (arrival.0) (arrival.1) in (it.1, it.2, ap is_some it.3)
