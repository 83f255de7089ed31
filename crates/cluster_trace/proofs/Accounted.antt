-- The accounts of all frames of a cluster, and what an event keeps of those that it does not touch.
use Rattle.std.proofs.Common.{◌≡◌, ◌≢◌, ◌⊎◌, inl, inr, ℕ, suc, ◌<◌, ℤ, List, [], ◌∷◌, Option, Some, None, Bool, true, false, ◌||◌, sym, subst}
use Rattle.std.specs.List.{list_any}
use Rattle.cilk_meaning.specs.Instance.{Meaning}
use Rattle.cilk_meaning.specs.Resolved.{Program}
use Rattle.machine_code.specs.Machine.{starts}
use Rattle.machine_code.specs.StandsFor.{StandsFor}
use Rattle.page_messages.specs.declared.closure.FrameId.{FrameId}
use Rattle.page_messages.specs.declared.message.Msg.{Msg}
use Rattle.page_messages.specs.declared.message.Body.{Body}
use Rattle.page_messages.specs.declared.message.Body.TheVariants as body
use Rattle.page_messages.specs.declared.log.PostAt.{PostAt}
use Rattle.cluster_rules.specs.Turns.{WholeTurn, Sent}
use Rattle.cluster_rules.specs.Lives.{Life, carried}
use Rattle.cluster_rules.specs.Frames.{Frames, frames_of}
use Rattle.cluster_rules.specs.Positions.{Moved, Course, course_of, own, at, before}
use Rattle.cluster_rules.specs.Runs.{Cluster, IsLawful, node_at}
use Rattle.cluster_rules.proofs.Stepping.{Stepped, WasPosted, takes_place}
use Rattle.cluster_rules.proofs.Summing.{one_or_two}
use Rattle.cluster_rules.proofs.Letters.{letters_of, letters_hold}
use Rattle.cluster_edges.proofs.Anywhere.{Each, EachParked, OfBody, EachLetter, InFrames, letter_of}
use Rattle.cluster_edges.proofs.Granting.{named_stays}
use Rattle.cluster_edges.proofs.Joining.{tied}
use Rattle.determinacy.specs.Replies.{Trace, by, want_at, Answers}
use Rattle.cluster_trace.specs.Instances.{trace_of}
use Rattle.cluster_trace.proofs.Spawning.{step_then}
use Rattle.cluster_trace.proofs.Blocks.{returned_stays}
use Rattle.cluster_trace.proofs.Standing.{Stacked}
use Rattle.cluster_trace.proofs.Placing.{ClosureAccount, AllLives, AllParked, Says}
use Rattle.cluster_trace.proofs.Going.{life_same}
use Rattle.cluster_trace.proofs.Elsewhere.{NotBy, stack_same, lives_same, parked_same}
use Rattle.cluster_trace.proofs.Ahead.{ahead, lead}

module _ (cluster : Cluster) (program : Program) (stands : StandsFor cluster.code program) (trace : Trace) where
  -- what a node has, where the execution is so far ahead of it
  pub record NodeAccounts (at : ℕ) (course : Course) (led : Option ℤ) (frames : Frames) : Type 0 where
    pub stack : Stacked cluster program stands trace at course [] (lead led frames.stack)
    pub ready : AllLives cluster program stands trace at course frames.ready
    pub parked : AllParked cluster program stands trace at course frames.parked

  abbrev pub BodyAccount : ℕ → Course → Body → Type 0
  BodyAccount at course (body.Fetch page) = Unit {0}
  BodyAccount at course (body.Page page words) = Unit {0}
  BodyAccount at course (body.Reconcile parts) = Unit {0}
  BodyAccount at course body.Ack = Unit {0}
  BodyAccount at course body.Ask = Unit {0}
  BodyAccount at course (body.Grant closure) = ClosureAccount cluster program stands trace at course closure
  BodyAccount at course body.Refuse = Unit {0}
  BodyAccount at course (body.Done join index value) = Unit {0}
  BodyAccount at course (body.Park join closure) = ClosureAccount cluster program stands trace at course closure
  BodyAccount at course (body.Add frame index word addend) = Unit {0}
  BodyAccount at course (body.Added old) = Unit {0}

  pub record Accounted (at : ℕ) (course : Course) : Type 0 where
    pub nodes : (number : ℕ) → number < cluster.config.nodes
        → NodeAccounts at course (ahead number course) (frames_of (node_at cluster number) (own number course))
    pub carries : (place : PostAt) (message : Msg) → WasPosted course place message → list_any (takes_place place) course ≡ false
        → BodyAccount at course message.body
    pub says : (place : PostAt) (message : Msg) → WasPosted course place message → Says cluster program stands trace at course message.body

or_right : (a b : Bool) → a || b ≡ false → b ≡ false
or_right true b is = absurd (cc)
or_right false b is = is

module _ (cluster : Cluster) (turns : List WholeTurn) (lawful : IsLawful cluster turns) (program : Program) (stands : StandsFor cluster.code program) where
  abbrev course : Course
  course = course_of turns

  abbrev trace : Trace
  trace = trace_of cluster course

  module _ (position : ℕ) (moved : Moved) (found : at course position ≡ Some moved)
      (answers : (frame : FrameId) → by frame (trace.events position) ≡ true
      → Answers trace (trace.events position) (want_at (starts cluster.code) trace position frame)) where
    abbrev earlier : Course
    earlier = before course position

    abbrev later : Course
    later = moved ∷ earlier

    abbrev Not : FrameId → Meaning → Type 0
    Not = NotBy cluster turns lawful program stands position moved found answers

    stepped : Stepped cluster later
    stepped = step_then cluster turns lawful position moved found

    pub node_same : (led : Option ℤ) (frames : Frames) → Each Not (lead led frames.stack) → Each Not frames.ready → EachParked cluster.code Not frames.parked
        → NodeAccounts cluster program stands trace position earlier led frames → NodeAccounts cluster program stands trace (suc position) later led frames
    node_same led frames stack ready parked it = record {
      stack = stack_same cluster turns lawful program stands position moved found answers [] (lead led frames.stack) stack it.stack;
      ready = lives_same cluster turns lawful program stands position moved found answers frames.ready ready it.ready;
      parked = parked_same cluster turns lawful program stands position moved found answers frames.parked parked it.parked;
    }

    pub lead_not : (led : Option ℤ) (stack : List Life) → Each Not stack → Each Not (lead led stack)
    lead_not None stack not = not
    lead_not (Some old) [] not = tt
    lead_not (Some old) (life ∷ below) not = not

    pub body_same : (said : Body) → OfBody cluster.code Not said → BodyAccount cluster program stands trace position earlier said
        → BodyAccount cluster program stands trace (suc position) later said
    body_same (body.Fetch page) not it = tt
    body_same (body.Page page words) not it = tt
    body_same (body.Reconcile parts) not it = tt
    body_same body.Ack not it = tt
    body_same body.Ask not it = tt
    body_same (body.Grant closure) not it =
        life_same cluster turns lawful program stands position moved found answers (carried (node_at cluster 0) closure) [] not it
    body_same body.Refuse not it = tt
    body_same (body.Done join index value) not it = tt
    body_same (body.Park join closure) not it =
        life_same cluster turns lawful program stands position moved found answers (carried (node_at cluster 0) closure) [] not it
    body_same (body.Add frame index word addend) not it = tt
    body_same (body.Added old) not it = tt

    pub says_same : (said : Body) → Says cluster program stands trace position earlier said → Says cluster program stands trace (suc position) later said
    says_same said says = λ join index value is. (let it = says join index value is in record {
      parent = it.parent;
      child = it.child;
      named = named_stays cluster moved earlier stepped.1 (tied cluster earlier stepped.0) join it.parent it.named;
      born = inr it.born;
      returns = returned_stays cluster program stands trace position answers it.child value it.returns;
    })

    -- Where the event has to do with one node alone, and its frames have their accounts behind it.
    pub accounted_next : (number : ℕ)
        → ((other : ℕ) → other < cluster.config.nodes → other ≢ number → InFrames cluster.code Not (frames_of (node_at cluster other) (own other earlier)))
        → EachLetter cluster.code Not (letters_of earlier)
        → NodeAccounts cluster program stands trace (suc position) later (ahead number later) (frames_of (node_at cluster number) (own number later))
        → ((other : ℕ) → other ≢ number → ahead other later ≡ ahead other earlier)
        → ((other : ℕ) → other ≢ number → frames_of (node_at cluster other) (own other later) ≡ frames_of (node_at cluster other) (own other earlier))
        → ((message : Msg) → moved.event ≡ Sent message → BodyAccount cluster program stands trace (suc position) later message.body
        × Says cluster program stands trace (suc position) later message.body)
        → Accounted cluster program stands trace position earlier → Accounted cluster program stands trace (suc position) later
    accounted_next number others letters here aheads frames sent it = record {
      nodes = λ other less. on other less (one_or_two other number);
      carries = λ place message was none. carried_on place message was (or_right (takes_place place moved) (list_any (takes_place place) earlier) none);
      says = λ place message was. said place message was;
    }
      where
        on : (other : ℕ) → other < cluster.config.nodes → (other ≡ number) ⊎ (other ≢ number)
            → NodeAccounts cluster program stands trace (suc position) later (ahead other later) (frames_of (node_at cluster other) (own other later))
        on other less (inl same) = subst
            (λ it. NodeAccounts cluster program stands trace (suc position) later (ahead it later) (frames_of (node_at cluster it) (own it later)))
            (sym same) here
        on other less (inr apart) =
            let not = others other less apart in
            let there = frames_of (node_at cluster other) (own other earlier) in
            subst (λ led. NodeAccounts cluster program stands trace (suc position) later led (frames_of (node_at cluster other) (own other later)))
            (sym (aheads other apart))
            (subst (NodeAccounts cluster program stands trace (suc position) later (ahead other earlier)) (sym (frames other apart))
            (node_same (ahead other earlier) there (lead_not (ahead other earlier) there.stack not.stack) not.ready not.parked (it.nodes other less)))

        carried_on : (place : PostAt) (message : Msg) → WasPosted later place message → list_any (takes_place place) earlier ≡ false
            → BodyAccount cluster program stands trace (suc position) later message.body
        carried_on place message (inl post) none = (sent message post.0).0
        carried_on place message (inr was) none =
            body_same message.body (letter_of Not cluster.code place message (letters_of earlier)
            (letters_hold cluster earlier stepped.0 place message was none) letters)
            (it.carries place message was none)

        said : (place : PostAt) (message : Msg) → WasPosted later place message → Says cluster program stands trace (suc position) later message.body
        said place message (inl post) = (sent message post.0).1
        said place message (inr was) = says_same message.body (it.says place message was)
