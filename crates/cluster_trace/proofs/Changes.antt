-- The accounts of a node's frames through an event that is no item of a frame: as frames are taken up, sent, taken and come from their joins.
use Rattle.std.proofs.Common.{◌≡◌, ◌<◌, inl, inr, ℕ, ℤ, List, [], ◌∷◌, ◌++◌, Option, Some, None, refl, sym, ◌∙◌, ap, subst}
use Rattle.cilk_meaning.specs.Resolved.{Program}
use Rattle.cilk_meaning.specs.Wants.{Value}
use Rattle.machine_code.specs.StandsFor.{StandsFor}
use Rattle.page_messages.specs.declared.closure.FrameId.{FrameId}
use Rattle.page_messages.specs.declared.closure.JoinId.{JoinId}
use Rattle.page_messages.specs.declared.closure.Link.{Link}
use Rattle.page_messages.specs.declared.closure.Closure.{Closure}
use Rattle.page_messages.specs.declared.message.Msg.{Msg}
use Rattle.page_messages.specs.declared.message.Body.{Body}
use Rattle.page_messages.specs.declared.message.Body.TheVariants as body
use Rattle.page_messages.specs.declared.log.PostAt.{PostAt}
use Rattle.cluster_rules.specs.Walking.{last_of}
use Rattle.cluster_rules.specs.Turns.{Sent, Took, Past}
use Rattle.cluster_rules.specs.Node.{Node}
use Rattle.cluster_rules.specs.Lives.{Life, made, live, added, carried, link_to, without_bottom}
use Rattle.cluster_rules.specs.Frames.{Frames, Parked, taken_up, with_joined, frames_took, frames_of, all_joined}
use Rattle.cluster_rules.specs.Edges.{MayDone, MayPark, parted}
use Rattle.cluster_rules.specs.Positions.{Course, own}
use Rattle.cluster_rules.specs.Runs.{Cluster, node_at}
use Rattle.cluster_rules.proofs.Stepping.{Stepped, Takes}
use Rattle.cluster_rules.proofs.Marks.{bottom_gone}
use Rattle.cluster_rules.proofs.UnderWay.{moved_by}
use Rattle.cluster_rules.proofs.Phasing.{returned_none, parked_none}
use Rattle.cluster_edges.proofs.Ties as ties
use Rattle.cluster_edges.proofs.Ties.{Among, Born, AllWaiting, Waiting}
use Rattle.cluster_edges.proofs.Births.{bears_once}
use Rattle.cluster_edges.proofs.Completing.{taken_posted}
use Rattle.cluster_edges.proofs.Granting.{Granted}
use Rattle.cluster_edges.proofs.Joining.{tied}
use Rattle.determinacy.specs.Replies.{Trace}
use Rattle.cluster_trace.proofs.Standing.{LifeAccount, Stacked, account_wants, live_stacked}
use Rattle.cluster_trace.proofs.Placing.{ClosureAccount, AllLives, AllParked, lives_append, parked_append, closed, separated, bottom_off, Tells, Says, AllNamed, all_from}
use Rattle.cluster_trace.proofs.Ahead.{ahead, lead, lead_none, ahead_first}
use Rattle.cluster_trace.proofs.Accounted.{NodeAccounts, BodyAccount, Accounted}

module _ (cluster : Cluster) (program : Program) (stands : StandsFor cluster.code program) (trace : Trace) (at : ℕ) (course : Course)
    (stepped : Stepped cluster course)
    (number : ℕ) (less : number < cluster.config.nodes) (it : Accounted cluster program stands trace at course) where
  abbrev node : Node
  node = node_at cluster number

  abbrev past : Past
  past = own number course

  abbrev frames : Frames
  frames = frames_of node past

  abbrev led : Option ℤ
  led = ahead number course

  abbrev Has : Life → List FrameId → Type 0
  Has life above = LifeAccount cluster program stands trace at course life above

  abbrev On : List FrameId → List Life → Type 0
  On above stack = Stacked cluster program stands trace at course above stack

  abbrev pub Keeps : Option ℤ → Frames → Type 0
  Keeps = NodeAccounts cluster program stands trace at course

  abbrev here : Keeps led frames
  here = it.nodes number less

  on_nothing : (one : Option ℤ) → On [] (lead one [])
  on_nothing None = tt
  on_nothing (Some old) = tt

  -- Where the node waits for nothing, its live frames have their accounts.
  pub live_here : led ≡ None → On [] (live frames.stack)
  live_here none = live_stacked cluster program stands trace at course frames.stack (subst (On []) (lead_none led frames.stack none) here.stack)

  pub live_node : led ≡ None → Keeps led (record frames { stack = live frames.stack })
  live_node none = record { stack = subst (On []) (sym (lead_none led (live frames.stack) none)) (live_here none); ready = here.ready; parked = here.parked }

  taken_on : (ready : List Life) → AllLives cluster program stands trace at course ready → led ≡ None → Keeps led (taken_up frames.stack ready frames.parked)
  taken_on [] all none = record { stack = here.stack; ready = tt; parked = here.parked }
  taken_on (life ∷ ready) all none =
      record { stack = subst (On []) (sym (lead_none led (life ∷ []) none)) (all.0, tt, tt); ready = all.1; parked = here.parked }

  pub taken_node : led ≡ None → Keeps led (taken_up frames.stack frames.ready frames.parked)
  taken_node none = taken_on frames.ready here.ready none

  -- ---- posts

  lead_parts : (one : Option ℤ) (above : List Life) (child parent : Life) (link : Link) → On [] (lead one (above ++ (child ∷ (parent ∷ []))))
      → On [] (lead one (above ++ (record child { link = link } ∷ []))) × Has parent (child.id ∷ []) × (child.spawned.target ≡ trace.target child.id)
  lead_parts None above child parent link all = bottom_off cluster program stands trace at course [] above child parent link all
  lead_parts (Some old) [] child parent link all = bottom_off cluster program stands trace at course [] [] (made (Value old) child) parent link all
  lead_parts (Some old) (life ∷ above) child parent link all =
      bottom_off cluster program stands trace at course [] (made (Value old) life ∷ above) child parent link all

  grant_parts : (message : Msg) (closure : Closure) (has : Granted cluster (moved_by number (Sent message) None) course message closure)
      → On [] (lead led (has.may.above ++ (record has.may.child { link = link_to closure.join } ∷ []))) × Has has.may.parent (has.may.child.id ∷ [])
      × (has.may.child.spawned.target ≡ trace.target has.may.child.id)
  grant_parts message closure has =
      lead_parts led has.may.above has.may.child has.may.parent (link_to closure.join) (subst (λ stack. On [] (lead led stack)) has.may.stack here.stack)

  pub grant_node : (message : Msg) (closure : Closure) → Granted cluster (moved_by number (Sent message) None) course message closure
      → Keeps led (record frames { stack = without_bottom closure.join frames.stack }) × ClosureAccount cluster program stands trace at course closure
  grant_node message closure has =
      let parts = grant_parts message closure has in
      let left : without_bottom closure.join frames.stack ≡ has.may.above ++ (record has.may.child { link = link_to closure.join } ∷ []) =
      ap (without_bottom closure.join) has.may.stack ∙ bottom_gone closure.join has.may.above has.may.child has.may.parent in (
        record { stack = subst (λ stack. On [] (lead led stack)) (sym left) parts.0; ready = here.ready; parked = here.parked },
        closed cluster program stands trace at course number (parted node past has.may.child has.may.parent) closure has.may.state
            (separated cluster program stands trace at course node past has.may.child has.may.parent has.born parts.2 parts.1),
      )

  none_or : (one : Option ℤ) → ((old : ℤ) → one ≡ Some old → ⊥) → one ≡ None
  none_or None not = refl
  none_or (Some old) not = absurd (not old refl)

  pub empty_node : Keeps led (record frames { stack = [] })
  empty_node = record { stack = on_nothing led; ready = here.ready; parked = here.parked }

  pub park_closure : (receiver : ℕ) (join : JoinId) (closure : Closure) → MayPark node past receiver join closure
      → ClosureAccount cluster program stands trace at course closure
  park_closure receiver join closure may =
      let none : led ≡ None = none_or led
      (λ old is. let first = ahead_first cluster course stepped number old is in parked_none first.0 first.1 frames.stack may.life first.2 may.at_join.alone may.at_join.wanted) in
      closed cluster program stands trace at course number may.life closure may.state (subst (On []) may.at_join.alone (live_here none)).0

  -- the bottom frame
  pub last_has : (tops : List FrameId) (stack : List Life) (life : Life) → last_of stack ≡ Some life → On tops stack → ties.Stacked cluster course stack
      → (above : List FrameId) × Has life above × ties.Standing cluster course (ties.tie_of life)
  last_has tops [] life is all tied = absurd (cc)
  last_has tops (first ∷ []) life is all tied =
      let same : first ≡ life = cc in (tops, subst (λ it. Has it tops) same all.0, subst (λ it. ties.Standing cluster course (ties.tie_of it)) same tied.0)
  last_has tops (first ∷ (second ∷ below)) life is all tied = last_has (first.id ∷ []) (second ∷ below) life is all.2 tied.2

  pub done_says : (receiver : ℕ) (join : JoinId) (index : ℕ) (value : ℤ) → MayDone node past receiver join index value
      → Tells cluster program stands trace at course join index value
  done_says receiver join index value may =
      let none : led ≡ None = none_or led
      (λ old is. let first = ahead_first cluster course stepped number old is in returned_none first.0 first.1 frames.stack first.2 may.returned.none_left) in
      let bottom = last_has [] frames.stack may.life may.returned.at_bottom (subst (On []) (lead_none led frames.stack none) here.stack)
      ((tied cluster course stepped).nodes number less).stack in
      let parent = bottom.2.fits.linked join may.link in
      record {
        parent = parent.parent;
        child = may.life.id;
        named = parent.named;
        born = subst (λ place. Born parent.parent place may.life.id course) (sym may.index_is) parent.born;
        returns = account_wants cluster program stands trace at course may.life bottom.0 bottom.1 ∙ may.value_is;
      }

  -- ---- takings

  module _ (place : Option PostAt) (message : Msg) (takes : Takes course number place message) where
    same_taken : (one other : Msg) → Took one ≡ Took other → one ≡ other
    same_taken one other same = cc

    took_says : (said : Msg) → Among (Took said) (Took message ∷ past) → Says cluster program stands trace at course said.body
    took_says said (inl same) =
        subst (λ (it : Msg). Says cluster program stands trace at course it.body) (same_taken message said same) (it.says takes.place message takes.was_posted)
    took_says said (inr among) = let was = taken_posted cluster number course stepped said among in it.says was.0 said was.1

    named_all : (parked : List Parked) → AllWaiting cluster course parked
        → AllNamed cluster program stands trace at course (bears_once cluster course stepped) (Took message ∷ past) took_says parked
    named_all [] all = tt
    named_all (first ∷ parked) all = (all.0.fits.joined first.join all.0.at_join, named_all parked all.1)

    waiting_append : (front back : List Parked) → AllWaiting cluster course front → AllWaiting cluster course back → AllWaiting cluster course (front ++ back)
    waiting_append [] back first second = second
    waiting_append (one ∷ front) back first second = (first.0, waiting_append front back first.1 second)

    joined_node : (parked : List Parked) → AllWaiting cluster course parked → AllParked cluster program stands trace at course parked
        → Keeps led (with_joined node (Took message ∷ past) (record frames { parked = parked }))
    joined_node parked waiting all =
        let both = all_from cluster program stands trace at course (bears_once cluster course stepped) (Took message ∷ past) took_says number parked
        (named_all parked waiting) all in
        record {
          stack = here.stack;
          ready = lives_append cluster program stands trace at course frames.ready (all_joined node (Took message ∷ past) parked) here.ready both.0;
          parked = both.1;
        }

    waits : AllWaiting cluster course frames.parked
    waits = ((tied cluster course stepped).nodes number less).parked

    carried_here : (said : Body) → message.body ≡ said → BodyAccount cluster program stands trace at course said
    carried_here said is = subst (BodyAccount cluster program stands trace at course) is (it.carries takes.place message takes.was_posted takes.not_taken)

    waiting : (join : JoinId) (closure : Closure) → message.body ≡ body.Park join closure → Waiting cluster course join closure
    waiting join closure is =
        subst (ties.Carrying cluster course) is ((tied cluster course stepped).carries takes.place message takes.was_posted takes.not_taken)

    pub took_node : (said : Body) → message.body ≡ said → ((old : ℤ) → said ≡ body.Added old → ⊥)
        → Keeps led (frames_took node said (Took message ∷ past) frames)
    took_node (body.Fetch page) is not = here
    took_node (body.Page page words) is not = here
    took_node (body.Reconcile parts) is not = here
    took_node body.Ack is not = here
    took_node body.Ask is not = here
    took_node (body.Grant closure) is not = record {
      stack = here.stack;
      ready =
          lives_append cluster program stands trace at course frames.ready (carried node closure ∷ []) here.ready (carried_here (body.Grant closure) is, tt);
      parked = here.parked;
    }
    took_node body.Refuse is not = here
    took_node (body.Done join index value) is not = joined_node frames.parked waits here.parked
    took_node (body.Park join closure) is not =
        joined_node (frames.parked ++ record { join = join; closure = closure } ∷ [])
        (waiting_append frames.parked (record { join = join; closure = closure } ∷ []) waits (waiting join closure is, tt))
        (parked_append cluster program stands trace at course frames.parked (record { join = join; closure = closure } ∷ []) here.parked
        (carried_here (body.Park join closure) is, tt))
    took_node (body.Add frame index word addend) is not = here
    took_node (body.Added old) is not = absurd (not old refl)

    -- the old value that the execution knew before
    pub added_node : (old : ℤ) → led ≡ Some old → Keeps None (record frames { stack = added old frames.stack })
    added_node old is = record { stack = subst (λ one. On [] (lead one frames.stack)) is here.stack; ready = here.ready; parked = here.parked }
