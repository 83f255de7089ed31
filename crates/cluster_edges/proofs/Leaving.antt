-- What frames keep as one of them leaves its node by a Grant or a Park, and what a Done says.
use Rattle.std.proofs.Common.{◌≡◌, ◌⊎◌, inl, inr, ℕ, ℤ, List, [], ◌∷◌, ◌++◌, Option, Some, None, true, refl, sym, ◌∙◌, ap, subst}
use Rattle.std.specs.Prelude.{map}
use Rattle.page_messages.specs.declared.closure.FrameId.{FrameId}
use Rattle.page_messages.specs.declared.closure.JoinId.{JoinId}
use Rattle.page_messages.specs.declared.closure.Child.{Child}
use Rattle.page_messages.specs.declared.closure.Link.TheVariants.{Root, Away}
use Rattle.page_messages.specs.declared.closure.Closure.{Closure}
use Rattle.page_messages.specs.declared.message.Msg.{Msg}
use Rattle.page_messages.specs.declared.message.Body.TheVariants as body
use Rattle.cluster_rules.specs.Walking.{given, or_else}
use Rattle.cluster_rules.specs.Turns.{Sent, Past}
use Rattle.cluster_rules.specs.Node.{Node}
use Rattle.cluster_rules.specs.Home.{replies_in}
use Rattle.cluster_rules.specs.Lives.{Life, without_bottom, link_to, main_id}
use Rattle.cluster_rules.specs.Frames.{frames_of, stack_of}
use Rattle.cluster_rules.specs.Edges.{IsClosure, parted, MayDone, MayPark}
use Rattle.cluster_rules.specs.Positions.{Moved, Course, own}
use Rattle.cluster_rules.specs.Runs.{Cluster, node_at, MayPost}
use Rattle.cluster_rules.proofs.Marks.{bottom_gone}
use Rattle.cluster_rules.proofs.Stepping.{Step}
use Rattle.backer_order.specs.Log as log
use Rattle.cluster_order.specs.Reading.{granted_for, grants_in, grants_by, note_of, frame_of, id_of, bottom_of}
use Rattle.cluster_edges.proofs.Ties.{Each, Among, Born, Named, Known, Above, gone_body, gone_on, Gone, Told, Parking}
use Rattle.cluster_edges.proofs.Ties.{tie_of, tie_in, HasParent, IsNoted, Fits, Standing, Waiting, OnTop, Stacked, Keeps, Returned, Tied}
use Rattle.cluster_edges.proofs.Longer.{leaves, known_more, Apart, apart_if, parent_more, fits_more, standing_more}
use Rattle.cluster_edges.proofs.Granting.{same_join_self, Granted, granted, named_stays, sent_may}
use Rattle.cluster_edges.proofs.Stacks.{live_stacked, last_stacked}

-- ---- a frame in a closure

module _ (cluster : Cluster) (course : Course) (node : Node) (life : Life) (closure : Closure) (state : IsClosure node life closure) where
  carried_parent : Fits cluster course (tie_of life) → (join : JoinId) → closure.link ≡ Away join → HasParent course closure.id closure.spawned.index join
  carried_parent fits join is =
      let away : life.link ≡ Away join = sym state.link ∙ is in
      let spawned : closure.spawned ≡ life.spawned = state.spawned (λ root. let none = sym root ∙ away in absurd (cc)) in
      subst (λ id. HasParent course id closure.spawned.index join) (sym state.id)
      (subst (λ (it : Child). HasParent course life.id it.index join) (sym spawned) (fits.linked join away))

  carried_waits : Fits cluster course (tie_of life) → (child : FrameId) → Gone cluster course closure.id child
      → Told cluster course closure.id child ⊎ IsNoted course closure.id closure.away child
  carried_waits fits child gone =
      subst (λ id. Told cluster course id child ⊎ IsNoted course id closure.away child) (sym state.id)
      (subst (λ away. Told cluster course life.id child ⊎ IsNoted course life.id away child) (sym state.away)
      (fits.waits child (subst (λ id. Gone cluster course id child) state.id gone)))

  pub carried_fits : Fits cluster course (tie_of life) → Fits cluster course (tie_in closure)
  carried_fits fits = record {
    known = subst (λ id. Known cluster id course) (sym state.id) fits.known;
    rooted = λ root. state.id ∙ fits.rooted (sym state.link ∙ root);
    linked = carried_parent fits;
    joined = λ join is. subst (λ id. Named join id course) (sym state.id) (fits.joined join (sym state.join ∙ is));
    waits = carried_waits fits;
  }

-- ---- the second frame from the bottom

second_last : List FrameId → Option FrameId
second_last [] = None
second_last (first ∷ []) = None
second_last (first ∷ (second ∷ [])) = Some first
second_last (first ∷ (second ∷ (third ∷ rest))) = second_last (second ∷ (third ∷ rest))

second_is : (front : List FrameId) (child frame : FrameId) → second_last (front ++ child ∷ (frame ∷ [])) ≡ Some child
unfolding second_last
second_is [] child frame = refl
second_is (first ∷ []) child frame = refl
second_is (first ∷ (second ∷ [])) child frame = refl
second_is (first ∷ (second ∷ (third ∷ front))) child frame = second_is (second ∷ (third ∷ front)) child frame

ids_append : (above : List Life) (child parent : Life)
    → map (λ (life : Life). life.id) (above ++ (child ∷ (parent ∷ []))) ≡ map (λ (life : Life). life.id) above ++ child.id ∷ (parent.id ∷ [])
ids_append [] child parent = refl
ids_append (life ∷ above) child parent = ap (λ it. life.id ∷ it) (ids_append above child parent)

pub above_is : (stack above : List Life) (child parent : Life) (frame other : FrameId) → stack ≡ above ++ (child ∷ (parent ∷ [])) → Above stack frame other
    → child.id ≡ other
above_is stack above child parent frame other is (front, bottom) =
    let some : Some child.id ≡ Some other =
    sym (second_is (map (λ (life : Life). life.id) above) child.id parent.id) ∙ ap second_last (sym (ids_append above child parent))
    ∙ ap (λ it. second_last (map (λ (life : Life). life.id) it)) (sym is)
    ∙ ap second_last bottom ∙ second_is front other frame in
    cc

among_end : (children : List Child) (entry : Child) → Among entry (children ++ entry ∷ [])
among_end [] entry = inl refl
among_end (first ∷ children) entry = inr (among_end children entry)

among_front : (children : List Child) (entry last : Child) → Among entry children → Among entry (children ++ last ∷ [])
among_front [] entry last among = absurd among
among_front (first ∷ children) entry last (inl same) = inl same
among_front (first ∷ children) entry last (inr among) = inr (among_front children entry last among)

-- ---- a Grant

-- the frame that leaves is none of these
abbrev pub NoneLeaves : Moved → List Life → Type 0
NoneLeaves moved lives = Each (λ (life : Life). leaves moved.event ≡ Some life.id → ⊥) lives

module _ (cluster : Cluster) (moved : Moved) (course : Course) (step : Step cluster course moved) (tied : Tied cluster course) (message : Msg)
    (closure : Closure)
    (is : moved.event ≡ Sent message) (says : message.body ≡ body.Grant closure) (it : Granted cluster moved course message closure) where
  abbrev child : Life
  child = it.may.child

  abbrev parent : Life
  parent = it.may.parent

  abbrev node : Node
  node = node_at cluster moved.node

  abbrev past : Past
  past = own moved.node course

  -- its join is named for it
  new_named : (join : JoinId) → closure.join ≡ Some join → Named join closure.id (moved ∷ course)
  new_named join joins =
      let granted_is : grants_by join moved.event ≡ Some closure.id =
      ap (grants_by join) is ∙ ap (grants_in join) says ∙ ap (λ it. granted_for join it closure.id) joins ∙ rw (same_join_self join) refl in
      ap (λ it. or_else it (given (λ (moved : Moved). grants_by join moved.event) course)) granted_is

  parent_named : (join : JoinId) → closure.join ≡ Some join → Named join parent.id (moved ∷ course)
  parent_named join joins = subst (λ id. Named join id (moved ∷ course)) it.may.state.id (new_named join joins)

  -- a child of it that was separated is the one directly above, or was separated before
  parted_gone : (other : FrameId) → Gone cluster (moved ∷ course) parent.id other
      → Gone cluster course parent.id other ⊎ Above (stack_of node past) parent.id other
  parted_gone other gone =
      on
      (subst (λ said. gone_body said (stack_of node past) (Gone cluster course) parent.id other) says
      (subst (λ event. gone_on event (stack_of node past) (Gone cluster course) parent.id other) is gone))
    where
      on : gone_body (body.Grant closure) (stack_of node past) (Gone cluster course) parent.id other
          → Gone cluster course parent.id other ⊎ Above (stack_of node past) parent.id other
      on (inl old) = inl old
      on (inr both) = inr both.1

  parted_waits : (other : FrameId) → Gone cluster course parent.id other ⊎ Above (stack_of node past) parent.id other
      → Told cluster (moved ∷ course) parent.id other ⊎ IsNoted (moved ∷ course) parent.id (parent.away ++ child.spawned ∷ []) other
  parted_waits other (inl old) = on (it.parent.fits.waits other old)
    where
      on : Told cluster course parent.id other ⊎ IsNoted course parent.id parent.away other
          → Told cluster (moved ∷ course) parent.id other ⊎ IsNoted (moved ∷ course) parent.id (parent.away ++ child.spawned ∷ []) other
      on (inl told) = inl (inr told)
      on (inr noted) = inr (record { entry = noted.entry; among = among_front parent.away noted.entry child.spawned noted.among; born = inr noted.born })
  parted_waits other (inr above) =
      let same = above_is (stack_of node past) it.may.above child parent parent.id other it.may.stack above in
      inr
      (record {
        entry = child.spawned;
        among = among_end parent.away child.spawned;
        born = inr (subst (λ id. Born parent.id child.spawned.index id course) same it.born);
      })

  parted_fits : Fits cluster (moved ∷ course) (tie_of (parted node past child parent))
  parted_fits = record {
    known = known_more cluster moved course parent.id it.parent.fits.known;
    rooted = it.parent.fits.rooted;
    linked =
        λ join away. parent_more cluster moved course (named_stays cluster moved course step tied) parent.id parent.spawned.index join
        (it.parent.fits.linked join away);
    joined = λ join joins. parent_named join (it.may.state.join ∙ joins);
    waits = λ other gone. parted_waits other (parted_gone other gone);
  }

  granted_not_parked : Parking closure.id (moved ∷ course) → ⊥
  granted_not_parked (inl parks) =
      let sent : Sent message ≡ Sent parks.0 = sym is ∙ parks.3 in
      let same : message ≡ parks.0 = cc in
      let grant : body.Grant closure ≡ body.Park parks.1 parks.2 = sym says ∙ ap (λ it. it.body) same ∙ parks.4 in
      absurd (cc)
  granted_not_parked (inr both) = it.parent.not_parked (subst (λ id. Parking id course) it.may.state.id both.0)

  -- The frame in the Grant.
  pub grant_stands : Standing cluster (moved ∷ course) (tie_in closure)
  grant_stands = record {
    fits = carried_fits cluster (moved ∷ course) node (parted node past child parent) closure it.may.state parted_fits;
    not_parked = granted_not_parked;
  }

  -- the child tells its return to that join
  linked_join : (join : Option JoinId) (other : JoinId) → link_to join ≡ Away other → join ≡ Some other
  linked_join None other away = absurd (cc)
  linked_join (Some join) other away = cc

  not_root : (join : Option JoinId) → link_to join ≡ Root → ⊥
  not_root None root = absurd (cc)
  not_root (Some join) root = absurd (cc)

  child_stands : Apart cluster moved course child.id → Standing cluster (moved ∷ course) (tie_of (record child { link = link_to closure.join }))
  child_stands apart =
      let stands = standing_more cluster moved course (named_stays cluster moved course step tied) (tie_of child) apart it.child in
      record {
        fits = record {
          known = stands.fits.known;
          rooted = λ root. absurd (not_root closure.join root);
          linked = λ join away. record { parent = parent.id; named = parent_named join (linked_join closure.join join away); born = inr it.born };
          joined = stands.fits.joined;
          waits = stands.fits.waits;
        };
        not_parked = stands.not_parked;
      }

  on_child : (life : Life) (above : List Life) → OnTop course life (above ++ (child ∷ (parent ∷ [])))
      → OnTop (moved ∷ course) life (above ++ (record child { link = link_to closure.join } ∷ []))
  on_child life [] top = inr top
  on_child life (second ∷ above) top = inr top

  left_stacked : (above : List Life) → Stacked cluster course (above ++ (child ∷ (parent ∷ [])))
      → NoneLeaves moved (above ++ (record child { link = link_to closure.join } ∷ []))
      → Stacked cluster (moved ∷ course) (above ++ (record child { link = link_to closure.join } ∷ []))
  left_stacked [] stacked none = (child_stands (apart_if cluster moved course child.id none.0), tt, tt)
  left_stacked (life ∷ above) stacked none = (
    standing_more cluster moved course (named_stays cluster moved course step tied) (tie_of life) (apart_if cluster moved course life.id none.0) stacked.0,
    on_child life above stacked.1,
    left_stacked above stacked.2 none.1,
  )

  -- The stack that it leaves.
  pub grant_stacked : NoneLeaves moved (without_bottom closure.join (stack_of node past))
      → Stacked cluster (moved ∷ course) (without_bottom closure.join (stack_of node past))
  grant_stacked none =
      let gone : without_bottom closure.join (stack_of node past) ≡ it.may.above ++ (record child { link = link_to closure.join } ∷ []) =
      ap (without_bottom closure.join) it.may.stack ∙ bottom_gone closure.join it.may.above child parent in
      let keeps : Keeps cluster course (frames_of node past) = tied.nodes moved.node step.within in
      subst (Stacked cluster (moved ∷ course)) (sym gone)
      (left_stacked it.may.above (subst (Stacked cluster course) it.may.stack keeps.stack) (subst (NoneLeaves moved) gone none))

-- the frame that waits at a join is the one that it was named for
pub frame_named : (join : JoinId) (frame : FrameId) (course : Course) → Named join frame course → frame_of join course ≡ frame
frame_named join frame course named = ap (λ it. elim it [ None ↦ main_id | Some frame ↦ frame ]) named

-- ---- a Park

park_on : (node : Node) (past : Past) (receiver : ℕ) (join : JoinId) (closure : Closure)
    → (replies_in (body.Park join closure) ≡ true) ⊎ MayPost node past receiver (body.Park join closure)
    → MayPark node past receiver join closure
park_on node past receiver join closure (inl reply) = absurd (cc)
park_on node past receiver join closure (inr may) = may

done_on : (node : Node) (past : Past) (receiver : ℕ) (join : JoinId) (index : ℕ) (value : ℤ)
    → (replies_in (body.Done join index value) ≡ true) ⊎ MayPost node past receiver (body.Done join index value)
    → MayDone node past receiver join index value
done_on node past receiver join index value (inl reply) = absurd (cc)
done_on node past receiver join index value (inr may) = may

module _ (cluster : Cluster) (moved : Moved) (course : Course) (step : Step cluster course moved) (tied : Tied cluster course) (message : Msg)
    (is : moved.event ≡ Sent message) where
  stacked_now : Stacked cluster course (stack_of (node_at cluster moved.node) (own moved.node course))
  stacked_now = (tied.nodes moved.node step.within).stack

  park_now : (join : JoinId) (closure : Closure) → message.body ≡ body.Park join closure
      → MayPark (node_at cluster moved.node) (own moved.node course) message.receiver join closure
  park_now join closure says =
      park_on (node_at cluster moved.node) (own moved.node course) message.receiver join closure
      (sent_may cluster moved course step message (body.Park join closure) is says)

  parked_fits : (join : JoinId) (closure : Closure) → message.body ≡ body.Park join closure → Fits cluster course (tie_in closure)
  parked_fits join closure says =
      let may = park_now join closure says in
      let alive = live_stacked cluster course (stack_of (node_at cluster moved.node) (own moved.node course)) stacked_now in
      carried_fits cluster course (node_at cluster moved.node) may.life closure may.state (subst (Stacked cluster course) may.at_join.alone alive).0.fits

  -- The frame in a Park.
  pub park_waits : (join : JoinId) (closure : Closure) → message.body ≡ body.Park join closure → Waiting cluster (moved ∷ course) join closure
  park_waits join closure says =
      let may = park_now join closure says in
      let stack = stack_of (node_at cluster moved.node) (own moved.node course) in
      record {
        fits =
            fits_more cluster moved course (named_stays cluster moved course step tied) (tie_in closure)
            (λ child gone. subst (λ said. gone_body said stack (Gone cluster course) closure.id child) says
            (subst (λ event. gone_on event stack (Gone cluster course) closure.id child) is gone))
            (parked_fits join closure says);
        at_join = may.state.join ∙ may.at_join.granted;
      }

  -- ---- a Done

  -- The bottom frame of the node, whose parent waits at that join.
  pub done_parent : (join : JoinId) (index : ℕ) (value : ℤ) → message.body ≡ body.Done join index value
      → HasParent course (bottom_of cluster moved.node course) index join
  done_parent join index value says =
      let node = node_at cluster moved.node in
      let past = own moved.node course in
      let may : MayDone node past message.receiver join index value =
      done_on node past message.receiver join index value (sent_may cluster moved course step message (body.Done join index value) is says) in
      let stands = last_stacked cluster course (stack_of node past) may.life stacked_now may.returned.at_bottom in
      let bottom : bottom_of cluster moved.node course ≡ may.life.id = ap id_of may.returned.at_bottom in
      subst (λ id. HasParent course id index join) (sym bottom)
      (subst (λ at. HasParent course may.life.id at join) (sym may.index_is) (stands.fits.linked join may.link))

  pub done_returns : (join : JoinId) (index : ℕ) (value : ℤ) → message.body ≡ body.Done join index value → Returned cluster (moved ∷ course) join index
  done_returns join index value says =
      let has = done_parent join index value says in
      let frame : frame_of join course ≡ has.parent = frame_named join has.parent course has.named in
      record {
        parent = has.parent;
        child = bottom_of cluster moved.node course;
        named = named_stays cluster moved course step tied join has.parent has.named;
        born = inr has.born;
        told = inl (message, is, ap (note_of cluster moved.node course) says ∙ (λ i. log.Done (frame i) (bottom_of cluster moved.node course)));
      }

  -- ---- a frame that leaves is known

  pub grant_known : (closure : Closure) → message.body ≡ body.Grant closure → Known cluster closure.id course
  grant_known closure says =
      let it = granted cluster moved course step tied message closure is says in
      subst (λ id. Known cluster id course) (sym it.may.state.id) it.parent.fits.known

  pub park_known : (join : JoinId) (closure : Closure) → message.body ≡ body.Park join closure → Known cluster closure.id course
  park_known join closure says = (parked_fits join closure says).known
