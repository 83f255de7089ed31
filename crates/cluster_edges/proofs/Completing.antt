-- Where a join is complete, each child that was separated from its frame has told its return to it.
use Rattle.std.proofs.Common.{◌≡◌, ◌⊎◌, inl, inr, ℕ, ℤ, List, [], ◌∷◌, Some, None, Bool, true, false, cond, eqb, ◌&&◌, ◌||◌, refl, sym, ◌∙◌, subst, arith}
use Rattle.std.proofs.lemmas.Bool.Decides.{nat_tests}
use Rattle.std.specs.Prelude.{is_some}
use Rattle.std.specs.List.{list_any, list_all}
use Rattle.page_messages.specs.declared.closure.FrameId.{FrameId}
use Rattle.page_messages.specs.declared.closure.JoinId.{JoinId}
use Rattle.page_messages.specs.declared.closure.Child.{Child}
use Rattle.page_messages.specs.declared.message.Msg.{Msg}
use Rattle.page_messages.specs.declared.message.Body.{Body}
use Rattle.page_messages.specs.declared.message.Body.TheVariants as body
use Rattle.page_messages.specs.declared.log.PostAt.{PostAt}
use Rattle.cluster_rules.specs.Turns.{Event, Did, Sent, Took, Ended, Past}
use Rattle.cluster_rules.specs.Lives.{same_join}
use Rattle.cluster_rules.specs.Frames.{Frames, Parked, done_in, done_by, is_done, is_complete, joined, all_joined, still_parked, with_joined}
use Rattle.cluster_rules.specs.Positions.{Moved, Course, own}
use Rattle.cluster_rules.specs.Runs.{Cluster, node_at}
use Rattle.cluster_rules.proofs.Testing.{both_true}
use Rattle.cluster_rules.proofs.Stepping.{WasPosted, Carries, Stepped}
use Rattle.cluster_edges.proofs.Ties.{Among, Born, Told, tie_of, IsNoted, Lying, Waiting, AllLying, AllWaiting, Keeps, Returned, Saying}
use Rattle.cluster_edges.proofs.Granting.{same_join_is}
use Rattle.cluster_edges.proofs.Stacks.{lying_append}

-- ---- what was taken was posted

taken_on : (cluster : Cluster) (course : Course) (moved : Moved) (message : Msg) → Carries course moved.node moved.message moved.event
    → moved.event ≡ Took message
    → (place : PostAt) × WasPosted course place message
taken_on cluster course moved message carries is =
    let taking = subst (λ event. Carries course moved.node moved.message event) is carries in (taking.place, taking.was_posted)

pub taken_posted : (cluster : Cluster) (number : ℕ) (course : Course) → Stepped cluster course → (message : Msg) → Among (Took message) (own number course)
    → (place : PostAt) × WasPosted course place message
taken_posted cluster number [] stepped message among = absurd among
taken_posted cluster number (moved ∷ course) stepped message among = on (eqb moved.node number) among (taken_posted cluster number course stepped.0 message)
  where
    more : (place : PostAt) × WasPosted course place message → (place : PostAt) × WasPosted (moved ∷ course) place message
    more it = (it.0, inr it.1)

    on : (b : Bool) → Among (Took message) (cond b (moved.event ∷ own number course) (own number course))
        → (Among (Took message) (own number course) → (place : PostAt) × WasPosted course place message)
        → (place : PostAt) × WasPosted (moved ∷ course) place message
    on true (inl is) rest = more (taken_on cluster course moved message stepped.1.carries is)
    on true (inr among) rest = more (rest among)
    on false among rest = more (rest among)

-- ---- Dones

pub among_any : (such : Event → Bool) (past : Past) → list_any such past ≡ true → (event : Event) × Among event past × (such event ≡ true)
among_any such [] any = absurd (cc)
among_any such (first ∷ past) any = on (such first) refl any (among_any such past)
  where
    on : (b : Bool) → such first ≡ b → b || list_any such past ≡ true → (list_any such past ≡ true → (event : Event) × Among event past × (such event ≡ true))
        → (event : Event) × Among event (first ∷ past) × (such event ≡ true)
    on true is any rest = (first, inl refl, is)
    on false is any rest = let it = rest any in (it.0, inr it.1, it.2)

all_among : (such : Child → Bool) (children : List Child) → list_all such children ≡ true → (child : Child) → Among child children → such child ≡ true
all_among such [] all child among = absurd among
all_among such (first ∷ children) all child (inl same) = subst (λ it. such it ≡ true) same (both_true (such first) (list_all such children) all).0
all_among such (first ∷ children) all child (inr among) = all_among such children (both_true (such first) (list_all such children) all).1 child among

done_said : (join : JoinId) (index : ℕ) (said : Body) → is_some (done_in join index said) ≡ true → (value : ℤ) × (said ≡ body.Done join index value)
done_said join index (body.Fetch page) is = absurd (cc)
done_said join index (body.Page page words) is = absurd (cc)
done_said join index (body.Reconcile parts) is = absurd (cc)
done_said join index body.Ack is = absurd (cc)
done_said join index body.Ask is = absurd (cc)
done_said join index (body.Grant closure) is = absurd (cc)
done_said join index body.Refuse is = absurd (cc)
done_said join index (body.Done other child value) is = on (same_join other join && eqb child index) refl is
  where
    on : (b : Bool) → same_join other join && eqb child index ≡ b → is_some (cond b (Some value) None) ≡ true
        → (it : ℤ) × (body.Done other child value ≡ body.Done join index it)
    on true same is =
        let both = both_true (same_join other join) (eqb child index) same in
        let joins = same_join_is other join both.0 in
        let indices : child ≡ index = let test = both.1 in grind (arith, nat_tests) in
        (value, λ i. body.Done (joins i) (indices i) value)
    on false same is = absurd (cc)
done_said join index (body.Park other closure) is = absurd (cc)
done_said join index (body.Add frame at word addend) is = absurd (cc)
done_said join index (body.Added old) is = absurd (cc)

pub done_event : (join : JoinId) (index : ℕ) (event : Event) → is_some (done_by join index event) ≡ true
    → (message : Msg) × (value : ℤ) × (event ≡ Took message) × (message.body ≡ body.Done join index value)
done_event join index (Did item) is = absurd (cc)
done_event join index (Sent message) is = absurd (cc)
done_event join index (Took message) is = let it = done_said join index message.body is in (message, it.0, refl, it.1)
done_event join index (Ended end) is = absurd (cc)

-- ---- complete joins

-- an act of a frame bears one child
abbrev pub BearsOnce : Course → Type 0
BearsOnce course = (parent : FrameId) (index : ℕ) (child other : FrameId) → Born parent index child course → Born parent index other course → child ≡ other

module _ (cluster : Cluster) (course : Course) (stepped : Stepped cluster course) (once : BearsOnce course)
    (says : (place : PostAt) (message : Msg) → WasPosted course place message → Saying cluster course message.body) (number : ℕ) where
  done_returned : (join : JoinId) (entry : Child) → is_done join (own number course) entry ≡ true → Returned cluster course join entry.index
  done_returned join entry is =
      let found = among_any (λ event. is_some (done_by join entry.index event)) (own number course) is in
      let done = done_event join entry.index found.0 found.2 in
      let among : Among (Took done.0) (own number course) = subst (λ it. Among it (own number course)) done.2 found.1 in
      let posted = taken_posted cluster number course stepped done.0 among in
      subst (Saying cluster course) done.3 (says posted.0 done.0 posted.1)

  complete_told : (one : Parked) → Waiting cluster course one.join one.closure → is_complete (own number course) one ≡ true → (child : FrameId)
      → IsNoted course one.closure.id one.closure.away child → Told cluster course one.closure.id child
  complete_told one waiting complete child noted =
      let done = all_among (is_done one.join (own number course)) one.closure.away complete noted.entry noted.among in
      let it = done_returned one.join noted.entry done in
      let some : Some it.parent ≡ Some one.closure.id = sym it.named ∙ waiting.fits.joined one.join waiting.at_join in
      let parent : it.parent ≡ one.closure.id = cc in
      let same =
      once one.closure.id noted.entry.index child it.child noted.born (subst (λ frame. Born frame noted.entry.index it.child course) parent it.born) in
      subst (λ other. Told cluster course one.closure.id other) (sym same) (subst (λ frame. Told cluster course frame it.child) parent it.told)

  joined_lies : (one : Parked) → Waiting cluster course one.join one.closure → is_complete (own number course) one ≡ true
      → Lying cluster course (tie_of (joined (node_at cluster number) (own number course) one))
  joined_lies one waiting complete = record {
    fits = record {
      known = waiting.fits.known;
      rooted = waiting.fits.rooted;
      linked = waiting.fits.linked;
      joined = λ join is. absurd (cc);
      waits = λ child gone. inl (on child (waiting.fits.waits child gone));
    };
    complete = λ parking. refl;
  }
    where
      on : (child : FrameId) → Told cluster course one.closure.id child ⊎ IsNoted course one.closure.id one.closure.away child
          → Told cluster course one.closure.id child
      on child (inl told) = told
      on child (inr noted) = complete_told one waiting complete child noted

  all_joined_lie : (parked : List Parked) → AllWaiting cluster course parked
      → AllLying cluster course (all_joined (node_at cluster number) (own number course) parked)
  all_joined_lie [] all = tt
  all_joined_lie (one ∷ parked) all = on (is_complete (own number course) one) refl (all_joined_lie parked all.1)
    where
      on : (b : Bool) → is_complete (own number course) one ≡ b → AllLying cluster course (all_joined (node_at cluster number) (own number course) parked)
          → AllLying cluster course
          (cond b (joined (node_at cluster number) (own number course) one ∷ all_joined (node_at cluster number) (own number course) parked)
          (all_joined (node_at cluster number) (own number course) parked))
      on true is rest = (joined_lies one all.0 is, rest)
      on false is rest = rest

  still_wait : (parked : List Parked) → AllWaiting cluster course parked → AllWaiting cluster course (still_parked (own number course) parked)
  still_wait [] all = tt
  still_wait (one ∷ parked) all = on (is_complete (own number course) one) (still_wait parked all.1)
    where
      on : (b : Bool) → AllWaiting cluster course (still_parked (own number course) parked)
          → AllWaiting cluster course (cond b (still_parked (own number course) parked) (one ∷ still_parked (own number course) parked))
      on true rest = rest
      on false rest = (all.0, rest)

  -- The frames of complete joins come to the ready list.
  pub joined_keeps : (frames : Frames) → Keeps cluster course frames → Keeps cluster course (with_joined (node_at cluster number) (own number course) frames)
  joined_keeps frames keeps = record {
    stack = keeps.stack;
    ready =
        lying_append cluster course frames.ready (all_joined (node_at cluster number) (own number course) frames.parked) keeps.ready
        (all_joined_lie frames.parked keeps.parked);
    parked = still_wait frames.parked keeps.parked;
  }
