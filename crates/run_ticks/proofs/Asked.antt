-- Which adds are asked for by a message: those that a home serves while it owes one, and no others.
use Rattle.std.proofs.Common.{◌≡◌, ◌≤◌, ◌+◌, ◌⊎◌, inl, inr, ℕ, zero, suc, ℤ, [], ◌∷◌, ◌++◌, Bool, true, false, cond, not, eqb, ◌&&◌, ◌||◌, refl, sym, ◌∙◌, ap, subst, arith}
use Rattle.page_messages.specs.Posts.{note_of}
use Rattle.page_messages.specs.declared.closure.FrameId.{FrameId}
use Rattle.page_messages.specs.declared.message.Msg.{Msg}
use Rattle.page_messages.specs.declared.message.Body.{Body}
use Rattle.page_messages.specs.declared.message.Body.TheVariants as body
use Rattle.page_messages.specs.declared.log.Item.{Item}
use Rattle.page_messages.specs.declared.log.Item.TheVariants as item
use Rattle.cluster_rules.specs.Walking.{is_empty}
use Rattle.cluster_rules.specs.Turns.{Event, Did, Sent, Took, Ended, Past}
use Rattle.cluster_rules.specs.Home.{owed_adds}
use Rattle.cluster_rules.specs.Lives.{same_frame}
use Rattle.cluster_rules.specs.Acting.{Serves, MayAddHere}
use Rattle.cluster_rules.specs.Allowed.{IsAllowed}
use Rattle.cluster_rules.specs.Counting.{asks_for}
use Rattle.cluster_rules.specs.Frames.{stack_of}
use Rattle.cluster_rules.specs.Positions.{Moved, Course, own}
use Rattle.cluster_rules.specs.Runs.{Cluster, IsFree, MayDo, node_at}
use Rattle.cluster_rules.proofs.Stepping.{Stepped}
use Rattle.cluster_rules.proofs.Marks.{one, same_self, same_name, AddsFirst}
use Rattle.cluster_rules.proofs.Testing.{own_number, both_true, neither}
use Rattle.cluster_rules.proofs.Passing.{is_among}
use Rattle.cluster_rules.proofs.Holding.{one_node}
use Rattle.cluster_rules.proofs.Phases.{Phase, Idle, Asked, phase_of, phase_on, after_post, is_told_of, waits_in, IsFirst}
use Rattle.cluster_rules.proofs.Phasing.{quiet_idle, is_one, equal_number}
use Rattle.cluster_rules.proofs.Asking.{phased, asked_by}
use Rattle.cluster_rules.proofs.UnderWay.{adds_body, add_from, only_adds, first_amount, serves_amount, waiting, owed_counts}
use Rattle.cluster_rules.proofs.Claiming.{acts_before, claims_event}
use Rattle.cluster_rules.proofs.Indexing.{stack_mark, mark_named, first_stack_mark, mark_acts, index_is_count}
use Rattle.run_ticks.proofs.Waiting.{event_serves, posts_amount, posted_amount, served_amount, waiting_sum}

both_false : (first second : Bool) → second ≡ false → first && second ≡ false
both_false true second is = is
both_false false second is = refl

never : (b : Bool) → false ≡ b && false
never b = sym (both_false b false refl)

pub some_of : (first second : ℕ) → 1 ≤ first + second → (1 ≤ first) ⊎ (1 ≤ second)
some_of zero second some = inr (omega (arith, some))
some_of (suc first) second some = inl (omega arith)

either_true : (first second : Bool) → second ≡ true → first || second ≡ true
either_true true second is = refl
either_true false second is = is

module _ (frame : FrameId) (index : ℕ) where
  -- a message that asks for the act of this frame and index is posted
  abbrev pub asks_event : Event → Bool
  asks_event (Did done) = false
  asks_event (Sent message) = asks_for frame index (note_of message.body)
  asks_event (Took message) = false
  asks_event (Ended end) = false

  abbrev pub asked_in : Course → Bool
  asked_in [] = false
  asked_in (moved ∷ course) = asks_event moved.event || asked_in course

  -- by whomever it is asked
  adds_asked : (number sender : ℕ) (said : Body) → adds_body number frame index sender said ≡ eqb sender number && asks_for frame index (note_of said)
  adds_asked number sender (body.Fetch page) = never (eqb sender number)
  adds_asked number sender (body.Page page words) = never (eqb sender number)
  adds_asked number sender (body.Reconcile parts) = never (eqb sender number)
  adds_asked number sender body.Ack = never (eqb sender number)
  adds_asked number sender body.Ask = never (eqb sender number)
  adds_asked number sender (body.Grant closure) = never (eqb sender number)
  adds_asked number sender body.Refuse = never (eqb sender number)
  adds_asked number sender (body.Done join child value) = never (eqb sender number)
  adds_asked number sender (body.Park join closure) = never (eqb sender number)
  adds_asked number sender (body.Add other acts word addend) = refl
  adds_asked number sender (body.Added old) = never (eqb sender number)

  -- an Add of the frame and index, from this node
  abbrev from : ℕ → Msg → ℕ
  from number = add_from number frame index

  -- Adds of the frame and index from a node: what waits and what was served is what was posted
  from_sum : (cluster : Cluster) (course : Course) → Stepped cluster course → (number : ℕ)
      → waiting (from number) cluster course + served_amount (from number) course ≡ posted_amount (from number) course
  from_sum cluster course stepped number =
      waiting_sum (from number) (only_adds number frame index) cluster course stepped

  -- ---- none was posted, or one node posted one

  posts_none : (number : ℕ) (event : Event) → asks_event event ≡ false → posts_amount (from number) event ≡ 0
  posts_none number (Did done) none = refl
  posts_none number (Sent message) none =
      ap one (adds_asked number message.sender message.body ∙ both_false (eqb message.sender number) (asks_for frame index (note_of message.body)) none)
  posts_none number (Took message) none = refl
  posts_none number (Ended end) none = refl

  posted_none : (number : ℕ) (course : Course) → asked_in course ≡ false → posted_amount (from number) course ≡ 0
  posted_none number [] none = refl
  posted_none number (moved ∷ course) none =
      let both = neither (asks_event moved.event) (asked_in course) none in
      let here = posts_none number moved.event both.0 in
      let before = posted_none number course both.1 in omega (arith, here, before)

  posts_some : (event : Event) → asks_event event ≡ true → (number : ℕ) × (1 ≤ posts_amount (from number) event)
  posts_some (Did done) is = absurd (cc)
  posts_some (Sent message) is =
      let asked = ap one (adds_asked message.sender message.sender message.body) in
      let amount : from message.sender message ≡ 1 = asked ∙ rw (own_number message.sender, is) refl in
      (message.sender, omega (arith, amount))
  posts_some (Took message) is = absurd (cc)
  posts_some (Ended end) is = absurd (cc)

  posted_some : (course : Course) → asked_in course ≡ true → (number : ℕ) × (1 ≤ posted_amount (from number) course)
  posted_some [] is = absurd (cc)
  posted_some (moved ∷ course) is = on (asks_event moved.event) refl is (posted_some course)
    where
      on : (b : Bool) → asks_event moved.event ≡ b → b || asked_in course ≡ true
          → (asked_in course ≡ true → (number : ℕ) × (1 ≤ posted_amount (from number) course))
          → (number : ℕ) × (1 ≤ posted_amount (from number) (moved ∷ course))
      on true here any rest = let it = posts_some moved.event here in let some = it.1 in (it.0, omega (arith, some))
      on false not any rest = let it = rest any in let some = it.1 in (it.0, omega (arith, some))

  module _ (cluster : Cluster) where
    -- ---- what is served is an act of the frame with this index

    serves_claims : (number : ℕ) (done : Item) (past : Past) (home : ℕ) → IsAllowed (node_at cluster home) past (Did done)
        → 1 ≤ serves_amount (from number) done (owed_adds past)
        → (word : ℕ) × (old : ℤ) × (addend : ℤ) × (done ≡ item.Served frame index word old addend)
    serves_claims number (item.Act other acts act) past home does some = absurd (omega (arith, some))
    serves_claims number (item.Tick other) past home does some = absurd (omega (arith, some))
    serves_claims number (item.Drop page) past home does some = absurd (omega (arith, some))
    serves_claims number (item.TakeUp other) past home does some = absurd (omega (arith, some))
    serves_claims number (item.OwnFetch page words) past home does some = absurd (omega (arith, some))
    serves_claims number (item.OwnReconcile part) past home does some = absurd (omega (arith, some))
    serves_claims number (item.Served other acts word old addend) past home does some = (word, old, addend, on does.may)
      where
        on : Serves (node_at cluster home) past other acts word old addend
            ⊎ (IsFree past × MayDo (node_at cluster home) past (item.Served other acts word old addend) does.rest does.posts)
            → item.Served other acts word old addend ≡ item.Served frame index word old addend
        on (inl serves) =
            let amount : first_amount (from number) (owed_adds past) ≡ one (adds_body number frame index serves.add.sender (body.Add other acts word addend)) =
            ap (first_amount (from number)) serves.oldest ∙ ap (λ it. one (adds_body number frame index serves.add.sender it)) serves.asked in
            let is = is_one (adds_body number frame index serves.add.sender (body.Add other acts word addend)) (omega (arith, some, amount)) in
            let both = both_true (eqb serves.add.sender number) (same_frame other frame && eqb acts index) is in
            let parts = both_true (same_frame other frame) (eqb acts index) both.1 in
            ap (λ it. item.Served it acts word old addend) (same_name other frame parts.0)
            ∙ ap (λ it. item.Served frame it word old addend) (equal_number acts index parts.1)
        on (inr both) =
            let amount : first_amount (from number) (owed_adds past) ≡ 0 = ap (first_amount (from number)) both.0.none_owed in
            absurd (omega (arith, some, amount))

    -- an act that is made here is counted with those before it
    made_here : (moved : Moved) (course : Course) → Stepped cluster (moved ∷ course) → (word : ℕ) (old addend : ℤ)
        → moved.event ≡ Did (item.Served frame index word old addend)
        → suc index ≡ acts_before frame (moved ∷ course)
    made_here moved course stepped word old addend is =
        let count = index_is_count cluster course moved stepped (item.Served frame index word old addend) is frame index (refl, refl) in
        let claims : claims_event frame moved.event ≡ 1 = ap (claims_event frame) is ∙ ap one (same_self frame) in omega (arith, count, claims)

    served_made : (number : ℕ) (course : Course) → Stepped cluster course → 1 ≤ served_amount (from number) course → suc index ≤ acts_before frame course
    served_made number [] stepped some = absurd (omega (arith, some))
    served_made number (moved ∷ course) stepped some = on moved.event refl stepped.1.allowed some (served_made number course stepped.0)
      where
        on : (event : Event) → moved.event ≡ event → IsAllowed (node_at cluster moved.node) (own moved.node course) event
            → 1 ≤ served_amount (from number) course + event_serves (from number) event (own moved.node course)
            → (1 ≤ served_amount (from number) course → suc index ≤ acts_before frame course) → suc index ≤ acts_before frame (moved ∷ course)
        on (Did done) is does some rest =
            elim (some_of (served_amount (from number) course) (serves_amount (from number) done (owed_adds (own moved.node course))) some) [
              | inl before ↦ let less = rest before in omega (arith, less)
              | inr here ↦
                  let it = serves_claims number done (own moved.node course) moved.node does here in
                  let made = made_here moved course stepped it.0 it.1 it.2 (is ∙ ap Did it.3) in omega (arith, made)
            ]
        on (Sent message) is does some rest = let less = rest (omega (arith, some)) in omega (arith, less)
        on (Took message) is does some rest = let less = rest (omega (arith, some)) in omega (arith, less)
        on (Ended end) is does some rest = let less = rest (omega (arith, some)) in omega (arith, less)

    -- ---- an act that is asked for is made by its home alone

    -- while it is asked for, so many acts were made
    asked_acts : (course : Course) → Stepped cluster course → (number : ℕ) → phase_of number course ≡ Asked frame index → index ≡ acts_before frame course
    asked_acts course stepped number is =
        let known = phased cluster course stepped in
        let first : AddsFirst frame index (stack_of (node_at cluster number) (own number course)) =
        subst (λ it. IsFirst it (stack_of (node_at cluster number) (own number course))) is (known.first number) in
        let mark = first_stack_mark cluster course number frame index first in
        mark_acts cluster course stepped number (known.within number (ap waits_in is)) frame index mark (ap (is_told_of frame) is)

    asks_phase : (said : Body) (phase : Phase) → asks_for frame index (note_of said) ≡ true → after_post said phase ≡ Asked frame index
    asks_phase (body.Fetch page) phase is = absurd (cc)
    asks_phase (body.Page page words) phase is = absurd (cc)
    asks_phase (body.Reconcile parts) phase is = absurd (cc)
    asks_phase body.Ack phase is = absurd (cc)
    asks_phase body.Ask phase is = absurd (cc)
    asks_phase (body.Grant closure) phase is = absurd (cc)
    asks_phase body.Refuse phase is = absurd (cc)
    asks_phase (body.Done join child value) phase is = absurd (cc)
    asks_phase (body.Park join closure) phase is = absurd (cc)
    asks_phase (body.Add other acts word addend) phase is =
        let both = both_true (same_frame other frame) (eqb acts index) is in
        ap (λ it. Asked it acts) (same_name other frame both.0) ∙ ap (Asked frame) (equal_number acts index both.1)
    asks_phase (body.Added old) phase is = absurd (cc)

    event_phase : (number : ℕ) (event : Event) (past : Past) (phase : Phase) → asks_event event ≡ true
        → phase_on number number past event phase ≡ Asked frame index
    event_phase number (Did done) past phase is = absurd (cc)
    event_phase number (Sent message) past phase is =
        ap (λ b. cond b (after_post message.body phase) phase) (own_number number) ∙ asks_phase message.body phase is
    event_phase number (Took message) past phase is = absurd (cc)
    event_phase number (Ended end) past phase is = absurd (cc)

    asked_post : (moved : Moved) (course : Course) → Stepped cluster (moved ∷ course) → asks_event moved.event ≡ true
        → index ≡ acts_before frame (moved ∷ course)
    asked_post moved course stepped is =
        asked_acts (moved ∷ course) stepped moved.node (event_phase moved.node moved.event (own moved.node course) (phase_of moved.node course) is)

    acts_more : (newer course : Course) → acts_before frame course ≤ acts_before frame (newer ++ course)
    acts_more [] course = omega arith
    acts_more (moved ∷ newer) course = let less = acts_more newer course in omega (arith, less)

    pub stepped_front : (newer course : Course) → Stepped cluster (newer ++ course) → Stepped cluster course
    stepped_front [] course stepped = stepped
    stepped_front (moved ∷ newer) course stepped = stepped_front newer course stepped.0

    asked_more : (newer course : Course) → asked_in course ≡ true → asked_in (newer ++ course) ≡ true
    asked_more [] course is = is
    asked_more (moved ∷ newer) course is = either_true (asks_event moved.event) (asked_in (newer ++ course)) (asked_more newer course is)

    module _ (moved : Moved) (course : Course) (word : ℕ) (old addend : ℤ) (is : moved.event ≡ Did (item.Served frame index word old addend))
        (stepped : Stepped cluster (moved ∷ course)) where
      abbrev past : Past
      past = own moved.node course

      -- its own node waits for nothing, and no other has the frame
      not_asked : (free : IsFree past) → MayAddHere (node_at cluster moved.node) past frame index word old addend → (number : ℕ)
          → phase_of number course ≡ Asked frame index → ⊥
      not_asked free adds number asked =
          let known = phased cluster course stepped.0 in
          let first : AddsFirst frame index (stack_of (node_at cluster number) (own number course)) =
          subst (λ it. IsFirst it (stack_of (node_at cluster number) (own number course))) asked (known.first number) in
          let there = mark_named cluster course number frame index (first_stack_mark cluster course number frame index first) in
          let among = is_among (node_at cluster moved.node) past frame adds.add.life adds.add.acts index adds.add.index_is in
          let here = mark_named cluster course moved.node frame index (stack_mark cluster course moved.node (record { id = frame; acts = index }) among) in
          let same = one_node cluster course stepped.0 frame number moved.node (known.within number (ap waits_in asked)) stepped.1.within there here in
          let idle = quiet_idle cluster course moved.node moved.message stepped.1.within known free.quiet in
          let both : Asked frame index ≡ Idle = sym asked ∙ ap (λ it. phase_of it course) same ∙ idle in absurd (cc)

      never_before : (free : IsFree past) → MayAddHere (node_at cluster moved.node) past frame index word old addend
          → (b : Bool) → asked_in course ≡ b → b ≡ false
      never_before free adds false asked = refl
      never_before free adds true asked =
          let it = posted_some course asked in
          elim (some_of (waiting (from it.0) cluster course) (served_amount (from it.0) course)
          (let sum = from_sum cluster course stepped.0 it.0 in let some = it.1 in omega (arith, sum, some))) [
            | inl waits ↦ absurd (not_asked free adds it.0 (asked_by cluster course (phased cluster course stepped.0) it.0 frame index waits))
            | inr served ↦
                let made = served_made it.0 course stepped.0 served in
                let count = index_is_count cluster course moved stepped (item.Served frame index word old addend) is frame index (refl, refl) in
                absurd (omega (arith, made, count))
          ]

      never_later : (newer : Course) → Stepped cluster (newer ++ moved ∷ course) → asked_in (moved ∷ course) ≡ false
          → asked_in (newer ++ moved ∷ course) ≡ false
      never_later [] all none = none
      never_later (latest ∷ newer) all none = on (asks_event latest.event) refl (never_later newer all.0 none)
        where
          on : (b : Bool) → asks_event latest.event ≡ b → asked_in (newer ++ moved ∷ course) ≡ false → b || asked_in (newer ++ moved ∷ course) ≡ false
          on true asks before =
              let count = asked_post latest (newer ++ moved ∷ course) all asks in
              let more = acts_more (latest ∷ newer) (moved ∷ course) in
              let made = made_here moved course stepped word old addend is in absurd (omega (arith, count, more, made))
          on false not before = before

      asked_before : (serves : Serves (node_at cluster moved.node) past frame index word old addend) → (b : Bool) → asked_in course ≡ b → b ≡ true
      asked_before serves true asked = refl
      asked_before serves false asked =
          let asker = serves.add.sender in
          let counts = owed_counts cluster course moved.node moved.message stepped.1.within (from asker) in
          let amount : first_amount (from asker) (owed_adds past) ≡ 1 =
          ap (first_amount (from asker)) serves.oldest ∙ ap (λ it. one (adds_body asker frame index asker it)) serves.asked ∙ rw (own_number asker, same_self frame, own_number index) refl in
          let sum = from_sum cluster course stepped.0 asker in
          let none = posted_none asker course asked in absurd (omega (arith, counts, amount, sum, none))

      here_only : (b : Bool) → asks_event moved.event || b ≡ b
      here_only b = rw is refl

      -- It is asked for where the home owes an Add, and else never.
      pub served_asked : (newer : Course) → Stepped cluster (newer ++ moved ∷ course) → not (asked_in (newer ++ moved ∷ course)) ≡ is_empty (owed_adds past)
      served_asked newer all = on (subst (IsAllowed (node_at cluster moved.node) past) is stepped.1.allowed)
        where
          on : IsAllowed (node_at cluster moved.node) past (Did (item.Served frame index word old addend))
              → not (asked_in (newer ++ moved ∷ course)) ≡ is_empty (owed_adds past)
          on does = elim does.may [
            | inl serves ↦
                ap not (asked_more newer (moved ∷ course) (here_only (asked_in course) ∙ asked_before serves (asked_in course) refl))
                ∙ sym (ap is_empty serves.oldest)
            | inr both ↦
                ap not (never_later newer all (here_only (asked_in course) ∙ never_before both.0 both.1 (asked_in course) refl))
                ∙ sym (ap is_empty both.0.none_owed)
          ]
