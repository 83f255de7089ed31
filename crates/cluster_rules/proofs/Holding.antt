-- Each frame is in one place of the cluster at most: on a stack, on a ready list, parked, or in a closure that travels.
use Rattle.std.proofs.Common.{◌≡◌, ◌≢◌, ◌≤◌, ◌<◌, ◌+◌, ◌⊎◌, inl, inr, ℕ, zero, suc, ℤ, List, [], ◌∷◌, Option, Bool, true, false, cond, eqb, ◌&&◌, refl, sym, ◌∙◌, ap, subst, arith}
use Rattle.std.proofs.lemmas.Bool.Decides.{nat_tests}
use Rattle.page_messages.specs.declared.closure.FrameId.{FrameId}
use Rattle.page_messages.specs.declared.message.Msg.{Msg}
use Rattle.page_messages.specs.declared.log.LoggedAct.{LoggedAct}
use Rattle.page_messages.specs.declared.log.LoggedAct.TheVariants as act
use Rattle.page_messages.specs.declared.log.Item.{Item}
use Rattle.page_messages.specs.declared.log.Item.TheVariants as item
use Rattle.page_messages.specs.declared.log.PostAt.{PostAt}
use Rattle.cluster_rules.specs.Turns.{Event, Did, Sent, Took, Ended, Past}
use Rattle.cluster_rules.specs.Node.{Node}
use Rattle.cluster_rules.specs.Lives.{same_frame, main_id}
use Rattle.cluster_rules.specs.Frames.{frames_of, next_frame, spawns_on}
use Rattle.cluster_rules.specs.Runs.{Cluster, node_at, IsFree, IsOwed, MayDo}
use Rattle.cluster_rules.specs.Allowed.{IsAllowed}
use Rattle.cluster_rules.specs.Positions.{Moved, Course, own}
use Rattle.cluster_rules.proofs.Stepping.{Carries, Step, Stepped}
use Rattle.cluster_rules.proofs.Letters.{letters_on, letters_of, amount_of, letter_sent, letter_taken}
use Rattle.cluster_rules.proofs.Summing.{sum_below, sum_change, sum_two, one_or_two}
use Rattle.cluster_rules.proofs.Marks.{Mark, one, many, named, marks_of, same_self, same_name}
use Rattle.cluster_rules.proofs.Passing.{closure_marks, gone_by, come_by, advanced_by, risen, born_by, passes}
use Rattle.cluster_rules.proofs.Testing.{own_number}

-- ---- what is held

-- how many marks of a node are such
abbrev pub at_node : Cluster → Course → (Mark → Bool) → ℕ → ℕ
at_node cluster course such number = many such (marks_of (frames_of (node_at cluster number) (own number course)))

abbrev pub in_message : (Mark → Bool) → Msg → ℕ
in_message such message = many such (closure_marks message.body)

-- and of the closures that travel
abbrev pub flying : Course → (Mark → Bool) → ℕ
flying course such = amount_of (in_message such) (letters_of course)

abbrev pub held_by : Cluster → Course → (Mark → Bool) → ℕ
held_by cluster course such = sum_below cluster.config.nodes (at_node cluster course such) + flying course such

-- How often a frame is on the stacks, ready lists and parked lists of all nodes, and in closures that travel.
abbrev pub held : Cluster → Course → FrameId → ℕ
held cluster course frame = held_by cluster course (named frame)

-- ---- the past of a node behind one event more

pub own_first : (moved : Moved) (course : Course) → own moved.node (moved ∷ course) ≡ moved.event ∷ own moved.node course
own_first moved course = rw (own_number moved.node) refl

pub own_other : (number : ℕ) (moved : Moved) (course : Course) → number ≢ moved.node → own number (moved ∷ course) ≡ own number course
own_other number moved course other = let not : eqb moved.node number ≡ false = grind (arith, nat_tests) in rw not refl

-- ---- what an event makes of what is held

flying_changes : (cluster : Cluster) (course : Course) (such : Mark → Bool) (node : ℕ) (here : Option PostAt) (event : Event) → Stepped cluster course
    → Carries course node here event
    → amount_of (in_message such) (letters_on event here (letters_of course)) + many such (come_by event) ≡ flying course such + many such (gone_by event)
flying_changes cluster course such node here (Did item) stepped carries = refl
flying_changes cluster course such node here (Sent message) stepped carries =
    let more = letter_sent cluster (in_message such) course node here message carries in omega (arith, more)
flying_changes cluster course such node here (Took message) stepped carries =
    let less = letter_taken cluster (in_message such) course node here message stepped carries in omega (arith, less)
flying_changes cluster course such node here (Ended end) stepped carries = refl

-- the frames that are one act further
abbrev pub advanced : Cluster → Course → Moved → List Mark
advanced cluster course moved = advanced_by (node_at cluster moved.node) (own moved.node course) moved.event

module _ (cluster : Cluster) (course : Course) (moved : Moved) (stepped : Stepped cluster course) (step : Step cluster course moved) where
  pub held_changes : (such : Mark → Bool)
      → held_by cluster (moved ∷ course) such + many such (advanced cluster course moved)
      ≤ held_by cluster course such + many such (risen (advanced cluster course moved)) + many such (born_by moved.event)
  held_changes such =
      let here = passes (node_at cluster moved.node) (own moved.node course) moved.event step.allowed such in
      let after : at_node cluster (moved ∷ course) such moved.node
      ≡ many such (marks_of (frames_of (node_at cluster moved.node) (moved.event ∷ own moved.node course))) =
      ap (λ past. many such (marks_of (frames_of (node_at cluster moved.node) past))) (own_first moved course) in
      let sum = sum_change cluster.config.nodes (at_node cluster course such) (at_node cluster (moved ∷ course) such) moved.node step.within
      (λ number other. ap (λ past. many such (marks_of (frames_of (node_at cluster number) past))) (own_other number moved course other)) in
      let letters = flying_changes cluster course such moved.node moved.message moved.event stepped step.carries in
      omega (arith, here, after, sum, letters)

-- ---- names

-- the name was not given yet
abbrev pub Unknown : Cluster → Course → FrameId → Type 0
Unknown cluster course frame = next_frame (node_at cluster frame.node) (own frame.node course) ≤ frame.number

next_on : (node : Node) (number : ℕ) (moved : Moved) (course : Course) → next_frame node (own number course) ≤ next_frame node (own number (moved ∷ course))
unfolding next_frame
next_on node number moved course = on (eqb moved.node number)
  where
    on : (b : Bool) → next_frame node (own number course) ≤ next_frame node (cond b (moved.event ∷ own number course) (own number course))
    on true = omega arith
    on false = omega arith

-- the numbers that are given grow
pub next_grows : (cluster : Cluster) (course : Course) (moved : Moved) (frame : FrameId)
    → next_frame (node_at cluster frame.node) (own frame.node course) ≤ next_frame (node_at cluster frame.node) (own frame.node (moved ∷ course))
next_grows cluster course moved frame = next_on (node_at cluster frame.node) frame.node moved course

-- what is unknown was so before
pub unknown_before : (cluster : Cluster) (course : Course) (moved : Moved) (frame : FrameId) → Unknown cluster (moved ∷ course) frame
    → Unknown cluster course frame
unknown_before cluster course moved frame unknown = let less = next_on (node_at cluster frame.node) frame.node moved course in omega (arith, less, unknown)

-- The frame is born by this event: it gets the next number of its node.
pub record IsBorn (cluster : Cluster) (course : Course) (moved : Moved) (frame : FrameId) : Type 0 where
  pub marks_are : born_by moved.event ≡ record { id = frame; acts = 0 } ∷ []
  pub was : next_frame (node_at cluster frame.node) (own frame.node course) ≡ frame.number
  pub now : next_frame (node_at cluster frame.node) (own frame.node (moved ∷ course)) ≡ suc frame.number

next_first : (node : Node) (moved : Moved) (course : Course)
    → next_frame node (own moved.node (moved ∷ course)) ≡ next_frame node (own moved.node course) + spawns_on moved.event
unfolding next_frame
next_first node moved course = ap (next_frame node) (own_first moved course)

module _ (cluster : Cluster) (course : Course) (moved : Moved) where
  abbrev node : Node
  node = node_at cluster moved.node

  abbrev past : Past
  past = own moved.node course

  -- none of this name is born, or this one
  abbrev Births : FrameId → Type 0
  Births frame = (many (named frame) (born_by moved.event) ≡ 0) ⊎ IsBorn cluster course moved frame

  none_born : (frame : FrameId) (event : Event) → moved.event ≡ event → born_by event ≡ [] → Births frame
  none_born frame event is none = inl (ap (λ it. many (named frame) (born_by it)) is ∙ ap (many (named frame)) none)

  spawn_births : (frame parent child : FrameId) (index procedure : ℕ) (arguments : List ℤ)
      → moved.event ≡ Did (item.Act parent index (act.Spawn child procedure arguments))
      → child ≡ record { node = moved.node; number = next_frame node past } → Births frame
  spawn_births frame parent child index procedure arguments is name = on (same_frame child frame) refl
    where
      by_spawn : born_by moved.event ≡ record { id = child; acts = 0 } ∷ []
      by_spawn = ap born_by is

      child_born : IsBorn cluster course moved (record { node = moved.node; number = next_frame node past })
      child_born = record {
        marks_are = by_spawn ∙ ap (λ (it : FrameId). record { id = it; acts = 0 } ∷ []) name;
        was = refl;
        now = let next = next_first node moved course in let spawns : spawns_on moved.event ≡ 1 = ap spawns_on is in omega (arith, next, spawns);
      }

      on : (b : Bool) → same_frame child frame ≡ b → Births frame
      on true same = inr (subst (IsBorn cluster course moved) (sym name ∙ same_name child frame same) child_born)
      on false same = inl (ap (many (named frame)) by_spawn ∙ rw same refl)

  act_births : (frame parent : FrameId) (index : ℕ) (done : LoggedAct) → moved.event ≡ Did (item.Act parent index done)
      → IsOwed node past (item.Act parent index done)
      ⊎ (IsFree past × (rest : List Item) × (posts : List Msg) × MayDo node past (item.Act parent index done) rest posts) → Births frame
  act_births frame parent index done is (inl owed) = absurd owed
  act_births frame parent index (act.Read word value) is (inr may) = none_born frame (Did (item.Act parent index (act.Read word value))) is refl
  act_births frame parent index (act.Write word value) is (inr may) = none_born frame (Did (item.Act parent index (act.Write word value))) is refl
  act_births frame parent index (act.Print value) is (inr may) = none_born frame (Did (item.Act parent index (act.Print value))) is refl
  act_births frame parent index (act.Spawn child procedure arguments) is (inr may) =
      spawn_births frame parent child index procedure arguments is may.3.makes.name
  act_births frame parent index act.Sync is (inr may) = none_born frame (Did (item.Act parent index act.Sync)) is refl

  event_births : (frame : FrameId) (event : Event) → moved.event ≡ event → IsAllowed node past event → Births frame
  event_births frame (Did (item.Act parent index done)) is does = act_births frame parent index done is (spread does.rest does.posts does.may)
    where
      spread : (rest : List Item) (posts : List Msg)
          → IsOwed node past (item.Act parent index done) ⊎ (IsFree past × MayDo node past (item.Act parent index done) rest posts)
          → IsOwed node past (item.Act parent index done)
          ⊎ (IsFree past × (rest : List Item) × (posts : List Msg) × MayDo node past (item.Act parent index done) rest posts)
      spread rest posts (inl owed) = inl owed
      spread rest posts (inr both) = inr (both.0, rest, posts, both.1)
  event_births frame (Did (item.Tick other)) is does = none_born frame (Did (item.Tick other)) is refl
  event_births frame (Did (item.Drop page)) is does = none_born frame (Did (item.Drop page)) is refl
  event_births frame (Did (item.TakeUp other)) is does = none_born frame (Did (item.TakeUp other)) is refl
  event_births frame (Did (item.OwnFetch page words)) is does = none_born frame (Did (item.OwnFetch page words)) is refl
  event_births frame (Did (item.OwnReconcile part)) is does = none_born frame (Did (item.OwnReconcile part)) is refl
  event_births frame (Did (item.Served other index word old addend)) is does = none_born frame (Did (item.Served other index word old addend)) is refl
  event_births frame (Sent message) is may = none_born frame (Sent message) is refl
  event_births frame (Took message) is may = none_born frame (Took message) is refl
  event_births frame (Ended end) is may = none_born frame (Ended end) is refl

  pub births : (frame : FrameId) → Step cluster course moved → Births frame
  births frame step = event_births frame moved.event refl step.allowed

-- ---- at the start

abbrev pub main_mark : Mark
main_mark = record { id = main_id; acts = 0 }

start_node : (cluster : Cluster) (such : Mark → Bool) (number : ℕ) → at_node cluster [] such number ≡ cond (eqb number 0) (one (such main_mark)) 0
unfolding frames_of
start_node cluster such number = on (eqb number 0) refl
  where
    on : (b : Bool) → eqb number 0 ≡ b → at_node cluster [] such number ≡ cond b (one (such main_mark)) 0
    on true is = rw is (omega arith)
    on false is = rw is refl

start_sum : (cluster : Cluster) (such : Mark → Bool) (count : ℕ) → sum_below count (at_node cluster [] such) ≤ one (such main_mark)
start_sum cluster such zero = omega arith
start_sum cluster such (suc zero) = let first : at_node cluster [] such 0 ≡ one (such main_mark) = start_node cluster such 0 in omega (arith, first)
start_sum cluster such (suc (suc count)) =
    let other : eqb (suc count) 0 ≡ false = grind (arith, nat_tests) in
    let none : at_node cluster [] such (suc count) ≡ 0 = start_node cluster such (suc count) ∙ ap (λ b. cond b (one (such main_mark)) 0) other in
    let rest = start_sum cluster such (suc count) in omega (arith, none, rest)

-- only `main` is held at the start
pub held_start : (cluster : Cluster) (such : Mark → Bool) → held_by cluster [] such ≤ one (such main_mark)
held_start cluster such = let sum = start_sum cluster such cluster.config.nodes in omega (arith, sum)

pub main_known : (cluster : Cluster) (frame : FrameId) → Unknown cluster [] frame → same_frame main_id frame ≡ false
unfolding next_frame
main_known cluster frame unknown = on (eqb frame.node 0) refl (eqb 0 frame.node) refl (eqb 0 frame.number) refl unknown
  where
    on : (a : Bool) → eqb frame.node 0 ≡ a → (b : Bool) → eqb 0 frame.node ≡ b → (c : Bool) → eqb 0 frame.number ≡ c → cond a 1 0 ≤ frame.number
        → b && c ≡ false
    on true is true was true number less = grind (arith, nat_tests)
    on true is true was false number less = refl
    on false is true was c number less = let same : 0 ≡ frame.node = grind (arith, nat_tests) in grind (arith, nat_tests)
    on a is false was c number less = refl

-- ---- once

pub record HoldsOnce (cluster : Cluster) (course : Course) : Type 0 where
  pub unknown : (frame : FrameId) → Unknown cluster course frame → held cluster course frame ≡ 0
  pub once : (frame : FrameId) → held cluster course frame ≤ 1

one_at_most : (b : Bool) → one b ≤ 1
one_at_most true = omega arith
one_at_most false = omega arith

pub same_risen : (frame : FrameId) (marks : List Mark) → many (named frame) (risen marks) ≡ many (named frame) marks
same_risen frame [] = refl
same_risen frame (mark ∷ marks) = ap (λ it. one (named frame mark) + it) (same_risen frame marks)

pub born_one : (frame : FrameId) → many (named frame) (record { id = frame; acts = 0 } ∷ []) ≡ 1
born_one frame = rw (same_self frame) refl

pub held_more : (cluster : Cluster) (course : Course) (moved : Moved) → Stepped cluster course → Step cluster course moved → (frame : FrameId)
    → held cluster (moved ∷ course) frame ≤ held cluster course frame + many (named frame) (born_by moved.event)
held_more cluster course moved stepped step frame =
    let changes = held_changes cluster course moved stepped step (named frame) in
    let same = same_risen frame (advanced cluster course moved) in omega (arith, changes, same)

unknown_next : (cluster : Cluster) (course : Course) (moved : Moved) → Stepped cluster course → Step cluster course moved → HoldsOnce cluster course
    → (frame : FrameId)
    → Unknown cluster (moved ∷ course) frame → held cluster (moved ∷ course) frame ≡ 0
unknown_next cluster course moved stepped step holds frame unknown = on (births cluster course moved frame step)
  where
    on : (many (named frame) (born_by moved.event) ≡ 0) ⊎ IsBorn cluster course moved frame → held cluster (moved ∷ course) frame ≡ 0
    on (inl none) =
        let more = held_more cluster course moved stepped step frame in
        let before = holds.unknown frame (unknown_before cluster course moved frame unknown) in omega (arith, more, before, none)
    on (inr born) = let now = born.now in absurd (omega (arith, now, unknown))

once_next : (cluster : Cluster) (course : Course) (moved : Moved) → Stepped cluster course → Step cluster course moved → HoldsOnce cluster course
    → (frame : FrameId)
    → held cluster (moved ∷ course) frame ≤ 1
once_next cluster course moved stepped step holds frame = on (births cluster course moved frame step)
  where
    on : (many (named frame) (born_by moved.event) ≡ 0) ⊎ IsBorn cluster course moved frame → held cluster (moved ∷ course) frame ≤ 1
    on (inl none) =
        let more = held_more cluster course moved stepped step frame in
        let before = holds.once frame in omega (arith, more, before, none)
    on (inr born) =
        let more = held_more cluster course moved stepped step frame in
        let was = born.was in
        let before = holds.unknown frame (omega (arith, was)) in
        let count = ap (many (named frame)) born.marks_are ∙ born_one frame in omega (arith, more, before, count)

pub holds_once : (cluster : Cluster) (course : Course) → Stepped cluster course → HoldsOnce cluster course
holds_once cluster [] stepped = record {
  unknown = λ frame unknown. let start = held_start cluster (named frame) in let other = main_known cluster frame unknown in
      let none : one (named frame main_mark) ≡ 0 = ap one other in omega (arith, start, none);
  once = λ frame. let start = held_start cluster (named frame) in let least = one_at_most (named frame main_mark) in omega (arith, start, least);
}
holds_once cluster (moved ∷ course) stepped =
    let before = holds_once cluster course stepped.0 in
    record { unknown = unknown_next cluster course moved stepped.0 stepped.1 before; once = once_next cluster course moved stepped.0 stepped.1 before }

-- Each frame is in one place at most.
pub held_once : (cluster : Cluster) (course : Course) → Stepped cluster course → (frame : FrameId) → held cluster course frame ≤ 1
held_once cluster course stepped = (holds_once cluster course stepped).once

-- A frame whose name was not given is nowhere.
pub held_known : (cluster : Cluster) (course : Course) → Stepped cluster course → (frame : FrameId) → Unknown cluster course frame
    → held cluster course frame ≡ 0
held_known cluster course stepped = (holds_once cluster course stepped).unknown

-- A frame that one node has is not at another one.
pub one_node : (cluster : Cluster) (course : Course) → Stepped cluster course → (frame : FrameId) (number other : ℕ) → number < cluster.config.nodes
    → other < cluster.config.nodes
    → 1 ≤ at_node cluster course (named frame) number → 1 ≤ at_node cluster course (named frame) other → number ≡ other
one_node cluster course stepped frame number other less below here there = on (one_or_two number other)
  where
    on : (number ≡ other) ⊎ (number ≢ other) → number ≡ other
    on (inl same) = same
    on (inr not) =
        let both = sum_two cluster.config.nodes (at_node cluster course (named frame)) number other less below not in
        let once = held_once cluster course stepped frame in absurd (omega (arith, both, once, here, there))
