-- The frame of which an event speaks is one of its node, and is nowhere else.
use Rattle.std.proofs.Common.{◌≡◌, ◌≢◌, ◌⊎◌, inl, inr, ℕ, zero, suc, ◌+◌, ◌<◌, ◌≤◌, List, [], ◌∷◌, ◌++◌, Option, Some, None, Bool, true, false, refl, sym, ◌∙◌, ap, subst, arith}
use Rattle.std.specs.List.{list_any}
use Rattle.page_messages.specs.declared.closure.FrameId.{FrameId}
use Rattle.page_messages.specs.declared.closure.JoinId.{JoinId}
use Rattle.page_messages.specs.declared.message.Msg.{Msg}
use Rattle.page_messages.specs.declared.log.PostAt.{PostAt}
use Rattle.cluster_rules.specs.Lives.{Life, same_frame, live}
use Rattle.cluster_rules.specs.Frames.{Frames, Parked, frames_of}
use Rattle.cluster_rules.specs.Positions.{Moved, Course, own}
use Rattle.cluster_rules.specs.Runs.{Cluster, node_at}
use Rattle.cluster_rules.proofs.Stepping.{WasPosted, takes_place}
use Rattle.cluster_rules.proofs.Marks.{Mark, one, named, many_append, marks, parked_marks, marks_of, other_marks, marks_append, same_self, same_name, live_within}
use Rattle.cluster_edges.specs.Stages.{frame_in}
use Rattle.cluster_edges.proofs.News.{Told, told, news_on}
use Rattle.cluster_edges.proofs.Through.{Property, count, EachLife, EachParked, each_change, each_always, parked_change, parked_always, counted_none, parked_none}
use Rattle.cluster_edges.proofs.Placed.{OnStack, OnReady, AtJoin, Placed, Untold, Named}

abbrev pub marks_at : Cluster → Course → ℕ → List Mark
marks_at cluster course number = marks_of (frames_of (node_at cluster number) (own number course))

-- Each frame is in one place: once on a node, on one node, or in one message under way.
pub record Once (cluster : Cluster) (course : Course) : Type 0 where
  pub within : (number : ℕ) → number < cluster.config.nodes → (frame : FrameId) → count frame (marks_at cluster course number) ≤ 1
  pub apart : (number other : ℕ) → number < cluster.config.nodes → number ≢ other → (frame : FrameId) → 1 ≤ count frame (marks_at cluster course number)
      → count frame (marks_at cluster course other) ≡ 0
  pub flying : (number : ℕ) → number < cluster.config.nodes → (frame : FrameId) → 1 ≤ count frame (marks_at cluster course number)
      → (place : PostAt) (message : Msg) → WasPosted course place message → list_any (takes_place place) course ≡ false → frame_in message.body ≡ Some frame → ⊥

-- ---- counts

pub counts : (frame : FrameId) (frames : Frames)
    → count frame (marks_of frames) ≡ count frame (marks frames.stack) + (count frame (marks frames.ready) + count frame (parked_marks frames.parked))
counts frame frames =
    let a = many_append (named frame) (marks frames.stack) (other_marks frames) in
    let b = many_append (named frame) (marks frames.ready) (parked_marks frames.parked) in
    omega (arith, a, b)

-- of a stack with its bottom frame
pub count_bottom : (frame : FrameId) (above : List Life) (child parent : Life)
    → count frame (marks (above ++ (child ∷ (parent ∷ [])))) ≡ count frame (marks (above ++ (child ∷ []))) + one (same_frame parent.id frame)
count_bottom frame above child parent =
    let a = ap (count frame) (marks_append above (child ∷ (parent ∷ []))) ∙ many_append (named frame) (marks above) (marks (child ∷ (parent ∷ []))) in
    let b = ap (count frame) (marks_append above (child ∷ [])) ∙ many_append (named frame) (marks above) (marks (child ∷ [])) in
    omega (arith, a, b)

pub count_live : (frame : FrameId) (stack : List Life) → count frame (marks (live stack)) ≤ count frame (marks stack)
count_live frame stack = live_within stack (named frame)

one_self : (frame : FrameId) → one (same_frame frame frame) ≡ 1
one_self frame = ap one (same_self frame)

pub one_same : (id frame : FrameId) → id ≡ frame → one (same_frame id frame) ≡ 1
one_same id frame is = subst (λ it. one (same_frame id it) ≡ 1) is (one_self id)

-- ---- what holds of a frame that is counted

some_on : (Holds : Property) (frame : FrameId) (life : Life) (lives : List Life) (b : Bool) → same_frame life.id frame ≡ b → Holds life.id life.join
    → 1 ≤ one b + count frame (marks lives) → (1 ≤ count frame (marks lives) → (join : Option JoinId) × Holds frame join)
    → (join : Option JoinId) × Holds frame join
some_on Holds frame life lives true is here some rest = (life.join, subst (λ it. Holds it life.join) (same_name life.id frame is) here)
some_on Holds frame life lives false is here some rest = rest (omega (arith, some))

pub counted_some : (Holds : Property) (frame : FrameId) (lives : List Life) → EachLife Holds lives → 1 ≤ count frame (marks lives)
    → (join : Option JoinId) × Holds frame join
counted_some Holds frame [] all some = absurd (omega (arith, some))
counted_some Holds frame (life ∷ lives) all some =
    some_on Holds frame life lives (same_frame life.id frame) refl all.0 some (counted_some Holds frame lives all.1)

parked_on : (Holds : FrameId → Type 0) (frame : FrameId) (first : Parked) (parked : List Parked) (b : Bool) → same_frame first.closure.id frame ≡ b
    → Holds first.closure.id
    → 1 ≤ one b + count frame (parked_marks parked) → (1 ≤ count frame (parked_marks parked) → Holds frame) → Holds frame
parked_on Holds frame first parked true is here some rest = subst Holds (same_name first.closure.id frame is) here
parked_on Holds frame first parked false is here some rest = rest (omega (arith, some))

pub parked_some : (Holds : FrameId → Type 0) (frame : FrameId) (parked : List Parked) → EachParked Holds parked → 1 ≤ count frame (parked_marks parked)
    → Holds frame
parked_some Holds frame [] all some = absurd (omega (arith, some))
parked_some Holds frame (first ∷ parked) all some =
    parked_on Holds frame first parked (same_frame first.closure.id frame) refl all.0 some (parked_some Holds frame parked all.1)

one_of : (a b c : ℕ) → 1 ≤ a + (b + c) → (1 ≤ a) ⊎ ((1 ≤ b) ⊎ (1 ≤ c))
one_of zero zero c some = inr (inr (omega (arith, some)))
one_of zero (suc b) c some = inr (inl (omega arith))
one_of (suc a) b c some = inl (omega arith)

-- each frame of a node is named
pub counted_named : (cluster : Cluster) (number : ℕ) (course : Course) (frames : Frames) → Placed cluster number course frames → (frame : FrameId)
    → 1 ≤ count frame (marks_of frames) → Named cluster course frame
counted_named cluster number course frames placed frame some =
    on (one_of (count frame (marks frames.stack)) (count frame (marks frames.ready)) (count frame (parked_marks frames.parked))
    (let total = counts frame frames in omega (arith, some, total)))
  where
    on : (1 ≤ count frame (marks frames.stack)) ⊎ ((1 ≤ count frame (marks frames.ready)) ⊎ (1 ≤ count frame (parked_marks frames.parked)))
        → Named cluster course frame
    on (inl here) = (counted_some (OnStack cluster number course) frame frames.stack placed.stack here).1.named
    on (inr (inl here)) = (counted_some (OnReady cluster number course) frame frames.ready placed.ready here).1.named
    on (inr (inr here)) = (parked_some (AtJoin cluster number course) frame frames.parked placed.parked here).named

-- ---- what an event says of other frames

other_way : (first second : FrameId) (b : Bool) → same_frame second first ≡ b → same_frame first second ≡ false → b ≡ false
other_way first second false is other = refl
other_way first second true is other =
    let same : same_frame first second ≡ true = subst (λ it. same_frame first it ≡ true) (sym (same_name second first is)) (same_self first) in absurd (cc)

pub no_news : (it : Told) (moved : Moved) (id : FrameId) → told moved ≡ Some it → same_frame id it.frame ≡ false → news_on id moved ≡ None
no_news it moved id is other = let turned = other_way id it.frame (same_frame it.frame id) refl other in rw (is, turned) refl

pub no_news_lives : (it : Told) (moved : Moved) → told moved ≡ Some it → (lives : List Life) → count it.frame (marks lives) ≡ 0
    → EachLife (λ id join. news_on id moved ≡ None) lives
no_news_lives it moved is lives none =
    let others = counted_none it.frame lives none in
    each_change (λ id join. same_frame id it.frame ≡ false) (λ id join. same_frame id it.frame ≡ false) (λ id join. news_on id moved ≡ None)
    (λ id join other also. no_news it moved id is other) lives others others

pub no_news_parked : (it : Told) (moved : Moved) → told moved ≡ Some it → (parked : List Parked) → count it.frame (parked_marks parked) ≡ 0
    → EachParked (λ id. news_on id moved ≡ None) parked
no_news_parked it moved is parked none =
    let others = parked_none it.frame parked none in
    parked_change (λ id. same_frame id it.frame ≡ false) (λ id. same_frame id it.frame ≡ false) (λ id. news_on id moved ≡ None)
    (λ id other also. no_news it moved id is other) parked others others

pub untold_count : (cluster : Cluster) (node : ℕ) (moved : Moved) (course : Course) (it : Told) → told moved ≡ Some it → (frames : Frames)
    → count it.frame (marks_of frames) ≡ 0
    → Untold cluster node moved course frames
untold_count cluster node moved course it is frames none =
    let total = counts it.frame frames in record {
      stack = no_news_lives it moved is frames.stack (omega (arith, total, none));
      ready = no_news_lives it moved is frames.ready (omega (arith, total, none));
      parked = no_news_parked it moved is frames.parked (omega (arith, total, none));
    }

pub untold_none : (cluster : Cluster) (node : ℕ) (moved : Moved) (course : Course) → told moved ≡ None → (frames : Frames)
    → Untold cluster node moved course frames
untold_none cluster node moved course is frames =
    let nothing : (id : FrameId) → news_on id moved ≡ None = λ id. rw is refl in record {
      stack = each_always (λ id join. news_on id moved ≡ None) (λ id join. nothing id) frames.stack;
      ready = each_always (λ id join. news_on id moved ≡ None) (λ id join. nothing id) frames.ready;
      parked = parked_always (λ id. news_on id moved ≡ None) nothing frames.parked;
    }
