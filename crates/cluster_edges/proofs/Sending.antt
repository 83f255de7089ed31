-- The frames of a node behind an event that takes a frame up, grants or parks it: all others stay as they were.
use Rattle.std.proofs.Common.{◌≡◌, ◌⊎◌, inl, inr, ℕ, ◌+◌, ◌≤◌, List, [], ◌∷◌, ◌++◌, Option, Some, None, is_some, true, false, refl, sym, ◌∙◌, ap, subst, arith}
use Rattle.page_messages.specs.declared.closure.FrameId.{FrameId}
use Rattle.page_messages.specs.declared.closure.JoinId.{JoinId}
use Rattle.page_messages.specs.declared.closure.Closure.{Closure}
use Rattle.page_messages.specs.declared.message.Msg.{Msg}
use Rattle.page_messages.specs.declared.log.Item.{Item}
use Rattle.page_messages.specs.declared.log.Item.TheVariants as item
use Rattle.page_messages.specs.declared.log.PostAt.{PostAt}
use Rattle.cluster_rules.specs.Turns.{Did, Sent, Past}
use Rattle.cluster_rules.specs.Node.{Node}
use Rattle.cluster_rules.specs.Lives.{Life, same_frame, live, without_bottom, link_to}
use Rattle.cluster_rules.specs.Frames.{Frames, frames_of, with_stack, taken_up}
use Rattle.cluster_rules.specs.Edges.{MayGrant, MayPark}
use Rattle.cluster_rules.specs.Paging.{MayTakeUp}
use Rattle.cluster_rules.specs.Positions.{Moved, Course, own}
use Rattle.cluster_rules.specs.Runs.{Cluster, node_at}
use Rattle.cluster_rules.proofs.Marks.{one, marks, parked_marks, marks_of, same_self, bottom_gone}
use Rattle.cluster_edges.proofs.News.{Told, ByGrant, ByPark, IsUp, told, news_on, last_news, Risen, risen_on}
use Rattle.cluster_edges.proofs.Through.{EachLife, count, each_append, each_parts, each_change, parked_change}
use Rattle.cluster_edges.proofs.Placed.{OnStack, OnReady, AtJoin, Placed, named_more, stack_kept, ready_kept, join_kept}
use Rattle.cluster_edges.proofs.Counted.{marks_at, counts, count_bottom, count_live, one_same, no_news_lives, no_news_parked}

-- what is said of the frame of which the event speaks
pub told_last : (moved : Moved) (course : Course) (it : Told) → told moved ≡ Some it → last_news it.frame (moved ∷ course) ≡ Some it.news
told_last moved course it is = rw (is, same_self it.frame) refl

-- a count goes by names alone
left_count : (frame : FrameId) (above : List Life) (first second : Life) → first.id ≡ second.id
    → count frame (marks (above ++ (first ∷ []))) ≡ count frame (marks (above ++ (second ∷ [])))
left_count frame [] first second is = ap (λ id. one (same_frame id frame) + 0) is
left_count frame (life ∷ above) first second is = ap (λ it. one (same_frame life.id frame) + it) (left_count frame above first second is)

module _ (cluster : Cluster) (course : Course) (number : ℕ) (here : Option PostAt)
    (placed : Placed cluster number course (frames_of (node_at cluster number) (own number course)))
    (once : (frame : FrameId) → count frame (marks_at cluster course number) ≤ 1) where
  abbrev node : Node
  node = node_at cluster number

  abbrev past : Past
  past = own number course

  abbrev frames : Frames
  frames = frames_of node past

  -- ---- take-ups

  abbrev rising : FrameId → Moved
  rising frame = record { node = number; event = Did (item.TakeUp frame); message = here }

  up_news : (life : Life) → news_on life.id (rising life.id) ≡ Some (IsUp number)
  up_news life = rw (same_self life.id) refl

  up_stack : (life : Life) → OnReady cluster number course life.id life.join → OnStack cluster number (rising life.id ∷ course) life.id life.join
  up_stack life ready = record {
    news = inr (rw (same_self life.id) refl);
    joined = λ none. inr (subst (λ news. risen_on number news (last_news life.id course) (Risen life.id course)) (sym (up_news life)) (parked none ready.news));
    named = named_more cluster (rising life.id) course life.id ready.named;
  }
    where
      parked : life.join ≡ None → ((life.join ≡ None) × (last_news life.id course ≡ Some (ByPark number)))
          ⊎ ((is_some life.join ≡ true) × (last_news life.id course ≡ Some (ByGrant number)))
          → last_news life.id course ≡ Some (ByPark number)
      parked none (inl both) = both.1
      parked none (inr both) = let not : is_some life.join ≡ false = ap is_some none in absurd (cc)

  up_first : (life : Life) (younger : List Life) → frames.ready ≡ life ∷ younger
      → Placed cluster number (rising life.id ∷ course) (record { stack = life ∷ []; ready = younger; parked = frames.parked })
  up_first life younger is =
      let it : Told = record { frame = life.id; news = IsUp number } in
      let all : EachLife (OnReady cluster number course) (life ∷ younger) = subst (EachLife (OnReady cluster number course)) is placed.ready in
      let least = once life.id in
      let total = counts life.id frames in
      let here_count : count life.id (marks frames.ready) ≡ one (same_frame life.id life.id) + count life.id (marks younger) =
      ap (λ it. count life.id (marks it)) is in
      let self = one_same life.id life.id refl in
      let no_more : count life.id (marks younger) ≡ 0 = omega (arith, least, total, here_count, self) in
      let none_parked : count life.id (parked_marks frames.parked) ≡ 0 = omega (arith, least, total, here_count, self) in
      record {
        stack = (up_stack life all.0, tt);
        ready = each_change (OnReady cluster number course) (λ id join. news_on id (rising life.id) ≡ None) (OnReady cluster number (rising life.id ∷ course))
            (ready_kept cluster number (rising life.id) course) younger all.1 (no_news_lives it (rising life.id) refl younger no_more);
        parked = parked_change (AtJoin cluster number course) (λ id. news_on id (rising life.id) ≡ None) (AtJoin cluster number (rising life.id ∷ course))
            (join_kept cluster number (rising life.id) course) frames.parked placed.parked (no_news_parked it (rising life.id) refl frames.parked none_parked);
      }

  pub up_placed : (frame : FrameId) (rest : List Item) → MayTakeUp node past frame rest
      → Placed cluster number (rising frame ∷ course) (taken_up frames.stack frames.ready frames.parked)
  up_placed frame rest may =
      subst (λ it. Placed cluster number (rising it ∷ course) (taken_up frames.stack frames.ready frames.parked)) (sym may.named)
      (subst (λ it. Placed cluster number (rising may.life.id ∷ course) (taken_up frames.stack it frames.parked)) (sym may.oldest)
      (up_first may.life may.younger may.oldest))

  pub up_counted : (frame : FrameId) (rest : List Item) → MayTakeUp node past frame rest → 1 ≤ count frame (marks_of frames)
  up_counted frame rest may =
      let total = counts frame frames in
      let here_count : count frame (marks frames.ready) ≡ one (same_frame may.life.id frame) + count frame (marks may.younger) =
      ap (λ it. count frame (marks it)) may.oldest in
      let self = one_same may.life.id frame (sym may.named) in omega (arith, total, here_count, self)

  -- ---- Grants

  abbrev sending : Msg → Moved
  sending message = record { node = number; event = Sent message; message = here }

  pub grant_counted : (receiver : ℕ) (closure : Closure) → MayGrant node past receiver closure → 1 ≤ count closure.id (marks_of frames)
  grant_counted receiver closure may =
      let total = counts closure.id frames in
      let bottom = count_bottom closure.id may.above may.child may.parent in
      let here_count : count closure.id (marks frames.stack) ≡ count closure.id (marks (may.above ++ (may.child ∷ (may.parent ∷ [])))) =
      ap (λ it. count closure.id (marks it)) may.stack in
      let self = one_same may.parent.id closure.id (sym may.state.id) in omega (arith, total, bottom, here_count, self)

  pub grant_placed : (message : Msg) (receiver : ℕ) (closure : Closure) → told (sending message) ≡ Some (record { frame = closure.id; news = ByGrant receiver })
      → MayGrant node past receiver closure → Placed cluster number (sending message ∷ course) (with_stack (without_bottom closure.join frames.stack) frames)
  grant_placed message receiver closure is may =
      let it : Told = record { frame = closure.id; news = ByGrant receiver } in
      let moved = sending message in
      let child : Life = record may.child { link = link_to closure.join } in
      let left = may.above ++ (child ∷ []) in
      let left_is : without_bottom closure.join frames.stack ≡ left =
      ap (without_bottom closure.join) may.stack ∙ bottom_gone closure.join may.above may.child may.parent in
      let all = each_parts (OnStack cluster number course) may.above (may.child ∷ (may.parent ∷ []))
      (subst (EachLife (OnStack cluster number course)) may.stack placed.stack) in
      let still : EachLife (OnStack cluster number course) left = each_append (OnStack cluster number course) may.above (child ∷ []) all.0 (all.1.0, tt) in
      let least = once closure.id in
      let total = counts closure.id frames in
      let bottom = count_bottom closure.id may.above may.child may.parent in
      let here_count : count closure.id (marks frames.stack) ≡ count closure.id (marks (may.above ++ (may.child ∷ (may.parent ∷ [])))) =
      ap (λ it. count closure.id (marks it)) may.stack in
      let self = one_same may.parent.id closure.id (sym may.state.id) in
      let same : count closure.id (marks left) ≡ count closure.id (marks (may.above ++ (may.child ∷ []))) =
      left_count closure.id may.above child may.child refl in
      let none_left : count closure.id (marks left) ≡ 0 = omega (arith, least, total, bottom, here_count, self, same) in
      let none_ready : count closure.id (marks frames.ready) ≡ 0 = omega (arith, least, total, bottom, here_count, self) in
      let none_parked : count closure.id (parked_marks frames.parked) ≡ 0 = omega (arith, least, total, bottom, here_count, self) in
      record {
        stack = subst (EachLife (OnStack cluster number (moved ∷ course))) (sym left_is)
            (each_change (OnStack cluster number course) (λ id join. news_on id moved ≡ None) (OnStack cluster number (moved ∷ course))
            (stack_kept cluster number moved course) left still (no_news_lives it moved is left none_left));
        ready = each_change (OnReady cluster number course) (λ id join. news_on id moved ≡ None) (OnReady cluster number (moved ∷ course))
            (ready_kept cluster number moved course) frames.ready placed.ready (no_news_lives it moved is frames.ready none_ready);
        parked = parked_change (AtJoin cluster number course) (λ id. news_on id moved ≡ None) (AtJoin cluster number (moved ∷ course))
            (join_kept cluster number moved course) frames.parked placed.parked (no_news_parked it moved is frames.parked none_parked);
      }

  -- ---- Parks

  pub park_count : (receiver : ℕ) (join : JoinId) (closure : Closure) → MayPark node past receiver join closure → 1 ≤ count closure.id (marks frames.stack)
  park_count receiver join closure may =
      let alone : count closure.id (marks (live frames.stack)) ≡ one (same_frame may.life.id closure.id) + 0 =
      ap (λ it. count closure.id (marks it)) may.at_join.alone in
      let less = count_live closure.id frames.stack in
      let self = one_same may.life.id closure.id (sym may.state.id) in omega (arith, alone, less, self)

  pub park_counted : (receiver : ℕ) (join : JoinId) (closure : Closure) → MayPark node past receiver join closure → 1 ≤ count closure.id (marks_of frames)
  park_counted receiver join closure may = let total = counts closure.id frames in let some = park_count receiver join closure may in omega (arith, total, some)

  pub park_placed : (message : Msg) (receiver : ℕ) (join : JoinId) (closure : Closure)
      → told (sending message) ≡ Some (record { frame = closure.id; news = ByPark receiver })
      → MayPark node past receiver join closure → Placed cluster number (sending message ∷ course) (with_stack [] frames)
  park_placed message receiver join closure is may =
      let it : Told = record { frame = closure.id; news = ByPark receiver } in
      let moved = sending message in
      let least = once closure.id in
      let total = counts closure.id frames in
      let some = park_count receiver join closure may in
      let none_ready : count closure.id (marks frames.ready) ≡ 0 = omega (arith, least, total, some) in
      let none_parked : count closure.id (parked_marks frames.parked) ≡ 0 = omega (arith, least, total, some) in
      record {
        stack = tt;
        ready = each_change (OnReady cluster number course) (λ id join. news_on id moved ≡ None) (OnReady cluster number (moved ∷ course))
            (ready_kept cluster number moved course) frames.ready placed.ready (no_news_lives it moved is frames.ready none_ready);
        parked = parked_change (AtJoin cluster number course) (λ id. news_on id moved ≡ None) (AtJoin cluster number (moved ∷ course))
            (join_kept cluster number moved course) frames.parked placed.parked (no_news_parked it moved is frames.parked none_parked);
      }
