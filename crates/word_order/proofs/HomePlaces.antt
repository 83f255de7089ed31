-- The place of an access is that of the act at its position in the course.
use Rattle.std.proofs.Common.{◌≡◌, ℕ, ◌+◌, ◌<◌, List, [], ◌∷◌, Option, Some, None, Bool, true, false, cond, eqb, length, map, refl, sym, ◌∙◌, ap, length-append, arith}
use Rattle.std.proofs.lemmas.Bool.Decides.{nat_tests}
use Rattle.std.proofs.lemmas.List.Elements.{filter_map-append}
use Rattle.std.specs.List.{filter_map, cons_option}
use Rattle.page_messages.specs.declared.closure.FrameId.{FrameId}
use Rattle.page_messages.specs.declared.log.Item.TheVariants as item
use Rattle.page_messages.specs.declared.log.PostAt.{PostAt}
use Rattle.span_tree.specs.declared.act.Act.TheVariants as row
use Rattle.span_tree.specs.History.{History}
use Rattle.cluster_rules.specs.Lives.{same_frame}
use Rattle.cluster_rules.specs.Turns.{Event, Did, Sent, Took, Ended}
use Rattle.cluster_rules.specs.Positions.{Moved, Course, at, before}
use Rattle.cluster_rules.specs.Histories as histories
use Rattle.cluster_rules.specs.Histories.{act_in, row_number}
use Rattle.cluster_rules.specs.Moments.{Listed}
use Rattle.cluster_rules.specs.Runs.{Cluster}
use Rattle.backer_order.specs.Log as log
use Rattle.backer_order.specs.HomeList.{Entry}
use Rattle.cluster_order.specs.Reading.{events_of, event_of, happens_to}
use Rattle.cluster_order.proofs.Growing.{at_behind, before_behind}
use Rattle.word_order.specs.Consistency as def
use Rattle.word_order.specs.Consistency.{acts_of, place_behind, place_of, place_of_event, places_by}
use Rattle.word_order.proofs.Rows.{acts_before, place_in}
use Rattle.word_order.proofs.Items.{done_by, done_in, same_before, acts_are_done}
use Rattle.word_order.proofs.Places.{AreRows}
use Rattle.word_order.proofs.Entries as entries
use Rattle.word_order.proofs.Lists.{places_of}

module _ (cluster : Cluster) (frames : List FrameId) (frame : FrameId) where
  -- ---- how many acts stand before a position

  abbrev counted : Bool → ℕ
  counted b = cond b 1 0

  many_by : (event : Event) → length (filter_map (act_in frames frame) (done_by event)) ≡ counted (def.acts frame event)
  many_by (Did (item.Act other index act)) = on (same_frame other frame)
    where
      on : (b : Bool) → length (cons_option (cond b (Some (histories.act_of frames act)) None) []) ≡ counted b
      on true = refl
      on false = refl
  many_by (Did (item.Served other index word old addend)) = on (same_frame other frame)
    where
      on : (b : Bool) → length (cons_option (cond b (Some (row.Add word old addend)) None) []) ≡ counted b
      on true = refl
      on false = refl
  many_by (Did (item.Tick other)) = refl
  many_by (Did (item.Drop page)) = refl
  many_by (Did (item.TakeUp other)) = refl
  many_by (Did (item.OwnFetch page words)) = refl
  many_by (Did (item.OwnReconcile part)) = refl
  many_by (Sent message) = refl
  many_by (Took message) = refl
  many_by (Ended end) = refl

  more : (b : Bool) (many : ℕ) → cond b (many + 1) many ≡ many + counted b
  more true many = refl
  more false many = omega arith

  many_done : (course : Course) → length (filter_map (act_in frames frame) (done_in course)) ≡ acts_of frame course
  many_done [] = refl
  many_done (moved ∷ course) =
      let front = filter_map (act_in frames frame) (done_in course) in
      let back = filter_map (act_in frames frame) (done_by moved.event) in
      let both = ap length (filter_map-append (act_in frames frame) (done_in course) (done_by moved.event)) in
      let sum = length-append front back in
      let here = many_by moved.event in
      let rest = many_done course in
      let next = more (def.acts frame moved.event) (acts_of frame course) in
      omega (arith, both, sum, here, rest, next)

  older : (moved : Moved) (course : Course) (position : ℕ) → position < length course
      → events_of cluster (moved ∷ course) position ≡ events_of cluster course position
  older moved course position less =
      ap (λ it. event_of cluster it (at (moved ∷ course) position)) (before_behind (moved ∷ []) course position less)
      ∙ ap (event_of cluster (before course position)) (at_behind (moved ∷ []) course position less)

  older_acts : (moved : Moved) (course : Course) (position now : ℕ) → now < length course + 1
      → acts_before frames (events_of cluster (moved ∷ course)) frame now ≡ acts_before frames (events_of cluster course) frame now
  older_acts moved course position now within =
      same_before cluster frames frame (events_of cluster (moved ∷ course)) (events_of cluster course) now
      (λ position less. older moved course position (omega (arith, less, within)))

  pub place_is : (course : Course) (position : ℕ) → position < length course
      → place_in frames (events_of cluster course) frame position ≡ acts_of frame (before course position)
  place_is [] position less = absurd (omega (arith, less))
  place_is (moved ∷ course) position less = on (eqb position (length course)) refl (place_is course position)
    where
      on : (b : Bool) → eqb position (length course) ≡ b
          → (position < length course → place_in frames (events_of cluster course) frame position ≡ acts_of frame (before course position))
          → place_in frames (events_of cluster (moved ∷ course)) frame position ≡ acts_of frame (cond b course (before course position))
      on true is rest =
          let same : position ≡ length course = grind (arith, nat_tests) in
          ap length (older_acts moved course position position (omega (arith, same)))
          ∙ ap (λ it. length (acts_before frames (events_of cluster course) frame it)) same
          ∙ ap length (acts_are_done cluster frames frame course) ∙ many_done course
      on false is rest =
          let other : position ≡ length course → ⊥ = λ same. absurd (grind (arith, nat_tests)) in
          let earlier : position < length course = omega (arith, less, other) in
          ap length (older_acts moved course position position (omega (arith, less))) ∙ rest earlier

  -- ---- the frame of the act at a position

  frame_by : (past course : Course) (number : ℕ) (place : Option PostAt) (event : Event) (node : ℕ) (done : log.Act)
      → happens_to cluster past number place event ≡ log.Acts node frame done
      → place_of_event frames course event ≡ place_behind frames course frame
  frame_by past course number place (Did (item.Act other index act)) node done is = let same : other ≡ frame = cc in ap (place_behind frames course) same
  frame_by past course number place (Did (item.Served other index word old addend)) node done is =
      let same : other ≡ frame = cc in ap (place_behind frames course) same
  frame_by past course number place (Did (item.Tick other)) node done is = absurd cc
  frame_by past course number place (Did (item.Drop page)) node done is = absurd cc
  frame_by past course number place (Did (item.TakeUp other)) node done is = absurd cc
  frame_by past course number place (Did (item.OwnFetch page words)) node done is = absurd cc
  frame_by past course number place (Did (item.OwnReconcile part)) node done is = absurd cc
  frame_by past course number place (Sent message) node done is = absurd cc
  frame_by past course number place (Took message) node done is = absurd cc
  frame_by past course number place (Ended end) node done is = absurd cc

  frame_at : (past : Course) (here : Option Moved) (node : ℕ) (done : log.Act) → event_of cluster past here ≡ log.Acts node frame done
      → place_of frames past here ≡ place_behind frames past frame
  frame_at past None node done is = absurd cc
  frame_at past (Some moved) node done is = frame_by past past moved.node moved.message moved.event node done is

  -- The place of what the frame did at a position.
  pub place_there : (course : Course) (position node : ℕ) (done : log.Act) → position < length course
      → events_of cluster course position ≡ log.Acts node frame done
      → record { row = row_number frames frame; act = place_in frames (events_of cluster course) frame position } ≡ def.place_at frames course position
  place_there course position node done less is =
      ap (λ act. record { row = row_number frames frame; act = act }) (place_is course position less)
      ∙ sym (frame_at (before course position) (at course position) node done is)

-- ---- the places of a list

module _ (cluster : Cluster) (course : Course) (frames : List FrameId) (word : ℕ) (history : History)
    (rows : AreRows (events_of cluster course) (length course) frames history) where
  entry_place : (entry : Entry (events_of cluster course) (length course) word)
      → entries.place_at (events_of cluster course) (length course) frames word history rows entry ≡ def.place_at frames course entry.at
  entry_place entry =
      let act = entries.act_of (events_of cluster course) (length course) frames word entry in
      place_there cluster frames act.frame course entry.at entry.node act.done entry.inside act.is

  -- The places of the accesses in a list are those of an order with the same positions.
  pub same_places : (list : List (Entry (events_of cluster course) (length course) word)) (order : List Listed)
      → map (λ entry. entry.at) list ≡ map (λ one. one.position) order
      → places_of (events_of cluster course) (length course) frames word history rows list ≡ places_by frames course order
  same_places [] [] same = refl
  same_places [] (one ∷ order) same = absurd cc
  same_places (entry ∷ list) [] same = absurd cc
  same_places (entry ∷ list) (one ∷ order) same =
      let here : entry.at ≡ one.position = cc in
      let rest : map (λ entry. entry.at) list ≡ map (λ one. one.position) order = cc in
      ap (λ place. place ∷ places_of (events_of cluster course) (length course) frames word history rows list)
      (entry_place entry ∙ ap (def.place_at frames course) here)
      ∙ ap (λ places. def.place_at frames course one.position ∷ places) (same_places list order rest)
