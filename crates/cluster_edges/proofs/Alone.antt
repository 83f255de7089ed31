-- A frame that leaves its node is nowhere else.
use Rattle.std.proofs.Common.{◌≡◌, ◌<◌, ◌+◌, ℕ, List, [], ◌∷◌, Option, Some, None, false, refl, sym, ◌∙◌, arith}
use Rattle.std.specs.List.{list_any}
use Rattle.page_messages.specs.declared.closure.FrameId.{FrameId}
use Rattle.page_messages.specs.declared.message.Msg.{Msg}
use Rattle.page_messages.specs.declared.log.PostAt.{PostAt}
use Rattle.cluster_rules.specs.Turns.{Event, Did, Sent, Took, Ended}
use Rattle.cluster_rules.specs.Lives.{Life, same_frame}
use Rattle.cluster_rules.specs.Frames.{Frames, Parked, frames_of}
use Rattle.cluster_rules.specs.Positions.{Moved, Course, own}
use Rattle.cluster_rules.specs.Runs.{Cluster, node_at}
use Rattle.cluster_rules.proofs.Stepping.{WasPosted, takes_place, Carries, Takes, Stepped}
use Rattle.cluster_rules.proofs.Summing.{sum_one}
use Rattle.cluster_rules.proofs.Marks.{one, many, named, many_append, marks, parked_marks, other_marks, marks_of}
use Rattle.cluster_rules.proofs.Letters.{letters_of, letters_on, amount_of, letter_sent, letter_taken}
use Rattle.cluster_rules.proofs.Holding.{at_node, in_message, held_once}
use Rattle.cluster_edges.specs.Stages.{frame_in}
use Rattle.cluster_edges.proofs.Counted.{one_same}
use Rattle.cluster_edges.proofs.OnePlace.{brings_one}
use Rattle.cluster_edges.proofs.Longer.{leaves, each_all}
use Rattle.cluster_edges.proofs.Leaving.{NoneLeaves}
use Rattle.cluster_edges.proofs.Tying.{NoneParkedLeaves, LonelyAt, Lonely}

module _ (moved : Moved) (frame : FrameId) (left : leaves moved.event ≡ Some frame) where
  not_it : (id : FrameId) → one (same_frame id frame) ≡ 0 → leaves moved.event ≡ Some id → ⊥
  not_it id none is =
      let some : Some id ≡ Some frame = sym is ∙ left in
      let same : id ≡ frame = cc in
      let self = one_same id frame same in absurd (omega (arith, none, self))

  none_in : (lives : List Life) → many (named frame) (marks lives) ≡ 0 → NoneLeaves moved lives
  none_in [] none = tt
  none_in (life ∷ lives) none = (not_it life.id (omega (arith, none)), none_in lives (omega (arith, none)))

  none_parked : (parked : List Parked) → many (named frame) (parked_marks parked) ≡ 0 → NoneParkedLeaves moved parked
  none_parked [] none = tt
  none_parked (first ∷ parked) none = (not_it first.closure.id (omega (arith, none)), none_parked parked (omega (arith, none)))

  lonely_at : (frames : Frames) → many (named frame) (marks_of frames) ≡ 0 → LonelyAt moved frames
  lonely_at frames none =
      let a = many_append (named frame) (marks frames.stack) (other_marks frames) in
      let b = many_append (named frame) (marks frames.ready) (parked_marks frames.parked) in
      record {
        stack = none_in frames.stack (omega (arith, a, none));
        ready = none_in frames.ready (omega (arith, a, b, none));
        parked = none_parked frames.parked (omega (arith, a, b, none));
      }

-- ---- one event

module _ (cluster : Cluster) (moved : Moved) (course : Course) (stepped : Stepped cluster (moved ∷ course)) where
  -- what leaves is one letter more
  left_letter_on : (frame : FrameId) (event : Event) → Carries course moved.node moved.message event → leaves event ≡ Some frame
      → amount_of (in_message (named frame)) (letters_on event moved.message (letters_of course)) ≡ 1 + amount_of (in_message (named frame)) (letters_of course)
  left_letter_on frame (Did item) carries left = absurd (cc)
  left_letter_on frame (Sent message) carries left =
      let more = letter_sent cluster (in_message (named frame)) course moved.node moved.message message carries in
      let here = brings_one frame message.body left in omega (arith, more, here)
  left_letter_on frame (Took message) carries left = absurd (cc)
  left_letter_on frame (Ended end) carries left = absurd (cc)

  left_letter : (frame : FrameId) → leaves moved.event ≡ Some frame
      → amount_of (in_message (named frame)) (letters_of (moved ∷ course)) ≡ 1 + amount_of (in_message (named frame)) (letters_of course)
  left_letter frame left = left_letter_on frame moved.event stepped.1.carries left

  node_none : (frame : FrameId) → leaves moved.event ≡ Some frame → (number : ℕ) → number < cluster.config.nodes
      → at_node cluster (moved ∷ course) (named frame) number ≡ 0
  node_none frame left number less =
      let all = held_once cluster (moved ∷ course) stepped frame in
      let part = sum_one cluster.config.nodes (at_node cluster (moved ∷ course) (named frame)) number less in
      let letter = left_letter frame left in omega (arith, all, part, letter)

  lonely_node : (number : ℕ) → number < cluster.config.nodes → (leaving : Option FrameId) → leaves moved.event ≡ leaving
      → LonelyAt moved (frames_of (node_at cluster number) (own number (moved ∷ course)))
  lonely_node number less None none =
      let frames = frames_of (node_at cluster number) (own number (moved ∷ course)) in
      let never : (id : FrameId) → leaves moved.event ≡ Some id → ⊥ = λ id is. let same : None ≡ Some id = sym none ∙ is in absurd (cc) in
      record {
        stack = each_all (λ (life : Life). leaves moved.event ≡ Some life.id → ⊥) (λ life. never life.id) frames.stack;
        ready = each_all (λ (life : Life). leaves moved.event ≡ Some life.id → ⊥) (λ life. never life.id) frames.ready;
        parked = each_all (λ (one : Parked). leaves moved.event ≡ Some one.closure.id → ⊥) (λ one. never one.closure.id) frames.parked;
      }
  lonely_node number less (Some frame) left =
      lonely_at moved frame left (frames_of (node_at cluster number) (own number (moved ∷ course))) (node_none frame left number less)

  no_letter : (place : PostAt) (message : Msg) → WasPosted course place message → list_any (takes_place place) course ≡ false
      → (frame : FrameId) → frame_in message.body ≡ Some frame → leaves moved.event ≡ Some frame → ⊥
  no_letter place message was none frame is left =
      let all = held_once cluster (moved ∷ course) stepped frame in
      let letter = left_letter frame left in
      let takes : Takes course message.receiver (Some place) message =
      record { place = place; place_is = refl; receiver = refl; was_posted = was; not_taken = none } in
      let other = letter_taken cluster (in_message (named frame)) course message.receiver (Some place) message stepped.0 takes in
      let here = brings_one frame message.body is in
      omega (arith, all, letter, other, here)

  -- A frame that leaves is nowhere else.
  pub lonely : Lonely cluster moved course
  lonely = record { nodes = λ number less. lonely_node number less (leaves moved.event) refl; letters = no_letter }
