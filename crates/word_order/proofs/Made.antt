-- A history of the log of a course has the rows of its events: one for each frame that was made, in which stands what it did.
use Rattle.std.proofs.Common.{◌≡◌, ◌⊎◌, inl, inr, ℕ, zero, suc, ◌<◌, List, [], ◌∷◌, Option, Some, None, length, map, reverse, refl, sym, ◌∙◌, ap, subst, arith}
use Rattle.std.proofs.lemmas.List.{get_or-map, length-map}
use Rattle.std.proofs.lemmas.List.Sorted.{Contains-permutation}
use Rattle.std.proofs.lemmas.Option.{slice_get-get_or, slice_get_within, get_or_from_slice_get}
use Rattle.std.specs.List.{Contains, filter_map, cons_option}
use Rattle.std.specs.Prelude.{slice_get}
use Rattle.page_messages.specs.declared.closure.FrameId.{FrameId}
use Rattle.page_messages.specs.declared.log.Item.{Item}
use Rattle.page_messages.specs.declared.log.Item.TheVariants as item
use Rattle.span_tree.specs.declared.act.Act.{Act}
use Rattle.span_tree.specs.History.{History, Row, no_row, row_at}
use Rattle.cluster_rules.specs.Lives.{main_id}
use Rattle.cluster_rules.specs.Walking.{given}
use Rattle.cluster_rules.specs.Turns.{WholeTurn}
use Rattle.cluster_rules.specs.Positions.{course_of}
use Rattle.cluster_rules.specs.Runs.{Cluster, logged}
use Rattle.cluster_rules.specs.Histories.{Birth, birth_in, birth_of, births_of, frames_made, items_of, act_in, row_of, row_with, row_number, IsHistoryOf}
use Rattle.backer_order.specs.Log as log
use Rattle.backer_order.specs.Log.{Events}
use Rattle.backer_order.specs.Edges.{Spawned}
use Rattle.cluster_order.specs.Reading.{events_of}
use Rattle.cluster_order.proofs.Events.{acted_is, spawn_is}
use Rattle.word_order.proofs.Rows.{acts_before, number_first}
use Rattle.word_order.proofs.Places.{AreRows}
use Rattle.word_order.proofs.Items.{done_in, done_is, done_at, acts_are_done}

-- each frame that makes an act is `main`, or was spawned
abbrev pub EachIsMade : Events → Type 0
EachIsMade events =
    (at node : ℕ) (frame : FrameId) (act : log.Act) → events at ≡ log.Acts node frame act → (frame ≡ main_id) ⊎ ((birth : ℕ) × Spawned events frame birth)

contains_first : {A : Type 0} (first : A) (list : List A) → Contains (first ∷ list) first
contains_first first list = (0, omega arith, refl)

contains_later : {A : Type 0} (first : A) (list : List A) (one : A) → Contains list one → Contains (first ∷ list) one
contains_later first list one is = (suc is.0, (let less = is.1 in omega (arith, less)), is.2)

first_or_later : {A : Type 0} (first : A) (list : List A) (one : A) → Contains (first ∷ list) one → (first ≡ one) ⊎ Contains list one
first_or_later first list one (zero, less, is) = inl is
first_or_later first list one (suc place, less, is) = inr (place, omega (arith, less), is)

module _ {A B : Type 0} where
  -- what an item gives is among what all give
  given_by : (by : A → Option B) (list : List A) (one : A) (value : B) → Contains list one → by one ≡ Some value → Contains (filter_map by list) value
  given_by by [] one value is gives = let less = is.1 in absurd (omega (arith, less))
  given_by by (first ∷ list) one value is gives = elim (first_or_later first list one is) [
    | inl same ↦ subst (λ it. Contains (cons_option it (filter_map by list)) value) (sym (ap by same ∙ gives)) (contains_first value (filter_map by list))
    | inr later ↦ on (by first) (given_by by list one value later gives)
  ]
    where
      on : (it : Option B) → Contains (filter_map by list) value → Contains (cons_option it (filter_map by list)) value
      on None rest = rest
      on (Some other) rest = contains_later other (filter_map by list) value rest

  mapped_by : (by : A → B) (list : List A) (one : A) → Contains list one → Contains (map by list) (by one)
  mapped_by by [] one is = let less = is.1 in absurd (omega (arith, less))
  mapped_by by (first ∷ list) one is = elim (first_or_later first list one is) [
    | inl same ↦ subst (λ it. Contains (by first ∷ map by list) it) (ap by same) (contains_first (by first) (map by list))
    | inr later ↦ contains_later (by first) (map by list) (by one) (mapped_by by list one later)
  ]

row_acts : (frames : List FrameId) (main : ℕ) (birth : Option Birth) (acts : List Act) → (row_with frames main birth acts).acts ≡ acts
row_acts frames main None acts = refl
row_acts frames main (Some birth) acts = refl

module _ (cluster : Cluster) (turns : List WholeTurn) (main : ℕ) (frames : List FrameId) (history : History)
    (is_history : IsHistoryOf main (map logged (reverse turns)) frames history) where
  abbrev items : List Item
  items = items_of (map logged (reverse turns))

  abbrev events : Events
  events = events_of cluster (course_of turns)

  acts_there : (number : ℕ) (frame : FrameId) → slice_get frames number ≡ Some frame
      → (row_at history number).acts ≡ acts_before frames events frame (length (course_of turns))
  acts_there number frame is =
      ap (λ (row : Row). row.acts) (ap (λ rows. row_at rows number) is_history.rows
      ∙ get_or-map (row_of frames main items) frames number frame no_row (slice_get_within frames number frame is)
      ∙ ap (row_of frames main items) (get_or_from_slice_get frames number frame frame is))
      ∙ row_acts frames main (given (birth_of frame) (births_of items)) (filter_map (act_in frames frame) items)
      ∙ sym (acts_are_done cluster frames frame (course_of turns) ∙ ap (filter_map (act_in frames frame)) (done_is turns))

  -- a frame that was spawned was made
  spawned_is_made : (frame : FrameId) (birth : ℕ) → Spawned events frame birth → Contains (frames_made items) frame
  spawned_is_made frame birth (node, parent, is) = elim (acted_is cluster (course_of turns) birth node parent (log.Spawn frame) is) [
    | inr served ↦ absurd (let same = served.act_is in cc)
    | inl acted ↦
        let spawn = spawn_is frame acted.act acted.act_is in
        let one : Item = item.Act parent acted.index acted.act in
        let done : Contains (done_in (course_of turns)) one = done_at (course_of turns) birth acted.is.moved one acted.is.is acted.is.event_is in
        let here : Contains items one = subst (λ list. Contains list one) (done_is turns) done in
        let born : Birth = record { child = frame; parent = parent; index = acted.index; procedure = spawn.0; arguments = spawn.1 } in
        let gives : birth_in one ≡ Some born = ap (λ it. birth_in (item.Act parent acted.index it)) (spawn.2) in
        contains_later main_id (map (λ (it : Birth). it.child) (births_of items)) frame
        (mapped_by (λ (it : Birth). it.child) (births_of items) born (given_by birth_in items one born here gives))
  ]

  -- The history has the rows of the events.
  pub are_rows : EachIsMade events → AreRows events (length (course_of turns)) frames history
  are_rows made = record {
    numbered = is_history.numbered;
    count = ap length is_history.rows ∙ length-map frames (row_of frames main items);
    acts = acts_there;
    named = λ at node frame act inside is. there frame (elim (made at node frame act is) [
      | inl same ↦ subst (λ it. Contains (frames_made items) it) (sym same) (contains_first main_id (map (λ (it : Birth). it.child) (births_of items)))
      | inr birth ↦ spawned_is_made frame (birth.0) (birth.1)
    ]);
  }
    where
      there : (frame : FrameId) → Contains (frames_made items) frame → row_number frames frame < length frames
      there frame is =
          let found = Contains-permutation (frames_made items) frames frame is_history.each_once is in
          let less = found.1 in
          let first = number_first frames (found.0) frame (slice_get-get_or frames (found.0) frame less ∙ ap Some (found.2)) in
          omega (arith, less, first)
