-- The history of a service has the acts of its trace, row by row, and its serial order is that of the positions.
use Rattle.std.proofs.Common.{◌≡◌, ◌≢◌, ℕ, zero, suc, ◌+◌, ◌<◌, ◌≤◌, inl, inr, true, false, Some, List, [], ◌∷◌, ◌++◌, length, refl, sym, ◌∙◌, ap, subst, arith}
use Rattle.std.proofs.lemmas.List.{append-nil}
use Rattle.std.specs.List.{Contains}
use Rattle.std.specs.Prelude.{slice_get}
use Rattle.backer_order.proofs.Search.{Less3, Same3, More3, compare}
use Rattle.backer_order.specs.Log as log
use Rattle.backer_order.specs.Log.{Nothing, Events}
use Rattle.cilk_meaning.specs.World as world
use Rattle.cilk_meaning.specs.World.{Event}
use Rattle.cluster_rules.specs.Histories.{row_number}
use Rattle.cluster_rules.specs.Lives.{same_frame}
use Rattle.determinacy.proofs.Rows.{either_bool, when_true, when_false, same_is, same_self}
use Rattle.elision_trace.proofs.Logs.{event_here, event_there}
use Rattle.elision_trace.specs.Tracing.{frame_at, frames_from, frames_to, act_of, event_of, events_in}
use Rattle.page_messages.specs.declared.closure.FrameId.{FrameId}
use Rattle.span_tree.proofs.Growing.{OneMore}
use Rattle.span_tree.proofs.Orders.{first_or_later, is_first, is_later, nothing_in_none, all_in}
use Rattle.span_tree.specs.Dag.{StandsBefore}
use Rattle.span_tree.specs.History.{History, IsNumbered, row_at, serial_order}
use Rattle.span_tree.specs.Recording.{next_place}
use Rattle.span_tree.specs.declared.act.Act.{Act}
use Rattle.span_tree.specs.declared.act.Place.{Place}
use Rattle.word_order.proofs.Rows.{shown, act_by, acts_before, place_in, place_passed}

-- ---- the frames of so many rows

pub how_many : (start count : ℕ) → length (frames_from start count) ≡ count
how_many start zero = refl
how_many start (suc count) = ap suc (how_many (suc start) count)

-- at each place stands the frame of the row with this number
pub get_frame : (start count place : ℕ) (frame : FrameId) → slice_get (frames_from start count) place ≡ Some frame → frame ≡ frame_at (start + place)
get_frame start zero place frame is = absurd cc
get_frame start (suc count) zero frame is = let same : frame_at start ≡ frame = cc in sym same ∙ ap frame_at (omega arith)
get_frame start (suc count) (suc place) frame is = get_frame (suc start) count place frame is ∙ ap frame_at (omega arith)

pub not_same : (first second : ℕ) → first ≢ second → same_frame (frame_at first) (frame_at second) ≡ false
not_same first second other = elim (either_bool (same_frame (frame_at first) (frame_at second))) [
  | inl is ↦ absurd (other (ap (λ (i : FrameId). i.number) (same_is (frame_at first) (frame_at second) is)))
  | inr differ ↦ differ
]

pub number_of : (start count place row : ℕ) → row ≡ start + place → place < count → row_number (frames_from start count) (frame_at row) ≡ place
number_of start zero place row is inside = absurd (omega (arith, inside))
number_of start (suc count) zero row is inside =
    let same : row ≡ start = omega (arith, is) in
    let test : same_frame (frame_at start) (frame_at row) ≡ true =
    subst (λ i. same_frame (frame_at start) (frame_at i) ≡ true) (sym same) (same_self (frame_at start)) in
    when_true (same_frame (frame_at start) (frame_at row)) 0 (suc (row_number (frames_from (suc start) count) (frame_at row))) test
number_of start (suc count) (suc place) row is inside =
    when_false (same_frame (frame_at start) (frame_at row)) 0 (suc (row_number (frames_from (suc start) count) (frame_at row)))
    (not_same start row (λ same. absurd (omega (arith, is, same))))
    ∙ ap suc (number_of (suc start) count place row (omega (arith, is)) (omega (arith, inside)))

pub number_in : (rows row : ℕ) → row < rows → row_number (frames_to rows) (frame_at row) ≡ row
number_in rows row inside = number_of 0 rows row row (omega arith) inside

-- ---- places that stand in order

contains_front : (front back : List Place) (x : Place) → Contains front x → Contains (front ++ back) x
contains_front [] back x is = absurd (nothing_in_none x is)
contains_front (place ∷ front) back x is = elim (first_or_later place front x is) [
  | inl same ↦ subst (λ i. Contains (place ∷ (front ++ back)) i) same (is_first place (front ++ back))
  | inr later ↦ is_later place (front ++ back) x (contains_front front back x later)
]

contains_last : (front : List Place) (x : Place) → Contains (front ++ x ∷ []) x
contains_last [] x = is_first x []
contains_last (place ∷ front) x = is_later place (front ++ x ∷ []) x (contains_last front x)

stands_front : (front back : List Place) (x y : Place) → StandsBefore front x y → StandsBefore (front ++ back) x y
stands_front [] back x y is = absurd is
stands_front (place ∷ front) back x y (inl is) = inl (is.0, contains_front front back y is.1)
stands_front (place ∷ front) back x y (inr is) = inr (stands_front front back x y is)

stands_last : (front : List Place) (x y : Place) → Contains front x → StandsBefore (front ++ y ∷ []) x y
stands_last [] x y is = absurd (nothing_in_none x is)
stands_last (place ∷ front) x y is = elim (first_or_later place front x is) [
  | inl same ↦ inl (same, contains_last front y)
  | inr later ↦ inr (stands_last front x y later)
]

-- ---- what a frame did, by the events before

acts_same : (frames : List FrameId) (events other : Events) (frame : FrameId) (now : ℕ) → ((at : ℕ) → at < now → other at ≡ events at) →
    acts_before frames other frame now ≡ acts_before frames events frame now
unfolding acts_before
acts_same frames events other frame zero same = refl
acts_same frames events other frame (suc now) same =
    ap (λ i. i ++ act_by frames frame (other now)) (acts_same frames events other frame now (λ at before. same at (omega (arith, before))))
    ∙ ap (λ i. acts_before frames events frame now ++ act_by frames frame i) (same now (omega arith))

acts_next : (frames : List FrameId) (events : Events) (frame : FrameId) (now : ℕ) (event : log.Event) → events now ≡ event →
    acts_before frames events frame (suc now) ≡ acts_before frames events frame now ++ act_by frames frame event
unfolding acts_before
acts_next frames events frame now event is = ap (λ i. acts_before frames events frame now ++ act_by frames frame i) is

pub acts_first : (frames : List FrameId) (events : Events) (frame : FrameId) → acts_before frames events frame 0 ≡ []
unfolding acts_before
acts_first frames events frame = refl

-- the place of what a row did at a position
abbrev pub place_at : ℕ → List Event → ℕ → ℕ → Place
place_at most events row at = record { row = row; act = place_in (frames_to most) (events_in events) (frame_at row) at }

-- The history tells what the log does, in its order.
pub record Placed (events : List Event) (h : History) (rows : ℕ) : Type 0 where
  pub acts : (most : ℕ) → rows ≤ most → (row : ℕ) → (row_at h row).acts ≡ acts_before (frames_to most) (events_in events) (frame_at row) (length events)
  pub order : (most : ℕ) → rows ≤ most → (at later node other row second : ℕ) (act next : log.Act) → at < later → later < length events →
      events_in events at ≡ log.Acts node (frame_at row) act → events_in events later ≡ log.Acts other (frame_at second) next →
      StandsBefore (serial_order h) (place_at most events row at) (place_at most events second later)

same_second : (row node second : ℕ) (done next : log.Act) → log.Acts 0 (frame_at row) done ≡ log.Acts node (frame_at second) next → row ≡ second
same_second row node second done next is =
    let frames : frame_at row ≡ frame_at second = cc in ap (λ (i : FrameId). i.number) frames

no_tick : (row node : ℕ) (frame : FrameId) (next : log.Act) → log.Tick 0 (frame_at row) ≡ log.Acts node frame next → ⊥
no_tick row node frame next is = cc

module _ (events : List Event) (event : Event) where
  agrees : (at now : ℕ) → now ≤ length events → at < now → events_in (event ∷ events) at ≡ events_in events at
  agrees at now inside before = event_there event events at (λ same. absurd (omega (arith, before, inside, same)))

  before_same : (most row now : ℕ) → now ≤ length events →
      acts_before (frames_to most) (events_in (event ∷ events)) (frame_at row) now ≡ acts_before (frames_to most) (events_in events) (frame_at row) now
  before_same most row now inside =
      acts_same (frames_to most) (events_in events) (events_in (event ∷ events)) (frame_at row) now (λ at before. agrees at now inside before)

  place_same : (most row at : ℕ) → at ≤ length events → place_at most events row at ≡ place_at most (event ∷ events) row at
  place_same most row at inside = ap (λ (i : List Act). record { row = row; act = length i }) (sym (before_same most row at inside))

  -- what stood in order stands so
  order_old : (most : ℕ) (h : History) (rows : ℕ) → Placed events h rows → rows ≤ most → (at later node other row second : ℕ) (act next : log.Act)
      → at < later →
      later < length events → events_in (event ∷ events) at ≡ log.Acts node (frame_at row) act
      → events_in (event ∷ events) later ≡ log.Acts other (frame_at second) next →
      StandsBefore (serial_order h) (place_at most (event ∷ events) row at) (place_at most (event ∷ events) second later)
  order_old most h rows placed inside at later node other row second act next before within is is_next =
      let here = sym (agrees at (length events) (omega arith) (omega (arith, before, within))) ∙ is in
      let there = sym (agrees later (length events) (omega arith) within) ∙ is_next in
      let old = placed.order most inside at later node other row second act next before within here there in
      subst (λ i. StandsBefore (serial_order h) i (place_at most (event ∷ events) second later)) (place_same most row at (omega (arith, before, within)))
      (subst (λ i. StandsBefore (serial_order h) (place_at most events row at) i) (place_same most second later (omega (arith, within))) old)

-- a tick is no act
pub placed_tick : (events : List Event) (row : ℕ) (h : History) (rows : ℕ) → Placed events h rows → Placed (world.Ticks row ∷ events) h rows
placed_tick events row h rows placed = record {
  acts = λ most inside other.
      placed.acts most inside other
      ∙ sym (acts_next (frames_to most) (events_in (world.Ticks row ∷ events)) (frame_at other) (length events) (log.Tick 0 (frame_at row))
      (event_here (world.Ticks row) events)
      ∙ append-nil (acts_before (frames_to most) (events_in (world.Ticks row ∷ events)) (frame_at other) (length events))
      ∙ before_same events (world.Ticks row) most other (length events) (omega arith));
  order = λ most inside at later node other first second act next before within is is_next. elim (compare later (length events)) [
    | Less3 l ↦ order_old events (world.Ticks row) most h rows placed inside at later node other first second act next before l is is_next
    | Same3 same ↦
        absurd (no_tick row other (frame_at second) next
        (sym (event_here (world.Ticks row) events) ∙ ap (events_in (world.Ticks row ∷ events)) (sym same) ∙ is_next))
    | More3 l ↦ absurd (omega (arith, within))
  ];
}

module _ (events : List Event) (row : ℕ) (act : world.Act) (h grown : History) (rows next : ℕ) (made : Act) (numbered : IsNumbered h)
    (placed : Placed events h rows)
    (one : OneMore h grown row made) (in_order : serial_order grown ≡ serial_order h ++ next_place row h ∷ []) (more : rows ≤ next)
    (told : (most : ℕ) → next ≤ most → shown (frames_to most) (act_of act) ≡ made) where
  abbrev event : Event
  event = world.Acts row act

  now_acts : (most : ℕ) → next ≤ most → (other : ℕ) →
      acts_before (frames_to most) (events_in (event ∷ events)) (frame_at other) (suc (length events))
      ≡ (row_at h other).acts ++ act_by (frames_to most) (frame_at other) (event_of event)
  now_acts most inside other =
      acts_next (frames_to most) (events_in (event ∷ events)) (frame_at other) (length events) (event_of event) (event_here event events)
      ∙ ap (λ i. i ++ act_by (frames_to most) (frame_at other) (event_of event))
      (before_same events event most other (length events) (omega arith) ∙ sym (placed.acts most (omega (arith, inside, more)) other))

  acts_grown : (most : ℕ) → next ≤ most → (other : ℕ)
      → (row_at grown other).acts ≡ acts_before (frames_to most) (events_in (event ∷ events)) (frame_at other) (suc (length events))
  acts_grown most inside other = elim (compare other row) [
    | Same3 same ↦ subst (λ i. (row_at grown i).acts ≡ acts_before (frames_to most) (events_in (event ∷ events)) (frame_at i) (suc (length events))) (sym same)
        (one.here ∙ ap (λ i. (row_at h row).acts ++ i ∷ []) (sym (told most inside))
        ∙ ap (λ i. (row_at h row).acts ++ i)
        (sym (when_true (same_frame (frame_at row) (frame_at row)) (shown (frames_to most) (act_of act) ∷ []) [] (same_self (frame_at row))))
        ∙ sym (now_acts most inside row))
    | Less3 l ↦ far (λ same. absurd (omega (arith, l, same)))
    | More3 l ↦ far (λ same. absurd (omega (arith, l, same)))
  ]
    where
      far : other ≢ row → (row_at grown other).acts ≡ acts_before (frames_to most) (events_in (event ∷ events)) (frame_at other) (suc (length events))
      far differ =
          one.others other differ ∙ sym (append-nil (row_at h other).acts)
          ∙ ap (λ i. (row_at h other).acts ++ i) (sym (when_false (same_frame (frame_at row) (frame_at other)) (shown (frames_to most) (act_of act) ∷ []) []
          (not_same row other (λ same. differ (sym same)))))
          ∙ sym (now_acts most inside other)

  -- an act before stands in the history
  old_place : (most : ℕ) → next ≤ most → (at node other : ℕ) (done : log.Act) → at < length events → events_in events at ≡ log.Acts node (frame_at other) done →
      Contains (serial_order h) (place_at most events other at)
  old_place most inside at node other done before is =
      let passed = place_passed (frames_to most) (events_in events) (frame_at other) at node (length events) done is before in
      let lengths = ap length (placed.acts most (omega (arith, inside, more)) other) in
      all_in h numbered (place_at most events other at) (omega (arith, passed, lengths))

  new_place : (most : ℕ) → next ≤ most → next_place row h ≡ place_at most (event ∷ events) row (length events)
  new_place most inside =
      ap (λ (i : List Act). record { row = row; act = length i })
      (placed.acts most (omega (arith, inside, more)) row ∙ sym (before_same events event most row (length events) (omega arith)))

  order_new : (most : ℕ) → next ≤ most → (at node other : ℕ) (done : log.Act) → at < length events
      → events_in (event ∷ events) at ≡ log.Acts node (frame_at other) done →
      StandsBefore (serial_order grown) (place_at most (event ∷ events) other at) (place_at most (event ∷ events) row (length events))
  order_new most inside at node other done before is =
      let here = sym (agrees events event at (length events) (omega arith) before) ∙ is in
      let contained = old_place most inside at node other done before here in
      let old_there : Contains (serial_order h) (place_at most (event ∷ events) other at) =
      subst (λ i. Contains (serial_order h) i) (place_same events event most other at (omega (arith, before))) contained in
      let stands = stands_last (serial_order h) (place_at most (event ∷ events) other at) (next_place row h) old_there in
      subst (λ i. StandsBefore (serial_order grown) (place_at most (event ∷ events) other at) i) (new_place most inside)
      (subst (λ i. StandsBefore i (place_at most (event ∷ events) other at) (next_place row h)) (sym in_order) stands)

  order_grown : (most : ℕ) → next ≤ most → (at later node other first second : ℕ) (done after : log.Act) → at < later → later < suc (length events) →
      events_in (event ∷ events) at ≡ log.Acts node (frame_at first) done → events_in (event ∷ events) later ≡ log.Acts other (frame_at second) after →
      StandsBefore (serial_order grown) (place_at most (event ∷ events) first at) (place_at most (event ∷ events) second later)
  order_grown most inside at later node other first second done after before within is is_after = elim (compare later (length events)) [
    | Less3 l ↦ subst (λ i. StandsBefore i (place_at most (event ∷ events) first at) (place_at most (event ∷ events) second later)) (sym in_order)
        (stands_front (serial_order h) (next_place row h ∷ []) (place_at most (event ∷ events) first at) (place_at most (event ∷ events) second later)
        (order_old events event most h rows placed (omega (arith, inside, more)) at later node other first second done after before l is is_after))
    | Same3 same ↦
        let rows_same : row ≡ second = same_second row other second (act_of act) after
        (sym (event_here event events) ∙ ap (events_in (event ∷ events)) (sym same) ∙ is_after) in
        let stands = order_new most inside at node first done (omega (arith, before, same)) is in
        let its_row : StandsBefore (serial_order grown) (place_at most (event ∷ events) first at) (place_at most (event ∷ events) second (length events)) =
        subst (λ i. StandsBefore (serial_order grown) (place_at most (event ∷ events) first at) (place_at most (event ∷ events) i (length events)))
        rows_same stands in
        subst (λ i. StandsBefore (serial_order grown) (place_at most (event ∷ events) first at) (place_at most (event ∷ events) second i)) (sym same) its_row
    | More3 l ↦ absurd (omega (arith, within))
  ]

  pub placed_act : Placed (event ∷ events) grown next
  placed_act = record { acts = acts_grown; order = order_grown }
