-- The history of a course: the rows of the frames in the order of the walk.
use Rattle.std.proofs.Common.{◌≡◌, ◌⊎◌, inl, inr, ℕ, suc, ◌<◌, ◌≤◌, List, [], ◌∷◌, Option, Some, None, Bool, true, false, cond, length, map, refl, sym, ◌∙◌, ap, subst, arith}
use Rattle.std.specs.Prelude.{slice_get, slice_index_or}
use Rattle.std.proofs.lemmas.List.{get_or-map, length-map}
use Rattle.std.proofs.lemmas.List.Sorted.{length_permutation}
use Rattle.std.proofs.lemmas.Option.{slice_get-get_or, slice_get_within, get_or_from_slice_get}
use Rattle.std.specs.List.{Contains, filter_map, range_with_len}
use Rattle.std.specs.List.Sorted.{IsPermutation}
use Rattle.page_messages.specs.declared.closure.FrameId.{FrameId}
use Rattle.span_tree.specs.declared.act.Act.{Act}
use Rattle.span_tree.specs.declared.act.Act.TheVariants.{Spawn}
use Rattle.span_tree.specs.declared.act.Place.{Place}
use Rattle.span_tree.specs.History.{History, Row, no_row, row_at, act_at, spawned_by, serial_acts, places_below, IsParent, IsNumbered}
use Rattle.span_tree.proofs.Ways.{none_is, no_row_past}
use Rattle.std.proofs.lemmas.Bool.{cases_lt}
use Rattle.cluster_rules.specs.Lives.{same_frame, main_id}
use Rattle.cluster_rules.specs.Walking.{given}
use Rattle.cluster_rules.specs.Positions.{Course}
use Rattle.cluster_rules.specs.Runs.{Cluster}
use Rattle.cluster_rules.specs.Histories.{Birth, birth_of, row_number, row_of, row_with}
use Rattle.cluster_rules.proofs.Marks.{same_self, same_name}
use Rattle.cluster_rules.proofs.Stepping.{Stepped}
use Rattle.word_order.proofs.Items.{done_in}
use Rattle.word_order.proofs.Rows.{number_get}
use Rattle.run_history.proofs.Walk.{one, times, children, walk, walk_all}
use Rattle.run_history.proofs.Trees.{made_by, IsTree, each_once, as_often, at_most_once}
use Rattle.run_history.proofs.Births.{born_in, is_tree}
use Rattle.run_history.proofs.Acts.{acts_in, birth_stands}
use Rattle.run_history.proofs.Spawns.{spawn_is_birth, spawns_in}
use Rattle.run_history.proofs.Numbers.{children_in, number_within, number_is, numbers_from, times_there, child_counts, born_of, given_none, one_birth, child_birth}
use Rattle.run_history.proofs.Led.{parent_before}
use Rattle.run_history.proofs.Preorder.{named_at, named_below}

module _ (cluster : Cluster) (main : ℕ) (course : Course) (stepped : Stepped cluster course) where
  abbrev births : List Birth
  births = born_in course

  abbrev depth : ℕ
  depth = suc (length births)

  abbrev pub frames : List FrameId
  frames = walk births depth main_id

  abbrev row_for : FrameId → Row
  row_for = row_of frames main (done_in course)

  abbrev pub history : History
  history = map row_for frames

  tree : IsTree births
  tree = is_tree cluster course stepped

  pub once : IsPermutation (made_by births) frames
  once = each_once births tree depth (omega arith)

  often : (frame : FrameId) → times frame frames ≡ times frame (made_by births)
  often frame = as_often births tree frame depth (omega arith)

  few : (frame : FrameId) → times frame frames ≤ 1
  few frame = let same = often frame in let most = at_most_once births tree frame in omega (arith, same, most)

  few_born : (frame : FrameId) → times frame (children_in births) ≤ 1
  few_born frame = let most = at_most_once births tree frame in omega (arith, most)

  main_once : times main_id (made_by births) ≡ suc (times main_id (children_in births))
  main_once = let same = ap one (same_self main_id) in omega (arith, same)

  never : times main_id (children_in births) ≡ 0
  never = let most = at_most_once births tree main_id in let sum = main_once in omega (arith, most, sum)

  how_many : length history ≡ depth
  how_many = length-map frames row_for ∙ length_permutation (made_by births) frames once ∙ ap suc (length-map births (λ (birth : Birth). birth.child))

  same_count : length frames ≡ length history
  same_count = sym (length-map frames row_for)

  -- ---- rows

  found_row : (number : ℕ) (frame : FrameId) → slice_get frames number ≡ Some frame → row_at history number ≡ row_for frame
  found_row number frame is =
      get_or-map row_for frames number frame no_row (slice_get_within frames number frame is) ∙ ap row_for (get_or_from_slice_get frames number frame frame is)

  stands : (frame : FrameId) → 1 ≤ times frame (made_by births) → slice_get frames (row_number frames frame) ≡ Some frame
  stands frame some = number_get frames frame (number_within frames frame (let same = often frame in omega (arith, same, some)))

  named_row : (frame : FrameId) → 1 ≤ times frame (made_by births) → row_at history (row_number frames frame) ≡ row_for frame
  named_row frame some = found_row (row_number frames frame) frame (stands frame some)

  acts_with : (birth : Option Birth) (acts : List Act) → (row_with frames main birth acts).acts ≡ acts
  acts_with None acts = refl
  acts_with (Some birth) acts = refl

  row_acts : (frame : FrameId) → (row_for frame).acts ≡ acts_in frames frame course
  row_acts frame = acts_with (given (birth_of frame) births) (acts_in frames frame course)

  -- ---- row 0

  main_number : row_number frames main_id ≡ 0
  main_number = ap (λ b. cond b 0 (suc (row_number (walk_all (walk births (length births)) (children births main_id)) main_id))) (same_self main_id)

  main_there : 1 ≤ times main_id (made_by births)
  main_there = let sum = main_once in omega (arith, sum)

  main_row : row_at history 0 ≡ row_with frames main None (acts_in frames main_id course)
  main_row =
      ap (row_at history) (sym main_number) ∙ named_row main_id main_there
      ∙ ap (λ birth. row_with frames main birth (acts_in frames main_id course)) (given_none births main_id never)

  -- ---- parents

  born_there : (birth : Birth) → Contains births birth → 1 ≤ times birth.child (made_by births)
  born_there birth there = let some = child_counts births birth there in omega (arith, some)

  before : (birth : Birth) → Contains births birth → row_number frames birth.parent < row_number frames birth.child
  before birth there =
      parent_before births few_born never depth birth there (let same = often birth.child in let some = born_there birth there in omega (arith, same, some))

  -- the place of a birth
  abbrev place_of : Birth → Place
  place_of birth = record { row = row_number frames birth.parent; act = birth.index }

  within : (birth : Birth) → Contains births birth → row_number frames birth.child < length history
  within birth there =
      let less = slice_get_within frames (row_number frames birth.child) birth.child (stands birth.child (born_there birth there)) in
      let same = same_count in
      omega (arith, less, same)

  parent_made : (birth : Birth) → Contains births birth → 1 ≤ times birth.parent (made_by births)
  parent_made birth there = parent_counts (before birth there)
    where
      parent_counts : row_number frames birth.parent < row_number frames birth.child → 1 ≤ times birth.parent (made_by births)
      parent_counts less =
          let inside : row_number frames birth.parent < length frames =
          let most = within birth there in let same = same_count in omega (arith, less, most, same) in
          let some = times_there frames (row_number frames birth.parent) birth.parent (number_get frames birth.parent inside) in
          let same = often birth.parent in
          omega (arith, some, same)

  given_is : (birth : Birth) → Contains births birth → given (birth_of birth.child) births ≡ Some birth
  given_is birth there =
      let it = born_of births birth.child (child_counts births birth there) in
      it.given_is ∙ ap Some (one_birth births few_born it.birth birth it.there there it.child)

  -- A birth is the parent of its child's row.
  is_parent : (birth : Birth) → Contains births birth → IsParent history (row_number frames birth.child) (place_of birth)
  is_parent birth there = record {
    named = ap (λ (row : Row). row.parent) (named_row birth.child (born_there birth there)
        ∙ ap (λ it. row_with frames main it (acts_in frames birth.child course)) (given_is birth there));
    spawns = ap (λ list. slice_get list birth.index) (ap (λ (row : Row). row.acts) (named_row birth.parent (parent_made birth there)) ∙ row_acts birth.parent)
        ∙ birth_stands frames cluster course stepped birth there;
    before = before birth there;
  }

  frame_at : (number : ℕ) → number < length history → slice_get frames number ≡ Some (slice_index_or frames number main_id)
  frame_at number less = slice_get-get_or frames number main_id (let same = same_count in omega (arith, less, same))

  parent : (number : ℕ) → 0 < number → number < length history → (place : Place) × IsParent history number place
  parent number some less =
      let frame : FrameId = slice_index_or frames number main_id in
      let found = frame_at number less in
      let number_of : row_number frames frame ≡ number = number_is frames few number frame found in
      let it = born_of births frame (born frame number_of (times_there frames number frame found) (same_frame frame main_id) refl) in
      let named : row_number frames (it.birth).child ≡ number = ap (row_number frames) it.child ∙ number_of in
      (place_of it.birth, subst (λ row. IsParent history row (place_of it.birth)) named (is_parent it.birth it.there))
    where
      born : (frame : FrameId) → row_number frames frame ≡ number → 1 ≤ times frame frames → (b : Bool) → same_frame frame main_id ≡ b
          → 1 ≤ times frame (children_in births)
      born frame number_of there true is =
          let first : number ≡ 0 = sym number_of ∙ ap (row_number frames) (same_name frame main_id is) ∙ main_number in absurd (omega (arith, some, first))
      born frame number_of there false is = let same = often frame in let none = ap one is in omega (arith, same, none, there)

  -- each Spawn act is a birth
  child : (place : Place) (number : ℕ) → act_at history place ≡ Some (Spawn number) → (number < length history) × IsParent history number place
  child place number found =
      let inside = row_inside (cases_lt place.row (length history)) in
      let frame : FrameId = slice_index_or frames place.row main_id in
      let here = frame_at place.row inside in
      let acts = ap (λ (row : Row). row.acts) (found_row place.row frame here) ∙ row_acts frame in
      let it = spawn_is_birth frames cluster course stepped frame place.act number (ap (λ list. slice_get list place.act) (sym acts) ∙ found) in
      let row_is : row_number frames (it.birth).parent ≡ place.row = ap (row_number frames) it.parent ∙ number_is frames few place.row frame here in
      let place_is : place_of it.birth ≡ place =
      ap (λ row. record { row = row; act = (it.birth).index }) row_is ∙ ap (λ act. record { row = place.row; act = act }) it.index in (
        subst (λ it. it < length history) it.number_is (within it.birth it.there),
        subst (λ row. IsParent history row place) it.number_is
            (subst (λ one_of. IsParent history (row_number frames (it.birth).child) one_of) place_is (is_parent it.birth it.there)),
      )
    where
      row_inside : (place.row < length history) ⊎ (length history ≤ place.row) → place.row < length history
      row_inside (inl less) = less
      row_inside (inr more) =
          absurd (none_is (slice_get [] place.act) (Spawn number) refl
          (ap (λ (row : Row). slice_get row.acts place.act) (sym (no_row_past history place.row more)) ∙ found))

  -- ---- the serial order

  children_made : (frame one_of : FrameId) → 1 ≤ times one_of (children births frame) → 1 ≤ times one_of (made_by births)
  children_made frame one_of some =
      let it = child_birth births frame one_of some in
      subst (λ name. 1 ≤ times name (made_by births)) it.child_is (born_there it.birth it.there)

  row_spawns : (frame : FrameId) → 1 ≤ times frame (made_by births)
      → filter_map spawned_by (row_at history (row_number frames frame)).acts ≡ map (row_number frames) (children births frame)
  row_spawns frame some = ap (filter_map spawned_by) (ap (λ (row : Row). row.acts) (named_row frame some) ∙ row_acts frame) ∙ spawns_in frames frame course

  preorder : 0 ∷ filter_map spawned_by (serial_acts history) ≡ range_with_len 0 (length history)
  preorder =
      ap (λ levels. 0 ∷ named_at history (places_below levels history 0)) how_many
      ∙ ap (λ row. row ∷ named_at history (places_below depth history row)) (sym main_number)
      ∙ named_below history births frames row_spawns children_made depth main_id main_there
      ∙ numbers_from [] frames few
      ∙ ap (range_with_len 0) same_count

  -- The rows are numbered as the walk comes to them.
  pub numbered : IsNumbered history
  numbered = record {
    some = (let count = how_many in omega (arith, count));
    main = ap (λ (row : Row). row.parent) main_row;
    main_args = ap (λ (row : Row). row.args) main_row;
    parent = parent;
    child = child;
    preorder = preorder;
  }
