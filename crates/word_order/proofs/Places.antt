-- Places of a history and positions of a line of events: each act has its place, and each place its act.
use Rattle.std.proofs.Common.{◌≡◌, ℕ, zero, suc, ◌<◌, List, Some, length, refl, sym, ◌∙◌, ap, subst, arith}
use Rattle.std.specs.Prelude.{slice_get, slice_index_or}
use Rattle.std.proofs.lemmas.Option.{slice_get_within, slice_get-get_or}
use Rattle.page_messages.specs.declared.closure.FrameId.{FrameId}
use Rattle.span_tree.specs.declared.act.Act.{Act}
use Rattle.span_tree.specs.declared.act.Act.TheVariants as row
use Rattle.span_tree.specs.declared.act.Place.{Place}
use Rattle.span_tree.specs.History.{History, IsNumbered, IsPlace, row_at, act_at}
use Rattle.span_tree.proofs.Orders.{row_within}
use Rattle.span_tree.proofs.Ways.{some_same}
use Rattle.cluster_rules.specs.Histories.{row_number}
use Rattle.backer_order.specs.Log as log
use Rattle.backer_order.specs.Log.{Events}
use Rattle.word_order.proofs.Rows.{shown, acts_before, place_in, place_once, place_order, act_there, act_found, number_get, number_first}

-- A history has a row for each of these frames, in which stands what the frame did before a position; and each frame that did something
-- has one.
pub record AreRows (events : Events) (now : ℕ) (frames : List FrameId) (history : History) : Type 0 where
  pub numbered : IsNumbered history
  pub count : length history ≡ length frames
  pub acts : (number : ℕ) (frame : FrameId) → slice_get frames number ≡ Some frame → (row_at history number).acts ≡ acts_before frames events frame now
  pub named : (at node : ℕ) (frame : FrameId) (act : log.Act) → at < now → events at ≡ log.Acts node frame act → row_number frames frame < length frames

module _ (events : Events) (now : ℕ) (frames : List FrameId) (history : History) (rows : AreRows events now frames history) where
  -- the place of what a frame did at a position
  abbrev pub place_for : FrameId → ℕ → Place
  place_for frame at = record { row = row_number frames frame; act = place_in frames events frame at }

  -- what an act of the history is
  pub record Comes (place : Place) (act : Act) : Type 0 where
    pub at : ℕ
    pub node : ℕ
    pub frame : FrameId
    pub done : log.Act
    pub inside : at < now
    pub is : events at ≡ log.Acts node frame done
    pub number_is : slice_get frames (place.row) ≡ Some frame
    pub place_is : place_in frames events frame at ≡ place.act
    pub act_is : shown frames done ≡ act

  pub comes : (place : Place) (act : Act) → act_at history place ≡ Some act → Comes place act
  comes place act is =
      let within : place.row < length history =
      row_within history (rows.numbered) (place.row) place refl (slice_get_within (row_at history place.row).acts place.act act is) in
      let frame : FrameId = slice_index_or frames (place.row) (record { node = 0; number = 0 }) in
      let less : place.row < length frames = let count = rows.count in omega (arith, within, count) in
      let number : slice_get frames (place.row) ≡ Some frame = slice_get-get_or frames (place.row) (record { node = 0; number = 0 }) less in
      let found =
      act_found frames events frame now (place.act) act (subst (λ acts. slice_get acts (place.act) ≡ Some act) (rows.acts (place.row) frame number) is) in
      record {
        at = found.at;
        node = found.node;
        frame = frame;
        done = found.done;
        inside = found.inside;
        is = found.is;
        number_is = number;
        place_is = found.place_is;
        act_is = found.act_is;
      }

  spawned_number : (done : log.Act) (number : ℕ) → shown frames done ≡ row.Spawn number
      → (child : FrameId) × (done ≡ log.Spawn child) × (row_number frames child ≡ number)
  spawned_number (log.Read word value) number is = absurd cc
  spawned_number (log.Write word value) number is = absurd cc
  spawned_number (log.Add word old addend) number is = absurd cc
  spawned_number (log.Print value) number is = absurd cc
  spawned_number (log.Spawn child) number is = (child, refl, cc)
  spawned_number log.Sync number is = absurd cc

  -- each frame has one row: what spawns a row names the first one of its frame
  pub number_is : (number : ℕ) (frame : FrameId) → slice_get frames number ≡ Some frame → row_number frames frame ≡ number
  number_is zero frame is = let first = number_first frames zero frame is in omega (arith, first)
  number_is (suc number) frame is =
      let within = slice_get_within frames (suc number) frame is in
      let parent = rows.numbered.parent (suc number) (omega arith) (let count = rows.count in omega (arith, within, count)) in
      let spawn = comes (parent.0) (row.Spawn (suc number)) (parent.1.spawns) in
      let child = spawned_number (spawn.done) (suc number) (spawn.act_is) in
      let less : row_number frames (child.0) < length frames = let same = child.2 in omega (arith, within, same) in
      let same : child.0 ≡ frame = some_same (child.0) frame (sym (number_get frames (child.0) less) ∙ ap (slice_get frames) (child.2) ∙ is) in
      subst (λ it. row_number frames it ≡ suc number) same (child.2)

  pub place_back : (place : Place) (act : Act) (it : Comes place act) → place ≡ place_for it.frame it.at
  place_back place act it =
      let row_is : row_number frames it.frame ≡ place.row = number_is (place.row) (it.frame) (it.number_is) in
      ap (λ number. record { row = number; act = place.act }) (sym row_is)
      ∙ ap (λ number. record { row = row_number frames it.frame; act = number }) (sym (it.place_is))

  -- what was done stands in the history
  pub act_here : (at node : ℕ) (frame : FrameId) (act : log.Act) → at < now → events at ≡ log.Acts node frame act
      → act_at history (place_for frame at) ≡ Some (shown frames act)
  act_here at node frame act inside is =
      let number = number_get frames frame (rows.named at node frame act inside is) in
      subst (λ acts. slice_get acts (place_in frames events frame at) ≡ Some (shown frames act))
      (sym (rows.acts (row_number frames frame) frame number)) (act_there frames events frame at node now act is inside)

  pub place_there : (at node : ℕ) (frame : FrameId) (act : log.Act) → at < now → events at ≡ log.Acts node frame act → IsPlace history (place_for frame at)
  place_there at node frame act inside is =
      slice_get_within (row_at history (row_number frames frame)).acts (place_in frames events frame at) (shown frames act)
      (act_here at node frame act inside is)

  -- two positions have two places
  pub one_position : (at node : ℕ) (frame : FrameId) (act : log.Act) (other_at other : ℕ) (second : FrameId) (next : log.Act) → at < now
      → events at ≡ log.Acts node frame act
      → other_at < now → events other_at ≡ log.Acts other second next → place_for frame at ≡ place_for second other_at → at ≡ other_at
  one_position at node frame act other_at other second next inside is other_inside other_is same =
      let row_same : row_number frames frame ≡ row_number frames second = ap (λ (it : Place). it.row) same in
      let number = number_get frames frame (rows.named at node frame act inside is) in
      let other_number = number_get frames second (rows.named other_at other second next other_inside other_is) in
      let frame_same : second ≡ frame = some_same second frame (sym other_number ∙ ap (slice_get frames) (sym row_same) ∙ number) in
      let act_same : place_in frames events frame at ≡ place_in frames events second other_at = ap (λ (it : Place). it.act) same in
      place_once frames events frame at other_at node other act next is (subst (λ it. events other_at ≡ log.Acts other it next) frame_same other_is)
      (act_same ∙ ap (λ it. place_in frames events it other_at) frame_same)

  -- ---- which act stands at a place

  pub record Stands (place : Place) (at : ℕ) : Type 0 where
    pub node : ℕ
    pub frame : FrameId
    pub done : log.Act
    pub inside : at < now
    pub is : events at ≡ log.Acts node frame done
    pub number : slice_get frames (place.row) ≡ Some frame
    pub place_is : place_in frames events frame at ≡ place.act
    pub act_is : act_at history place ≡ Some (shown frames done)

  pub stands : (place : Place) (act : Act) → act_at history place ≡ Some act → (at : ℕ) × Stands place at
  stands place act is =
      let it = comes place act is in (
        it.at,
        record {
          node = it.node;
          frame = it.frame;
          done = it.done;
          inside = it.inside;
          is = it.is;
          number = it.number_is;
          place_is = it.place_is;
          act_is = is ∙ ap Some (sym (it.act_is));
        },
      )

  pub stands_for : (at node : ℕ) (frame : FrameId) (act : log.Act) → at < now → events at ≡ log.Acts node frame act → Stands (place_for frame at) at
  stands_for at node frame act inside is = record {
    node = node;
    frame = frame;
    done = act;
    inside = inside;
    is = is;
    number = number_get frames frame (rows.named at node frame act inside is);
    place_is = refl;
    act_is = act_here at node frame act inside is;
  }

  -- in one row stands one frame
  pub one_frame : (place other : Place) (at other_at : ℕ) → place.row ≡ other.row → (it : Stands place at) → (that : Stands other other_at)
      → it.frame ≡ that.frame
  one_frame place other at other_at same it that = some_same it.frame that.frame (sym (it.number) ∙ ap (slice_get frames) same ∙ that.number)

  pub one_position_at : (place : Place) (at other_at : ℕ) → Stands place at → Stands place other_at → at ≡ other_at
  one_position_at place at other_at it that =
      let same = one_frame place place at other_at refl it that in
      place_once frames events it.frame at other_at it.node that.node it.done that.done it.is
      (subst (λ frame. events other_at ≡ log.Acts that.node frame that.done) (sym same) that.is)
      (it.place_is ∙ sym (that.place_is) ∙ ap (λ frame. place_in frames events frame other_at) (sym same))

  -- in one row what stands earlier was done earlier
  pub order_in_row : (place other : Place) (at other_at : ℕ) → place.row ≡ other.row → place.act < other.act → Stands place at → Stands other other_at
      → at < other_at
  order_in_row place other at other_at same less it that =
      let frame = one_frame place other at other_at same it that in
      let one = it.place_is in
      let two : place_in frames events it.frame other_at ≡ other.act = ap (λ frame. place_in frames events frame other_at) frame ∙ that.place_is in
      place_order frames events it.frame at other_at (omega (arith, less, one, two))

  -- the child that is spawned there
  pub spawned_there : (place : Place) (at child : ℕ) → (it : Stands place at) → act_at history place ≡ Some (row.Spawn child)
      → (frame : FrameId) × (events at ≡ log.Acts it.node it.frame (log.Spawn frame)) × (slice_get frames child ≡ Some frame)
  spawned_there place at child it spawns =
      let spawn = spawned_number it.done child (some_same (shown frames it.done) (row.Spawn child) (sym (it.act_is) ∙ spawns)) in
      let within : child < length history = (rows.numbered.child place child spawns).0 in
      let less : row_number frames (spawn.0) < length frames = let same = spawn.2 in let count = rows.count in omega (arith, within, same, count) in (
        spawn.0,
        subst (λ done. events at ≡ log.Acts it.node it.frame done) (spawn.1) it.is,
        ap (slice_get frames) (sym (spawn.2))
            ∙ number_get frames (spawn.0) less,
      )
