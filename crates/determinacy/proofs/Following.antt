-- One item more, and each frame still goes as a row does.
use Rattle.std.proofs.Common.{◌≡◌, ℕ, suc, ◌<◌, inl, inr, true, false, List, ◌∷◌, refl, sym, ◌∙◌, ap, subst, arith}
use Rattle.backer_order.specs.Log.{main_id, Spawn}
use Rattle.determinacy.proofs.Blocks.{no_children_first}
use Rattle.determinacy.proofs.Matches as matches
use Rattle.determinacy.proofs.Matches.{Two, Is, Alike, Meets}
use Rattle.determinacy.proofs.Rows as rows
use Rattle.determinacy.proofs.Rows.{by_acts, either_bool, answers_no_return, born_more, SpawnedAt, born_split}
use Rattle.determinacy.proofs.Steps as steps
use Rattle.determinacy.proofs.Steps.{pairs_empty, none_told, Found, found_match, Agree, SameObtained}
use Rattle.determinacy.specs.Determinate.{IsOpen}
use Rattle.determinacy.specs.Following.{Mains, Pairs, Level, Follows, AllFollow, Complete}
use Rattle.determinacy.specs.Replies.{Reply, by, children_after, children, replies, Answers, Born}
use Rattle.page_messages.specs.declared.closure.FrameId.{FrameId}

cons_same : (first second : Reply) (firsts seconds : List Reply) → first ≡ second → firsts ≡ seconds → first ∷ firsts ≡ second ∷ seconds
cons_same first second firsts seconds heads tails = ap (λ i. i ∷ firsts) heads ∙ ap (λ i. second ∷ i) tails

module _ (two : Two) where
  -- at the start the two `main`s are level
  pub level_first : (frame : FrameId) → Born two.run.events 0 frame → Level two.starts two.run two.serial 0 0 frame
  level_first frame (inr born) = absurd (omega (arith, born.before))
  level_first frame (inl of_main) = record {
    row = main_id;
    same = subst (λ i. Is two i main_id) (sym of_main) Mains;
    born = inl refl;
    alike = none_told two.starts two.run frame ∙ sym (none_told two.starts two.serial main_id);
    block = pairs_empty (Is two) (children two.run.events 0 frame) (children two.serial.events 0 main_id) (no_children_first two.run frame)
        (no_children_first two.serial main_id);
  }

  -- a frame and a row that were level, and have agreeing items
  pub level_item : (at place : ℕ) (frame row : FrameId) → Is two frame row → by frame (two.run.events at) ≡ true → by row (two.serial.events place) ≡ true →
      Alike two at frame place row → Agree two at place frame row → Level two.starts two.run two.serial (suc at) (suc place) frame
  level_item at place frame row same by_frame by_row alike agree = record {
    row = row;
    same = same;
    born = born_more two.serial place (suc place) row (omega arith) (two.serial_obeys.born place row by_row);
    alike = rows.grew two.starts two.run at frame by_frame ∙
        cons_same _ _ (replies two.starts two.run at frame) (replies two.starts two.serial place row) agree.reply alike ∙
        sym (rows.grew two.starts two.serial place row by_row);
    block = subst (λ i. Pairs (Is two) i (children two.serial.events (suc place) row)) (sym (rows.block_grew two.run at frame by_frame))
        (subst (λ i. Pairs (Is two) (children_after (two.run.events at) (children two.run.events at frame)) i)
        (sym (rows.block_grew two.serial place row by_row)) agree.block);
  }

  -- a frame that makes no item stays level
  pub level_still : (at place : ℕ) (frame : FrameId) → by frame (two.run.events at) ≡ false → Level two.starts two.run two.serial at place frame →
      Level two.starts two.run two.serial (suc at) place frame
  level_still at place frame none level = record {
    row = level.row;
    same = level.same;
    born = level.born;
    alike = rows.still two.starts two.run at frame none ∙ level.alike;
    block = subst (λ i. Pairs (Is two) i (children two.serial.events place level.row)) (sym (rows.block_still two.run at frame none)) level.block;
  }

  module _ (finish : ℕ) (all : Complete two.starts two.serial finish) where
    found_item : (at : ℕ) (frame : FrameId) → (follows : Follows two.starts two.run two.serial finish at frame) →
        rows.Item two.serial (follows.level.row) (follows.place) finish → Found two finish at frame
    found_item at frame follows item =
        let level = follows.level in
        let still = rows.unchanged two.starts two.serial level.row follows.place item.at item.after item.quiet in
        record {
          row = level.row;
          place = item.at;
          inside = item.before;
          same = level.same;
          by_row = item.is;
          alike = level.alike ∙ sym still.told;
          block = subst (λ i. Pairs (Is two) (children two.run.events at frame) i) (sym still.block) level.block;
        }

    -- a row has no item left only where it has returned
    none_left : (at : ℕ) (frame : FrameId) → (follows : Follows two.starts two.run two.serial finish at frame) → IsOpen two.starts two.run at frame →
        rows.Quiet two.serial (follows.level.row) (follows.place) finish → ⊥
    none_left at frame follows is_open quiet =
        let level = follows.level in
        let still = rows.unchanged two.starts two.serial level.row follows.place finish follows.inside quiet in
        let (value, returns) = all level.row (born_more two.serial follows.place finish level.row follows.inside level.born) in
        is_open value (matches.want_same two frame level.row at finish (matches.same_instance two frame level.row level.same)
        (level.alike ∙ sym still.told) ∙ returns)

    -- a frame that has not returned wants what its row answers next
    pub next_item : (at : ℕ) (frame : FrameId) → Follows two.starts two.run two.serial finish at frame → IsOpen two.starts two.run at frame →
        Found two finish at frame
    next_item at frame follows is_open = elim (rows.first_item two.serial follows.level.row follows.place finish follows.inside) [
      | inl item ↦ found_item at frame follows item
      | inr quiet ↦ absurd (none_left at frame follows is_open quiet)
    ]

    pub find : (at : ℕ) (frame : FrameId) → Follows two.starts two.run two.serial finish at frame → by frame (two.run.events at) ≡ true →
        Found two finish at frame
    find at frame follows acts =
        next_item at frame follows (λ value returns. answers_no_return two.run (two.run.events at) value
        (subst (λ i. Answers two.run (two.run.events at) i) returns (two.run_obeys.wants at frame acts)))

    abbrev AgreesAt : ℕ → Type 0
    AgreesAt at = (place : ℕ) → place < finish → Meets two at place → SameObtained two at place

    its_step : (at : ℕ) (frame : FrameId) → AllFollow two.starts two.run two.serial finish at → AgreesAt at → by frame (two.run.events at) ≡ true →
        Follows two.starts two.run two.serial finish (suc at) frame
    its_step at frame follow obtained acts =
        let found = find at frame (follow frame (two.run_obeys.born at frame acts)) acts in
        let agree = steps.agree two finish at found.place frame found.row follow found.same acts found.by_row found.alike found.block
        (obtained found.place found.inside (found_match two finish at frame acts found)) in
        record {
          place = suc found.place;
          inside = found.inside;
          level = level_item at found.place frame found.row found.same acts found.by_row found.alike agree;
        }

    birth_step : (at : ℕ) (child : FrameId) → AllFollow two.starts two.run two.serial finish at → SpawnedAt two.run at child →
        Follows two.starts two.run two.serial finish (suc at) child
    birth_step at child follow born =
        let acts = by_acts born.node born.parent (Spawn child) (two.run.events at) born.is in
        let found = find at born.parent (follow born.parent (two.run_obeys.born at born.parent acts)) acts in
        record {
          place = suc found.place;
          inside = found.inside;
          level = steps.level_birth two at found.place born.node born.parent child found.row born.is found.same found.by_row found.alike;
        }

    -- the step of the induction
    pub step : (at : ℕ) → AllFollow two.starts two.run two.serial finish at → AgreesAt at → AllFollow two.starts two.run two.serial finish (suc at)
    step at follow obtained frame born = elim (either_bool (by frame (two.run.events at))) [
      | inl acts ↦ its_step at frame follow obtained acts
      | inr none ↦ elim (born_split two.run at frame born) [
        | inr spawned ↦ birth_step at frame follow spawned
        | inl old ↦
            let follows = follow frame old in
            record { place = follows.place; inside = follows.inside; level = level_still at follows.place frame none follows.level }
      ]
    ]

    pub start : AllFollow two.starts two.run two.serial finish 0
    start frame born = record { place = 0; inside = omega arith; level = level_first frame born }
