-- A finished run has the history of the serial execution.
use Rattle.std.proofs.Common.{◌≡◌, ℕ, zero, suc, ◌<◌, ◌≤◌, inl, inr, ℤ, true, Some, refl, sym, ◌∙◌, subst, arith}
use Rattle.backer_order.specs.Log.{main_id, Spawn}
use Rattle.cilk_meaning.specs.Wants.{Returns}
use Rattle.determinacy.proofs.Carried as carried
use Rattle.determinacy.proofs.Carried.{child_ended}
use Rattle.determinacy.proofs.Counting.{at_most}
use Rattle.determinacy.proofs.Induction as induction
use Rattle.determinacy.proofs.Induction.{Setting}
use Rattle.determinacy.proofs.Items.{actor, item_is}
use Rattle.determinacy.proofs.Matches as matches
use Rattle.determinacy.proofs.Matches.{Two, Is, Meets}
use Rattle.determinacy.proofs.Meeting.{Back, as_match, meet_spawn}
use Rattle.determinacy.proofs.Rows as rows
use Rattle.determinacy.proofs.Rows.{by_acts, born_more}
use Rattle.determinacy.proofs.Steps as steps
use Rattle.determinacy.specs.Ending.{is_item, all_ticks, ItsRow, ItsFrame, OneHistory}
use Rattle.determinacy.specs.Following.{Mains}
use Rattle.determinacy.specs.Replies.{by, want_at, SpawnedBefore, Born}
use Rattle.page_messages.specs.declared.closure.FrameId.{FrameId}

module _ (setting : Setting) (now : ℕ) (result : ℤ) (finished : want_at setting.two.starts setting.two.run now main_id ≡ Some (Returns result)) where
  -- the frame of a row, which has returned
  record Whole (row : FrameId) : Type 0 where
    frame : FrameId
    at : ℕ
    value : ℤ
    inside : at ≤ now
    born : Born setting.two.run.events at frame
    same : Is setting.two frame row
    returns : want_at setting.two.starts setting.two.run at frame ≡ Some (Returns value)

  -- so each item of the row was done
  item_done : (row : FrameId) (place : ℕ) → (whole : Whole row) → by row (setting.two.serial.events place) ≡ true →
      Back setting.two (whole.frame) row (whole.at) place
  item_done row place whole acts =
      carried.done_act setting.two setting.finish now
      (induction.follows setting now) whole.frame row place whole.at whole.value acts whole.inside whole.same whole.returns whole.born

  child_whole : (row : FrameId) (bound : ℕ) → (born : SpawnedBefore setting.two.serial.events bound row) → Whole (born.parent) → Whole row
  child_whole row bound born parent =
      let done = item_done born.parent born.at parent (by_acts born.node born.parent (Spawn row) (setting.two.serial.events born.at) born.is) in
      let twin = meet_spawn setting.two parent.frame born.parent done.at born.at born.node row done.meet born.is in
      let ended = child_ended setting.two.starts setting.two.main setting.two.run setting.two.run_obeys
      parent.frame twin.child done.at twin.node parent.at parent.value twin.is done.before parent.returns in
      record {
        frame = twin.child;
        at = ended.at;
        value = ended.value;
        inside = omega (arith, ended.before, parent.inside);
        born = inr (record { at = done.at; node = twin.node; parent = parent.frame; before = ended.after; is = twin.is });
        same = twin.same;
        returns = ended.returns;
      }

  whole : (bound : ℕ) (row : FrameId) → Born setting.two.serial.events bound row → Whole row
  whole bound row (inl of_main) = record {
    frame = main_id;
    at = now;
    value = result;
    inside = omega arith;
    born = inl refl;
    same = subst (λ i. Is setting.two main_id i) (sym of_main) Mains;
    returns = finished;
  }
  whole zero row (inr born) = absurd (omega (arith, born.before))
  whole (suc bound) row (inr born) =
      child_whole row (suc bound) born (whole bound born.parent (born_more setting.two.serial born.at bound born.parent (omega (arith, born.before))
      (setting.two.serial_obeys.born born.at born.parent (by_acts born.node born.parent (Spawn row) (setting.two.serial.events born.at) born.is))))

  pub record Done (place : ℕ) : Type 0 where
    pub at : ℕ
    pub before : at < now
    pub match : Meets setting.two at place

  -- each item of the serial execution was done
  pub all_done : (place : ℕ) (row : FrameId) → by row (setting.two.serial.events place) ≡ true → Done place
  all_done place row acts =
      let its = whole place row (setting.two.serial_obeys.born place row acts) in
      let done = item_done row place its acts in
      record { at = done.at; before = omega (arith, done.before, its.inside); match = as_match setting.two its.frame row done.at place done.meet }

  done_at : (place : ℕ) → is_item (setting.two.serial.events place) ≡ true → Done place
  done_at place is = let acting = actor (setting.two.serial.events place) is in all_done place acting.frame acting.acts

  ticks_at_least : all_ticks setting.two.serial.events (setting.finish) ≤ all_ticks setting.two.run.events now
  ticks_at_least = at_most setting.finish (λ i. is_item (setting.two.serial.events i)) (λ i. is_item (setting.two.run.events i)) now (record {
    to = λ place within is. let done = done_at place is in record {
      at = done.at;
      inside = done.before;
      is = item_is done.match.frame (setting.two.run.events done.at) done.match.by_frame;
    };
    one = λ place next within within_next is is_next same.
        let done = done_at place is in
        let again = done_at next is_next in
        matches.one_place setting.two done.at place next done.match (subst (λ i. Meets setting.two i next) (sym same) again.match);
  })

  its_row : (frame : FrameId) → Born setting.two.run.events now frame → ItsRow setting.two.starts setting.two.run setting.two.serial now (setting.finish) frame
  its_row frame born =
      let its = induction.follows_now setting now frame born in
      let row = its.level.row in
      let its_whole = whole its.place row its.level.born in
      let frames = matches.one_frame setting.two its_whole.frame frame row its_whole.same its.level.same in
      let returns = subst (λ i. want_at setting.two.starts setting.two.run its_whole.at i ≡ Some (Returns its_whole.value)) frames its_whole.returns in
      let returns_now = rows.still_returned setting.two.starts setting.two.main setting.two.run setting.two.run_obeys
      frame its_whole.at its_whole.value returns now its_whole.inside in
      let there = steps.level_returns setting.two now its.place frame its_whole.value returns_now its.level in
      let settled = rows.settled setting.two.starts setting.two.main setting.two.serial setting.two.serial_obeys
      row its.place its_whole.value there setting.finish its.inside in
      record {
        row = row;
        born = born_more setting.two.serial its.place setting.finish row its.inside its.level.born;
        same = its.level.same;
        alike = its.level.alike ∙ sym settled.told;
        instance = matches.same_instance setting.two frame row its.level.same;
      }

  its_frame : (row : FrameId) → Born setting.two.serial.events (setting.finish) row → ItsFrame setting.two.starts setting.two.run setting.two.serial now row
  its_frame row born =
      let its = whole setting.finish row born in
      record { frame = its.frame; born = born_more setting.two.run its.at now its.frame its.inside its.born; same = its.same }

  pub one_history : OneHistory setting.two.starts setting.two.run setting.two.serial now (setting.finish)
  one_history = record {
    rows = its_row;
    frames = its_frame;
    one_row = matches.one_row setting.two;
    one_frame = matches.one_frame setting.two;
    ticks = let most = induction.ticks_at_most setting now in let least = ticks_at_least in omega arith;
  }
