-- An execution whose reads go by the dag follows a complete serial execution without race.
use Rattle.std.proofs.Common.{◌≡◌, ℕ, zero, suc, ◌<◌, ◌≤◌, ℤ, Bool, true, Option, Some, None, length, sym, ◌∙◌, ap, subst, arith}
use Rattle.backer_order.proofs.Search.{Less3, Same3, More3, compare}
use Rattle.backer_order.specs.Log.{SharedMemory}
use Rattle.cilk_meaning.specs.declared.ends.TrapKind.{TrapKind}
use Rattle.cilk_meaning.specs.Wants.{Want, Returns, Traps}
use Rattle.determinacy.proofs.ByDag.{ReadsByDag}
use Rattle.determinacy.proofs.Counting.{Map, at_most, fewer}
use Rattle.determinacy.proofs.Following as following
use Rattle.determinacy.proofs.Items.{actor, item_is}
use Rattle.determinacy.proofs.Leaving as leaving
use Rattle.determinacy.proofs.Matches as matches
use Rattle.determinacy.proofs.Matches.{Two, Is, Meets}
use Rattle.determinacy.proofs.Reading as reading
use Rattle.determinacy.proofs.Rows as rows
use Rattle.determinacy.proofs.Rows.{by_one}
use Rattle.determinacy.proofs.Steps.{Found}
use Rattle.determinacy.proofs.Told as told
use Rattle.determinacy.specs.Determinate.{IsOpen}
use Rattle.determinacy.specs.Ending.{is_item, all_ticks}
use Rattle.determinacy.specs.Following.{AllFollow, Complete}
use Rattle.determinacy.specs.Replies.{by, replies, want_at, Answers, Born}
use Rattle.determinacy.specs.Serial.{SerialReads, RaceFree}
use Rattle.page_messages.specs.declared.closure.FrameId.{FrameId}

-- A run whose reads go by the dag, and a complete serial execution without race.
pub record Setting : Type 0 where
  pub two : Two
  pub memory : SharedMemory
  pub finish : ℕ
  pub all : Complete two.starts two.serial finish
  pub free : RaceFree two.serial.events finish
  pub serial_reads : SerialReads two.serial.events memory
  pub by_dag : ReadsByDag two.run.events memory

module _ (setting : Setting) where
  abbrev pub Follow : ℕ → Type 0
  Follow now = AllFollow setting.two.starts setting.two.run setting.two.serial setting.finish now

  step : (now : ℕ) → ((before : ℕ) → before ≤ now → Follow before) → Follow (suc now)
  step now follow =
      following.step setting.two setting.finish setting.all now (follow now (omega arith))
      (λ place inside match node other word here there obtains obtains_there.
      reading.agrees setting.two setting.memory setting.finish now setting.all follow setting.free node other word place here there
      obtains obtains_there inside match setting.by_dag (setting.serial_reads other word place there obtains_there))

  pub follows : (end now : ℕ) → now ≤ end → Follow now
  follows zero now within = let same : 0 ≡ now = omega arith in subst (λ i. Follow i) same (following.start setting.two setting.finish setting.all)
  follows (suc end) now within = elim (compare now (suc end)) [
    | Less3 l ↦ follows end now (omega arith)
    | More3 l ↦ absurd (omega arith)
    | Same3 same ↦ subst (λ i. Follow i) (sym same) (step end (follows end))
  ]

  pub follows_now : (now : ℕ) → Follow now
  follows_now now = follows now now (omega arith)

  -- ---- no trap

  pub open_item : (now : ℕ) (frame : FrameId) → Born setting.two.run.events now frame → IsOpen setting.two.starts setting.two.run now frame →
      Found setting.two setting.finish now frame
  open_item now frame born is_open = following.next_item setting.two setting.finish setting.all now frame (follows_now now frame born) is_open

  -- what a frame that has not returned wants is a request
  open_wants : (now : ℕ) (frame : FrameId) → Born setting.two.run.events now frame → IsOpen setting.two.starts setting.two.run now frame →
      (want : Option Want) →
      want_at setting.two.starts setting.two.run now frame ≡ want → (place : ℕ) × Answers setting.two.serial (setting.two.serial.events place) want
  open_wants now frame born is_open want is =
      let found = open_item now frame born is_open in
      let wants = matches.want_same setting.two frame found.row now found.place (matches.same_instance setting.two frame found.row found.same) found.alike in (
        found.place,
        subst (λ i. Answers setting.two.serial (setting.two.serial.events found.place) i) (sym wants ∙ is)
            (setting.two.serial_obeys.wants found.place found.row found.by_row),
      )

  no_return_trap : (kind : TrapKind) (value : ℤ) → Some (Traps kind) ≡ Some (Returns value) → ⊥
  no_return_trap kind value is = cc

  no_return_none : (value : ℤ) (want : Option Want) → want ≡ None → want ≡ Some (Returns value) → ⊥
  no_return_none value want is again = cc

  pub no_trap : (now : ℕ) (frame : FrameId) (kind : TrapKind) → Born setting.two.run.events now frame →
      want_at setting.two.starts setting.two.run now frame ≡ Some (Traps kind) → ⊥
  no_trap now frame kind born traps =
      let (place, answers) = open_wants now frame born (λ value returns. no_return_trap kind value (sym traps ∙ returns)) (Some (Traps kind)) traps in
      told.no_trap setting.two.serial (setting.two.serial.events place) kind answers

  pub not_stuck : (now : ℕ) (frame : FrameId) → Born setting.two.run.events now frame → want_at setting.two.starts setting.two.run now frame ≡ None → ⊥
  not_stuck now frame born none =
      let (place, answers) = open_wants now frame born (λ value returns. no_return_none value
      (want_at setting.two.starts setting.two.run now frame) none returns) None none in
      told.not_none setting.two.serial (setting.two.serial.events place) answers

  -- ---- ticks

  abbrev pub MatchedBefore : ℕ → ℕ → Type 0
  MatchedBefore now at = leaving.Matched setting.two setting.memory setting.finish now setting.all (follows now) at

  pub matched_item : (now at : ℕ) (frame : FrameId) → at < now → by frame (setting.two.run.events at) ≡ true → MatchedBefore now at
  matched_item now at frame before acts = leaving.matched setting.two setting.memory setting.finish now setting.all (follows now) at frame (omega arith) acts

  matched_at : (now at : ℕ) → at < now → is_item (setting.two.run.events at) ≡ true → MatchedBefore now at
  matched_at now at before is = let acting = actor (setting.two.run.events at) is in matched_item now at acting.frame before acting.acts

  abbrev IsHere : ℕ → Bool
  IsHere at = is_item (setting.two.run.events at)

  abbrev IsThere : ℕ → Bool
  IsThere at = is_item (setting.two.serial.events at)

  abbrev to_serial : (now : ℕ) → Map IsHere IsThere now (setting.finish)
  to_serial now = record {
    to = λ at before is.
        let found = matched_at now at before is in
        record { at = found.place; inside = found.inside; is = item_is found.match.row (setting.two.serial.events found.place) found.match.by_row };
    one = λ at next before before_next is is_next same.
        let found = matched_at now at before is in
        let again = matched_at now next before_next is_next in
        matches.one_time setting.two at next found.place found.match (subst (λ i. Meets setting.two next i) (sym same) again.match);
  }

  pub ticks_at_most : (now : ℕ) → all_ticks setting.two.run.events now ≤ all_ticks setting.two.serial.events (setting.finish)
  ticks_at_most now = at_most now IsHere IsThere setting.finish (to_serial now)

  -- the match of an earlier item of the frame is not that of what it wants now
  not_matched : (now at : ℕ) (frame : FrameId) (found : Found setting.two (setting.finish) now frame) → at < now → Meets setting.two at (found.place) → ⊥
  not_matched now at frame found before match =
      let rows_same = by_one match.row found.row (setting.two.serial.events found.place) match.by_row found.by_row in
      let frames = matches.one_frame setting.two match.frame frame found.row (subst (λ i. Is setting.two match.frame i) rows_same match.same) found.same in
      let alike : replies setting.two.starts setting.two.run at frame ≡ replies setting.two.starts setting.two.run now frame =
      ap (λ i. replies setting.two.starts setting.two.run at i) (sym frames) ∙ match.alike ∙
      ap (λ i. replies setting.two.starts setting.two.serial found.place i) rows_same ∙ sym found.alike in
      let more = rows.grows_more setting.two.starts setting.two.run frame at now
      (subst (λ i. by i (setting.two.run.events at) ≡ true) frames match.by_frame) before in
      let lengths = ap length alike in
      omega arith

  -- while a frame has not returned, a tick of the serial execution is left
  pub tick_left : (now : ℕ) (frame : FrameId) → Born setting.two.run.events now frame → IsOpen setting.two.starts setting.two.run now frame →
      all_ticks setting.two.run.events now < all_ticks setting.two.serial.events (setting.finish)
  tick_left now frame born is_open =
      let found = open_item now frame born is_open in
      fewer now IsHere IsThere setting.finish (to_serial now)
      (record { at = found.place; inside = found.inside; is = item_is found.row (setting.two.serial.events found.place) found.by_row })
      (λ at before is same. not_matched now at frame found before (subst (λ i. Meets setting.two at i) same ((matched_at now at before is).match)))
