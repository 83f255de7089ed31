-- An item of a frame that is one of a row, and what the frame did before it.
use Rattle.std.proofs.Common.{◌≡◌, ℕ, zero, suc, ◌<◌, ◌≤◌, inl, inr, true, length, sym, ◌∙◌, ap, subst, arith}
use Rattle.backer_order.proofs.Search.{Less3, Same3, More3, compare}
use Rattle.backer_order.specs.Edges.{ActOf}
use Rattle.backer_order.specs.Log.{Act, Spawn, Sync, Acts}
use Rattle.determinacy.proofs.Matches.{Two, Is, Alike, Meets}
use Rattle.determinacy.proofs.Rows as rows
use Rattle.determinacy.proofs.Rows.{by_acts, by_one, either_bool, given}
use Rattle.determinacy.proofs.Twins.{twins_of, twin_act, twin_sync, twin_spawn}
use Rattle.determinacy.specs.Following.{Spawned}
use Rattle.determinacy.specs.Replies.{by, reply_to, replies}
use Rattle.page_messages.specs.declared.closure.FrameId.{FrameId}

module _ (two : Two) where
  -- the frame's item at one position is the row's at the other
  pub record Meet (frame row : FrameId) (at place : ℕ) : Type 0 where
    pub same : Is two frame row
    pub by_frame : by frame (two.run.events at) ≡ true
    pub by_row : by row (two.serial.events place) ≡ true
    pub alike : Alike two at frame place row

  pub as_match : (frame row : FrameId) (at place : ℕ) → Meet frame row at place → Meets two at place
  as_match frame row at place meet =
      record { frame = frame; row = row; same = meet.same; by_frame = meet.by_frame; by_row = meet.by_row; alike = meet.alike }

  pub as_meet : (at place : ℕ) → (match : Meets two at place) → Meet (match.frame) (match.row) at place
  as_meet at place match = record { same = match.same; by_frame = match.by_frame; by_row = match.by_row; alike = match.alike }

  its_own : (frame actor : FrameId) (at node : ℕ) (act : Act) → by frame (two.run.events at) ≡ true → two.run.events at ≡ Acts node actor act →
      two.run.events at ≡ Acts node frame act
  its_own frame actor at node act acts is =
      subst (λ i. two.run.events at ≡ Acts node i act) (by_one actor frame (two.run.events at) (by_acts node actor act (two.run.events at) is) acts) is

  pub meet_act : (frame row : FrameId) (at place : ℕ) → Meet frame row at place → ActOf two.serial.events row place → ActOf two.run.events frame at
  meet_act frame row at place meet (other, act, is) =
      let (node, actor, made, is_here) = twin_act (two.run.events at) (two.serial.events place)
      (twins_of two at place (as_match frame row at place meet)) other row act is in
      (node, made, its_own frame actor at node made meet.by_frame is_here)

  pub meet_sync : (frame row : FrameId) (at place other : ℕ) → Meet frame row at place → two.serial.events place ≡ Acts other row Sync →
      (node : ℕ) × (two.run.events at ≡ Acts node frame Sync)
  meet_sync frame row at place other meet is =
      let (node, actor, is_here) = twin_sync (two.run.events at) (two.serial.events place)
      (twins_of two at place (as_match frame row at place meet)) other row is in
      (node, its_own frame actor at node Sync meet.by_frame is_here)

  -- the frame's child that corresponds to a row's
  pub record Twin (frame : FrameId) (at : ℕ) (next : FrameId) : Type 0 where
    pub node : ℕ
    pub child : FrameId
    pub is : two.run.events at ≡ Acts node frame (Spawn child)
    pub same : Is two child next

  pub meet_spawn : (frame row : FrameId) (at place other : ℕ) (next : FrameId) → Meet frame row at place →
      two.serial.events place ≡ Acts other row (Spawn next) →
      Twin frame at next
  meet_spawn frame row at place other next meet is =
      let (node, actor, child, found) = twin_spawn (two.run.events at) (two.serial.events place)
      (twins_of two at place (as_match frame row at place meet)) other row next is in
      let is_here = its_own frame actor at node (Spawn child) meet.by_frame found in
      record { node = node; child = child; is = is_here; same = Spawned at place node other frame row is_here is meet.same meet.alike }

  -- the frame's item before `now` that is the row's at this place
  pub record Back (frame row : FrameId) (now place : ℕ) : Type 0 where
    pub at : ℕ
    pub before : at < now
    pub meet : Meet frame row at place
    pub next : Alike two (suc at) frame (suc place) row

  back_here : (frame row : FrameId) (now place last : ℕ) → Is two frame row → Alike two now frame (suc last) row →
      by row (two.serial.events place) ≡ true → place ≡ last →
      (latest : rows.Latest two.starts two.run frame now (replies two.starts two.serial last row)) → Back frame row now place
  back_here frame row now place last same alike acts is latest = record {
    at = latest.at;
    before = latest.before;
    meet = record { same = same; by_frame = latest.is; by_row = acts; alike = latest.rest ∙ ap (λ i. replies two.starts two.serial i row) (sym is) };
    next = latest.whole ∙ alike ∙ ap (λ i. replies two.starts two.serial (suc i) row) (sym is);
  }

  back_sooner : (frame row : FrameId) (now sooner place : ℕ) → sooner < now → Back frame row sooner place → Back frame row now place
  back_sooner frame row now sooner place before back' = record {
    at = back'.at;
    before = omega (arith, back'.before, before);
    meet = back'.meet;
    next = back'.next;
  }

  -- a row's earlier item was done by the frame
  pub back : (frame row : FrameId) (now there place : ℕ) → Is two frame row → Alike two now frame there row → place < there →
      by row (two.serial.events place) ≡ true → Back frame row now place
  back frame row now zero place same alike before acts = absurd (omega arith)
  back frame row now (suc there) place same alike before acts = elim (either_bool (by row (two.serial.events there))) [
    | inr none ↦ elim (compare place there) [
      | Less3 l ↦ back frame row now there place same (alike ∙ rows.still two.starts two.serial there row none) l acts
      | Same3 is ↦ let acts' : by row (two.serial.events there) ≡ true = subst (λ i. by row (two.serial.events i) ≡ true) is acts in absurd cc
      | More3 l ↦ absurd (omega arith)
    ]
    | inl made ↦
        let latest = rows.latest two.starts two.run frame now (reply_to (two.serial.events there) (given two.starts two.serial there row))
        (replies two.starts two.serial there row) (alike ∙ rows.grew two.starts two.serial there row made) in
        elim (compare place there) [
          | Less3 l ↦ back_sooner frame row now latest.at place latest.before (back frame row latest.at there place same latest.rest l acts)
          | Same3 is ↦ back_here frame row now place there same alike acts is latest
          | More3 l ↦ absurd (omega arith)
        ]
  ]

  not_after : (frame row : FrameId) (at place other next : ℕ) → Meet frame row at place → Meet frame row other next → place < next → other ≤ at → ⊥
  not_after frame row at place other next first second before after =
      let more = rows.grows_more two.starts two.serial row place next first.by_row before in
      let fewer = rows.grows two.starts two.run frame other at after in
      let here = ap length first.alike in
      let there = ap length second.alike in
      omega arith

  -- a frame's items stand in the order of its row's
  pub in_order : (frame row : FrameId) (at place other next : ℕ) → Meet frame row at place → Meet frame row other next → place < next → at < other
  in_order frame row at place other next first second before = elim (compare at other) [
    | Less3 l ↦ l
    | Same3 is ↦ absurd (not_after frame row at place other next first second before (omega arith))
    | More3 l ↦ absurd (not_after frame row at place other next first second before (omega arith))
  ]
