-- What precedes in the one execution was done in the other, and precedes there.
use Rattle.std.proofs.Common.{◌≡◌, ℕ, suc, ◌<◌, ◌≤◌, ◌⊎◌, inl, inr, ℤ, true, Some, refl, sym, ◌∙◌, ap, subst, arith}
use Rattle.backer_order.proofs.Search.{First, Less3, Same3, More3, compare, find_first}
use Rattle.backer_order.specs.Dag.{Under, At, Below, SyncAt, Across, IntoChild, Precedes}
use Rattle.backer_order.specs.Edges.{ActOf}
use Rattle.backer_order.specs.Log.{Spawn, Sync, Events, Acts}
use Rattle.cilk_meaning.specs.Wants.{Returns}
use Rattle.determinacy.proofs.Blocks.{SyncOf, decide_sync, child_stays, by_act}
use Rattle.determinacy.proofs.Matches as matches
use Rattle.determinacy.proofs.Matches.{Two, Is, Alike, Meets, Origin}
use Rattle.determinacy.proofs.Meeting.{Meet, as_match, as_meet, meet_act, meet_sync, meet_spawn, Back, back, in_order}
use Rattle.determinacy.proofs.Rows as rows
use Rattle.determinacy.proofs.Rows.{by_acts, by_one}
use Rattle.determinacy.proofs.Steps as steps
use Rattle.determinacy.specs.Following.{AllFollow}
use Rattle.determinacy.specs.Replies.{Trace, by, replies, want_at, Born, Obeys}
use Rattle.page_messages.specs.declared.closure.FrameId.{FrameId}
use Rattle.span_tree.specs.Program.{Starts}

pub act_of_under : (events : Events) (act : ℕ) (frame : FrameId) (at : ℕ) → Under events act frame at → ActOf events frame at
act_of_under events act frame at (At is same) = is
act_of_under events act frame at (Below node child next is under) = (node, Spawn child, is)

-- ---- at the first Sync after its spawn a child has returned

pub record Ended (starts : Starts) (trace : Trace) (from now : ℕ) (child : FrameId) : Type 0 where
  pub at : ℕ
  pub after : from < at
  pub before : at < now
  pub value : ℤ
  pub returns : want_at starts trace at child ≡ Some (Returns value)

pub ended : (starts : Starts) (main : ℕ) (trace : Trace) → Obeys starts main trace → (frame child : FrameId) (from node now : ℕ) →
    trace.events from ≡ Acts node frame (Spawn child) → (first : First (SyncOf trace frame) from now) → Ended starts trace from now child
ended starts main trace obeys frame child from node now is first =
    let on = child_stays trace frame child from node first.at is first.after first.none in
    let (value, returns) = obeys.joined first.at first.here.0 frame child first.here.1 on in
    record { at = first.at; after = first.after; before = first.before; value = value; returns = returns }

-- a child of a frame that has returned has returned before
pub child_ended : (starts : Starts) (main : ℕ) (trace : Trace) → Obeys starts main trace → (frame child : FrameId) (from node now : ℕ) (value : ℤ) →
    trace.events from ≡ Acts node frame (Spawn child) → from < now → want_at starts trace now frame ≡ Some (Returns value) → Ended starts trace from now child
child_ended starts main trace obeys frame child from node now value is before returns =
    elim (find_first (SyncOf trace frame) (decide_sync trace frame) from now) [
      | inr none ↦ absurd (obeys.no_children now frame child value returns (child_stays trace frame child from node now is before none))
      | inl first ↦ ended starts main trace obeys frame child from node now is first
    ]

-- the same where the frame syncs later
pub synced_ended : (starts : Starts) (main : ℕ) (trace : Trace) → Obeys starts main trace → (frame child : FrameId) (from node sync other : ℕ) →
    trace.events from ≡ Acts node frame (Spawn child) → from < sync → trace.events sync ≡ Acts other frame Sync → Ended starts trace from (suc sync) child
synced_ended starts main trace obeys frame child from node sync other is before synced =
    elim (find_first (SyncOf trace frame) (decide_sync trace frame) from (suc sync)) [
      | inr none ↦ absurd (none sync before (omega arith) (other, synced))
      | inl first ↦ ended starts main trace obeys frame child from node (suc sync) is first
    ]

module _ (two : Two) where
  -- the frame and act below which an item stands, where its match stands below this row and act
  pub record Raised (at : ℕ) (row : FrameId) (place : ℕ) : Type 0 where
    pub frame : FrameId
    pub act : ℕ
    pub meet : Meet two frame row act place
    pub under : Under two.run.events at frame act
    pub before : act ≤ at

  raised_at : (at act place : ℕ) (row : FrameId) → ActOf two.serial.events row place → act ≡ place → Meets two at act → Raised at row place
  raised_at at act place row is same match =
      let here : Meets two at place = subst (λ i. Meets two at i) same match in
      let rows_same = by_one here.row row (two.serial.events place) here.by_row (by_act two.serial row place is) in
      let meet : Meet two (here.frame) row at place = subst (λ i. Meet two here.frame i at place) rows_same (as_meet two at place here) in
      record { frame = here.frame; act = at; meet = meet; under = At (meet_act two here.frame row at place meet is) refl; before = omega arith }

  raised_up : (at place other : ℕ) (row child : FrameId) (next : ℕ) → two.serial.events place ≡ Acts other row (Spawn child) → (below : Raised at child next) →
      Origin two (below.frame) child → Raised at row place
  raised_up at place other row child next is below from =
      let places = two.serial_obeys.fresh from.place place from.other other from.above row child from.is_there is in
      let there = subst (λ i. two.serial.events i ≡ Acts from.other from.above (Spawn child)) places from.is_there in
      let aboves = (matches.spawn_parent (two.serial.events place) from.other other from.above row child child there is).0 in
      let after = rows.born_before two.starts two.main two.run two.run_obeys from.at from.node from.parent below.frame below.act from.is below.meet.by_frame in
      record {
        frame = from.parent;
        act = from.at;
        under = Below from.node below.frame below.act from.is below.under;
        before = omega (arith, below.before);
        meet = record {
          same = subst (λ i. Is two from.parent i) aboves from.same;
          by_frame = by_acts from.node from.parent (Spawn below.frame) (two.run.events from.at) from.is;
          by_row = by_acts other row (Spawn child) (two.serial.events place) is;
          alike = from.alike ∙ ap (λ i. replies two.starts two.serial i from.above) places ∙ ap (λ i. replies two.starts two.serial place i) aboves;
        };
      }

  pub raised : (at act : ℕ) (row : FrameId) (place : ℕ) → Under two.serial.events act row place → Meets two at act → Raised at row place
  raised at act row place (At is same) match = raised_at at act place row is same match
  raised at act row place (Below other child next is under) match =
      let below = raised at act child next under match in
      elim (matches.origin two below.frame child below.meet.same) [
        | inl mains ↦ absurd (two.serial_obeys.not_main place other row child is mains.1)
        | inr from ↦ raised_up at place other row child next is below from
      ]

  module _ (finish end : ℕ) (follow : (now : ℕ) → now ≤ end → AllFollow two.starts two.run two.serial finish now) where
    -- an act of a row whose frame has returned was done
    pub done_act : (frame row : FrameId) (place now : ℕ) (value : ℤ) → by row (two.serial.events place) ≡ true → now ≤ end → Is two frame row →
        want_at two.starts two.run now frame ≡ Some (Returns value) → Born two.run.events now frame → Back two frame row now place
    done_act frame row place now value acts inside same returns born =
        let its = follow now inside frame born in
        let rows_same = matches.one_row two frame its.level.row row its.level.same same in
        let there = subst (λ i. want_at two.starts two.serial its.place i ≡ Some (Returns value)) rows_same
        (steps.level_returns two now its.place frame value returns its.level) in
        let alike : Alike two now frame (its.place) row = its.level.alike ∙ ap (λ i. replies two.starts two.serial its.place i) rows_same in
        elim (compare place its.place) [
          | Less3 l ↦ back two frame row now its.place place same alike l acts
          | Same3 is ↦ absurd (rows.no_more two.starts two.main two.serial two.serial_obeys row its.place value there place (omega arith) acts)
          | More3 l ↦ absurd (rows.no_more two.starts two.main two.serial two.serial_obeys row its.place value there place (omega arith) acts)
        ]

    pub record Inside (now : ℕ) (frame : FrameId) (act : ℕ) : Type 0 where
      pub at : ℕ
      pub own : ℕ
      pub before : at < now
      pub match : Meets two at act
      pub under : Under two.run.events at frame own

    -- what stands below a row whose frame has returned was done below that frame
    pub inside : (act : ℕ) (row : FrameId) (place : ℕ) → Under two.serial.events act row place → (frame : FrameId) (now : ℕ) (value : ℤ) →
        now ≤ end → Is two frame row →
        want_at two.starts two.run now frame ≡ Some (Returns value) → Born two.run.events now frame → Inside now frame act
    inside act row place (At is same) frame now value within its returns born =
        let done = done_act frame row place now value (by_act two.serial row place is) within its returns born in
        record {
          at = done.at;
          own = done.at;
          before = done.before;
          match = subst (λ i. Meets two done.at i) (sym same) (as_match two frame row done.at place done.meet);
          under = At (meet_act two frame row done.at place done.meet is) refl;
        }
    inside act row place (Below other child next is under) frame now value within its returns born =
        let done = done_act frame row place now value (by_acts other row (Spawn child) (two.serial.events place) is) within its returns born in
        let twin = meet_spawn two frame row done.at place other child done.meet is in
        let end' = child_ended two.starts two.main two.run two.run_obeys frame twin.child done.at twin.node now value twin.is done.before returns in
        let below = inside act child next under twin.child end'.at end'.value (omega (arith, end'.before)) twin.same end'.returns
        (inr (record { at = done.at; node = twin.node; parent = frame; before = end'.after; is = twin.is })) in
        record {
          at = below.at;
          own = done.at;
          before = omega (arith, below.before, end'.before);
          match = below.match;
          under = Below twin.node twin.child below.own twin.is below.under;
        }

    -- what precedes a match there was done here, and precedes here
    pub record Earlier (act at : ℕ) : Type 0 where
      pub when : ℕ
      pub before : when < at
      pub match : Meets two when act
      pub precedes : Precedes two.run.events when at

    record Synced (frame : FrameId) (from to : ℕ) : Type 0 where
      at : ℕ
      node : ℕ
      after : from < at
      before : at ≤ to
      is : two.run.events at ≡ Acts node frame Sync

    module _ (act later at : ℕ) (within : at ≤ end) (dag : Across two.serial.events act later) (top : Raised at (dag.frame) (dag.later_act)) where
      its_act : ActOf two.serial.events (dag.frame) (dag.act)
      its_act = act_of_under two.serial.events act dag.frame dag.act dag.first

      first_back : Back two (top.frame) (dag.frame) (top.act) (dag.act)
      first_back = back two top.frame dag.frame top.act dag.later_act dag.act top.meet.same top.meet.alike dag.order
          (by_act two.serial dag.frame dag.act its_act)

      own_earlier : act ≡ dag.act → Earlier act at
      own_earlier same =
          let done = first_back in
          record {
            when = done.at;
            before = omega (arith, done.before, top.before);
            match = subst (λ i. Meets two done.at i) (sym same) (as_match two top.frame dag.frame done.at dag.act done.meet);
            precedes = inl (record {
              frame = top.frame;
              act = done.at;
              later_act = top.act;
              first = At (meet_act two top.frame dag.frame done.at dag.act done.meet its_act) refl;
              second = top.under;
              order = done.before;
              serial = inl refl;
            });
          }

      synced : SyncAt two.serial.events (dag.frame) (dag.act) (dag.later_act) → Synced (top.frame) ((first_back).at) (top.act)
      synced sync = elim (compare sync.at dag.later_act) [
        | Less3 l ↦
            let done = back two top.frame dag.frame top.act dag.later_act sync.at top.meet.same top.meet.alike l
            (by_acts sync.node dag.frame Sync (two.serial.events sync.at) sync.is) in
            let here = meet_sync two top.frame dag.frame done.at sync.at sync.node done.meet sync.is in
            record {
              at = done.at;
              node = here.0;
              after = in_order two top.frame dag.frame first_back.at dag.act done.at sync.at first_back.meet done.meet sync.after;
              before = omega (arith, done.before);
              is = here.1;
            }
        | Same3 same ↦
            let here = meet_sync two top.frame dag.frame top.act dag.later_act sync.node top.meet
            (subst (λ i. two.serial.events i ≡ Acts sync.node dag.frame Sync) same sync.is) in
            record { at = top.act; node = here.0; after = first_back.before; before = omega arith; is = here.1 }
        | More3 l ↦ absurd (omega (arith, sync.before))
      ]

      below_earlier : (other : ℕ) (child : FrameId) (next : ℕ) → two.serial.events (dag.act) ≡ Acts other dag.frame (Spawn child) →
          Under two.serial.events act child next →
          Synced (top.frame) ((first_back).at) (top.act) → Earlier act at
      below_earlier other child next is under sync =
          let done = first_back in
          let twin = meet_spawn two top.frame dag.frame done.at dag.act other child done.meet is in
          let end' =
          synced_ended two.starts two.main two.run two.run_obeys top.frame twin.child done.at twin.node sync.at sync.node twin.is sync.after sync.is in
          let below = inside act child next under twin.child end'.at end'.value (omega (arith, end'.before, sync.before, top.before)) twin.same end'.returns
          (inr (record { at = done.at; node = twin.node; parent = top.frame; before = end'.after; is = twin.is })) in
          record {
            when = below.at;
            before = omega (arith, below.before, end'.before, sync.before, top.before);
            match = below.match;
            precedes = inl (record {
              frame = top.frame;
              act = done.at;
              later_act = top.act;
              first = Below twin.node twin.child below.own twin.is below.under;
              second = top.under;
              order = done.before;
              serial = inr (record { at = sync.at; node = sync.node; after = sync.after; before = sync.before; is = sync.is });
            });
          }

      across_from : Under two.serial.events act (dag.frame) (dag.act) → (act ≡ dag.act) ⊎
          SyncAt two.serial.events (dag.frame) (dag.act) (dag.later_act) → Earlier act at
      across_from under (inl same) = own_earlier same
      across_from (At is same) (inr sync) = own_earlier same
      across_from (Below other child next is under) (inr sync) = below_earlier other child next is under (synced sync)

      pub across : Earlier act at
      across = across_from dag.first dag.serial

    into_child : (act later at : ℕ) (dag : IntoChild two.serial.events act later) → (top : Raised at (dag.child) (dag.act)) →
        Origin two (top.frame) (dag.child) → Earlier act at
    into_child act later at dag top from =
        let places = two.serial_obeys.fresh from.place act from.other dag.node from.above dag.frame dag.child from.is_there dag.is in
        let after = rows.born_before two.starts two.main two.run two.run_obeys from.at from.node from.parent top.frame top.act from.is top.meet.by_frame in
        record {
          when = from.at;
          before = omega (arith, top.before);
          match = subst (λ i. Meets two from.at i) places (record {
            frame = from.parent;
            row = from.above;
            same = from.same;
            by_frame = by_acts from.node from.parent (Spawn top.frame) (two.run.events from.at) from.is;
            by_row = by_acts from.other from.above (Spawn dag.child) (two.serial.events from.place) from.is_there;
            alike = from.alike;
          });
          precedes = inr (record { node = from.node; frame = from.parent; child = top.frame; act = top.act; is = from.is; below = top.under });
        }

    pub carried : (act later at : ℕ) → at ≤ end → Meets two at later → Precedes two.serial.events act later → Earlier act at
    carried act later at within match (inl dag) = across act later at within dag (raised at later dag.frame dag.later_act dag.second match)
    carried act later at within match (inr dag) =
        let top = raised at later dag.child dag.act dag.below match in
        elim (matches.origin two top.frame dag.child top.meet.same) [
          | inl mains ↦ absurd (two.serial_obeys.not_main act dag.node dag.frame dag.child dag.is mains.1)
          | inr from ↦ into_child act later at dag top from
        ]
