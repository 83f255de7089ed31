-- Two executions depth first, whose reads go by position, go in step.
use Rattle.std.proofs.Common.{◌≡◌, ℕ, suc, inl, inr, ℤ, true, false, [], ◌∷◌, refl, sym, ◌∙◌, ap, subst, arith}
use Rattle.backer_order.specs.Log.{main_id, Spawn, Acts, SharedMemory}
use Rattle.backer_order.specs.Moments.{Leaves}
use Rattle.determinacy.proofs.Following as following
use Rattle.determinacy.proofs.Items.{actor, item_is}
use Rattle.one_node.proofs.Lasts.{last_one, last_more, last_new, last_split}
use Rattle.determinacy.proofs.Leaving.{LeftBy, left_actor, left_across, flip_match}
use Rattle.determinacy.proofs.Matches as matches
use Rattle.determinacy.proofs.Matches.{Two, exchanged, Is, Alike, Meets}
use Rattle.determinacy.proofs.Meeting.{Meet, meet_spawn}
use Rattle.determinacy.proofs.Rows as rows
use Rattle.determinacy.proofs.Rows.{by_acts, by_one, either_bool, not_by, born_more, SpawnedAt, born_split}
use Rattle.one_node.proofs.Stacks.{pops, pushes, tops_pair, no_item, stack_first, stack_item, stack_other, on_stack}
use Rattle.determinacy.proofs.Steps as steps
use Rattle.determinacy.proofs.Steps.{Agree, SameObtained}
use Rattle.one_node.specs.Deep.{pushed, is_return, returned, stack, live, Deep}
use Rattle.determinacy.proofs.Twins.{twins_of}
use Rattle.determinacy.specs.Ending.{is_item, ItsFrame}
use Rattle.determinacy.specs.Following.{Mains, Pairs, Level, AllFollow}
use Rattle.determinacy.specs.Replies.{by, children, replies, want_at, Born}
use Rattle.determinacy.specs.Serial.{Leaving, LastOf, SerialReads}
use Rattle.page_messages.specs.declared.closure.FrameId.{FrameId}

module _ (two : Two) (memory : SharedMemory) where
  abbrev Here : ℕ → ℕ → ℤ → Type 0
  Here word now value = LastOf two.run.events memory word now value

  abbrev There : ℕ → ℕ → ℤ → Type 0
  There word place value = LastOf two.serial.events memory word place value

  -- The one at this position and the other at this place are the same.
  pub record Lock (now place : ℕ) : Type 0 where
    pub level : (frame : FrameId) → Born two.run.events now frame → Level two.starts two.run two.serial now place frame
    pub frames : (row : FrameId) → Born two.serial.events place row → ItsFrame two.starts two.run two.serial now row
    pub stacks : Pairs (Is two) (stack two.starts two.run now) (stack two.starts two.serial place)
    pub word : (word : ℕ) (value : ℤ) → There word place value → Here word now value

  lock_alike : (now place : ℕ) (frame row : FrameId) → Lock now place → Born two.run.events now frame → Is two frame row → Alike two now frame place row
  lock_alike now place frame row lock born same =
      let level = lock.level frame born in
      level.alike ∙ ap (λ i. replies two.starts two.serial place i) (matches.one_row two frame level.row row level.same same)

  pub lock_want : (now place : ℕ) (frame row : FrameId) → Lock now place → Born two.run.events now frame → Is two frame row →
      want_at two.starts two.run now frame ≡ want_at two.starts two.serial place row
  lock_want now place frame row lock born same =
      matches.want_same two frame row now place (matches.same_instance two frame row same) (lock_alike now place frame row lock born same)

  pub lives : (now place : ℕ) → Lock now place → Pairs (Is two) (live two.starts two.run now) (live two.starts two.serial place)
  lives now place lock =
      pops (Is two) (returned two.starts two.run now) (returned two.starts two.serial place) (stack two.starts two.run now)
      (stack two.starts two.serial place) lock.stacks
      (λ frame row on same. ap is_return (lock_want now place frame row lock (on_stack two.starts two.run now frame on) same))

  first_stacks : Pairs (Is two) (stack two.starts two.run 0) (stack two.starts two.serial 0)
  first_stacks =
      subst (λ i. Pairs (Is two) i (stack two.starts two.serial 0)) (sym (stack_first two.starts two.run))
      (subst (λ i. Pairs (Is two) (main_id ∷ []) i) (sym (stack_first two.starts two.serial)) (Mains, tt))

  first_frame : (row : FrameId) → Born two.serial.events 0 row → ItsFrame two.starts two.run two.serial 0 row
  first_frame row (inl of_main) = record { frame = main_id; born = inl refl; same = subst (λ i. Is two main_id i) (sym of_main) Mains }
  first_frame row (inr born) = absurd (omega (arith, born.before))

  first_word : (word : ℕ) (value : ℤ) → There word 0 value → Here word 0 value
  first_word word value (inl last) = absurd (omega (arith, last.before))
  first_word word value (inr none) = inr (record { start = none.start; none = λ at inside leaves. absurd (omega arith) })

  pub start : Lock 0 0
  start = record { level = following.level_first two; frames = first_frame; stacks = first_stacks; word = first_word }

  -- ---- what is no item changes nothing

  old_frame : (now : ℕ) (frame : FrameId) → is_item (two.run.events now) ≡ false → Born two.run.events (suc now) frame → Born two.run.events now frame
  old_frame now frame none born = elim (born_split two.run now frame born) [
    | inl old ↦ old
    | inr spawned ↦
        let is = item_is spawned.parent (two.run.events now) (by_acts spawned.node spawned.parent (Spawn frame) (two.run.events now) spawned.is) in
        absurd cc
  ]

  none_left : (now word : ℕ) → is_item (two.run.events now) ≡ false → Leaving two.run.events memory word now → ⊥
  none_left now word none (node, (value, leaves)) =
      let actor = left_actor two.run.events memory node word now value leaves in
      let is = item_is actor.frame (two.run.events now) actor.acts in
      cc

  later_frame : (now : ℕ) (row : FrameId) → ItsFrame two.starts two.run two.serial now row → ItsFrame two.starts two.run two.serial (suc now) row
  later_frame now row its = record { frame = its.frame; born = born_more two.run now (suc now) its.frame (omega arith) its.born; same = its.same }

  pub other : (now place : ℕ) → Lock now place → is_item (two.run.events now) ≡ false → Lock (suc now) place
  other now place lock none = record {
    level = λ frame born. following.level_still two now place frame (no_item two.run now none frame) (lock.level frame (old_frame now frame none born));
    frames = λ row born. later_frame now row (lock.frames row born);
    stacks = subst (λ i. Pairs (Is two) i (stack two.starts two.serial place)) (sym (stack_other two.starts two.run now none)) lock.stacks;
    word = λ word value last. last_more two.run.events memory word now value (lock.word word value last) (none_left now word none);
  }

  -- ---- an item of both

  pub record Both (now place : ℕ) : Type 0 where
    pub frame : FrameId
    pub row : FrameId
    pub same : Is two frame row
    pub by_frame : by frame (two.run.events now) ≡ true
    pub by_row : by row (two.serial.events place) ≡ true

  pub both : Deep two.starts two.run → Deep two.starts two.serial → (now place : ℕ) → Lock now place → is_item (two.run.events now) ≡ true →
      is_item (two.serial.events place) ≡ true →
      Both now place
  both deep deep_there now place lock is is_there =
      let here = actor (two.run.events now) is in
      let there = actor (two.serial.events place) is_there in
      let top = deep now here.frame here.acts in
      let top_there = deep_there place there.frame there.acts in
      record {
        frame = here.frame;
        row = there.frame;
        by_frame = here.acts;
        by_row = there.acts;
        same = tops_pair (Is two) (live two.starts two.run now) (live two.starts two.serial place) here.frame there.frame top.0 top_there.0
            (lives now place lock) top.1 top_there.1;
      }

  -- a frame and a row that make no item stay level
  both_still : (now place : ℕ) (frame : FrameId) → by frame (two.run.events now) ≡ false → (level : Level two.starts two.run two.serial now place frame) →
      by (level.row) (two.serial.events place) ≡ false → Level two.starts two.run two.serial (suc now) (suc place) frame
  both_still now place frame none level none_there = record {
    row = level.row;
    same = level.same;
    born = born_more two.serial place (suc place) level.row (omega arith) level.born;
    alike = rows.still two.starts two.run now frame none ∙ level.alike ∙ sym (rows.still two.starts two.serial place level.row none_there);
    block = subst (λ i. Pairs (Is two) i (children two.serial.events (suc place) level.row)) (sym (rows.block_still two.run now frame none))
        (subst (λ i. Pairs (Is two) (children two.run.events now frame) i) (sym (rows.block_still two.serial place level.row none_there)) level.block);
  }

  module _ (run_reads : SerialReads two.run.events memory) (serial_reads : SerialReads two.serial.events memory) (now place : ℕ)
      (lock : Lock now place) (its : Both now place) where
    born : Born two.run.events now (its.frame)
    born = two.run_obeys.born now its.frame its.by_frame

    alike : Alike two now (its.frame) place (its.row)
    alike = lock_alike now place its.frame its.row lock born its.same

    abbrev match : Meets two now place
    match = record { frame = its.frame; row = its.row; same = its.same; by_frame = its.by_frame; by_row = its.by_row; alike = alike }

    follow : AllFollow two.starts two.run two.serial place now
    follow frame its_born = record { place = place; inside = omega arith; level = lock.level frame its_born }

    pairs : Pairs (Is two) (children two.run.events now (its.frame)) (children two.serial.events place (its.row))
    pairs =
        let level = lock.level its.frame born in
        subst (λ i. Pairs (Is two) (children two.run.events now its.frame) (children two.serial.events place i))
        (matches.one_row two its.frame level.row its.row level.same its.same) level.block

    obtained : SameObtained two now place
    obtained node other' word here there obtains obtains_there =
        last_one two.run.events memory word now here there (run_reads node word now here obtains)
        (lock.word word there (serial_reads other' word place there obtains_there))

    agree : Agree two now place (its.frame) (its.row)
    agree = steps.agree two place now place its.frame its.row follow its.same its.by_frame its.by_row alike pairs obtained

    -- the row of another frame is another row
    other_row : (frame row : FrameId) → Is two frame row → by frame (two.run.events now) ≡ false → by row (two.serial.events place) ≡ true → ⊥
    other_row frame row same none acts =
        let rows_same = by_one row its.row (two.serial.events place) acts its.by_row in
        let frames = matches.one_frame two frame its.frame its.row (subst (λ i. Is two frame i) rows_same same) its.same in
        let here : by frame (two.run.events now) ≡ true = subst (λ i. by i (two.run.events now) ≡ true) (sym frames) its.by_frame in
        cc

    old_level : (frame : FrameId) → by frame (two.run.events now) ≡ false → Born two.run.events now frame →
        Level two.starts two.run two.serial (suc now) (suc place) frame
    old_level frame none old =
        let level = lock.level frame old in
        both_still now place frame none level (not_by two.serial level.row place (λ acts. other_row frame level.row level.same none acts))

    new_level : (frame : FrameId) → SpawnedAt two.run now frame → Level two.starts two.run two.serial (suc now) (suc place) frame
    new_level frame spawned =
        let parents = by_one spawned.parent its.frame (two.run.events now)
        (by_acts spawned.node spawned.parent (Spawn frame) (two.run.events now) spawned.is) its.by_frame in
        steps.level_birth two now place spawned.node its.frame frame its.row
        (subst (λ i. two.run.events now ≡ Acts spawned.node i (Spawn frame)) parents spawned.is) its.same its.by_row alike

    its_level : (frame : FrameId) → Born two.run.events (suc now) frame → Level two.starts two.run two.serial (suc now) (suc place) frame
    its_level frame its_born = elim (either_bool (by frame (two.run.events now))) [
      | inl acts ↦ subst (λ i. Level two.starts two.run two.serial (suc now) (suc place) i) (by_one its.frame frame (two.run.events now) its.by_frame acts)
          (following.level_item two now place its.frame its.row its.same its.by_frame its.by_row alike agree)
      | inr none ↦ elim (born_split two.run now frame its_born) [ inl old ↦ old_level frame none old | inr spawned ↦ new_level frame spawned ]
    ]

    new_frame : (row : FrameId) → SpawnedAt two.serial place row → ItsFrame two.starts two.run two.serial (suc now) row
    new_frame row spawned =
        let parents = by_one spawned.parent its.row (two.serial.events place)
        (by_acts spawned.node spawned.parent (Spawn row) (two.serial.events place) spawned.is) its.by_row in
        let meet : Meet two (its.frame) (its.row) now place = record { same = its.same; by_frame = its.by_frame; by_row = its.by_row; alike = alike } in
        let twin = meet_spawn two its.frame its.row now place spawned.node row meet
        (subst (λ i. two.serial.events place ≡ Acts spawned.node i (Spawn row)) parents spawned.is) in
        record {
          frame = twin.child;
          born = inr (record { at = now; node = twin.node; parent = its.frame; before = omega arith; is = twin.is });
          same = twin.same;
        }

    its_frames : (row : FrameId) → Born two.serial.events (suc place) row → ItsFrame two.starts two.run two.serial (suc now) row
    its_frames row its_born = elim (born_split two.serial place row its_born) [
      | inl old ↦ later_frame now row (lock.frames row old)
      | inr spawned ↦
          new_frame row spawned
    ]

    left_here : (node word : ℕ) (value : ℤ) → Leaves two.serial.events memory node word place value → LeftBy two.run.events memory word now value
    left_here node word value leaves = left_across (exchanged two) memory place now (flip_match two now place match) (sym agree.reply) node word value leaves

    none_here : (word : ℕ) → (Leaving two.serial.events memory word place → ⊥) → Leaving two.run.events memory word now → ⊥
    none_here word none (node, (value, leaves)) =
        let there = left_across two memory now place match agree.reply node word value leaves in
        none (there.node, (value, there.leaves))

    its_word : (word : ℕ) (value : ℤ) → There word (suc place) value → Here word (suc now) value
    its_word word value last = elim (last_split two.serial.events memory word place value last) [
      | inl left ↦ let here = left_here left.node word value left.leaves in last_new two.run.events memory word now here.node value here.leaves
      | inr (old, none) ↦ last_more two.run.events memory word now value (lock.word word value old) (none_here word none)
    ]

    its_stacks : Pairs (Is two) (stack two.starts two.run (suc now)) (stack two.starts two.serial (suc place))
    its_stacks =
        subst (λ i. Pairs (Is two) i (stack two.starts two.serial (suc place)))
        (sym (stack_item two.starts two.run now (item_is its.frame (two.run.events now) its.by_frame)))
        (subst (λ i. Pairs (Is two) (pushed (two.run.events now) (live two.starts two.run now)) i)
        (sym (stack_item two.starts two.serial place (item_is its.row (two.serial.events place) its.by_row)))
        (pushes (Is two) (two.run.events now) (two.serial.events place) (twins_of two now place match) (children two.run.events now its.frame)
        (children two.serial.events place its.row) agree.block (live two.starts two.run now) (live two.starts two.serial place) (lives now place lock)))

    pub item : Lock (suc now) (suc place)
    item = record { level = its_level; frames = its_frames; stacks = its_stacks; word = its_word }
