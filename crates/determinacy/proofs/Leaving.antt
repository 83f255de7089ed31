-- What leaves a value in one execution does so in the other, and leaves the same.
use Rattle.std.proofs.Common.{◌≡◌, ℕ, suc, ◌<◌, ◌≤◌, inl, inr, ℤ, true, Option, Some, List, ◌∷◌, sym, ◌∙◌, ap, subst, arith}
use Rattle.backer_order.specs.Dag.{Precedes}
use Rattle.backer_order.specs.Log.{Write, Add, Event, Acts, Events, SharedMemory}
use Rattle.backer_order.specs.Moments.{IsAccess, Leaves, OfWrite, OfAdd}
use Rattle.cilk_meaning.specs.Wants.{Deposit, Value}
use Rattle.determinacy.proofs.Carried as carried
use Rattle.determinacy.proofs.Following as following
use Rattle.determinacy.proofs.Matches as matches
use Rattle.determinacy.proofs.Matches.{Two, exchanged, flip, Meets, asked}
use Rattle.determinacy.proofs.Rows as rows
use Rattle.determinacy.proofs.Rows.{by_acts, given, born_more}
use Rattle.determinacy.proofs.Steps.{found_match}
use Rattle.determinacy.proofs.Told.{was_write, was_add}
use Rattle.determinacy.specs.Following.{AllFollow, Complete}
use Rattle.determinacy.specs.Replies.{Reply, OfAct, by, reply_to, replies, Answers}
use Rattle.determinacy.specs.Serial.{IsWriter}
use Rattle.page_messages.specs.declared.closure.FrameId.{FrameId}

one_some : (first second : ℤ) (sum : Option ℤ) → sum ≡ Some first → sum ≡ Some second → first ≡ second
one_some first second sum is again = cc

module _ (events : Events) (memory : SharedMemory) where
  -- one place leaves one value
  pub same_left : (node other word at : ℕ) (value next : ℤ) → Leaves events memory node word at value → Leaves events memory other word at next → value ≡ next
  same_left node other word at value next (OfWrite first) (OfWrite second) = let is = first.is in let again = second.is in cc
  same_left node other word at value next (OfWrite first) (OfAdd frame old addend is sum) = let again = first.is in absurd cc
  same_left node other word at value next (OfAdd frame old addend is sum) (OfWrite first) = let again = first.is in absurd cc
  same_left node other word at value next (OfAdd frame old addend is sum) (OfAdd frame' old' addend' is' sum') =
      let olds : old' ≡ old = cc in
      let addends : addend' ≡ addend = cc in
      one_some value next (memory.sum old addend) sum (subst (λ i. memory.sum old i ≡ Some next) addends
      (subst (λ i. memory.sum i addend' ≡ Some next) olds sum'))

  pub left_access : (node word at : ℕ) (value : ℤ) → Leaves events memory node word at value → IsAccess events node word at
  left_access node word at value (OfWrite wrote) = inl (inl (value, wrote))
  left_access node word at value (OfAdd frame old addend is sum) = inr (old, record { frame = frame; addend = addend; is = is })

  pub left_writer : (node word at : ℕ) (value : ℤ) → Leaves events memory node word at value → IsWriter events node word at
  left_writer node word at value (OfWrite wrote) = inl (value, wrote)
  left_writer node word at value (OfAdd frame old addend is sum) = inr (old, record { frame = frame; addend = addend; is = is })

  pub record Actor (at : ℕ) : Type 0 where
    pub frame : FrameId
    pub acts : by frame (events at) ≡ true

  pub left_actor : (node word at : ℕ) (value : ℤ) → Leaves events memory node word at value → Actor at
  left_actor node word at value (OfWrite wrote) = record { frame = wrote.frame; acts = by_acts node wrote.frame (Write word value) (events at) wrote.is }
  left_actor node word at value (OfAdd frame old addend is sum) = record { frame = frame; acts = by_acts node frame (Add word old addend) (events at) is }

pub record LeftBy (events : Events) (memory : SharedMemory) (word at : ℕ) (value : ℤ) : Type 0 where
  pub node : ℕ
  pub leaves : Leaves events memory node word at value

reply_value : (first second : ℤ) → OfAct (Value first) ≡ OfAct (Value second) → first ≡ second
reply_value first second is = cc

first_same : (first second : Reply) (firsts seconds : List Reply) → first ∷ firsts ≡ second ∷ seconds → first ≡ second
first_same first second firsts seconds is = cc

-- both items tell the same
abbrev pub SameTold : (two : Two) (at place : ℕ) → Meets two at place → Type 0
SameTold two at place match = reply_to (two.run.events at) (given two.starts two.run at match.frame) ≡ reply_to (two.serial.events place)
    (given two.starts two.serial place match.row)

abbrev pub flip_match : (two : Two) (at place : ℕ) → Meets two at place → Meets (exchanged two) place at
flip_match two at place match =
    record {
      frame = match.row;
      row = match.frame;
      same = flip two match.frame match.row match.same;
      by_frame = match.by_row;
      by_row = match.by_frame;
      alike = sym match.alike;
    }

one_old : (event other : Event) (gives others : List Deposit) (node there word : ℕ) (frame row : FrameId) (old next addend : ℤ) →
    event ≡ Acts node frame (Add word old addend) → other ≡ Acts there row (Add word next addend) → reply_to event gives ≡ reply_to other others → old ≡ next
unfolding reply_to
one_old event other gives others node there word frame row old next addend is is_there told =
    reply_value old next (sym (ap (λ i. reply_to i gives) is) ∙ told ∙ ap (λ i. reply_to i others) is_there)

-- an item that leaves a value matches one that leaves the same
pub left_across : (two : Two) (memory : SharedMemory) (at place : ℕ) (match : Meets two at place) → SameTold two at place match → (node word : ℕ) (value : ℤ) →
    Leaves two.run.events memory node word at value → LeftBy two.serial.events memory word place value
left_across two memory at place match told node word value (OfWrite wrote) =
    let want = asked two.starts two.main two.run two.run_obeys at match.frame (Acts node wrote.frame (Write word value)) wrote.is match.by_frame in
    let (other, row, is) = was_write two.serial (two.serial.events place) word value
    (subst (λ i. Answers two.serial (two.serial.events place) i) want (matches.answers_here two at place match)) in
    record { node = other; leaves = OfWrite (record { frame = row; is = is }) }
left_across two memory at place match told node word value (OfAdd frame old addend is sum) =
    let want = asked two.starts two.main two.run two.run_obeys at match.frame (Acts node frame (Add word old addend)) is match.by_frame in
    let (other, row, next, is_there) = was_add two.serial (two.serial.events place) word addend
    (subst (λ i. Answers two.serial (two.serial.events place) i) want (matches.answers_here two at place match)) in
    let olds = one_old (two.run.events at) (two.serial.events place) (given two.starts two.run at match.frame)
    (given two.starts two.serial place match.row) node other word frame row old next addend is is_there told in
    record { node = other; leaves = OfAdd row next addend is_there (subst (λ i. memory.sum i addend ≡ Some value) olds sum) }

module _ (two : Two) (memory : SharedMemory) (finish end : ℕ) (all : Complete two.starts two.serial finish)
    (follow : (now : ℕ) → now ≤ end → AllFollow two.starts two.run two.serial finish now) where
  pub record Matched (at : ℕ) : Type 0 where
    pub place : ℕ
    pub inside : place < finish
    pub match : Meets two at place

  pub matched : (at : ℕ) (frame : FrameId) → at ≤ end → by frame (two.run.events at) ≡ true → Matched at
  matched at frame within acts =
      let found = following.find two finish all at frame (follow at within frame (two.run_obeys.born at frame acts)) acts in
      record { place = found.place; inside = found.inside; match = found_match two finish at frame acts found }

  -- behind an item before the end and its match the two frames were told the same
  told_after : (at place : ℕ) → at < end → (match : Meets two at place) →
      replies two.starts two.run (suc at) (match.frame) ≡ replies two.starts two.serial (suc place) (match.row)
  told_after at place within match =
      let its = follow (suc at) within match.frame (born_more two.run at (suc at) match.frame (omega arith)
      (two.run_obeys.born at match.frame match.by_frame)) in
      let rows_same = matches.one_row two match.frame its.level.row match.row its.level.same match.same in
      let alike : replies two.starts two.run (suc at) (match.frame) ≡ replies two.starts two.serial (its.place) (match.row) = its.level.alike ∙
      ap (λ i. replies two.starts two.serial its.place i) rows_same in
      let latest = rows.latest two.starts two.serial match.row its.place (reply_to (two.run.events at) (given two.starts two.run at match.frame))
      (replies two.starts two.run at match.frame)
      (sym alike ∙ rows.grew two.starts two.run at match.frame match.by_frame) in
      let places = rows.same_place two.starts two.serial match.row latest.at place latest.is match.by_row (latest.rest ∙ match.alike) in
      alike ∙ sym latest.whole ∙ ap (λ i. replies two.starts two.serial (suc i) match.row) places

  pub told_same : (at place : ℕ) → at < end → (match : Meets two at place) → SameTold two at place match
  told_same at place within match =
      first_same (reply_to (two.run.events at) (given two.starts two.run at match.frame))
      (reply_to (two.serial.events place) (given two.starts two.serial place match.row))
      (replies two.starts two.run at match.frame) (replies two.starts two.serial place match.row)
      (sym (rows.grew two.starts two.run at match.frame match.by_frame) ∙ told_after at place within match ∙
      rows.grew two.starts two.serial place match.row match.by_row)

  pub left_there : (at place node word : ℕ) (value : ℤ) → at < end → Meets two at place → Leaves two.run.events memory node word at value →
      LeftBy two.serial.events memory word place value
  left_there at place node word value within match left = left_across two memory at place match (told_same at place within match) node word value left

  pub left_here : (at place node word : ℕ) (value : ℤ) → at < end → Meets two at place → Leaves two.serial.events memory node word place value →
      LeftBy two.run.events memory word at value
  left_here at place node word value within match left =
      left_across (exchanged two) memory place at (flip_match two at place match) (sym (told_same at place within match)) node word value left

  -- the match of what leaves a value, which leaves the same
  pub record LeftThere (word at : ℕ) (value : ℤ) : Type 0 where
    pub place : ℕ
    pub inside : place < finish
    pub match : Meets two at place
    pub node : ℕ
    pub leaves : Leaves two.serial.events memory node word place value

  pub left : (at node word : ℕ) (value : ℤ) → at < end → Leaves two.run.events memory node word at value → LeftThere word at value
  left at node word value within leaves =
      let actor = left_actor two.run.events memory node word at value leaves in
      let found = matched at actor.frame (omega arith) actor.acts in
      let there = left_there at found.place node word value within found.match leaves in
      record { place = found.place; inside = found.inside; match = found.match; node = there.node; leaves = there.leaves }

  -- what the dag orders there it orders here, and stands so here
  pub ordered : (act there at place : ℕ) → at ≤ end → Meets two act there → Meets two at place → Precedes two.serial.events there place →
      (act < at) × Precedes two.run.events act at
  ordered act there at place within first second precedes =
      let earlier = carried.carried two finish end follow there place at within second precedes in
      let same = matches.one_time two earlier.when act there earlier.match first in
      (omega (arith, earlier.before, same), subst (λ i. Precedes two.run.events i at) same earlier.precedes)
