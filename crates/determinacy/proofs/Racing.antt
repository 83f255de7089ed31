-- A run that follows a serial execution without race has none.
use Rattle.std.proofs.Common.{◌≡◌, ℕ, ◌<◌, ◌⊎◌, inl, inr, true, Some, sym, subst, arith}
use Rattle.backer_order.proofs.Search.{Less3, Same3, More3, compare}
use Rattle.backer_order.specs.Dag.{Precedes}
use Rattle.backer_order.specs.Log.{Read, Write, Add, Acts, Events}
use Rattle.backer_order.specs.Moments.{IsAccess}
use Rattle.cilk_meaning.specs.Wants as wanted
use Rattle.cilk_meaning.specs.Wants.{Asks}
use Rattle.determinacy.proofs.Induction as induction
use Rattle.determinacy.proofs.Induction.{Setting}
use Rattle.determinacy.proofs.Leaving as leaving
use Rattle.determinacy.proofs.Matches as matches
use Rattle.determinacy.proofs.Matches.{Two, Meets, asked}
use Rattle.determinacy.proofs.Rows.{by_acts}
use Rattle.determinacy.proofs.Told.{was_read, was_write, was_add}
use Rattle.determinacy.specs.Replies.{by, want_at, Answers}
use Rattle.determinacy.specs.Serial.{IsWriter, RaceFree}
use Rattle.page_messages.specs.declared.closure.FrameId.{FrameId}

pub writer_access : (events : Events) (node word at : ℕ) → IsWriter events node word at → IsAccess events node word at
writer_access events node word at (inl writes) = inl (inl writes)
writer_access events node word at (inr adds) = inr adds

record Actor (events : Events) (at : ℕ) : Type 0 where
  frame : FrameId
  acts : by frame (events at) ≡ true

access_actor : (events : Events) (node word at : ℕ) → IsAccess events node word at → Actor events at
access_actor events node word at (inl (inl (value, wrote))) = record {
  frame = wrote.frame;
  acts = by_acts node wrote.frame (Write word value) (events at) wrote.is;
}
access_actor events node word at (inl (inr (value, read))) = record { frame = read.frame; acts = by_acts node read.frame (Read word value) (events at) read.is }
access_actor events node word at (inr (old, add)) = record { frame = add.frame; acts = by_acts node add.frame (Add word old add.addend) (events at) add.is }

module _ (two : Two) (at place : ℕ) (match : Meets two at place) where
  wants_there : (request : wanted.Request) → want_at two.starts two.run at (match.frame) ≡ Some (Asks request) →
      Answers two.serial (two.serial.events place) (Some (Asks request))
  wants_there request is = subst (λ i. Answers two.serial (two.serial.events place) i) is (matches.answers_here two at place match)

  pub writer_across : (node word : ℕ) → IsWriter two.run.events node word at → (other : ℕ) × IsWriter two.serial.events other word place
  writer_across node word (inl (value, wrote)) =
      let want = asked two.starts two.main two.run two.run_obeys at match.frame (Acts node wrote.frame (Write word value)) wrote.is match.by_frame in
      let (other, row, is) = was_write two.serial (two.serial.events place) word value (wants_there (wanted.Write word value) want) in
      (other, inl (value, record { frame = row; is = is }))
  writer_across node word (inr (old, add)) =
      let want = asked two.starts two.main two.run two.run_obeys at match.frame (Acts node add.frame (Add word old add.addend)) add.is match.by_frame in
      let (other, row, next, is) = was_add two.serial (two.serial.events place) word add.addend (wants_there (wanted.Add word add.addend) want) in
      (other, inr (next, record { frame = row; addend = add.addend; is = is }))

  of_writer : (word : ℕ) → (other : ℕ) × IsWriter two.serial.events other word place → (other : ℕ) × IsAccess two.serial.events other word place
  of_writer word (other, writes) = (other, writer_access two.serial.events other word place writes)

  pub access_across : (node word : ℕ) → IsAccess two.run.events node word at → (other : ℕ) × IsAccess two.serial.events other word place
  access_across node word (inl (inl writes)) = of_writer word (writer_across node word (inl writes))
  access_across node word (inr adds) = of_writer word (writer_across node word (inr adds))
  access_across node word (inl (inr (value, read))) =
      let want = asked two.starts two.main two.run two.run_obeys at match.frame (Acts node read.frame (Read word value)) read.is match.by_frame in
      let (other, row, there, is) = was_read two.serial (two.serial.events place) word (wants_there (wanted.Read word) want) in
      (other, inl (inr (there, record { frame = row; is = is })))

module _ (setting : Setting) (now : ℕ) where
  abbrev Found : ℕ → Type 0
  Found at = leaving.Matched setting.two setting.memory setting.finish now setting.all (induction.follows setting now) at

  -- two accesses that race nowhere are ordered there, one way or the other
  there_ordered : (node other word first second : ℕ) → (one : Found first) → (two : Found second) → first < second →
      IsAccess setting.two.run.events node word first →
      IsAccess setting.two.run.events other word second → IsWriter setting.two.run.events node word first ⊎ IsWriter setting.two.run.events other word second →
      Precedes setting.two.serial.events (one.place) (two.place) ⊎ Precedes setting.two.serial.events (two.place) (one.place)
  there_ordered node other word first second one two before access access_second (inl writes) =
      let (node', writer) = writer_across setting.two first one.place one.match node word writes in
      let (other', reader) = access_across setting.two second two.place two.match other word access_second in
      let writer_there = writer_access setting.two.serial.events node' word one.place writer in
      elim (compare one.place two.place) [
        | Less3 l ↦ inl (setting.free node' other' word one.place two.place l two.inside writer_there reader (inl writer))
        | Same3 same ↦ absurd (let times = matches.one_time setting.two first second one.place one.match
            (subst (λ i. Meets setting.two second i) (sym same) two.match) in omega arith)
        | More3 l ↦ inr (setting.free other' node' word two.place one.place l one.inside reader writer_there (inr writer))
      ]
  there_ordered node other word first second one two before access access_second (inr writes) =
      let (other', writer) = writer_across setting.two second two.place two.match other word writes in
      let (node', reader) = access_across setting.two first one.place one.match node word access in
      let writer_there = writer_access setting.two.serial.events other' word two.place writer in
      elim (compare one.place two.place) [
        | Less3 l ↦ inl (setting.free node' other' word one.place two.place l two.inside reader writer_there (inr writer))
        | Same3 same ↦ absurd (let times = matches.one_time setting.two first second one.place one.match
            (subst (λ i. Meets setting.two second i) (sym same) two.match) in omega arith)
        | More3 l ↦ inr (setting.free other' node' word two.place one.place l one.inside writer_there reader (inl writer))
      ]

  pub race_free : RaceFree setting.two.run.events now
  race_free node other word first second before within access access_second writes =
      let actor = access_actor setting.two.run.events node word first access in
      let actor_second = access_actor setting.two.run.events other word second access_second in
      let one = induction.matched_item setting now first actor.frame (omega arith) actor.acts in
      let two = induction.matched_item setting now second actor_second.frame within actor_second.acts in
      elim (there_ordered node other word first second one two before access access_second writes) [
        | inl precedes ↦ (leaving.ordered setting.two setting.memory setting.finish now setting.all
            (induction.follows setting now) first one.place second two.place (omega arith) one.match two.match precedes).1
        | inr follows ↦
            let order = leaving.ordered setting.two setting.memory setting.finish now setting.all
            (induction.follows setting now) second two.place first one.place (omega arith) two.match one.match follows in
            absurd (omega (arith, order.0))
      ]
