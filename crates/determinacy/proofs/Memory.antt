-- The memory of a finished run is that of the serial execution.
use Rattle.std.proofs.Common.{◌≡◌, ℕ, ◌<◌, inl, inr, ℤ, Some, sym, ◌∙◌, subst, arith}
use Rattle.backer_order.proofs.Search.{Less3, Same3, More3, compare}
use Rattle.backer_order.specs.Dag.{Consistent}
use Rattle.backer_order.specs.Log.{main_id}
use Rattle.backer_order.specs.Moments.{Leaves}
use Rattle.backer_order.specs.Rules.{Caching}
use Rattle.cilk_meaning.specs.Wants.{Returns}
use Rattle.determinacy.proofs.ByDag.{before_asym}
use Rattle.determinacy.proofs.Finished as finish
use Rattle.determinacy.proofs.Induction as induction
use Rattle.determinacy.proofs.Induction.{Setting}
use Rattle.determinacy.proofs.Leaving as leaving
use Rattle.determinacy.proofs.Leaving.{same_left, left_access, left_writer, left_actor, LeftThere}
use Rattle.determinacy.proofs.Matches.{Meets}
use Rattle.determinacy.specs.Ending.{LastHome, MemoryOf}
use Rattle.determinacy.specs.Replies.{want_at}
use Rattle.determinacy.specs.Serial.{LastSerial, LastOf}

module _ (setting : Setting) (caching : Caching setting.two.run.events setting.memory)
    (consistent : (now : ℕ) → Consistent setting.two.run.events setting.memory now)
    (now : ℕ) (result : ℤ) (finished : want_at setting.two.starts setting.two.run now main_id ≡ Some (Returns result)) where
  module _ (word : ℕ) (here there : ℤ) where
    abbrev Left : ℕ → ℤ → Type 0
    Left at value = LeftThere setting.two setting.memory setting.finish now setting.all (induction.follows setting now) word at value

    its_left : (node at : ℕ) (value : ℤ) → at < now → Leaves setting.two.run.events setting.memory node word at value → Left at value
    its_left node at value before leaves = leaving.left setting.two setting.memory setting.finish now setting.all
        (induction.follows setting now) at node word value before leaves

    record Done (place : ℕ) (value : ℤ) : Type 0 where
      at : ℕ
      before : at < now
      match : Meets setting.two at place
      node : ℕ
      leaves : Leaves setting.two.run.events setting.memory node word at value

    -- what leaves a value serially was done here
    done : (place node : ℕ) (value : ℤ) → Leaves setting.two.serial.events setting.memory node word place value → Done place value
    done place node value leaves =
        let actor = left_actor setting.two.serial.events setting.memory node word place value leaves in
        let found = finish.all_done setting now result finished place actor.frame actor.acts in
        let left = leaving.left_here setting.two setting.memory setting.finish now setting.all
        (induction.follows setting now) found.at place node word value found.before found.match leaves in
        record { at = found.at; before = found.before; match = found.match; node = left.node; leaves = left.leaves }

    -- an earlier one there is before in the home order, so it is not the last one
    not_earlier : (last : LastHome setting.two.run.events setting.memory now word here) → (found : Left (last.at) here) →
        (serial : LastSerial setting.two.serial.events setting.memory word (setting.finish) there) →
        (behind : Done (serial.at) there) → found.place < serial.at → here ≡ there
    not_earlier last found serial behind l =
        let precedes = setting.free found.node serial.node word found.place serial.at l serial.before
        (left_access setting.two.serial.events setting.memory found.node word found.place here found.leaves)
        (left_access setting.two.serial.events setting.memory serial.node word serial.at there serial.leaves)
        (inl (left_writer setting.two.serial.events setting.memory found.node word found.place here found.leaves)) in
        let order = leaving.ordered setting.two setting.memory setting.finish now setting.all
        (induction.follows setting now) last.at found.place behind.at serial.at (omega (arith, behind.before)) found.match behind.match precedes in
        let before = (consistent now).dag last.node behind.node word last.at behind.at behind.before
        (left_access setting.two.run.events setting.memory last.node word last.at here last.leaves)
        (left_access setting.two.run.events setting.memory behind.node word behind.at there behind.leaves) order.1 in
        elim (last.last behind.node behind.at behind.before (there, behind.leaves)) [
          | inl same ↦ absurd (omega (arith, order.0, same))
          | inr sooner ↦ absurd (before_asym setting.two.run.events setting.memory caching now word last.node last.at behind.node behind.at before sooner)
        ]

    last_ones : LastHome setting.two.run.events setting.memory now word here →
        LastSerial setting.two.serial.events setting.memory word (setting.finish) there → here ≡ there
    last_ones last serial =
        let found = its_left last.node last.at here last.inside last.leaves in
        elim (compare found.place serial.at) [
          | Same3 same ↦ same_left setting.two.serial.events setting.memory found.node serial.node word serial.at here there
              (subst (λ i. Leaves setting.two.serial.events setting.memory found.node word i here) same found.leaves) serial.leaves
          | More3 l ↦ absurd (serial.none found.place l found.inside (found.node, (here, found.leaves)))
          | Less3 l ↦ not_earlier last found serial (done serial.at serial.node there serial.leaves) l
        ]

    pub same_memory : MemoryOf setting.two.run.events setting.memory now word here →
        LastOf setting.two.serial.events setting.memory word (setting.finish) there → here ≡ there
    same_memory (inr none) (inr none_there) = none.start ∙ sym none_there.start
    same_memory (inr none) (inl serial) =
        let found = done serial.at serial.node there serial.leaves in
        absurd (none.none found.node found.at found.before (there, found.leaves))
    same_memory (inl last) (inr none) =
        let found = its_left last.node last.at here last.inside last.leaves in
        absurd (none.none found.place found.inside (found.node, (here, found.leaves)))
    same_memory (inl last) (inl serial) = last_ones last serial
