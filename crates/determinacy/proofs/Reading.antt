-- A read gives what the serial read gives, where nothing races.
use Rattle.std.proofs.Common.{◌≡◌, ◌≢◌, ℕ, ◌<◌, ◌≤◌, ◌⊎◌, inl, inr, ℤ, sym, ◌∙◌, subst, arith}
use Rattle.backer_order.proofs.Search.{Less3, Same3, More3, compare}
use Rattle.backer_order.specs.Dag.{Precedes}
use Rattle.backer_order.specs.Log.{SharedMemory}
use Rattle.backer_order.specs.Moments.{IsAccess, Obtains, Leaves}
use Rattle.determinacy.proofs.ByDag.{NoRaceAt, LastInDag, NoneInDag, ReadsByDag, obtains_access}
use Rattle.determinacy.proofs.Carried as carried
use Rattle.determinacy.proofs.Later.{later}
use Rattle.determinacy.proofs.Leaving as leaving
use Rattle.determinacy.proofs.Leaving.{same_left, left_access, left_writer, LeftThere}
use Rattle.determinacy.proofs.Matches as matches
use Rattle.determinacy.proofs.Matches.{Two, Meets}
use Rattle.determinacy.specs.Following.{AllFollow, Complete}
use Rattle.determinacy.specs.Serial.{LastSerial, LastOf, RaceFree}

module _ (two : Two) (memory : SharedMemory) (finish end : ℕ) (all : Complete two.starts two.serial finish)
    (follow : (now : ℕ) → now ≤ end → AllFollow two.starts two.run two.serial finish now) (free : RaceFree two.serial.events finish) where
  -- the access at the end, and the one that it matches
  module _ (node other word place : ℕ) (here there : ℤ) (obtains : Obtains two.run.events node word end here)
      (obtains_there : Obtains two.serial.events other word place there)
      (inside : place < finish) (match : Meets two end place) where
    access_there : IsAccess two.serial.events other word place
    access_there = obtains_access two.serial.events other word place there obtains_there

    abbrev Left : ℕ → ℤ → Type 0
    Left at value = LeftThere two memory finish end all follow word at value

    its_left : (at actor : ℕ) (value : ℤ) → at < end → Leaves two.run.events memory actor word at value → Left at value
    its_left at actor value within leaves = leaving.left two memory finish end all follow at actor word value within leaves

    -- of two accesses that the serial order has so, of which the first leaves a value
    free_of : (first second actor reader : ℕ) (value : ℤ) → first < second → second < finish → Leaves two.serial.events memory actor word first value →
        IsAccess two.serial.events reader word second → Precedes two.serial.events first second
    free_of first second actor reader value before within leaves access =
        free actor reader word first second before within (left_access two.serial.events memory actor word first value leaves) access
        (inl (left_writer two.serial.events memory actor word first value leaves))

    free_behind : (second actor : ℕ) (value : ℤ) → place < second → second < finish → Leaves two.serial.events memory actor word second value →
        Precedes two.serial.events place second
    free_behind second actor value before within leaves =
        free other actor word place second before within access_there (left_access two.serial.events memory actor word second value leaves)
        (inr (left_writer two.serial.events memory actor word second value leaves))

    -- what leaves a value before the end here is serially before, there
    left_before : (at : ℕ) (value : ℤ) → at < end → (found : Left at value) → (found.place < place) × Precedes two.serial.events (found.place) place
    left_before at value within found = elim (compare found.place place) [
      | Less3 l ↦ (l, free_of found.place place found.node other value l inside found.leaves access_there)
      | Same3 same ↦ absurd (let times = matches.one_time two at end found.place found.match (subst (λ i. Meets two end i) (sym same) match) in omega arith)
      | More3 l ↦
          let order = leaving.ordered two memory finish end all follow end place at found.place (omega arith) match found.match
          (free_behind found.place found.node value l found.inside found.leaves) in
          absurd (omega (arith, order.0))
    ]

    -- two that leave a value are ordered by the dag
    left_ordered : (at next : ℕ) (value second : ℤ) → at < end → next < end → at ≢ next → (found : Left at value) → (again : Left next second) →
        Precedes two.run.events at next ⊎ Precedes two.run.events next at
    left_ordered at next value second within within_next differs found again = elim (compare found.place again.place) [
      | Less3 l ↦ inl ((leaving.ordered two memory finish end all follow at found.place next again.place (omega arith) found.match again.match
          (free_of found.place again.place found.node again.node value l again.inside found.leaves
          (left_access two.serial.events memory again.node word again.place second again.leaves))).1)
      | Same3 same ↦ absurd (differs (matches.one_time two at next found.place found.match (subst (λ i. Meets two next i) (sym same) again.match)))
      | More3 l ↦ inr ((leaving.ordered two memory finish end all follow next again.place at found.place (omega arith) again.match found.match
          (free_of again.place found.place again.node found.node second l found.inside again.leaves
          (left_access two.serial.events memory found.node word found.place value found.leaves))).1)
    ]

    no_race : NoRaceAt two.run.events memory word end
    no_race = record {
      reads = λ actor at within (value, leaves).
          let found = its_left at actor value within leaves in
          (leaving.ordered two memory finish end all follow at found.place end place (omega arith) found.match match ((left_before at value within found).1)).1;
      writes = λ actor at actor' next within within_next differs (value, leaves) (second, leaves').
          left_ordered at next value second within within_next differs (its_left at actor value within leaves)
          (its_left next actor' second within_next leaves');
    }

    -- what leaves a value serially before was done here
    record Done (at : ℕ) (value : ℤ) : Type 0 where
      when : ℕ
      before : when < end
      match_here : Meets two when at
      node_here : ℕ
      leaves : Leaves two.run.events memory node_here word when value

    done : (at actor : ℕ) (value : ℤ) → at < place → Leaves two.serial.events memory actor word at value → Done at value
    done at actor value before leaves =
        let earlier = carried.carried two finish end follow at place end (omega arith) match
        (free_of at place actor other value before inside leaves access_there) in
        let found = leaving.left_here two memory finish end all follow earlier.when at actor word value earlier.before earlier.match leaves in
        record { when = earlier.when; before = earlier.before; match_here = earlier.match; node_here = found.node; leaves = found.leaves }

    last_ones : (dag : LastInDag two.run.events memory word end here) (last : LastSerial two.serial.events memory word place there) → here ≡ there
    last_ones dag last =
        let found = its_left dag.at dag.node here dag.earlier dag.leaves in
        let before = left_before dag.at here dag.earlier found in
        let behind = done last.at last.node there last.before last.leaves in
        elim (compare found.place last.at) [
          | Same3 same ↦ same_left two.serial.events memory found.node last.node word last.at here there
              (subst (λ i. Leaves two.serial.events memory found.node word i here) same found.leaves) last.leaves
          | More3 l ↦ absurd (last.none found.place l before.0 (found.node, (here, found.leaves)))
          | Less3 l ↦
              let order = leaving.ordered two memory finish end all follow dag.at found.place behind.when last.at
              (omega (arith, behind.before)) found.match behind.match_here
              (free_of found.place last.at found.node last.node here l (omega (arith, last.before, inside)) found.leaves
              (left_access two.serial.events memory last.node word last.at there last.leaves)) in
              elim (dag.last behind.node_here behind.when behind.before (there, behind.leaves)) [
                | inl same ↦ absurd (omega (arith, order.0, same))
                | inr sooner ↦ let back = later two.starts two.main two.run two.run_obeys behind.when dag.at sooner in absurd (omega (arith, order.0))
              ]
        ]

    both : LastInDag two.run.events memory word end here ⊎ NoneInDag two.run.events memory word end here →
        LastOf two.serial.events memory word place there → here ≡ there
    both (inr none) (inr none_there) = none.start ∙ sym none_there.start
    both (inr none) (inl last) =
        let found = done last.at last.node there last.before last.leaves in
        absurd (none.none found.node_here found.when found.before (there, found.leaves))
    both (inl dag) (inr none) =
        let found = its_left dag.at dag.node here dag.earlier dag.leaves in
        absurd (none.none found.place ((left_before dag.at here dag.earlier found).0) (found.node, (here, found.leaves)))
    both (inl dag) (inl last) = last_ones dag last

    pub agrees : ReadsByDag two.run.events memory → LastOf two.serial.events memory word place there → here ≡ there
    agrees by_dag last = both (by_dag node word end here obtains no_race) last
