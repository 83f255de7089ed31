-- What a read gives where nothing races with it, and that the home order has no two ways.
use Rattle.std.proofs.Common.{◌≡◌, ◌≢◌, ℕ, suc, ◌<◌, ◌⊎◌, inl, inr, ℤ, arith}
use Rattle.backer_order.proofs.Decide.{same_or_not}
use Rattle.backer_order.proofs.ReadsLast as last
use Rattle.backer_order.specs.Dag.{Precedes, Consistent}
use Rattle.backer_order.specs.HomeOrder.{BothHave, Before, LastIn}
use Rattle.backer_order.specs.Log.{Events, SharedMemory}
use Rattle.backer_order.specs.Moments.{IsAccess, Obtains, Leaves, IsLeaving}
use Rattle.backer_order.specs.Rules.{Caching}

-- The accesses of the word before this one that leave a value race neither with each other nor with it.
pub record NoRaceAt (events : Events) (memory : SharedMemory) (word access : ℕ) : Type 0 where
  pub reads : (node at : ℕ) → at < access → IsLeaving events memory node word at → Precedes events at access
  pub writes : (node at other next : ℕ) → at < access → next < access → at ≢ next → IsLeaving events memory node word at →
      IsLeaving events memory other word next → Precedes events at next ⊎ Precedes events next at

-- The value was left by the one that all others precede.
pub record LastInDag (events : Events) (memory : SharedMemory) (word access : ℕ) (value : ℤ) : Type 0 where
  pub node : ℕ
  pub at : ℕ
  pub earlier : at < access
  pub leaves : Leaves events memory node word at value
  pub last : (other next : ℕ) → next < access → IsLeaving events memory other word next → (next ≡ at) ⊎ Precedes events next at

pub record NoneInDag (events : Events) (memory : SharedMemory) (word access : ℕ) (value : ℤ) : Type 0 where
  pub start : value ≡ memory.start word
  pub none : (other next : ℕ) → next < access → IsLeaving events memory other word next → ⊥

-- a read or an add that races with nothing obtains what the last in the dag leaves
abbrev pub ReadsByDag : Events → SharedMemory → Type 0
ReadsByDag events memory = (node word access : ℕ) (value : ℤ) → Obtains events node word access value → NoRaceAt events memory word access →
    LastInDag events memory word access value ⊎ NoneInDag events memory word access value

pub obtains_access : (events : Events) (node word at : ℕ) (value : ℤ) → Obtains events node word at value → IsAccess events node word at
obtains_access events node word at value (inl reads) = inl (inr (value, reads))
obtains_access events node word at value (inr adds) = inr (value, adds)

module _ (events : Events) (memory : SharedMemory) (caching : Caching events memory) where
  both_have : (now word node at other next : ℕ) → BothHave events memory now word node at other next → BothHave events memory now word other next node at → ⊥
  both_have now word node at other next first second =
      let here = last.moment_unique events memory caching node word at first.first second.second first.first_is second.second_is in
      let there = last.moment_unique events memory caching other word next first.second second.first first.second_is second.first_is in
      elim (first.order) [
        | inl l ↦ elim (second.order) [ inl m ↦ absurd (omega arith) | inr m ↦ absurd (omega (arith, m.0)) ]
        | inr l ↦ elim (second.order) [ inl m ↦ absurd (omega (arith, l.0)) | inr m ↦ absurd (omega (arith, l.1, m.1)) ]
      ]

  pub before_asym : (now word node at other next : ℕ) → Before events memory now word node at other next → Before events memory now word other next node at → ⊥
  before_asym now word node at other next (inl (inl first)) (inl (inl second)) = both_have now word node at other next first second
  before_asym now word node at other next (inl (inl first)) (inl (inr second)) = second.second_is first.first first.first_in first.first_is
  before_asym now word node at other next (inl (inl first)) (inr second) = second.first_is first.second first.second_in first.second_is
  before_asym now word node at other next (inl (inr first)) (inl (inl second)) = first.second_is second.first second.first_in second.first_is
  before_asym now word node at other next (inl (inr first)) (inl (inr second)) = first.second_is second.first second.first_in second.first_is
  before_asym now word node at other next (inl (inr first)) (inr second) = second.second_is first.first first.first_in first.first_is
  before_asym now word node at other next (inr first) (inl (inl second)) = first.second_is second.first second.first_in second.first_is
  before_asym now word node at other next (inr first) (inl (inr second)) = first.second_is second.first second.first_in second.first_is
  before_asym now word node at other next (inr first) (inr second) = elim (first.order) [
    | inl l ↦ elim (second.order) [ inl m ↦ absurd (omega arith) | inr m ↦ absurd (omega (arith, m.0)) ]
    | inr l ↦ elim (second.order) [ inl m ↦ absurd (omega (arith, l.0)) | inr m ↦ absurd (omega (arith, l.1, m.1)) ]
  ]

  module _ (consistent : (now : ℕ) → Consistent events memory now) where
    module _ (node word access : ℕ) (value : ℤ) (obtains : Obtains events node word access value) (no_race : NoRaceAt events memory word access) where
      before : (other next : ℕ) → next < access → IsLeaving events memory other word next → Before events memory (suc access) word other next node access
      before other next earlier leaves =
          (consistent (suc access)).dag other node word next access (omega arith) (last.leaving_access events memory caching other word next leaves)
          (obtains_access events node word access value obtains) (no_race.reads other next earlier leaves)

      -- one that leaves a value precedes the last one in the home order
      precedes_last : (found : LastIn events memory (suc access) word node access value) → (other next : ℕ) → next < access →
          IsLeaving events memory other word next →
          (next ≡ found.at) ⊎ Precedes events next (found.at)
      precedes_last found other next earlier leaves = elim (same_or_not next found.at) [
        | inl same ↦ inl same
        | inr differs ↦ elim (no_race.writes other next found.node found.at earlier found.earlier differs leaves (value, found.leaves)) [
          | inl precedes ↦ inr precedes
          | inr follows ↦
              let after = (consistent (suc access)).dag found.node other word found.at next (omega arith)
              (last.leaving_access events memory caching found.node word found.at (value, found.leaves))
              (last.leaving_access events memory caching other word next leaves) follows in
              elim (found.last other next (omega arith) leaves (before other next earlier leaves)) [
                | inl same ↦ inl same
                | inr sooner ↦ absurd (before_asym (suc access) word found.node found.at other next after sooner)
              ]
        ]
      ]

      read_by_dag : LastInDag events memory word access value ⊎ NoneInDag events memory word access value
      read_by_dag = elim ((consistent (suc access)).reads word node access value (omega arith) obtains) [
        | inr none ↦ inr (record {
          start = none.start;
          none = λ other next earlier leaves. none.none other next (omega arith) leaves
              (before other next earlier leaves);
        })
        | inl found ↦ inl (record { node = found.node; at = found.at; earlier = found.earlier; leaves = found.leaves; last = precedes_last found })
      ]

    pub reads_by_dag : ReadsByDag events memory
    reads_by_dag node word access value obtains no_race = read_by_dag node word access value obtains no_race
