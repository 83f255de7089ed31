-- Where each word is accessed by one node alone, its home order is the order of positions.
use Rattle.std.proofs.Common.{◌≡◌, ℕ, suc, ◌<◌, inl, inr, ℤ, refl, sym, subst, arith}
use Rattle.backer_order.proofs.Pages as pages
use Rattle.backer_order.proofs.ReadsLast as last
use Rattle.backer_order.proofs.Search.{Less3, Same3, More3, compare}
use Rattle.backer_order.specs.HomeOrder.{Before}
use Rattle.backer_order.specs.Log.{Events, SharedMemory}
use Rattle.backer_order.specs.Moments.{IsAccess, Leaves}
use Rattle.backer_order.specs.Rules.{Caching}
use Rattle.determinacy.proofs.ByDag.{before_asym, obtains_access}
use Rattle.determinacy.proofs.Leaving.{left_access}
use Rattle.determinacy.specs.Ending.{MemoryOf}
use Rattle.determinacy.specs.Serial.{LastOf, SerialReads}

module _ (events : Events) (memory : SharedMemory) (caching : Caching events memory) where
  own_before : (now node word at next : ℕ) → next < now → IsAccess events node word at → IsAccess events node word next → at < next →
      Before events memory now word node at node next
  own_before now node word at next inside access access_next before = elim (last.decide_moment events memory caching now node word next inside access_next) [
    | inl (moment, early, is) ↦
        let has = pages.never_fall events memory caching node word at next moment access access_next before is in
        elim (compare has.at moment) [
          | Less3 l ↦ inl (inl (record {
            first = has.at;
            second = moment;
            first_is = has.moment;
            second_is = is;
            first_in = omega arith;
            second_in = early;
            order = inl l;
          }))
          | Same3 l ↦ inl (inl (record {
            first = has.at;
            second = moment;
            first_is = has.moment;
            second_is = is;
            first_in = omega arith;
            second_in = early;
            order = inr (l, before);
          }))
          | More3 l ↦ absurd (omega (arith, has.before))
        ]
    | inr none ↦ elim (last.decide_moment events memory caching now node word at (omega arith) access) [
      | inl (moment, early, is) ↦ inl (inr (record { first = moment; first_is = is; first_in = early; second_is = none }))
      | inr none_first ↦ inr (record { first_is = none_first; second_is = none; order = inr (refl, before) })
    ]
  ]

  module _ (one : (node other word at next : ℕ) → IsAccess events node word at → IsAccess events other word next → node ≡ other) where
    before : (now node other word at next : ℕ) → next < now → IsAccess events node word at → IsAccess events other word next → at < next →
        Before events memory now word node at other next
    before now node other word at next inside access access_next sooner =
        let same = one node other word at next access access_next in
        subst (λ i. Before events memory now word node at i next) same
        (own_before now node word at next inside access (subst (λ i. IsAccess events i word next) (sym same) access_next) sooner)

    left_before : (now node other word at next : ℕ) (value second : ℤ) → next < now → Leaves events memory node word at value →
        Leaves events memory other word next second → at < next →
        Before events memory now word node at other next
    left_before now node other word at next value second inside left left_next sooner =
        before now node other word at next inside (left_access events memory node word at value left)
        (left_access events memory other word next second left_next) sooner

    -- each read gives the word as it is in the order of positions
    pub serial_reads : SerialReads events memory
    serial_reads node word at value obtains = elim (last.reads_last events memory caching (suc at) word node at value (omega arith) obtains) [
      | inr none ↦ inr (record {
        start = none.start;
        none = λ next sooner (other, (second, leaves)). none.none other next (omega arith) (second, leaves)
            (before (suc at) other node word next at (omega arith) (left_access events memory other word next second leaves)
            (obtains_access events node word at value obtains) sooner);
      })
      | inl found ↦ inl (record {
        node = found.node;
        at = found.at;
        before = found.earlier;
        leaves = found.leaves;
        none = λ next after sooner (other, (second, leaves)).
            elim (found.last other next (omega arith) (second, leaves)
            (before (suc at) other node word next at (omega arith) (left_access events memory other word next second leaves)
            (obtains_access events node word at value obtains) sooner)) [
              | inl same ↦ absurd (omega arith)
              | inr back ↦ before_asym events memory caching (suc at) word other next found.node found.at back
                  (left_before (suc at) found.node other word found.at next value second (omega arith) found.leaves leaves after)
            ];
      })
    ]

    -- and so is the memory
    pub memory_at : (now word : ℕ) (value : ℤ) → MemoryOf events memory now word value → LastOf events memory word now value
    memory_at now word value (inr none) = inr (record { start = none.start; none = λ next inside (other, leaves). none.none other next inside leaves })
    memory_at now word value (inl found) = inl (record {
      node = found.node;
      at = found.at;
      before = found.inside;
      leaves = found.leaves;
      none = λ next after inside (other, (second, leaves)). elim (found.last other next inside (second, leaves)) [
        | inl same ↦ absurd (omega arith)
        | inr back ↦ before_asym events memory caching now word other next found.node found.at back
            (left_before now found.node other word found.at next value second inside found.leaves leaves after)
      ];
    })
