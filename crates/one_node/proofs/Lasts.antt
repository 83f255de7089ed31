-- The word at a position, one position more.
use Rattle.std.proofs.Common.{◌≡◌, ℕ, suc, ◌⊎◌, inl, inr, ℤ, sym, ◌∙◌, subst, arith}
use Rattle.backer_order.proofs.Search.{Less3, Same3, More3, compare}
use Rattle.backer_order.specs.Log.{Events, SharedMemory}
use Rattle.backer_order.specs.Moments.{Leaves}
use Rattle.determinacy.proofs.Leaving.{LeftBy, same_left}
use Rattle.determinacy.specs.Serial.{Leaving, LastOf}

module _ (events : Events) (memory : SharedMemory) (word : ℕ) where
  pub last_one : (now : ℕ) (value second : ℤ) → LastOf events memory word now value → LastOf events memory word now second → value ≡ second
  last_one now value second (inr none) (inr again) = none.start ∙ sym again.start
  last_one now value second (inr none) (inl last) = absurd (none.none last.at last.before (last.node, (second, last.leaves)))
  last_one now value second (inl last) (inr none) = absurd (none.none last.at last.before (last.node, (value, last.leaves)))
  last_one now value second (inl last) (inl again) = elim (compare last.at again.at) [
    | Less3 l ↦ absurd (last.none again.at l again.before (again.node, (second, again.leaves)))
    | Same3 same ↦ same_left events memory last.node again.node word again.at value second
        (subst (λ i. Leaves events memory last.node word i value) same last.leaves) again.leaves
    | More3 l ↦ absurd (again.none last.at l last.before (last.node, (value, last.leaves)))
  ]

  pub last_more : (now : ℕ) (value : ℤ) → LastOf events memory word now value → (Leaving events memory word now → ⊥) → LastOf events memory word (suc now) value
  last_more now value (inr none) other = inr (record {
    start = none.start;
    none = λ at inside leaves. elim (compare at now) [
      | Less3 l ↦ none.none at l leaves
      | Same3 same ↦ other (subst (λ i. Leaving events memory word i) same leaves)
      | More3 l ↦ absurd (omega arith)
    ];
  })
  last_more now value (inl last) other = inl (record {
    node = last.node;
    at = last.at;
    before = omega (arith, last.before);
    leaves = last.leaves;
    none = λ at after inside leaves. elim (compare at now) [
      | Less3 l ↦ last.none at after l leaves
      | Same3 same ↦ other (subst (λ i. Leaving events memory word i) same leaves)
      | More3 l ↦ absurd (omega arith)
    ];
  })

  pub last_new : (now node : ℕ) (value : ℤ) → Leaves events memory node word now value → LastOf events memory word (suc now) value
  last_new now node value leaves =
      inl (record { node = node; at = now; before = omega arith; leaves = leaves; none = λ at after inside left. absurd (omega arith) })

  -- the last one stands at the latest position, or it was the last one before
  pub last_split : (now : ℕ) (value : ℤ) → LastOf events memory word (suc now) value →
      LeftBy events memory word now value ⊎ (LastOf events memory word now value × (Leaving events memory word now → ⊥))
  last_split now value (inr none) =
      inr (inr (record { start = none.start; none = λ at inside leaves. none.none at (omega arith) leaves }), λ leaves. none.none now (omega arith) leaves)
  last_split now value (inl last) = elim (compare last.at now) [
    | Same3 same ↦ inl (record { node = last.node; leaves = subst (λ i. Leaves events memory last.node word i value) same last.leaves })
    | Less3 l ↦ inr (
      inl (record {
        node = last.node;
        at = last.at;
        before = l;
        leaves = last.leaves;
        none = λ at after inside leaves. last.none at after (omega arith) leaves;
      }),
      λ leaves. last.none now l (omega arith) leaves,
    )
    | More3 l ↦ absurd (omega (arith, last.before))
  ]
