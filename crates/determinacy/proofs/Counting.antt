-- Counting by a one to one map.
use Rattle.std.proofs.Common.{◌≡◌, ℕ, zero, suc, ◌<◌, ◌≤◌, inl, inr, Bool, true, false, cond, refl, sym, ◌∙◌, ap, subst, arith, rules}
use Rattle.std.specs.Prelude.{◌==◌}
use Rattle.backer_order.proofs.Search.{Less3, Same3, More3, compare}
use Rattle.determinacy.proofs.Rows.{when_true, when_false, either_bool}
use Rattle.determinacy.specs.Ending.{count}

pub count_yes : (holds : ℕ → Bool) (number : ℕ) → holds number ≡ true → count holds (suc number) ≡ suc (count holds number)
unfolding count
count_yes holds number is = when_true (holds number) (suc (count holds number)) (count holds number) is

pub count_no : (holds : ℕ → Bool) (number : ℕ) → holds number ≡ false → count holds (suc number) ≡ count holds number
unfolding count
count_no holds number is = when_false (holds number) (suc (count holds number)) (count holds number) is

pub count_zero : (holds : ℕ → Bool) → count holds 0 ≡ 0
unfolding count
count_zero holds = refl

-- at all places but one
abbrev pub without : ℕ → (ℕ → Bool) → ℕ → Bool
without place holds at = cond (at == place) false (holds at)

self_equal : (number : ℕ) → (number == number) ≡ true
self_equal number = search rules

other_number : (first second : ℕ) → (first ≡ second → ⊥) → (first == second) ≡ false
other_number first second differs = search (rules, differs)

without_self : (place : ℕ) (holds : ℕ → Bool) → without place holds place ≡ false
without_self place holds = when_true (place == place) false (holds place) (self_equal place)

without_other : (place at : ℕ) (holds : ℕ → Bool) → (at ≡ place → ⊥) → without place holds at ≡ holds at
without_other place at holds differs = when_false (at == place) false (holds at) (other_number at place differs)

same_count : (place : ℕ) (holds : ℕ → Bool) (number : ℕ) → number ≤ place → count (without place holds) number ≡ count holds number
same_count place holds zero within = count_zero (without place holds) ∙ sym (count_zero holds)
same_count place holds (suc number) within =
    let before = same_count place holds number (omega arith) in
    let same = without_other place number holds (λ is. absurd (omega arith)) in
    elim (either_bool (holds number)) [
      | inl is ↦ count_yes (without place holds) number (same ∙ is) ∙ ap suc before ∙ sym (count_yes holds number is)
      | inr is ↦ count_no (without place holds) number (same ∙ is) ∙ before ∙ sym (count_no holds number is)
    ]

one_less : (place : ℕ) (holds : ℕ → Bool) (number : ℕ) → place < number → holds place ≡ true → count holds number ≡ suc (count (without place holds) number)
one_less place holds zero within is = absurd (omega arith)
one_less place holds (suc number) within is = elim (compare place number) [
  | Same3 same ↦
      let here : holds number ≡ true = subst (λ i. holds i ≡ true) same is in
      let none : without place holds number ≡ false = subst (λ i. without place holds i ≡ false) same (without_self place holds) in
      count_yes holds number here ∙ ap suc (sym (same_count place holds number (omega arith)) ∙ sym (count_no (without place holds) number none))
  | More3 l ↦ absurd (omega arith)
  | Less3 l ↦
      let before = one_less place holds number l is in
      let same = without_other place number holds (λ here. absurd (omega arith)) in
      elim (either_bool (holds number)) [
        | inl here ↦ count_yes holds number here ∙ ap suc (before ∙ sym (count_yes (without place holds) number (same ∙ here)))
        | inr none ↦ count_no holds number none ∙ before ∙ ap suc (sym (count_no (without place holds) number (same ∙ none)))
      ]
]

pub record Place (holds : ℕ → Bool) (end : ℕ) : Type 0 where
  pub at : ℕ
  pub inside : at < end
  pub is : holds at ≡ true

-- each place of the one has a place of the other, and no two have the same
pub record Map (holds others : ℕ → Bool) (number end : ℕ) : Type 0 where
  pub to : (at : ℕ) → at < number → holds at ≡ true → Place others end
  pub one : (at next : ℕ) → (within : at < number) → (within_next : next < number) → (is : holds at ≡ true) → (is_next : holds next ≡ true) →
      (to at within is).at ≡ (to next within_next is_next).at → at ≡ next

one_more : (at number : ℕ) → at < number → at < suc number
one_more at number within = omega arith

last_one : (number : ℕ) → number < suc number
last_one number = omega arith

shorter : (holds others : ℕ → Bool) (number end : ℕ) → Map holds others (suc number) end → Map holds others number end
shorter holds others number end map = record {
  to = λ at within is. map.to at (one_more at number within) is;
  one = λ at next within within_next is is_next same. map.one at next (one_more at number within) (one_more next number within_next) is is_next same;
}

rest_map : (holds others : ℕ → Bool) (number end : ℕ) → (map : Map holds others (suc number) end) → (is : holds number ≡ true) →
    Map holds (without ((map.to number (last_one number) is).at) others) number end
rest_map holds others number end map is = record {
  to = λ at within here. let found = map.to at (one_more at number within) here in record {
    at = found.at;
    inside = found.inside;
    is = without_other ((map.to number (last_one number) is).at) found.at others
        (λ same. let same_at = map.one at number (one_more at number within) (last_one number) here is same in absurd (omega arith)) ∙ found.is;
  };
  one = λ at next within within_next here here_next same. map.one at next (one_more at number within) (one_more next number within_next) here here_next same;
}

pub at_most : (number : ℕ) (holds others : ℕ → Bool) (end : ℕ) → Map holds others number end → count holds number ≤ count others end
at_most zero holds others end map = let none = count_zero holds in omega arith
at_most (suc number) holds others end map = elim (either_bool (holds number)) [
  | inr none ↦
      let before = at_most number holds others end (shorter holds others number end map) in
      let same = count_no holds number none in omega arith
  | inl is ↦
      let found = map.to number (last_one number) is in
      let before = at_most number holds (without found.at others) end (rest_map holds others number end map is) in
      let more = count_yes holds number is in
      let less = one_less found.at others end found.inside found.is in
      omega arith
]

-- and fewer where a place is left
pub fewer : (number : ℕ) (holds others : ℕ → Bool) (end : ℕ) → (map : Map holds others number end) → (left : Place others end) →
    ((at : ℕ) → (within : at < number) → (is : holds at ≡ true) → (map.to at within is).at ≡ left.at → ⊥) → count holds number < count others end
fewer number holds others end map left other =
    let before = at_most number holds (without left.at others) end (record {
      to = λ at within is. let found = map.to at within is in record {
        at = found.at;
        inside = found.inside;
        is = without_other left.at found.at others (other at within is) ∙ found.is;
      };
      one = map.one;
    }) in
    let less = one_less left.at others end left.inside left.is in
    omega arith
