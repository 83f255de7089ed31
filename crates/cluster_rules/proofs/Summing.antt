-- Sums over the numbers below one.
use Rattle.std.proofs.Common.{◌≡◌, ◌≢◌, ℕ, zero, suc, ◌+◌, ◌<◌, ◌≤◌, ◌⊎◌, inl, inr, Bool, true, false, eqb, refl, subst, arith}
use Rattle.std.proofs.lemmas.Bool.Decides.{nat_tests}

abbrev pub sum_below : ℕ → (ℕ → ℕ) → ℕ
sum_below zero amount = 0
sum_below (suc count) amount = amount count + sum_below count amount

pub sum_same : (count : ℕ) (amount other : ℕ → ℕ) → ((number : ℕ) → number < count → other number ≡ amount number)
    → sum_below count other ≡ sum_below count amount
sum_same zero amount other same = refl
sum_same (suc count) amount other same =
    let here = same count (omega arith) in
    let rest = sum_same count amount other (λ number less. same number (omega (arith, less))) in omega (arith, here, rest)

pub sum_none : (count : ℕ) (amount : ℕ → ℕ) → ((number : ℕ) → number < count → amount number ≡ 0) → sum_below count amount ≡ 0
sum_none zero amount none = refl
sum_none (suc count) amount none =
    let here = none count (omega arith) in
    let rest = sum_none count amount (λ number less. none number (omega (arith, less))) in omega (arith, here, rest)

-- two numbers are one or two
pub one_or_two : (number other : ℕ) → (number ≡ other) ⊎ (number ≢ other)
one_or_two number other = on (eqb number other) refl
  where
    on : (b : Bool) → eqb number other ≡ b → (number ≡ other) ⊎ (number ≢ other)
    on true is = inl (grind (arith, nat_tests))
    on false is = inr (λ same. grind (arith, nat_tests))

-- where the amounts differ at one number alone
pub sum_change : (count : ℕ) (amount other : ℕ → ℕ) (number : ℕ) → number < count → ((at : ℕ) → at ≢ number → other at ≡ amount at)
    → sum_below count other + amount number ≡ sum_below count amount + other number
sum_change zero amount other number less same = absurd (omega (arith, less))
sum_change (suc count) amount other number less same = on (one_or_two count number) (λ below. sum_change count amount other number below same)
  where
    on : (count ≡ number) ⊎ (count ≢ number) → (number < count → sum_below count other + amount number ≡ sum_below count amount + other number)
        → sum_below (suc count) other + amount number ≡ sum_below (suc count) amount + other number
    on (inl is) rest =
        let others = sum_same count amount other (λ at below. same at (λ equal. omega (arith, is, below, equal))) in
        subst (λ it. sum_below (suc count) other + amount it ≡ sum_below (suc count) amount + other it) is (omega (arith, others))
    on (inr not) rest = let here = same count not in let before = rest (omega (arith, less, not)) in omega (arith, here, before)

-- each amount is within the sum
pub sum_one : (count : ℕ) (amount : ℕ → ℕ) (number : ℕ) → number < count → amount number ≤ sum_below count amount
sum_one zero amount number less = absurd (omega (arith, less))
sum_one (suc count) amount number less = on (one_or_two count number) (λ below. sum_one count amount number below)
  where
    on : (count ≡ number) ⊎ (count ≢ number) → (number < count → amount number ≤ sum_below count amount) → amount number ≤ sum_below (suc count) amount
    on (inl is) rest = subst (λ it. amount it ≤ sum_below (suc count) amount) is (omega arith)
    on (inr not) rest = let before = rest (omega (arith, less, not)) in omega (arith, before)

-- and so are two of them
pub sum_two : (count : ℕ) (amount : ℕ → ℕ) (number other : ℕ) → number < count → other < count → number ≢ other
    → amount number + amount other ≤ sum_below count amount
sum_two zero amount number other less below not = absurd (omega (arith, less))
sum_two (suc count) amount number other less below not =
    on (one_or_two count number) (one_or_two count other) (λ less below. sum_two count amount number other less below not)
  where
    on : (count ≡ number) ⊎ (count ≢ number) → (count ≡ other) ⊎ (count ≢ other)
        → (number < count → other < count → amount number + amount other ≤ sum_below count amount)
        → amount number + amount other ≤ sum_below (suc count) amount
    on (inl is) (inl too) rest = absurd (omega (arith, is, too, not))
    on (inl is) (inr apart) rest =
        let before = sum_one count amount other (omega (arith, below, apart)) in
        subst (λ it. amount it + amount other ≤ sum_below (suc count) amount) is (omega (arith, before))
    on (inr apart) (inl is) rest =
        let before = sum_one count amount number (omega (arith, less, apart)) in
        subst (λ it. amount number + amount it ≤ sum_below (suc count) amount) is (omega (arith, before))
    on (inr apart) (inr too) rest = let before = rest (omega (arith, less, apart)) (omega (arith, below, too)) in omega (arith, before)
