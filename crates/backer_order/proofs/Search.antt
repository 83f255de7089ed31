-- The first and the last place at which something holds.
use Rattle.std.proofs.Common.{◌≡◌, ℕ, zero, suc, ◌<◌, ◌⊎◌, inl, inr, refl, subst, arith}
use Rattle.backer_order.specs.Moments.{NoneBetween}

abbrev pub Decided : Type 0 → Type 0
Decided A = A ⊎ (A → ⊥)

pub record Last (P : ℕ → Type 0) (a n : ℕ) : Type 0 where
  pub at : ℕ
  pub after : a < at
  pub before : at < n
  pub here : P at
  pub none : NoneBetween P at n

pub record First (P : ℕ → Type 0) (a n : ℕ) : Type 0 where
  pub at : ℕ
  pub after : a < at
  pub before : at < n
  pub here : P at
  pub none : NoneBetween P a at

pub data Order3 (a b : ℕ) : Type 0 where
  Less3 : a < b → Order3 a b
  Same3 : a ≡ b → Order3 a b
  More3 : b < a → Order3 a b

pub compare : (a b : ℕ) → Order3 a b
compare zero zero = Same3 refl
compare zero (suc b) = Less3 (omega arith)
compare (suc a) zero = More3 (omega arith)
compare (suc a) (suc b) =
    elim (compare a b) [ Less3 h ↦ Less3 (omega arith) | Same3 h ↦ Same3 (omega arith) | More3 h ↦ More3 (omega arith) ]

no_longer : (P : ℕ → Type 0) (a n : ℕ) → NoneBetween P a n → (P n → ⊥) → NoneBetween P a (suc n)
no_longer P a n none not i h k p = elim (compare i n) [
  | Less3 l ↦ none i h l p
  | Same3 e ↦ not (subst P e p)
  | More3 l ↦ absurd (omega arith)
]

none_here : (P : ℕ → Type 0) (n : ℕ) → NoneBetween P n (suc n)
none_here P n i h k p = absurd (omega arith)

pub find_last : (P : ℕ → Type 0) → ((i : ℕ) → Decided (P i)) → (a n : ℕ) → Last P a n ⊎ NoneBetween P a n
find_last P d a zero = inr (λ i h k p. absurd (omega arith))
find_last P d a (suc n) = elim (d n) [
  | inl y ↦ elim (compare a n) [
    | Less3 l ↦ inl (record { at = n; after = l; before = omega arith; here = y; none = none_here P n })
    | Same3 e ↦ inr (λ i h k p. absurd (omega arith))
    | More3 l ↦ inr (λ i h k p. absurd (omega arith))
  ]
  | inr not ↦ elim (find_last P d a n) [
    | inl l ↦ inl (record { at = l.at; after = l.after; before = omega (arith, l.before); here = l.here; none = no_longer P (l.at) n l.none not })
    | inr none ↦ inr (no_longer P a n none not)
  ]
]

pub find_first : (P : ℕ → Type 0) → ((i : ℕ) → Decided (P i)) → (a n : ℕ) → First P a n ⊎ NoneBetween P a n
find_first P d a zero = inr (λ i h k p. absurd (omega arith))
find_first P d a (suc n) = elim (find_first P d a n) [
  | inl l ↦ inl (record { at = l.at; after = l.after; before = omega (arith, l.before); here = l.here; none = l.none })
  | inr none ↦ elim (d n) [
    | inl y ↦ elim (compare a n) [
      | Less3 l ↦ inl (record { at = n; after = l; before = omega arith; here = y; none = none })
      | Same3 e ↦ inr (λ i h k p. absurd (omega arith))
      | More3 l ↦ inr (λ i h k p. absurd (omega arith))
    ]
    | inr not ↦ inr (no_longer P a n none not)
  ]
]
