-- Walks along a list of places, of which the first so many are passed.
use Rattle.std.proofs.Common.{◌≡◌, ◌⊎◌, ℕ, zero, suc, ◌+◌, ◌<◌, ◌≤◌, List, [], ◌∷◌, length, take, get_or, refl, sym, subst, inl, inr, arith}
use Rattle.std.proofs.lemmas.List.{take_more}
use Rattle.std.proofs.lemmas.List.Elements.{Contains-get_or, Contains-append_left, Contains-push, Contains-push_cases}
use Rattle.std.specs.List.{Contains}
use Rattle.span_tree.specs.declared.act.Place.{Place}
use Rattle.span_tree.specs.Dag.{StandsBefore}
use Rattle.span_tree.proofs.Orders.{first_or_later, is_first, is_later, nothing_in_none, second_is_in}

-- what is passed stands before the next place
pub passed_stands : (xs : List Place) (i : ℕ) (d x : Place) → i < length xs → Contains (take i xs) x → StandsBefore xs x (get_or xs i d)
passed_stands [] i d x lt is = absurd (omega (arith, lt))
passed_stands (p ∷ xs) zero d x lt is = absurd (nothing_in_none x is)
passed_stands (p ∷ xs) (suc i) d x lt is = go (first_or_later p (take i xs) x is) (λ c. passed_stands xs i d x (omega (arith, lt)) c)
  where
    go : (p ≡ x) ⊎ Contains (take i xs) x → (Contains (take i xs) x → StandsBefore xs x (get_or xs i d)) → StandsBefore (p ∷ xs) x (get_or xs i d)
    go (inl same) rest = inl (same, Contains-get_or xs i d (omega (arith, lt)))
    go (inr c) rest = inr (rest c)

-- and the other way round, where the next place stands once
pub stands_passed : (xs : List Place) (i : ℕ) (d x : Place) → i < length xs → ¬ StandsBefore xs (get_or xs i d) (get_or xs i d) → StandsBefore xs x (get_or xs i d) → Contains (take i xs) x
stands_passed [] i d x lt once is = absurd is
stands_passed (p ∷ xs) zero d x lt once (inl h) = absurd (once (inl (refl, h.1)))
stands_passed (p ∷ xs) zero d x lt once (inr h) = absurd (once (inl (refl, second_is_in xs x p h)))
stands_passed (p ∷ xs) (suc i) d x lt once (inl h) = subst (λ y. Contains (p ∷ take i xs) y) h.0 (is_first p (take i xs))
stands_passed (p ∷ xs) (suc i) d x lt once (inr h) = is_later p (take i xs) x (stands_passed xs i d x (omega (arith, lt)) (λ again. once (inr again)) h)

-- what is not passed is the next place, or stands behind it
pub passed_or_behind : (xs : List Place) (i : ℕ) (d x : Place) → i < length xs → Contains xs x → Contains (take i xs) x ⊎ ((get_or xs i d ≡ x) ⊎ StandsBefore xs (get_or xs i d) x)
passed_or_behind [] i d x lt is = absurd (omega (arith, lt))
passed_or_behind (p ∷ xs) zero d x lt is = go (first_or_later p xs x is)
  where
    go : (p ≡ x) ⊎ Contains xs x → Contains [] x ⊎ ((p ≡ x) ⊎ StandsBefore (p ∷ xs) p x)
    go (inl same) = inr (inl same)
    go (inr c) = inr (inr (inl (refl, c)))
passed_or_behind (p ∷ xs) (suc i) d x lt is = go (first_or_later p xs x is) (λ c. passed_or_behind xs i d x (omega (arith, lt)) c)
  where
    later : Contains (take i xs) x ⊎ ((get_or xs i d ≡ x) ⊎ StandsBefore xs (get_or xs i d) x) → Contains (p ∷ take i xs) x ⊎ ((get_or xs i d ≡ x) ⊎ StandsBefore (p ∷ xs) (get_or xs i d) x)
    later (inl c) = inl (is_later p (take i xs) x c)
    later (inr (inl same)) = inr (inl same)
    later (inr (inr h)) = inr (inr (inr h))

    go : (p ≡ x) ⊎ Contains xs x → (Contains xs x → Contains (take i xs) x ⊎ ((get_or xs i d ≡ x) ⊎ StandsBefore xs (get_or xs i d) x)) →
        Contains (p ∷ take i xs) x ⊎ ((get_or xs i d ≡ x) ⊎ StandsBefore (p ∷ xs) (get_or xs i d) x)
    go (inl same) rest = inl (subst (λ y. Contains (p ∷ take i xs) y) same (is_first p (take i xs)))
    go (inr c) rest = later (rest c)

-- one place more is passed
pub passed_more : (xs : List Place) (i : ℕ) (d x : Place) → i < length xs → Contains (take (i + 1) xs) x → Contains (take i xs) x ⊎ (get_or xs i d ≡ x)
passed_more xs i d x lt is = Contains-push_cases (take i xs) (get_or xs i d) x (subst (λ l. Contains l x) (take_more xs i d lt) is)

pub still_passed : (xs : List Place) (i : ℕ) (d x : Place) → i < length xs → Contains (take i xs) x → Contains (take (i + 1) xs) x
still_passed xs i d x lt is = subst (λ l. Contains l x) (sym (take_more xs i d lt)) (Contains-append_left (take i xs) (get_or xs i d ∷ []) x is)

pub now_passed : (xs : List Place) (i : ℕ) (d : Place) → i < length xs → Contains (take (i + 1) xs) (get_or xs i d)
now_passed xs i d lt = subst (λ l. Contains l (get_or xs i d)) (sym (take_more xs i d lt)) (Contains-push (take i xs) (get_or xs i d))

-- in the end all are passed
pub all_passed : (xs : List Place) (i : ℕ) (x : Place) → length xs ≤ i → Contains xs x → Contains (take i xs) x
all_passed [] i x le is = absurd (nothing_in_none x is)
all_passed (p ∷ xs) zero x le is = absurd (omega (arith, le))
all_passed (p ∷ xs) (suc i) x le is = go (first_or_later p xs x is) (λ c. all_passed xs i x (omega (arith, le)) c)
  where
    go : (p ≡ x) ⊎ Contains xs x → (Contains xs x → Contains (take i xs) x) → Contains (p ∷ take i xs) x
    go (inl same) rest = subst (λ y. Contains (p ∷ take i xs) y) same (is_first p (take i xs))
    go (inr c) rest = is_later p (take i xs) x (rest c)
