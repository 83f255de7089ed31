-- Sets of numbers as ascending lists, by recursion. `Numbers` says the same in the words of std.
use Rattle.std.proofs.Common.{◌≡◌, ℕ, zero, suc, ◌+◌, ◌<◌, ◌≤◌, ◌⊎◌, Bool, true, false, cond, ltb, List, [], ◌∷◌, length, take, drop, refl, ap, arith, inl, inr, ⊎_elim}
use Rattle.std.proofs.lemmas.Bool.Decides.{nat_tests}
use Rattle.turnstile.specs.Lists.{put_in, union}
use mathlib.Core.Logic.{dite}
use native.Mathlib.Decide.{ℕ_discrete}

abbrev pub IsIn : ℕ → List ℕ → Type 0
IsIn n [] = ⊥
IsIn n (x ∷ xs) = (n ≡ x) ⊎ IsIn n xs

abbrev pub AllAbove : ℕ → List ℕ → Type 0
AllAbove n [] = Unit {0}
AllAbove n (x ∷ xs) = (n < x) × AllAbove n xs

abbrev pub IsAscending : List ℕ → Type 0
IsAscending [] = Unit {0}
IsAscending (x ∷ xs) = AllAbove x xs × IsAscending xs

pub above : (n : ℕ) (xs : List ℕ) (x : ℕ) → AllAbove n xs → IsIn x xs → n < x
above n [] x a h = absurd h
above n (y ∷ ys) x a h = ⊎_elim (λ e. omega (arith, a.0, e)) (λ t. above n ys x a.1 t) h

pub above_less : (m n : ℕ) (xs : List ℕ) → m < n → AllAbove n xs → AllAbove m xs
above_less m n [] lt a = tt
above_less m n (x ∷ xs) lt a = (omega (arith, a.0), above_less m n xs lt a.1)

-- what is in a part is in the whole
pub in_take : (m : ℕ) (xs : List ℕ) (x : ℕ) → IsIn x (take m xs) → IsIn x xs
in_take zero [] x h = h
in_take zero (y ∷ ys) x h = absurd h
in_take (suc m) [] x h = h
in_take (suc m) (y ∷ ys) x h = ⊎_elim inl (λ t. inr (in_take m ys x t)) h

pub in_drop : (m : ℕ) (xs : List ℕ) (x : ℕ) → IsIn x (drop m xs) → IsIn x xs
in_drop zero xs x h = h
in_drop (suc m) [] x h = h
in_drop (suc m) (y ∷ ys) x h = inr (in_drop m ys x h)

-- the parts have no number in common
pub take_below_drop : (m : ℕ) (xs : List ℕ) (x y : ℕ) → IsAscending xs → IsIn x (take m xs) → IsIn y (drop m xs) → x < y
take_below_drop zero [] x y a h k = absurd h
take_below_drop zero (z ∷ zs) x y a h k = absurd h
take_below_drop (suc m) [] x y a h k = absurd h
take_below_drop (suc m) (z ∷ zs) x y a h k = ⊎_elim (λ e. let l = above z zs y a.0 (in_drop m zs y k) in omega (arith, e)) (λ t. take_below_drop m zs x y a.1 t k) h

above_take : (m n : ℕ) (xs : List ℕ) → AllAbove n xs → AllAbove n (take m xs)
above_take zero n [] a = tt
above_take zero n (x ∷ xs) a = tt
above_take (suc m) n [] a = tt
above_take (suc m) n (x ∷ xs) a = (a.0, above_take m n xs a.1)

pub ascending_take : (m : ℕ) (xs : List ℕ) → IsAscending xs → IsAscending (take m xs)
ascending_take zero [] a = tt
ascending_take zero (x ∷ xs) a = tt
ascending_take (suc m) [] a = tt
ascending_take (suc m) (x ∷ xs) a = (above_take m x xs a.0, ascending_take m xs a.1)

pub ascending_drop : (m : ℕ) (xs : List ℕ) → IsAscending xs → IsAscending (drop m xs)
ascending_drop zero xs a = a
ascending_drop (suc m) [] a = a
ascending_drop (suc m) (x ∷ xs) a = ascending_drop m xs a.1

in_cond : (b : Bool) (n x : ℕ) (ys zs : List ℕ) → IsIn x (cond b ys zs) → IsIn x ys ⊎ IsIn x zs
in_cond true n x ys zs h = inl h
in_cond false n x ys zs h = inr h

pub in_put : (n : ℕ) (xs : List ℕ) (x : ℕ) → IsIn x (put_in n xs) → (x ≡ n) ⊎ IsIn x xs
in_put n [] x h = h
in_put n (y ∷ ys) x h = ⊎_elim (λ s. s) (λ s. ⊎_elim (λ e. inr (inl e)) (λ t. ⊎_elim inl (λ u. inr (inr u)) (in_put n ys x t)) s) (in_cond (ltb n y) n x (n ∷ y ∷ ys) (y ∷ put_in n ys) h)

pub in_union : (xs ys : List ℕ) (x : ℕ) → IsIn x (union xs ys) → IsIn x xs ⊎ IsIn x ys
in_union [] ys x h = inr h
in_union (z ∷ zs) ys x h = ⊎_elim (λ e. inl (inl e)) (λ t. ⊎_elim (λ s. inl (inr s)) inr (in_union zs ys x t)) (in_put z (union zs ys) x h)

length_cond : (b : Bool) (n y m : ℕ) (ys zs : List ℕ) → length ys ≡ m → length zs ≡ m → length (cond b ys zs) ≡ m
length_cond true n y m ys zs p q = p
length_cond false n y m ys zs p q = q

length_put : (n : ℕ) (xs : List ℕ) → length (put_in n xs) ≡ suc (length xs)
length_put n [] = refl
length_put n (y ∷ ys) = length_cond (ltb n y) n y (suc (suc (length ys))) (n ∷ y ∷ ys) (y ∷ put_in n ys) refl (ap suc (length_put n ys))

pub length_union : (xs ys : List ℕ) → length (union xs ys) ≡ length xs + length ys
length_union [] ys = omega arith
length_union (x ∷ xs) ys = let h = length_union xs ys in omega (arith, length_put x (union xs ys))

pub all_above : (n : ℕ) (xs : List ℕ) → ((x : ℕ) → IsIn x xs → n < x) → AllAbove n xs
all_above n [] h = tt
all_above n (x ∷ xs) h = (h x (inl refl), all_above n xs (λ y s. h y (inr s)))

ascending_cond : (b : Bool) (n y : ℕ) (ys : List ℕ) → ltb n y ≡ b → (n ≡ y → ⊥) → IsAscending (y ∷ ys) → IsAscending (put_in n ys) → IsAscending (cond b (n ∷ y ∷ ys) (y ∷ put_in n ys))
ascending_cond true n y ys is ne a b = let lt : n < y = grind (arith, nat_tests) in ((lt, above_less n y ys lt a.0), a)
ascending_cond false n y ys is ne a b = let le : y ≤ n = grind (arith, nat_tests) in
    (all_above y (put_in n ys) (λ x s. ⊎_elim (λ e. omega (arith, e, ne)) (λ t. above y ys x a.0 t) (in_put n ys x s)), b)

ascending_put : (n : ℕ) (xs : List ℕ) → (IsIn n xs → ⊥) → IsAscending xs → IsAscending (put_in n xs)
ascending_put n [] none_of a = (tt, tt)
ascending_put n (y ∷ ys) none_of a = ascending_cond (ltb n y) n y ys refl (λ e. none_of (inl e)) a (ascending_put n ys (λ s. none_of (inr s)) a.1)

pub ascending_union : (xs ys : List ℕ) → ((x : ℕ) → IsIn x xs → IsIn x ys → ⊥) → IsAscending xs → IsAscending ys → IsAscending (union xs ys)
ascending_union [] ys none_of a b = b
ascending_union (x ∷ xs) ys none_of a b = ascending_put x (union xs ys) (λ s. ⊎_elim (λ (t : IsIn x xs). let l = above x xs x a.0 t in absurd (omega (arith, l))) (λ t. none_of x (inl refl) t) (in_union xs ys x s))
    (ascending_union xs ys (λ y s t. none_of y (inr s) t) a.1 b)

-- numbers from a on and below b are at most b - a
pub within : (xs : List ℕ) (a b : ℕ) → IsAscending xs → ((x : ℕ) → IsIn x xs → (a ≤ x) × (x < b)) → a ≤ b → a + length xs ≤ b
within [] a b up h le = omega arith
within (x ∷ xs) a b up h le = let here = h x (inl refl) in let rest = within xs (suc x) b up.1 (λ y s. (let l = above x xs y up.0 s in omega (arith, l), (h y (inr s)).1)) (omega (arith, here.1)) in omega (arith, here.0, rest)

-- where they are as many, they are all
pub full : (xs : List ℕ) (a b : ℕ) → IsAscending xs → ((x : ℕ) → IsIn x xs → (a ≤ x) × (x < b)) → a + length xs ≡ b → (n : ℕ) → a ≤ n → n < b → IsIn n xs
full [] a b up h is n le lt = absurd (omega (arith, is))
full (x ∷ xs) a b up h is n le lt = let here = h x (inl refl) in let h' : (y : ℕ) → IsIn y xs → (suc x ≤ y) × (y < b) = λ y s. (let l = above x xs y up.0 s in omega (arith, l), (h y (inr s)).1) in
    let rest = within xs (suc x) b up.1 h' (omega (arith, here.1)) in let first : x ≡ a = omega (arith, here.0, rest, is) in
    dite (ℕ_discrete n x) inl (λ ne. inr (full xs (suc x) b up.1 h' (omega (arith, first, is)) n (omega (arith, first, ne)) lt))
