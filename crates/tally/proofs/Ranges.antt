-- Rows of numbers, cut and put together.
use Rattle.std.proofs.Common.{◌≡◌, ℕ, zero, suc, ◌+◌, ◌<◌, ◌≤◌, Bool, true, false, cond, ltb, List, [], ◌∷◌, ◌++◌, length, ap, sym, subst, refl, ◌∙◌, arith}
use Rattle.std.proofs.lemmas.Bool.Decides.{nat_tests}
use Rattle.std.proofs.lemmas.List.FromFn.{length-range_with_len}
use Rattle.std.specs.List.{Contains, range_with_len}
use Rattle.turnstile.specs.Lists.{put_in, union}

-- a list that is a row is as long as the row says
pub row_length : (xs : List ℕ) (a n : ℕ) → xs ≡ range_with_len a n → length xs ≡ n
row_length xs a n e = ap (λ (ys : List ℕ). length ys) e ∙ length-range_with_len a n

-- both parts of a row are rows
pub parts : (xs ys : List ℕ) (f n : ℕ) → xs ++ ys ≡ range_with_len f n → (xs ≡ range_with_len f (length xs)) × (ys ≡ range_with_len (f + length xs) (length ys))
parts [] ys f n e =
    let count : n ≡ length ys = sym (length-range_with_len f n) ∙ ap (λ (zs : List ℕ). length zs) (sym e) in
    let from : f ≡ f + 0 = omega arith in (refl, e ∙ (λ i. range_with_len (from i) (count i)))
parts (x ∷ xs) ys f zero e = absurd (cc e)
parts (x ∷ xs) ys f (suc n) e =
    let rest = parts xs ys (f + 1) n (cc e) in let first : x ≡ f = cc e in
    let from : f + 1 + length xs ≡ f + suc (length xs) = omega arith in
    ((λ i. first i ∷ rest.0 i), rest.1 ∙ ap (λ (z : ℕ). range_with_len z (length ys)) from)

-- a number in front of the row behind it
in_front : (a n : ℕ) → put_in a (range_with_len (a + 1) n) ≡ a ∷ range_with_len (a + 1) n
in_front a zero = refl
in_front a (suc n) = at (ltb a (a + 1)) refl
  where
    at : (b : Bool) → ltb a (a + 1) ≡ b → cond (ltb a (a + 1)) (a ∷ range_with_len (a + 1) (suc n)) ((a + 1) ∷ put_in a (range_with_len (a + 1 + 1) n)) ≡ a ∷ range_with_len (a + 1) (suc n)
    at true is = ap (λ (c : Bool). cond c (a ∷ range_with_len (a + 1) (suc n)) ((a + 1) ∷ put_in a (range_with_len (a + 1 + 1) n))) is
    at false is = let le : a + 1 ≤ a = grind (arith, nat_tests) in absurd (omega (arith, le))

union_rows : (n f m : ℕ) → union (range_with_len f n) (range_with_len (f + n) m) ≡ range_with_len f (n + m)
union_rows zero f m = let from : f + 0 ≡ f = omega arith in let count : m ≡ 0 + m = omega arith in λ i. range_with_len (from i) (count i)
union_rows (suc n) f m =
    let from : f + suc n ≡ f + 1 + n = omega arith in let count : suc (n + m) ≡ suc n + m = omega arith in
    ap (λ (z : ℕ). put_in f (union (range_with_len (f + 1) n) (range_with_len z m))) from
    ∙ (ap (put_in f) (union_rows n (f + 1) m) ∙ (in_front f (n + m) ∙ ap (range_with_len f) count))

-- two rows of which the second goes on from the first are a row
pub together : (xs ys : List ℕ) (f n m : ℕ) → xs ≡ range_with_len f n → ys ≡ range_with_len (f + n) m → union xs ys ≡ range_with_len f (n + m)
together xs ys f n m a b = (λ i. union (a i) (b i)) ∙ union_rows n f m

-- the first number of a row
pub has_first : (xs : List ℕ) (f n : ℕ) → 0 < n → xs ≡ range_with_len f n → Contains xs f
has_first xs f zero lt e = absurd (omega arith)
has_first xs f (suc n) lt e = subst (λ (ys : List ℕ). Contains ys f) (sym e) (0, omega arith, refl)
