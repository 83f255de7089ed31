-- Flags, by number.
use Rattle.std.specs.Prelude.{◌≡◌, ℕ, zero, suc, ◌<◌, Bool, true, false, ◌||◌, ◌==◌, List, [], ◌∷◌, ◌++◌, length, slice_set, take, ◌+◌}
use Rattle.std.proofs.Common.{get_or, refl, sym, ap, ◌∙◌, arith, rules, tests}
use Rattle.std.proofs.lemmas.Bool.Decides.{Decides-eqb, not_from_Decides, same_from_decides}
use Rattle.std.proofs.lemmas.List.{get_or-set_other, length-take-le}
use Rattle.std.proofs.lemmas.Grind.{get_or-set_at}
use Rattle.cilk_checker.proofs.Turns.{next_taken_at}

pub or_true : (a : Bool) → (a || true) ≡ true
or_true true = refl
or_true false = refl

pub or_false : (a : Bool) → (a || false) ≡ a
or_false true = refl
or_false false = refl

-- a flag more that is not set
pub flag_clear : (flags : List Bool) (n : ℕ) → get_or (flags ++ false ∷ []) n false ≡ get_or flags n false
flag_clear [] zero = refl
flag_clear [] (suc n) = refl
flag_clear (flag ∷ flags) zero = refl
flag_clear (flag ∷ flags) (suc n) = flag_clear flags n

suc_eq : (m n : ℕ) → (m == n) ≡ (suc m == suc n)
suc_eq m n = same_from_decides (m == n) (suc m == suc n) (Decides-eqb m n) ((λ e. omega (arith, (Decides-eqb (suc m) (suc n)).0 e)), (λ e. (Decides-eqb (suc m) (suc n)).1 (ap suc e)))

-- a flag more that is set
pub flag_more : (flags : List Bool) (n : ℕ) → get_or (flags ++ true ∷ []) n false ≡ (get_or flags n false || n == length flags)
flag_more [] zero = refl
flag_more [] (suc n) = search (rules, tests)
flag_more (flag ∷ flags) zero = sym (ap (λ b. flag || b) first ∙ or_false flag)
  where
    first : (0 == suc (length flags)) ≡ false
    first = search (rules, tests)
flag_more (flag ∷ flags) (suc n) = flag_more flags n ∙ ap (λ b. get_or flags n false || b) (suc_eq n (length flags))

-- a flag that is set
pub flag_set : (flags : List Bool) (i n : ℕ) → i < length flags → get_or (slice_set flags i true) n false ≡ (get_or flags n false || n == i)
flag_set flags i n within = by_test (n == i) refl
  where
    by_test : (b : Bool) → (n == i) ≡ b → get_or (slice_set flags i true) n false ≡ (get_or flags n false || n == i)
    by_test true same = get_or-set_at flags i n true false ((Decides-eqb n i).0 same) within ∙ sym (ap (λ b. get_or flags n false || b) same ∙ or_true (get_or flags n false))
    by_test false other = get_or-set_other flags i n true false (not_from_Decides (n == i) (Decides-eqb n i) other) ∙ sym (ap (λ b. get_or flags n false || b) other ∙ or_false (get_or flags n false))

or_grouped : (a b c : Bool) → ((a || b) || c) ≡ (a || (b || c))
or_grouped true b c = refl
or_grouped false b c = refl

-- one flag more of those that are added to a set
pub flag_taken : (had : Bool) (flags : List Bool) (i n : ℕ) → i < length flags → get_or flags i false ≡ true
    → ((had || get_or (take i flags) n false) || n == i) ≡ (had || get_or (take (i + 1) flags) n false)
flag_taken had flags i n within flag =
    or_grouped had (get_or (take i flags) n false) (n == i)
    ∙ ap (λ b. had || b) (ap (λ k. get_or (take i flags) n false || n == k) (sym here) ∙ sym (ap (λ some. get_or some n false) (next_taken_at flags i true false within flag) ∙ flag_more (take i flags) n))
  where
    here : length (take i flags) ≡ i
    here = length-take-le i flags (omega arith)
