-- The first number of an ascending list that passes a test is the least one.
use Rattle.std.proofs.Common.{◌≡◌, ℕ, ◌<◌, ◌≤◌, Bool, true, false, cond, ◌&&◌, ◌||◌, List, [], ◌∷◌, Option, Some, None, nat_eq, nat_le, refl, sym, ◌∙◌, ap, subst, arith, not, Less, is_some}
use Rattle.std.specs.List.{AllByRecursion, list_any, find, filter}
use Rattle.std.specs.List.Sorted.{IsStrictlySortedBy}
use Rattle.std.specs.Ordering.{nat_cmp}
use Rattle.std.specs.Cmp.{unsigned_Decides, unsigned_tied, nat_eq_equiv}
use Rattle.std.proofs.lemmas.Cmp.{ranked}
use Rattle.std.proofs.lemmas.Map.Keys.{sorted_head, sorted_tail}
use Rattle.std.proofs.lemmas.Bool.Decides.{nat_tests}
use Rattle.std.specs.BTreeMap.{is_at}
use Rattle.std.specs.BTreeMap.Range.{range_contains}
use Rattle.std.specs.BTreeSet.{BTreeSet, contains, keys_between, IsOrdered}
use Rattle.std.specs.declared.ops.Bound.{Bound}
use Rattle.std.specs.Option.{option_map_or}
use Rattle.page_words.specs.Page.{Page}
use Rattle.page_cache.specs.Cache.{AreNumbers, IsLeastFrom, is_dirty, is_resident, page_at}

-- two tests that agree from a number on have the same least one
same_least : (test other : ℕ → Bool) (least : ℕ) → ((n : ℕ) → least ≤ n → other n ≡ test n) → (found : Option ℕ) → IsLeastFrom test least found → IsLeastFrom other least found
same_least test other least same None none = λ n from. same n from ∙ none n from
same_least test other least same (Some k) (from, passes, before) = (from, same k from ∙ passes, λ n from' below. same n from' ∙ before n from' below)

-- no number below the first is listed
none_below : (k n : ℕ) (ks : List ℕ) → n < k → AllByRecursion (λ y. nat_cmp k y ≡ Less) ks → list_any (nat_eq n) ks ≡ false
none_below k n [] below above = refl
none_below k n (y ∷ ys) below (here, rest) = let after : k < y = ranked k y Less (sym here) in let other : nat_eq n y ≡ false = grind (arith, nat_tests) in ap (λ b. b || list_any (nat_eq n) ys) other ∙ none_below k n ys below rest

module _ (test : ℕ → Bool) (least : ℕ) where
  -- it passes and is in the list
  abbrev is_listed : List ℕ → ℕ → Bool
  is_listed ks n = test n && list_any (nat_eq n) ks

  -- a number that does not count may be left out
  left_out : (k : ℕ) (ks : List ℕ) → (nat_le least k && test k) ≡ false → (n : ℕ) → least ≤ n → is_listed (k ∷ ks) n ≡ is_listed ks n
  left_out k ks not_counted n from = (elim (nat_eq n k) as (λ b. nat_eq n k ≡ b → test n && (b || list_any (nat_eq n) ks) ≡ is_listed ks n) [
    | true ↦ λ is.
        let same : n ≡ k = (unsigned_Decides n k).0 is in
        let counted : nat_le least k ≡ true = grind (arith, nat_tests) in
        let fails : test k ≡ false = sym (ap (λ b. b && test k) counted) ∙ not_counted in
        rw (same, fails)
    | false ↦ λ _. refl
  ]) refl

  none : (b : Bool) → b && false ≡ false
  none true = refl
  none false = refl

  first_is_least : (ks : List ℕ) → IsStrictlySortedBy nat_cmp ks → IsLeastFrom (is_listed ks) least (find test (filter (λ n. nat_le least n) ks))
  first_is_least [] sorted = λ n from. none (test n)
  first_is_least (k ∷ ks) sorted =
      let rest = first_is_least ks (sorted_tail nat_cmp k ks sorted) in
      (elim (nat_le least k) as (λ b. nat_le least k ≡ b → IsLeastFrom (is_listed (k ∷ ks)) least (find test (cond b (k ∷ filter (λ n. nat_le least n) ks) (filter (λ n. nat_le least n) ks)))) [
        | false ↦ λ below. same_least (is_listed ks) (is_listed (k ∷ ks)) least (left_out k ks (ap (λ b. b && test k) below)) (find test (filter (λ n. nat_le least n) ks)) rest
        | true ↦ λ above. (elim (test k) as (λ b. test k ≡ b → IsLeastFrom (is_listed (k ∷ ks)) least (cond b (Some k) (find test (filter (λ n. nat_le least n) ks)))) [
          | false ↦ λ fails. same_least (is_listed ks) (is_listed (k ∷ ks)) least (left_out k ks (ap (λ b. b && test k) above ∙ fails)) (find test (filter (λ n. nat_le least n) ks)) rest
          | true ↦ λ passes. (
            grind (arith, nat_tests),
            rw (passes, nat_eq_equiv.refl k),
            λ n from before.
                let other : nat_eq n k ≡ false = grind (arith, nat_tests) in
                rw (other, none_below k n ks before (sorted_head nat_cmp k ks sorted)) (none (test n)),
          )
        ]) refl
      ]) refl

-- a set has the numbers that are listed in it
contains_listed : (n : ℕ) (ks : List ℕ) → list_any (is_at (nat_cmp n)) ks ≡ list_any (nat_eq n) ks
contains_listed n [] = refl
contains_listed n (y ∷ ys) = λ i. unsigned_tied n y i || contains_listed n ys i

in_range : (least n : ℕ) → range_contains nat_cmp (Bound.Included least) Bound.Unbounded n ≡ nat_le least n
in_range least n = grind (arith, nat_tests)

-- the least number of a set that passes, from a number on, where none outside the set does
least_in_set : (test : ℕ → Bool) (least : ℕ) (numbers : BTreeSet ℕ) → IsOrdered nat_cmp numbers → ((n : ℕ) → test n ≡ true → contains nat_cmp numbers n ≡ true)
    → IsLeastFrom test least (find test (keys_between nat_cmp (Bound.Included least) Bound.Unbounded numbers))
least_in_set test least numbers ordered inside = subst (IsLeastFrom test least) (ap (λ p. find test (filter p numbers.keys)) (λ i n. sym (in_range least n) i))
    (same_least (is_listed test least numbers.keys) test least
    (λ n from. (elim (test n) as (λ b. test n ≡ b → b ≡ b && list_any (nat_eq n) numbers.keys) [
      | true ↦ λ passes. sym (sym (contains_listed n numbers.keys) ∙ inside n passes)
      | false ↦ λ _. refl
    ]) refl)
    (find test (filter (λ n. nat_le least n) numbers.keys)) (first_is_least test least numbers.keys ordered))

-- what a walk through the numbers from one on finds
pub least_dirty : (pages : List (ℕ × Page)) (numbers : BTreeSet ℕ) (least : ℕ) → AreNumbers numbers pages → IsOrdered nat_cmp numbers
    → IsLeastFrom (is_dirty pages) least (find (is_dirty pages) (keys_between nat_cmp (Bound.Included least) Bound.Unbounded numbers))
least_dirty pages numbers least are ordered = least_in_set (is_dirty pages) least numbers ordered (λ n dirty. are.same n ∙ resident n dirty)
  where
    resident : (n : ℕ) → is_dirty pages n ≡ true → is_resident pages n ≡ true
    resident n = elim (page_at pages n) as (λ o. option_map_or (λ page. not (nat_eq page.dirty 0)) o false ≡ true → is_some o ≡ true) [ None ↦ λ never. cc | Some page ↦ λ _. refl ]
