-- Merging word by word: what the first words have come to, and one word more.
use Rattle.std.proofs.Common.{◌≡◌, ◌≢◌, ℕ, ℤ, ◌+◌, ◌<◌, ◌≤◌, ◌^◌, true, false, List, [], ◌∷◌, zero, suc, Some, length, slice_get, nat_eq, nat_le, refl, sym, ◌∙◌, ap, subst, arith}
use Rattle.std.proofs.Math.ListN.{set, length-set}
use Rattle.std.specs.Int.{IsBitSet}
use Rattle.std.proofs.lemmas.Nat.Bits.{and_pow, bit_at_above}
use Rattle.std.proofs.lemmas.Option.{slice_get-get_or}
use Rattle.std.proofs.lemmas.List.{get_or-set_same}
use Rattle.page_words.specs.Page.{IsMerged}

pub slice_get-set_same : {X : Type 0} (xs : List X) (k : ℕ) (w : X) → k < length xs → slice_get (set xs k w) k ≡ Some w
slice_get-set_same xs k w h = slice_get-get_or (set xs k w) k w (rw length-set h) ∙ ap Some (get_or-set_same xs k w w h)

pub slice_get-set_other : {X : Type 0} (xs : List X) (k j : ℕ) (w : X) → j ≢ k → slice_get (set xs k w) j ≡ slice_get xs j
slice_get-set_other [] k j w h = refl
slice_get-set_other (x ∷ xs) zero zero w h = absurd (h refl)
slice_get-set_other (x ∷ xs) zero (suc j) w h = refl
slice_get-set_other (x ∷ xs) (suc k) zero w h = refl
slice_get-set_other (x ∷ xs) (suc k) (suc j) w h = slice_get-set_other xs k j w (λ e. h (ap suc e))

-- a mask of few bits has none at or above their number
pub bit_within : (mask n k : ℕ) → mask < 2 ^ n → IsBitSet mask k → k < n
bit_within mask n k few set_bit = (elim (nat_le n k) as (λ b. nat_le n k ≡ b → k < n) [
  | true ↦ λ e. absurd (set_bit (and_pow mask k ∙ rw (bit_at_above mask n k few (grind arith)) (omega arith)))
  | false ↦ λ e. grind arith
]) refl

-- the words below n are merged, and the others are the old ones
pub record IsMergedBelow (n mask : ℕ) (given old new : List ℤ) : Type 0 where
  pub places : length new ≡ length old
  pub marked : (k : ℕ) → k < n → IsBitSet mask k → slice_get new k ≡ slice_get given k
  pub others : (k : ℕ) → (IsBitSet mask k → n ≤ k) → slice_get new k ≡ slice_get old k

module _ (mask : ℕ) (given old : List ℤ) where
  pub none_merged : IsMergedBelow 0 mask given old old
  none_merged = record { places = refl; marked = λ k below. absurd (omega arith); others = λ k _. refl }

  module _ (n : ℕ) (new : List ℤ) (before : IsMergedBelow n mask given old new) where
    pub one_more_marked : (w : ℤ) → n < length old → slice_get given n ≡ Some w → IsBitSet mask n → IsMergedBelow (n + 1) mask given old (set new n w)
    one_more_marked w within is bit = record {
      places = length-set new n w ∙ before.places;
      marked = λ k below at_k. (elim (nat_eq k n) as (λ b. nat_eq k n ≡ b → slice_get (set new n w) k ≡ slice_get given k) [
        | true ↦ λ e. let same : k ≡ n = grind arith in rw same (slice_get-set_same new n w (omega (arith, before.places)) ∙ sym is)
        | false ↦ λ e. let other : k ≢ n = grind arith in slice_get-set_other new n k w other ∙ before.marked k (omega arith) at_k
      ]) refl;
      others = λ k after. let other : k ≢ n = λ e. let here : n + 1 ≤ k = after (subst (IsBitSet mask) (sym e) bit) in omega arith in
          slice_get-set_other new n k w other ∙ before.others k (λ at_k. let here = after at_k in omega arith);
    }

    pub one_more_left : (IsBitSet mask n → ⊥) → IsMergedBelow (n + 1) mask given old new
    one_more_left unmarked = record {
      places = before.places;
      marked = λ k below at_k. let other : k ≢ n = λ e. unmarked (subst (IsBitSet mask) e at_k) in before.marked k (omega arith) at_k;
      others = λ k after. before.others k (λ at_k. let here = after at_k in omega arith);
    }

    pub all_merged : n ≡ length given → mask < 2 ^ length given → IsMerged mask given old new
    all_merged whole few = record {
      places = before.places;
      marked = λ k at_k. let within = bit_within mask (length given) k few at_k in before.marked k (omega arith) at_k;
      others = λ k unmarked. before.others k (λ at_k. absurd (unmarked at_k));
    }
