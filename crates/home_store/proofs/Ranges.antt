-- Lists made from a function of the index, and the whole of a list.
use Rattle.std.proofs.Common.{◌≡◌, ℕ, ◌+◌, ◌<◌, ◌≤◌, take, List, [], ◌∷◌, zero, suc, length, map, get_or, refl, ap, ◌∙◌, arith}
use Rattle.std.proofs.Math.Seq.{take-nil}
use Rattle.std.specs.List.{range_with_len}

pub fill_from : {X : Type 0} (f : ℕ → X) (xs : List X) (a n : ℕ) (d : X) → length xs ≡ n → ((k : ℕ) → k < n → get_or xs k d ≡ f (a + k)) → xs ≡ map f (range_with_len a n)
fill_from {X} f [] a zero d e each = refl
fill_from {X} f [] a (suc n) d e each = absurd cc
fill_from {X} f (x ∷ xs) a zero d e each = absurd cc
fill_from {X} f (x ∷ xs) a (suc n) d e each =
    let here : x ≡ f a = each 0 (omega arith) ∙ ap f (omega arith) in
    let rest : xs ≡ map f (range_with_len (a + 1) n) = fill_from f xs (a + 1) n d (cc) (λ k below. each (suc k) (omega arith) ∙ ap f (omega arith)) in
    cc

-- as many items as there are, or more
pub take_all : {A : Type 0} (count : ℕ) (items : List A) → length items ≤ count → take count items ≡ items
take_all count [] past = take-nil count
take_all zero (x ∷ items) past = absurd (omega arith)
take_all (suc count) (x ∷ items) past = ap (λ rest. x ∷ rest) (take_all count items (omega arith))
