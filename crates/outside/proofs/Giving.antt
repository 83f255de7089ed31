-- What a call gives that gives as many bytes as there are and fit.
use Rattle.std.proofs.Common.{◌≡◌, ℕ, zero, suc, ◌-◌, ◌≤◌, ◌⊎◌, min, List, length, take, drop, refl, sym, ap, ◌∙◌, inl, inr, arith}
use Rattle.std.proofs.lemmas.List.{length-take}
use Rattle.outside.specs.Shelf.{GivesFrom}

at_end_or_full : (count room at size : ℕ) → count ≡ min room (size - at) → count ≡ 0 → (size ≤ at) ⊎ (room ≡ 0)
at_end_or_full count zero at size most none = inr refl
at_end_or_full count (suc room) at size most none = inl (omega arith)

stops : (count room at size : ℕ) → count ≡ min room (size - at) → (size ≤ at) ⊎ (room ≡ 0) → count ≡ 0
stops count room at size most (inl ended) = omega arith
stops count room at size most (inr full) = omega arith

pub GivesFrom-most : (text into after : List ℕ) (at count : ℕ) → count ≡ min (length into) (length text - at) → take count after ≡ take count (drop at text) → length after ≡ length into
    → GivesFrom text at (length into) (take count after)
GivesFrom-most text into after at count most given same =
    let long : length (take count after) ≡ count = omega (arith, length-take count after) in
    record {
      bytes = given ∙ ap (λ k. take k (drop at text)) (sym long);
      none = (λ none. at_end_or_full count (length into) at (length text) most (sym long ∙ ap length none), λ ended. ap (λ k. take k after) (stops count (length into) at (length text) most ended));
    }
