-- The words of an array lie among all shared words.
use Rattle.std.proofs.Common.{◌≡◌, ℕ, zero, suc, ◌+◌, ◌<◌, ◌≤◌, List, [], ◌∷◌, length, get_or, refl, ap, arith}
use Rattle.machine_code.specs.declared.code.Extent.{Extent}
use Rattle.machine_code.specs.Valid.{extents, words_in, AreInOrder}

pub ends_within : (base : ℕ) (shared : List Extent) (k : ℕ) (extent : Extent) → AreInOrder base (extents shared) → k < length shared → extent ≡ get_or shared k extent →
    extent.base + extent.words ≤ base + words_in (extents shared)
ends_within base [] k extent order less e = absurd (omega (arith, less))
ends_within base (first ∷ rest) zero extent order less e =
    let a = ap (λ (x : Extent). x.base) e in
    let b = ap (λ (x : Extent). x.words) e in
    let c = order.0 in
    omega (arith, a, b, c)
ends_within base (first ∷ rest) (suc k) extent order less e =
    let h = ends_within (base + first.words) rest k extent order.1 (omega (arith, less)) e in
    omega (arith, h)

pub extents_length : (shared : List Extent) → length (extents shared) ≡ length shared
extents_length [] = refl
extents_length (first ∷ rest) = let h = extents_length rest in omega (arith, h)
