-- The words of arrays that lie one behind another.
use Rattle.std.proofs.Common.{◌≡◌, ℕ, zero, suc, ◌+◌, ◌-◌, List, [], ◌∷◌, length, Some, refl, sym, ap, ◌∙◌, arith}
use Rattle.std.specs.Prelude.{slice_get}
use Rattle.machine_code.specs.declared.code.Extent.{Extent}
use Rattle.machine_code.specs.Valid.{extents, words_in, AreInOrder}

-- the last of them ends where all of them do
pub last_ends : (base : ℕ) (shared : List Extent) (k : ℕ) (last : Extent) → AreInOrder base (extents shared) → suc k ≡ length shared → slice_get shared k ≡ Some last →
    last.base + last.words ≡ base + words_in (extents shared)
last_ends base [] k last order n e = absurd cc
last_ends base (first ∷ []) zero last order n e =
    let same : first ≡ last = cc in
    let a = ap (λ (x : Extent). x.base) same in
    let b = ap (λ (x : Extent). x.words) same in
    let c = order.0 in
    omega (arith, a, b, c)
last_ends base (first ∷ []) (suc k) last order n e = absurd (omega (arith, n))
last_ends base (first ∷ second ∷ rest) zero last order n e = absurd (omega (arith, n))
last_ends base (first ∷ second ∷ rest) (suc k) last order n e =
    let h = last_ends (base + first.words) (second ∷ rest) k last order.1 (omega (arith, n)) e in
    omega (arith, h)

pub last_ends_all : (shared : List Extent) (last : Extent) → AreInOrder 0 (extents shared) → Some last ≡ slice_get shared (length shared - 1) → last.base + last.words ≡ words_in (extents shared)
last_ends_all [] last order e = absurd cc
last_ends_all (first ∷ rest) last order e =
    let k : length (first ∷ rest) - 1 ≡ length rest = omega arith in
    last_ends 0 (first ∷ rest) (length rest) last order refl (sym (e ∙ ap (λ n. slice_get (first ∷ rest) n) k)) ∙ omega arith
