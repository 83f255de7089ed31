-- Two lists in which each frame stands equally often are permutations of each other.
use Rattle.std.proofs.Common.{◌≡◌, suc, ◌+◌, ◌≤◌, List, [], ◌∷◌, ◌++◌, Bool, true, false, refl, sym, ap, subst, arith}
use Rattle.std.proofs.lemmas.List.Sorted.{IsPermutation-refl, IsPermutation-sym, IsPermutation-trans, IsPermutation-cons, IsPermutation-middle}
use Rattle.std.specs.List.Sorted.{IsPermutation}
use Rattle.page_messages.specs.declared.closure.FrameId.{FrameId}
use Rattle.cluster_rules.specs.Lives.{same_frame}
use Rattle.cluster_rules.proofs.Marks.{same_self, same_name}
use Rattle.run_history.proofs.Walk.{one, times, times_append}

-- where a frame stands in a list
pub record Split (frame : FrameId) (list : List FrameId) : Type 0 where
  pub front : List FrameId
  pub back : List FrameId
  pub is : list ≡ front ++ frame ∷ back

pub split_at : (frame : FrameId) (list : List FrameId) → 1 ≤ times frame list → Split frame list
split_at frame [] some = absurd (omega (arith, some))
split_at frame (first ∷ list) some = on (same_frame frame first) refl some (split_at frame list)
  where
    on : (b : Bool) → same_frame frame first ≡ b → 1 ≤ one b + times frame list → (1 ≤ times frame list → Split frame list) → Split frame (first ∷ list)
    on true is some rest = record { front = []; back = list; is = ap (λ it. it ∷ list) (sym (same_name frame first is)) }
    on false is some rest = let it = rest (omega (arith, some)) in record { front = first ∷ it.front; back = it.back; is = ap (λ list. first ∷ list) it.is }

pub times_self : (frame : FrameId) (list : List FrameId) → times frame (frame ∷ list) ≡ suc (times frame list)
times_self frame list = let same = ap one (same_self frame) in omega (arith, same)

pub permutation_of : (first second : List FrameId) → ((frame : FrameId) → times frame first ≡ times frame second) → IsPermutation first second
permutation_of [] [] same = IsPermutation-refl []
permutation_of [] (frame ∷ second) same = let none = same frame in let some = times_self frame second in absurd (omega (arith, none, some))
permutation_of (frame ∷ first) second same =
    let here = same frame in
    let some = times_self frame first in
    let it = split_at frame second (omega (arith, here, some)) in
    let rest : (other : FrameId) → times other first ≡ times other (it.front ++ it.back) = λ other. fewer other it.front it.back it.is in
    subst (λ list. IsPermutation (frame ∷ first) list) (sym it.is)
    (IsPermutation-trans (frame ∷ first) (frame ∷ (it.front ++ it.back)) (it.front ++ frame ∷ it.back)
    (IsPermutation-cons frame first (it.front ++ it.back) (permutation_of first (it.front ++ it.back) rest))
    (IsPermutation-sym (it.front ++ frame ∷ it.back) (frame ∷ (it.front ++ it.back)) (IsPermutation-middle it.front frame it.back)))
  where
    fewer : (other : FrameId) (front back : List FrameId) → second ≡ front ++ frame ∷ back → times other first ≡ times other (front ++ back)
    fewer other front back is =
        let all = same other in
        let split = ap (times other) is in
        let both = times_append other front (frame ∷ back) in
        let less = times_append other front back in
        omega (arith, all, split, both, less)
