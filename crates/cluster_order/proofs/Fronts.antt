-- What has happened before a position, grown by what stands there.
use Rattle.std.proofs.Common.{◌≡◌, ◌≢◌, ℕ, suc, ◌<◌, ◌≤◌, [], ◌∷◌, Some, None, Bool, true, false, cond, eqb, length, refl, sym, ◌∙◌, ap, arith}
use Rattle.std.proofs.lemmas.Bool.Decides.{nat_tests}
use Rattle.std.specs.Prelude.{leb}
use Rattle.cluster_rules.specs.Positions.{Moved, Course, at, before}
use Rattle.cluster_order.specs.Standing.{first}
use Rattle.cluster_order.proofs.Growing.{within}

pub first_all : (position : ℕ) (course : Course) → length course ≤ position → first position course ≡ course
first_all position [] less = refl
first_all position (moved ∷ course) less = let not : leb position (length course) ≡ false = grind (arith, nat_tests) in rw not refl

pub first_none : (course : Course) → first 0 course ≡ []
first_none [] = refl
first_none (moved ∷ course) = let is : leb 0 (length course) ≡ true = grind (arith, nat_tests) in rw is (first_none course)

-- up to a position where something stands
pub first_before : (position : ℕ) (course : Course) → position < length course → first position course ≡ before course position
first_before position [] less = absurd (omega (arith, less))
first_before position (moved ∷ course) less = on (eqb position (length course)) refl (first_before position course)
  where
    is : leb position (length course) ≡ true
    is = grind (arith, nat_tests)

    on : (b : Bool) → eqb position (length course) ≡ b → (position < length course → first position course ≡ before course position)
        → first position (moved ∷ course) ≡ cond b course (before course position)
    on true same rest = let equal : position ≡ length course = grind (arith, nat_tests) in rw is (first_all position course (omega (arith, equal)))
    on false other rest = let smaller : position < length course = grind (arith, nat_tests) in rw is (rest smaller)

-- and with that
pub first_next : (position : ℕ) (course : Course) (moved : Moved) → at course position ≡ Some moved
    → first (suc position) course ≡ moved ∷ before course position
first_next position [] moved found = absurd (cc)
first_next position (latest ∷ course) moved found = on (eqb position (length course)) refl found (first_next position course moved)
  where
    on : (b : Bool) → eqb position (length course) ≡ b → cond b (Some latest) (at course position) ≡ Some moved
        → (at course position ≡ Some moved → first (suc position) course ≡ moved ∷ before course position)
        → first (suc position) (latest ∷ course) ≡ moved ∷ cond b course (before course position)
    on true same here rest =
        let not : leb (suc position) (length course) ≡ false = grind (arith, nat_tests) in
        let is : latest ≡ moved = cc in
        rw not (ap (λ it. it ∷ course) is)
    on false other here rest =
        let less = within course position moved here in
        let is : leb (suc position) (length course) ≡ true = grind (arith, nat_tests) in
        rw is (rest here)

pub nothing_past : (position : ℕ) (course : Course) → at course position ≡ None → length course ≤ position
nothing_past position [] none = omega (arith)
nothing_past position (latest ∷ course) none = on (eqb position (length course)) refl none (nothing_past position course)
  where
    on : (b : Bool) → eqb position (length course) ≡ b → cond b (Some latest) (at course position) ≡ None
        → (at course position ≡ None → length course ≤ position)
        → length (latest ∷ course) ≤ position
    on true same here rest = absurd (cc)
    on false other here rest = let less = rest here in let not : length course ≢ position = λ is. grind (arith, nat_tests) in omega (arith, less, not)

-- where nothing stands, nothing comes to it
pub first_same : (position : ℕ) (course : Course) → at course position ≡ None → first (suc position) course ≡ first position course
first_same position course none =
    let less = nothing_past position course none in
    first_all (suc position) course (omega (arith, less)) ∙ sym (first_all position course less)

pub first_at : (position : ℕ) (course : Course) (moved : Moved) → at course position ≡ Some moved → first position course ≡ before course position
first_at position course moved found = first_before position course (within course position moved found)
