-- What tests on numbers tell, and two tests at once.
use Rattle.std.proofs.Common.{◌≡◌, ◌≢◌, ℕ, Bool, true, false, ◌&&◌, ◌||◌, eqb, refl, arith}
use Rattle.std.proofs.lemmas.Bool.Decides.{nat_tests}

pub own_number : (number : ℕ) → eqb number number ≡ true
own_number number = grind (arith, nat_tests)

pub other_number : (number other : ℕ) → number ≢ other → eqb number other ≡ false
other_number number other not = grind (arith, nat_tests)

pub both_true : (first second : Bool) → first && second ≡ true → (first ≡ true) × (second ≡ true)
both_true true second both = (refl, both)
both_true false second both = absurd (cc)

pub neither : (first second : Bool) → first || second ≡ false → (first ≡ false) × (second ≡ false)
neither true second none = absurd (cc)
neither false second none = (refl, none)
