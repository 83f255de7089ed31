-- The first of several uses.
use Rattle.std.specs.Prelude.{◌≡◌, ℕ, true, false, List, [], ◌∷◌, ◌++◌, Option, Some, None, is_some, slice_get}
use Rattle.std.proofs.Common.{refl, sym, ap, ◌∙◌}
use Rattle.std.proofs.lemmas.Bool.{false≢true}
use Rattle.cilk_tree.specs.Lawful.Pending.{Pending}
use Rattle.cilk_checker.specs.Courses.{Course, either, followed}

pub is_none : (found : Option ℕ) → is_some found ≡ false → found ≡ None
is_none None e = refl
is_none (Some n) e = absurd (false≢true (sym e))

-- what is found in the first list is the first of both
pub first_some : (xs ys : List ℕ) (found : Option ℕ) → is_some found ≡ true → found ≡ slice_get xs 0 → found ≡ slice_get (xs ++ ys) 0
first_some [] ys found some e = absurd (false≢true (ap is_some (sym e) ∙ some))
first_some (x ∷ xs) ys found some e = e

-- where nothing is in the first list, it is the first of the second
pub first_none : (xs ys : List ℕ) → slice_get xs 0 ≡ None → slice_get (xs ++ ys) 0 ≡ slice_get ys 0
first_none [] ys e = refl
first_none (x ∷ xs) ys e = cc

module _ (step met unmet : Course) (before now : Pending) (found : Option ℕ) (passed : slice_get (step.uses before) 0 ≡ None) (here : now ≡ step.ends before) where
  pub found_in_met : is_some found ≡ true → found ≡ slice_get (met.uses now) 0 → found ≡ slice_get ((followed step (either met unmet)).uses before) 0
  found_in_met some e =
      first_some (met.uses now) (unmet.uses now) found some e
      ∙ ap (λ set. slice_get (met.uses set ++ unmet.uses set) 0) here
      ∙ sym (first_none (step.uses before) (met.uses (step.ends before) ++ unmet.uses (step.ends before)) passed)

  pub found_in_unmet : slice_get (met.uses now) 0 ≡ None → found ≡ slice_get (unmet.uses now) 0 → found ≡ slice_get ((followed step (either met unmet)).uses before) 0
  found_in_unmet none e =
      e ∙ sym (first_none (met.uses now) (unmet.uses now) none)
      ∙ ap (λ set. slice_get (met.uses set ++ unmet.uses set) 0) here
      ∙ sym (first_none (step.uses before) (met.uses (step.ends before) ++ unmet.uses (step.ends before)) passed)
