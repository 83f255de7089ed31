-- One function after another.
use Rattle.std.specs.Prelude.{◌≡◌, ℕ, ◌+◌, List, ◌∷◌, Option, Some, None, slice_get}
use Rattle.std.proofs.Common.{refl, sym, ap, ◌∙◌, inl, inr}
use Rattle.std.specs.Option.{option_map, option_or}
use Rattle.cilk_tree.specs.declared.place.CheckPlace.{CheckPlace}
use Rattle.cilk_tree.specs.declared.place.CheckPlace.TheVariants.{Statement}
use Rattle.cilk_tree.specs.declared.tree.Function.{Function}
use Rattle.cilk_tree.specs.declared.tree.Program.{Program}
use Rattle.cilk_tree.specs.Lawful.Flow.{flow_of}
use Rattle.cilk_tree.specs.Lawful.Pending.{none}
use Rattle.cilk_checker.specs.Computed.{uses_pending}
use Rattle.cilk_checker.specs.declared.refusal.CheckRefusal.{CheckRefusal}
use Rattle.cilk_checker.specs.Judged.{first_refusal, first_use, judged_function, judged_functions, Tells}
use Rattle.cilk_checker.proofs.Passing.{first_of_both}

-- a refusal of the first places is one of all
pub tells_more : (first second : Option CheckRefusal) (refusal : CheckRefusal) → Tells first refusal → Tells (option_or first second) refusal
tells_more first second refusal (inl memory) = inl memory
tells_more first second refusal (inr found) = inr (ap (λ due. option_or due second) found)

earlier_of_three : (a b c : Option CheckPlace) → option_or (option_or a b) c ≡ option_or a (option_or b c)
earlier_of_three (Some a) b c = refl
earlier_of_three None b c = refl

module _ (program : Program) (number : ℕ) (function : Function) (left rest : List Function) (split : left ≡ function ∷ rest) where
  functions_split : first_refusal (judged_functions program number left) ≡ option_or (first_refusal (judged_function program number function)) (first_refusal (judged_functions program (number + 1) rest))
  functions_split = ap (λ functions. first_refusal (judged_functions program number functions)) split ∙ first_of_both (judged_function program number function) (judged_functions program (number + 1) rest)

  pub function_stops : (refusal : CheckRefusal) → Tells (first_refusal (judged_function program number function)) refusal → Tells (first_refusal (judged_functions program number left)) refusal
  function_stops refusal told = stops (tells_more (first_refusal (judged_function program number function)) (first_refusal (judged_functions program (number + 1) rest)) refusal told)
    where
      stops : Tells (option_or (first_refusal (judged_function program number function)) (first_refusal (judged_functions program (number + 1) rest))) refusal → Tells (first_refusal (judged_functions program number left)) refusal
      stops (inl memory) = inl memory
      stops (inr found) = inr (functions_split ∙ found)

  pub function_passes : first_refusal (judged_function program number function) ≡ None → first_refusal (judged_functions program number left) ≡ first_refusal (judged_functions program (number + 1) rest)
  function_passes passes = functions_split ∙ ap (λ due. option_or due (first_refusal (judged_functions program (number + 1) rest))) passes

  pub use_found : (first : Option CheckPlace) (found : Option ℕ) → found ≡ slice_get (uses_pending (flow_of function) none) 0
      → option_or (option_or first (option_map (Statement number) found)) (first_use (number + 1) rest) ≡ option_or first (first_use number left)
  use_found first found is =
      earlier_of_three first (option_map (Statement number) found) (first_use (number + 1) rest)
      ∙ ap (λ some. option_or first (option_or (option_map (Statement number) some) (first_use (number + 1) rest))) is
      ∙ ap (λ functions. option_or first (first_use number functions)) (sym split)
