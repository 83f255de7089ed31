-- The refusal that is due, from what is found in turn.
use Rattle.std.specs.Prelude.{◌≡◌, ◌≤◌, true, false, List, [], ◌∷◌, ◌++◌, Option, Some, None, length, sum_by}
use Rattle.std.proofs.Common.{sym, ap, subst, ◌∙◌, inr, arith}
use Rattle.std.proofs.lemmas.List.Sums.{sum_by-append}
use Rattle.std.specs.Option.{option_map, option_or}
use Rattle.cilk_tree.specs.declared.place.CheckPlace.{CheckPlace}
use Rattle.cilk_tree.specs.declared.place.CheckPlace.TheVariants.{Whole}
use Rattle.cilk_tree.specs.declared.rule.Rule.TheVariants.{NoMain}
use Rattle.cilk_tree.specs.declared.tree.Function.{Function}
use Rattle.cilk_tree.specs.declared.tree.Program.{Program}
use Rattle.cilk_tree.specs.Lawful.Rules.{kind_if, kinds_at, lacks_main}
use Rattle.cilk_tree.specs.Size.{function_size}
use Rattle.cilk_checker.specs.declared.refusal.CheckRefusal.{CheckRefusal}
use Rattle.cilk_checker.specs.declared.refusal.CheckRefusal.TheVariants.{At}
use Rattle.cilk_checker.specs.Judged.{due, first_refusal, first_use, judged_arrays, judged_functions, judged_program, refusal_at, Tells}
use Rattle.cilk_checker.proofs.FunctionTurns.{tells_more}
use Rattle.cilk_checker.proofs.Passing.{first_of_both}

-- there are no more functions than their sizes together
pub few_functions : (functions : List Function) → length functions ≤ sum_by function_size functions
few_functions [] = omega arith
few_functions (function ∷ functions) = let rest = few_functions functions in omega (arith, rest, sum_by-append function_size (function ∷ []) functions)

module _ (program : Program) where
  abbrev pub of_arrays : Option CheckRefusal
  of_arrays = first_refusal (judged_arrays program 0 program.shared)

  abbrev pub of_functions : Option CheckRefusal
  of_functions = first_refusal (judged_functions program 0 program.functions)

  abbrev pub of_whole : Option CheckRefusal
  of_whole = option_or (refusal_at Whole (kinds_at program Whole)) None

  abbrev pub of_uses : Option CheckRefusal
  of_uses = option_map (At 209) (first_use 0 program.functions)

  pub rules_are : first_refusal (judged_program program) ≡ option_or (option_or of_arrays of_functions) of_whole
  rules_are = first_of_both (judged_arrays program 0 program.shared ++ judged_functions program 0 program.functions) _ ∙ ap (λ first. option_or first of_whole) (first_of_both (judged_arrays program 0 program.shared) (judged_functions program 0 program.functions))

  due_is : due program ≡ option_or (option_or (option_or of_arrays of_functions) of_whole) of_uses
  due_is = ap (λ first. option_or first of_uses) rules_are

  told : (found : Option CheckRefusal) (refusal : CheckRefusal) → due program ≡ found → Tells found refusal → Tells (due program) refusal
  told found refusal e t = subst (λ some. Tells some refusal) (sym e) t

  pub arrays_tell : (refusal : CheckRefusal) → Tells of_arrays refusal → Tells (due program) refusal
  arrays_tell refusal t = told _ refusal due_is (tells_more _ of_uses refusal (tells_more _ of_whole refusal (tells_more of_arrays of_functions refusal t)))

  module _ (arrays : of_arrays ≡ None) where
    functions_are : due program ≡ option_or (option_or of_functions of_whole) of_uses
    functions_are = due_is ∙ ap (λ first. option_or (option_or (option_or first of_functions) of_whole) of_uses) arrays

    pub functions_tell : (refusal : CheckRefusal) → Tells of_functions refusal → Tells (due program) refusal
    functions_tell refusal t = told _ refusal functions_are (tells_more _ of_uses refusal (tells_more of_functions of_whole refusal t))

    module _ (functions : of_functions ≡ None) where
      whole_is : due program ≡ option_or of_whole of_uses
      whole_is = functions_are ∙ ap (λ first. option_or (option_or first of_whole) of_uses) functions

      pub whole_tells : lacks_main program ≡ true → Tells (due program) (At 210 Whole)
      whole_tells e = inr (whole_is ∙ ap (λ b. option_or (option_or (refusal_at Whole (kind_if b NoMain)) None) of_uses) e)

      uses_are : lacks_main program ≡ false → due program ≡ of_uses
      uses_are e = whole_is ∙ ap (λ b. option_or (option_or (refusal_at Whole (kind_if b NoMain)) None) of_uses) e

      pub use_tells : lacks_main program ≡ false → (place : CheckPlace) → first_use 0 program.functions ≡ Some place → Tells (due program) (At 209 place)
      use_tells e place used = inr (uses_are e ∙ ap (option_map (At 209)) used)

      pub nothing_due : lacks_main program ≡ false → first_use 0 program.functions ≡ None → due program ≡ None
      nothing_due e unused = uses_are e ∙ ap (option_map (At 209)) unused
