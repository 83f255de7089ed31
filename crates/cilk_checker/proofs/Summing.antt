-- The names of a statement, taken together, are judged like each of them.
use Rattle.std.specs.Prelude.{◌≡◌, ℕ, Bool, true, false, not, ◌||◌, List, [], ◌∷◌, ◌++◌, Option, Some, None}
use Rattle.std.proofs.Common.{refl, sym, ap, ◌∙◌, append_assoc}
use Rattle.std.proofs.lemmas.List.{append-nil}
use Rattle.std.specs.List.{cons_option, filter_map, list_any}
use Rattle.cilk_tree.specs.declared.tree.Function.{Function}
use Rattle.cilk_tree.specs.declared.tree.Program.{Program}
use Rattle.cilk_tree.specs.Lawful.Pending.{needed_local}
use Rattle.cilk_tree.specs.Lawful.Rules.{Need, NeedsVariable, NeedsArray, NeedsFunction, Use, is_wrong}
use Rattle.cilk_tree.specs.Lawful.Scope.{Local, first_meaning, local_named, is_array, function_named, meaning, is_known}
use Rattle.cilk_checker.specs.declared.uses.Uses.{Uses}
use Rattle.cilk_checker.specs.Seeing.{with_number, with_use, with_uses}

or_in_turn : (a b c : Bool) → (a || (b || c)) ≡ ((b || a) || c)
or_in_turn true true c = refl
or_in_turn true false c = refl
or_in_turn false true c = refl
or_in_turn false false c = refl

no_number : (array : Bool) (function : Option Function) (touched : List ℕ) → with_number NeedsVariable (first_meaning None array function) touched ≡ touched
no_number true function touched = refl
no_number false (Some function) touched = refl
no_number false None touched = refl

number_of : (number : Option ℕ) (array : Bool) (function : Option Function) (touched : List ℕ) (rest : List ℕ)
    → with_number NeedsVariable (first_meaning number array function) touched ++ rest ≡ touched ++ cons_option number rest
number_of None array function touched rest = ap (λ some. some ++ rest) (no_number array function touched)
number_of (Some number) array function touched rest = append_assoc touched (number ∷ []) rest

module _ (program : Program) (scope : List Local) where
  with_one_number : (need : Need) (name touched rest : List ℕ)
      → with_number need (meaning program scope name) touched ++ rest ≡ touched ++ cons_option (needed_local scope need name) rest
  with_one_number NeedsVariable name touched rest = number_of (local_named scope name) (is_array program name) (function_named program name) touched rest
  with_one_number NeedsArray name touched rest = refl
  with_one_number NeedsFunction name touched rest = refl

  pub sum_unknown : (sum : Uses) (used : List Use)
      → (with_uses (meaning program scope) sum used).unknown ≡ (list_any (λ one. not (is_known (meaning program scope one.name))) used || sum.unknown)
  sum_unknown sum [] = refl
  sum_unknown sum (one ∷ used) = sum_unknown (with_use one.need (meaning program scope one.name) sum) used ∙ or_in_turn (list_any (λ other. not (is_known (meaning program scope other.name))) used) (not (is_known (meaning program scope one.name))) sum.unknown

  pub sum_wrong : (sum : Uses) (used : List Use)
      → (with_uses (meaning program scope) sum used).wrong ≡ (list_any (λ one. is_wrong one.need (meaning program scope one.name)) used || sum.wrong)
  sum_wrong sum [] = refl
  sum_wrong sum (one ∷ used) = sum_wrong (with_use one.need (meaning program scope one.name) sum) used ∙ or_in_turn (list_any (λ other. is_wrong other.need (meaning program scope other.name)) used) (is_wrong one.need (meaning program scope one.name)) sum.wrong

  pub sum_touched : (sum : Uses) (used : List Use)
      → (with_uses (meaning program scope) sum used).touched ≡ sum.touched ++ filter_map (λ one. needed_local scope one.need one.name) used
  sum_touched sum [] = sym (append-nil sum.touched)
  sum_touched sum (one ∷ used) = sum_touched (with_use one.need (meaning program scope one.name) sum) used ∙ with_one_number one.need one.name sum.touched (filter_map (λ other. needed_local scope other.need other.name) used)
