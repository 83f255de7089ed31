-- The least rule that a spawn breaks is the first of those that are judged of it.
use Rattle.std.specs.Prelude.{◌≡◌, ℕ, ◌&&◌, Bool, true, false, List, ◌++◌, Option, Some, None, is_some, option_map, slice_get, if◌then◌else◌}
use Rattle.std.proofs.Common.{refl}
use Rattle.cilk_tree.specs.declared.rule.Rule.TheVariants.{WrongArity, NoValue, SpawnInPlain, CallOfCilk, SpawnOfPlain}
use Rattle.cilk_tree.specs.declared.tree.Expr.{Expr}
use Rattle.cilk_tree.specs.declared.tree.Function.{Function}
use Rattle.cilk_tree.specs.Rule.{rule_number}
use Rattle.cilk_tree.specs.Lawful.Rules.{is_function, takes_other, is_void, is_plain, kind_if}
use Rattle.cilk_tree.specs.Lawful.Scope.{Meaning}
use Rattle.cilk_checker.specs.Kinds.{spawn_kind}

first_of_four : (arity value place kind : Bool)
    → option_map rule_number (if arity then Some WrongArity else if value then Some NoValue else if place then Some SpawnInPlain else if kind then Some SpawnOfPlain else None)
    ≡ slice_get (kind_if arity WrongArity ++ kind_if value NoValue ++ kind_if place SpawnInPlain ++ kind_if false CallOfCilk ++ kind_if kind SpawnOfPlain) 0
first_of_four true value place kind = refl
first_of_four false true place kind = refl
first_of_four false false true kind = refl
first_of_four false false false true = refl
first_of_four false false false false = refl

pub spawn_first : (function : Function) (callee : Meaning) (target : Option (List ℕ)) (arguments : List Expr)
    → option_map rule_number (spawn_kind function callee target arguments)
    ≡ slice_get (kind_if (is_function (takes_other arguments) callee) WrongArity ++ kind_if (is_some target && is_function is_void callee) NoValue ++ kind_if (is_plain function) SpawnInPlain ++ kind_if false CallOfCilk ++ kind_if (is_function is_plain callee) SpawnOfPlain) 0
spawn_first function callee target arguments = first_of_four (is_function (takes_other arguments) callee) (is_some target && is_function is_void callee) (is_plain function) (is_function is_plain callee)
