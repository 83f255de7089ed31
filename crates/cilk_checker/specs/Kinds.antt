-- The rule of the least number that a call or spawn breaks.
use Rattle.std.specs.Prelude.{◌&&◌, ℕ, List, Option, Some, None, is_some, if◌then◌else◌}
use Rattle.cilk_tree.specs.declared.rule.Rule.{Rule}
use Rattle.cilk_tree.specs.declared.rule.Rule.TheVariants.{WrongArity, NoValue, SpawnInPlain, CallOfCilk, SpawnOfPlain}
use Rattle.cilk_tree.specs.declared.tree.Expr.{Expr}
use Rattle.cilk_tree.specs.declared.tree.Function.{Function}
use Rattle.cilk_tree.specs.Lawful.Rules.{is_function, takes_other, is_void, is_cilk, is_plain}
use Rattle.cilk_tree.specs.Lawful.Scope.{Meaning}

-- where each name stands for what it has to
abbrev pub call_kind : Meaning → Option (List ℕ) → List Expr → Option Rule
call_kind callee target arguments =
    if is_function (takes_other arguments) callee then Some WrongArity else
    if is_some target && is_function is_void callee then Some NoValue else
    if is_function is_cilk callee then Some CallOfCilk else None

-- the same of a spawn in this function
abbrev pub spawn_kind : Function → Meaning → Option (List ℕ) → List Expr → Option Rule
spawn_kind function callee target arguments =
    if is_function (takes_other arguments) callee then Some WrongArity else
    if is_some target && is_function is_void callee then Some NoValue else
    if is_plain function then Some SpawnInPlain else
    if is_function is_plain callee then Some SpawnOfPlain else None

-- of a function that takes and gives something else
abbrev pub shape_kind : Function → Option (List ℕ) → List Expr → Option Rule
shape_kind callee target arguments =
    if takes_other arguments callee then Some WrongArity else
    if is_some target && is_void callee then Some NoValue else None
