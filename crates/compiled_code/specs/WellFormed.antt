-- Programs without names whose numbers are in range, as those of lawful sources are.
use Rattle.std.specs.Prelude.{◌≡◌, ℕ, ◌<◌, ◌≤◌, Bool, true, false, Option, Some, None, List, [], ◌∷◌, length, slice_get}
use Rattle.cilk_meaning.specs.Resolved as tree
use Rattle.cilk_meaning.specs.Resolved.{Expr, Stmt, Function, Program}
use Rattle.machine_code.specs.Valid.{AreInOrder}

-- where there are so many arrays and locals
abbrev pub IsExprInRange : ℕ → ℕ → Expr → Type 0
IsExprInRange arrays locals (tree.Number value) = Unit {0}
IsExprInRange arrays locals (tree.Local local) = local < locals
IsExprInRange arrays locals (tree.Get array index) = (array < arrays) × IsExprInRange arrays locals index
IsExprInRange arrays locals (tree.Unary operator operand) = IsExprInRange arrays locals operand
IsExprInRange arrays locals (tree.Binary operator left right) = IsExprInRange arrays locals left × IsExprInRange arrays locals right

abbrev pub AreExprsInRange : ℕ → ℕ → List Expr → Type 0
AreExprsInRange arrays locals [] = Unit {0}
AreExprsInRange arrays locals (first ∷ rest) = IsExprInRange arrays locals first × AreExprsInRange arrays locals rest

abbrev pub IsTargetInRange : ℕ → Option ℕ → Type 0
IsTargetInRange locals None = Unit {0}
IsTargetInRange locals (Some local) = local < locals

-- There is this function, of this kind, with as many parameters as there are arguments.
pub record Suits (program : Program) (number : ℕ) (kind : Bool) (arguments : List Expr) : Type 0 where
  pub function : Function
  pub is : slice_get program.functions number ≡ Some function
  pub kind_is : function.«cilk» ≡ kind
  pub params : length arguments ≡ function.params

-- The statement, in a function that has so many locals and is a `cilk` procedure or not, names what there is, calls plain functions and
-- spawns `cilk` procedures, with as many arguments as they have parameters; it spawns and syncs in a `cilk` procedure alone.
abbrev pub IsStmtInRange : Program → Bool → ℕ → Stmt → Type 0
IsStmtInRange program «cilk» locals tree.Skip = Unit {0}
IsStmtInRange program «cilk» locals (tree.Then first second) = IsStmtInRange program «cilk» locals first × IsStmtInRange program «cilk» locals second
IsStmtInRange program «cilk» locals (tree.Assign local value) = (local < locals) × IsExprInRange (length program.shared) locals value
IsStmtInRange program «cilk» locals (tree.Put array index value) =
    (array < length program.shared) × IsExprInRange (length program.shared) locals index × IsExprInRange (length program.shared) locals value
IsStmtInRange program «cilk» locals (tree.Print value) = IsExprInRange (length program.shared) locals value
IsStmtInRange program «cilk» locals (tree.If condition met unmet) =
    IsExprInRange (length program.shared) locals condition × IsStmtInRange program «cilk» locals met × IsStmtInRange program «cilk» locals unmet
IsStmtInRange program «cilk» locals (tree.While condition body) = IsExprInRange (length program.shared) locals condition × IsStmtInRange program «cilk» locals body
IsStmtInRange program «cilk» locals (tree.Call target function arguments) =
    Suits program function false arguments × IsTargetInRange locals target × AreExprsInRange (length program.shared) locals arguments
IsStmtInRange program «cilk» locals (tree.Spawn target procedure arguments) =
    Suits program procedure true arguments × IsTargetInRange locals target × AreExprsInRange (length program.shared) locals arguments × («cilk» ≡ true)
IsStmtInRange program «cilk» locals (tree.Add target array index addend) =
    (array < length program.shared) × IsTargetInRange locals target × IsExprInRange (length program.shared) locals index × IsExprInRange (length program.shared) locals addend
IsStmtInRange program «cilk» locals tree.Sync = «cilk» ≡ true
IsStmtInRange program «cilk» locals (tree.Return value) = IsExprInRange (length program.shared) locals value

-- A function in range has its parameters among its locals.
pub record IsInRange (program : Program) (function : Function) : Type 0 where
  pub params : function.params ≤ function.locals
  pub body : IsStmtInRange program function.«cilk» function.locals function.body

-- A program in range: each of its functions is, its `main` takes no arguments, and its arrays lie one behind another from word 0 on.
pub record IsWellFormed (program : Program) : Type 0 where
  pub functions : (number : ℕ) (function : Function) → slice_get program.functions number ≡ Some function → IsInRange program function
  pub main : (function : Function) × (slice_get program.functions program.main ≡ Some function) × (function.params ≡ 0)
  pub arrays : AreInOrder 0 program.shared
