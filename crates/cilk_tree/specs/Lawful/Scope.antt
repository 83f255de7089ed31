-- What is in scope at a statement, and what a name stands for there.
use Rattle.std.specs.Prelude.{ℕ, ◌+◌, Bool, true, false, List, [], ◌∷◌, Option, Some, None}
use Rattle.std.specs.List.{find, fold, list_any}
use Rattle.std.specs.Option.{option_map}
use Rattle.std.specs.Str.{bytes_eq}
use Rattle.cilk_tree.specs.declared.tree.Function.{Function}
use Rattle.cilk_tree.specs.declared.tree.Program.{Program}

-- A parameter or local of a function: its name, and its number. The parameters are numbered first, then each Declare in
-- preorder, so that two declarations are two locals, whatever their names.
pub record Local : Type 0 where
  pub name : List ℕ
  pub number : ℕ

-- A point between the statements of a function: the number of the next statement, the number that the next declared
-- local gets, and the parameters and locals in scope, the latest first.
pub record Point : Type 0 where
  pub statement : ℕ
  pub local : ℕ
  pub scope : List Local

-- the point after a declaration of this name
abbrev pub declared : Point → List ℕ → Point
declared point name = record { statement = point.statement; local = point.local + 1; scope = record { name = name; number = point.local } ∷ point.scope }

-- the point before the first statement of a function: the parameters are in scope
abbrev pub entry : Function → Point
entry function = fold declared (record { statement = 0; local = 0; scope = [] }) function.params

-- the number of the parameter or local that a name stands for: the latest declaration in scope
abbrev pub local_named : List Local → List ℕ → Option ℕ
local_named scope name = option_map (λ local. local.number) (find (λ local. bytes_eq local.name name) scope)

-- whether an array has this name
abbrev pub is_array : Program → List ℕ → Bool
is_array program name = list_any (λ array. bytes_eq array.name name) program.shared

-- the first function of this name
abbrev pub function_named : Program → List ℕ → Option Function
function_named program name = find (λ function. bytes_eq function.name name) program.functions

-- What a name may stand for: nothing, a parameter or local by its number, an array, or a function.
pub data Meaning : Type 0 where
  Unknown : Meaning
  Variable : (number : ℕ) → Meaning
  Array : Meaning
  Procedure : (function : Function) → Meaning

-- a parameter or local in scope comes first, then an array, then a function
abbrev pub first_meaning : Option ℕ → Bool → Option Function → Meaning
first_meaning (Some number) array function = Variable number
first_meaning None true function = Array
first_meaning None false (Some function) = Procedure function
first_meaning None false None = Unknown

-- What a name stands for where these parameters and locals are in scope. Arrays and functions are in scope everywhere;
-- where some share a name, it stands for the first of them, arrays before functions.
abbrev pub meaning : Program → List Local → List ℕ → Meaning
meaning program scope name = first_meaning (local_named scope name) (is_array program name) (function_named program name)

-- it stands for something
abbrev pub is_known : Meaning → Bool
is_known Unknown = false
is_known _ = true

-- whether an array or a function has this name
abbrev pub is_global : Program → List ℕ → Bool
is_global program name = is_known (meaning program [] name)
