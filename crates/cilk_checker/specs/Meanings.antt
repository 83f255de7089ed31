-- The meanings of names, as the checker keeps them.
use Rattle.std.specs.Prelude.{Bool, true, false, List, ℕ, [], Option, Some, None}
use Rattle.cilk_tree.specs.declared.tree.Function.{Function}
use Rattle.cilk_tree.specs.declared.tree.Shared.{Shared}
use Rattle.cilk_tree.specs.Lawful.Scope as scope
use Rattle.cilk_tree.specs.Lawful.Scope.{meaning}
use Rattle.cilk_checker.specs.declared.meaning.Meaning.{Meaning}
use Rattle.cilk_checker.specs.declared.meaning.Meaning.TheVariants.{Unknown, Variable, Array, Procedure}

-- what is meant, with the function itself for a reference to it
abbrev pub seen : Meaning → scope.Meaning
seen Unknown = scope.Unknown
seen (Variable number) = scope.Variable number
seen Array = scope.Array
seen (Procedure function) = scope.Procedure function.now

-- what an entry of a table of arrays and functions means
abbrev pub entry_meaning : Option Meaning → scope.Meaning
entry_meaning None = scope.Unknown
entry_meaning (Some found) = seen found

-- what a name stands for where there are these arrays and functions alone
abbrev pub global_meaning : List Shared → List Function → List ℕ → scope.Meaning
global_meaning arrays functions name = meaning (record { shared = arrays; functions = functions }) [] name

-- it is an array
abbrev pub means_array : scope.Meaning → Bool
means_array scope.Array = true
means_array scope.Unknown = false
means_array (scope.Variable number) = false
means_array (scope.Procedure function) = false
