-- The parameters and locals of a function that runs, by number.
use Rattle.std.specs.Prelude.{ℕ, ◌-◌, ℤ, pos, Option, Some, None, List, [], ◌∷◌, ◌++◌, replicate, slice_index_or, slice_set}
use Rattle.cilk_meaning.specs.Resolved.{Extent, Function}
use Rattle.cilk_meaning.specs.Wants.{Deposit}

abbrev pub Locals : Type 0
Locals = List ℤ

abbrev pub local_at : Locals → ℕ → ℤ
local_at locals local = slice_index_or locals local (pos 0)

-- a value goes to a target, where there is one
abbrev pub assigned : Option ℕ → ℤ → Locals → Locals
assigned None value locals = locals
assigned (Some local) value locals = slice_set locals local value

-- the values of children go to their targets, one after another
abbrev pub deposited : List Deposit → Locals → Locals
deposited [] locals = locals
deposited (first ∷ rest) locals = deposited rest (assigned first.0 first.1 locals)

-- at its start a function has its arguments, and each local is 0
abbrev pub first_locals : Function → List ℤ → Locals
first_locals function arguments = arguments ++ replicate (function.locals - function.params) (pos 0)

-- where an array of the program lies
abbrev pub extent_of : List Extent → ℕ → Extent
extent_of shared array = slice_index_or shared array (record { base = 0; words = 0 })
