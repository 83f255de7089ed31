-- The order of the places of a program.
use Rattle.std.specs.Prelude.{ℕ, ◌+◌, Bool, ◌&&◌, ◌||◌, ◌==◌, nat_lt}
use Rattle.cilk_tree.specs.declared.place.CheckPlace.{CheckPlace}
use Rattle.cilk_tree.specs.declared.place.CheckPlace.TheVariants.{Shared, Function, Statement, Whole}

-- what is compared first: arrays, functions with their statements, the whole
abbrev pub group : CheckPlace → ℕ
group (Shared array) = 0
group (Function function) = 1
group (Statement function statement) = 1
group Whole = 2

-- what is compared next: the number of the array or function
abbrev pub owner : CheckPlace → ℕ
owner (Shared array) = array
owner (Function function) = function
owner (Statement function statement) = function
owner Whole = 0

-- what is compared last: a function before its statements, and these by number
abbrev pub within : CheckPlace → ℕ
within (Shared array) = 0
within (Function function) = 0
within (Statement function statement) = statement + 1
within Whole = 0

-- the first place stands before the second
abbrev pub place_lt : CheckPlace → CheckPlace → Bool
place_lt x y = nat_lt (group x) (group y) || group x == group y && (nat_lt (owner x) (owner y) || owner x == owner y && nat_lt (within x) (within y))
