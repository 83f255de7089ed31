-- The counts along a source.
use Rattle.std.specs.Prelude.{ℕ, ◌+◌, ◌≤◌, Bool, ◌||◌, nat_lt, List, [], ◌∷◌}
use Rattle.cilk_tree.specs.declared.count.Count.{Count}
use Rattle.cilk_tree.specs.declared.count.Count.TheVariants.{Anew, OneMore}
use Rattle.cilk_tree.specs.declared.count.Counted.TheVariants.{Operators, Parameters, Arguments, Variables, Arrays, Functions}
use Rattle.cilk_parser.specs.declared.tallies.Tallies.{Tallies}

abbrev pub none_counted : Tallies
none_counted = record { operators = 0; parameters = 0; arguments = 0; variables = 0; arrays = 0; functions = 0 }

-- one count
abbrev pub counted_on : Tallies → Count → Tallies
counted_on t (Anew Operators) = record t { operators = 0 }
counted_on t (Anew Parameters) = record t { parameters = 0 }
counted_on t (Anew Arguments) = record t { arguments = 0 }
counted_on t (Anew Variables) = record t { variables = 0 }
counted_on t (Anew Arrays) = record t { arrays = 0 }
counted_on t (Anew Functions) = record t { functions = 0 }
counted_on t (OneMore Operators) = record t { operators = t.operators + 1 }
counted_on t (OneMore Parameters) = record t { parameters = t.parameters + 1 }
counted_on t (OneMore Arguments) = record t { arguments = t.arguments + 1 }
counted_on t (OneMore Variables) = record t { variables = t.variables + 1 }
counted_on t (OneMore Arrays) = record t { arrays = t.arrays + 1 }
counted_on t (OneMore Functions) = record t { functions = t.functions + 1 }

-- one after another
abbrev pub all_counted_on : Tallies → List Count → Tallies
all_counted_on t [] = t
all_counted_on t (count ∷ counts) = all_counted_on (counted_on t count) counts

-- a limit is passed
abbrev pub is_over : Tallies → Bool
is_over t =
    nat_lt 256 t.operators || nat_lt 16 t.parameters || nat_lt 16 t.arguments || nat_lt 256 t.variables || nat_lt 1024 t.arrays || nat_lt 1024 t.functions

-- none is above this
pub record IsBelow (most : ℕ) (t : Tallies) : Type 0 where
  pub operators : t.operators ≤ most
  pub parameters : t.parameters ≤ most
  pub arguments : t.arguments ≤ most
  pub variables : t.variables ≤ most
  pub arrays : t.arrays ≤ most
  pub functions : t.functions ≤ most
