-- The table of arrays and functions.
use Rattle.std.specs.Prelude.{◌≡◌, ℕ, List, []}
use Rattle.cilk_tree.specs.Lawful.Scope.{meaning}
use Rattle.cilk_checker.specs.declared.globals.Globals.{Globals}
use Rattle.cilk_checker.specs.Meanings.{entry_meaning}
use Rattle.cilk_checker.specs.Names.{value_at}

-- it has each array and function of its program
pub record IsComplete (globals : Globals) : Type 0 where
  pub agrees : (name : List ℕ) → entry_meaning (value_at globals.names.values name) ≡ meaning globals.program.now [] name
