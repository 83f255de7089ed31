use Rattle.std.proofs.Common.{◌≡◌, ℕ, List, take}
use Rattle.cilk_checker.specs.Meanings.{entry_meaning, global_meaning}
use Rattle.cilk_checker.specs.Names.{value_at}
use Rattle.cilk_checker.proofs.globals.add_functions.Given as goal

-- the arrays and the functions so far are in the table
abbrev pub invariant-loop-function : goal.invariant-loop-function
invariant-loop-function l = (name : List ℕ) → entry_meaning (value_at l.names.values name) ≡ global_meaning l.program.shared (take l.function-index l.program.functions) name
