use Rattle.std.proofs.Common.{◌≡◌, ◌++◌, flat_map, drop}
use Rattle.cilk_tree.specs.Canonical.{function_lines}
use Rattle.cilk_tree.proofs.printing.push_functions.Given as goal

-- the text so far, and the functions that are left
abbrev pub invariant-loop-function : goal.invariant-loop-function
invariant-loop-function l = l.text.items ++ flat_map function_lines (drop l.function-index l.functions) ≡ l.initial.text.items ++ flat_map function_lines l.functions
