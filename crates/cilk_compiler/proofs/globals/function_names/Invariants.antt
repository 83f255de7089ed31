use Rattle.std.proofs.Common.{map, take}
use Rattle.cilk_tree.specs.declared.tree.Function.{Function}
use Rattle.cilk_compiler.specs.Numbering.{IsNumbering}
use Rattle.cilk_compiler.proofs.globals.function_names.Given as goal

-- the table numbers the names so far
abbrev pub invariant-loop-function : goal.invariant-loop-function
invariant-loop-function l = IsNumbering l.names (map (λ (function : Function). function.name) (take l.function-index l.function-items))
