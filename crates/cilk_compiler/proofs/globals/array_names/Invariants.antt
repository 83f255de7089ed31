use Rattle.std.proofs.Common.{map, take}
use Rattle.cilk_tree.specs.declared.tree.Shared.{Shared}
use Rattle.cilk_compiler.specs.Numbering.{IsNumbering}
use Rattle.cilk_compiler.proofs.globals.array_names.Given as goal

-- the table numbers the names so far
abbrev pub invariant-loop-array : goal.invariant-loop-array
invariant-loop-array l = IsNumbering l.names (map (λ (array : Shared). array.name) (take l.array-index l.array-items))
