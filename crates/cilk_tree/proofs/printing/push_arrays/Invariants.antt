use Rattle.std.proofs.Common.{◌≡◌, ◌++◌, flat_map, drop}
use Rattle.cilk_tree.specs.Canonical.{array_line}
use Rattle.cilk_tree.proofs.printing.push_arrays.Given as goal

-- the text so far, and the arrays that are left
abbrev pub invariant-loop-array : goal.invariant-loop-array
invariant-loop-array l = l.text.items ++ flat_map array_line (drop l.array-index l.arrays) ≡ l.initial.text.items ++ flat_map array_line l.arrays
