use Rattle.std.proofs.Common.{◌≡◌, ◌+◌, ◌++◌, drop}
use Rattle.cilk_meaning.specs.Resolving.{extents_from}
use Rattle.machine_code.specs.Valid.{extents, words_in}
use Rattle.cilk_compiler.proofs.program.lay_out.Given as goal

-- with the arrays that are left there are all, and as many words
abbrev pub invariant-loop-array : goal.invariant-loop-array
invariant-loop-array l = record {
  laid : extents l.shared.items ++ extents_from l.base (drop l.array-index l.arrays) ≡ extents_from 0 l.arrays;
  words : l.base + words_in (extents_from l.base (drop l.array-index l.arrays)) ≡ words_in (extents_from 0 l.arrays);
}
