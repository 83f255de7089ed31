use Rattle.std.proofs.Common.{subst}
use Rattle.cilk_tree.specs.declared.tree.Shared.{Shared}
use Rattle.cilk_compiler.specs.Numbering.{IsNumbering}
use Rattle.cilk_compiler.proofs.Numbering.{names_more, names_all}
use Rattle.cilk_compiler.proofs.globals.array_names.Goals as goal

pub loop-array-preserved : goal.loop-array-preserved
loop-array-preserved c =
    subst (IsNumbering c.add.new.self) (names_more (λ (array : Shared). array.name) c.as_slice-array-items.result.now c.loop-array.array-index c.array-item.result c.items.result.now c.loop-array-test.true c.array-item.is c.items.ensures)
    (c.in_ok-add.ensures {u = tt} _ c.loop-array.invariant)

pub returns : goal.returns
returns c =
    subst (IsNumbering c.loop-array.names) (names_all (λ (array : Shared). array.name) c.as_slice-array-items.result.now _ c.loop-array.array-index c.loop-array-test.false c.as_slice-array-items.ensures) c.loop-array.invariant
