use Rattle.std.proofs.Common.{subst}
use Rattle.cilk_tree.specs.declared.tree.Function.{Function}
use Rattle.cilk_compiler.specs.Numbering.{IsNumbering}
use Rattle.cilk_compiler.proofs.Numbering.{names_more, names_all}
use Rattle.cilk_compiler.proofs.globals.function_names.Goals as goal

pub loop-function-preserved : goal.loop-function-preserved
loop-function-preserved c =
    subst (IsNumbering c.add.new.self) (names_more (λ (function : Function). function.name) c.as_slice-function-items.result.now c.loop-function.function-index c.function-item.result c.items.result.now c.loop-function-test.true c.function-item.is c.items.ensures)
    (c.in_ok-add.ensures {u = tt} _ c.loop-function.invariant)

pub returns : goal.returns
returns c =
    subst (IsNumbering c.loop-function.names) (names_all (λ (function : Function). function.name) c.as_slice-function-items.result.now _ c.loop-function.function-index c.loop-function-test.false c.as_slice-function-items.ensures) c.loop-function.invariant
