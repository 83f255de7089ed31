use Rattle.std.proofs.Common.{◌<◌, length, get_or, take, sym, ap, ◌∙◌, subst}
use Rattle.cilk_tree.specs.Lawful.Scope.{is_known}
use Rattle.cilk_checker.specs.Meanings.{entry_meaning, global_meaning}
use Rattle.cilk_checker.specs.Names.{value_at}
use Rattle.cilk_checker.proofs.Growing.{function_added, meaning_stays}
use Rattle.cilk_checker.proofs.Turns.{next_taken}
use Rattle.cilk_checker.proofs.globals.add_functions.Goals as goal
use Rattle.cilk_checker.proofs.globals.add_functions.Goals.{then-not-is_known+in_ok-insert, else-not-is_known}

pub loop-function-preserved : goal.loop-function-preserved
loop-function-preserved c =
    let loop = c.loop-function in
    let function = c.function-item.result in
    let functions = c.args.program.now.functions in
    let arrays = c.args.program.now.shared in
    let within : loop.function-index < length functions = subst (λ xs. loop.function-index < length xs) c.as_slice-function-items.ensures c.loop-function-test.true in
    let item = c.function-item.is ∙ ap (λ xs. get_or xs loop.function-index function) c.as_slice-function-items.ensures in
    let taken = c.is_known.ensures ∙ ap is_known (c.global_named.ensures ∙ loop.invariant function.name) in
    let next = next_taken functions loop.function-index function within item in
    λ name. elim c.if-not-is_known.branch [
      | then-not-is_known+in_ok-insert w ↦
          ap (λ names. entry_meaning (value_at names.values name)) w.names-is
          ∙ function_added (value_at loop.names.values) (value_at w.insert.new.self.values) w.items.result.now arrays (take loop.function-index functions) _ w.items.ensures (sym taken ∙ w.if-not-is_known.true) loop.invariant w.in_ok-insert.ensures.ok name
          ∙ sym (ap (λ some. global_meaning arrays some name) next)
      | else-not-is_known w ↦
          ap (λ names. entry_meaning (value_at names.values name)) w.names-is ∙ loop.invariant name
          ∙ sym (ap (λ some. global_meaning arrays some name) next ∙ meaning_stays arrays (take loop.function-index functions) function name (sym taken ∙ w.if-not-is_known.false))
    ]
