use Rattle.std.proofs.Common.{◌<◌, ◌||◌, ◌∷◌, [], get_or, is_some, length, take, sym, ap, subst, ◌∙◌}
use Rattle.std.specs.List.{fold}
use Rattle.std.proofs.lemmas.Grind.{fold-append}
use Rattle.cilk_tree.specs.Lawful.Scope.{declared, is_global, is_known, local_named}
use Rattle.cilk_checker.proofs.Parameters.{name_again, names_new, or_holds}
use Rattle.cilk_checker.proofs.Turns.{next_taken}
use Rattle.cilk_checker.proofs.functions.declare_parameters.Goals as goal
use Rattle.cilk_checker.proofs.functions.declare_parameters.Goals.{then-is_known-via-then-is_known, then-is_known-via-else-is_known+then-is_some}

pub returns-then-is_known-clause-again : goal.returns-then-is_known-clause-again
returns-then-is_known-clause-again c =
    let loop = c.loop-parameter in
    let program = c.args.around.globals.now.program.now in
    let names = c.args.around.function.now.params in
    let next = c.parameter-item.result in
    let start = c.args.locals.now in
    let within : loop.parameter-index < length names = subst (λ xs. loop.parameter-index < length xs) c.as_slice-parameter-items.ensures c.loop-parameter-test.true in
    let item = c.parameter-item.is ∙ ap (λ xs. get_or xs loop.parameter-index next) c.as_slice-parameter-items.ensures in
    let empty = ap (λ point. point.scope) c.requires.start in
    let global = c.is_known.ensures ∙ ap is_known c.meaning.ensures in
    let scope = (fold declared start (take loop.parameter-index names)).scope in
    sym (name_again program names loop.parameter-index next start within item empty (elim c.then-is_known.branch [
      | then-is_known-via-then-is_known w ↦ ap (λ b. b || is_some (local_named scope next)) (sym global ∙ w.if-is_known.true)
      | then-is_known-via-else-is_known+then-is_some w ↦ or_holds (is_global program next) (is_some (local_named scope next))
          (ap (λ point. is_some (local_named point.scope next)) (sym loop.invariant.point)
          ∙ sym (w.is_some.ensures ∙ ap is_some (w.number.ensures ∙ ap (local_named loop.locals.scope) w.items.ensures)) ∙ w.if-is_some.true)
    ]))

pub loop-parameter-preserved : goal.loop-parameter-preserved
loop-parameter-preserved c =
    let loop = c.loop-parameter in
    let program = c.args.around.globals.now.program.now in
    let names = c.args.around.function.now.params in
    let next = c.parameter-item.result in
    let start = c.args.locals.now in
    let within : loop.parameter-index < length names = subst (λ xs. loop.parameter-index < length xs) c.as_slice-parameter-items.ensures c.loop-parameter-test.true in
    let item = c.parameter-item.is ∙ ap (λ xs. get_or xs loop.parameter-index next) c.as_slice-parameter-items.ensures in
    let empty = ap (λ point. point.scope) c.requires.start in
    let global = c.is_known.ensures ∙ ap is_known c.meaning.ensures in
    let local = ap (λ point. is_some (local_named point.scope next)) (sym loop.invariant.point)
    ∙ sym (c.is_some.ensures ∙ ap is_some (c.number.ensures ∙ ap (local_named loop.locals.scope) c.items.ensures)) ∙ c.if-is_some.false in
    record {
      point = c.in_ok-declare.ensures ∙ ap (declared loop.locals) c.items-in-loop-parameter.ensures ∙ ap (λ point. declared point next) loop.invariant.point
          ∙ sym (ap (fold declared start) (next_taken names loop.parameter-index next within item) ∙ fold-append declared start (take loop.parameter-index names) (next ∷ []));
      new = names_new program names loop.parameter-index next start within item empty loop.invariant.new (sym global ∙ c.if-is_known.false) local;
    }
