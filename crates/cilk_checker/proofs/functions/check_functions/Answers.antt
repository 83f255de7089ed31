use Rattle.std.proofs.Common.{◌+◌, ◌<◌, ◌∷◌, ◌++◌, [], drop, get_or, length, map, take, sym, ap, subst, ◌∙◌}
use Rattle.std.specs.Option.{option_or}
use Rattle.cilk_tree.specs.Lawful.Rules.{is_among}
use Rattle.cilk_checker.specs.Judged.{first_use, Tells}
use Rattle.cilk_checker.specs.Names.{value_at}
use Rattle.cilk_checker.proofs.Exits.{passed_on}
use Rattle.cilk_checker.proofs.FunctionTurns.{function_stops, function_passes, use_found}
use Rattle.cilk_checker.proofs.Parameters.{name_added, names_more}
use Rattle.cilk_checker.proofs.Turns.{next_dropped, next_taken}
use Rattle.cilk_checker.proofs.functions.check_functions.Goals as goal

pub returns-in_err-found-clause-err : goal.returns-in_err-found-clause-err
returns-in_err-found-clause-err c =
    let loop = c.loop-index in
    let program = c.args.globals.now.program.now in
    let functions = program.functions in
    let function = c.function-item.result in
    let refusal = c.in_err-found.field-0.0 in
    let within : loop.index < length functions = subst (λ xs. loop.index < length xs) c.as_slice-function-items.ensures c.loop-index-test.true in
    let item = c.function-item.is ∙ ap (λ xs. get_or xs loop.index function) c.as_slice-function-items.ensures in
    let split = next_dropped functions loop.index function within item in
    passed_on _ c.from_residual.result refusal c.from_residual.ensures.1
    (subst (λ due. Tells due refusal) (sym loop.invariant.judged) (function_stops program loop.index function (drop loop.index functions) (drop (loop.index + 1) functions) split refusal c.in_err-found.ensures.err))

pub loop-index-preserved : goal.loop-index-preserved
loop-index-preserved c =
    let loop = c.loop-index in
    let program = c.args.globals.now.program.now in
    let functions = program.functions in
    let function = c.function-item.result in
    let within : loop.index < length functions = subst (λ xs. loop.index < length xs) c.as_slice-function-items.ensures c.loop-index-test.true in
    let item = c.function-item.is ∙ ap (λ xs. get_or xs loop.index function) c.as_slice-function-items.ensures in
    let left = drop loop.index functions in
    let rest = drop (loop.index + 1) functions in
    let split = next_dropped functions loop.index function within item in
    record {
      names = λ name.
          name_added (value_at loop.earlier.values) (value_at c.insert.new.self.values) (map (λ other. other.name) (take loop.index functions)) c.items.result.now loop.invariant.names c.in_ok-insert.ensures.ok name
          ∙ ap (λ next. is_among (map (λ other. other.name) (take loop.index functions) ++ next ∷ []) name) c.items.ensures
          ∙ ap (λ names. is_among names name) (sym (ap (map (λ other. other.name)) (next_taken functions loop.index function within item) ∙ names_more (take loop.index functions) function));
      judged = loop.invariant.judged ∙ function_passes program loop.index function left rest split c.in_ok-found.ensures.ok;
      used = ap (λ first. option_or first (first_use (loop.index + 1) rest)) c.earlier_place-first.ensures
          ∙ use_found program loop.index function left rest split loop.first c.in_ok-found.found c.in_ok-found.ensures.found ∙ loop.invariant.used;
    }
