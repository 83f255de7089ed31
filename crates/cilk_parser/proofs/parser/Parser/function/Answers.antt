use Rattle.std.proofs.lemmas.Result.{err_from_is_err_and}
use Rattle.cilk_parser.proofs.Bricks.Functions.{body_lacks, brace_lacks, function_reads, function_unnamed, parameters_lack, parenthesis_lacks}
use Rattle.cilk_parser.proofs.parser.Parser.function.Goals as goal

pub returns-in_err-name : goal.returns-in_err-name
returns-in_err-name c =
    let p = err_from_is_err_and c.from_residual-in_err-name.result c.from_residual-in_err-name.ensures.1 in
    rw (p.1, p.2) (function_unnamed _ _ _ _ (c.in_ok-cilk.ensures {u = tt}) _ (c.in_err-name.ensures {u = tt}))

pub returns-in_err-sign : goal.returns-in_err-sign
returns-in_err-sign c =
    let p = err_from_is_err_and c.from_residual-in_err-sign.result c.from_residual-in_err-sign.ensures.1 in
    rw (p.1, p.2) (parenthesis_lacks _ _ _ _ (c.in_ok-cilk.ensures {u = tt}) _ _ (c.in_ok-name.ensures {u = tt}) _ (c.in_err-sign.ensures {u = tt}))

pub returns-in_err-params : goal.returns-in_err-params
returns-in_err-params c =
    let p = err_from_is_err_and c.from_residual-in_err-params.result c.from_residual-in_err-params.ensures.1 in
    rw (p.1, p.2) (parameters_lack _ _ _ _ (c.in_ok-cilk.ensures {u = tt}) _ _ (c.in_ok-name.ensures {u = tt}) _ (c.in_ok-sign.ensures {u = tt}) _ (c.in_err-params.ensures {u = tt}))

pub returns-in_err-sign-2 : goal.returns-in_err-sign-2
returns-in_err-sign-2 c =
    let p = err_from_is_err_and c.from_residual-in_err-sign-2.result c.from_residual-in_err-sign-2.ensures.1 in
    rw (p.1, p.2)
    (brace_lacks _ _ _ _ (c.in_ok-cilk.ensures {u = tt}) _ _ (c.in_ok-name.ensures {u = tt}) _ (c.in_ok-sign.ensures {u = tt}) _ _ (c.in_ok-params.ensures {u = tt}) _ (c.in_err-sign-2.ensures {u = tt}))

pub returns-in_err-body : goal.returns-in_err-body
returns-in_err-body c =
    let p = err_from_is_err_and c.from_residual-in_err-body.result c.from_residual-in_err-body.ensures.1 in
    rw (p.1, p.2)
    (body_lacks _ _ _ _ (c.in_ok-cilk.ensures {u = tt}) _ _ (c.in_ok-name.ensures {u = tt}) _ (c.in_ok-sign.ensures {u = tt}) _ _ (c.in_ok-params.ensures {u = tt}) _ (c.in_ok-sign-2.ensures {u = tt})
    _ (c.in_err-body.ensures {u = tt}))

pub returns : goal.returns
returns c =
    function_reads _ _ _ _ (c.in_ok-cilk.ensures {u = tt}) _ _ (c.in_ok-name.ensures {u = tt}) _ (c.in_ok-sign.ensures {u = tt}) _ _ (c.in_ok-params.ensures {u = tt}) _ (c.in_ok-sign-2.ensures {u = tt})
    _ _ (c.in_ok-body.ensures {u = tt})
