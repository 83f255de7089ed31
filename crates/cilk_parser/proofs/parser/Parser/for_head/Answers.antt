use Rattle.std.proofs.lemmas.Result.{err_from_is_err_and}
use Rattle.cilk_parser.proofs.Bricks.Owners.{for_head_reads, for_lacks_condition, for_lacks_last, for_lacks_start, for_over, for_unopened}
use Rattle.cilk_parser.proofs.parser.Parser.for_head.Goals as goal

pub returns-in_err-pass : goal.returns-in_err-pass
returns-in_err-pass c =
    let p = err_from_is_err_and c.from_residual.result c.from_residual.ensures.1 in
    rw (p.1, p.2) (for_over _ _ _ c.requires (c.in_err-pass.ensures {u = tt}))

pub returns-in_err-sign : goal.returns-in_err-sign
returns-in_err-sign c =
    let p = err_from_is_err_and c.from_residual-in_err-sign.result c.from_residual-in_err-sign.ensures.1 in
    rw (p.1, p.2) (for_unopened _ _ c.requires _ (c.in_ok-pass.ensures {u = tt}) _ (c.in_err-sign.ensures {u = tt}))

pub returns-in_err-for_start : goal.returns-in_err-for_start
returns-in_err-for_start c =
    let p = err_from_is_err_and c.from_residual-in_err-for_start.result c.from_residual-in_err-for_start.ensures.1 in
    rw (p.1, p.2) (for_lacks_start _ _ c.requires _ (c.in_ok-pass.ensures {u = tt}) _ (c.in_ok-sign.ensures {u = tt}) _ (c.in_err-for_start.ensures {u = tt}))

pub returns-in_err-condition : goal.returns-in_err-condition
returns-in_err-condition c =
    let start = rw c.new-start.ensures at (c.in_ok-for_start.ensures {u = tt}) in
    let p = err_from_is_err_and c.from_residual-in_err-condition.result c.from_residual-in_err-condition.ensures.1 in
    rw (p.1, p.2) (for_lacks_condition _ _ c.requires _ (c.in_ok-pass.ensures {u = tt}) _ (c.in_ok-sign.ensures {u = tt}) _ _ start _ (c.in_err-condition.ensures {u = tt}))

pub returns-in_err-for_last : goal.returns-in_err-for_last
returns-in_err-for_last c =
    let start = rw c.new-start.ensures at (c.in_ok-for_start.ensures {u = tt}) in
    let p = err_from_is_err_and c.from_residual-in_err-for_last.result c.from_residual-in_err-for_last.ensures.1 in
    rw (p.1, p.2) (for_lacks_last _ _ c.requires _ (c.in_ok-pass.ensures {u = tt}) _ (c.in_ok-sign.ensures {u = tt}) _ _ start _ _ (c.in_ok-condition.ensures {u = tt}) _ (c.in_err-for_last.ensures {u = tt}))

pub returns : goal.returns
returns c =
    let start = rw c.new-start.ensures at (c.in_ok-for_start.ensures {u = tt}) in
    let last = rw c.new-last.ensures at (c.in_ok-for_last.ensures {u = tt}) in
    for_head_reads _ _ c.requires _ (c.in_ok-pass.ensures {u = tt}) _ (c.in_ok-sign.ensures {u = tt}) _ _ start _ _ (c.in_ok-condition.ensures {u = tt}) _ _ last
