use Rattle.std.proofs.lemmas.Result.{err_from_is_err_and}
use Rattle.cilk_parser.proofs.Bricks.Simples.{index_over, lacks_equals, lacks_index, lacks_stored, stores}
use Rattle.cilk_parser.proofs.parser.Parser.store.Goals as goal

pub returns-in_err-pass : goal.returns-in_err-pass
returns-in_err-pass c =
    let e = err_from_is_err_and c.from_residual.result c.from_residual.ensures.1 in
    rw (e.1, e.2) (index_over _ _ _ c.in_err-pass.field-0.0 c.requires c.in_err-pass.ensures)

pub returns-in_err-index : goal.returns-in_err-index
returns-in_err-index c =
    let e = err_from_is_err_and c.from_residual-in_err-index.result c.from_residual-in_err-index.ensures.1 in
    rw (e.1, e.2) (lacks_index _ _ _ _ c.requires (c.in_ok-pass.ensures {u = tt}) _ (c.in_err-index.ensures {u = tt}))

pub returns-in_err-sign : goal.returns-in_err-sign
returns-in_err-sign c =
    let e = err_from_is_err_and c.from_residual-in_err-sign.result c.from_residual-in_err-sign.ensures.1 in
    rw (e.1, e.2) (lacks_equals _ _ _ _ c.requires (c.in_ok-pass.ensures {u = tt}) _ _ (c.in_ok-index.ensures {u = tt}) _ (c.in_err-sign.ensures {u = tt}))

pub returns-in_err-value : goal.returns-in_err-value
returns-in_err-value c =
    let e = err_from_is_err_and c.from_residual-in_err-value.result c.from_residual-in_err-value.ensures.1 in
    rw (e.1, e.2) (lacks_stored _ _ _ _ c.requires (c.in_ok-pass.ensures {u = tt}) _ _ (c.in_ok-index.ensures {u = tt}) _ (c.in_ok-sign.ensures {u = tt}) _ c.in_err-value.ensures.reads)

pub returns : goal.returns
returns c =
    stores _ _ _ _ c.requires (c.in_ok-pass.ensures {u = tt}) _ _ (c.in_ok-index.ensures {u = tt}) _ (c.in_ok-sign.ensures {u = tt}) _ _ c.in_ok-value.ensures.reads c.in_ok-value.ensures.stops
