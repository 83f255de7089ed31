use Rattle.std.proofs.lemmas.Result.{err_from_is_err_and}
use Rattle.cilk_parser.proofs.Bricks.Additions.{adds, closed_index, indexed, lacks_addend, lacks_index, named, opened, parted, unindexed, unnamed, unopened, unparted}
use Rattle.cilk_parser.proofs.parser.Parser.added.Goals as goal

pub returns-in_err-sign : goal.returns-in_err-sign
returns-in_err-sign c =
    let e = err_from_is_err_and c.from_residual.result c.from_residual.ensures.1 in
    rw (e.1, e.2) (unopened _ _ _ (c.in_err-sign.ensures {u = tt}))

pub returns-in_err-name : goal.returns-in_err-name
returns-in_err-name c =
    let e = err_from_is_err_and c.from_residual-in_err-name.result c.from_residual-in_err-name.ensures.1 in
    rw (e.1, e.2) (unnamed _ _ _ (opened _ _ _ (c.in_ok-sign.ensures {u = tt})) _ (c.in_err-name.ensures {u = tt}))

pub returns-in_err-sign-2 : goal.returns-in_err-sign-2
returns-in_err-sign-2 c =
    let e = err_from_is_err_and c.from_residual-in_err-sign-2.result c.from_residual-in_err-sign-2.ensures.1 in
    let far = named _ _ _ (opened _ _ _ (c.in_ok-sign.ensures {u = tt})) _ _ (c.in_ok-name.ensures {u = tt}) in
    rw (e.1, e.2) (unindexed _ _ _ _ far _ (c.in_err-sign-2.ensures {u = tt}))

pub returns-in_err-index : goal.returns-in_err-index
returns-in_err-index c =
    let e = err_from_is_err_and c.from_residual-in_err-index.result c.from_residual-in_err-index.ensures.1 in
    let far = indexed _ _ _ _ (named _ _ _ (opened _ _ _ (c.in_ok-sign.ensures {u = tt})) _ _ (c.in_ok-name.ensures {u = tt})) _ (c.in_ok-sign-2.ensures {u = tt}) in
    rw (e.1, e.2) (lacks_index _ _ _ _ far _ (c.in_err-index.ensures {u = tt}))

pub returns-in_err-sign-3 : goal.returns-in_err-sign-3
returns-in_err-sign-3 c =
    let e = err_from_is_err_and c.from_residual-in_err-sign-3.result c.from_residual-in_err-sign-3.ensures.1 in
    let far = indexed _ _ _ _ (named _ _ _ (opened _ _ _ (c.in_ok-sign.ensures {u = tt})) _ _ (c.in_ok-name.ensures {u = tt})) _ (c.in_ok-sign-2.ensures {u = tt}) in
    rw (e.1, e.2) (unparted _ _ _ _ _ (closed_index _ _ _ _ far _ _ (c.in_ok-index.ensures {u = tt})) _ (c.in_err-sign-3.ensures {u = tt}))

pub returns-in_err-addend : goal.returns-in_err-addend
returns-in_err-addend c =
    let e = err_from_is_err_and c.from_residual-in_err-addend.result c.from_residual-in_err-addend.ensures.1 in
    let far = indexed _ _ _ _ (named _ _ _ (opened _ _ _ (c.in_ok-sign.ensures {u = tt})) _ _ (c.in_ok-name.ensures {u = tt})) _ (c.in_ok-sign-2.ensures {u = tt}) in
    rw (e.1, e.2) (lacks_addend _ _ _ _ _ (parted _ _ _ _ _ (closed_index _ _ _ _ far _ _ (c.in_ok-index.ensures {u = tt})) _ (c.in_ok-sign-3.ensures {u = tt})) _ (c.in_err-addend.ensures {u = tt}))

pub returns : goal.returns
returns c =
    let far = indexed _ _ _ _ (named _ _ _ (opened _ _ _ (c.in_ok-sign.ensures {u = tt})) _ _ (c.in_ok-name.ensures {u = tt})) _ (c.in_ok-sign-2.ensures {u = tt}) in
    let index = c.in_ok-index.ensures {u = tt} in
    adds _ _ _ _ _ (parted _ _ _ _ _ (closed_index _ _ _ _ far _ _ index) _ (c.in_ok-sign-3.ensures {u = tt})) _ _ (c.in_ok-addend.ensures {u = tt}) _ index.same
