use Rattle.std.proofs.Common.{sym, ◌∙◌}
use Rattle.std.proofs.lemmas.Result.{err_from_is_err_and}
use Rattle.cilk_parser.proofs.Bricks.Arrays.{arrays_answer, brackets_lack, comma_over, first_next, next_named, next_shorter, next_unnamed}
use Rattle.cilk_parser.proofs.parser.Parser.arrays.Goals as goal

pub loop-array-init : goal.loop-array-init
loop-array-init c = first_next _ _ _ _ (c.in_ok-name.ensures {u = tt})

pub returns-in_err-array : goal.returns-in_err-array
returns-in_err-array c =
    let p = err_from_is_err_and c.from_residual-in_err-array.result c.from_residual-in_err-array.ensures.1 in
    rw (p.1, p.2) (brackets_lack _ _ _ _ _ c.loop-array.invariant _ (c.in_err-array.ensures {u = tt}))

pub returns-then-not-is_at : goal.returns-then-not-is_at
returns-then-not-is_at c =
    arrays_answer _ _ _ _ _ c.loop-array.invariant _ _ (c.in_ok-array.ensures {u = tt}) _ ((c.in_ok-push.ensures {u = tt}).ok) (sym c.is_at.ensures ∙ c.if-not-is_at.true) _ c.sign.result c.sign.ensures

pub returns-in_err-pass : goal.returns-in_err-pass
returns-in_err-pass c =
    let p = err_from_is_err_and c.from_residual-in_err-pass.result c.from_residual-in_err-pass.ensures.1 in
    rw (p.1, p.2)
    (comma_over _ _ _ _ _ c.loop-array.invariant _ _ (c.in_ok-array.ensures {u = tt}) _ ((c.in_ok-push.ensures {u = tt}).ok) (sym c.is_at.ensures ∙ c.if-not-is_at.false) _ (c.in_err-pass.ensures {u = tt}))

pub returns-in_err-name-2 : goal.returns-in_err-name-2
returns-in_err-name-2 c =
    let p = err_from_is_err_and c.from_residual-in_err-name-2.result c.from_residual-in_err-name-2.ensures.1 in
    rw (p.1, p.2)
    (next_unnamed _ _ _ _ _ c.loop-array.invariant _ _ (c.in_ok-array.ensures {u = tt}) _ ((c.in_ok-push.ensures {u = tt}).ok) (sym c.is_at.ensures ∙ c.if-not-is_at.false) _ (c.in_ok-pass.ensures {u = tt}) _ (c.in_err-name-2.ensures {u = tt}))

pub loop-array-smaller : goal.loop-array-smaller
loop-array-smaller c =
    next_shorter _ _ _ _ _ c.loop-array.invariant _ _ (c.in_ok-array.ensures {u = tt}) _ ((c.in_ok-push.ensures {u = tt}).ok) (sym c.is_at.ensures ∙ c.if-not-is_at.false) _ (c.in_ok-pass.ensures {u = tt}) _ _ (c.in_ok-name-2.ensures {u = tt})

pub loop-array-preserved : goal.loop-array-preserved
loop-array-preserved c =
    next_named _ _ _ _ _ c.loop-array.invariant _ _ (c.in_ok-array.ensures {u = tt}) _ ((c.in_ok-push.ensures {u = tt}).ok) (sym c.is_at.ensures ∙ c.if-not-is_at.false) _ (c.in_ok-pass.ensures {u = tt}) _ _ (c.in_ok-name-2.ensures {u = tt})
