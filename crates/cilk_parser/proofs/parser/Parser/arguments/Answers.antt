use Rattle.std.proofs.Common.{sym, ◌∙◌}
use Rattle.std.proofs.lemmas.Result.{err_from_is_err_and}
use Rattle.cilk_parser.proofs.Bricks.Calls.{no_arguments_over, no_arguments, arguments_begin, arguments_end, arguments_go_on}
use Rattle.cilk_parser.proofs.parser.Parser.arguments.Goals as goal

pub returns-in_err-pass : goal.returns-in_err-pass
returns-in_err-pass c =
    let e = err_from_is_err_and c.from_residual.result c.from_residual.ensures.1 in
    rw (e.1, e.2) (no_arguments_over _ _ _ (sym c.is_at.ensures ∙ c.if-is_at.true) c.in_err-pass.ensures)

pub returns-then-is_at : goal.returns-then-is_at
returns-then-is_at c = rw c.new-arguments.ensures (no_arguments _ _ _ (sym c.is_at.ensures ∙ c.if-is_at.true) (c.in_ok-pass.ensures {u = tt}))

pub loop-arguments-init : goal.loop-arguments-init
loop-arguments-init c = rw c.new-arguments.ensures (arguments_begin _ _ (sym c.is_at.ensures ∙ c.if-is_at.false))

pub returns-then-not-is_at : goal.returns-then-not-is_at
returns-then-not-is_at c =
    rw c.in_ok-push.ensures.ok
    (arguments_end _ _ _ _ _ _ c.loop-arguments.invariant c.in_ok-argument.ensures.reads c.in_ok-argument.ensures.stops _
    (sym c.is_at-in-loop-arguments.ensures ∙ c.if-not-is_at.true) (c.in_ok-sign.ensures {u = tt}))

pub loop-arguments-preserved : goal.loop-arguments-preserved
loop-arguments-preserved c =
    rw c.in_ok-push.ensures.ok
    (arguments_go_on _ _ _ _ _ _ c.loop-arguments.invariant c.in_ok-argument.ensures.reads c.in_ok-argument.ensures.stops _
    (sym c.is_at-in-loop-arguments.ensures ∙ c.if-not-is_at.false) (c.in_ok-pass-2.ensures {u = tt}))
