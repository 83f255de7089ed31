use Rattle.std.proofs.Common.{sym, ◌∙◌}
use Rattle.std.proofs.lemmas.Result.{err_from_is_err_and}
use Rattle.cilk_parser.proofs.Bricks.Calls.{lacks_opening, opening_over, opened_or_refused}
use Rattle.cilk_parser.proofs.parser.Parser.opened.Goals as goal

pub returns-then-not-is_at : goal.returns-then-not-is_at
returns-then-not-is_at c = lacks_opening _ _ _ (sym c.is_at.ensures ∙ c.if-not-is_at.true) c.unexpected.ensures

pub returns-in_err-pass : goal.returns-in_err-pass
returns-in_err-pass c =
    let e = err_from_is_err_and c.from_residual.result c.from_residual.ensures.1 in
    rw (e.1, e.2) (opening_over _ _ _ (sym c.is_at.ensures ∙ c.if-not-is_at.false) c.in_err-pass.ensures)

pub returns : goal.returns
returns c = opened_or_refused _ _ _ (sym c.is_at.ensures ∙ c.if-not-is_at.false) (c.in_ok-pass.ensures {u = tt}) _ c.arguments.result c.arguments.ensures
