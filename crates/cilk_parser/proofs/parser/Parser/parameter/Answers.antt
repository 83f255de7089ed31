use Rattle.std.proofs.Common.{sym, ◌∙◌}
use Rattle.std.proofs.lemmas.Result.{err_from_is_err_and}
use Rattle.cilk_parser.proofs.Bricks.Functions.{parameter_absent, parameter_answers, parameter_over}
use Rattle.cilk_parser.proofs.parser.Parser.parameter.Goals as goal

pub returns-then-not-is_at_keyword : goal.returns-then-not-is_at_keyword
returns-then-not-is_at_keyword c = rw c.unexpected.ensures (parameter_absent _ (sym c.is_at_keyword.ensures ∙ c.if-not-is_at_keyword.true))

pub returns-in_err-pass : goal.returns-in_err-pass
returns-in_err-pass c =
    let p = err_from_is_err_and c.from_residual.result c.from_residual.ensures.1 in
    rw (p.1, p.2) (parameter_over _ (sym c.is_at_keyword.ensures ∙ c.if-not-is_at_keyword.false) _ (c.in_err-pass.ensures {u = tt}))

pub returns : goal.returns
returns c = parameter_answers _ (sym c.is_at_keyword.ensures ∙ c.if-not-is_at_keyword.false) _ (c.in_ok-pass.ensures {u = tt}) _ c.name.result c.name.ensures
