use Rattle.std.proofs.Common.{sym, ◌∙◌}
use Rattle.std.proofs.lemmas.Result.{MatchResult-weaker, err_from_is_err_and}
use Rattle.cilk_parser.proofs.Bricks.Statements.{return_end_over, return_over, return_reads, value_lacks, value_reads}
use Rattle.cilk_parser.proofs.parser.Parser.returning.Goals as goal

pub returns-in_err-pass : goal.returns-in_err-pass
returns-in_err-pass c =
    let p = err_from_is_err_and c.from_residual.result c.from_residual.ensures.1 in
    rw (p.1, p.2) (return_over _ _ _ c.requires (c.in_err-pass.ensures {u = tt}))

pub returns-then-is_at : goal.returns-then-is_at
returns-then-is_at c =
    let there = sym c.is_at.ensures ∙ c.if-is_at.true in
    let passed = c.in_ok-pass.ensures {u = tt} in
    MatchResult-weaker c.pass-then-is_at.result c.pass-then-is_at.ensures
    (λ done ended. return_reads _ _ _ c.requires passed there _ _ _ ended (c.in_ok-push.ensures {u = tt}).ok) (λ refusal over. return_end_over _ _ _ c.requires passed there refusal over)

pub returns-in_err-value : goal.returns-in_err-value
returns-in_err-value c =
    let p = err_from_is_err_and c.from_residual-in_err-value.result c.from_residual-in_err-value.ensures.1 in
    rw (p.1, p.2) (value_lacks _ _ _ c.requires (c.in_ok-pass.ensures {u = tt}) (sym c.is_at.ensures ∙ c.if-is_at.false) _ (c.in_err-value.ensures {u = tt}))

pub returns : goal.returns
returns c = value_reads _ _ _ c.requires (c.in_ok-pass.ensures {u = tt}) (sym c.is_at.ensures ∙ c.if-is_at.false) _ _ (c.in_ok-value.ensures {u = tt}) _ _ (c.in_ok-push-2.ensures {u = tt}).ok
