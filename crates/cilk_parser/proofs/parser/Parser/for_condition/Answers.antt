use Rattle.std.proofs.Common.{sym, ◌∙◌}
use Rattle.std.proofs.lemmas.Result.{MatchResult-weaker, err_from_is_err_and}
use Rattle.cilk_parser.proofs.Bricks.Heads.{for_condition_lacks, for_condition_reads, no_condition_over, no_condition_reads}
use Rattle.cilk_parser.proofs.parser.Parser.for_condition.Goals as goal

pub returns-in_err-pass : goal.returns-in_err-pass
returns-in_err-pass c =
    let p = err_from_is_err_and c.from_residual.result c.from_residual.ensures.1 in
    rw (p.1, p.2) (no_condition_over _ _ (sym c.is_at.ensures ∙ c.if-is_at.true) _ (c.in_err-pass.ensures {u = tt}))

pub returns-then-is_at : goal.returns-then-is_at
returns-then-is_at c = no_condition_reads _ _ (sym c.is_at.ensures ∙ c.if-is_at.true) _ (c.in_ok-pass.ensures {u = tt})

pub returns : goal.returns
returns c =
    let absent = sym c.is_at.ensures ∙ c.if-is_at.false in
    MatchResult-weaker c.enclosed.result c.enclosed.ensures (λ tree read. for_condition_reads _ _ absent _ tree read) (λ refusal lacks. for_condition_lacks _ _ absent refusal lacks)
