use Rattle.std.proofs.Common.{sym, ◌∙◌}
use Rattle.std.proofs.lemmas.Result.{MatchResult-weaker, err_from_is_err_and}
use Rattle.cilk_parser.proofs.Bricks.Heads.{last_lacks, last_reads, last_unended, last_unnamed, no_last_over, no_last_reads}
use Rattle.cilk_parser.proofs.parser.Parser.for_last.Goals as goal

pub returns-then-is_at : goal.returns-then-is_at
returns-then-is_at c =
    let there = sym c.is_at.ensures ∙ c.if-is_at.true in
    MatchResult-weaker c.pass.result c.pass.ensures (λ done passed. no_last_reads _ _ _ there _ _ passed) (λ refusal over. no_last_over _ _ _ there refusal over)

pub returns-in_err-name : goal.returns-in_err-name
returns-in_err-name c =
    let p = err_from_is_err_and c.from_residual.result c.from_residual.ensures.1 in
    rw (p.1, p.2) (last_unnamed _ _ _ (sym c.is_at.ensures ∙ c.if-is_at.false) _ (c.in_err-name.ensures {u = tt}))

pub returns-in_err-last : goal.returns-in_err-last
returns-in_err-last c =
    let p = err_from_is_err_and c.from_residual-in_err-last.result c.from_residual-in_err-last.ensures.1 in
    rw (p.1, p.2) (last_lacks _ _ _ (sym c.is_at.ensures ∙ c.if-is_at.false) _ _ (c.in_ok-name.ensures {u = tt}) _ (c.in_err-last.ensures {u = tt}))

pub returns : goal.returns
returns c =
    let absent = sym c.is_at.ensures ∙ c.if-is_at.false in
    let name = c.in_ok-name.ensures {u = tt} in
    let simple = c.in_ok-last.ensures {u = tt} in
    MatchResult-weaker c.sign.result c.sign.ensures
    (λ done read. last_reads _ _ _ absent _ _ name _ _ simple _ _ _ read (c.in_ok-push.ensures {u = tt}).ok) (λ refusal lacks. last_unended _ _ _ absent _ _ name _ _ simple refusal lacks)
