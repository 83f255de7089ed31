use Rattle.std.proofs.Common.{sym, ◌∙◌}
use Rattle.std.proofs.lemmas.Result.{MatchResult-weaker, err_from_is_err_and}
use Rattle.cilk_parser.proofs.Bricks.Heads.{declaring_lacks, declaring_over, declaring_reads, no_start_over, no_start_reads, start_lacks, start_reads, start_unended, start_unnamed}
use Rattle.cilk_parser.proofs.parser.Parser.for_start.Goals as goal

pub returns-then-is_at : goal.returns-then-is_at
returns-then-is_at c =
    let there = sym c.is_at.ensures ∙ c.if-is_at.true in
    MatchResult-weaker c.pass.result c.pass.ensures (λ done passed. no_start_reads _ _ there _ _ passed) (λ refusal over. no_start_over _ _ there refusal over)

pub returns-in_err-pass : goal.returns-in_err-pass
returns-in_err-pass c =
    let p = err_from_is_err_and c.from_residual.result c.from_residual.ensures.1 in
    rw (p.1, p.2) (declaring_over _ _ (sym c.is_at_keyword.ensures ∙ c.if-is_at_keyword.true) _ (c.in_err-pass.ensures {u = tt}))

pub returns-then-is_at_keyword : goal.returns-then-is_at_keyword
returns-then-is_at_keyword c =
    let there = sym c.is_at_keyword.ensures ∙ c.if-is_at_keyword.true in
    MatchResult-weaker c.declaration.result c.declaration.ensures (λ done read. declaring_reads _ _ there _ (c.in_ok-pass.ensures {u = tt}) _ _ _ read) (λ refusal lacks. declaring_lacks _ _ there _ (c.in_ok-pass.ensures {u = tt}) refusal lacks)

pub returns-in_err-name : goal.returns-in_err-name
returns-in_err-name c =
    let p = err_from_is_err_and c.from_residual-in_err-name.result c.from_residual-in_err-name.ensures.1 in
    rw (p.1, p.2) (start_unnamed _ _ (sym c.is_at.ensures ∙ c.if-is_at.false) (sym c.is_at_keyword.ensures ∙ c.if-is_at_keyword.false) _ (c.in_err-name.ensures {u = tt}))

pub returns-in_err-start : goal.returns-in_err-start
returns-in_err-start c =
    let p = err_from_is_err_and c.from_residual-in_err-start.result c.from_residual-in_err-start.ensures.1 in
    rw (p.1, p.2) (start_lacks _ _ (sym c.is_at.ensures ∙ c.if-is_at.false) (sym c.is_at_keyword.ensures ∙ c.if-is_at_keyword.false) _ _ (c.in_ok-name.ensures {u = tt}) _ (c.in_err-start.ensures {u = tt}))

pub returns : goal.returns
returns c =
    let no_end = sym c.is_at.ensures ∙ c.if-is_at.false in
    let no_int = sym c.is_at_keyword.ensures ∙ c.if-is_at_keyword.false in
    let name = c.in_ok-name.ensures {u = tt} in
    let simple = c.in_ok-start.ensures {u = tt} in
    MatchResult-weaker c.sign.result c.sign.ensures
    (λ done read. start_reads _ _ no_end no_int _ _ name _ _ simple _ _ _ read (c.in_ok-push.ensures {u = tt}).ok) (λ refusal lacks. start_unended _ _ no_end no_int _ _ name _ _ simple refusal lacks)
