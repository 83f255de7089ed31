use Rattle.std.proofs.Common.{sym, ◌∙◌}
use Rattle.std.proofs.lemmas.Result.{MatchResult-weaker, err_from_is_err_and}
use Rattle.cilk_parser.proofs.Bricks.Statements.{call_lacks, call_over, call_reads, call_unended, named_lacks, named_reads, named_unended, statement_unnamed}
use Rattle.cilk_parser.proofs.parser.Parser.named.Goals as goal

pub returns-in_err-name : goal.returns-in_err-name
returns-in_err-name c =
    let p = err_from_is_err_and c.from_residual.result c.from_residual.ensures.1 in
    rw (p.1, p.2) (statement_unnamed _ _ c.requires _ (c.in_err-name.ensures {u = tt}))

pub returns-in_err-simple : goal.returns-in_err-simple
returns-in_err-simple c =
    let p = err_from_is_err_and c.from_residual-in_err-simple.result c.from_residual-in_err-simple.ensures.1 in
    rw (p.1, p.2) (named_lacks _ _ c.requires _ _ (c.in_ok-name.ensures {u = tt}) _ (sym c.is_at.ensures ∙ c.if-not-is_at.true) (c.in_err-simple.ensures {u = tt}))

pub returns-then-not-is_at : goal.returns-then-not-is_at
returns-then-not-is_at c =
    let name = c.in_ok-name.ensures {u = tt} in
    let simple = c.in_ok-simple.ensures {u = tt} in
    MatchResult-weaker c.sign.result c.sign.ensures
    (λ done read. named_reads _ _ c.requires _ _ name _ _ simple _ _ _ read (c.in_ok-push.ensures {u = tt}).ok) (λ refusal lacks. named_unended _ _ c.requires _ _ name _ _ simple refusal lacks)

pub returns-in_err-pass : goal.returns-in_err-pass
returns-in_err-pass c =
    let p = err_from_is_err_and c.from_residual-in_err-pass.result c.from_residual-in_err-pass.ensures.1 in
    rw (p.1, p.2) (call_over _ _ c.requires _ _ (c.in_ok-name.ensures {u = tt}) (sym c.is_at.ensures ∙ c.if-not-is_at.false) _ (c.in_err-pass.ensures {u = tt}))

pub returns-in_err-arguments : goal.returns-in_err-arguments
returns-in_err-arguments c =
    let p = err_from_is_err_and c.from_residual-in_err-arguments.result c.from_residual-in_err-arguments.ensures.1 in
    rw (p.1, p.2) (call_lacks _ _ c.requires _ _ (c.in_ok-name.ensures {u = tt}) (sym c.is_at.ensures ∙ c.if-not-is_at.false) _ (c.in_ok-pass.ensures {u = tt}) _ (c.in_err-arguments.ensures {u = tt}))

pub returns : goal.returns
returns c =
    let name = c.in_ok-name.ensures {u = tt} in
    let calls = sym c.is_at.ensures ∙ c.if-not-is_at.false in
    let opened = c.in_ok-pass.ensures {u = tt} in
    let arguments = c.in_ok-arguments.ensures {u = tt} in
    MatchResult-weaker c.sign-2.result c.sign-2.ensures
    (λ done read. call_reads _ _ c.requires _ _ name calls _ opened _ _ arguments _ _ _ read (c.in_ok-push-2.ensures {u = tt}).ok) (λ refusal lacks. call_unended _ _ c.requires _ _ name calls _ opened _ _ arguments refusal lacks)
