use Rattle.std.proofs.lemmas.Result.{MatchResult-weaker, err_from_is_err_and}
use Rattle.cilk_parser.proofs.Bricks.Statements.{sync_over, sync_reads, sync_unended}
use Rattle.cilk_parser.proofs.parser.Parser.syncing.Goals as goal

pub returns-in_err-pass : goal.returns-in_err-pass
returns-in_err-pass c =
    let p = err_from_is_err_and c.from_residual.result c.from_residual.ensures.1 in
    rw (p.1, p.2) (sync_over _ _ _ c.requires (c.in_err-pass.ensures {u = tt}))

pub returns : goal.returns
returns c =
    MatchResult-weaker c.sign.result c.sign.ensures (λ done read. sync_reads _ _ _ c.requires (c.in_ok-pass.ensures {u = tt}) _ _ _ read (c.in_ok-push.ensures {u = tt}).ok) (λ refusal lacks. sync_unended _ _ _ c.requires (c.in_ok-pass.ensures {u = tt}) refusal lacks)
