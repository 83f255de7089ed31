use Rattle.std.proofs.lemmas.Result.{MatchResult-weaker, err_from_is_err_and}
use Rattle.cilk_parser.proofs.Bricks.Statements.{spawn_lacks, spawn_over, spawn_reads, spawn_unended}
use Rattle.cilk_parser.proofs.parser.Parser.spawning.Goals as goal

pub returns-in_err-pass : goal.returns-in_err-pass
returns-in_err-pass c =
    let p = err_from_is_err_and c.from_residual.result c.from_residual.ensures.1 in
    rw (p.1, p.2) (spawn_over _ _ _ c.requires (c.in_err-pass.ensures {u = tt}))

pub returns-in_err-call : goal.returns-in_err-call
returns-in_err-call c =
    let p = err_from_is_err_and c.from_residual-in_err-call.result c.from_residual-in_err-call.ensures.1 in
    rw (p.1, p.2) (spawn_lacks _ _ _ c.requires (c.in_ok-pass.ensures {u = tt}) _ c.in_err-call.ensures.spawned)

pub returns : goal.returns
returns c =
    MatchResult-weaker c.sign.result c.sign.ensures (λ done read. spawn_reads _ _ _ c.requires (c.in_ok-pass.ensures {u = tt}) _ _ c.in_ok-call.ensures.spawned _ _ _ read (c.in_ok-push.ensures {u = tt}).ok) (λ refusal lacks. spawn_unended _ _ _ c.requires (c.in_ok-pass.ensures {u = tt}) _ _ c.in_ok-call.ensures.spawned refusal lacks)
