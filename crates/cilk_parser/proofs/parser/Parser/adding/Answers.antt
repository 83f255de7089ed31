use Rattle.std.proofs.lemmas.Result.{MatchResult-weaker, err_from_is_err_and}
use Rattle.cilk_parser.proofs.Bricks.Statements.{add_lacks, add_over, add_reads, add_unended}
use Rattle.cilk_parser.proofs.parser.Parser.adding.Goals as goal

pub returns-in_err-pass : goal.returns-in_err-pass
returns-in_err-pass c =
    let p = err_from_is_err_and c.from_residual.result c.from_residual.ensures.1 in
    rw (p.1, p.2) (add_over _ _ _ c.requires (c.in_err-pass.ensures {u = tt}))

pub returns-in_err-addition : goal.returns-in_err-addition
returns-in_err-addition c =
    let p = err_from_is_err_and c.from_residual-in_err-addition.result c.from_residual-in_err-addition.ensures.1 in
    rw (p.1, p.2) (add_lacks _ _ _ c.requires (c.in_ok-pass.ensures {u = tt}) _ (c.in_err-addition.ensures {u = tt}))

pub returns : goal.returns
returns c =
    MatchResult-weaker c.sign.result c.sign.ensures (λ done read. add_reads _ _ _ c.requires (c.in_ok-pass.ensures {u = tt}) _ _ (c.in_ok-addition.ensures {u = tt}) _ _ _ read (c.in_ok-push.ensures {u = tt}).ok) (λ refusal lacks. add_unended _ _ _ c.requires (c.in_ok-pass.ensures {u = tt}) _ _ (c.in_ok-addition.ensures {u = tt}) refusal lacks)
