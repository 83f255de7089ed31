use Rattle.std.proofs.lemmas.Result.{MatchResult-weaker, err_from_is_err_and}
use Rattle.cilk_parser.proofs.Bricks.Conditions.{condition_lacks, condition_reads, condition_unopened}
use Rattle.cilk_parser.proofs.parser.Parser.condition.Goals as goal

pub returns-in_err-sign : goal.returns-in_err-sign
returns-in_err-sign c =
    let p = err_from_is_err_and c.from_residual.result c.from_residual.ensures.1 in
    rw (p.1, p.2) (condition_unopened _ _ _ (c.in_err-sign.ensures {u = tt}))

pub returns : goal.returns
returns c =
    let opened = c.in_ok-sign.ensures {u = tt} in
    MatchResult-weaker c.enclosed.result c.enclosed.ensures (λ tree read. condition_reads _ _ _ opened _ tree read) (λ refusal lacks. condition_lacks _ _ _ opened refusal lacks)
