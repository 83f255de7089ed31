use Rattle.std.proofs.lemmas.Result.{MatchResult-weaker, err_from_is_err_and}
use Rattle.cilk_parser.proofs.Bricks.Statements.{print_lacks, print_over, print_reads, print_unended}
use Rattle.cilk_parser.proofs.parser.Parser.printing.Goals as goal

pub returns-in_err-pass : goal.returns-in_err-pass
returns-in_err-pass c =
    let p = err_from_is_err_and c.from_residual.result c.from_residual.ensures.1 in
    rw (p.1, p.2) (print_over _ _ _ c.requires (c.in_err-pass.ensures {u = tt}))

pub returns-in_err-value : goal.returns-in_err-value
returns-in_err-value c =
    let p = err_from_is_err_and c.from_residual-in_err-value.result c.from_residual-in_err-value.ensures.1 in
    rw (p.1, p.2) (print_lacks _ _ _ c.requires (c.in_ok-pass.ensures {u = tt}) _ (c.in_err-value.ensures {u = tt}))

pub returns : goal.returns
returns c =
    MatchResult-weaker c.sign.result c.sign.ensures (λ done read. print_reads _ _ _ c.requires (c.in_ok-pass.ensures {u = tt}) _ _ (c.in_ok-value.ensures {u = tt}) _ _ _ read (c.in_ok-push.ensures {u = tt}).ok) (λ refusal lacks. print_unended _ _ _ c.requires (c.in_ok-pass.ensures {u = tt}) _ _ (c.in_ok-value.ensures {u = tt}) refusal lacks)
