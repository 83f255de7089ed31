use Rattle.std.proofs.Common.{sym, ◌∙◌}
use Rattle.std.proofs.lemmas.Result.{err_from_is_err_and}
use Rattle.cilk_parser.proofs.Bricks.Functions.{no_names_over, nothing_over, nothing_reads, void_closed, void_unclosed}
use Rattle.cilk_parser.proofs.parser.Parser.parameters.Goals as goal

pub returns-in_err-pass : goal.returns-in_err-pass
returns-in_err-pass c =
    let p = err_from_is_err_and c.from_residual.result c.from_residual.ensures.1 in
    rw (p.1, p.2) (no_names_over _ (sym c.is_at_keyword.ensures ∙ c.if-is_at_keyword.true) _ (c.in_err-pass.ensures {u = tt}))

pub returns-in_err-sign : goal.returns-in_err-sign
returns-in_err-sign c =
    let p = err_from_is_err_and c.from_residual-in_err-sign.result c.from_residual-in_err-sign.ensures.1 in
    rw (p.1, p.2) (void_unclosed _ (sym c.is_at_keyword.ensures ∙ c.if-is_at_keyword.true) _ (c.in_ok-pass.ensures {u = tt}) _ (c.in_err-sign.ensures {u = tt}))

pub returns-then-is_at_keyword : goal.returns-then-is_at_keyword
returns-then-is_at_keyword c =
    void_closed _ (sym c.is_at_keyword.ensures ∙ c.if-is_at_keyword.true) _ (c.in_ok-pass.ensures {u = tt}) _ _ c.new.ensures (c.in_ok-sign.ensures {u = tt})

pub returns-in_err-pass-2 : goal.returns-in_err-pass-2
returns-in_err-pass-2 c =
    let p = err_from_is_err_and c.from_residual-in_err-pass-2.result c.from_residual-in_err-pass-2.ensures.1 in
    rw (p.1, p.2) (nothing_over _ (sym c.is_at.ensures ∙ c.if-is_at.true) _ (c.in_err-pass-2.ensures {u = tt}))

pub returns-then-is_at : goal.returns-then-is_at
returns-then-is_at c = nothing_reads _ (sym c.is_at.ensures ∙ c.if-is_at.true) _ _ c.new-then-is_at.ensures (c.in_ok-pass-2.ensures {u = tt})
