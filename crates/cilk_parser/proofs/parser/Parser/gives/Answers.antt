use Rattle.std.proofs.Common.{sym, ◌∙◌}
use Rattle.std.proofs.lemmas.Bool.{false≢true}
use Rattle.std.proofs.lemmas.Result.{err_from_is_err_and}
use Rattle.cilk_parser.proofs.Bricks.Functions.{result_absent, result_over, result_reads}
use Rattle.cilk_parser.proofs.parser.Parser.gives.Goals as goal
use Rattle.cilk_parser.proofs.parser.Parser.gives.Goals.{else-not-gives-via-then-not-gives+else-not-is_at_keyword, else-not-gives-via-else-not-gives}

pub returns-then-not-is_at_keyword : goal.returns-then-not-is_at_keyword
returns-then-not-is_at_keyword c = rw c.unexpected.ensures (result_absent _ (sym c.is_at_keyword-gives.ensures ∙ c.if-not-gives.true) (sym c.is_at_keyword.ensures ∙ c.if-not-is_at_keyword.true))

pub returns-in_err-pass : goal.returns-in_err-pass
returns-in_err-pass c =
    let p = err_from_is_err_and c.from_residual.result c.from_residual.ensures.1 in
    rw (p.1, p.2)
    (result_over _ _ (sym c.is_at_keyword-gives.ensures)
    (λ none. elim c.else-not-gives.branch [
      | else-not-gives-via-then-not-gives+else-not-is_at_keyword w ↦ sym w.is_at_keyword.ensures ∙ w.if-not-is_at_keyword.false
      | else-not-gives-via-else-not-gives w ↦ absurd (false≢true (sym none ∙ w.if-not-gives.false))
    ])
    _ (c.in_err-pass.ensures {u = tt}))

pub returns : goal.returns
returns c =
    result_reads _ _ (sym c.is_at_keyword-gives.ensures)
    (λ none. elim c.else-not-gives.branch [
      | else-not-gives-via-then-not-gives+else-not-is_at_keyword w ↦ sym w.is_at_keyword.ensures ∙ w.if-not-is_at_keyword.false
      | else-not-gives-via-else-not-gives w ↦ absurd (false≢true (sym none ∙ w.if-not-gives.false))
    ])
    _ (c.in_ok-pass.ensures {u = tt})
