use Rattle.std.proofs.Common.{◌∷◌, ◌++◌, [], ap, sym, ◌∙◌}
use Rattle.std.proofs.lemmas.Result.{err_from_is_err_and}
use Rattle.cilk_parser.proofs.Bricks.Functions.{comma_over, first_lacks, first_reads, names_closed, names_unclosed, next_lacks, next_reads, next_shorter}
use Rattle.cilk_parser.proofs.parser.Parser.parameter_names.Goals as goal

pub returns-in_err-parameter : goal.returns-in_err-parameter
returns-in_err-parameter c =
    let p = err_from_is_err_and c.from_residual.result c.from_residual.ensures.1 in
    rw (p.1, p.2) (first_lacks _ c.requires.no_void c.requires.no_close _ (c.in_err-parameter.ensures {u = tt}))

pub loop-self-init : goal.loop-self-init
loop-self-init c =
    first_reads _ c.requires.no_void c.requires.no_close _ _ _
    ((c.in_ok-push.ensures {u = tt}).ok ∙ ap (λ l. l ++ c.in_ok-parameter.field-0 ∷ []) c.new-names.ensures) (c.in_ok-parameter.ensures {u = tt})

pub returns-in_err-pass : goal.returns-in_err-pass
returns-in_err-pass c =
    let p = err_from_is_err_and c.from_residual-in_err-pass.result c.from_residual-in_err-pass.ensures.1 in
    rw (p.1, p.2) (comma_over _ _ _ c.loop-self.invariant (sym c.is_at.ensures ∙ c.loop-self-test.true) _ (c.in_err-pass.ensures {u = tt}))

pub returns-in_err-parameter-2 : goal.returns-in_err-parameter-2
returns-in_err-parameter-2 c =
    let p = err_from_is_err_and c.from_residual-in_err-parameter-2.result c.from_residual-in_err-parameter-2.ensures.1 in
    rw (p.1, p.2)
    (next_lacks _ _ _ c.loop-self.invariant (sym c.is_at.ensures ∙ c.loop-self-test.true) _ (c.in_ok-pass.ensures {u = tt}) _ (c.in_err-parameter-2.ensures {u = tt}))

pub loop-self-smaller : goal.loop-self-smaller
loop-self-smaller c =
    next_shorter _ _ _ c.loop-self.invariant (sym c.is_at.ensures ∙ c.loop-self-test.true) _ (c.in_ok-pass.ensures {u = tt}) _ _ (c.in_ok-parameter-2.ensures {u = tt})

pub loop-self-preserved : goal.loop-self-preserved
loop-self-preserved c =
    next_reads _ _ _ c.loop-self.invariant (sym c.is_at.ensures ∙ c.loop-self-test.true) _ (c.in_ok-pass.ensures {u = tt}) _ _ (c.in_ok-parameter-2.ensures {u = tt}) _ ((c.in_ok-push-2.ensures {u = tt}).ok)

pub returns-in_err-sign : goal.returns-in_err-sign
returns-in_err-sign c =
    let p = err_from_is_err_and c.from_residual-in_err-sign.result c.from_residual-in_err-sign.ensures.1 in
    rw (p.1, p.2) (names_unclosed _ _ _ c.loop-self.invariant (sym c.is_at.ensures ∙ c.loop-self-test.false) _ (c.in_err-sign.ensures {u = tt}))

pub returns : goal.returns
returns c = names_closed _ _ _ c.loop-self.invariant (sym c.is_at.ensures ∙ c.loop-self-test.false) _ (c.in_ok-sign.ensures {u = tt})
