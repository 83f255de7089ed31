use Rattle.std.proofs.Common.{refl, sym, ◌∙◌}
use Rattle.std.proofs.lemmas.Result.{err_from_is_err_and}
use Rattle.cilk_parser.proofs.Bricks.Arrays.{array_name_answers, array_unnamed, int_over, no_bracket}
use Rattle.cilk_parser.proofs.parser.Parser.first_array_name.Goals as goal

pub returns-in_err-pass : goal.returns-in_err-pass
returns-in_err-pass c =
    let p = err_from_is_err_and c.from_residual.result c.from_residual.ensures.1 in
    rw (p.1, p.2) (int_over _ c.requires _ (c.in_err-pass.ensures {u = tt}))

pub returns-then-is_name_before : goal.returns-then-is_name_before
returns-then-is_name_before c =
    array_name_answers _ _ _ c.requires (c.in_ok-pass.ensures {u = tt}) (sym c.is_name_before.ensures ∙ c.if-is_name_before.true) c.name.result c.name.ensures

pub returns-in_err-name : goal.returns-in_err-name
returns-in_err-name c =
    let p = err_from_is_err_and c.from_residual-in_err-name.result c.from_residual-in_err-name.ensures.1 in
    rw (p.1, p.2)
    (array_unnamed _ c.requires _ (c.in_ok-pass.ensures {u = tt}) _ _ (sym c.is_name_before.ensures ∙ c.if-is_name_before.false) refl _ (c.in_err-name.ensures {u = tt}))

pub returns : goal.returns
returns c =
    rw c.unexpected.ensures
    (no_bracket _ c.requires _ (c.in_ok-pass.ensures {u = tt}) (sym c.is_name_before.ensures ∙ c.if-is_name_before.false) _ _ (c.in_ok-name.ensures {u = tt}))
