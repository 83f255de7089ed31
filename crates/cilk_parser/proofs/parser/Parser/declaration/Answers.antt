use Rattle.std.proofs.Common.{sym, ◌∙◌}
use Rattle.std.proofs.lemmas.Result.{err_from_is_err_and}
use Rattle.cilk_parser.proofs.Bricks.Declarations.{comma_over, declaration_begins, declaration_goes_on, ends_or_refused, lacks_declarator}
use Rattle.cilk_parser.proofs.parser.Parser.declaration.Goals as goal

pub loop-self-init : goal.loop-self-init
loop-self-init c = declaration_begins _ _ _

pub returns-in_err-declarator : goal.returns-in_err-declarator
returns-in_err-declarator c =
    let e = err_from_is_err_and c.from_residual.result c.from_residual.ensures.1 in
    rw (e.1, e.2) (lacks_declarator _ _ _ _ _ c.in_err-declarator.field-0.0 c.loop-self.invariant c.in_err-declarator.ensures)

pub returns-then-not-is_at : goal.returns-then-not-is_at
returns-then-not-is_at c =
    ends_or_refused _ _ _ _ _ _ _ c.loop-self.invariant (c.in_ok-declarator.ensures {u = tt}) c.sign.new.self c.sign.result (sym c.is_at.ensures ∙ c.if-not-is_at.true) c.sign.ensures

pub loop-self-preserved : goal.loop-self-preserved
loop-self-preserved c =
    declaration_goes_on _ _ _ _ _ _ _ c.loop-self.invariant (c.in_ok-declarator.ensures {u = tt}) _ (sym c.is_at.ensures ∙ c.if-not-is_at.false) (c.in_ok-pass.ensures {u = tt})

pub returns-in_err-pass : goal.returns-in_err-pass
returns-in_err-pass c =
    let e = err_from_is_err_and c.from_residual-in_err-pass.result c.from_residual-in_err-pass.ensures.1 in
    rw (e.1, e.2)
    (comma_over _ _ _ _ _ _ _ c.loop-self.invariant (c.in_ok-declarator.ensures {u = tt}) c.in_err-pass.field-0.0 (sym c.is_at.ensures ∙ c.if-not-is_at.false) c.in_err-pass.ensures)
