use Rattle.std.proofs.Common.{sym, ◌∙◌}
use Rattle.std.proofs.lemmas.Result.{err_from_is_err_and}
use Rattle.cilk_parser.proofs.Bricks.Declarations.{declares_nothing, declares_bare, declares_valued, lacks_set}
use Rattle.cilk_parser.proofs.parser.Parser.declarator.Goals as goal

pub returns-in_err-name : goal.returns-in_err-name
returns-in_err-name c =
    let e = err_from_is_err_and c.from_residual.result c.from_residual.ensures.1 in
    rw (e.1, e.2) (declares_nothing _ _ _ c.in_err-name.ensures)

pub returns-then-not-is_at : goal.returns-then-not-is_at
returns-then-not-is_at c = rw c.in_ok-push.ensures.ok (declares_bare _ _ _ _ c.in_ok-name.ensures _ (sym c.is_at.ensures ∙ c.if-not-is_at.true))

pub returns-in_err-set : goal.returns-in_err-set
returns-in_err-set c =
    let e = err_from_is_err_and c.from_residual-in_err-set.result c.from_residual-in_err-set.ensures.1 in
    rw (e.1, e.2)
    (lacks_set c.args.level c.in_ok-name.name c.args.self.now c.name.new.self c.in_ok-name.ensures c.pass.new.self (sym c.is_at.ensures ∙ c.if-not-is_at.false) (c.in_ok-pass.ensures {u = tt})
    c.in_err-set.field-0.0 c.in_err-set.ensures)

pub returns : goal.returns
returns c =
    rw (c.in_ok-push-3.ensures.ok, c.in_ok-push-2.ensures.ok, c.in_ok-copy_of.ensures)
    (declares_valued _ _ _ _ c.in_ok-name.ensures _ (sym c.is_at.ensures ∙ c.if-not-is_at.false) (c.in_ok-pass.ensures {u = tt}) _ _ _ c.in_ok-set.ensures)
