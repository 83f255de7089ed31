use Rattle.std.proofs.Common.{suc, max, ◌∙◌, ap, sym}
use Rattle.cilk_meaning.proofs.Resolving.{resolved_binary}
use Rattle.compiled_code.specs.Emitted.{expr_operands}
use Rattle.cilk_compiler.specs.Emitting.{expr_in, with_expr}
use Rattle.cilk_compiler.proofs.Joining.{binary_made, right_same}
use Rattle.cilk_compiler.proofs.emitter.Emitter.+expression.Goals as goal

pub returns-in_ok-close-in-Binary-clause-code : goal.returns-in_ok-close-in-Binary-clause-code
returns-in_ok-close-in-Binary-clause-code t c =
    let old = c.args.self.now in
    let left = c.in-Binary.left in
    let right = c.in-Binary.right in
    let first_is = c.in_ok-below-in-Binary.ensures.code ∙ ap (λ x. with_expr (expr_in old x) old) c.get-in-Binary.ensures in
    let opening = c.open.new.self in
    let second_is = c.in_ok-above-in-Binary.ensures.code ∙ ap (λ x. with_expr (expr_in opening x) opening) c.get-in-Binary-2.ensures in
    binary_made old c.in-Binary.operator left right c.expression-in-Binary.new.self opening c.expression-in-Binary-2.new.self c.in_ok-join-in-Binary.join
    first_is c.in_ok-join-in-Binary.ensures.code c.in_ok-join-in-Binary.ensures.join second_is
    c.close.new.self c.args.expr.now c.in-Binary.is c.in_ok-close-in-Binary.ensures

pub returns-in_ok-close-in-Binary-clause-operands : goal.returns-in_ok-close-in-Binary-clause-operands
returns-in_ok-close-in-Binary-clause-operands t c =
    let old = c.args.self.now in
    let left = c.in-Binary.left in
    let right = c.in-Binary.right in
    let first_is = c.in_ok-below-in-Binary.ensures.code ∙ ap (λ x. with_expr (expr_in old x) old) c.get-in-Binary.ensures in
    let opening = c.open.new.self in
    let second_is = c.in_ok-above-in-Binary.ensures.code ∙ ap (λ x. with_expr (expr_in opening x) opening) c.get-in-Binary-2.ensures in
    let same = right_same old c.in-Binary.operator left right c.expression-in-Binary.new.self opening c.expression-in-Binary-2.new.self c.in_ok-join-in-Binary.join
    first_is c.in_ok-join-in-Binary.ensures.code c.in_ok-join-in-Binary.ensures.join second_is in
    let below = c.in_ok-below-in-Binary.ensures.operands ∙ ap (λ x. expr_operands (expr_in old x)) c.get-in-Binary.ensures in
    let above = c.in_ok-above-in-Binary.ensures.operands ∙ ap (λ x. expr_operands (expr_in opening x)) c.get-in-Binary-2.ensures ∙ ap expr_operands same in
    c.in_ok-operands-in-Binary.ensures
    ∙ (λ i. max (below i) (suc (above i)))
    ∙ ap expr_operands (sym (ap (expr_in old) c.in-Binary.is ∙ resolved_binary old.globals.now c.in-Binary.operator left right old.locals.scope))
