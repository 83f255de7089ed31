use Rattle.std.proofs.Common.{rules, refl, ap, sym, ◌∙◌, to_z-of_z, SFits, w64, arith}
use Rattle.std.proofs.lemmas.Result.{MatchResult-weaker, err_from_is_err_and}
use Rattle.cilk_tree.specs.declared.tree.Expr.TheVariants.{Get, Unary}
use Rattle.cilk_parser.proofs.Bricks.Enclosed.{enclosed_lacks, enclosed_open, enclosed_reads}
use Rattle.cilk_parser.proofs.Bricks.OperandStarts.{number_reads, number_lacks, name_answers, name_lacks, group_over, inner_lacks, group_reads, other_lacks, prefix_over, prefix_lacks, prefix_reads, variable_reads, bracket_over, index_lacks, index_reads}
use Rattle.cilk_parser.proofs.Bricks.NextOperators.{operator_over, right_lacks, right_reads}
use Rattle.cilk_parser.proofs.Bricks.Stepping.{passed_shorter}
use Rattle.cilk_parser.proofs.parser.Parser.+expression.Goals as goal

-- ---- expression

pub expression-loop-operator-init : goal.expression-loop-operator-init
expression-loop-operator-init t c = c.in_ok-left.ensures {u = tt} c.args.least

pub expression-returns-in_err-pass-clause-reads : goal.expression-returns-in_err-pass-clause-reads
expression-returns-in_err-pass-clause-reads t c =
    let p = err_from_is_err_and c.from_residual-in_err-pass.result c.from_residual-in_err-pass.ensures.1 in
    rw (p.1, p.2) (operator_over _ _ _ _ _ _ c.loop-operator.invariant _ c.in-Some.ensures _ (c.in_err-pass.ensures {u = tt}))

pub expression-returns-in_err-right-clause-reads : goal.expression-returns-in_err-right-clause-reads
expression-returns-in_err-right-clause-reads t c =
    let p = err_from_is_err_and c.from_residual-in_err-right.result c.from_residual-in_err-right.ensures.1 in
    rw (p.1, p.2) (right_lacks _ _ _ _ _ _ c.loop-operator.invariant _ c.in-Some.ensures _ (c.in_ok-pass.ensures {u = tt}) _ c.strength.ensures.value _ c.in_err-right.ensures.reads)

pub expression-loop-operator-preserved : goal.expression-loop-operator-preserved
expression-loop-operator-preserved t c =
    right_reads _ _ _ _ _ _ c.loop-operator.invariant _ c.in-Some.ensures _ (c.in_ok-pass.ensures {u = tt}) _ c.strength.ensures.value _ _ _ c.in_ok-right.ensures.reads c.in_ok-right.ensures.stops (c.in_ok-left-2.ensures {u = tt})

pub expression-loop-operator-smaller : goal.expression-loop-operator-smaller
expression-loop-operator-smaller t c = let a = passed_shorter _ _ _ _ (c.in_ok-pass.ensures {u = tt}) in let b = c.in_ok-right.ensures.reads.shorter in omega arith

pub expression-returns-clause-reads : goal.expression-returns-clause-reads
expression-returns-clause-reads t c = c.loop-operator.invariant

pub expression-expression-requires : goal.expression-expression-requires
expression-expression-requires t c = let a = passed_shorter _ _ _ _ (c.in_ok-pass.ensures {u = tt}) in let b = c.loop-operator.invariant.shorter in (omega arith, tt)

-- ---- group

pub group-returns-in_err-pass : goal.group-returns-in_err-pass
group-returns-in_err-pass t c least =
    let p = err_from_is_err_and c.from_residual.result c.from_residual.ensures.1 in
    rw (p.1, p.2) (group_over least _ _ _ c.counts.ensures.same _ c.requires _ (c.in_err-pass.ensures {u = tt}))

pub group-returns : goal.group-returns
group-returns t c least =
    let passed = c.in_ok-pass.ensures {u = tt} in
    MatchResult-weaker c.enclosed.result c.enclosed.ensures
    (λ tree read. group_reads least _ _ _ c.counts.ensures.same _ c.requires _ passed _ tree read) (λ refusal lacks. inner_lacks least _ _ _ c.counts.ensures.same _ c.requires _ passed refusal lacks)

pub group-enclosed-requires : goal.group-enclosed-requires
group-enclosed-requires t c = let a = passed_shorter _ _ _ _ (c.in_ok-pass.ensures {u = tt}) in (omega arith, tt)

-- ---- enclosed

pub enclosed-expression-requires : goal.enclosed-expression-requires
enclosed-expression-requires t c = (omega arith, tt)

pub enclosed-returns-in_err-inner : goal.enclosed-returns-in_err-inner
enclosed-returns-in_err-inner t c =
    let p = err_from_is_err_and c.from_residual.result c.from_residual.ensures.1 in
    rw (p.1, p.2) (enclosed_lacks _ _ _ _ _ _ c.in_err-inner.ensures.reads)

pub enclosed-returns-in_err-sign : goal.enclosed-returns-in_err-sign
enclosed-returns-in_err-sign t c =
    let p = err_from_is_err_and c.from_residual-in_err-sign.result c.from_residual-in_err-sign.ensures.1 in
    rw (p.1, p.2) (enclosed_open _ _ _ _ _ _ _ c.in_ok-inner.ensures.reads c.in_ok-inner.ensures.stops _ (c.in_err-sign.ensures {u = tt}))

pub enclosed-returns : goal.enclosed-returns
enclosed-returns t c = enclosed_reads _ _ _ _ _ _ _ c.in_ok-inner.ensures.reads c.in_ok-inner.ensures.stops _ (c.in_ok-sign.ensures {u = tt})

-- ---- operand

pub operand-returns-in_err-pass-in-Number : goal.operand-returns-in_err-pass-in-Number
operand-returns-in_err-pass-in-Number t c least =
    let p = err_from_is_err_and c.from_residual.result c.from_residual.ensures.1 in
    rw (p.1, p.2) (number_lacks least _ _ _ c.counts.ensures.same _ _ (sym c.operand_start.ensures ∙ c.in-Number.is) _ (c.in_err-pass-in-Number.ensures {u = tt}))

pub operand-returns-in_ok-pass-in-Number : goal.operand-returns-in_ok-pass-in-Number
operand-returns-in_ok-pass-in-Number t c least =
    let fits : SFits w64 c.in-Number.value = search rules in
    rw (to_z-of_z fits) (number_reads least _ _ _ c.counts.ensures.same _ _ (sym c.operand_start.ensures ∙ c.in-Number.is) _ (c.in_ok-pass-in-Number.ensures {u = tt}))

pub operand-returns-in_err-name-in-Name : goal.operand-returns-in_err-name-in-Name
operand-returns-in_err-name-in-Name t c least =
    let p = err_from_is_err_and c.from_residual-in_err-name-in-Name.result c.from_residual-in_err-name-in-Name.ensures.1 in
    rw (p.1, p.2) (name_lacks least _ _ _ c.counts-in-Name.ensures.same _ (sym c.operand_start.ensures ∙ c.in-Name.is) _ (c.in_err-name-in-Name.ensures {u = tt}))

pub operand-returns-in_ok-name-in-Name : goal.operand-returns-in_ok-name-in-Name
operand-returns-in_ok-name-in-Name t c least = name_answers least _ _ _ c.counts-in-Name.ensures.same _ _ _ (c.in_ok-name-in-Name.ensures {u = tt}) _ c.variable.result c.variable.ensures

pub operand-returns-in-Other : goal.operand-returns-in-Other
operand-returns-in-Other t c least = rw c.unexpected.ensures (other_lacks least _ _ _ refl _ (sym c.operand_start.ensures ∙ c.in-Other.is))

pub operand-variable-requires : goal.operand-variable-requires
operand-variable-requires t c = let named = c.in_ok-name-in-Name.ensures {u = tt} in let a = passed_shorter _ _ _ _ named.passed in (omega arith, named.passed.shallow)

-- ---- prefix

pub prefix-returns-in_err-pass : goal.prefix-returns-in_err-pass
prefix-returns-in_err-pass t c least =
    let p = err_from_is_err_and c.from_residual.result c.from_residual.ensures.1 in
    rw (p.1, p.2) (prefix_over least _ _ _ _ _ c.operator_counts.ensures.same c.requires _ (c.in_err-pass.ensures {u = tt}))

pub prefix-returns-in_err-operand : goal.prefix-returns-in_err-operand
prefix-returns-in_err-operand t c least =
    let p = err_from_is_err_and c.from_residual-in_err-operand.result c.from_residual-in_err-operand.ensures.1 in
    rw (p.1, p.2) (prefix_lacks least _ _ _ _ _ c.operator_counts.ensures.same c.requires _ (c.in_ok-pass.ensures {u = tt}) _ (c.in_err-operand.ensures {u = tt} 7))

pub prefix-returns : goal.prefix-returns
prefix-returns t c least =
    prefix_reads least _ _ _ _ _ c.operator_counts.ensures.same c.requires _ (c.in_ok-pass.ensures {u = tt}) _ c.in_ok-operand.operand _ (c.in_ok-operand.ensures {u = tt} 7) (ap (Unary c.args.operator) (c.in_ok-new.ensures {u = tt}))

pub prefix-operand-requires : goal.prefix-operand-requires
prefix-operand-requires t c = let a = passed_shorter _ _ _ _ (c.in_ok-pass.ensures {u = tt}) in (omega arith, tt)

-- ---- variable

pub variable-returns-then-not-is_at : goal.variable-returns-then-not-is_at
variable-returns-then-not-is_at t c = variable_reads _ _ _ (sym c.is_at.ensures ∙ c.if-not-is_at.true)

pub variable-returns-in_err-pass : goal.variable-returns-in_err-pass
variable-returns-in_err-pass t c =
    let p = err_from_is_err_and c.from_residual.result c.from_residual.ensures.1 in
    rw (p.1, p.2) (bracket_over _ _ _ (sym c.is_at.ensures ∙ c.if-not-is_at.false) _ (c.in_err-pass.ensures {u = tt}))

pub variable-returns-in_err-index : goal.variable-returns-in_err-index
variable-returns-in_err-index t c =
    let p = err_from_is_err_and c.from_residual-in_err-index.result c.from_residual-in_err-index.ensures.1 in
    rw (p.1, p.2) (index_lacks _ _ _ (sym c.is_at.ensures ∙ c.if-not-is_at.false) _ (c.in_ok-pass.ensures {u = tt}) _ (c.in_err-index.ensures {u = tt}))

pub variable-returns : goal.variable-returns
variable-returns t c =
    index_reads _ _ _ (sym c.is_at.ensures ∙ c.if-not-is_at.false) _ (c.in_ok-pass.ensures {u = tt}) _ _ _ (c.in_ok-index.ensures {u = tt})
    (ap (λ n. Get n c.in_ok-new.field-0) c.name.view_is ∙ ap (Get c.args.name) (c.in_ok-new.ensures {u = tt}))

pub variable-enclosed-requires : goal.variable-enclosed-requires
variable-enclosed-requires t c = let a = passed_shorter _ _ _ _ (c.in_ok-pass.ensures {u = tt}) in (omega arith, tt)
