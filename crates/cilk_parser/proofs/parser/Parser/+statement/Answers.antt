use Rattle.std.proofs.Common.{[], ◌∷◌, ◌++◌, ap, sym, ◌∙◌, arith}
use Rattle.std.proofs.lemmas.Result.{MatchResult-weaker, err_from_is_err_and}
use Rattle.cilk_parser.proofs.Bricks.Beginnings.{empty_over, empty_reads, other_refuses}
use Rattle.cilk_parser.proofs.Bricks.Blocks.{begins_list, block_lacks, block_over, block_reads, braced_lacks, braced_over, braced_reads, declaration_lacks, declaration_over, declaration_reads, goes_on_list, list_lacks, list_over, list_reads, single_lacks, single_reads, stated_lacks, stated_reads}
use Rattle.cilk_parser.proofs.Bricks.Owners.{else_lacks, else_over, else_reads, for_lacks_body, for_reads, head_lacks, head_of_if, head_of_while, head_over, head_without, if_lacks, if_reads, no_else, while_reads}
use Rattle.cilk_parser.proofs.Bricks.Stepping.{passed_shorter}
use Rattle.cilk_parser.proofs.parser.Parser.+statement.Goals as goal

-- ---- a list of statements

pub inners-loop-self-init : goal.inners-loop-self-init
inners-loop-self-init t c = rw c.new-trees.ensures (begins_list _ _)

pub inners-inner-requires : goal.inners-inner-requires
inners-inner-requires t c = let a = c.loop-self.invariant.no_longer in (omega arith, sym c.is_at.ensures ∙ c.loop-self-test.true)

pub inners-loop-self-smaller : goal.inners-loop-self-smaller
inners-loop-self-smaller t c = let a = (c.in_ok-inner.ensures {u = tt}).shorter in omega arith

pub inners-loop-self-preserved : goal.inners-loop-self-preserved
inners-loop-self-preserved t c = goes_on_list _ _ _ _ c.loop-self.invariant _ _ (c.in_ok-inner.ensures {u = tt})

pub inners-returns-in_err-inner : goal.inners-returns-in_err-inner
inners-returns-in_err-inner t c =
    let p = err_from_is_err_and c.from_residual.result c.from_residual.ensures.1 in
    rw (p.1, p.2) (list_lacks _ _ _ _ c.loop-self.invariant _ _ (c.in_err-inner.ensures {u = tt}))

pub inners-returns-in_err-pass : goal.inners-returns-in_err-pass
inners-returns-in_err-pass t c =
    let p = err_from_is_err_and c.from_residual-in_err-pass.result c.from_residual-in_err-pass.ensures.1 in
    rw (p.1, p.2) (list_over _ _ _ _ c.loop-self.invariant _ (sym c.is_at.ensures ∙ c.loop-self-test.false) _ (c.in_err-pass.ensures {u = tt}))

pub inners-returns : goal.inners-returns
inners-returns t c = list_reads _ _ _ _ c.loop-self.invariant _ (sym c.is_at.ensures ∙ c.loop-self-test.false) _ (c.in_ok-pass.ensures {u = tt})

-- ---- what stands in it

pub inner-returns-in_err-pass : goal.inner-returns-in_err-pass
inner-returns-in_err-pass t c =
    let p = err_from_is_err_and c.from_residual.result c.from_residual.ensures.1 in
    rw (p.1, p.2) (declaration_over _ _ (sym c.is_at_keyword.ensures ∙ c.if-is_at_keyword.true) _ (c.in_err-pass.ensures {u = tt}))

pub inner-returns-then-is_at_keyword : goal.inner-returns-then-is_at_keyword
inner-returns-then-is_at_keyword t c =
    MatchResult-weaker c.declaration.result c.declaration.ensures
    (λ done read. declaration_reads _ _ (sym c.is_at_keyword.ensures ∙ c.if-is_at_keyword.true) _ (c.in_ok-pass.ensures {u = tt}) _ _ _ read)
    (λ refusal lacks. declaration_lacks _ _ (sym c.is_at_keyword.ensures ∙ c.if-is_at_keyword.true) _ (c.in_ok-pass.ensures {u = tt}) refusal lacks)

pub inner-statement-requires : goal.inner-statement-requires
inner-statement-requires t c = (omega arith, tt)

pub inner-returns-then-not-is_at : goal.inner-returns-then-not-is_at
inner-returns-then-not-is_at t c =
    MatchResult-weaker c.statement.result c.statement.ensures
    (λ done read. stated_reads _ _ c.requires (sym c.is_at_keyword.ensures ∙ c.if-is_at_keyword.false) (sym c.is_at.ensures ∙ c.if-not-is_at.true) _ _ _ read)
    (λ refusal lacks. stated_lacks _ _ c.requires (sym c.is_at_keyword.ensures ∙ c.if-is_at_keyword.false) (sym c.is_at.ensures ∙ c.if-not-is_at.true) refusal lacks)

pub inner-returns-in_err-pass-2 : goal.inner-returns-in_err-pass-2
inner-returns-in_err-pass-2 t c =
    let p = err_from_is_err_and c.from_residual-in_err-pass-2.result c.from_residual-in_err-pass-2.ensures.1 in
    rw (p.1, p.2) (block_over _ _ (sym c.is_at.ensures ∙ c.if-not-is_at.false) _ (c.in_err-pass-2.ensures {u = tt}))

pub inner-inners-requires : goal.inner-inners-requires
inner-inners-requires t c = let a = passed_shorter _ _ _ _ (c.in_ok-pass-2.ensures {u = tt}) in (omega arith, tt)

pub inner-returns-in_err-inside : goal.inner-returns-in_err-inside
inner-returns-in_err-inside t c =
    let p = err_from_is_err_and c.from_residual-in_err-inside.result c.from_residual-in_err-inside.ensures.1 in
    rw (p.1, p.2) (block_lacks _ _ (sym c.is_at.ensures ∙ c.if-not-is_at.false) _ (c.in_ok-pass-2.ensures {u = tt}) _ (c.in_err-inside.ensures {u = tt}))

pub inner-returns : goal.inner-returns
inner-returns t c = block_reads _ _ (sym c.is_at.ensures ∙ c.if-not-is_at.false) _ (c.in_ok-pass-2.ensures {u = tt}) _ _ (c.in_ok-inside.ensures {u = tt}) _ _ (c.in_ok-push.ensures {u = tt}).ok

-- ---- a body

pub body-returns-in_err-pass : goal.body-returns-in_err-pass
body-returns-in_err-pass t c =
    let p = err_from_is_err_and c.from_residual.result c.from_residual.ensures.1 in
    rw (p.1, p.2) (braced_over _ _ _ (sym c.is_at.ensures ∙ c.if-is_at.true) _ (c.in_err-pass.ensures {u = tt}))

pub body-inners-requires : goal.body-inners-requires
body-inners-requires t c = let a = passed_shorter _ _ _ _ (c.in_ok-pass.ensures {u = tt}) in (omega arith, tt)

pub body-returns-then-is_at : goal.body-returns-then-is_at
body-returns-then-is_at t c =
    MatchResult-weaker c.inners.result c.inners.ensures
    (λ trees read. braced_reads _ _ _ (sym c.is_at.ensures ∙ c.if-is_at.true) _ (c.in_ok-pass.ensures {u = tt}) _ trees read)
    (λ refusal lacks. braced_lacks _ _ _ (sym c.is_at.ensures ∙ c.if-is_at.true) _ (c.in_ok-pass.ensures {u = tt}) refusal lacks)

pub body-statement-requires : goal.body-statement-requires
body-statement-requires t c = (omega arith, tt)

pub body-returns-in_err-statement : goal.body-returns-in_err-statement
body-returns-in_err-statement t c =
    let p = err_from_is_err_and c.from_residual-in_err-statement.result c.from_residual-in_err-statement.ensures.1 in
    rw (p.1, p.2) (single_lacks _ _ _ (sym c.is_at.ensures ∙ c.if-is_at.false) _ (c.in_err-statement.ensures {u = tt}))

pub body-returns : goal.body-returns
body-returns t c = single_reads _ _ _ (sym c.is_at.ensures ∙ c.if-is_at.false) _ _ (rw (← c.new-trees.ensures) (c.in_ok-statement.ensures {u = tt}))

-- ---- a statement

pub statement-returns-in-Empty : goal.statement-returns-in-Empty
statement-returns-in-Empty t c =
    MatchResult-weaker c.pass.result c.pass.ensures (λ done passed. empty_reads _ _ _ _ (sym c.statement_start.ensures ∙ c.in-Empty.is) passed) (λ refusal over. empty_over _ _ refusal (sym c.statement_start.ensures ∙ c.in-Empty.is) over)

pub statement-branch-self-requires : goal.statement-branch-self-requires
statement-branch-self-requires t c = (omega arith, (sym c.statement_start.ensures ∙ c.in-If.is))

pub statement-while_loop-requires : goal.statement-while_loop-requires
statement-while_loop-requires t c = (omega arith, (sym c.statement_start.ensures ∙ c.in-While.is))

pub statement-for_loop-requires : goal.statement-for_loop-requires
statement-for_loop-requires t c = (omega arith, (sym c.statement_start.ensures ∙ c.in-For.is))

pub statement-returns-in-Other : goal.statement-returns-in-Other
statement-returns-in-Other t c = rw c.unexpected.ensures (other_refuses _ _ (sym c.statement_start.ensures ∙ c.in-Other.is))

-- ---- `if`

pub branch-returns-in_err-pass : goal.branch-returns-in_err-pass
branch-returns-in_err-pass t c =
    let p = err_from_is_err_and c.from_residual.result c.from_residual.ensures.1 in
    rw (p.1, p.2) (head_over _ _ _ _ _ head_of_if _ _ c.requires _ (c.in_err-pass.ensures {u = tt}))

pub branch-returns-in_err-condition : goal.branch-returns-in_err-condition
branch-returns-in_err-condition t c =
    let p = err_from_is_err_and c.from_residual-in_err-condition.result c.from_residual-in_err-condition.ensures.1 in
    rw (p.1, p.2) (head_lacks _ _ _ _ _ head_of_if _ _ c.requires _ (c.in_ok-pass.ensures {u = tt}) _ (c.in_err-condition.ensures {u = tt}))

pub branch-body-requires : goal.branch-body-requires
branch-body-requires t c = let a = passed_shorter _ _ _ _ (c.in_ok-pass.ensures {u = tt}) in let b = (c.in_ok-condition.ensures {u = tt}).shorter in (omega arith, tt)

pub branch-returns-in_err-taken : goal.branch-returns-in_err-taken
branch-returns-in_err-taken t c =
    let p = err_from_is_err_and c.from_residual-in_err-taken.result c.from_residual-in_err-taken.ensures.1 in
    rw (p.1, p.2) (head_without _ _ _ _ _ head_of_if _ _ c.requires _ (c.in_ok-pass.ensures {u = tt}) _ _ (c.in_ok-condition.ensures {u = tt}) _ (c.in_err-taken.ensures {u = tt}))

pub branch-otherwise-requires : goal.branch-otherwise-requires
branch-otherwise-requires t c =
    let a = passed_shorter _ _ _ _ (c.in_ok-pass.ensures {u = tt}) in
    let b = (c.in_ok-condition.ensures {u = tt}).shorter in
    let d = (c.in_ok-taken.ensures {u = tt}).shorter in
    (omega arith, tt)

pub branch-returns-in_err-otherwise : goal.branch-returns-in_err-otherwise
branch-returns-in_err-otherwise t c =
    let p = err_from_is_err_and c.from_residual-in_err-otherwise.result c.from_residual-in_err-otherwise.ensures.1 in
    rw (p.1, p.2) (if_lacks _ _ c.requires _ (c.in_ok-pass.ensures {u = tt}) _ _ (c.in_ok-condition.ensures {u = tt}) _ _ (c.in_ok-taken.ensures {u = tt}) _ (c.in_err-otherwise.ensures {u = tt}))

pub branch-returns : goal.branch-returns
branch-returns t c =
    if_reads _ _ c.requires _ (c.in_ok-pass.ensures {u = tt}) _ _ (c.in_ok-condition.ensures {u = tt}) _ _ (c.in_ok-taken.ensures {u = tt}) _ _ (c.in_ok-otherwise.ensures {u = tt}) _ _ (c.in_ok-push.ensures {u = tt}).ok

-- ---- `else`

pub otherwise-returns-then-not-is_at_keyword : goal.otherwise-returns-then-not-is_at_keyword
otherwise-returns-then-not-is_at_keyword t c = rw c.new.ensures (no_else _ _ (sym c.is_at_keyword.ensures ∙ c.if-not-is_at_keyword.true))

pub otherwise-returns-in_err-pass : goal.otherwise-returns-in_err-pass
otherwise-returns-in_err-pass t c =
    let p = err_from_is_err_and c.from_residual.result c.from_residual.ensures.1 in
    rw (p.1, p.2) (else_over _ _ (sym c.is_at_keyword.ensures ∙ c.if-not-is_at_keyword.false) _ (c.in_err-pass.ensures {u = tt}))

pub otherwise-body-requires : goal.otherwise-body-requires
otherwise-body-requires t c = let a = passed_shorter _ _ _ _ (c.in_ok-pass.ensures {u = tt}) in (omega arith, tt)

pub otherwise-returns : goal.otherwise-returns
otherwise-returns t c =
    let there = sym c.is_at_keyword.ensures ∙ c.if-not-is_at_keyword.false in
    let passed = c.in_ok-pass.ensures {u = tt} in
    MatchResult-weaker c.body.result c.body.ensures (λ trees read. else_reads _ _ there _ passed _ trees read) (λ refusal lacks. else_lacks _ _ there _ passed refusal lacks)

-- ---- `while`

pub while_loop-returns-in_err-pass : goal.while_loop-returns-in_err-pass
while_loop-returns-in_err-pass t c =
    let p = err_from_is_err_and c.from_residual.result c.from_residual.ensures.1 in
    rw (p.1, p.2) (head_over _ _ _ _ _ head_of_while _ _ c.requires _ (c.in_err-pass.ensures {u = tt}))

pub while_loop-returns-in_err-condition : goal.while_loop-returns-in_err-condition
while_loop-returns-in_err-condition t c =
    let p = err_from_is_err_and c.from_residual-in_err-condition.result c.from_residual-in_err-condition.ensures.1 in
    rw (p.1, p.2) (head_lacks _ _ _ _ _ head_of_while _ _ c.requires _ (c.in_ok-pass.ensures {u = tt}) _ (c.in_err-condition.ensures {u = tt}))

pub while_loop-body-requires : goal.while_loop-body-requires
while_loop-body-requires t c = let a = passed_shorter _ _ _ _ (c.in_ok-pass.ensures {u = tt}) in let b = (c.in_ok-condition.ensures {u = tt}).shorter in (omega arith, tt)

pub while_loop-returns-in_err-body : goal.while_loop-returns-in_err-body
while_loop-returns-in_err-body t c =
    let p = err_from_is_err_and c.from_residual-in_err-body.result c.from_residual-in_err-body.ensures.1 in
    rw (p.1, p.2) (head_without _ _ _ _ _ head_of_while _ _ c.requires _ (c.in_ok-pass.ensures {u = tt}) _ _ (c.in_ok-condition.ensures {u = tt}) _ (c.in_err-body.ensures {u = tt}))

pub while_loop-returns : goal.while_loop-returns
while_loop-returns t c = while_reads _ _ c.requires _ (c.in_ok-pass.ensures {u = tt}) _ _ (c.in_ok-condition.ensures {u = tt}) _ _ (c.in_ok-body.ensures {u = tt}) _ _ (c.in_ok-push.ensures {u = tt}).ok

-- ---- `for`

pub for_loop-overflow_add-level : goal.for_loop-overflow_add-level
for_loop-overflow_add-level t c = let a = (c.in_ok-head.ensures {u = tt}).same.1 in omega arith

pub for_loop-body-requires : goal.for_loop-body-requires
for_loop-body-requires t c = let a = (c.in_ok-head.ensures {u = tt}).shorter in (omega arith, tt)

pub for_loop-returns-in_err-body : goal.for_loop-returns-in_err-body
for_loop-returns-in_err-body t c =
    let p = err_from_is_err_and c.from_residual-in_err-body.result c.from_residual-in_err-body.ensures.1 in
    rw (p.1, p.2) (for_lacks_body _ _ _ _ (c.in_ok-head.ensures {u = tt}) _ (c.in_err-body.ensures {u = tt}))

pub for_loop-returns : goal.for_loop-returns
for_loop-returns t c =
    for_reads _ _ _ _ (c.in_ok-head.ensures {u = tt}) _ _ (c.in_ok-body.ensures {u = tt}) _ _
    ((c.in_ok-push.ensures {u = tt}).ok ∙ ap (λ tree. c.args.into.now ++ tree ∷ []) (c.in_ok-with_body.ensures {u = tt}))
