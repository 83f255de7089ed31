use Rattle.std.proofs.Common.{sym, ◌∙◌}
use Rattle.std.proofs.lemmas.Result.{err_from_is_err_and}
use Rattle.cilk_parser.proofs.Bricks.Rights.{begins_none, right_add_lacks, right_add_over, right_adds, right_spawn_over, right_spawn_lacks, right_spawns, right_calls, right_lacks_value, right_value}
use Rattle.cilk_parser.proofs.parser.Parser.right.Goals as goal

pub returns-in_err-pass : goal.returns-in_err-pass
returns-in_err-pass c =
    let e = err_from_is_err_and c.from_residual.result c.from_residual.ensures.1 in
    rw (e.1, e.2) (right_spawn_over _ _ _ (sym c.is_at_keyword.ensures ∙ c.if-is_at_keyword.true) c.in_err-pass.ensures)

pub returns-in_err-call : goal.returns-in_err-call
returns-in_err-call c =
    let e = err_from_is_err_and c.from_residual-in_err-call.result c.from_residual-in_err-call.ensures.1 in
    rw (e.1, e.2) (right_spawn_lacks c.args.level c.args.self.now c.pass.new.self (sym c.is_at_keyword.ensures ∙ c.if-is_at_keyword.true) (c.in_ok-pass.ensures {u = tt}) c.in_err-call.field-0.0 c.in_err-call.ensures.spawned)

pub returns-then-is_at_keyword : goal.returns-then-is_at_keyword
returns-then-is_at_keyword c = right_spawns _ _ _ (sym c.is_at_keyword.ensures ∙ c.if-is_at_keyword.true) (c.in_ok-pass.ensures {u = tt}) _ _ _ c.in_ok-call.ensures.spawned

pub returns-in_err-pass-2 : goal.returns-in_err-pass-2
returns-in_err-pass-2 c =
    let e = err_from_is_err_and c.from_residual-in_err-pass-2.result c.from_residual-in_err-pass-2.ensures.1 in
    rw (e.1, e.2) (right_add_over _ _ _ (sym c.is_at_keyword-2.ensures ∙ c.if-is_at_keyword-2.true) c.in_err-pass-2.ensures)

pub returns-in_err-addition : goal.returns-in_err-addition
returns-in_err-addition c =
    let e = err_from_is_err_and c.from_residual-in_err-addition.result c.from_residual-in_err-addition.ensures.1 in
    rw (e.1, e.2)
    (right_add_lacks c.args.level c.args.self.now c.pass-then-is_at_keyword-2.new.self (sym c.is_at_keyword-2.ensures ∙ c.if-is_at_keyword-2.true) (c.in_ok-pass-2.ensures {u = tt}) c.in_err-addition.field-0.0 c.in_err-addition.ensures)

pub returns-then-is_at_keyword-2 : goal.returns-then-is_at_keyword-2
returns-then-is_at_keyword-2 c = right_adds _ _ _ (sym c.is_at_keyword-2.ensures ∙ c.if-is_at_keyword-2.true) (c.in_ok-pass-2.ensures {u = tt}) _ _ _ c.in_ok-addition.ensures

pub returns-then-is_at_call : goal.returns-then-is_at_call
returns-then-is_at_call c = right_calls _ _ _ _ _ (c.in_ok-call-2.ensures.called (sym c.is_at_call.ensures.same ∙ c.if-is_at_call.true))

pub returns-in_err-value : goal.returns-in_err-value
returns-in_err-value c =
    let e = err_from_is_err_and c.from_residual-in_err-value.result c.from_residual-in_err-value.ensures.1 in
    rw (e.1, e.2)
    (right_lacks_value c.args.level c.args.self.now c.in_err-value.field-0.0
    (begins_none _ (sym c.is_at_keyword.ensures ∙ c.if-is_at_keyword.false) (sym c.is_at_keyword-2.ensures ∙ c.if-is_at_keyword-2.false) (sym c.is_at_call.ensures.same ∙ c.if-is_at_call.false)) c.is_at_call.ensures.within c.in_err-value.ensures.reads)

pub returns : goal.returns
returns c =
    right_value _ _ _ _ _
    (begins_none _ (sym c.is_at_keyword.ensures ∙ c.if-is_at_keyword.false) (sym c.is_at_keyword-2.ensures ∙ c.if-is_at_keyword-2.false) (sym c.is_at_call.ensures.same ∙ c.if-is_at_call.false)) c.is_at_call.ensures.within
    c.in_ok-value.ensures.reads c.in_ok-value.ensures.stops
