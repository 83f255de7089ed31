use Rattle.std.proofs.Common.{sym}
use Rattle.std.proofs.lemmas.Result.{err_from_is_err_and}
use Rattle.cilk_parser.proofs.Bricks.Simples.{assign_over, assigns_or_refused, lacks_simple, step_over, step_read}
use Rattle.cilk_parser.proofs.parser.Parser.simple.Goals as goal

pub returns-in_err-pass-in-Assign : goal.returns-in_err-pass-in-Assign
returns-in_err-pass-in-Assign c =
    let e = err_from_is_err_and c.from_residual.result c.from_residual.ensures.1 in
    rw (e.1, e.2) (assign_over c.args.level c.args.name c.args.self.now c.in_err-pass-in-Assign.field-0.0 (sym c.in-Assign.ensures) c.in_err-pass-in-Assign.ensures)

pub returns-in_err-pass-in-Step : goal.returns-in_err-pass-in-Step
returns-in_err-pass-in-Step c =
    let e = err_from_is_err_and c.from_residual-in_err-pass-in-Step.result c.from_residual-in_err-pass-in-Step.ensures.1 in
    rw (e.1, e.2) (step_over c.args.level c.args.name c.in-Step.operator c.args.self.now c.in_err-pass-in-Step.field-0.0 (sym c.in-Step.ensures) c.in_err-pass-in-Step.ensures)

pub returns-in_ok-pass-in-Assign : goal.returns-in_ok-pass-in-Assign
returns-in_ok-pass-in-Assign c = assigns_or_refused _ _ _ _ (sym c.in-Assign.ensures) (c.in_ok-pass-in-Assign.ensures {u = tt}) c.right.new.self c.right.result c.right.ensures

pub returns-in_ok-changed-in-Step : goal.returns-in_ok-changed-in-Step
returns-in_ok-changed-in-Step c = rw c.in_ok-changed-in-Step.ensures (step_read _ _ _ _ _ (sym c.in-Step.ensures) (c.in_ok-pass-in-Step.ensures {u = tt}))

pub returns-in-Other : goal.returns-in-Other
returns-in-Other c = lacks_simple c.args.level c.args.name c.args.self.now c.unexpected.result (sym c.in-Other.ensures) c.unexpected.ensures
