use Rattle.std.proofs.Common.{◌≤◌, length, sym, ap, subst, ◌∙◌, arith}
use Rattle.cilk_tree.specs.Lawful.Rules.{lacks_main}
use Rattle.cilk_checker.specs.Judged.{first_refusal, first_use, judged_functions, Tells}
use Rattle.cilk_checker.specs.Sound.{largest_checked}
use Rattle.cilk_checker.proofs.Due.{few_functions, arrays_tell, functions_tell, whole_tells, use_tells, nothing_due}
use Rattle.cilk_checker.proofs.Exits.{passed_on}
use Rattle.cilk_checker.proofs.check.check_rules.Goals as goal

pub returns-in_err-globals-clause-err : goal.returns-in_err-globals-clause-err
returns-in_err-globals-clause-err c =
    let refusal = c.in_err-globals.field-0.0 in
    passed_on _ c.from_residual.result refusal c.from_residual.ensures.1 (arrays_tell c.args.program.now refusal c.in_err-globals.ensures.err)

pub check_functions-requires-clause-few : goal.check_functions-requires-clause-few
check_functions-requires-clause-few c =
    let few = few_functions c.args.program.now.functions in
    subst (λ program. length program.functions ≤ largest_checked) (sym c.in_ok-globals.ensures.of) (omega (arith, few))

pub returns-in_err-used-clause-err : goal.returns-in_err-used-clause-err
returns-in_err-used-clause-err c =
    let refusal = c.in_err-used.field-0.0 in
    let same = c.in_ok-globals.ensures.of in
    passed_on _ c.from_residual-in_err-used.result refusal c.from_residual-in_err-used.ensures.1
    (functions_tell c.args.program.now c.in_ok-globals.ensures.ok refusal (subst (λ program. Tells (first_refusal (judged_functions program 0 program.functions)) refusal) same c.in_err-used.ensures.err))

pub returns-then-lacks_main-clause-err : goal.returns-then-lacks_main-clause-err
returns-then-lacks_main-clause-err c =
    let same = c.in_ok-globals.ensures.of in
    rw c.number.ensures
    (whole_tells c.args.program.now c.in_ok-globals.ensures.ok (ap (λ program. first_refusal (judged_functions program 0 program.functions)) (sym same) ∙ c.in_ok-used.ensures.ok)
    (ap lacks_main (sym same) ∙ sym c.lacks_main.ensures ∙ c.if-lacks_main.true))

pub returns-in-Some-clause-err : goal.returns-in-Some-clause-err
returns-in-Some-clause-err c =
    let same = c.in_ok-globals.ensures.of in
    rw c.number-in-Some.ensures
    (use_tells c.args.program.now c.in_ok-globals.ensures.ok (ap (λ program. first_refusal (judged_functions program 0 program.functions)) (sym same) ∙ c.in_ok-used.ensures.ok)
    (ap lacks_main (sym same) ∙ sym c.lacks_main.ensures ∙ c.if-lacks_main.false)
    c.in-Some.place (ap (λ program. first_use 0 program.functions) (sym same) ∙ sym c.in_ok-used.ensures.found ∙ c.in-Some.is))

pub returns-clause-ok : goal.returns-clause-ok
returns-clause-ok c =
    let same = c.in_ok-globals.ensures.of in
    nothing_due c.args.program.now c.in_ok-globals.ensures.ok (ap (λ program. first_refusal (judged_functions program 0 program.functions)) (sym same) ∙ c.in_ok-used.ensures.ok)
    (ap lacks_main (sym same) ∙ sym c.lacks_main.ensures ∙ c.if-lacks_main.false)
    (ap (λ program. first_use 0 program.functions) (sym same) ∙ sym c.in_ok-used.ensures.found ∙ c.in-None.is)
