use Rattle.std.proofs.Common.{◌≡◌, ◌⊎◌, refl}
use Rattle.std.specs.Result.{IsErrAnd, MatchResult}
use Rattle.cilk_checker.specs.declared.refusal.CheckRefusal.TheVariants.{At, Memory}
use Rattle.cilk_checker.proofs.Answered.{told_is_refusal, told_of_lawful, told_exactly}
use Rattle.cilk_checker.proofs.Exits.{passed_on, passed_to}
use Rattle.cilk_checker.proofs.Unique.{lawful_is_not_refused}
use Rattle.cilk_checker.proofs.Verdict.{none_is_lawful}
use Rattle.cilk_checker.proofs.check.check_program.Goals as goal

pub returns-in_err-check_rules-clause-accepted : goal.returns-in_err-check_rules-clause-accepted
returns-in_err-check_rules-clause-accepted c = λ lawful.
    let refusal = c.in_err-check_rules.field-0.0 in
    passed_to (λ result. MatchResult result (λ checked. checked ≡ c.args.program) (λ other. other ≡ Memory)) c.from_residual.result refusal c.from_residual.ensures.1
    (told_of_lawful c.args.program refusal lawful c.in_err-check_rules.ensures.err)

pub returns-in_err-check_rules-clause-refused : goal.returns-in_err-check_rules-clause-refused
returns-in_err-check_rules-clause-refused c =
    let refusal = c.in_err-check_rules.field-0.0 in
    passed_on _ c.from_residual.result refusal c.from_residual.ensures.1 (told_is_refusal c.args.program refusal c.in_err-check_rules.ensures.err)

pub returns-in_err-check_rules-clause-exact : goal.returns-in_err-check_rules-clause-exact
returns-in_err-check_rules-clause-exact c = λ kind place refused.
    let refusal = c.in_err-check_rules.field-0.0 in
    passed_to (λ result. IsErrAnd result (λ other. (other ≡ At kind place) ⊎ (other ≡ Memory))) c.from_residual.result refusal c.from_residual.ensures.1
    (told_exactly c.args.program refusal kind place refused c.in_err-check_rules.ensures.err)

pub invariant_of-result : goal.invariant_of-result
invariant_of-result c = record { lawful = none_is_lawful c.args.program c.in_ok-check_rules.ensures.ok; writable = c.requires.writable; small = c.requires.small }

pub returns-clause-lawful : goal.returns-clause-lawful
returns-clause-lawful c = (refl, none_is_lawful c.args.program c.in_ok-check_rules.ensures.ok)

pub returns-clause-exact : goal.returns-clause-exact
returns-clause-exact c = λ kind place refused. lawful_is_not_refused c.args.program kind place (none_is_lawful c.args.program c.in_ok-check_rules.ensures.ok) refused
