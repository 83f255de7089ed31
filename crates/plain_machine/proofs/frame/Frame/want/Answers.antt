use Rattle.std.proofs.Common.{◌≤◌, length, sym, ap, ◌∙◌, subst, Some}
use Rattle.std.specs.Option.{option_map}
use Rattle.cilk_meaning.specs.Serve.{now}
use Rattle.machine_code.specs.Machine.{arguments_on, wants}
use Rattle.plain_machine.specs.Shown.{Shown, arguments_of, shown_want}
use Rattle.plain_machine.proofs.Wanting.{asks}
use Rattle.plain_machine.proofs.frame.Frame.want.Goals as goal

pub child_params-self-inside-requires : goal.child_params-self-inside-requires
child_params-self-inside-requires c = (asks c.args.code.now c.run-want.new.self c.run-want.ensures.stands c.run-want.result c.run-want.ensures.asks).names

pub invariant_of-self : goal.invariant_of-self
invariant_of-self c =
    subst (λ n. n ≤ length c.run-want.new.self.running.operands) (sym c.child_params-self-inside.ensures)
    (asks c.args.code.now c.run-want.new.self c.run-want.ensures.stands c.run-want.result c.run-want.ensures.asks).enough

pub returns-clause-want : goal.returns-clause-want
returns-clause-want c =
    ap (λ (shown : Shown). option_map shown_want (now (wants c.args.code.now shown.frame))) (sym c.self.view_is)
    ∙ ap (λ goes. option_map shown_want (now goes)) (sym c.run-want.ensures.same)
    ∙ (asks c.args.code.now c.run-want.new.self c.run-want.ensures.stands c.run-want.result c.run-want.ensures.asks).want

pub returns-clause-arguments : goal.returns-clause-arguments
returns-clause-arguments c =
    ap (λ (shown : Shown). option_map arguments_of (now (wants c.args.code.now shown.frame))) (sym c.self.view_is)
    ∙ ap (λ goes. option_map arguments_of (now goes)) (sym c.run-want.ensures.same)
    ∙ (asks c.args.code.now c.run-want.new.self c.run-want.ensures.stands c.run-want.result c.run-want.ensures.asks).arguments
    ∙ ap (λ n. Some (arguments_on n c.run-want.new.self.running.operands)) (sym c.child_params-self-inside.ensures)
