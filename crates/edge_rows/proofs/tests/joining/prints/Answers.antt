use Rattle.std.proofs.Common.{refl, ap, ◌∙◌}
use Rattle.std.specs.Prelude.{Some}
use Rattle.std.specs.Option.{option_map}
use Rattle.cilk_meaning.specs.Serve.{now}
use Rattle.plain_machine.specs.Shown.{shown_want}
use Rattle.plain_machine.specs.declared.want.Answer.TheVariants.{Done}
use Rattle.plain_machine.specs.declared.want.Want.TheVariants.{Print}
use Rattle.machine_rows.proofs.Saying.{said_gets}
use Rattle.edge_rows.proofs.tests.joining.prints.Goals as goal

pub answer-requires-clause-suits : goal.answer-requires-clause-suits
answer-requires-clause-suits g c =
    said_gets c.args.code.now c.want.new.self.frame (Print c.in-Print.printed) Done
    (ap (λ goes. option_map shown_want (now goes)) c.want.ensures.same ∙ c.want.ensures.want ∙ ap Some c.in-Print.is)
    refl
