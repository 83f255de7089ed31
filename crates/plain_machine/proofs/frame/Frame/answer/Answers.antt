use Rattle.std.proofs.Common.{ap, ◌∙◌, subst}
use Rattle.machine_code.specs.Machine.{wants}
use Rattle.plain_machine.specs.Shown.{Shown}
use Rattle.plain_machine.specs.Stepping.{HasStepped}
use Rattle.plain_machine.proofs.Wanting.{answered_wants, answered_resumed, answered_call, answered_stands, resumes}
use Rattle.plain_machine.proofs.frame.Frame.answer.Goals as goal

pub resume-requires-clause-resumes : goal.resume-requires-clause-resumes
resume-requires-clause-resumes c =
    resumes c.args.code.now c.args.self.now.frame c.run.new.self c.run.ensures.stands (c.run.ensures.same ∙ ap (λ (shown : Shown). wants c.args.code.now shown.frame) c.self.view_is)
    c.run.result c.run.ensures.asks c.args.answer c.requires.suits

pub returns-clause-wants : goal.returns-clause-wants
returns-clause-wants c =
    answered_wants c.args.code.now c.args.self.now.frame c.run.new.self c.run.ensures.stands (c.run.ensures.same ∙ ap (λ (shown : Shown). wants c.args.code.now shown.frame) c.self.view_is)
    c.run.result c.run.ensures.asks c.args.answer c.resume.new.self c.resume.result c.resume.ensures.ok

pub returns-clause-resumed : goal.returns-clause-resumed
returns-clause-resumed c =
    answered_resumed c.args.code.now c.args.self.now.frame c.run.new.self c.run.ensures.stands (c.run.ensures.same ∙ ap (λ (shown : Shown). wants c.args.code.now shown.frame) c.self.view_is)
    c.run.result c.run.ensures.asks c.args.answer c.resume.new.self c.resume.result c.resume.ensures.ok
    (subst (λ (shown : Shown). HasStepped c.args.code.now shown.frame c.run.new.self) c.self.view_is c.run.ensures.stepped)

pub returns-clause-call : goal.returns-clause-call
returns-clause-call c =
    answered_call c.args.code.now c.args.self.now.frame c.run.new.self c.run.ensures.stands (c.run.ensures.same ∙ ap (λ (shown : Shown). wants c.args.code.now shown.frame) c.self.view_is)
    c.run.result c.run.ensures.asks c.args.answer c.resume.new.self c.resume.result c.resume.ensures.err

pub returns-clause-stands : goal.returns-clause-stands
returns-clause-stands c =
    answered_stands c.args.code.now c.run.new.self c.resume.new.self c.run.ensures.stands c.args.answer c.resume.result c.resume.ensures.ok c.resume.ensures.err
