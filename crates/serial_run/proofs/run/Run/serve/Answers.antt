use Rattle.std.proofs.Common.{refl}
use Rattle.serial_run.proofs.Requests.{quiet_serves}
use Rattle.serial_run.proofs.run.Run.serve.Goals as goal

pub answer-requires-clause-stands : goal.answer-requires-clause-stands
answer-requires-clause-stands c = c.requires.standing.1.fine

pub returns-in-Call : goal.returns-in-Call
returns-in-Call c =
    quiet_serves c.args.code.now c.args.self.now _ refl refl refl refl c.args.want c.args.self.now.frame.arguments c.in-Call.is c.requires.wants c.answer.ensures.stands
    c.answer.result c.answer.ensures.wants c.answer.ensures.resumed
