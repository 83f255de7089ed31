use Rattle.std.proofs.Common.{refl}
use Rattle.cilk_meaning.specs.Wants as wanted
use Rattle.plain_machine.specs.declared.want.Answer.TheVariants as given
use Rattle.serial_run.proofs.Requests.{answering, sync_serves}
use Rattle.serial_run.proofs.run.Run.sync.Goals as goal

pub answer-requires-clause-stands : goal.answer-requires-clause-stands
answer-requires-clause-stands c = c.requires.standing.1.fine

pub returns : goal.returns
returns c =
    answering c.args.code.now c.args.self.now.frame.frame c.answer.new.self.frame wanted.Sync given.Done c.requires.wants c.answer.ensures.stands
    c.answer.result c.answer.ensures.wants c.answer.ensures.resumed
    (sync_serves c.args.code.now c.args.self.now _ refl refl (c.in_ok-act.ensures {u = tt}).ok refl)
