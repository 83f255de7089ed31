use Rattle.std.proofs.Common.{ap, sym, ◌∙◌}
use Rattle.backer_top.specs.Status.{error_line}
use Rattle.backer_top.proofs.Told.{read_line}
use Rattle.backer_top.proofs.answer.Answer.unread.Goals as goal

pub returns-in-Ok-clause-line : goal.returns-in-Ok-clause-line
returns-in-Ok-clause-line c = λ program. c.in-Ok.ensures {u = tt} ∙ read_line program c.args.kind c.args.offset

pub returns-in-Err-clause-line : goal.returns-in-Err-clause-line
returns-in-Err-clause-line c = λ program. c.of.ensures.line program ∙ ap (error_line program) (sym c.of.ensures.status)
