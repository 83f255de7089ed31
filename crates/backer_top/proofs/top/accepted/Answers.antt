use Rattle.backer_top.proofs.Ends.{reads, stops_unlawful, stops_unread}
use Rattle.backer_top.proofs.Told.{line_of_unread}
use Rattle.backer_top.proofs.top.accepted.Goals as goal

pub returns-in-Err-At-clause-refused : goal.returns-in-Err-At-clause-refused
returns-in-Err-At-clause-refused c =
    let e = c.in-Err-At.ensures {u = tt} in
    stops_unread c.args.text.now c.requires c.in-Err-At.field-0 c.in-Err-At.kind c.in-Err-At.offset c.in-Err-At.field-0-is e.refused e.only e.exact c.unread.result.status c.unread.ensures.status

pub returns-in-Err-At-clause-line : goal.returns-in-Err-At-clause-line
returns-in-Err-At-clause-line c = line_of_unread c.args.text.now c.in-Err-At.kind c.in-Err-At.offset c.unread.result.status _ c.unread.ensures.status c.unread.ensures.line

pub returns-in-Ok-check_program-clause-accepted : goal.returns-in-Ok-check_program-clause-accepted
returns-in-Ok-check_program-clause-accepted c =
    let e = c.in-Ok.ensures {u = tt} in
    let checked = c.in-Ok-check_program.ensures {u = tt} in
    reads c.args.text.now c.requires c.in-Ok.program e.found e.only e.exact c.in-Ok-check_program.checked checked.lawful.0 checked.lawful.1 checked.exact

pub returns-in-Err-At-check_program-clause-refused : goal.returns-in-Err-At-check_program-clause-refused
returns-in-Err-At-check_program-clause-refused c =
    let e = c.in-Ok.ensures {u = tt} in
    let refused = c.in-Err-At-check_program.ensures {u = tt} in
    let at = c.in-Err-At-check_program in
    stops_unlawful c.args.text.now c.requires c.in-Ok.program e.found e.only e.exact at.field-0 at.kind at.place at.field-0-is refused.refused refused.accepted refused.exact c.unlawful.result.status c.unlawful.ensures.status
