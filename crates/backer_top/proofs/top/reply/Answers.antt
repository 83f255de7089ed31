use Rattle.backer_top.proofs.Dues.{made_of}
use Rattle.backer_top.proofs.Ends.{outcome_made}
use Rattle.backer_top.proofs.top.reply.Goals as goal

pub returns-in-Err-clause-stopped : goal.returns-in-Err-clause-stopped
returns-in-Err-clause-stopped c = (c.in-Err.ensures {u = tt}).refused c.args.command.now

pub returns-in-Ok-made-clause-outcome : goal.returns-in-Ok-made-clause-outcome
returns-in-Ok-made-clause-outcome c =
    outcome_made c.args.command.now c.args.text.now c.in-Ok.checked c.in-Ok-made.reply (c.in-Ok.ensures {u = tt}).accepted (c.in-Ok-made.ensures {u = tt})

pub returns-in-Ok-made-clause-fixed : goal.returns-in-Ok-made-clause-fixed
returns-in-Ok-made-clause-fixed c = (made_of c.args.command.now c.in-Ok.checked c.in-Ok-made.reply (c.in-Ok-made.ensures {u = tt})).fixed
