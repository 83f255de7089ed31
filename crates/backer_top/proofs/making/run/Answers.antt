use Rattle.std.proofs.lemmas.Result.{IfOk-weaker}
use Rattle.backer_top.proofs.Elided.{serial_finished}
use Rattle.backer_top.proofs.making.run.Goals as goal

pub returns : goal.returns
returns c =
    IfOk-weaker c.printed.result _ _ (λ reply is. serial_finished c.args.checked.now c.args.budget c.in_ok-ended.ended c.in_ok-ended.ensures reply c.in-None.ensures is) c.printed.ensures
