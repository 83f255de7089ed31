use Rattle.std.proofs.lemmas.Result.{IfOk-weaker}
use Rattle.cilk_meaning.specs.Resolving.{resolved}
use Rattle.serial_run.specs.Elision.{IsElision}
use Rattle.backer_top.specs.Outcome.{IsElided}
use Rattle.backer_top.proofs.Elided.{elided_by}
use Rattle.backer_top.proofs.making.elide.Goals as goal

pub returns : goal.returns
returns c =
    let code = c.in_ok-code.code in
    let program = resolved c.args.checked.now in
    IfOk-weaker c.serial.result (IsElision code program c.args.budget) (IsElided c.args.checked.now c.args.budget)
    (λ ended is. elided_by c.args.checked.now c.args.budget code ended c.in_ok-code.ensures.compiled is)
    (c.serial.ensures.elision program c.in_ok-code.ensures.stands)
