use Rattle.std.proofs.Common.{ap, ◌∙◌, arith}
use Rattle.plain_machine.specs.Lasting.{locals_of}
use Rattle.machine_rows.proofs.Running.{run_lasts}
use Rattle.machine_rows.proofs.tests.playing.deposit.Goals as goal

pub deposit-requires : goal.deposit-requires
deposit-requires c =
    let lasts = run_lasts c.has_run_stands.ensures c.args.code.now c.requires.0 c.args.proc c.requires.1 c.args.frame.now.frame c.requires.2 in
    omega (arith, lasts.locals ∙ ap locals_of c.proc.ensures.proc, c.if-target-proc.false)

pub returns : goal.returns
returns c =
    let lasts = run_lasts c.has_run_stands.ensures c.args.code.now c.requires.0 c.args.proc c.requires.1 c.args.frame.now.frame c.requires.2 in
    c.deposit.ensures.stands c.args.code.now lasts.stands
