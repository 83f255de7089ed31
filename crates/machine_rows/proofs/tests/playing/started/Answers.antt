use Rattle.std.proofs.Common.{sym, subst}
use Rattle.plain_machine.specs.Shown.{Shown}
use Rattle.machine_rows.specs.Running.{IsRunOf}
use Rattle.machine_rows.proofs.Running.{starts_on}
use Rattle.machine_rows.proofs.tests.playing.started.Goals as goal

pub returns-clause-runs : goal.returns-clause-runs
returns-clause-runs c =
    let begins = starts_on c.args.code.now c.args.proc c.proc.result c.args.args.now c.args.depth c.proc.ensures.valid c.proc.ensures.proc (rw c.proc.ensures.proc c.if-args-proc.false) c.if-depth-gt4096.false in
    subst (λ (s : Shown). IsRunOf c.args.code.now c.args.depth c.args.proc c.args.args.now s.frame) (sym (c.in_ok-start.ensures.starts c.proc.result c.proc.ensures.proc)) begins
