use Rattle.std.proofs.Common.{sym, ap, ◌∙◌, subst}
use Rattle.machine_code.specs.Valid.{params_of}
use Rattle.plain_machine.specs.Standing.{StandsIn}
use Rattle.plain_machine.proofs.Wanting.{start_stands}
use Rattle.plain_machine.proofs.frame.Frame.start.Goals as goal

pub start-requires-clause-locals : goal.start-requires-clause-locals
start-requires-clause-locals c = (c.proc.ensures.valid.procs c.args.proc c.proc.result c.proc.ensures.proc).params

pub returns-clause-stands : goal.returns-clause-stands
returns-clause-stands c =
    subst (StandsIn c.args.code.now) (sym (c.in_ok-state.ensures {u = tt}))
    (start_stands c.args.code.now c.proc.ensures.valid c.args.depth c.args.proc c.proc.result c.proc.ensures.proc c.args.args.now (c.requires.args ∙ ap params_of c.proc.ensures.proc) c.requires.depth)
