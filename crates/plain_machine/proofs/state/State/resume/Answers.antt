use Rattle.std.proofs.Common.{sym, ap, ◌∙◌, subst, w64, FitsSigned, rules}
use Rattle.std.proofs.lemmas.Int.{to_z-of_z}
use Rattle.machine_code.specs.Machine.{added, look}
use Rattle.plain_machine.specs.Stepping.{Resumes, IsReady, led_to}
use Rattle.plain_machine.proofs.Ready.{call_ready, drops_ready, names_proc}
use Rattle.plain_machine.proofs.Resuming.{add_leads}
use Rattle.plain_machine.proofs.state.State.resume.Goals as goal

pub call-requires-clause-ready : goal.call-requires-clause-ready
call-requires-clause-ready c = call_ready c.args.code.now c.args.self.now c.requires.stands c.in-Done-Call.procedure c.proc.result c.in-Done-Call.ensures c.proc.ensures.proc

pub call-requires-clause-params : goal.call-requires-clause-params
call-requires-clause-params c = (c.proc.ensures.valid.procs c.in-Done-Call.procedure c.proc.result c.proc.ensures.proc).params

pub operand_count-requires : goal.operand_count-requires
operand_count-requires c = names_proc c.args.code.now c.args.self.now c.requires.stands c.instr.result c.instr.ensures

pub pass-requires : goal.pass-requires
pass-requires c = subst (λ n. IsReady n 0 c.args.self.now.running) (sym c.operand_count.ensures) (drops_ready c.args.code.now c.args.self.now c.requires.stands c.instr.result c.instr.ensures)

pub returns-in-Value-AddShared-clause-ok : goal.returns-in-Value-AddShared-clause-ok
returns-in-Value-AddShared-clause-ok c =
    let fits : FitsSigned w64 c.in-Value-AddShared.old = search rules in
    let move = look c.args.code.now c.args.self.now in
    ap (λ answer. led_to move answer) c.in-Value-AddShared.is-0
    ∙ add_leads c.args.code.now c.args.self.now c.add_was.new.self c.in-Value-AddShared.old c.in-Value-AddShared.field-0-1
    (subst (Resumes move) c.in-Value-AddShared.is-0 c.requires.resumes) c.in-Value-AddShared.ensures
    (λ addend index rest e. c.add_was.ensures addend index rest e ∙ ap (λ old. added c.args.self.now addend rest old) (to_z-of_z w64 c.in-Value-AddShared.old fits))
