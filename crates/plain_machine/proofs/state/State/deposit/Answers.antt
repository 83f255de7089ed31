use Rattle.std.proofs.Common.{sym, ap, ◌∙◌, reverse, w64, FitsSigned, rules}
use Rattle.std.proofs.lemmas.Int.{to_z-of_z}
use Rattle.std.specs.Prelude.{slice_set}
use Rattle.machine_code.specs.Machine.{Frame}
use Rattle.plain_machine.proofs.Depositing.{own_inside, first_set}
use Rattle.plain_machine.proofs.state.State.deposit.Goals as goal

pub set-requires : goal.set-requires
set-requires c =
    own_inside c.args.self.now c.self.inside.callers.items c.in-Some.own.now c.args.target (ap (λ (f : Frame). f.callers) (sym c.self.view_is)) c.in-Some.ensures.item.3.0 c.in-Some.ensures.value c.requires

pub returns-in-Some : goal.returns-in-Some
returns-in-Some c =
    let fits : FitsSigned w64 c.args.value = search rules in
    let set = c.set.ensures ∙ ap (λ value. record c.in-Some.own.now { locals = slice_set c.in-Some.own.now.locals c.args.target value }) (to_z-of_z w64 c.args.value fits) in
    ap (λ (f : Frame). record f { callers = reverse (slice_set c.self.inside.callers.items 0 c.set.new.self) }) c.self.view_is
    ∙ first_set c.args.self.now c.self.inside.callers.items c.in-Some.own.now c.set.new.self c.args.target c.args.value (ap (λ (f : Frame). f.callers) (sym c.self.view_is)) c.in-Some.ensures.item.3.0 c.in-Some.ensures.value set
