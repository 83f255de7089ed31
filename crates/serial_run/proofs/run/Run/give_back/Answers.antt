use Rattle.std.proofs.Common.{ap, refl, ◌∙◌, w64, FitsSigned, rules}
use Rattle.std.proofs.lemmas.Int.{to_z-of_z}
use Rattle.serial_run.specs.Serving.{with_value}
use Rattle.serial_run.proofs.Returning.{can_leave, can_receive, goes_back}
use Rattle.serial_run.proofs.run.Run.give_back.Goals as goal

pub leave-requires : goal.leave-requires
leave-requires c = can_leave c.requires.0 c.args.self.now c.requires.1.0 c.requires.1.1 c.in-Some.parent c.pop.new.self.items c.in-Some.ensures.items

pub resumed-requires : goal.resumed-requires
resumed-requires c = can_receive c.requires.0 c.args.self.now c.requires.1.0 c.requires.1.1 c.in-Some.parent c.pop.new.self.items c.in-Some.ensures.items

pub returns-in-Some-clause-back : goal.returns-in-Some-clause-back
returns-in-Some-clause-back c code state s =
    let fits : FitsSigned w64 c.args.value = search rules in
    goes_back code c.args.self.now state s c.in-Some.parent c.pop.new.self.items c.in-Some.ensures.items _ c.args.value refl
    (c.resumed.ensures.given ∙ ap (λ value. with_value c.in-Some.parent.target value c.in-Some.parent.frame.frame) (to_z-of_z w64 c.args.value fits))
    (c.resumed.ensures.stands code) c.leave.ensures.parent c.leave.ensures.history refl
