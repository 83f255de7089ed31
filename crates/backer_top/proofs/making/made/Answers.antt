use Rattle.std.proofs.Common.{sym, subst}
use Rattle.std.proofs.lemmas.Result.{IfOk-weaker}
use Rattle.backer_top.specs.Due.{Makes}
use Rattle.backer_top.proofs.making.made.Goals as goal

pub returns-in-Serial : goal.returns-in-Serial
returns-in-Serial c =
    IfOk-weaker c.run.result _ (Makes c.args.command.now c.args.checked.now)
    (λ reply makes. subst (λ command. Makes command c.args.checked.now reply) (sym c.in-Serial.is) (makes c.in-Serial.file)) c.run.ensures

pub returns-in-Race : goal.returns-in-Race
returns-in-Race c =
    IfOk-weaker c.look_for_race.result _ (Makes c.args.command.now c.args.checked.now)
    (λ reply makes. subst (λ command. Makes command c.args.checked.now reply) (sym c.in-Race.is) (makes c.in-Race.file)) c.look_for_race.ensures
