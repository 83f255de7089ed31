use Rattle.std.proofs.Common.{ap, ◌∙◌}
use Rattle.backer_top.specs.declared.status.Status.TheVariants.{Race}
use Rattle.backer_top.specs.Due.{First, NoRace, done}
use Rattle.backer_top.proofs.making.first_race.Goals as goal

pub returns-in_ok-race_line-in-Some : goal.returns-in_ok-race_line-in-Some
returns-in_ok-race_line-in-Some c =
    let race = c.in-Some.race in
    First race (c.in_ok-race.ensures.some race c.in-Some.is) (ap (λ text. record { status = Race race; text = text }) c.in_ok-race_line-in-Some.ensures)

pub returns-in_ok-from_slice-in-None : goal.returns-in_ok-from_slice-in-None
returns-in_ok-from_slice-in-None c =
    NoRace (c.in_ok-race.ensures.none.0 c.in-None.is) (c.done.ensures ∙ ap done c.in_ok-from_slice-in-None.ensures.items)
