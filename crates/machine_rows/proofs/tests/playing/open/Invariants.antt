use Rattle.plain_machine.specs.Standing.{StandsIn}
use Rattle.machine_rows.proofs.tests.playing.open.Given as goal

abbrev pub invariant-loop : goal.invariant-loop
invariant-loop g l = StandsIn l.code l.frame.frame
