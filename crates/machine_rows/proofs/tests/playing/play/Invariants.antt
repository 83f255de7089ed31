use Rattle.machine_rows.specs.Running.{RunsOn}
use Rattle.plain_machine.specs.Standing.{StandsIn}
use Rattle.machine_rows.proofs.tests.playing.play.Given as goal

abbrev pub invariant-loop-want : goal.invariant-loop-want
invariant-loop-want g l = record {
  stands : StandsIn l.code l.frame.frame;
  runs : RunsOn l.code l.initial.frame.frame l.frame.frame;
}
