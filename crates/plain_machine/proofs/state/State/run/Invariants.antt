use Rattle.std.proofs.Common.{◌≡◌}
use Rattle.machine_code.specs.Machine.{Frame, wants}
use Rattle.plain_machine.specs.Standing.{StandsIn}
use Rattle.plain_machine.specs.Stepping.{HasStepped}
use Rattle.plain_machine.proofs.Going.{rank}
use Rattle.plain_machine.proofs.state.State.run.Given as goal

abbrev pub invariant-loop-want : goal.invariant-loop-want
invariant-loop-want l = record {
  stands : StandsIn l.code l.self;
  stepped : (h : Frame) → HasStepped l.code l.self h → HasStepped l.code l.initial.self h;
  same : wants l.code l.self ≡ wants l.code l.initial.self;
}

abbrev pub decreases-loop-want : goal.decreases-loop-want
decreases-loop-want l = rank l.code l.self
