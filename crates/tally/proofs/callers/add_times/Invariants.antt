use Rattle.std.proofs.Common.{◌≡◌}
use Rattle.tally.proofs.callers.add_times.Given as goal

abbrev pub invariant-loop : goal.invariant-loop
invariant-loop g l = l.pass ≡ record l.initial.pass { seen = l.pass.seen }
