use Rattle.std.proofs.Common.{◌≡◌, ◌+◌, take}
use Rattle.cilk_parser.specs.Tally.{all_counted_on, IsBelow}
use Rattle.cilk_parser.proofs.tallies.Tallies.after.Given as goal

abbrev pub invariant-loop-count : goal.invariant-loop-count
invariant-loop-count l = record { so_far : l.tallies ≡ all_counted_on l.initial.tallies (take l.count-index l.counts); small : IsBelow (1024 + l.count-index) l.tallies }
