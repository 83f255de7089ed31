use Rattle.std.proofs.Common.{◌≡◌, ℕ, ◌-◌, ◌≤◌, List, length}
use Rattle.std.specs.Io.KnownBytes.{Consumes}
use Rattle.outside.proofs.real_shelf.OpenText.read_up_to.Given as goal

-- the bytes passed are as many as the place that is reached
abbrev pub invariant-loop-text : goal.invariant-loop-text
invariant-loop-text g l = record {
  named : l.text.name ≡ l.fn.name;
  within : l.text.reached ≤ l.at;
  passed : (passed : List ℕ) × (length passed ≡ l.text.reached) × Consumes (g.F.Read.remaining l.fn.file) (g.F.Read.remaining l.text.file) passed;
}

abbrev pub decreases-loop-text : goal.decreases-loop-text
decreases-loop-text g l = l.at - l.text.reached
