use Rattle.std.proofs.Common.{◌≡◌, ℕ, ◌-◌, ◌≤◌, List, length}
use Rattle.outside.proofs.Joining.{ReadSoFar, CallsSoFar}
use Rattle.outside.proofs.reading.read_text.Given as goal

abbrev pub invariant-loop-count : goal.invariant-loop-count
invariant-loop-count g l = record {
  texts : g.L.Shelf.texts l.shelf ≡ g.L.Shelf.texts l.fn.shelf;
  faults : (other : List ℕ) → g.L.Shelf.faults l.fn.shelf other ≤ g.L.Shelf.faults l.shelf other;
  front : ReadSoFar (g.L.Shelf.texts l.fn.shelf) l.name l.text.items;
  calls : CallsSoFar g.L.Shelf.gave l.name l.fn.shelf l.text.items l.shelf;
  within : length l.text.items ≤ l.limit;
}

abbrev pub decreases-loop-count : goal.decreases-loop-count
decreases-loop-count g l = l.limit - length l.text.items
