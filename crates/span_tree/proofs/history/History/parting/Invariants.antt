use Rattle.std.proofs.Common.{◌≡◌, ℕ, ◌+◌, ◌<◌, Some}
use Rattle.span_tree.specs.Parting.{GoesBy}
use Rattle.span_tree.proofs.history.History.parting.Given as goal

-- The two ways go by the branches so far, and neither is in the child of the other.
abbrev pub invariant-loop-first : goal.invariant-loop-first
invariant-loop-first l = record {
  first_goes : GoesBy l.self l.fn.x l.first;
  second_goes : GoesBy l.self l.fn.y l.second;
  first_above : (child : ℕ) → l.first.child ≡ Some child → l.second.place.row < child;
  second_above : (child : ℕ) → l.second.child ≡ Some child → l.first.place.row < child;
  apart : (child : ℕ) → l.first.child ≡ Some child → l.second.child ≡ Some child → ⊥;
}

abbrev pub decreases-loop-first : goal.decreases-loop-first
decreases-loop-first l = l.first.place.row + l.second.place.row
