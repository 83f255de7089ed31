use Rattle.std.proofs.Common.{◌≡◌, take}
use Rattle.std.specs.List.{filter}
use Rattle.span_tree.specs.Memory.{is_access}
use Rattle.span_tree.proofs.history.History.places_of.Given as goal

abbrev pub invariant-loop-place : goal.invariant-loop-place
invariant-loop-place l = l.places.items ≡ filter (is_access l.self l.word) (take l.place-index l.place-items)
