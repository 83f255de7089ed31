use Rattle.std.proofs.Common.{take}
use Rattle.std.specs.List.{Contains}
use Rattle.span_tree.specs.declared.act.Place.{Place}
use Rattle.span_tree.specs.Memory.{IsRace}
use Rattle.race_check.proofs.race_with.Given as goal

abbrev pub invariant-loop-first : goal.invariant-loop-first
invariant-loop-first l = (x : Place) → Contains (take l.first-index l.first-items) x → ¬ IsRace l.history l.second.word x l.second.place
