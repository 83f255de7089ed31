use Rattle.std.proofs.Common.{take}
use Rattle.std.specs.List.{Contains}
use Rattle.race_check.specs.Shadow.{IsShadowed, shadow_of}
use Rattle.race_check.proofs.find_race.Given as goal

abbrev pub invariant-loop-place : goal.invariant-loop-place
invariant-loop-place l = IsShadowed l.history (Contains (take l.place-index l.place-items)) (shadow_of l.memory.words)
