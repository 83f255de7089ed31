-- Frames at joins that may be run.
use Rattle.std.specs.Prelude.{◌≡◌, ℕ, Some}
use Rattle.machine_code.specs.Machine.{Code}
use Rattle.edge_rule.specs.Joins.{Join, Joins, StandsThere, join_at}

-- Each frame that is parked at a join of the node stands in the code.
abbrev pub AllStand : Code → Joins → Type 0
AllStand code joins = (number : ℕ) (join : Join) → join_at joins number ≡ Some join → StandsThere code join.parked
