use Rattle.std.proofs.Common.{◌≡◌, take}
use Rattle.std.specs.List.{filter_map}
use Rattle.span_tree.specs.History.{act_at}
use Rattle.span_tree.specs.Memory.{printed_by}
use Rattle.span_tree.proofs.history.History.output.Given as goal

abbrev pub invariant-loop-place : goal.invariant-loop-place
invariant-loop-place l = l.values.items ≡ filter_map printed_by (filter_map (act_at l.self) (take l.place-index l.place-items))
