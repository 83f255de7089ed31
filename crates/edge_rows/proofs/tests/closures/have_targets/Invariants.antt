use Rattle.std.proofs.Common.{◌≡◌, nat_lt, true, take}
use Rattle.std.specs.List.{list_all}
use Rattle.std.specs.Option.{option_map_or}
use Rattle.edge_rows.proofs.tests.closures.have_targets.Given as goal

abbrev pub invariant-loop-child : goal.invariant-loop-child
invariant-loop-child l = list_all (λ child. option_map_or (λ target. nat_lt target l.fn.locals) child.target true) (take l.child-index l.children) ≡ true
