use Rattle.std.proofs.Common.{sym, ap, ◌∙◌}
use Rattle.std.specs.Option.{option_copied_mut}
use Rattle.edge_rule.proofs.Taking.{same_second}
use Rattle.edge_rule.proofs.stealing.child_of.Goals as goal

pub returns-in-Some-clause-same : goal.returns-in-Some-clause-same
returns-in-Some-clause-same c = same_second c.args.deque.now c.in-Some.child.now (sym c.at_mut.ensures.item ∙ ap option_copied_mut c.in-Some.is)
