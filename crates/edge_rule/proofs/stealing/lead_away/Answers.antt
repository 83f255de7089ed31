use Rattle.std.proofs.Common.{sym, ap, ◌∙◌}
use Rattle.std.specs.Option.{option_copied_mut}
use Rattle.edge_rule.proofs.Taking.{led_in_deque, led_running}
use Rattle.edge_rule.proofs.stealing.lead_away.Goals as goal

pub returns-in-Some : goal.returns-in-Some
returns-in-Some c = led_in_deque c.args.join c.args.deque.now c.args.running.now c.in-Some.child.now (sym c.at_mut.ensures.item ∙ ap option_copied_mut c.in-Some.is)

pub returns-in-None : goal.returns-in-None
returns-in-None c = led_running c.args.join c.args.deque.now c.args.running.now (sym c.at_mut.ensures.item ∙ ap option_copied_mut c.in-None.is)
