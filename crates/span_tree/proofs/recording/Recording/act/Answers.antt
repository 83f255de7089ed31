use Rattle.span_tree.proofs.Running.{act_runs_on}
use Rattle.span_tree.proofs.recording.Recording.act.Goals as goal

pub invariant_of-self : goal.invariant_of-self
invariant_of-self c =
    act_runs_on c.self.inside.history c.self.inside.row c.self.invariant c.args.act c.push.new.self c.requires c.push.result c.push.ensures.ok c.push.ensures.err
