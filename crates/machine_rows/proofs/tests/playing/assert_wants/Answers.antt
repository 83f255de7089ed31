use Rattle.machine_rows.proofs.Running.{steps_on}
use Rattle.machine_rows.proofs.tests.playing.assert_wants.Goals as goal

pub returns-clause-runs : goal.returns-clause-runs
returns-clause-runs g c = steps_on c.args.code.now c.args.frame.now.frame c.want.new.self.frame c.want.ensures.stepped
