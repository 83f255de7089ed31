use Rattle.std.proofs.Common.{ap, refl}
use Rattle.machine_code.specs.Machine.{Code}
use Rattle.serial_run.proofs.Ending.{begins_at}
use Rattle.serial_run.proofs.run.Run.start.Goals as goal

pub returns : goal.returns
returns c =
    let starts = c.in_ok-start.ensures in
    begins_at c.args.code.now c.args.budget _ c.code.inside.main (ap (λ (code : Code). code.main) c.code.view_is) starts.starts starts.wants starts.stands c.new.ensures.items c.in_ok-new.ensures
    c.in_ok-start_words.ensures refl
