use Rattle.std.proofs.Common.{sym, ◌∙◌}
use Rattle.machine_code.proofs.Steps.{goes_same}
use Rattle.plain_machine.proofs.Finding.{goes_stands}
use Rattle.plain_machine.proofs.Going.{comes_down, steps_first}
use Rattle.plain_machine.proofs.state.State.run.Goals as goal

pub loop-want-smaller : goal.loop-want-smaller
loop-want-smaller c = comes_down c.args.code.now c.loop-want.self c.step.new.self c.loop-want.invariant.stands (c.in_default.ensures {u = tt})

pub loop-want-preserved : goal.loop-want-preserved
loop-want-preserved c =
    let goes = c.in_default.ensures {u = tt} in
    record {
      stands = goes_stands c.args.code.now c.loop-want.self c.loop-want.invariant.stands c.step.new.self goes;
      stepped = λ h s. c.loop-want.invariant.stepped h (steps_first c.args.code.now c.loop-want.self c.step.new.self h goes s);
      same = sym (goes_same c.args.code.now c.loop-want.invariant.stands.valid.forward c.loop-want.self c.step.new.self goes) ∙ c.loop-want.invariant.same;
    }
