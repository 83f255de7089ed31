use Rattle.std.proofs.Common.{◌+◌, ◌*◌, ◌<◌, length, subst}
use Rattle.std.specs.Prelude.{MatchOption}
use Rattle.serial_run.specs.Serving.{EndsAs, LeadsTo}
use Rattle.serial_run.proofs.Ending.{leaves_elision, service_of, within_budget}
use Rattle.serial_run.proofs.serial_elision.serial.Goals as goal

pub loop-run-init : goal.loop-run-init
loop-run-init c = c.in_ok-run.ensures {u = tt}

pub turn-requires : goal.turn-requires
turn-requires c = (c.loop-run.invariant.state, c.loop-run.invariant.stands)

pub finish-requires : goal.finish-requires
finish-requires c =
    let code = c.args.code.now in
    let whole = service_of code c.args.budget in
    within_budget code whole c.args.budget c.in-Some.end c.turn.new.self
    (subst (λ stop. MatchOption stop (LeadsTo code whole c.args.budget c.turn.new.self) (λ end. EndsAs code whole c.args.budget end c.turn.new.self)) c.in-Some.is
    ((c.in_ok-end.ensures {u = tt}).goes whole c.args.budget c.loop-run.invariant))

pub returns-in-Some : goal.returns-in-Some
returns-in-Some c =
    let code = c.args.code.now in
    let whole = service_of code c.args.budget in
    let ends = subst (λ stop. MatchOption stop (LeadsTo code whole c.args.budget c.turn.new.self) (λ end. EndsAs code whole c.args.budget end c.turn.new.self)) c.in-Some.is
    ((c.in_ok-end.ensures {u = tt}).goes whole c.args.budget c.loop-run.invariant) in
    record {
      elision = λ program is.
          leaves_elision code program c.args.budget c.in-Some.end c.turn.new.self ends is c.finish.result c.finish.ensures.end c.finish.ensures.history c.finish.ensures.memory c.finish.ensures.ticks;
    }

pub loop-run-smaller : goal.loop-run-smaller
loop-run-smaller c =
    subst
    (λ stop. MatchOption stop (2 * c.turn.new.self.left + length c.turn.new.self.parents.items < 2 * c.loop-run.run.left + length c.loop-run.run.parents.items) (λ end. Unit {0}))
    c.in_default.is (c.in_ok-end.ensures {u = tt}).nearer

pub loop-run-preserved : goal.loop-run-preserved
loop-run-preserved c =
    let code = c.args.code.now in
    let whole = service_of code c.args.budget in
    subst (λ stop. MatchOption stop (LeadsTo code whole c.args.budget c.turn.new.self) (λ end. EndsAs code whole c.args.budget end c.turn.new.self)) c.in_default.is
    ((c.in_ok-end.ensures {u = tt}).goes whole c.args.budget c.loop-run.invariant)
