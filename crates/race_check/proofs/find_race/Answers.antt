use Rattle.std.proofs.Common.{refl}
use Rattle.race_check.specs.Shadow.{shadow_of}
use Rattle.race_check.proofs.Found.{first_found, next_is_place, no_race, nothing_passed, some_found, shadowed_before, shadowed_upto}
use Rattle.race_check.proofs.find_race.Goals as goal

pub loop-place-init : goal.loop-place-init
loop-place-init c = nothing_passed c.args.history.now c.order-place-items.result.now (shadow_of c.new-memory.result.words) c.new-memory.ensures

pub pass-requires-clause-place : goal.pass-requires-clause-place
pass-requires-clause-place c = next_is_place c.args.history.now c.rows.ensures.numbered c.order-place-items.result.now c.order-place-items.ensures (shadow_of c.loop-place.memory.words) c.loop-place.place-index _ c.loop-place-test.true

pub pass-requires-clause-shadows : goal.pass-requires-clause-shadows
pass-requires-clause-shadows c =
    shadowed_before c.args.history.now c.rows.ensures.numbered c.order-place-items.result.now c.order-place-items.ensures (shadow_of c.loop-place.memory.words) c.loop-place.place-index _ c.loop-place-test.true c.loop-place.invariant

pub returns-in-Some-clause-some : goal.returns-in-Some-clause-some
returns-in-Some-clause-some c =
    first_found c.args.history.now c.rows.ensures.numbered c.order-place-items.result.now c.order-place-items.ensures (shadow_of c.loop-place.memory.words) c.loop-place.place-index _ c.loop-place-test.true c.loop-place.invariant
    c.in_ok-second.field-0 c.in-Some.second c.in-Some.is (c.in_ok-second.ensures {u = tt}).access (c.in_ok-second.ensures {u = tt}).races c.race_with.result c.race_with.ensures.some c.race_with.ensures.none

pub returns-in-Some-clause-none : goal.returns-in-Some-clause-none
returns-in-Some-clause-none c =
    some_found c.args.history.now c.rows.ensures.numbered c.order-place-items.result.now c.order-place-items.ensures (shadow_of c.loop-place.memory.words) c.loop-place.place-index _ c.loop-place-test.true c.loop-place.invariant
    c.in_ok-second.field-0 c.in-Some.second c.in-Some.is (c.in_ok-second.ensures {u = tt}).access (c.in_ok-second.ensures {u = tt}).races c.race_with.result c.race_with.ensures.some c.race_with.ensures.none

pub loop-place-preserved : goal.loop-place-preserved
loop-place-preserved c =
    shadowed_upto c.args.history.now c.rows.ensures.numbered c.order-place-items.result.now c.order-place-items.ensures (shadow_of c.pass.new.self.words) c.loop-place.place-index _ c.loop-place-test.true
    ((c.in_ok-second.ensures {u = tt}).none c.in_default.is)

pub returns-clause-none : goal.returns-clause-none
returns-clause-none c = (
  λ e. no_race c.args.history.now c.rows.ensures.numbered c.order-place-items.result.now c.order-place-items.ensures (shadow_of c.loop-place.memory.words) c.loop-place.place-index c.loop-place-test.false c.loop-place.invariant,
  λ free. refl,
)
