use Rattle.std.proofs.Common.{◌≡◌, true, false, refl}
use Rattle.span_tree.proofs.Orders.{nothing_in_none}
use Rattle.race_check.proofs.Found.{least_racing, none_at_all, none_more}
use Rattle.race_check.proofs.race_with.Goals as goal

pub loop-first-init : goal.loop-first-init
loop-first-init c = λ x passed. absurd (nothing_in_none x passed)

pub returns-then-races_at-clause-some : goal.returns-then-races_at-clause-some
returns-then-races_at-clause-some c = (
  refl,
  refl,
  least_racing c.args.history.now c.requires.numbered c.args.second.word c.args.second.place c.order-first-items.result.now c.order-first-items.ensures c.loop-first.first-index _ c.loop-first-test.true c.loop-first.invariant
      ((c.if-races_at.ensures {u = tt}).0 refl),
)

pub loop-first-preserved : goal.loop-first-preserved
loop-first-preserved c =
    none_more c.args.history.now c.requires.numbered c.args.second.word c.args.second.place c.order-first-items.result.now c.order-first-items.ensures c.loop-first.first-index _ c.loop-first-test.true c.loop-first.invariant
    (λ race. let clash : false ≡ true = (c.if-races_at.ensures {u = tt}).1 race in cc)

pub returns-clause-none : goal.returns-clause-none
returns-clause-none c = λ e x race.
    none_at_all c.args.history.now c.requires.numbered c.args.second.word c.args.second.place c.order-first-items.result.now c.order-first-items.ensures c.loop-first.first-index c.loop-first-test.false c.loop-first.invariant x race
