use Rattle.std.proofs.Common.{rules, ◌∙◌, ap}
use Rattle.turnstile.proofs.Steps.{turns}
use Rattle.turnstile.proofs.lock.Lock.await_turn.Goals as goal

pub load-served-requires : goal.load-served-requires
load-served-requires g c = let w = c.requires.seat.1 in let same = c.loop.invariant.2 in (
  c.loop.invariant.0 ∙ c.requires.seat.0,
  search rules,
  turns _ _ _ _ _ _ _ _ _ (ap (λ m. m.0.waits) same ∙ w.0) (ap (λ m. m.0.holds) same ∙ w.1) (ap (λ m. m.0.spent) same ∙ w.2) (ap (λ m. m.1) same ∙ w.3),
)
