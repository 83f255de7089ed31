use Rattle.std.proofs.Common.{rules, ap, ◌∙◌}
use Rattle.turnstile.proofs.Seats.{joins}
use Rattle.turnstile.proofs.Steps.{settles}
use Rattle.turnstile.proofs.lock.Lock.unite.Goals as goal

pub join_seat-requires : goal.join_seat-requires
join_seat-requires g c = let i = c.requires.seat.1 in let j = c.requires.other.1 in (c.requires.seat.0, c.requires.other.0, j.3, search rules, joins _ _ _ _ _ _ _ _ _ _ i.0 i.1 i.2 j.0 j.1 j.2)

pub load-requires : goal.load-requires
load-requires g c = let i = c.requires.seat.1 in let e = c.join_seat.ensures in (
  e.0 ∙ c.requires.seat.0,
  search rules,
  settles _ _ _ _ _ _ _ _ c.join_seat.new.seat.me (ap (λ m. m.0.waits) e.2 ∙ i.0) (ap (λ m. m.0.holds) e.2 ∙ i.1) (ap (λ m. m.0.spent) e.2 ∙ i.2),
)
