use Rattle.std.proofs.Common.{Some, sym, ◌∙◌, ◌∷◌}
use Rattle.atomic_table.specs.Table.{rest}
use Rattle.turnstile.proofs.lock.Lock.take.Goals as goal

pub exchange-requires : goal.exchange-requires
exchange-requires g c = let h = c.requires.seat.1 in (c.requires.seat.0, (Some h.0, h.1 ∙ (λ i. (0, Some h.0) ∷ rest (sym h.1 i))))
