use Rattle.std.proofs.Common.{rules}
use Rattle.turnstile.proofs.Steps.{counts}
use Rattle.turnstile.proofs.lock.Lock.count_on.Goals as goal

pub fetch_add-requires : goal.fetch_add-requires
fetch_add-requires g c = let h = c.requires.next in (c.requires.seat.0, search rules, counts _ _ _ _ _ _ _ _ _ h.0 h.1 _ c.requires.seat.1 c.requires.seat.2 h.2 h.3 h.4)
