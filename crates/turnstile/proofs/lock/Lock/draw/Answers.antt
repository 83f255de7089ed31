use Rattle.std.proofs.Common.{rules}
use Rattle.turnstile.proofs.Steps.{draws}
use Rattle.turnstile.proofs.lock.Lock.draw.Goals as goal

pub fetch_add-requires : goal.fetch_add-requires
fetch_add-requires g c = let idle = c.requires.seat.1 in (c.requires.seat.0, search rules, draws _ _ _ _ _ _ _ _ _ idle.0 idle.1 idle.2)
