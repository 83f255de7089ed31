use Rattle.std.proofs.Common.{rules}
use Rattle.turnstile.proofs.Steps.{serves}
use Rattle.turnstile.proofs.lock.Lock.serve.Goals as goal

pub fetch_add-requires : goal.fetch_add-requires
fetch_add-requires g c = let h = c.requires.value in (c.requires.seat.0, search rules, serves _ _ _ _ _ _ _ _ _ h.0 c.requires.seat.1 c.requires.seat.2 h.1 h.2 h.3)
