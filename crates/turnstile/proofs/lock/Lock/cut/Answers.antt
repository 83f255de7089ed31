use Rattle.std.proofs.Common.{rules}
use Rattle.turnstile.proofs.Seats.{splits}
use Rattle.turnstile.proofs.lock.Lock.cut.Goals as goal

pub split_seat-requires : goal.split_seat-requires
split_seat-requires g c = let q = c.requires in let i = q.seat.1 in (q.seat.0, search rules, splits _ _ _ _ _ _ _ _ _ i.0 i.1 i.2 (rw (← q.shares.0) q.shares.1) (rw (← q.shares.0) q.shares.2))
