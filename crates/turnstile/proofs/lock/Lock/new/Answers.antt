use Rattle.std.proofs.Common.{ap, sym}
use Rattle.turnstile.proofs.Seats.{opens}
use Rattle.turnstile.proofs.lock.Lock.new.Goals as goal

pub new-requires : goal.new-requires
new-requires g c = let e = c.in_ok-slots.ensures {u = tt} in let q = c.requires in
    rw e.ok (opens _ _ _ _ _ _ c.args.value q.shares.0 q.shares.1 q.value (ap g.V.Chronicle.charter (sym c.of.ensures)) (g.met.V.Chronicle.empty_is_lawful _))
