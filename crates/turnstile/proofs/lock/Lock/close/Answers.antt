use Rattle.std.proofs.Common.{◌≡◌, ◌∷◌, [], subst}
use Rattle.turnstile.proofs.Seats.{closes}
use Rattle.turnstile.proofs.lock.Lock.close.Goals as goal

pub unreachable-requires : goal.unreachable-requires
unreachable-requires g c = let i = c.requires.seat.1 in let h = closes _ _ _ _ _ _ _ c.args.seat.me.0 _ _ i.1 i.2 c.requires.all c.close_with-closed.ensures.values.2 in cc (h.1, c.take-value.ensures.value, c.in-None.is)

pub returns : goal.returns
returns g c = let i = c.requires.seat.1 in let h = closes _ _ _ _ _ _ _ c.args.seat.me.0 _ _ i.1 i.2 c.requires.all c.close_with-closed.ensures.values.2 in
    let same : h.0 ≡ c.in-Some.value = cc (h.1, c.take-value.ensures.value, c.in-Some.is) in
    (subst (λ x. g.V.Chronicle.stands x c.args.seat.me.0.seen) same h.2, subst (λ x. c.args.seat.me.0.charter ≡ g.V.Chronicle.charter x ∷ []) same h.3)
