use Rattle.sync_order.proofs.Moving as moving
use Rattle.sync_order.proofs.order_is_free.Goals as goal

pub returns : goal.returns
returns c =
    λ code depth procedure arguments answers rest given other apart same.
    moving.order_is_free code given other apart same rest depth procedure arguments answers
