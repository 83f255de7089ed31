use Rattle.word_order.proofs.HomesAreConsistent.{home_orders_are_consistent}
use Rattle.word_order.proofs.home_orders_are_consistent.Goals as goal

pub returns : goal.returns
returns c = λ cluster program turns frames history orders valid stands parted lawful are_homes is_history.
    home_orders_are_consistent cluster turns lawful valid.arrays program stands parted cluster.code.main frames history is_history orders are_homes
