use Rattle.cluster_order.proofs.HomeOrders as orders
use Rattle.cluster_order.proofs.home_order_is_list.Goals as goal

pub returns : goal.returns
returns c = λ cluster turns word order lawful is. let it = orders.home_order_is_list cluster turns lawful word order is in (it.home, it.same)
