use Rattle.cluster_order.proofs.Caching.{keeps_the_page_rules}
use Rattle.cluster_order.proofs.keeps_page_rules.Goals as goal

pub returns : goal.returns
returns c = λ cluster turns lawful. keeps_the_page_rules cluster turns lawful
