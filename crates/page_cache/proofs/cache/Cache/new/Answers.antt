use Rattle.page_cache.proofs.Numbers.{no_numbers}
use Rattle.page_cache.proofs.cache.Cache.new.Goals as goal

pub invariant_of-result : goal.invariant_of-result
invariant_of-result c = rw c.in_ok-new.ensures (no_numbers c.new-3.result c.new-3.ensures.empty)
