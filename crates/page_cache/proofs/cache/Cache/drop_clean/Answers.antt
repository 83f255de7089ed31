use Rattle.page_cache.proofs.Numbers.{numbers_left}
use Rattle.page_cache.proofs.cache.Cache.drop_clean.Goals as goal

pub invariant_of-self : goal.invariant_of-self
invariant_of-self c = rw c.pop-page.ensures.entries (numbers_left c.self.inside.numbers c.remove.new.self c.self.inside.pages.entries c.args.page c.remove.ensures.updates c.self.invariant)
