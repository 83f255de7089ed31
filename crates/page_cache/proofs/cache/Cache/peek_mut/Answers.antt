use Rattle.page_cache.proofs.Numbers.{numbers_kept}
use Rattle.page_cache.proofs.cache.Cache.peek_mut.Goals as goal

pub invariant_of-self-lent : goal.invariant_of-self-lent
invariant_of-self-lent c = λ _. (λ last. numbers_kept c.args.page c.self.inside.pages.entries last c.self.inside.numbers c.self.invariant, c.self.invariant)
