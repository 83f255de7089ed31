use Rattle.std.proofs.Common.{◌≡◌, ◌<◌, ◌∷◌, length, false, subst, sym, ◌∙◌, ap}
use Rattle.lru.specs.LruCache.{lru_cache}
use Rattle.page_cache.specs.Cache.{is_resident}
use Rattle.page_cache.proofs.Numbers.{numbers_added, put_absent}
use Rattle.page_cache.proofs.cache.Cache.insert.Goals as goal

absent : (c : goal.In-Ok) → is_resident c.self.inside.pages.entries c.args.number ≡ false
absent c = subst (λ s. is_resident s.pages c.args.number ≡ false) (sym c.self.view_is) c.requires.absent

-- The page was put first, and none was pushed out.
stored : (c : goal.In-Ok) → c.put.new.self ≡ lru_cache ((c.args.number, c.args.page) ∷ c.self.inside.pages.entries) c.self.inside.pages.cap
stored c = c.in-Ok.ensures.entries ∙ ap (λ es. lru_cache es c.self.inside.pages.cap)
    (put_absent c.args.number c.self.inside.pages.entries c.args.page c.self.inside.pages.cap (subst (λ s. length s.pages < s.capacity) (sym c.self.view_is) c.requires.room) (absent c))

pub invariant_of-self-in-Ok : goal.invariant_of-self-in-Ok
invariant_of-self-in-Ok c = rw (stored c) (numbers_added c.self.inside.numbers c.insert.new.self c.self.inside.pages.entries c.args.number c.args.page
    (absent c) c.in_ok-insert.ensures.updates c.self.invariant)

pub returns-in-Ok-clause-ok : goal.returns-in-Ok-clause-ok
returns-in-Ok-clause-ok c = rw (← c.self.view_is, stored c)
