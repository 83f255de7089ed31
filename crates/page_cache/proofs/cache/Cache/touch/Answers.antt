use Rattle.std.proofs.Common.{rules, ◌≡◌, true, is_some, ap, sym, ◌∙◌}
use Rattle.page_cache.specs.Cache.{is_resident}
use Rattle.page_cache.proofs.Lending.{same_lending}
use Rattle.page_cache.proofs.Numbers.{numbers_promoted, set_promoted}
use Rattle.page_cache.proofs.cache.Cache.touch.Goals as goal

pub invariant_of-self-lent : goal.invariant_of-self-lent
invariant_of-self-lent c = λ _. (λ last. numbers_promoted c.args.page c.self.inside.pages.entries last c.self.inside.numbers c.self.invariant, c.self.invariant)

pub returns : goal.returns
returns c = (
  same_lending c.get_mut.result _ _ _ _
      (λ was is last.
      let resident : is_resident c.self.inside.pages.entries c.args.page ≡ true = ap is_some (sym c.get_mut.ensures.value ∙ is) in
      rw (← c.self.view_is, set_promoted c.args.page c.self.inside.pages.entries last resident))
      c.self.view_is,
  record { used = tt; page = search rules },
)
