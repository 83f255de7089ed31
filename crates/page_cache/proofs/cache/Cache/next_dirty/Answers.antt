use Rattle.std.proofs.Common.{ℕ, Bool, cond, Some, sym, ◌∙◌, ap, subst}
use Rattle.std.specs.List.{find}
use Rattle.page_cache.specs.Cache.{AreNumbers, IsLeastFrom, is_dirty}
use Rattle.page_cache.proofs.Search.{least_dirty}
use Rattle.page_cache.proofs.cache.Cache.next_dirty.Goals as goal

-- What the walk has left is found as in the whole: the page that it stands at.
pub returns-then-is_dirty : goal.returns-then-is_dirty
returns-then-is_dirty c =
    let test : ℕ → Bool = is_dirty c.args.self.now.pages in
    let are = subst (λ s. AreNumbers c.self.inside.numbers s.pages) c.self.view_is c.self.invariant in
    let walked = ap (find test) (sym (c.range-number-items.ensures.between tt) ∙ sym c.into_iter-number-iterator.ensures.into_iter_gives) ∙ sym c.loop-number.invariant ∙ ap (find test) c.in-Some.ensures.steps in
    let here = ap (λ b. cond b (Some c.in-Some.number.now) (find test c.next.new.self)) (sym c.is_dirty.ensures ∙ c.if-is_dirty.true) in
    subst (IsLeastFrom test c.args.least) (walked ∙ here) (least_dirty c.args.self.now.pages c.self.inside.numbers c.args.least are c.range-number-items.ensures.ordered)

-- It has nothing left, so there is none.
pub returns : goal.returns
returns c =
    let test : ℕ → Bool = is_dirty c.args.self.now.pages in
    let are = subst (λ s. AreNumbers c.self.inside.numbers s.pages) c.self.view_is c.self.invariant in
    let walked = ap (find test) (sym (c.range-number-items.ensures.between tt) ∙ sym c.into_iter-number-iterator.ensures.into_iter_gives) ∙ sym c.loop-number.invariant ∙ ap (find test) c.in-None.ensures.steps.0 in
    subst (IsLeastFrom test c.args.least) walked (least_dirty c.args.self.now.pages c.self.inside.numbers c.args.least are c.range-number-items.ensures.ordered)
