use Rattle.std.proofs.Common.{◌≡◌, ◌∷◌, [], ap, subst, ◌∙◌}
use Rattle.std.proofs.lemmas.Grind.{fold-append}
use Rattle.cilk_tree.specs.Lawful.Scope.{local_named}
use Rattle.cilk_checker.specs.Names.{value_at}
use Rattle.cilk_checker.specs.Scopes.{with_one, scope_of, IsFresh}
use Rattle.cilk_checker.proofs.Stacks.{forgotten}
use Rattle.cilk_checker.proofs.locals.Locals.forget_latest.Goals as goal

pub invariant_of-self : goal.invariant_of-self
invariant_of-self c =
    let below = scope_of c.pop.new.self.items in
    let top = c.in-Some.local in
    let e : scope_of c.self.inside.stack.items ≡ with_one below top = ap scope_of c.in-Some.ensures.items ∙ fold-append with_one [] c.pop.new.self.items (top ∷ []) in
    let fresh = subst IsFresh e c.self.invariant.fresh in
    record {
      fresh = fresh.1;
      agrees = forgotten (record { name = top.name.now; number = top.number }) below (value_at c.self.inside.numbers.values) (value_at c.remove.new.self.values) fresh.0 (λ name. c.self.invariant.agrees name ∙ ap (λ stack. local_named stack name) e) c.remove.ensures;
    }
