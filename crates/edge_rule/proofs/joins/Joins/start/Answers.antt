use Rattle.std.proofs.Common.{◌≡◌, ◌+◌, Some, refl, ap, subst, arith, nat_cmp}
use Rattle.std.specs.BTreeMap.{Updates}
use Rattle.edge_rule.specs.Joins.{ChangesJoin, Joins, fresh, is_complete}
use Rattle.edge_rule.proofs.Changing.{still_joins, updated}
use Rattle.edge_rule.proofs.joins.Joins.start.Goals as goal

pub invariant_of-self-2 : goal.invariant_of-self-2
invariant_of-self-2 c =
    still_joins
    (record { node = c.self.inside.node; started = c.self.inside.started; waiting = c.self.inside.waiting.entries })
    (record { node = c.self.inside.node; started = c.self.inside.started + 1; waiting = c.insert.new.self.entries })
    c.self.inside.started (Some fresh) c.self.invariant (omega arith) (omega arith)
    (λ join is. let same : join ≡ fresh = cc in ap is_complete same)
    (updated c.self.inside.waiting c.insert.new.self c.self.inside.started (Some fresh)
    (subst (λ join. Updates nat_cmp c.self.inside.waiting c.insert.new.self c.self.inside.started (Some join)) c.new.ensures c.in_ok-insert.ensures.updates))

pub returns-clause-joins : goal.returns-clause-joins
returns-clause-joins c =
    subst (λ (old : Joins). ChangesJoin (record old { started = old.started + 1 }) (record { node = c.self.inside.node; started = c.self.inside.started + 1; waiting = c.insert.new.self.entries }) old.started (Some fresh))
    c.self.view_is
    (record {
      node = refl;
      started = refl;
      joins = updated c.self.inside.waiting c.insert.new.self c.self.inside.started (Some fresh)
          (subst (λ join. Updates nat_cmp c.self.inside.waiting c.insert.new.self c.self.inside.started (Some join)) c.new.ensures c.in_ok-insert.ensures.updates);
    })
