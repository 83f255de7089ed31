use Rattle.std.proofs.Common.{◌≡◌, Some, sym, ap, ◌∙◌, subst, nat_cmp}
use Rattle.std.specs.Prelude.{is_some}
use Rattle.std.specs.BTreeMap.{Updates, is_at}
use Rattle.std.specs.Map.{lookup}
use Rattle.std.specs.Option.{option_copied_mut}
use Rattle.edge_rule.specs.Joins.{ChangesJoin, Join, Joins, StandsThere, given_back, kept_at, left_of, with_parked}
use Rattle.edge_rule.proofs.Closing.{is_started, kept_is, kept_then, settled_changes, settled_joins}
use Rattle.edge_rule.proofs.joins.Joins.park.Goals as goal

-- what the join kept
here : (c : goal.After-give_back) → lookup (is_at (nat_cmp c.args.join.number)) c.self.inside.waiting.entries ≡ Some c.unwrap-kept.result.now
here c = sym c.get_mut.ensures.value ∙ ap option_copied_mut c.unwrap-kept.ensures

-- what it keeps then
comes : (c : goal.After-give_back) → Updates nat_cmp c.self.inside.waiting (c.get_mut.follows.lender c.set_parked.new.self) c.args.join.number (Some c.set_parked.new.self)
comes c = (c.get_mut.follows.holds c.set_parked.new.self).3 (ap is_some (here c))

came : (c : goal.After-give_back) → c.set_parked.new.self ≡ with_parked c.args.closure (kept_at c.args.self.now c.args.join)
came c =
    c.set_parked.ensures
    ∙ ap (with_parked c.args.closure)
    (sym (kept_is c.self.inside.waiting c.args.join.number c.unwrap-kept.result.now (here c)) ∙ ap (λ (joins : Joins). kept_at joins c.args.join) c.self.view_is)

pub invariant_of-self : goal.invariant_of-self
invariant_of-self c =
    settled_joins c.self.inside.waiting (c.get_mut.follows.lender c.set_parked.new.self) c.give_back.new.waiting c.args.join.number c.set_parked.new.self (comes c) c.give_back.ensures.waiting
    c.self.inside.node c.self.inside.started c.self.invariant
    (is_started c.self.inside.waiting c.args.join.number c.unwrap-kept.result.now (here c) c.self.inside.node c.self.inside.started c.self.invariant)

pub returns-clause-closure : goal.returns-clause-closure
returns-clause-closure c =
    c.give_back.ensures.closure
    ∙ ap given_back (kept_then c.self.inside.waiting (c.get_mut.follows.lender c.set_parked.new.self) c.give_back.new.waiting c.args.join.number c.set_parked.new.self (comes c) ∙ came c)

pub returns-clause-joins : goal.returns-clause-joins
returns-clause-joins c =
    subst (λ (old : Joins). ChangesJoin old (record { node = c.self.inside.node; started = c.self.inside.started; waiting = c.give_back.new.waiting.entries }) c.args.join.number
    (left_of (with_parked c.args.closure (kept_at c.args.self.now c.args.join)))) c.self.view_is
    (settled_changes c.self.inside.waiting (c.get_mut.follows.lender c.set_parked.new.self) c.give_back.new.waiting c.args.join.number c.set_parked.new.self (comes c) c.give_back.ensures.waiting
    c.self.inside.node c.self.inside.started (with_parked c.args.closure (kept_at c.args.self.now c.args.join)) (came c))

pub returns-clause-stands : goal.returns-clause-stands
returns-clause-stands c = λ code stands.
    c.give_back.ensures.stands code
    (subst (λ (join : Join). StandsThere code join.parked)
    (sym (kept_then c.self.inside.waiting (c.get_mut.follows.lender c.set_parked.new.self) c.give_back.new.waiting c.args.join.number c.set_parked.new.self (comes c) ∙ came c)) stands)
