use Rattle.std.proofs.Common.{◌≡◌, Some, sym, ap, ◌∙◌, subst, to_z-of_z, nat_cmp}
use Rattle.std.specs.Prelude.{is_some}
use Rattle.std.specs.BTreeMap.{Updates, is_at}
use Rattle.std.specs.Map.{lookup}
use Rattle.std.specs.Option.{option_copied_mut}
use Rattle.edge_rule.specs.Joins.{AreJoins, ChangesJoin, Join, Joins, StandsThere, kept_at, left_of, with_done}
use Rattle.edge_rule.proofs.Closing.{is_started, kept_is, kept_then, on_err, settled_changes, settled_joins, unchanged}
use Rattle.edge_rule.proofs.joins.Joins.done.Goals as goal

-- an error
pub invariant_of-self : goal.invariant_of-self
invariant_of-self c =
    let here = sym c.get_mut.ensures.value ∙ ap option_copied_mut c.unwrap-kept.ensures in
    let same = unchanged c.self.inside.waiting c.args.join.number c.unwrap-kept.result.now here (c.get_mut.follows.lender c.add.new.self) c.add.new.self (c.in_err-add.ensures.err) (c.get_mut.follows.holds c.add.new.self).0 in
    subst (λ entries. AreJoins (record { node = c.self.inside.node; started = c.self.inside.started; waiting = entries })) (sym same) c.self.invariant

pub returns-in_err-add-clause-err : goal.returns-in_err-add-clause-err
returns-in_err-add-clause-err c =
    let here = sym c.get_mut.ensures.value ∙ ap option_copied_mut c.unwrap-kept.ensures in
    let same = unchanged c.self.inside.waiting c.args.join.number c.unwrap-kept.result.now here (c.get_mut.follows.lender c.add.new.self) c.add.new.self (c.in_err-add.ensures.err) (c.get_mut.follows.holds c.add.new.self).0 in
    on_err c.from_residual.result (ap (λ entries. record { node = c.self.inside.node; started = c.self.inside.started; waiting = entries }) same ∙ c.self.view_is)

-- what the join kept
here : (c : goal.After-give_back) → lookup (is_at (nat_cmp c.args.join.number)) c.self.inside.waiting.entries ≡ Some c.unwrap-kept.result.now
here c = sym c.get_mut.ensures.value ∙ ap option_copied_mut c.unwrap-kept.ensures

-- what it keeps then
comes : (c : goal.After-give_back) → Updates nat_cmp c.self.inside.waiting (c.get_mut.follows.lender c.add.new.self) c.args.join.number (Some c.add.new.self)
comes c = (c.get_mut.follows.holds c.add.new.self).3 (ap is_some (here c))

came : (c : goal.After-give_back) → c.add.new.self ≡ with_done c.args.index c.args.value (kept_at c.args.self.now c.args.join)
came c =
    c.in_ok-add.ensures.ok
    ∙ ap (λ value. with_done c.args.index value c.unwrap-kept.result.now) (to_z-of_z c.ranges.value)
    ∙ ap (with_done c.args.index c.args.value)
    (sym (kept_is c.self.inside.waiting c.args.join.number c.unwrap-kept.result.now (here c)) ∙ ap (λ (joins : Joins). kept_at joins c.args.join) c.self.view_is)

pub invariant_of-self-2 : goal.invariant_of-self-2
invariant_of-self-2 c =
    settled_joins c.self.inside.waiting (c.get_mut.follows.lender c.add.new.self) c.give_back.new.waiting c.args.join.number c.add.new.self (comes c) c.give_back.ensures.waiting
    c.self.inside.node c.self.inside.started c.self.invariant
    (is_started c.self.inside.waiting c.args.join.number c.unwrap-kept.result.now (here c) c.self.inside.node c.self.inside.started c.self.invariant)

pub returns-clause-joins : goal.returns-clause-joins
returns-clause-joins c =
    subst (λ (old : Joins). ChangesJoin old (record { node = c.self.inside.node; started = c.self.inside.started; waiting = c.give_back.new.waiting.entries }) c.args.join.number
    (left_of (with_done c.args.index c.args.value (kept_at c.args.self.now c.args.join)))) c.self.view_is
    (settled_changes c.self.inside.waiting (c.get_mut.follows.lender c.add.new.self) c.give_back.new.waiting c.args.join.number c.add.new.self (comes c) c.give_back.ensures.waiting
    c.self.inside.node c.self.inside.started (with_done c.args.index c.args.value (kept_at c.args.self.now c.args.join)) (came c))

pub returns-clause-stands : goal.returns-clause-stands
returns-clause-stands c = λ code stands.
    c.give_back.ensures.stands code
    (subst (λ (join : Join). StandsThere code join.parked)
    (sym (kept_then c.self.inside.waiting (c.get_mut.follows.lender c.add.new.self) c.give_back.new.waiting c.args.join.number c.add.new.self (comes c) ∙ came c)) stands)
