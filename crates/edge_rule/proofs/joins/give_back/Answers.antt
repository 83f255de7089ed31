use Rattle.std.proofs.Common.{◌≡◌, None, nat_eq, sym, ap, ◌∙◌, subst}
use Rattle.std.specs.Map.{lookup, update}
use Rattle.edge_rule.specs.Joins.{Join, StandsThere, is_complete}
use Rattle.edge_rule.proofs.Changing.{updated}
use Rattle.edge_rule.proofs.Closing.{kept_is, complete_gives, complete_leaves}
use Rattle.edge_rule.proofs.joins.give_back.Goals as goal

pub returns-clause-closure : goal.returns-clause-closure
returns-clause-closure c =
    let same : c.in_ok-get.field-0.now ≡ c.in_ok-remove.field-0 = cc (c.in_ok-get.ensures.value, c.in_ok-remove.ensures.value) in
    c.give_back.ensures.closure
    ∙ sym (complete_gives c.args.waiting.now c.args.number c.in_ok-remove.field-0 (sym (c.in_ok-remove.ensures.value))
    (ap is_complete (sym same) ∙ sym c.is_complete.ensures ∙ c.if-not-is_complete.false))

pub returns-clause-waiting : goal.returns-clause-waiting
returns-clause-waiting c = λ other.
    let same : c.in_ok-get.field-0.now ≡ c.in_ok-remove.field-0 = cc (c.in_ok-get.ensures.value, c.in_ok-remove.ensures.value) in
    updated c.args.waiting.now c.remove.new.self c.args.number None (c.in_ok-remove.ensures.updates) other
    ∙ ap (λ left. update nat_eq (λ q. lookup (nat_eq q) c.args.waiting.now.entries) c.args.number left other)
    (sym (complete_leaves c.args.waiting.now c.args.number c.in_ok-remove.field-0 (sym (c.in_ok-remove.ensures.value))
    (ap is_complete (sym same) ∙ sym c.is_complete.ensures ∙ c.if-not-is_complete.false)))

pub returns-clause-stands : goal.returns-clause-stands
returns-clause-stands c = λ code stands.
    c.give_back.ensures.stands code
    (subst (λ (join : Join). StandsThere code join.parked) (kept_is c.args.waiting.now c.args.number c.in_ok-remove.field-0 (sym (c.in_ok-remove.ensures.value))) stands)
