use Rattle.std.proofs.Common.{◌≡◌, ◌++◌, Some, sym, ap, ◌∙◌}
use Rattle.std.specs.Prelude.{slice_get, slice_set, is_some}
use Rattle.std.specs.Option.{option_copied_mut, option_to_list}
use Rattle.edge_rule.proofs.Closing.{on_err}
use Rattle.edge_rule.proofs.Taking.{lent_some, same_first, some_first, taken_parted}
use Rattle.edge_rule.proofs.stealing.take_parted.Goals as goal

pub unwrap-requires : goal.unwrap-requires
unwrap-requires c =
    lent_some c.at_mut.result (ap is_some c.at_mut.ensures.item ∙ some_first c.args.deque.now c.requires.deque)

pub returns-in_err-join-clause-same : goal.returns-in_err-join-clause-same
returns-in_err-join-clause-same c =
    let is : slice_get c.args.deque.now 0 ≡ Some c.unwrap.result.now = sym c.at_mut.ensures.item ∙ ap option_copied_mut c.unwrap.ensures in
    on_err c.from_residual.result (ap (slice_set c.args.deque.now 0) (c.in_err-join.ensures.same) ∙ same_first c.args.deque.now c.unwrap.result.now is)

pub returns-clause-taken : goal.returns-clause-taken
returns-clause-taken c =
    let is : slice_get c.args.deque.now 0 ≡ Some c.unwrap.result.now = sym c.at_mut.ensures.item ∙ ap option_copied_mut c.unwrap.ensures in
    taken_parted c.args.child c.args.joins.now c.part.new.joins c.args.deque.now c.take_top.new.self c.unwrap.result.now c.part.new.parent c.unwrap-parent.result c.in_ok-join.join is
    (c.take_top.ensures.item ∙ ap (λ taken. option_to_list taken ++ c.take_top.new.self) c.unwrap-parent.ensures)
    c.in_ok-join.ensures.parent c.in_ok-join.ensures.join c.in_ok-join.ensures.joins
