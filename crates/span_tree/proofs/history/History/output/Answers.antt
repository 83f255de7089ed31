use Rattle.std.proofs.Common.{◌++◌, ap, ◌∙◌}
use Rattle.std.specs.Option.{option_and_then, option_to_list}
use Rattle.span_tree.specs.Memory.{printed_by}
use Rattle.span_tree.proofs.Gathering.{printed_more}
use Rattle.span_tree.proofs.history.History.output.Goals as goal

pub loop-place-preserved : goal.loop-place-preserved
loop-place-preserved c =
    c.in_ok-add_printed.ensures.ok
    ∙ ap (λ act. c.loop-place.values.items ++ option_to_list (option_and_then printed_by act)) c.act.ensures
    ∙ printed_more c.args.self.now c.deref-place-items.result.now c.loop-place.place-index _ c.loop-place.values.items c.loop-place-test.true c.loop-place.invariant
