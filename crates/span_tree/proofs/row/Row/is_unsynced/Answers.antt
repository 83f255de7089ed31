use Rattle.std.proofs.Common.{◌≡◌, ◌<◌, length, ap, sym, ◌∙◌, subst, eq-eqb, eqb-true, arith}
use Rattle.span_tree.specs.History.{Row}
use Rattle.span_tree.specs.declared.row.Step.{Step}
use Rattle.span_tree.specs.Dag.{NoSync}
use Rattle.span_tree.specs.Steps.{acts_of}
use Rattle.span_tree.proofs.Counting.{acts_length, unsynced_from_counts, counts_from_unsynced}
use Rattle.span_tree.proofs.row.Row.is_unsynced.Goals as goal

pub returns : goal.returns
returns c =
    let steps = c.self.inside.steps.items in
    let acts : acts_of steps ≡ c.args.self.now.acts = ap (λ (row : Row). row.acts) c.self.view_is in
    let within : c.args.j < length steps = omega (arith, c.requires.within, ap length acts, acts_length steps) in
    let first = ap (λ (step : Step). step.syncs) c.index.ensures in
    let second = ap (λ (step : Step). step.syncs) c.index-2.ensures in (
      λ is. subst (λ l. NoSync l c.args.i c.args.j) acts
          (unsynced_from_counts 0 steps c.args.i c.args.j _ _ c.self.invariant.syncs c.requires.order within (sym first ∙ eqb-true _ _ is ∙ second)),
      λ quiet. eq-eqb _ _ (first ∙ counts_from_unsynced 0 steps c.args.i c.args.j _ _ c.self.invariant.syncs c.requires.order within
          (subst (λ l. NoSync l c.args.i c.args.j) (sym acts) quiet) ∙ sym second),
    )
