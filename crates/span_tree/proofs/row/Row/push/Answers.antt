use Rattle.std.proofs.Common.{◌∷◌, [], ap, ◌∙◌, arith, length-append}
use Rattle.span_tree.specs.Steps.{count_after, syncs_with}
use Rattle.span_tree.proofs.Counting.{count_within, counted_more}
use Rattle.span_tree.proofs.row.Row.push.Goals as goal

pub counted-syncs-requires : goal.counted-syncs-requires
counted-syncs-requires c =
    let same = ap (count_after 0) c.as_slice.ensures.value in
    omega (arith, c.latest_count.ensures, same, c.len.ensures, c.if-len.false, count_within 0 c.self.inside.steps.items c.self.invariant.syncs)

pub invariant_of-self-2 : goal.invariant_of-self-2
invariant_of-self-2 c =
    let count = c.latest_count.ensures ∙ ap (count_after 0) c.as_slice.ensures.value in
    rw c.in_ok-push.ensures.items (record {
      syncs = counted_more 0 _ _ c.self.invariant.syncs (c.counted-syncs.ensures ∙ ap (λ n. syncs_with n c.args.act) count);
      within = omega (arith, c.len.ensures, c.if-len.false, length-append c.self.inside.steps.items (record { act = c.args.act; syncs = c.counted-syncs.result } ∷ []));
    })
