use Rattle.std.proofs.Common.{arith, sym, ◌∙◌}
use Rattle.span_tree.proofs.Parted.{goes_up}
use Rattle.span_tree.proofs.Ways.{some_same}
use Rattle.span_tree.proofs.history.History.parting.Goals as goal

pub loop-first-preserved-then-first-second : goal.loop-first-preserved-then-first-second
loop-first-preserved-then-first-second c =
    let up = c.branch_to-first.result in
    let row = c.loop-first.first.place.row in
    let before = c.branch_to-first.ensures.parent.before in
    let kept = c.loop-first.invariant in
    record {
      first_goes = goes_up c.args.self.now c.branch_to-first.ensures.numbered c.args.x c.loop-first.first up kept.first_goes c.branch_to-first.ensures.parent c.branch_to-first.ensures.child;
      second_goes = kept.second_goes;
      first_above = λ child e. (let same = some_same row child (sym c.branch_to-first.ensures.child ∙ e) in omega (arith, same, c.if-first-second.true));
      second_above = λ child e. omega (arith, kept.second_above child e, before);
      apart = λ child e f. (let same = some_same row child (sym c.branch_to-first.ensures.child ∙ e) in omega (arith, same, kept.second_above child f));
    }

pub loop-first-preserved : goal.loop-first-preserved
loop-first-preserved c =
    let up = c.branch_to-second.result in
    let row = c.loop-first.second.place.row in
    let before = c.branch_to-second.ensures.parent.before in
    let kept = c.loop-first.invariant in
    record {
      first_goes = kept.first_goes;
      second_goes = goes_up c.args.self.now c.branch_to-second.ensures.numbered c.args.y c.loop-first.second up kept.second_goes c.branch_to-second.ensures.parent c.branch_to-second.ensures.child;
      first_above = λ child e. omega (arith, kept.first_above child e, before);
      second_above = λ child e. (let same = some_same row child (sym c.branch_to-second.ensures.child ∙ e) in omega (arith, same, c.if-first-second.false, c.loop-first-test.true));
      apart = λ child e f. (let same = some_same row child (sym c.branch_to-second.ensures.child ∙ f) in omega (arith, same, kept.first_above child e));
    }
