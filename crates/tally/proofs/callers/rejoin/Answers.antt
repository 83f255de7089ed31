use Rattle.std.proofs.Common.{ap, ◌∙◌}
use Rattle.tally.proofs.Ranges.{together}
use Rattle.tally.proofs.callers.rejoin.Goals as goal

pub returns-clause-numbers : goal.returns-clause-numbers
returns-clause-numbers c = let q = c.requires.numbers in
    (ap (λ k. k.visit) c.meet.ensures.pass ∙ q.0.0, c.meet.ensures.numbers ∙ together _ _ c.args.first _ _ q.0.1 q.1.1)
