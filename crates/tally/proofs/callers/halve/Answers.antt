use Rattle.std.proofs.Common.{arith, ap, length, length-append, ◌∙◌}
use Rattle.tally.proofs.Ranges.{parts}
use Rattle.tally.proofs.callers.halve.Goals as goal

pub returns-clause-old : goal.returns-clause-old
returns-clause-old c = let s = c.split.ensures in let n = c.split.new.pass.numbers in let m = c.split.result.numbers in
    let p = parts n m c.args.first _ (s.greatest ∙ c.requires.numbers.0.1) in
    ((ap (λ k. k.visit) s.pass ∙ c.requires.numbers.0.0, p.0), omega (arith, length-append n m, ap (λ xs. length xs) s.greatest, s.shares, c.shares-half.ensures.count, c.requires.numbers.1))

pub returns-clause-new : goal.returns-clause-new
returns-clause-new c = let s = c.split.ensures in let n = c.split.new.pass.numbers in let m = c.split.result.numbers in
    let p = parts n m c.args.first _ (s.greatest ∙ c.requires.numbers.0.1) in
    ((ap (λ k. k.visit) s.new ∙ c.requires.numbers.0.0, p.1), omega (arith, s.shares, c.shares-half.ensures.count, c.requires.numbers.1))
