use Rattle.std.proofs.Common.{arith, rules}
use Rattle.command_words.proofs.Numbers.{number_is}
use Rattle.command_words.proofs.number.Range.number.Goals as goal

pub returns-then-number-self-clause-none : goal.returns-then-number-self-clause-none
returns-then-number-self-clause-none c = λ none n is.
    let all = number_is c.args.self.least c.args.self.most c.args.self.default c.args.value c.in-Some.word c.in_ok-number.number n c.in-Some.is (search rules) (search rules) c.in_ok-number.ensures.some is in
    omega (arith, all.0, all.1, c.if-number-self.true)

pub returns-then-number-self-2-clause-none : goal.returns-then-number-self-2-clause-none
returns-then-number-self-2-clause-none c = λ none n is.
    let all = number_is c.args.self.least c.args.self.most c.args.self.default c.args.value c.in-Some.word c.in_ok-number.number n c.in-Some.is (search rules) (search rules) c.in_ok-number.ensures.some is in
    omega (arith, all.0, all.2, c.if-number-self-2.true)
