use Rattle.std.proofs.Common.{arith, refl, sym, ◌∙◌}
use Rattle.command_words.proofs.Numbers.{decimal_is_plain, parsed_some, parsed_none}
use Rattle.command_words.proofs.number.number_of.Goals as goal

pub returns-then-not-is_plain-clause-none : goal.returns-then-not-is_plain-clause-none
returns-then-not-is_plain-clause-none c = λ none n small written. let plain = decimal_is_plain n c.args.word.now small written in grind (arith, c.is_plain.ensures, plain)

pub returns-clause-some : goal.returns-clause-some
returns-clause-some c = rw c.ok.ensures.value (parsed_some c.args.word.now c.parse.result c.parse.ensures.value.0 (c.if-not-is_plain.ensures.0 refl))

pub returns-clause-none : goal.returns-clause-none
returns-clause-none c = λ none. parsed_none c.args.word.now c.parse.result c.parse.ensures.value.0 (c.if-not-is_plain.ensures.0 refl) (sym c.ok.ensures.value ∙ none)
