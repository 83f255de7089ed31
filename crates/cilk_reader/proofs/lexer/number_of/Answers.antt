use Rattle.std.proofs.Common.{◌≢◌, ◌<◌, subst, length, get_or, w64, arith}
use Rattle.std.specs.Str.Parse.{ParsesSigned}
use Rattle.cilk_reader.proofs.Numbers.{no_leading_zero, utf8_from_number, kept_by_ok, lost_by_ok, numeral_from_parse}
use Rattle.cilk_reader.proofs.lexer.number_of.Goals as goal
use Rattle.cilk_reader.proofs.lexer.number_of.Goals.{else-word-gt1-via-then-word-gt1+else-word-eq48, else-word-gt1-via-else-word-gt1}

pub returns-then-word-eq48 : goal.returns-then-word-eq48
returns-then-word-eq48 c = λ n numeral. no_leading_zero n c.args.word.now numeral c.if-word-gt1.true c.if-word-eq48.true

pub returns-in_err-ok : goal.returns-in_err-ok
returns-in_err-ok c = rw c.from_residual.ensures (λ n numeral. (lost_by_ok _ _ c.from_utf8.result c.from_utf8.ensures.cases c.in_err-ok.ensures.value).1.0 (utf8_from_number c.args.word.now n numeral))

pub returns : goal.returns
returns c =
    let text = kept_by_ok _ _ c.from_utf8.result c.in_ok-ok.field-0 c.from_utf8.ensures.cases c.in_ok-ok.ensures.value in
    let no_zero : 1 < length c.args.word.now → get_or c.args.word.now 0 0 ≢ 48 = elim c.else-word-gt1.branch [ else-word-gt1-via-then-word-gt1+else-word-eq48 w ↦ λ long. w.if-word-eq48.false | else-word-gt1-via-else-word-gt1 w ↦ λ long. absurd (omega arith) ] in
    numeral_from_parse c.args.word.now c.parse.result c.ok-2.result c.requires no_zero (subst (λ bs. ParsesSigned w64 10 bs c.parse.result) text.0 c.parse.ensures.value.0) c.ok-2.ensures.value
