use Rattle.std.proofs.lemmas.Result.{err_from_is_err_and}
use Rattle.cilk_parser.proofs.Bricks.Arrays.{array_reads, bracket_lacks, closing_lacks, words_lacks}
use Rattle.cilk_parser.proofs.parser.Parser.array.Goals as goal

pub returns-in_err-sign : goal.returns-in_err-sign
returns-in_err-sign c =
    let p = err_from_is_err_and c.from_residual.result c.from_residual.ensures.1 in
    rw (p.1, p.2) (bracket_lacks _ _ _ (c.in_err-sign.ensures {u = tt}))

pub returns-in_err-words : goal.returns-in_err-words
returns-in_err-words c =
    let p = err_from_is_err_and c.from_residual-in_err-words.result c.from_residual-in_err-words.ensures.1 in
    rw (p.1, p.2) (words_lacks _ _ _ (c.in_ok-sign.ensures {u = tt}) _ (c.in_err-words.ensures {u = tt}))

pub returns-in_err-sign-2 : goal.returns-in_err-sign-2
returns-in_err-sign-2 c =
    let p = err_from_is_err_and c.from_residual-in_err-sign-2.result c.from_residual-in_err-sign-2.ensures.1 in
    rw (p.1, p.2) (closing_lacks _ _ _ (c.in_ok-sign.ensures {u = tt}) _ _ (c.in_ok-words.ensures {u = tt}) _ (c.in_err-sign-2.ensures {u = tt}))

pub returns : goal.returns
returns c = array_reads _ _ _ (c.in_ok-sign.ensures {u = tt}) _ _ (c.in_ok-words.ensures {u = tt}) _ (c.in_ok-sign-2.ensures {u = tt})
