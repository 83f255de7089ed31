use Rattle.std.proofs.Common.{◌≡◌, true, IsFalse, rules, tests}
use Rattle.std.specs.Str.{bytes_eq}
use Rattle.std.proofs.lemmas.Slice.Eq.{bytes_eq-Decides}
use Rattle.std.proofs.lemmas.Iterator.{first_from_find, YieldsList-from_slice}
use Rattle.std.proofs.lemmas.Iterator.Consumers.{YieldsList-from_copied, YieldsList-at}
use Rattle.cilk_tree.specs.Token.{keyword_text, all_keywords}
use Rattle.cilk_reader.proofs.Tables.{keyword_from_first}
use Rattle.cilk_reader.proofs.lexer.keyword_of.Goals as goal

pub returns : goal.returns
returns c =
    let word = c.args.word.now in
    keyword_from_first word c.find.result
    (first_from_find _ _ c.find.result (λ k. word ≡ keyword_text k) (λ k. IsFalse (bytes_eq word (keyword_text k))) c.find.ensures.ran (YieldsList-from_copied (YieldsList-at c.copied.ensures.source (YieldsList-from_slice all_keywords cc)))
    (λ x q k. let same : bytes_eq c.args.word.now (keyword_text x) ≡ true = search (rules, tests) in (bytes_eq-Decides c.args.word.now (keyword_text x)).0 same)
    (λ x q k. (search (rules, tests), search (rules, tests))))
