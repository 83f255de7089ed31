use Rattle.std.proofs.Common.{◌≡◌, true, nat_eq, IsFalse, ◌++◌, length, drop, rules, tests}
use Rattle.std.specs.List.{starts_with}
use Rattle.std.proofs.lemmas.Iterator.{first_from_find, YieldsList-from_slice}
use Rattle.std.proofs.lemmas.Iterator.Consumers.{YieldsList-from_copied, YieldsList-at}
use Rattle.cilk_tree.specs.Token.{sign_text}
use Rattle.cilk_reader.proofs.Gaps.{prefix_split}
use Rattle.cilk_reader.proofs.Tables.{signs, sign_from_first}
use Rattle.cilk_reader.proofs.lexer.sign_at.Goals as goal

pub returns : goal.returns
returns c =
    let text = c.args.text.now in
    sign_from_first text c.find.result
    (first_from_find _ _ c.find.result (λ s. text ≡ sign_text s ++ drop (length (sign_text s)) text) (λ s. IsFalse (starts_with nat_eq text (sign_text s))) c.find.ensures.ran (YieldsList-from_copied (YieldsList-at c.copied.ensures.source (YieldsList-from_slice signs cc)))
    (λ x q k. let same : starts_with nat_eq c.args.text.now (sign_text x) ≡ true = search (rules, tests) in prefix_split c.args.text.now (sign_text x) same)
    (λ x q k. (search (rules, tests), search (rules, tests))))
