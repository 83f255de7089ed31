use Rattle.std.proofs.Common.{Some, refl, subst, sym}
use Rattle.std.specs.Prelude.{codes}
use Rattle.std.proofs.lemmas.Bool.Decides.{Decides-eqb}
use Rattle.std.proofs.lemmas.Option.{MatchOption-at_none}
use Rattle.std.proofs.lemmas.Slice.Eq.{strip_prefix_is}
use Rattle.cilk_reader.specs.Heads.{IsPieceBefore}
use Rattle.cilk_reader.proofs.Gaps.{line_piece, block_piece, blank_piece}
use Rattle.cilk_reader.proofs.lexer.after_piece.Goals as goal

pub returns-in-Some : goal.returns-in-Some
returns-in-Some c =
    let text = c.args.text.now in
    let whole = strip_prefix_is Decides-eqb text (codes "//") (Some c.in-Some.body) c.in-Some.ensures.cases in
    subst (λ r. IsPieceBefore c.args.text.now r) (sym c.after_line.ensures) (line_piece text c.in-Some.body.now whole)

pub returns-in-Some-strip_prefix : goal.returns-in-Some-strip_prefix
returns-in-Some-strip_prefix c =
    let text = c.args.text.now in
    let whole = strip_prefix_is Decides-eqb text (codes "/*") (Some c.in-Some-strip_prefix.body) c.in-Some-strip_prefix.ensures.cases in
    block_piece text c.in-Some-strip_prefix.body.now whole c.after_close.result c.after_close.ensures

pub returns : goal.returns
returns c =
    let text = c.args.text.now in
    rw c.then_some.ensures
    (blank_piece text c.in_ok-first.rest.now c.in_ok-first.first.now c.is_blank.result c.in_ok-first.ensures.cases.0 c.is_blank.ensures
    (MatchOption-at_none _ _ c.in_default.is (strip_prefix_is Decides-eqb text (codes "//") c.strip_prefix.result c.strip_prefix.ensures.cases))
    (MatchOption-at_none _ _ c.in_default-strip_prefix.is (strip_prefix_is Decides-eqb text (codes "/*") c.strip_prefix-2.result c.strip_prefix-2.ensures.cases))
    c.in_ok-first.rest refl)
