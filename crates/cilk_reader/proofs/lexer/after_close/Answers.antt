use Rattle.std.specs.Prelude.{codes}
use Rattle.std.proofs.lemmas.Bool.Decides.{Decides-eqb}
use Rattle.std.proofs.lemmas.Option.{MatchOption-at_none}
use Rattle.std.proofs.lemmas.Slice.Eq.{strip_prefix_is}
use Rattle.cilk_reader.proofs.Gaps.{close_so_far_push}
use Rattle.cilk_reader.proofs.lexer.after_close.Goals as goal

pub loop-after-preserved : goal.loop-after-preserved
loop-after-preserved c =
    let rest = c.loop-after.rest.now in
    close_so_far_push c.args.text.now rest c.in-Some.after.now c.in-Some.field-0-0.now c.loop-after.invariant c.in-Some.ensures.cases.0
    (MatchOption-at_none _ _ c.in_default-strip_prefix.is (strip_prefix_is Decides-eqb rest (codes "*/") c.strip_prefix.result c.strip_prefix.ensures.cases))
