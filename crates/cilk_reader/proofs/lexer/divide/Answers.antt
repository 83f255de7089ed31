use Rattle.std.proofs.Common.{sym, subst}
use Rattle.cilk_reader.proofs.Divisions.{SoFar, divides_once, so_far_push, so_far_end, token_shorter}
use Rattle.cilk_reader.proofs.lexer.divide.Goals as goal

pub loop-places-smaller : goal.loop-places-smaller
loop-places-smaller c =
    let token = rw c.in-Token.is at c.in_ok-token.ensures in
    token_shorter c.loop-places.rest.now c.after_gap-start.result.now c.in-Token.after.now c.in-Token.token c.after_gap-start.ensures.gap token

pub loop-places-preserved : goal.loop-places-preserved
loop-places-preserved c =
    let token = rw c.in-Token.is at c.in_ok-token.ensures in
    subst (λ items. SoFar c.args.text.now items c.in-Token.after.now) (sym c.in_ok-push-in-Token.ensures.items)
    (so_far_push c.args.text.now c.loop-places.rest.now c.after_gap-start.result.now c.in-Token.after.now c.loop-places.places.items c.in-Token.token c.loop-places.invariant c.after_gap-start.ensures.gap token)

pub returns-in-End-clause-divides : goal.returns-in-End-clause-divides
returns-in-End-clause-divides c =
    let end = rw c.in-End.is at c.in_ok-token.ensures in
    so_far_end c.args.text.now c.loop-places.rest.now c.after_gap-start.result.now c.loop-places.places.items c.in-End.ending c.loop-places.invariant c.after_gap-start.ensures.gap end

pub returns-in-End-clause-only : goal.returns-in-End-clause-only
returns-in-End-clause-only c = λ places ending other.
    let end = rw c.in-End.is at c.in_ok-token.ensures in
    let divided = so_far_end c.args.text.now c.loop-places.rest.now c.after_gap-start.result.now c.loop-places.places.items c.in-End.ending c.loop-places.invariant c.after_gap-start.ensures.gap end in
    divides_once 0 c.args.text.now c.loop-places.places.items places c.in-End.ending ending divided other
