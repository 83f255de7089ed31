use Rattle.std.proofs.Common.{◌≡◌, ◌<◌, [], ◌++◌, length, take, arith, append-nil, sym, ap, ◌∙◌}
use Rattle.std.proofs.lemmas.List.{take-append-drop}
use Rattle.std.proofs.lemmas.Result.{err_from_is_err_and}
use Rattle.std.proofs.lemmas.Bool.Decides.{nat_tests}
use Rattle.backer_top.proofs.Pieces.{cut_up, cut_after, IsCutShort-more, IsCutShort-now, IsWritten-more, IsWritten-last, IsWritten-nothing}
use Rattle.backer_top.proofs.writing.write_all.Goals as goal

pub loop-rest-preserved : goal.loop-rest-preserved
loop-rest-preserved g c =
    let sink = g.S.Sink in
    let rest = c.loop-rest.rest.now in
    let piece = c.split_at.result.0.now in
    let later = c.split_at.result.1.now in
    let cut : rest ≡ piece ++ later = sym (ap (λ b. b ++ later) c.split_at.ensures.front ∙ ap (λ b. take 4096 rest ++ b) c.split_at.ensures.back ∙ take-append-drop 4096 rest) in
    record {
      faults = omega (arith, c.in_ok-put.ensures.faults, c.loop-rest.invariant.faults);
      goes_on = λ new written. c.loop-rest.invariant.goes_on new (IsWritten-more sink.held sink.took c.loop-rest.sink c.put.new.self new piece later rest cut c.split_at.ensures.front_len c.in_ok-put.ensures.whole c.in_ok-put.ensures.took written);
      breaks = λ new short. c.loop-rest.invariant.breaks new (IsCutShort-more sink.held sink.took sink.failed c.loop-rest.sink c.put.new.self new piece later rest cut c.split_at.ensures.front_len c.in_ok-put.ensures.whole c.in_ok-put.ensures.took short);
    }

pub returns-in_ok-put-2-clause-written : goal.returns-in_ok-put-2-clause-written
returns-in_ok-put-2-clause-written g c =
    let sink = g.S.Sink in
    let rest = c.loop-rest.rest.now in
    let some : 0 < length rest = grind (arith, nat_tests) in
    c.loop-rest.invariant.goes_on _ (IsWritten-last sink.held sink.took c.loop-rest.sink c.put-then-not-is_empty.new.self rest some c.loop-rest-test.false c.in_ok-put-2.ensures.whole c.in_ok-put-2.ensures.took)

pub returns-else-not-is_empty-clause-written : goal.returns-else-not-is_empty-clause-written
returns-else-not-is_empty-clause-written g c =
    let sink = g.S.Sink in
    let rest = c.loop-rest.rest.now in
    let none : length rest ≡ 0 = grind (arith, nat_tests) in
    c.loop-rest.invariant.goes_on _ (IsWritten-nothing sink.held sink.took c.loop-rest.sink rest none)

pub returns-in_err-put-clause-cut_short : goal.returns-in_err-put-clause-cut_short
returns-in_err-put-clause-cut_short g c =
    let sink = g.S.Sink in
    let rest = c.loop-rest.rest.now in
    let piece = c.split_at.result.0.now in
    let later = c.split_at.result.1.now in
    let cut : rest ≡ piece ++ later = sym (ap (λ b. b ++ later) c.split_at.ensures.front ∙ ap (λ b. take 4096 rest ++ b) c.split_at.ensures.back ∙ take-append-drop 4096 rest) in
    let parts = cut_up (length later) later (omega arith) in
    let after = cut_after piece later parts.0 c.split_at.ensures.front_len (omega (arith, c.split_at.ensures.back_len, c.loop-rest-test.true)) parts.1 in
    let short = c.loop-rest.invariant.breaks c.put.new.self (IsCutShort-now sink.held sink.took sink.failed c.loop-rest.sink c.put.new.self piece rest parts.0 (after.cut ∙ sym cut) after.sizes c.in_err-put.ensures.part c.in_err-put.ensures.failed) in
    let from = err_from_is_err_and c.from_residual.result c.from_residual.ensures.1 in
    rw from.1 short

pub returns-in_err-put-2-clause-cut_short : goal.returns-in_err-put-2-clause-cut_short
returns-in_err-put-2-clause-cut_short g c =
    let sink = g.S.Sink in
    let rest = c.loop-rest.rest.now in
    let some : 0 < length rest = grind (arith, nat_tests) in
    let short = c.loop-rest.invariant.breaks c.put-then-not-is_empty.new.self (IsCutShort-now sink.held sink.took sink.failed c.loop-rest.sink c.put-then-not-is_empty.new.self rest rest [] (append-nil rest) (some, c.loop-rest-test.false) c.in_err-put-2.ensures.part c.in_err-put-2.ensures.failed) in
    let from = err_from_is_err_and c.from_residual-in_err-put-2.result c.from_residual-in_err-put-2.ensures.1 in
    rw from.1 short
