use Rattle.std.proofs.Common.{◌++◌, take}
use Rattle.std.proofs.KnownBytes.{Appends-trans, Appends-kept}
use Rattle.std.proofs.lemmas.Result.{err_from_is_err_and}
use Rattle.outside.proofs.Putting.{split-further, part-put, on_err}
use Rattle.outside.proofs.real_sink.write_whole.Goals as goal

pub returns-in_err-count-clause-part : goal.returns-in_err-count-clause-part
returns-in_err-count-clause-part g c =
    let (done, split, put) = c.loop-rest.invariant in
    let p = err_from_is_err_and c.from_residual.result c.from_residual.ensures.1 in
    rw p.1 (part-put _ _ _ done _ split (Appends-kept _ _ _ done put c.in_err-count.ensures.none))

pub returns-then-count-eq0-clause-part : goal.returns-then-count-eq0-clause-part
returns-then-count-eq0-clause-part g c =
    let (done, split, put) = c.loop-rest.invariant in
    part-put _ _ _ (done ++ take c.in_ok-count.count c.loop-rest.rest.now) _ (split-further _ done c.loop-rest.rest.now c.in_ok-count.count split) (Appends-trans _ _ _ done _ put c.in_ok-count.ensures.front)

pub loop-rest-preserved : goal.loop-rest-preserved
loop-rest-preserved g c =
    let (done, split, put) = c.loop-rest.invariant in
    let rest = c.loop-rest.rest.now in
    let count = c.in_ok-count.count in
    (done ++ take count rest, split-further _ done rest count split, Appends-trans _ _ _ done _ put c.in_ok-count.ensures.front)

pub returns-clause-part : goal.returns-clause-part
returns-clause-part g c =
    let (done, split, put) = c.loop-rest.invariant in
    on_err c.flush.result (part-put _ _ _ done _ split (Appends-kept _ _ _ done put c.flush.ensures.bytes))
