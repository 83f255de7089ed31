use Rattle.std.proofs.lemmas.Result.{err_from_is_err_and}
use Rattle.cilk_parser.proofs.Bricks.Calls.{spawn_lacks, spawns, spawns_nothing}
use Rattle.cilk_parser.proofs.Bricks.Rights.{call_lacks, calls, calls_nothing}
use Rattle.cilk_parser.proofs.parser.Parser.call.Goals as goal

pub returns-in_err-name-clause-spawned : goal.returns-in_err-name-clause-spawned
returns-in_err-name-clause-spawned c =
    let e = err_from_is_err_and c.from_residual.result c.from_residual.ensures.1 in
    rw (e.1, e.2) (spawns_nothing _ _ _ c.in_err-name.ensures)

pub returns-in_err-name-clause-called : goal.returns-in_err-name-clause-called
returns-in_err-name-clause-called c there =
    let e = err_from_is_err_and c.from_residual.result c.from_residual.ensures.1 in
    rw (e.1, e.2) (calls_nothing _ _ _ there c.in_err-name.ensures)

pub returns-in_err-arguments-clause-spawned : goal.returns-in_err-arguments-clause-spawned
returns-in_err-arguments-clause-spawned c =
    let e = err_from_is_err_and c.from_residual-in_err-arguments.result c.from_residual-in_err-arguments.ensures.1 in
    rw (e.1, e.2) (spawn_lacks _ _ _ _ c.in_ok-name.ensures c.in_err-arguments.field-0.0 c.in_err-arguments.ensures)

pub returns-in_err-arguments-clause-called : goal.returns-in_err-arguments-clause-called
returns-in_err-arguments-clause-called c there =
    let e = err_from_is_err_and c.from_residual-in_err-arguments.result c.from_residual-in_err-arguments.ensures.1 in
    rw (e.1, e.2) (call_lacks _ _ _ _ there c.in_ok-name.ensures c.in_err-arguments.field-0.0 c.in_err-arguments.ensures)

pub returns-clause-spawned : goal.returns-clause-spawned
returns-clause-spawned c = spawns _ _ _ _ c.in_ok-name.ensures _ _ c.in_ok-arguments.ensures

pub returns-clause-called : goal.returns-clause-called
returns-clause-called c there = calls _ _ _ _ there c.in_ok-name.ensures _ _ c.in_ok-arguments.ensures
