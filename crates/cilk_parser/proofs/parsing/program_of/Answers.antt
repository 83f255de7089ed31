use Rattle.std.proofs.lemmas.Result.{err_from_is_err_and}
use Rattle.cilk_parser.proofs.Bricks.Programs.{item_lacks, more_items, no_items, text_stopped, whole_program}
use Rattle.cilk_parser.proofs.parsing.program_of.Goals as goal

pub loop-parser-init : goal.loop-parser-init
loop-parser-init c = rw c.new-parser.ensures (no_items c.args.end c.args.places.now _ c.new.ensures c.new-2.ensures)

pub loop-parser-smaller : goal.loop-parser-smaller
loop-parser-smaller c = (c.in_ok-item.ensures {u = tt}).shorter

pub loop-parser-preserved : goal.loop-parser-preserved
loop-parser-preserved c = more_items _ _ _ _ c.loop-parser.invariant _ _ (c.in_ok-item.ensures {u = tt})

pub returns-in_err-item : goal.returns-in_err-item
returns-in_err-item c =
    let p = err_from_is_err_and c.from_residual.result c.from_residual.ensures.1 in
    rw (p.1, p.2) (item_lacks _ _ _ _ c.loop-parser.invariant _ (c.in_err-item.ensures {u = tt}))

pub returns-in_err-finish : goal.returns-in_err-finish
returns-in_err-finish c =
    let p = err_from_is_err_and c.from_residual-in_err-finish.result c.from_residual-in_err-finish.ensures.1 in
    let stopped = c.in_err-finish.ensures {u = tt} in
    rw (p.1, p.2, stopped.1) (text_stopped _ _ _ _ c.loop-parser.invariant (c.is_done.ensures.0 c.loop-parser-test.false) stopped.0)

pub returns : goal.returns
returns c = whole_program _ _ _ _ c.loop-parser.invariant (c.is_done.ensures.0 c.loop-parser-test.false) (c.in_ok-finish.ensures {u = tt})
