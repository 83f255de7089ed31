use Rattle.std.proofs.lemmas.Result.{err_from_is_err_and}
use Rattle.cilk_parser.proofs.Bricks.Simples.{change_over, change_lacks, change_read}
use Rattle.cilk_parser.proofs.parser.Parser.change.Goals as goal

pub returns-in_err-pass : goal.returns-in_err-pass
returns-in_err-pass c =
    let e = err_from_is_err_and c.from_residual.result c.from_residual.ensures.1 in
    rw (e.1, e.2) (change_over _ _ _ _ c.in_err-pass.field-0.0 c.requires c.in_err-pass.ensures)

pub returns-in_err-value : goal.returns-in_err-value
returns-in_err-value c =
    let e = err_from_is_err_and c.from_residual-in_err-value.result c.from_residual-in_err-value.ensures.1 in
    rw (e.1, e.2) (change_lacks c.args.level c.args.name _ c.args.self.now c.pass.new.self c.requires (c.in_ok-pass.ensures {u = tt}) c.in_err-value.field-0.0 c.in_err-value.ensures.reads)

pub returns : goal.returns
returns c = rw c.in_ok-changed.ensures (change_read _ _ _ _ _ c.requires (c.in_ok-pass.ensures {u = tt}) _ _ c.in_ok-value.ensures.reads c.in_ok-value.ensures.stops)
