use Rattle.std.proofs.Common.{inl}
use Rattle.span_tree.proofs.Parted.{beside_of, parallel_else}
use Rattle.span_tree.proofs.history.History.parallel.Goals as goal

pub returns-then-runs_beside : goal.returns-then-runs_beside
returns-then-runs_beside c = (
  λ e. inl (beside_of c.args.self.now c.parting.ensures.numbered c.args.x c.args.y c.parting.result.0 c.parting.result.1 c.parting.ensures.parted (c.runs_beside.ensures.0 e)),
  λ p. c.if-runs_beside.true,
)

pub returns-else-runs_beside : goal.returns-else-runs_beside
returns-else-runs_beside c =
    parallel_else c.args.self.now c.parting.ensures.numbered c.args.x c.args.y c.parting.result.0 c.parting.result.1 c.parting.ensures.parted c.runs_beside.result c.runs_beside-else-runs_beside.result
    c.if-runs_beside.false c.runs_beside.ensures.1 c.runs_beside-else-runs_beside.ensures.0 c.runs_beside-else-runs_beside.ensures.1
