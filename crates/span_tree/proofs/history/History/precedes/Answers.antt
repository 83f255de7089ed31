use Rattle.std.proofs.Common.{◌≡◌, true, false, sym, ◌∙◌}
use Rattle.span_tree.proofs.Parted.{precedes_then, precedes_else}
use Rattle.span_tree.proofs.history.History.precedes.Goals as goal

pub returns-then-is_before : goal.returns-then-is_before
returns-then-is_before c =
    precedes_then c.args.self.now c.parting.ensures.numbered c.args.x c.args.y c.parting.result.0 c.parting.result.1 c.parting.ensures.parted c.requires.first c.requires.second
    (c.is_before.ensures.0 c.if-is_before.true) c.runs_beside.result c.runs_beside.ensures.0 c.runs_beside.ensures.1

pub returns-else-is_before : goal.returns-else-is_before
returns-else-is_before c = (
  λ e. (let clash : false ≡ true = sym c.if-is_before.false ∙ e in absurd cc),
  λ p. absurd (precedes_else c.args.self.now c.parting.ensures.numbered c.args.x c.args.y c.parting.result.0 c.parting.result.1 c.parting.ensures.parted c.requires.first c.requires.second
      (λ first. let clash : false ≡ true = sym c.if-is_before.false ∙ c.is_before.ensures.1 first in cc) p),
)
