use Rattle.std.proofs.Common.{sym, subst}
use Rattle.span_tree.specs.Recording.{IsOpen}
use Rattle.span_tree.proofs.Keeping.{pushed}
use Rattle.span_tree.proofs.history.History.push.Goals as goal

pub invariant_of-self : goal.invariant_of-self
invariant_of-self c =
    pushed c.self.inside.rows.items c.self.inside.order.items c.self.invariant c.args.row
    (subst (λ h. IsOpen h c.args.row) (sym c.self.view_is) c.requires.runs) c.append.new.rows.items c.append.new.order.items c.args.act c.requires.spawns_none c.append.result c.append.ensures.rows c.append.ensures.within c.append.ensures.order
    c.append.ensures.err_rows c.append.ensures.err_order
