use Rattle.std.proofs.Common.{◌≡◌, ◌+◌, ◌-◌, length, drop, arith, ap, ◌∙◌}
use Rattle.std.proofs.lemmas.List.{length-drop}
use Rattle.cilk_tree.specs.Lawful.Flow.{with_scope}
use Rattle.cilk_checker.proofs.Stacks.{left_more}
use Rattle.cilk_checker.proofs.locals.Locals.leave.Goals as goal

pub loop-self-smaller : goal.loop-self-smaller
loop-self-smaller c =
    let e = ap (λ point. length point.scope) c.forget_latest.ensures in
    omega (arith, e, length-drop 1 c.loop-self.self.scope)

pub loop-self-preserved : goal.loop-self-preserved
loop-self-preserved c =
    let inv = c.loop-self.invariant in
    let e = ap (λ point. length point.scope) inv.2 in
    (inv.0 + 1, omega (arith, e, inv.1, length-drop inv.0 c.args.self.now.scope), left_more c.args.self.now c.loop-self.self c.forget_latest.new.self inv.0 inv.2 c.forget_latest.ensures)

pub returns : goal.returns
returns c =
    let inv = c.loop-self.invariant in
    let e = ap (λ point. length point.scope) inv.2 in
    let gone : inv.0 ≡ length c.args.self.now.scope - c.args.depth = omega (arith, e, inv.1, length-drop inv.0 c.args.self.now.scope) in
    inv.2 ∙ ap (λ count. with_scope (drop count c.args.self.now.scope) c.args.self.now) gone
