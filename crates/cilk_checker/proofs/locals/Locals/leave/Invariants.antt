use Rattle.std.proofs.Common.{◌≡◌, ℕ, ◌≤◌, ◌-◌, length, drop}
use Rattle.cilk_tree.specs.Lawful.Flow.{with_scope}
use Rattle.cilk_checker.proofs.locals.Locals.leave.Given as goal

-- some of the latest locals are out of scope, but none of those that stay
abbrev pub invariant-loop-self : goal.invariant-loop-self
invariant-loop-self l =
    (gone : ℕ) × (gone ≤ length l.initial.self.scope - l.depth) × (l.self ≡ with_scope (drop gone l.initial.self.scope) l.initial.self)

abbrev pub decreases-loop-self : goal.decreases-loop-self
decreases-loop-self l = length l.self.scope
