use Rattle.std.proofs.Common.{◌≡◌, ◌*◌, ◌++◌, replicate}
use Rattle.cilk_tree.proofs.printing.statements.push_indent.Given as goal

-- two blanks for each level so far
abbrev pub invariant-loop : goal.invariant-loop
invariant-loop l = l.text.items ≡ l.initial.text.items ++ replicate (2 * l.counter) 32
