use Rattle.std.proofs.Common.{◌≡◌, ◌++◌, map, drop}
use Rattle.cilk_tree.specs.Canonical.{lines_at, statement_lines}
use Rattle.cilk_tree.proofs.printing.statements.+statement.Given as goal

-- the text so far, and the statements that are left
abbrev pub invariant-push_body-loop-statement : goal.invariant-push_body-loop-statement
invariant-push_body-loop-statement l =
    l.text.items ++ lines_at l.inside (map statement_lines (drop l.statement-index l.body))
    ≡ l.initial.text.items ++ lines_at l.inside (map statement_lines l.body)
