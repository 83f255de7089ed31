use Rattle.std.proofs.Common.{◌≡◌, ◌++◌, codes, flat_map, drop}
use Rattle.cilk_tree.specs.Canonical.{expr_text}
use Rattle.cilk_tree.proofs.printing.statements.push_arguments.Given as goal

-- the text so far, and the arguments that are left
abbrev pub invariant-loop-argument : goal.invariant-loop-argument
invariant-loop-argument l =
    l.text.items ++ flat_map (λ value. codes ", " ++ expr_text value) (drop l.argument-index l.others)
    ≡ l.initial.text.items ++ flat_map (λ value. codes ", " ++ expr_text value) l.others
