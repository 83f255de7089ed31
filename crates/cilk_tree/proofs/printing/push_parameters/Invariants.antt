use Rattle.std.proofs.Common.{◌≡◌, ◌++◌, codes, flat_map, drop}
use Rattle.cilk_tree.specs.Canonical.{parameter_text}
use Rattle.cilk_tree.proofs.printing.push_parameters.Given as goal

-- the text so far, and the parameters that are left
abbrev pub invariant-loop-parameter : goal.invariant-loop-parameter
invariant-loop-parameter l =
    l.text.items ++ flat_map (λ name. codes ", " ++ parameter_text name) (drop l.parameter-index l.others)
    ≡ l.initial.text.items ++ flat_map (λ name. codes ", " ++ parameter_text name) l.others
