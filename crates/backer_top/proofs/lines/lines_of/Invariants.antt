use Rattle.std.proofs.Common.{◌≡◌, ◌++◌, drop}
use Rattle.backer_top.specs.Output.{lines}
use Rattle.backer_top.proofs.lines.lines_of.Given as goal

-- the lines so far, and those that are left
abbrev pub invariant-loop-value : goal.invariant-loop-value
invariant-loop-value l = l.text.items ++ lines (drop l.value-index l.values) ≡ lines l.values
