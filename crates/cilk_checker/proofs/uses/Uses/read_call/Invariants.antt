use Rattle.std.proofs.Common.{◌≡◌, drop}
use Rattle.std.specs.List.{flat_map}
use Rattle.cilk_tree.specs.Lawful.Rules.{uses}
use Rattle.cilk_checker.specs.Seeing.{meaning_in, with_uses}
use Rattle.cilk_checker.proofs.uses.Uses.read_call.Given as goal

-- what the arguments that are left add to the uses so far
abbrev pub invariant-loop-argument : goal.invariant-loop-argument
invariant-loop-argument l =
    with_uses (meaning_in l.names) l.self (flat_map uses (drop l.argument-index l.arguments)) ≡ with_uses (meaning_in l.names) l.initial.self (flat_map uses l.arguments)
