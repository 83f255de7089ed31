use Rattle.std.proofs.Common.{◌≡◌, ℕ, List, drop, is_some, map, take}
use Rattle.std.specs.Option.{option_or}
use Rattle.cilk_tree.specs.Lawful.Rules.{is_among}
use Rattle.cilk_checker.specs.Judged.{first_refusal, first_use, judged_functions}
use Rattle.cilk_checker.specs.Names.{value_at}
use Rattle.cilk_checker.proofs.functions.check_functions.Given as goal

-- the answers so far, before those for the functions that are left, are the answers for all
abbrev pub invariant-loop-index : goal.invariant-loop-index
invariant-loop-index l = record {
  names : (name : List ℕ) → is_some (value_at l.earlier.values name) ≡ is_among (map (λ other. other.name) (take l.index l.globals.program.now.functions)) name;
  judged : first_refusal (judged_functions l.globals.program.now 0 l.globals.program.now.functions) ≡ first_refusal (judged_functions l.globals.program.now l.index (drop l.index l.globals.program.now.functions));
  used : option_or l.first (first_use l.index (drop l.index l.globals.program.now.functions)) ≡ first_use 0 l.globals.program.now.functions;
}
