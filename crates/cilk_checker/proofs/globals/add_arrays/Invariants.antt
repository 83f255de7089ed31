use Rattle.std.proofs.Common.{◌≡◌, ℕ, ◌≤◌, ◌^◌, List, [], take, drop, sum_by}
use Rattle.cilk_tree.specs.Lawful.Rules.{most_shared_words}
use Rattle.cilk_checker.specs.Judged.{first_refusal, judged_arrays}
use Rattle.cilk_checker.specs.Meanings.{entry_meaning, global_meaning}
use Rattle.cilk_checker.specs.Names.{value_at}
use Rattle.cilk_checker.proofs.globals.add_arrays.Given as goal

-- the arrays so far are in the table and counted, and the answer is that for those that are left
abbrev pub invariant-loop-number : goal.invariant-loop-number
invariant-loop-number l = record {
  names : (name : List ℕ) → entry_meaning (value_at l.names.values name) ≡ global_meaning (take l.number l.program.shared) [] name;
  words : l.words ≡ sum_by (λ array. array.words) (take l.number l.program.shared);
  few : l.words ≤ most_shared_words;
  left : first_refusal (judged_arrays l.program 0 l.program.shared) ≡ first_refusal (judged_arrays l.program l.number (drop l.number l.program.shared));
}
