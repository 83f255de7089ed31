use Rattle.std.proofs.Common.{◌+◌, ◌<◌, ◌≤◌, ◌^◌, length, get_or, [], take, sum_by, sym, ap, ◌∙◌, inr, subst, arith}
use Rattle.cilk_tree.specs.Lawful.Rules.{most_shared_words}
use Rattle.cilk_tree.specs.Lawful.Scope.{is_known}
use Rattle.cilk_checker.specs.Meanings.{global_meaning}
use Rattle.cilk_checker.specs.Names.{value_at}
use Rattle.cilk_checker.proofs.Arrays.{array_again_stops, too_many_stops, array_passes, words_more}
use Rattle.cilk_checker.proofs.Growing.{array_added}
use Rattle.cilk_checker.proofs.Turns.{next_taken}
use Rattle.cilk_checker.proofs.globals.add_arrays.Goals as goal

pub returns-then-is_known-clause-answer : goal.returns-then-is_known-clause-answer
returns-then-is_known-clause-answer c =
    let loop = c.loop-number in
    let array = c.array-item.result in
    let shared = c.args.program.now.shared in
    let within : loop.number < length shared = subst (λ xs. loop.number < length xs) c.as_slice-array-items.ensures c.loop-number-test.true in
    let item = c.array-item.is ∙ ap (λ xs. get_or xs loop.number array) c.as_slice-array-items.ensures in
    let taken = c.is_known.ensures ∙ ap is_known (c.global_named.ensures ∙ loop.invariant.names array.name) in
    rw c.number.ensures (inr (loop.invariant.left ∙ array_again_stops c.args.program.now loop.number loop.words array c.is_known.result within item loop.invariant.words taken c.if-is_known.true))

pub returns-then-array-words-clause-answer : goal.returns-then-array-words-clause-answer
returns-then-array-words-clause-answer c =
    let loop = c.loop-number in
    let array = c.array-item.result in
    let shared = c.args.program.now.shared in
    let within : loop.number < length shared = subst (λ xs. loop.number < length xs) c.as_slice-array-items.ensures c.loop-number-test.true in
    let item = c.array-item.is ∙ ap (λ xs. get_or xs loop.number array) c.as_slice-array-items.ensures in
    let taken = c.is_known.ensures ∙ ap is_known (c.global_named.ensures ∙ loop.invariant.names array.name) in
    let many : most_shared_words < loop.words + array.words = omega arith in
    rw c.number-then-array-words.ensures (inr (loop.invariant.left ∙ too_many_stops c.args.program.now loop.number loop.words array c.is_known.result within item loop.invariant.words taken c.if-is_known.false many))

pub loop-number-preserved : goal.loop-number-preserved
loop-number-preserved c =
    let loop = c.loop-number in
    let array = c.array-item.result in
    let shared = c.args.program.now.shared in
    let within : loop.number < length shared = subst (λ xs. loop.number < length xs) c.as_slice-array-items.ensures c.loop-number-test.true in
    let item = c.array-item.is ∙ ap (λ xs. get_or xs loop.number array) c.as_slice-array-items.ensures in
    let taken = c.is_known.ensures ∙ ap is_known (c.global_named.ensures ∙ loop.invariant.names array.name) in
    let few : loop.words + array.words ≤ most_shared_words = omega arith in
    let next = next_taken shared loop.number array within item in
    record {
      names = λ name.
          array_added (value_at loop.names.values) (value_at c.insert.new.self.values) c.items.result.now (take loop.number shared) array c.items.ensures loop.invariant.names c.in_ok-insert.ensures.ok name
          ∙ sym (ap (λ arrays. global_meaning arrays [] name) next);
      words = ap (λ sum. sum + array.words) loop.invariant.words ∙ sym (ap (sum_by (λ other. other.words)) next ∙ words_more (λ other. other.words) (take loop.number shared) array);
      few = few;
      left = loop.invariant.left ∙ array_passes c.args.program.now loop.number loop.words array c.is_known.result within item loop.invariant.words taken c.if-is_known.false few;
    }
