-- What is judged of arrays.
use Rattle.std.specs.Prelude.{◌≡◌, ℕ, ◌+◌, ◌^◌, Bool, true, false, ◌<◌, ◌≤◌, nat_lt, ◌||◌, List, [], ◌∷◌, ◌++◌, Some, None, length, map, take, drop, sum_by}
use Rattle.std.proofs.Common.{refl, sym, ap, ◌∙◌, get_or, arith, rules, tests}
use Rattle.std.proofs.lemmas.Grind.{common_steps}
use Rattle.std.specs.List.{list_any}
use Rattle.std.specs.Option.{option_or}
use Rattle.std.specs.Str.{bytes_eq}
use Rattle.std.proofs.lemmas.List.Sums.{sum_by-append}
use Rattle.cilk_tree.specs.declared.place.CheckPlace.TheVariants as place
use Rattle.cilk_tree.specs.declared.rule.Rule.TheVariants.{DuplicateName, TooManyWords}
use Rattle.cilk_tree.specs.declared.tree.Program.{Program}
use Rattle.cilk_tree.specs.declared.tree.Shared.{Shared}
use Rattle.cilk_tree.specs.Lawful.Rules.{most_shared_words, is_among, has_too_many_words, kind_if, array_kinds}
use Rattle.cilk_tree.specs.Lawful.Scope.{first_meaning, is_known}
use Rattle.cilk_checker.specs.declared.refusal.CheckRefusal.TheVariants.{At}
use Rattle.cilk_checker.specs.Judged.{refusal_at, first_refusal, judged_arrays}
use Rattle.cilk_checker.specs.Meanings.{global_meaning}
use Rattle.cilk_checker.proofs.Turns.{next_dropped, next_taken}

known_array : (b : Bool) → is_known (first_meaning None b None) ≡ b
known_array true = refl
known_array false = refl

pub any_of_names : (name : List ℕ) (arrays : List Shared) → is_among (map (λ other. other.name) arrays) name ≡ list_any (λ other. bytes_eq other.name name) arrays
any_of_names name [] = refl
any_of_names name (array ∷ arrays) = ap (λ b. bytes_eq array.name name || b) (any_of_names name arrays)

pub words_more : {A : Type 0} (size : A → ℕ) (xs : List A) (x : A) → sum_by size (xs ++ x ∷ []) ≡ sum_by size xs + size x
words_more size xs x = grind (arith, common_steps, sum_by-append size xs (x ∷ []))

-- the kinds at an array, from what the checker knows there
pub array_kinds_here : (program : Program) (number words : ℕ) (array : Shared)
    → words ≡ sum_by (λ other. other.words) (take number program.shared)
    → take (number + 1) program.shared ≡ take number program.shared ++ array ∷ []
    → array_kinds program number array ≡ kind_if (is_known (global_meaning (take number program.shared) [] array.name)) DuplicateName ++ kind_if (nat_lt (most_shared_words) (words + array.words)) TooManyWords
array_kinds_here program number words array so_far next =
    ap (λ again. kind_if again DuplicateName ++ kind_if (has_too_many_words program number) TooManyWords) (any_of_names array.name (take number program.shared) ∙ sym (known_array _))
    ∙ ap (λ many. kind_if (is_known (global_meaning (take number program.shared) [] array.name)) DuplicateName ++ kind_if (nat_lt (most_shared_words) many) TooManyWords) (ap (sum_by (λ other. other.words)) next ∙ words_more (λ other. other.words) (take number program.shared) array ∙ ap (λ sum. sum + array.words) (sym so_far))

module _ (program : Program) (number words : ℕ) (array : Shared) (known : Bool)
    (within : number < length program.shared) (item : array ≡ get_or program.shared number array)
    (so_far : words ≡ sum_by (λ other. other.words) (take number program.shared))
    (taken : known ≡ is_known (global_meaning (take number program.shared) [] array.name)) where
  kinds : array_kinds program number array ≡ kind_if known DuplicateName ++ kind_if (nat_lt (most_shared_words) (words + array.words)) TooManyWords
  kinds = array_kinds_here program number words array so_far (next_taken program.shared number array within item)
      ∙ ap (λ again. kind_if again DuplicateName ++ kind_if (nat_lt (most_shared_words) (words + array.words)) TooManyWords) (sym taken)

  judged : (found : List ℕ) → array_kinds program number array ≡ found → first_refusal (judged_arrays program number (drop number program.shared)) ≡ option_or (refusal_at (place.Shared number) found) (first_refusal (judged_arrays program (number + 1) (drop (number + 1) program.shared)))
  judged found e = ap (λ arrays. first_refusal (judged_arrays program number arrays)) (next_dropped program.shared number array within item)
      ∙ ap (λ broken. option_or (refusal_at (place.Shared number) broken) (first_refusal (judged_arrays program (number + 1) (drop (number + 1) program.shared)))) e

  -- an earlier array has its name
  pub array_again_stops : known ≡ true → first_refusal (judged_arrays program number (drop number program.shared)) ≡ Some (At 201 (place.Shared number))
  array_again_stops again = judged (201 ∷ kind_if (nat_lt (most_shared_words) (words + array.words)) TooManyWords) (kinds ∙ ap (λ b. kind_if b DuplicateName ++ kind_if (nat_lt (most_shared_words) (words + array.words)) TooManyWords) again)

  -- there are too many words
  pub too_many_stops : known ≡ false → most_shared_words < words + array.words → first_refusal (judged_arrays program number (drop number program.shared)) ≡ Some (At 211 (place.Shared number))
  too_many_stops new many = judged (211 ∷ []) (kinds ∙ ap (λ b. kind_if b DuplicateName ++ kind_if (nat_lt (most_shared_words) (words + array.words)) TooManyWords) new ∙ ap (λ b. kind_if b TooManyWords) above)
    where
      above : nat_lt (most_shared_words) (words + array.words) ≡ true
      above = search (rules, tests)

  -- no rule is broken
  pub array_passes : known ≡ false → words + array.words ≤ most_shared_words → first_refusal (judged_arrays program number (drop number program.shared)) ≡ first_refusal (judged_arrays program (number + 1) (drop (number + 1) program.shared))
  array_passes new few = judged [] (kinds ∙ ap (λ b. kind_if b DuplicateName ++ kind_if (nat_lt (most_shared_words) (words + array.words)) TooManyWords) new ∙ ap (λ b. kind_if b TooManyWords) within_limit)
    where
      within_limit : nat_lt (most_shared_words) (words + array.words) ≡ false
      within_limit = search (rules, tests)
