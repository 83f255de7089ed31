-- The program without names of a lawful source is well formed.
use Rattle.std.proofs.Common.{◌≡◌, ℕ, ◌+◌, ◌≤◌, List, [], ◌∷◌, length, map, Option, Some, None, refl, sym, ap, ◌∙◌, subst, arith, sum_by}
use Rattle.std.proofs.lemmas.Bool.{eqb-true, ltb-false}
use Rattle.std.proofs.lemmas.List.Folds.{find_at}
use Rattle.std.proofs.lemmas.List.Sums.{sum_by-cons}
use Rattle.std.proofs.lemmas.Option.{slice_get-map}
use Rattle.std.proofs.Math.Seq.{take-length}
use Rattle.std.specs.List.{fold}
use Rattle.std.specs.Option.{option_map, option_map_or}
use Rattle.std.specs.Prelude.{Bool, true, false, not, ◌==◌, codes, slice_get, take}
use Rattle.std.specs.Str.{bytes_eq}
use Rattle.cilk_tree.specs.declared.place.CheckPlace.TheVariants as place
use Rattle.cilk_tree.specs.declared.rule.Rule.TheVariants as rule
use Rattle.cilk_tree.specs.declared.tree.Function as source_function
use Rattle.cilk_tree.specs.declared.tree.Program as source_program
use Rattle.cilk_tree.specs.declared.tree.Shared.{Shared}
use Rattle.cilk_tree.specs.Lawful.Flow.{after_all, part_of}
use Rattle.cilk_tree.specs.Lawful.Lawful.{IsLawful}
use Rattle.cilk_tree.specs.Lawful.Rules.{is_function, lacks_main, kind_if, array_kinds, array_again, has_too_many_words, most_shared_words}
use Rattle.cilk_tree.specs.Lawful.Scope.{Point, Meaning, Unknown, Variable, Array, Procedure, declared, entry, meaning, local_named, is_array, function_named}
use Rattle.cilk_meaning.specs.Resolved.{Function}
use Rattle.cilk_meaning.specs.Resolving.{resolved_function, resolved, extents_from}
use Rattle.cilk_meaning.proofs.Parting.{nil_right, not_broken, procedure_is, parts_in_scope, none_clash, some_same}
use Rattle.compiled_code.specs.WellFormed.{IsInRange}
use Rattle.machine_code.specs.Valid.{AreInOrder, words_in}
use Rattle.lawful_program.specs.Laws.{LawfulIsWellFormed}
use Rattle.lawful_program.proofs.Clean.{all_clean}
use Rattle.lawful_program.proofs.Growing.{IsNumbered, after_all_grows}
use Rattle.lawful_program.proofs.Ranged.{body_in_range}
use Rattle.lawful_program.proofs.Uses.{below_more}

-- the parameters are numbered from 0 on
params_numbered : (names : List (List ℕ)) (point : Point) → IsNumbered point → IsNumbered (fold declared point names) × ((fold declared point names).local ≡ point.local + length names)
params_numbered [] point n = (n, omega arith)
params_numbered (name ∷ names) point n =
    let h = params_numbered names (declared point name) (omega arith, below_more point.local (point.local + 1) point.scope (omega arith) n) in
    let more = h.1 in
    (h.0, omega (arith, more))

in_row : (base : ℕ) (shared : List Shared) → AreInOrder base (extents_from base shared)
in_row base [] = tt
in_row base (x ∷ shared) = (refl, in_row (base + x.words) shared)

same_words : (base : ℕ) (shared : List Shared) → words_in (extents_from base shared) ≡ sum_by (λ (array : Shared). array.words) shared
same_words base [] = refl
same_words base (x ∷ shared) = ap (λ n. x.words + n) (same_words (base + x.words) shared) ∙ sym (sum_by-cons (λ (array : Shared). array.words) x shared)

-- the last of some things
last_place : {A : Type 0} (x : A) (xs : List A) → (last : A) × (slice_get (x ∷ xs) (length xs) ≡ Some last)
last_place {A} x [] = (x, refl)
last_place {A} x (y ∷ xs) = last_place y xs

module _ (source : source_program.Program) (lawful : IsLawful source) where
  few_words : (shared : List Shared) → source.shared ≡ shared → words_in (extents_from 0 shared) ≤ most_shared_words
  few_words [] e = omega arith
  few_words (x ∷ shared) e =
      let last = last_place x shared in
      let at : slice_get source.shared (length shared) ≡ Some last.0 = ap (λ l. slice_get l (length shared)) e ∙ last.1 in
      let kinds : array_kinds source (length shared) last.0 ≡ [] = ap (λ o. option_map_or (array_kinds source (length shared)) o []) (sym at) ∙ lawful.rules (place.Shared (length shared)) in
      let few = not_broken (has_too_many_words source (length shared)) rule.TooManyWords (nil_right (kind_if (array_again source (length shared) last.0) rule.DuplicateName) _ kinds) in
      let n : length shared + 1 ≡ length (x ∷ shared) = omega arith in
      let all : take (length shared + 1) source.shared ≡ x ∷ shared = ap (λ l. take (length shared + 1) l) e ∙ ap (λ k. take k (x ∷ shared)) n ∙ take-length (x ∷ shared) in
      let sum = ltb-false most_shared_words (sum_by (λ (array : Shared). array.words) (take (length shared + 1) source.shared)) few in
      let same : sum_by (λ (array : Shared). array.words) (take (length shared + 1) source.shared) ≡ words_in (extents_from 0 (x ∷ shared)) = ap (sum_by (λ (array : Shared). array.words)) all ∙ sym (same_words 0 (x ∷ shared)) in
      subst (λ k. k ≤ most_shared_words) same sum

  function_in_range : (number : ℕ) (f : source_function.Function) → slice_get source.functions number ≡ Some f → IsInRange (resolved source) (resolved_function source f)
  function_in_range number f is =
      let first = params_numbered f.params (record { statement = 0; local = 0; scope = [] }) tt in
      let grown = after_all_grows f.body (entry f) first.0 in
      let same : (resolved_function source f).locals ≡ (after_all (map part_of f.body) (entry f)).local = ap (λ ps. (after_all ps (entry f)).local) (parts_in_scope source f.body) in
      let params = first.1 in
      let more = grown.more in
      record {
        params = subst (λ n. length f.params ≤ n) (sym same) (omega (arith, params, more));
        body = body_in_range source f (resolved_function source f).locals first.0 (all_clean source lawful number f is) (subst (λ n. n ≤ (resolved_function source f).locals) same (omega arith));
      }

  main_is : (m : Meaning) → meaning source [] (codes "main") ≡ m → not (is_function (λ function. length function.params == 0) m) ≡ false →
      (f : source_function.Function) × (function_named source (codes "main") ≡ Some f) × (length f.params ≡ 0)
  main_is Unknown e h = absurd cc
  main_is (Variable number) e h = absurd cc
  main_is Array e h = absurd cc
  main_is (Procedure f) e h = (f, procedure_is (local_named [] (codes "main")) (is_array source (codes "main")) (function_named source (codes "main")) f e, eqb-true (length f.params) 0 (sure (length f.params == 0) h))
    where
      sure : (b : Bool) → not b ≡ false → b ≡ true
      sure true h = refl
      sure false h = absurd cc

  pub resolved_at : (number : ℕ) (f : source_function.Function) → slice_get source.functions number ≡ Some f → slice_get (resolved source).functions number ≡ Some (resolved_function source f)
  resolved_at number f is = slice_get-map (resolved_function source) source.functions number ∙ ap (λ o. option_map (resolved_function source) o) is

  pub source_of : (number : ℕ) (function : Function) → slice_get (resolved source).functions number ≡ Some function →
      (f : source_function.Function) × (slice_get source.functions number ≡ Some f) × (resolved_function source f ≡ function)
  source_of number function is = by (slice_get source.functions number) refl
    where
      by : (o : Option source_function.Function) → slice_get source.functions number ≡ o → (f : source_function.Function) × (slice_get source.functions number ≡ Some f) × (resolved_function source f ≡ function)
      by None none = absurd (none_clash (sym (slice_get-map (resolved_function source) source.functions number ∙ ap (λ o. option_map (resolved_function source) o) none) ∙ is))
      by (Some f) found = (f, found, some_same (sym (resolved_at number f found) ∙ is))

pub lawful_is_well_formed : LawfulIsWellFormed
lawful_is_well_formed source lawful =
    let main = main_is source lawful (meaning source [] (codes "main")) refl (not_broken (lacks_main source) rule.NoMain (lawful.rules place.Whole)) in
    let at = sym (find_at (λ function. bytes_eq function.name (codes "main")) source.functions) ∙ main.1 in (
      record {
        functions = λ number function is. let f = source_of source lawful number function is in subst (λ g. IsInRange (resolved source) g) f.2 (function_in_range source lawful number f.0 f.1);
        main = (resolved_function source main.0, resolved_at source lawful (resolved source).main main.0 at, main.2);
        arrays = in_row 0 source.shared;
      },
      few_words source lawful source.shared refl,
    )
