-- Names of functions and parameters that are taken.
use Rattle.std.specs.Prelude.{◌≡◌, ℕ, ◌+◌, ◌<◌, Bool, true, false, ◌||◌, cond, List, [], ◌∷◌, ◌++◌, map, length, take, drop, Option, Some, None, is_some}
use Rattle.std.proofs.Common.{get_or, refl, sym, ap, ◌∙◌}
use Rattle.std.specs.List.{find, fold, list_any}
use Rattle.std.specs.Option.{option_map}
use Rattle.std.specs.Map.{update}
use Rattle.std.specs.Str.{bytes_eq}
use Rattle.std.proofs.lemmas.Bool.{false≢true}
use Rattle.std.proofs.lemmas.Bool.Decides.{same_from_decides}
use Rattle.std.proofs.lemmas.List.{take-append-drop}
use Rattle.std.proofs.lemmas.List.Folds.{list_any-append}
use Rattle.std.proofs.lemmas.Slice.Eq.{bytes_eq-Decides}
use Rattle.cilk_tree.specs.declared.tree.Function.{Function}
use Rattle.cilk_tree.specs.declared.tree.Program.{Program}
use Rattle.cilk_tree.specs.Lawful.Rules.{is_among, repeats}
use Rattle.cilk_tree.specs.Lawful.Scope.{Local, Point, declared, first_meaning, function_named, is_array, is_global, local_named, meaning}
use Rattle.cilk_checker.specs.Meanings.{means_array}
use Rattle.cilk_checker.proofs.Arrays.{any_of_names}
use Rattle.cilk_checker.proofs.Flags.{or_false}
use Rattle.cilk_checker.proofs.Turns.{next_taken}

-- ---- names of functions

array_means : (array : Bool) (function : Option Function) → means_array (first_meaning None array function) ≡ array
array_means true function = refl
array_means false (Some function) = refl
array_means false None = refl

-- an array has the name where the name stands for an array
pub array_has : (program : Program) (name : List ℕ) → means_array (meaning program [] name) ≡ is_among (map (λ array. array.name) program.shared) name
array_has program name = array_means (is_array program name) (function_named program name) ∙ sym (any_of_names name program.shared)

among_more : (names : List (List ℕ)) (next name : List ℕ) → is_among (names ++ next ∷ []) name ≡ (is_among names name || bytes_eq next name)
among_more names next name = list_any-append (λ other. bytes_eq other name) names (next ∷ []) ∙ ap (λ b. is_among names name || b) (or_false (bytes_eq next name))

-- one name more in a table of names
pub name_added : (before after : List ℕ → Option (Unit {0})) (names : List (List ℕ)) (next : List ℕ)
    → ((name : List ℕ) → is_some (before name) ≡ is_among names name)
    → ((name : List ℕ) → after name ≡ update bytes_eq before next (Some tt) name)
    → (name : List ℕ) → is_some (after name) ≡ is_among (names ++ next ∷ []) name
name_added before after names next is made name =
    ap is_some (made name) ∙ by_test (bytes_eq next name) (before name) (is_among names name) (is name) ∙ sym (among_more names next name)
  where
    by_test : (b : Bool) (found : Option (Unit {0})) (among : Bool) → is_some found ≡ among → is_some (cond b (Some tt) found) ≡ (among || b)
    by_test true found true e = refl
    by_test true found false e = refl
    by_test false found among e = e ∙ sym (or_false among)

-- ---- parameters

same_bytes : (xs ys : List ℕ) → bytes_eq xs ys ≡ bytes_eq ys xs
same_bytes xs ys = same_from_decides (bytes_eq xs ys) (bytes_eq ys xs) (bytes_eq-Decides xs ys) ((λ e. sym ((bytes_eq-Decides ys xs).0 e)), (λ e. (bytes_eq-Decides ys xs).1 (sym e)))

or_moved : (a b c d : Bool) → ((a || b) || (c || d)) ≡ ((a || c) || (b || d))
or_moved true b c d = refl
or_moved false true true d = refl
or_moved false true false d = refl
or_moved false false c d = refl

-- one name more
repeats_more : (names : List (List ℕ)) (next : List ℕ) → repeats (names ++ next ∷ []) ≡ (repeats names || is_among names next)
repeats_more [] next = refl
repeats_more (name ∷ names) next =
    (λ i. among_more names next name i || repeats_more names next i)
    ∙ or_moved (is_among names name) (bytes_eq next name) (repeats names) (is_among names next)
    ∙ ap (λ b. (is_among names name || repeats names) || (b || is_among names next)) (same_bytes next name)

pub true_or : (a b : Bool) → a ≡ true → (a || b) ≡ true
true_or a b e = ap (λ c. c || b) e

pub or_holds : (a b : Bool) → b ≡ true → (a || b) ≡ true
or_holds true b e = refl
or_holds false b e = e

among_kept : (names others : List (List ℕ)) (name : List ℕ) → is_among names name ≡ true → is_among (names ++ others) name ≡ true
among_kept names others name e = list_any-append (λ other. bytes_eq other name) names others ∙ true_or _ _ e

-- what repeats stays so
repeats_kept : (names others : List (List ℕ)) → repeats names ≡ true → repeats (names ++ others) ≡ true
repeats_kept [] others e = absurd (false≢true e)
repeats_kept (name ∷ names) others e = by_test (is_among names name) (repeats names) (is_among (names ++ others) name) (repeats (names ++ others)) e (among_kept names others name) (repeats_kept names others)
  where
    by_test : (a b c d : Bool) → (a || b) ≡ true → (a ≡ true → c ≡ true) → (b ≡ true → d ≡ true) → (c || d) ≡ true
    by_test true b c d e f g = true_or c d (f refl)
    by_test false b c d e f g = or_holds c d (g e)

-- the name of a parameter in scope
named_among : (names : List (List ℕ)) (point : Point) (name : List ℕ) → is_some (local_named (fold declared point names).scope name) ≡ (is_among names name || is_some (local_named point.scope name))
named_among [] point name = refl
named_among (next ∷ names) point name = named_among names (declared point next) name ∙ by_test (bytes_eq next name) (is_among names name) (find (λ local. bytes_eq local.name name) point.scope)
  where
    by_test : (b among : Bool) (found : Option Local)
        → (among || is_some (option_map (λ local. local.number) (cond b (Some (record { name = next; number = point.local })) found))) ≡ ((b || among) || is_some (option_map (λ local. local.number) found))
    by_test b true found = sym (ap (λ c. c || is_some (option_map (λ local. local.number) found)) (or_holds b true refl))
    by_test true false found = refl
    by_test false false found = refl

module _ (program : Program) (names : List (List ℕ)) (i : ℕ) (next : List ℕ) (start : Point) (within : i < length names) (item : next ≡ get_or names i next) (empty : start.scope ≡ []) where
  abbrev pub again : List (List ℕ) → Bool
  again some = list_any (is_global program) some || repeats some

  named : is_some (local_named (fold declared start (take i names)).scope next) ≡ is_among (take i names) next
  named = named_among (take i names) start next ∙ ap (λ scope. is_among (take i names) next || is_some (local_named scope next)) empty ∙ or_false (is_among (take i names) next)

  again_more : again (take i names ++ next ∷ []) ≡ (again (take i names) || (is_global program next || is_some (local_named (fold declared start (take i names)).scope next)))
  again_more =
      (λ j. list_any-append (is_global program) (take i names) (next ∷ []) j || repeats_more (take i names) next j)
      ∙ ap (λ b. (list_any (is_global program) (take i names) || b) || (repeats (take i names) || is_among (take i names) next)) (or_false (is_global program next))
      ∙ or_moved (list_any (is_global program) (take i names)) (is_global program next) (repeats (take i names)) (is_among (take i names) next)
      ∙ ap (λ b. again (take i names) || (is_global program next || b)) (sym named)

  -- the names up to this one are new
  pub names_new : again (take i names) ≡ false → is_global program next ≡ false → is_some (local_named (fold declared start (take i names)).scope next) ≡ false → again (take (i + 1) names) ≡ false
  names_new e f g = ap again (next_taken names i next within item) ∙ again_more ∙ (λ j. e j || (f j || g j))

  again_kept : (some others : List (List ℕ)) → again some ≡ true → again (some ++ others) ≡ true
  again_kept some others e = by_test (list_any (is_global program) some) refl
    where
      by_test : (b : Bool) → list_any (is_global program) some ≡ b → again (some ++ others) ≡ true
      by_test true global = true_or _ _ (list_any-append (is_global program) some others ∙ true_or _ _ global)
      by_test false local = or_holds (list_any (is_global program) (some ++ others)) _ (repeats_kept some others (sym (ap (λ b. b || repeats some) local) ∙ e))

  -- the name of this one is taken
  pub name_again : (is_global program next || is_some (local_named (fold declared start (take i names)).scope next)) ≡ true → again names ≡ true
  name_again e =
      sym (ap again (take-append-drop (i + 1) names))
      ∙ again_kept (take (i + 1) names) (drop (i + 1) names) (ap again (next_taken names i next within item) ∙ again_more ∙ or_holds (again (take i names)) _ e)

pub names_more : (functions : List Function) (next : Function) → map (λ other. other.name) (functions ++ next ∷ []) ≡ map (λ other. other.name) functions ++ next.name ∷ []
names_more [] next = refl
names_more (function ∷ functions) next = ap (λ names. function.name ∷ names) (names_more functions next)
