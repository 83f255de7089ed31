-- Names and their numbers.
use Rattle.std.proofs.Common.{◌≡◌, ℕ, ◌+◌, Bool, true, false, not, cond, List, [], ◌∷◌, ◌++◌, length, map, Option, Some, None, refl, sym, ap, ◌∙◌, arith}
use Rattle.std.proofs.Common.{◌<◌, ◌≤◌, get_or}
use Rattle.std.proofs.lemmas.List.{map-append, take_all}
use denote.Ref.{Bor}
use Rattle.cilk_checker.proofs.Turns.{next_taken}
use Rattle.cilk_meaning.specs.Resolving.{array_number, function_number}
use Rattle.cilk_tree.specs.declared.tree.Function.{Function}
use Rattle.cilk_tree.specs.declared.tree.Program.{Program}
use Rattle.cilk_tree.specs.declared.tree.Shared.{Shared}
use Rattle.cilk_compiler.specs.Numbering.{number_in, array_names, function_names}
use Rattle.std.specs.List.{position_from, position_or_len}
use Rattle.std.specs.Prelude.{is_some, take}
use Rattle.std.specs.Option.{option_copied, option_or, unwrap_or}
use Rattle.std.specs.Map.{update}
use Rattle.std.specs.Str.{bytes_eq}
use Rattle.std.proofs.lemmas.Bool.{false≢true}
use Rattle.std.proofs.lemmas.Slice.Eq.{bytes_eq-Decides}

module _ {A : Type 0} (test : A → Bool) where
  -- the first place, where there is one, or the length
  pub first_or_length : (from : ℕ) (xs : List A) → unwrap_or (position_from test from xs) (from + length xs) ≡ from + position_or_len test xs
  first_or_length from [] = refl
  first_or_length from (x ∷ xs) =
      let more : from + length (x ∷ xs) ≡ (from + 1) + length xs = omega arith in
      let further : (from + 1) + position_or_len test xs ≡ from + (1 + position_or_len test xs) = omega arith in
      by_test (test x) (ap (λ n. unwrap_or (position_from test (from + 1) xs) n) more ∙ first_or_length (from + 1) xs ∙ further)
    where
      by_test : (b : Bool) → unwrap_or (position_from test (from + 1) xs) (from + length (x ∷ xs)) ≡ from + (1 + position_or_len test xs)
          → unwrap_or (cond b (Some from) (position_from test (from + 1) xs)) (from + length (x ∷ xs)) ≡ from + cond (not b) (1 + position_or_len test xs) 0
      by_test true rest = omega arith
      by_test false rest = rest

  -- one more at the end
  pub first_in_more : (from : ℕ) (xs : List A) (next : A) → position_from test from (xs ++ next ∷ []) ≡ option_or (position_from test from xs) (cond (test next) (Some (from + length xs)) None)
  first_in_more from [] next = let none : from ≡ from + 0 = omega arith in ap (λ n. cond (test next) (Some n) None) none
  first_in_more from (x ∷ xs) next =
      let more : (from + 1) + length xs ≡ from + length (x ∷ xs) = omega arith in
      ap (cond (test x) (Some from)) (first_in_more (from + 1) xs next ∙ ap (λ n. option_or (position_from test (from + 1) xs) (cond (test next) (Some n) None)) more)
      ∙ by_test (test x) (position_from test (from + 1) xs) (cond (test next) (Some (from + length (x ∷ xs))) None)
    where
      by_test : (b : Bool) (found other : Option ℕ) → cond b (Some from) (option_or found other) ≡ option_or (cond b (Some from) found) other
      by_test true found other = refl
      by_test false found other = refl

  pub first_in_map : {B : Type 0} (f : B → A) (xs : List B) → position_or_len (λ x. test (f x)) xs ≡ position_or_len test (map f xs)
  first_in_map f [] = refl
  first_in_map f (x ∷ xs) = ap (λ n. cond (not (test (f x))) (1 + n) 0) (first_in_map f xs)

-- the number of a name in a table of these names
pub number_is : (names : List (List ℕ)) (name : List ℕ) → unwrap_or (position_from (λ other. bytes_eq other name) 0 names) (length names) ≡ number_in names name
number_is names name =
    let start : length names ≡ 0 + length names = omega arith in
    let end : 0 + number_in names name ≡ number_in names name = omega arith in
    ap (unwrap_or (position_from (λ other. bytes_eq other name) 0 names)) start ∙ first_or_length (λ other. bytes_eq other name) 0 names ∙ end

pub array_is : (program : Program) (name : List ℕ) → number_in (array_names program) name ≡ array_number program name
array_is program name = sym (first_in_map (λ other. bytes_eq other name) (λ (array : Shared). array.name) program.shared)

pub function_is : (program : Program) (name : List ℕ) → number_in (function_names program) name ≡ function_number program name
function_is program name = sym (first_in_map (λ other. bytes_eq other name) (λ (function : Function). function.name) program.functions)

-- the names of some items, and of one more
pub names_more : {A : Type 0} (name_of : A → List ℕ) (items : List A) (i : ℕ) (item : A) (name : List ℕ) → i < length items → item ≡ get_or items i item → name ≡ name_of item
    → map name_of (take i items) ++ name ∷ [] ≡ map name_of (take (i + 1) items)
names_more name_of items i item name within is same =
    ap (λ n. map name_of (take i items) ++ n ∷ []) same
    ∙ sym (ap (map name_of) (next_taken items i item within is) ∙ map-append name_of (take i items) (item ∷ []))

-- and of all
pub names_all : {A : Type 0} (name_of : A → List ℕ) (items whole : List A) (i : ℕ) → length items ≤ i → items ≡ whole → map name_of (take i items) ≡ map name_of whole
names_all name_of items whole i past same = ap (map name_of) (take_all i items past ∙ same)

pub copied_some : {A : Type 0} (o : Option (Bor A)) → is_some (option_copied o) ≡ is_some o
copied_some None = refl
copied_some (Some x) = refl

-- a name more, which is among the names already
pub stays : (numbers : List ℕ → Option ℕ) (names : List (List ℕ)) (next : List ℕ)
    → ((name : List ℕ) → numbers name ≡ position_from (λ other. bytes_eq other name) 0 names)
    → is_some (numbers next) ≡ true
    → (name : List ℕ) → numbers name ≡ position_from (λ other. bytes_eq other name) 0 (names ++ next ∷ [])
stays numbers names next agrees found name =
    by_test (bytes_eq next name) (numbers name) (λ same. sym (ap (λ other. is_some (numbers other)) ((bytes_eq-Decides next name).0 same)) ∙ found)
    ∙ ap (λ o. option_or o (cond (bytes_eq next name) (Some (0 + length names)) None)) (agrees name)
    ∙ sym (first_in_more (λ other. bytes_eq other name) 0 names next)
  where
    by_test : (b : Bool) (found : Option ℕ) → (b ≡ true → is_some found ≡ true) → found ≡ option_or found (cond b (Some (0 + length names)) None)
    by_test b (Some n) some = refl
    by_test true None some = absurd (false≢true (some refl))
    by_test false None some = refl

-- and one that is not
pub comes : (numbers more : List ℕ → Option ℕ) (names : List (List ℕ)) (next : List ℕ) (count : ℕ)
    → ((name : List ℕ) → numbers name ≡ position_from (λ other. bytes_eq other name) 0 names)
    → is_some (numbers next) ≡ false → count ≡ length names
    → ((name : List ℕ) → more name ≡ update bytes_eq numbers next (Some count) name)
    → (name : List ℕ) → more name ≡ position_from (λ other. bytes_eq other name) 0 (names ++ next ∷ [])
comes numbers more names next count agrees absent is made name =
    let start : count ≡ 0 + length names = is ∙ omega arith in
    made name
    ∙ by_test (bytes_eq next name) (numbers name) (λ same. sym (ap (λ other. is_some (numbers other)) ((bytes_eq-Decides next name).0 same)) ∙ absent)
    ∙ ap (λ n. option_or (numbers name) (cond (bytes_eq next name) (Some n) None)) start
    ∙ ap (λ o. option_or o (cond (bytes_eq next name) (Some (0 + length names)) None)) (agrees name)
    ∙ sym (first_in_more (λ other. bytes_eq other name) 0 names next)
  where
    by_test : (b : Bool) (found : Option ℕ) → (b ≡ true → is_some found ≡ false) → cond b (Some count) found ≡ option_or found (cond b (Some count) None)
    by_test true None none = refl
    by_test true (Some n) none = absurd (false≢true (sym (none refl)))
    by_test false None none = refl
    by_test false (Some n) none = refl
