-- The place of the first entry with a name, and the text there.
use Rattle.std.proofs.Common.{◌≡◌, ℕ, ◌+◌, ◌≤◌, Bool, true, false, cond, not, ltb, suc, List, [], ◌∷◌, Option, Some, None, map, refl, ap, ◌∙◌, arith}
use Rattle.std.specs.Prelude.{slice_get}
use Rattle.std.specs.List.{position, position_or_len}
use Rattle.std.specs.Option.{option_map}
use Rattle.std.specs.Ordering.{nat_cmp}
use Rattle.std.specs.Cmp.Lexicographic.{slice_cmp, nat_list_cmp_total}
use Rattle.std.specs.Str.{bytes_eq}
use Rattle.std.specs.FinMap as finite
use Rattle.std.proofs.lemmas.Bool.Decides.{nat_tests}
use Rattle.std.proofs.lemmas.List.{length-map}
use Rattle.std.proofs.lemmas.Map.Text.{is_eq-slice_cmp}
use Rattle.std.proofs.lemmas.Option.{cond_some, slice_get_past}
use Rattle.outside.specs.MemShelf.{ShelfState, held, place}

position_or_len-map : {A B : Type 0} (p : B → Bool) (f : A → B) (xs : List A) → position_or_len p (map f xs) ≡ position_or_len (λ x. p (f x)) xs
position_or_len-map p f [] = refl
position_or_len-map p f (x ∷ xs) = ap (λ k. cond (not (p (f x))) (1 + k) 0) (position_or_len-map p f xs)

pub position-map : {A B : Type 0} (p : B → Bool) (f : A → B) (xs : List A) → position p (map f xs) ≡ position (λ x. p (f x)) xs
position-map p f xs = rw (position_or_len-map, length-map)

found_further : (b : Bool) (e : List ℕ × List ℕ) (es : List (List ℕ × List ℕ)) (k : ℕ) (found : Option (List ℕ)) → found ≡ option_map (λ e. e.1) (slice_get es k)
    → cond b (Some e.1) found ≡ option_map (λ e. e.1) (slice_get (e ∷ es) (cond (not b) (1 + k) 0))
found_further true e es k found is = refl
found_further false e es k found is = let further : 1 + k ≡ suc k = omega arith in rw further is

find-place : (name : List ℕ) (es : List (List ℕ × List ℕ)) → finite.find (slice_cmp nat_cmp) name es ≡ option_map (λ e. e.1) (slice_get es (position_or_len (λ e. bytes_eq name e.0) es))
find-place name [] = refl
find-place name (e ∷ es) =
    ap (λ b. cond b (Some e.1) (finite.find (slice_cmp nat_cmp) name es)) (is_eq-slice_cmp name e.0) ∙ found_further (bytes_eq name e.0) e es _ _ (find-place name es)

past_end : (k n : ℕ) → cond (ltb k n) (Some k) None ≡ None → n ≤ k
past_end k n none = grind (arith, nat_tests)

pub get-place : (s : ShelfState) (name : List ℕ) (i : ℕ) → place s name ≡ Some i → finite.get (held s) name ≡ option_map (λ e. e.1) (slice_get s.entries i)
get-place s name i found = finite.get-from_entries nat_list_cmp_total s.entries name ∙ find-place name s.entries ∙ ap (λ k. option_map (λ e. e.1) (slice_get s.entries k)) (cond_some _ _ _ found).1

pub get-no_place : (s : ShelfState) (name : List ℕ) → place s name ≡ None → finite.get (held s) name ≡ None
get-no_place s name none = finite.get-from_entries nat_list_cmp_total s.entries name ∙ find-place name s.entries ∙ ap (option_map (λ e. e.1)) (slice_get_past s.entries _ (past_end _ _ none))
