-- What a home says of its words, read by a slice, and after a change.
use Rattle.std.proofs.Common.{◌≡◌, ℕ, ℤ, pos, ◌+◌, ◌<◌, ◌≤◌, List, length, take, drop, get_or, nat_eq, Some, None, unwrap_or, true, false, ◌-◌, refl, sym, ◌∙◌, ap, subst, arith}
use Rattle.std.proofs.lemmas.List.{get_or_default}
use Rattle.std.proofs.lemmas.Nat.{mod_below}
use Rattle.std.proofs.Math.ListN.{set}
use Rattle.std.specs.Prelude.{if◌then◌else◌, ◌+ℤ◌}
use Rattle.page_words.specs.Layout.{page_of}
use Rattle.page_messages.specs.declared.parts.Part.{Part}
use Rattle.page_messages.specs.Fitting.{PartFits}
use Rattle.cilk_meaning.specs.Values.{fits}
use Rattle.cilk_meaning.specs.World.{sum_or_old}
use Rattle.home_store.proofs.Ranges.{take_all}
use Rattle.home_store.specs.Home.{Home, HasPage, HasWord, HasChanged, held, words_of, left_by_part, left_by_add}
use Rattle.home_store.specs.Places.{IsStore, first_place, place_of, stored}
use Rattle.home_store.proofs.Deciding.{same_number, some_word}
use Rattle.home_store.proofs.Storing.{stored_here, page_read, word_set}
use Rattle.home_store.proofs.Merging.{IsMergedAt, part_stored}

-- What a slice of the list says, from the page's first place on, is the page.
pub page_loaded : (home : Home) (page : ℕ) (words items : List ℤ) (first index : ℕ) → HasPage home page → IsStore home.config home.shared home.node home.words →
    first ≡ first_place home.config page → items ≡ home.words → length (take (first + home.config.page_words - first) (drop first items)) ≤ index →
    words ≡ take index (take (first + home.config.page_words - first) (drop first items)) → words ≡ words_of home page
page_loaded home page words items first index has store at is past e =
    let size : first + home.config.page_words - first ≡ home.config.page_words = omega arith in
    e ∙ (take_all index (take (first + home.config.page_words - first) (drop first items)) past
    ∙ (ap (λ count. take count (drop first items)) size
    ∙ (ap (λ place. take home.config.page_words (drop place items)) at
    ∙ (ap (λ list. take home.config.page_words (drop (first_place home.config page) list)) is
    ∙ page_read home.config home.node (some_word home.config) home.words page has.home (store.places page has)))))

-- A part is merged.
pub part_changes : (home : Home) (part : Part) (first : ℕ) (given old new : List ℤ) → HasPage home part.page → PartFits home.config part →
    first ≡ first_place home.config part.page → given ≡ part.words → old ≡ home.words → IsMergedAt first part.mask given old new →
    HasChanged (left_by_part home.config part) home (record home { words = new })
part_changes home part first given old new has fits at words before merged = record {
  words = part_stored home.config home.node (some_word home.config) part has.home fits.words home.words new
      (subst (λ place. IsMergedAt place part.mask part.words home.words new) at
      (subst (λ list. IsMergedAt first part.mask list home.words new) words
      (subst (λ list. IsMergedAt first part.mask given list new) before merged)));
  rest = refl;
}

-- An add.
sum_left : (word other : ℕ) (old addend there : ℤ) → (nat_eq word other ≡ true → there ≡ old) →
    (if nat_eq word other then sum_or_old old addend else there) ≡ unwrap_or (left_by_add word old addend other) there
sum_left word other old addend there same = (elim (nat_eq word other) as (λ b. nat_eq word other ≡ b →
    (if b then sum_or_old old addend else there) ≡ unwrap_or (if b then (if fits (old +ℤ addend) then Some (old +ℤ addend) else None) else None) there) [
      | true ↦ λ e. elim (fits (old +ℤ addend)) as (λ f. (if f then old +ℤ addend else old) ≡ unwrap_or (if f then Some (old +ℤ addend) else None) there) [
        | true ↦ refl
        | false ↦ sym (same e)
      ]
      | false ↦ λ e. refl
    ]) refl

module _ (home : Home) (word place : ℕ) (has : HasWord home word) (store : IsStore home.config home.shared home.node home.words) (at : place ≡ place_of home.config word) where
  pub place_below : place < length home.words
  place_below = omega (arith, at, store.places (page_of home.config word) has, mod_below word home.config.page_words (some_word home.config))

  pub held_there : (value : ℤ) → value ≡ get_or home.words place value → value ≡ held home word
  held_there value is =
      is ∙ (get_or_default home.words place value (pos 0) place_below
      ∙ (ap (λ n. get_or home.words n (pos 0)) at
      ∙ sym (stored_here home.config home.node (some_word home.config) home.words word has.home)))

  pub add_changes : (old addend value : ℤ) → old ≡ held home word → value ≡ sum_or_old old addend →
      HasChanged (left_by_add word (held home word) addend) home (record home { words = set home.words place value })
  add_changes old addend value is sum = record {
    words = λ other.
        ap (λ n. stored home.config home.node (set home.words n value) other) at
        ∙ (word_set home.config home.node (some_word home.config) home.words word value has.home (omega (arith, at, place_below)) other
        ∙ (ap (λ v. if nat_eq word other then v else held home other) (sum ∙ ap (λ v. sum_or_old v addend) is)
        ∙ sum_left word other (held home word) addend (held home other) (λ e. ap (held home) (sym (same_number word other e)))));
    rest = refl;
  }
