-- What a list says of each word of a home, by the word's place.
use Rattle.std.proofs.Common.{◌≡◌, ◌≢◌, ℕ, ℤ, pos, ◌+◌, ◌*◌, ◌/◌, ◌%◌, ◌<◌, ◌≤◌, List, length, map, take, drop, get_or, get_or-set_same, get_or-set_other, nat_eq, true, false, refl, sym, ◌∙◌, ap, subst, arith}
use Rattle.std.proofs.lemmas.List.{get_or-take, get_or-drop}
use Rattle.std.proofs.lemmas.Nat.{div-mul-add, mod-mul-add, mod_below, same_from_place}
use Rattle.std.proofs.Math.ListN.{set, length-take, length-drop}
use Rattle.std.specs.List.{range_with_len}
use Rattle.std.specs.Prelude.{if◌then◌else◌}
use Rattle.page_words.specs.Layout.{page_of, home_of}
use Rattle.page_words.specs.declared.config.Config.{Config}
use Rattle.home_store.proofs.Rounds.{same_page}
use Rattle.home_store.proofs.Ranges.{fill_from}
use Rattle.home_store.specs.Places.{IsStore, first_place, place_of, stored}
use Rattle.home_store.proofs.Deciding.{same_number, other_number, equal_numbers}

module _ (config : Config) (node : ℕ) (some : 0 < config.page_words) where
  -- a word of the home stands at its place
  pub stored_here : (words : List ℤ) (word : ℕ) → home_of config (page_of config word) ≡ node → stored config node words word ≡ get_or words (place_of config word) (pos 0)
  stored_here words word home = rw (equal_numbers (home_of config (page_of config word)) node home)

  -- two words of the home at one place are one
  same_word : (a b : ℕ) → home_of config (page_of config a) ≡ node → home_of config (page_of config b) ≡ node → place_of config a ≡ place_of config b → a ≡ b
  same_word a b at_a at_b same =
      let split : (a / config.page_words / config.nodes ≡ b / config.page_words / config.nodes) × (a % config.page_words ≡ b % config.page_words) =
      same_from_place (a / config.page_words / config.nodes) (a % config.page_words) (b / config.page_words / config.nodes) (b % config.page_words) config.page_words
      (mod_below a config.page_words some) (mod_below b config.page_words some) same in
      let page : a / config.page_words ≡ b / config.page_words = same_page config.nodes (a / config.page_words) (b / config.page_words) (at_a ∙ sym at_b) split.0 in
      same_page config.page_words a b split.1 page

  -- the words of a page, from the list
  module _ (words : List ℤ) (page : ℕ) (home : home_of config page ≡ node) where
    page_word : (k : ℕ) → k < config.page_words → get_or words (first_place config page + k) (pos 0) ≡ stored config node words (page * config.page_words + k)
    page_word k below =
        let number : page_of config (page * config.page_words + k) ≡ page = div-mul-add page config.page_words k below in
        let inside : (page * config.page_words + k) % config.page_words ≡ k = mod-mul-add page config.page_words k below in
        let place : place_of config (page * config.page_words + k) ≡ first_place config page + k =
        ap (λ j. first_place config (page_of config (page * config.page_words + k)) + j) inside ∙ ap (λ p. first_place config p + k) number in
        sym (stored_here words (page * config.page_words + k) (ap (home_of config) number ∙ home) ∙ ap (λ j. get_or words j (pos 0)) place)

    pub page_read : first_place config page + config.page_words ≤ length words →
        take config.page_words (drop (first_place config page) words) ≡ map (stored config node words) (range_with_len (page * config.page_words) config.page_words)
    page_read room = fill_from (stored config node words) (take config.page_words (drop (first_place config page) words)) (page * config.page_words) config.page_words (pos 0)
        (simp (length-take, length-drop) (omega arith))
        (λ k below. get_or-take config.page_words (drop (first_place config page) words) k (pos 0) below ∙ (get_or-drop (first_place config page) words k (pos 0) ∙ page_word k below))

  -- one word of the home is set
  pub word_set : (words : List ℤ) (word : ℕ) (value : ℤ) → home_of config (page_of config word) ≡ node → place_of config word < length words → (other : ℕ) →
      stored config node (set words (place_of config word) value) other ≡ (if nat_eq word other then value else stored config node words other)
  word_set words word value home room other = (elim (nat_eq (home_of config (page_of config other)) node) as (λ here. nat_eq (home_of config (page_of config other)) node ≡ here →
      (if here then get_or (set words (place_of config word) value) (place_of config other) (pos 0) else pos 0) ≡ (if nat_eq word other then value else if here then get_or words (place_of config other) (pos 0) else pos 0)) [
        | true ↦ λ e. (elim (nat_eq word other) as (λ b. nat_eq word other ≡ b → get_or (set words (place_of config word) value) (place_of config other) (pos 0) ≡ (if b then value else get_or words (place_of config other) (pos 0))) [
          | true ↦ λ same. subst (λ w. get_or (set words (place_of config word) value) (place_of config w) (pos 0) ≡ value) (same_number word other same) (get_or-set_same words (place_of config word) value (pos 0) room)
          | false ↦ λ apart.
              let places : place_of config other ≢ place_of config word = λ same. other_number word other apart (same_word word other home (same_number (home_of config (page_of config other)) node e) (sym same)) in
              get_or-set_other words (place_of config word) (place_of config other) value (pos 0) places
        ]) refl
        | false ↦ λ e. (elim (nat_eq word other) as (λ b. nat_eq word other ≡ b → pos 0 ≡ (if b then value else pos 0)) [
          | true ↦ λ same. absurd (other_number (home_of config (page_of config other)) node e (subst (λ w. home_of config (page_of config w) ≡ node) (same_number word other same) home))
          | false ↦ λ apart. refl
        ]) refl
      ]) refl

-- A home has as many places as before.
pub same_room : (config : Config) (shared node : ℕ) (old new : List ℤ) → length new ≡ length old → IsStore config shared node old → IsStore config shared node new
same_room config shared node old new same store = record {
  places = λ page is. rw same (store.places page is);
  used = λ place below. store.used place (omega (arith, same));
}
