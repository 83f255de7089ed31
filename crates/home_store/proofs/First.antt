-- The first words of a home, made place by place.
use Rattle.std.proofs.Common.{◌≡◌, ℕ, ℤ, pos, ◌+◌, ◌%◌, ◌<◌, ◌≤◌, List, [], ◌∷◌, ◌++◌, length, map, get_or, sym, ◌∙◌, ap, arith}
use Rattle.std.proofs.lemmas.Nat.{mod_below}
use Rattle.std.specs.List.{range_with_len}
use Rattle.std.proofs.lemmas.List.FromFn.{get_or-map-range_with_len, length-map-range_with_len, map-range_with_len_more}
use Rattle.page_words.specs.Layout.{page_of}
use Rattle.page_words.specs.declared.config.Config.{Config}
use Rattle.home_store.proofs.Rounds.{word_again}
use Rattle.home_store.specs.Places.{IsPageOf, IsStore, first_place, place_of, word_at, stored}
use Rattle.home_store.proofs.Deciding.{some_word}
use Rattle.home_store.proofs.Storing.{stored_here}

abbrev pub first_list : Config → ℕ → (ℕ → ℤ) → ℕ → List ℤ
first_list config node start count = map (λ place. start (word_at config node place)) (range_with_len 0 count)

pub first_more : (config : Config) (node place word : ℕ) (start : ℕ → ℤ) (words new : List ℤ) (value : ℤ) → words ≡ first_list config node start place → new ≡ words ++ value ∷ [] →
    value ≡ start word → word ≡ word_at config node place → new ≡ first_list config node start (place + 1)
first_more config node place word start words new value before pushed is at =
    pushed ∙ (ap (λ list. list ++ value ∷ []) before
    ∙ (ap (λ last. first_list config node start place ++ last ∷ []) (is ∙ ap start at)
    ∙ sym (map-range_with_len_more (λ at. start (word_at config node at)) 0 place place (omega arith))))

module _ (config : Config) (node shared count place : ℕ) (start : ℕ → ℤ) (words : List ℤ) (all : place ≡ count) (is : words ≡ first_list config node start place) where
  pub first_room : ((page : ℕ) → IsPageOf config shared node page → first_place config page + config.page_words ≤ count) →
      ((at : ℕ) → at < count → IsPageOf config shared node (page_of config (word_at config node at))) → IsStore config shared node words
  first_room places used =
      let size : length words ≡ count = ap length is ∙ (length-map-range_with_len (λ at. start (word_at config node at)) 0 place ∙ all) in
      record {
        places = λ page has. rw size (places page has);
        used = λ at below. used at (omega (arith, size));
      }

  pub first_words : ((page : ℕ) → IsPageOf config shared node page → first_place config page + config.page_words ≤ count) →
      (word : ℕ) → IsPageOf config shared node (page_of config word) → stored config node words word ≡ start word
  first_words places word has =
      let some = some_word config in
      let inside : word % config.page_words < config.page_words = mod_below word config.page_words some in
      let below : place_of config word < place = omega (arith, all, places (page_of config word) has) in
      stored_here config node some words word has.home
      ∙ (ap (λ list. get_or list (place_of config word) (pos 0)) is
      ∙ (get_or-map-range_with_len (λ at. start (word_at config node at)) 0 place (place_of config word) (place_of config word) (pos 0) below (omega arith)
      ∙ ap start (word_again config.nodes config.page_words node word some has.home)))
