-- Where the words of a home lie: the pages of a node, each `nodes`-th one, one behind another in one list.
use Rattle.std.specs.Prelude.{◌≡◌, ◌==◌, ℕ, ◌+◌, ◌*◌, ◌/◌, ◌%◌, ◌<◌, ◌≤◌, ℤ, pos, if◌then◌else◌, List, length, slice_index_or}
use Rattle.page_words.specs.Layout.{page_of, home_of}
use Rattle.page_words.specs.declared.config.Config.{Config}

-- the page has a shared word, and this node is its home
pub record IsPageOf (config : Config) (shared node page : ℕ) : Type 0 where
  pub used : page * config.page_words < shared
  pub home : home_of config page ≡ node

-- where a page begins in its home, and where a word lies
abbrev pub first_place : Config → ℕ → ℕ
first_place config page = page / config.nodes * config.page_words

abbrev pub place_of : Config → ℕ → ℕ
place_of config word = first_place config (page_of config word) + word % config.page_words

-- the word at a place of the home at this node
abbrev pub word_at : Config → ℕ → ℕ → ℕ
word_at config node place = (place / config.page_words * config.nodes + node) * config.page_words + place % config.page_words

-- what the list of this home says of a word; 0 of a word of another home
abbrev pub stored : Config → ℕ → List ℤ → ℕ → ℤ
stored config node words word = if home_of config (page_of config word) == node then slice_index_or words (place_of config word) (pos 0) else pos 0

-- Each page of the home has its places, and each place is of a page of the home.
pub record IsStore (config : Config) (shared node : ℕ) (words : List ℤ) : Type 0 where
  pub places : (page : ℕ) → IsPageOf config shared node page → first_place config page + config.page_words ≤ length words
  pub used : (place : ℕ) → place < length words → IsPageOf config shared node (page_of config (word_at config node place))
