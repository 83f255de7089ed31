-- What a node knows from the start: its number, the configuration, and the code that the program was compiled to.
use Rattle.std.specs.Prelude.{ℕ, ℤ, ◌+◌, ◌*◌, ◌%◌}
use Rattle.machine_code.specs.Machine.{Code}
use Rattle.machine_code.specs.StandsFor.{start_words_of}
use Rattle.page_words.specs.Layout as layout
use Rattle.page_words.specs.declared.config.Config.{Config}

pub record Node : Type 0 where
  pub me : ℕ
  pub config : Config
  pub code : Code

-- the page of a word, its place in the page, and the home of a page
abbrev pub page_of : Node → ℕ → ℕ
page_of node word = layout.page_of node.config word

abbrev pub place_of : Node → ℕ → ℕ
place_of node word = word % node.config.page_words

abbrev pub home_of : Node → ℕ → ℕ
home_of node page = layout.home_of node.config page

-- the word at this place of a page
abbrev pub word_of : Node → ℕ → ℕ → ℕ
word_of node page place = page * node.config.page_words + place

-- the word before any change
abbrev pub start_word : Node → ℕ → ℤ
start_word node word = start_words_of node.code word
