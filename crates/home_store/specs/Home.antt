-- What a contract sees of a home, and what its calls leave in its words.
use Rattle.std.specs.Prelude.{◌≡◌, ◌==◌, ◌&&◌, ℕ, ◌*◌, ◌%◌, ℤ, pos, ◌+ℤ◌, if◌then◌else◌, Bool, Option, Some, None, unwrap_or, List, [], ◌∷◌, map, slice_index_or}
use Rattle.std.specs.Int.{bit_at}
use Rattle.std.specs.List.{All, range_with_len}
use Rattle.std.specs.Option.{option_or}
use Rattle.cilk_meaning.specs.Values.{fits}
use Rattle.machine_code.specs.Machine.{Code}
use Rattle.machine_code.specs.StandsFor.{start_words_of}
use Rattle.machine_code.specs.Valid.{words_in}
use Rattle.page_words.specs.Layout.{page_of}
use Rattle.page_words.specs.declared.config.Config.{Config}
use Rattle.page_messages.specs.declared.message.Body.{Body}
use Rattle.page_messages.specs.declared.message.Body.TheVariants.{Fetch, Page, Reconcile, Ack}
use Rattle.page_messages.specs.declared.parts.Part.{Part}
use Rattle.home_store.specs.Places.{IsPageOf, stored}

-- The part of the backing store at one node: how many shared words the program has, and the words of the node's pages, one page behind
-- another. `held` says what each of them holds.
pub record Home : Type 0 where
  pub node : ℕ
  pub config : Config
  pub shared : ℕ
  pub words : List ℤ

-- What a word of the home holds, by its number among all shared words; 0 for a word of another home
abbrev pub held : Home → ℕ → ℤ
held home = stored home.config home.node home.words

abbrev pub HasPage : Home → ℕ → Type 0
HasPage home page = IsPageOf home.config home.shared home.node page

-- the word is on a page of this home: a word of the program, or one behind them on its last page
abbrev pub HasWord : Home → ℕ → Type 0
HasWord home word = HasPage home (page_of home.config word)

-- the words of a page, in order
abbrev pub words_of : Home → ℕ → List ℤ
words_of home page = map (held home) (range_with_len (page * home.config.page_words) home.config.page_words)

-- The home at a node before any change: each word of its pages is its start word.
pub record IsFirst (layout : Config) (code : Code) (me : ℕ) (home : Home) : Type 0 where
  pub node : home.node ≡ me
  pub config : home.config ≡ layout
  pub shared : home.shared ≡ words_in code.shared
  pub words : (word : ℕ) → HasWord home word → held home word ≡ start_words_of code word

-- ---- changes

-- What a change leaves in a word is there, and where it leaves nothing what was there before.
pub record HasChanged (left : ℕ → Option ℤ) (old new : Home) : Type 0 where
  pub words : (word : ℕ) → held new word ≡ unwrap_or (left word) (held old word)
  pub rest : new ≡ record old { words = new.words }

-- the part is of the word's page, and marks the word
abbrev pub marks : Config → Part → ℕ → Bool
marks config part word = (part.page == page_of config word) && (bit_at part.mask (word % config.page_words) == 1)

-- A part leaves its own words where it marks them.
abbrev pub left_by_part : Config → Part → ℕ → Option ℤ
left_by_part config part word = if marks config part word then Some (slice_index_or part.words (word % config.page_words) (pos 0)) else None

-- parts of different pages
abbrev pub left_by_parts : Config → List Part → ℕ → Option ℤ
left_by_parts config [] word = None
left_by_parts config (part ∷ parts) word = option_or (left_by_part config part word) (left_by_parts config parts word)

-- An add leaves the sum in its word, where that is a value.
abbrev pub left_by_add : ℕ → ℤ → ℤ → ℕ → Option ℤ
left_by_add word old addend other = if word == other then (if fits (old +ℤ addend) then Some (old +ℤ addend) else None) else None

-- ---- messages

-- a Fetch of a page of this home, or a Reconcile of parts of such pages
abbrev pub IsFor : Home → Body → Type 0
IsFor home (Fetch page) = HasPage home page
IsFor home (Reconcile parts) = All (λ part. HasPage home part.page) parts
IsFor home _ = ⊥

abbrev pub left_by : Config → Body → ℕ → Option ℤ
left_by config (Reconcile parts) word = left_by_parts config parts word
left_by config _ word = None

-- what a Fetch, or else a Reconcile, is answered
abbrev pub answer_to : Home → Body → Body
answer_to home (Fetch page) = Page page (words_of home page)
answer_to home _ = Ack
