-- What a contract sees of a page.
use Rattle.std.specs.Prelude.{◌≡◌, ℕ, ℤ, ◌^◌, ◌<◌, ◌≤◌, List, length, slice_get}
use Rattle.std.specs.Int.{IsBitSet}

-- how many words are used, 64 words, and the marks: bit k of `dirty` marks word k as written
pub record Page : Type 0 where
  pub size : ℕ
  pub words : List ℤ
  pub dirty : ℕ

-- what holds of every page
pub record IsPage (page : Page) : Type 0 where
  pub some_word : 1 ≤ page.size
  pub at_most_64 : page.size ≤ 64
  pub places : length page.words ≡ 64
  -- only words that are used are marked
  pub marks : page.dirty < 2 ^ page.size

-- the new words are the given ones where the mask has a bit, and else the old ones
pub record IsMerged (mask : ℕ) (given old new : List ℤ) : Type 0 where
  pub places : length new ≡ length old
  pub marked : (k : ℕ) → IsBitSet mask k → slice_get new k ≡ slice_get given k
  pub others : (k : ℕ) → ¬ IsBitSet mask k → slice_get new k ≡ slice_get old k
