-- What becomes of a cache that lends a page.
use Rattle.std.specs.Prelude.{ℕ, ◌∷◌, Option}
use Rattle.std.specs.Borrow.{Fml, MutBor, LendsIf}
use Rattle.page_words.specs.Page.{Page}
use Rattle.page_words.specs.contracts.page.Page.{the_row as page_row}
use Rattle.page_cache.specs.Cache.{Cache, without, with_page}
use Rattle.page_cache.specs.contracts.cache.Cache.{the_row}

module _ (cache : MutBor Cache) (number : ℕ) (page : Option (MutBor Page)) where
  -- the page becomes the first, with the last value written through the reference
  abbrev pub LendsUsed : Fml
  LendsUsed = LendsIf the_row page_row cache page (λ last. record cache.now { pages = (number, last) ∷ without cache.now.pages number }) cache.now

  -- the page stays in its place, with the last value written through the reference
  abbrev pub LendsKept : Fml
  LendsKept = LendsIf the_row page_row cache page (λ last. record cache.now { pages = with_page cache.now.pages number last }) cache.now
