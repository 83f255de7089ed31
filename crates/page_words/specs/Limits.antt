-- What a configuration may be.
use Rattle.std.specs.Prelude.{ℕ, ◌/◌, ◌≤◌, ◌==◌, IsTrue, List, [], ◌∷◌}
use Rattle.std.specs.List.{list_any}

-- how many words a page may have
abbrev pub page_sizes : List ℕ
page_sizes = 1 ∷ 2 ∷ 4 ∷ 8 ∷ 16 ∷ 32 ∷ 64 ∷ []

-- the numbers of a configuration are within their limits
pub record IsWithinLimits (nodes page_words cache_pages budget : ℕ) : Type 0 where
  pub some_node : 1 ≤ nodes
  pub at_most_16_nodes : nodes ≤ 16
  pub page_size : IsTrue (list_any (λ size. size == page_words) page_sizes)
  pub some_page : 1 ≤ cache_pages
  pub at_most_65536_pages : cache_pages ≤ 65536
  pub some_tick : 1 ≤ budget
  -- all nodes together make at most 2,000,000 ticks
  pub budget_share : budget ≤ 2000000 / nodes
