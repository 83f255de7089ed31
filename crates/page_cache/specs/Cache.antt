-- What a contract sees of a cache.
use Rattle.std.specs.Prelude.{◌≡◌, ℕ, ◌-◌, ◌<◌, ◌≤◌, ◌==◌, Bool, true, false, not, List, length, Option, Some, None, is_some, option_map, slice_get, nat_eq}
use Rattle.std.specs.List.{IsDistinct}
use Rattle.std.specs.Map.{keys_of, lookup, remove_entry, set_value}
use Rattle.std.specs.Option.{option_map_or}
use Rattle.std.specs.Ordering.{nat_cmp}
use Rattle.std.specs.BTreeSet.{BTreeSet, contains}
use Rattle.page_words.specs.Page.{Page}

-- how many pages it may hold, and those that it holds with their numbers, the most recently used first
pub record Cache : Type 0 where
  pub capacity : ℕ
  pub pages : List (ℕ × Page)

-- what holds of every cache
pub record IsCache (cache : Cache) : Type 0 where
  pub room : 1 ≤ cache.capacity
  pub bounded : length cache.pages ≤ cache.capacity
  pub distinct : IsDistinct nat_eq (keys_of cache.pages)

-- the number of the least recently used page
abbrev pub last_number : List (ℕ × Page) → Option ℕ
last_number pages = option_map (λ entry. entry.0) (slice_get pages (length pages - 1))

module _ (pages : List (ℕ × Page)) (number : ℕ) where
  -- the page of this number, where it is resident
  abbrev pub page_at : Option Page
  page_at = lookup (nat_eq number) pages

  -- whether there is one
  abbrev pub is_resident : Bool
  is_resident = is_some page_at

  -- whether there is one with a mark
  abbrev pub is_dirty : Bool
  is_dirty = option_map_or (λ page. not (page.dirty == 0)) page_at false

  -- the others, in their order
  abbrev pub without : List (ℕ × Page)
  without = remove_entry (nat_eq number) pages

  -- all, with this one in the place of that number's
  abbrev pub with_page : Page → List (ℕ × Page)
  with_page page = set_value (nat_eq number) pages page

-- the least number that passes, from `least` on
abbrev pub IsLeastFrom : (ℕ → Bool) → ℕ → Option ℕ → Type 0
IsLeastFrom test least None = (number : ℕ) → least ≤ number → test number ≡ false
IsLeastFrom test least (Some found) = (least ≤ found) × (test found ≡ true) × ((number : ℕ) → least ≤ number → number < found → test number ≡ false)

-- the numbers are those of the pages, of which no two have one number
pub record AreNumbers (numbers : BTreeSet ℕ) (pages : List (ℕ × Page)) : Type 0 where
  pub same : (number : ℕ) → contains nat_cmp numbers number ≡ is_resident pages number
  pub distinct : IsDistinct nat_eq (keys_of pages)
