-- A shelf in memory, as its callers see it.
use Rattle.std.specs.Prelude.{ℕ, List, Option, Some, None, slice_index, slice_set}
use Rattle.std.specs.FinMap.{from_entries}
use Rattle.std.specs.List.{position}
use Rattle.std.specs.Option.{option_map_or}
use Rattle.std.specs.Str.{bytes_eq}
use Rattle.outside.specs.Device.{one_more}
use Rattle.outside.specs.Shelf.{Texts}

pub record ShelfState : Type 0 where
  -- the names and their texts
  pub entries : List (List ℕ × List ℕ)
  -- the numbers of the calls that fail
  pub failing : List ℕ
  -- how many calls there were
  pub calls : ℕ
  -- how many of them failed, for the name of each entry
  pub faults : List ℕ
  -- how many failed for names that are not held
  pub other_faults : ℕ

-- the texts by their names; where a name stands twice, the first text
abbrev pub held : ShelfState → Texts
held s = from_entries s.entries

-- the place of the first entry with a name
abbrev pub place : ShelfState → List ℕ → Option ℕ
place s name = position (λ entry. bytes_eq name entry.0) s.entries

-- how many calls for a name failed; all names that are not held share one count
abbrev pub fault_count : ShelfState → List ℕ → ℕ
fault_count s name = option_map_or (slice_index s.faults) (place s name) s.other_faults

-- the shelf after one more call
abbrev pub with_call : ShelfState → ShelfState
with_call s = record s { calls = one_more s.calls }

-- the shelf after one more fault of the entry at a place, or of the names that are not held
abbrev pub with_fault : ShelfState → Option ℕ → ShelfState
with_fault s (Some i) = record s { faults = slice_set s.faults i (one_more (slice_index s.faults i)) }
with_fault s None = record s { other_faults = one_more s.other_faults }
