-- What a serial run changes, and how it ends.
use Rattle.std.specs.Prelude.{ℕ, suc, ◌-◌, ◌==◌, nat_le, ℤ, pos, ◌+ℤ◌, if◌then◌else◌, Option, Some, None, List, [], ◌∷◌, length, reverse, slice_index_or}
use Rattle.std.specs.List.{filter_map}
use Rattle.cilk_meaning.specs.declared.ends.NodeEnd.{NodeEnd}
use Rattle.cilk_meaning.specs.Values.{fits}

-- An act of an instance: a read with the word's value, an add with its old one, a spawn with its child's row.
pub data Act : Type 0 where
  Read : (word : ℕ) (value : ℤ) → Act
  Write : (word : ℕ) (value : ℤ) → Act
  Add : (word : ℕ) (old : ℤ) (addend : ℤ) → Act
  Print : (value : ℤ) → Act
  Spawn : (child : ℕ) (procedure : ℕ) (arguments : List ℤ) → Act
  Sync : Act

-- What costs a tick: an act of a row, or a plain call or a test of a loop there. An instance's row is its number, in the order in
-- which they start; `main` has row 0.
pub data Event : Type 0 where
  Acts : (row : ℕ) (act : Act) → Event
  Ticks : (row : ℕ) → Event

-- the shared words, how many rows have begun, and all events so far, the latest first
pub record World : Type 0 where
  pub memory : ℕ → ℤ
  pub rows : ℕ
  pub log : List Event

-- before `main`: each shared word is its start word
abbrev pub first_world : (ℕ → ℤ) → World
first_world start = record { memory = start; rows = 1; log = [] }

-- an event more
abbrev pub with_event : Event → World → World
with_event event world = record { memory = world.memory; rows = world.rows; log = event ∷ world.log }

-- the shared words, where one holds this value
abbrev pub with_word : ℕ → ℤ → (ℕ → ℤ) → ℕ → ℤ
with_word word value memory other = if other == word then value else memory other

-- what an add leaves: the sum where it is a value, and else what was there
abbrev pub sum_or_old : ℤ → ℤ → ℤ
sum_or_old old addend = if fits (old +ℤ addend) then old +ℤ addend else old

-- What each request does to the world, in this row.
abbrev pub after_read : ℕ → ℕ → World → World
after_read row word world = with_event (Acts row (Read word (world.memory word))) world

abbrev pub after_write : ℕ → ℕ → ℤ → World → World
after_write row word value world =
    with_event (Acts row (Write word value)) (record { memory = with_word word value world.memory; rows = world.rows; log = world.log })

abbrev pub after_add : ℕ → ℕ → ℤ → World → World
after_add row word addend world =
    with_event (Acts row (Add word (world.memory word) addend))
    (record { memory = with_word word (sum_or_old (world.memory word) addend) world.memory; rows = world.rows; log = world.log })

abbrev pub after_print : ℕ → ℤ → World → World
after_print row value world = with_event (Acts row (Print value)) world

-- the child has the next row
abbrev pub after_spawn : ℕ → ℕ → List ℤ → World → World
after_spawn row procedure arguments world =
    with_event (Acts row (Spawn world.rows procedure arguments)) (record { memory = world.memory; rows = suc world.rows; log = world.log })

abbrev pub after_sync : ℕ → World → World
after_sync row world = with_event (Acts row Sync) world

abbrev pub after_tick : ℕ → World → World
after_tick row world = with_event (Ticks row) world

-- how a run ended, and the world then
pub record End : Type 0 where
  pub end : NodeEnd
  pub world : World

-- how many ticks were made
abbrev pub ticks_of : End → ℕ
ticks_of end = length end.world.log

-- the events in order
abbrev pub events_of : End → List Event
events_of end = reverse end.world.log

abbrev pub printed : Event → Option ℤ
printed (Acts row (Print value)) = Some value
printed _ = None

-- the values that were printed, in order
abbrev pub output_of : End → List ℤ
output_of end = filter_map printed (events_of end)

-- The start words of the shared words: the numbers of the input from its first word on, and 0 elsewhere.
abbrev pub start_words : ℕ → List ℤ → ℕ → ℤ
start_words input_base input word = if nat_le input_base word then slice_index_or input (word - input_base) (pos 0) else pos 0
