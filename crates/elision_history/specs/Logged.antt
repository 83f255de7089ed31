-- The history that the log of a serial elision tells.
use Rattle.std.specs.Prelude.{ℕ, Option, Some, None, List, [], ◌∷◌}
use Rattle.std.specs.List.{filter_map}
use Rattle.cilk_meaning.specs.Resolved.{Program}
use Rattle.cilk_meaning.specs.World as world
use Rattle.cilk_meaning.specs.World.{Event, Acts, Ticks, End, events_of}
use Rattle.span_tree.specs.declared.act.Act.{Act}
use Rattle.span_tree.specs.declared.act.Act.TheVariants.{Read, Write, Add, Print, Spawn, Sync}
use Rattle.span_tree.specs.History.{History}
use Rattle.span_tree.specs.Recording.{first_history, with_act, with_child}

-- the act of a history that an act of a log is
abbrev pub act_of : world.Act → Act
act_of (world.Read word value) = Read word value
act_of (world.Write word value) = Write word value
act_of (world.Add word old addend) = Add word old addend
act_of (world.Print value) = Print value
act_of (world.Spawn child procedure arguments) = Spawn child
act_of world.Sync = Sync

-- The history after one event more: the act is added to its row, and a spawn brings the child's row.
abbrev pub after_act : ℕ → world.Act → History → History
after_act row (world.Read word value) history = with_act row (Read word value) history
after_act row (world.Write word value) history = with_act row (Write word value) history
after_act row (world.Add word old addend) history = with_act row (Add word old addend) history
after_act row (world.Print value) history = with_act row (Print value) history
after_act row (world.Spawn child procedure arguments) history = with_child row procedure arguments history
after_act row world.Sync history = with_act row Sync history

-- a plain call or a test of a loop is no act
abbrev pub after_event : Event → History → History
after_event (Acts row act) history = after_act row act history
after_event (Ticks row) history = history

-- the history of a log, whose latest event comes first
abbrev pub logged : ℕ → List Event → History
logged main [] = first_history main
logged main (event ∷ log) = after_event event (logged main log)

-- the history of an elision of the program
abbrev pub history_of : Program → End → History
history_of program end = logged program.main end.world.log

abbrev pub act_in : Event → Option Act
act_in (Acts row act) = Some (act_of act)
act_in (Ticks row) = None

-- the acts of an elision in the order in which they were made
abbrev pub acts_made : End → List Act
acts_made end = filter_map act_in (events_of end)

abbrev pub row_in : Event → Option ℕ
row_in (Acts row act) = Some row
row_in (Ticks row) = None

-- the rows that made them
abbrev pub rows_made : End → List ℕ
rows_made end = filter_map row_in (events_of end)
