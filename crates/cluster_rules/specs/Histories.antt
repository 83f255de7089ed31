-- The history of a log: one row for each frame that was made, with the acts of that frame in order.
use Rattle.std.specs.Prelude.{◌≡◌, if◌then◌else◌, ℕ, zero, suc, ℤ, Option, Some, None, List, [], ◌∷◌, ◌++◌, map}
use Rattle.std.specs.List.{filter_map}
use Rattle.std.specs.List.Sorted.{IsPermutation}
use Rattle.page_messages.specs.declared.closure.FrameId.{FrameId}
use Rattle.page_messages.specs.declared.log.LoggedAct.{LoggedAct}
use Rattle.page_messages.specs.declared.log.LoggedAct.TheVariants.{Read, Write, Print, Spawn, Sync}
use Rattle.page_messages.specs.declared.log.Item.{Item}
use Rattle.page_messages.specs.declared.log.Item.TheVariants as item
use Rattle.page_messages.specs.declared.log.Turn.{Turn}
use Rattle.span_tree.specs.History.{History, Row, IsNumbered}
use Rattle.span_tree.specs.declared.act.Act.{Act}
use Rattle.span_tree.specs.declared.act.Act.TheVariants as row_act
use Rattle.cluster_rules.specs.Walking.{given}
use Rattle.cluster_rules.specs.Lives.{same_frame, main_id}

-- all items of a log in order
abbrev pub items_of : List Turn → List Item
items_of [] = []
items_of (turn ∷ turns) = turn.items ++ items_of turns

-- the row of a frame, where these are the frames of the rows
abbrev pub row_number : List FrameId → FrameId → ℕ
row_number [] frame = zero
row_number (first ∷ frames) frame = if same_frame first frame then zero else suc (row_number frames frame)

abbrev pub act_of : List FrameId → LoggedAct → Act
act_of frames (Read word value) = row_act.Read word value
act_of frames (Write word value) = row_act.Write word value
act_of frames (Print value) = row_act.Print value
act_of frames (Spawn child procedure arguments) = row_act.Spawn (row_number frames child)
act_of frames Sync = row_act.Sync

-- The act of a frame that an item is, if it is one. A Served item is an Add of the frame that it names.
abbrev pub act_in : List FrameId → FrameId → Item → Option Act
act_in frames frame (item.Act other index act) = if same_frame other frame then Some (act_of frames act) else None
act_in frames frame (item.Served other index word old addend) = if same_frame other frame then Some (row_act.Add word old addend) else None
act_in frames frame _ = None

-- ---- births

-- the Spawn act that made a frame: its frame and index, and the frame's procedure and arguments
pub record Birth : Type 0 where
  pub child : FrameId
  pub parent : FrameId
  pub index : ℕ
  pub procedure : ℕ
  pub arguments : List ℤ

abbrev pub birth_by : FrameId → ℕ → LoggedAct → Option Birth
birth_by parent index (Spawn child procedure arguments) =
    Some (record { child = child; parent = parent; index = index; procedure = procedure; arguments = arguments })
birth_by parent index _ = None

abbrev pub birth_in : Item → Option Birth
birth_in (item.Act parent index act) = birth_by parent index act
birth_in _ = None

abbrev pub births_of : List Item → List Birth
births_of items = filter_map birth_in items

abbrev pub birth_of : FrameId → Birth → Option Birth
birth_of frame birth = if same_frame birth.child frame then Some birth else None

-- The frames that were made: `main`, and the child of each Spawn act.
abbrev pub frames_made : List Item → List FrameId
frames_made items = main_id ∷ map (λ birth. birth.child) (births_of items)

-- ---- rows

abbrev pub row_with : List FrameId → ℕ → Option Birth → List Act → Row
row_with frames main None acts = record { parent = None; proc = main; args = []; acts = acts }
row_with frames main (Some birth) acts =
    record { parent = Some (record { row = row_number frames birth.parent; act = birth.index }); proc = birth.procedure; args = birth.arguments; acts = acts }

abbrev pub row_of : List FrameId → ℕ → List Item → FrameId → Row
row_of frames main items frame = row_with frames main (given (birth_of frame) (births_of items)) (filter_map (act_in frames frame) items)

-- A history of the log, in which these are the frames of the rows: each frame that was made has one row, and rows are numbered in serial
-- order. `main` is this procedure.
pub record IsHistoryOf (main : ℕ) (log : List Turn) (frames : List FrameId) (history : History) : Type 0 where
  pub each_once : IsPermutation (frames_made (items_of log)) frames
  pub rows : history ≡ map (row_of frames main (items_of log)) frames
  pub numbered : IsNumbered history
