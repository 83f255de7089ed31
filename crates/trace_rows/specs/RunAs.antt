-- The rows of a history run what the frames of an execution run.
use Rattle.std.specs.Prelude.{◌≡◌, ℕ, ◌<◌, List, Some, length, slice_get}
use Rattle.backer_order.specs.Log.{main_id}
use Rattle.cluster_rules.specs.Histories.{row_number}
use Rattle.determinacy.specs.Replies.{Trace}
use Rattle.page_messages.specs.declared.closure.FrameId.{FrameId}
use Rattle.span_tree.specs.History.{History, row_at}

-- A row has the procedure and the arguments of its frame, and `main` has a row.
pub record RunAs (trace : Trace) (frames : List FrameId) (history : History) : Type 0 where
  pub main_there : row_number frames main_id < length frames
  pub procedure : (row : ℕ) (frame : FrameId) → slice_get frames row ≡ Some frame → (row_at history row).proc ≡ (trace.instance frame).procedure
  pub arguments : (row : ℕ) (frame : FrameId) → slice_get frames row ≡ Some frame → (row_at history row).args ≡ (trace.instance frame).arguments
