-- How the frames and items of one execution correspond to those of another, whose frames are called rows, and its positions places.
use Rattle.std.specs.Prelude.{◌≡◌, ℕ, ◌≤◌, ℤ, true, Some, List, [], ◌∷◌}
use Rattle.backer_order.specs.Log.{main_id, Spawn, Acts}
use Rattle.cilk_meaning.specs.Wants.{Returns}
use Rattle.determinacy.specs.Replies.{Trace, by, children, replies, want_at, Born}
use Rattle.page_messages.specs.declared.closure.FrameId.{FrameId}
use Rattle.span_tree.specs.Program.{Starts}

-- Both are of `main`, or each is spawned by corresponding frames that were told the same.
pub data Same (starts : Starts) (run serial : Trace) : FrameId → FrameId → Type 0 where
  Mains : Same starts run serial main_id main_id
  Spawned : {child row : FrameId} → (at place node other : ℕ) (parent above : FrameId) → run.events at ≡ Acts node parent (Spawn child) →
      serial.events place ≡ Acts other above (Spawn row) → Same starts run serial parent above →
      replies starts run at parent ≡ replies starts serial place above → Same starts run serial child row

-- The item at one position is the one at the other execution's place.
pub record Match (starts : Starts) (run serial : Trace) (at place : ℕ) : Type 0 where
  pub frame : FrameId
  pub row : FrameId
  pub same : Same starts run serial frame row
  pub by_frame : by frame (run.events at) ≡ true
  pub by_row : by row (serial.events place) ≡ true
  pub alike : replies starts run at frame ≡ replies starts serial place row

-- two lists, pairwise
abbrev pub Pairs : (FrameId → FrameId → Type 0) → List FrameId → List FrameId → Type 0
Pairs Related [] [] = Unit {0}
Pairs Related [] (second ∷ seconds) = ⊥
Pairs Related (first ∷ firsts) [] = ⊥
Pairs Related (first ∷ firsts) (second ∷ seconds) = Related first second × Pairs Related firsts seconds

-- Before `now` the frame was told what a row of the other execution was told before this place, and has its children.
pub record Level (starts : Starts) (run serial : Trace) (now place : ℕ) (frame : FrameId) : Type 0 where
  pub row : FrameId
  pub same : Same starts run serial frame row
  pub born : Born serial.events place row
  pub alike : replies starts run now frame ≡ replies starts serial place row
  pub block : Pairs (Same starts run serial) (children run.events now frame) (children serial.events place row)

-- So before some place up to the end.
pub record Follows (starts : Starts) (run serial : Trace) (finish now : ℕ) (frame : FrameId) : Type 0 where
  pub place : ℕ
  pub inside : place ≤ finish
  pub level : Level starts run serial now place frame

abbrev pub AllFollow : Starts → Trace → Trace → ℕ → ℕ → Type 0
AllFollow starts run serial finish now = (frame : FrameId) → Born run.events now frame → Follows starts run serial finish now frame

-- every row has returned
abbrev pub Complete : Starts → Trace → ℕ → Type 0
Complete starts serial finish =
    (row : FrameId) → Born serial.events finish row → (value : ℤ) × (want_at starts serial finish row ≡ Some (Returns value))
