-- Executions depth first: items are made by the top of one stack alone.
use Rattle.std.specs.Prelude.{◌≡◌, ℕ, zero, suc, Bool, true, false, cond, Option, Some, List, [], ◌∷◌}
use Rattle.backer_order.specs.Log.{main_id, Spawn, Event, Acts}
use Rattle.cilk_meaning.specs.Wants.{Want, Returns}
use Rattle.determinacy.specs.Ending.{is_item}
use Rattle.determinacy.specs.Replies.{Trace, by, want_at}
use Rattle.page_messages.specs.declared.closure.FrameId.{FrameId}
use Rattle.span_tree.specs.Program.{Starts}

-- the stack without the returned frames on top
unfoldable pub pop : (FrameId → Bool) → List FrameId → List FrameId
pop returned [] = []
pop returned (top ∷ below) = cond (returned top) (pop returned below) (top ∷ below)

-- the stack behind an item of its top: a child comes on top
unfoldable pub pushed : Event → List FrameId → List FrameId
pushed (Acts node frame (Spawn child)) stack = child ∷ stack
pushed _ stack = stack

unfoldable pub is_return : Option Want → Bool
is_return (Some (Returns value)) = true
is_return _ = false

abbrev pub returned : Starts → Trace → ℕ → FrameId → Bool
returned starts trace now frame = is_return (want_at starts trace now frame)

unfoldable pub stack : Starts → Trace → ℕ → List FrameId
stack starts trace zero = main_id ∷ []
stack starts trace (suc now) =
    cond (is_item (trace.events now)) (pushed (trace.events now) (pop (returned starts trace now) (stack starts trace now))) (stack starts trace now)

-- the stack from its highest frame that has not returned
abbrev pub live : Starts → Trace → ℕ → List FrameId
live starts trace now = pop (returned starts trace now) (stack starts trace now)

abbrev pub IsTop : Starts → Trace → ℕ → FrameId → Type 0
IsTop starts trace now frame = (below : List FrameId) × (live starts trace now ≡ frame ∷ below)

-- the highest frame that has not returned makes each item
abbrev pub Deep : Starts → Trace → Type 0
Deep starts trace = (at : ℕ) (frame : FrameId) → by frame (trace.events at) ≡ true → IsTop starts trace at frame
