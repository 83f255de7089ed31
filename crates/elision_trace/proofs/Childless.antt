-- In a trace whose items answer what their frames want, what has returned has no children, where the program is parted.
use Rattle.std.proofs.Common.{◌≡◌, inl, inr, ℕ, zero, suc, ℤ, Bool, true, false, List, [], ◌∷◌, Some, refl, sym, ap, ◌∙◌, subst}
use Rattle.backer_order.specs.Edges.{IsOn}
use Rattle.backer_order.specs.Log.{Read, Write, Add, Print, Spawn, Sync, Event, Acts, Tick}
use Rattle.cilk_meaning.specs.Instance.{Limits, Meaning, wants_within}
use Rattle.cilk_meaning.specs.Parted.{IsParted}
use Rattle.cilk_meaning.specs.Resolved.{Program}
use Rattle.cilk_meaning.specs.Serve.{now, after}
use Rattle.cilk_meaning.specs.Wants as wanted
use Rattle.cilk_meaning.specs.Wants.{Request, Want, Asks, Returns, Deposit, Answer, suits}
use Rattle.cilk_meaning.proofs.Asks.{out_after}
use Rattle.determinacy.proofs.Rows.{either_bool, grew, still, block_grew, block_still, given}
use Rattle.determinacy.specs.Replies.{Trace, Reply, answer_of, by, children_after, children, reply_to, behind, state_of, replies, want_at, state_at, Answers}
use Rattle.elision_trace.proofs.Synced.{CleanAt, Clean, starts_clean}
use Rattle.page_messages.specs.declared.closure.FrameId.{FrameId}
use Rattle.span_tree.specs.Program.{Starts}

abbrev pub has_some : List FrameId → Bool
has_some [] = false
has_some (latest ∷ earlier) = true

asks_clean : (count : ℕ) (out : Bool) (goes : Meaning) (request : Request) (answer : Answer) → now goes ≡ Some (Asks request) → suits request answer ≡ true →
    Clean (suc count) out goes → Clean count (out_after request out) (after goes answer)
asks_clean count out goes request answer is good clean =
    let at : CleanAt (Clean count) (Some (Asks request)) out goes = subst (λ i. CleanAt (Clean count) i out goes) is clean in at answer good

item_clean : (trace : Trace) (event : Event) (count : ℕ) (frames : List FrameId) (goes : Meaning) (gave : List Deposit) → Answers trace event (now goes) →
    Clean (suc count) (has_some frames) goes → Clean count (has_some (children_after event frames)) (after goes (answer_of (reply_to event gave)))
unfolding children_after reply_to
item_clean trace (Acts node frame (Read word value)) count frames goes gave answers clean =
    asks_clean count (has_some frames) goes (wanted.Read word) (wanted.Value value) answers refl clean
item_clean trace (Acts node frame (Write word value)) count frames goes gave answers clean =
    asks_clean count (has_some frames) goes (wanted.Write word value) wanted.Done answers refl clean
item_clean trace (Acts node frame (Add word old addend)) count frames goes gave answers clean =
    asks_clean count (has_some frames) goes (wanted.Add word addend) (wanted.Value old) answers refl clean
item_clean trace (Acts node frame (Print value)) count frames goes gave answers clean =
    asks_clean count (has_some frames) goes (wanted.Print value) wanted.Done answers refl clean
item_clean trace (Acts node frame (Spawn child)) count frames goes gave answers clean =
    asks_clean count (has_some frames) goes (wanted.Spawn (trace.target child) (trace.instance child).procedure (trace.instance child).arguments) wanted.Done
    answers refl clean
item_clean trace (Acts node frame Sync) count frames goes gave answers clean =
    asks_clean count (has_some frames) goes wanted.Sync (wanted.Children gave) answers refl clean
item_clean trace (Tick node frame) count frames goes gave answers clean = elim answers [
  | inl call ↦ asks_clean count (has_some frames) goes wanted.Call wanted.Done call refl clean
  | inr turn ↦ asks_clean count (has_some frames) goes wanted.LoopTurn wanted.Done turn refl clean
]
item_clean trace event count frames goes gave answers clean = absurd answers

behind_more : (first : Meaning) (latest : Reply) (earlier : List Reply) → behind first (latest ∷ earlier) ≡ after (behind first earlier) (answer_of latest)
unfolding behind
behind_more first latest earlier = refl

pub first_state : (starts : Starts) (trace : Trace) (frame : FrameId) →
    state_at starts trace 0 frame ≡ starts (trace.instance frame).depth (trace.instance frame).procedure (trace.instance frame).arguments
unfolding behind replies
first_state starts trace frame = refl

pub first_block : (trace : Trace) (frame : FrameId) → children trace.events 0 frame ≡ []
unfolding children
first_block trace frame = refl

-- a frame's state behind an item of its own
pub state_grew : (starts : Starts) (trace : Trace) (at : ℕ) (frame : FrameId) → by frame (trace.events at) ≡ true →
    state_at starts trace (suc at) frame ≡ after (state_at starts trace at frame) (answer_of (reply_to (trace.events at) (given starts trace at frame)))
state_grew starts trace at frame is =
    ap (λ i. state_of starts (trace.instance frame) i) (grew starts trace at frame is)
    ∙ behind_more (starts (trace.instance frame).depth (trace.instance frame).procedure (trace.instance frame).arguments)
    (reply_to (trace.events at) (given starts trace at frame)) (replies starts trace at frame)

pub state_still : (starts : Starts) (trace : Trace) (at : ℕ) (frame : FrameId) → by frame (trace.events at) ≡ false →
    state_at starts trace (suc at) frame ≡ state_at starts trace at frame
state_still starts trace at frame quiet = ap (λ i. state_of starts (trace.instance frame) i) (still starts trace at frame quiet)

module _ (most : Limits) (program : Program) (parted : IsParted program) (trace : Trace)
    (wants : (at : ℕ) (frame : FrameId) → by frame (trace.events at) ≡ true
    → Answers trace (trace.events at) (want_at (wants_within most program) trace at frame)) where
  abbrev starts : Starts
  starts = wants_within most program

  abbrev IsClean : ℕ → FrameId → ℕ → Type 0
  IsClean count frame at = Clean count (has_some (children trace.events at frame)) (state_at starts trace at frame)

  all_clean : (at : ℕ) (frame : FrameId) (count : ℕ) → IsClean count frame at
  all_clean zero frame count =
      let first = starts_clean most program parted count (trace.instance frame).depth (trace.instance frame).procedure (trace.instance frame).arguments in
      let stated : Clean count false (state_at starts trace 0 frame) = subst (λ i. Clean count false i) (sym (first_state starts trace frame)) first in
      subst (λ i. Clean count (has_some i) (state_at starts trace 0 frame)) (sym (first_block trace frame)) stated
  all_clean (suc at) frame count = elim (either_bool (by frame (trace.events at))) [
    | inr quiet ↦
        let before : Clean count (has_some (children trace.events at frame)) (state_at starts trace at frame) = all_clean at frame count in
        let stated : Clean count (has_some (children trace.events at frame)) (state_at starts trace (suc at) frame) =
        subst (λ i. Clean count (has_some (children trace.events at frame)) i) (sym (state_still starts trace at frame quiet)) before in
        subst (λ i. Clean count (has_some i) (state_at starts trace (suc at) frame)) (sym (block_still trace at frame quiet)) stated
    | inl is ↦
        let behind = item_clean trace (trace.events at) count (children trace.events at frame) (state_at starts trace at frame) (given starts trace at frame)
        (wants at frame is) (all_clean at frame (suc count)) in
        let stated : Clean count (has_some (children_after (trace.events at) (children trace.events at frame))) (state_at starts trace (suc at) frame) =
        subst (λ i. Clean count (has_some (children_after (trace.events at) (children trace.events at frame))) i)
        (sym (state_grew starts trace at frame is)) behind in
        subst (λ i. Clean count (has_some i) (state_at starts trace (suc at) frame)) (sym (block_grew trace at frame is)) stated
  ]

  none_on : (frames : List FrameId) (child : FrameId) → has_some frames ≡ false → IsOn child frames → ⊥
  none_on [] child none on = on
  none_on (latest ∷ earlier) child none on = cc

  pub no_children : (at : ℕ) (frame child : FrameId) (value : ℤ) → want_at starts trace at frame ≡ Some (Returns value) →
      IsOn child (children trace.events at frame) → ⊥
  no_children at frame child value returns on =
      let clean : Clean 1 (has_some (children trace.events at frame)) (state_at starts trace at frame) = all_clean at frame 1 in
      let none : CleanAt (Clean 0) (Some (Returns value)) (has_some (children trace.events at frame)) (state_at starts trace at frame) =
      subst (λ i. CleanAt (Clean 0) i (has_some (children trace.events at frame)) (state_at starts trace at frame)) returns clean in
      none_on (children trace.events at frame) child none on
