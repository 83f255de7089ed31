-- What holds of each frame of a node, by its name and its join, through what the node's events make of its frames.
use Rattle.std.proofs.Common.{◌≡◌, ℕ, ℤ, ◌+◌, List, [], ◌∷◌, ◌++◌, Option, Some, None, Bool, true, false, cond, refl, arith}
use Rattle.cilk_meaning.specs.Wants.{Deposit, Answer}
use Rattle.page_messages.specs.declared.closure.FrameId.{FrameId}
use Rattle.page_messages.specs.declared.closure.JoinId.{JoinId}
use Rattle.cluster_rules.specs.Walking.{with_first}
use Rattle.cluster_rules.specs.Turns.{Past}
use Rattle.cluster_rules.specs.Node.{Node}
use Rattle.cluster_rules.specs.Lives.{Life, same_frame, returned, with_kept, live_from, live, added, answered}
use Rattle.cluster_rules.specs.Frames.{Parked, is_complete, all_joined, still_parked, joined}
use Rattle.cluster_rules.proofs.Marks.{Mark, one, many, named, marks, parked_marks}

abbrev pub Property : Type 1
Property = FrameId → Option JoinId → Type 0

abbrev pub EachLife : Property → List Life → Type 0
EachLife Holds [] = Unit {0}
EachLife Holds (life ∷ lives) = Holds life.id life.join × EachLife Holds lives

abbrev pub EachParked : (FrameId → Type 0) → List Parked → Type 0
EachParked Holds [] = Unit {0}
EachParked Holds (first ∷ parked) = Holds first.closure.id × EachParked Holds parked

pub each_append : (Holds : Property) (front back : List Life) → EachLife Holds front → EachLife Holds back → EachLife Holds (front ++ back)
each_append Holds [] back first second = second
each_append Holds (life ∷ front) back first second = (first.0, each_append Holds front back first.1 second)

pub each_parts : (Holds : Property) (front back : List Life) → EachLife Holds (front ++ back) → EachLife Holds front × EachLife Holds back
each_parts Holds [] back all = (tt, all)
each_parts Holds (life ∷ front) back all = let parts = each_parts Holds front back all.1 in ((all.0, parts.0), parts.1)

pub each_change : (Holds Also Then : Property) → ((id : FrameId) (join : Option JoinId) → Holds id join → Also id join → Then id join)
    → (lives : List Life) → EachLife Holds lives → EachLife Also lives → EachLife Then lives
each_change Holds Also Then change [] all also = tt
each_change Holds Also Then change (life ∷ lives) all also =
    (change life.id life.join all.0 also.0, each_change Holds Also Then change lives all.1 also.1)

pub each_always : (Holds : Property) → ((id : FrameId) (join : Option JoinId) → Holds id join) → (lives : List Life) → EachLife Holds lives
each_always Holds always [] = tt
each_always Holds always (life ∷ lives) = (always life.id life.join, each_always Holds always lives)

pub parked_append_each : (Holds : FrameId → Type 0) (front back : List Parked) → EachParked Holds front → EachParked Holds back
    → EachParked Holds (front ++ back)
parked_append_each Holds [] back first second = second
parked_append_each Holds (one ∷ front) back first second = (first.0, parked_append_each Holds front back first.1 second)

pub parked_change : (Holds Also Then : FrameId → Type 0) → ((id : FrameId) → Holds id → Also id → Then id)
    → (parked : List Parked) → EachParked Holds parked → EachParked Also parked → EachParked Then parked
parked_change Holds Also Then change [] all also = tt
parked_change Holds Also Then change (first ∷ parked) all also =
    (change first.closure.id all.0 also.0, parked_change Holds Also Then change parked all.1 also.1)

pub parked_always : (Holds : FrameId → Type 0) → ((id : FrameId) → Holds id) → (parked : List Parked) → EachParked Holds parked
parked_always Holds always [] = tt
parked_always Holds always (first ∷ parked) = (always first.closure.id, parked_always Holds always parked)

-- ---- stacks

live_on : (Holds : Property) (deposits : List Deposit) (life : Life) (below : List Life) (value : Option ℤ) → Holds life.id life.join → EachLife Holds below
    → ((given : List Deposit) → EachLife Holds (live_from given below))
    → EachLife Holds (elim value [ None ↦ with_kept deposits life ∷ below | Some it ↦ live_from ((life.spawned.target, it) ∷ []) below ])
live_on Holds deposits life below None here all rest = (here, all)
live_on Holds deposits life below (Some it) here all rest = rest ((life.spawned.target, it) ∷ [])

each_live_from : (Holds : Property) (deposits : List Deposit) (stack : List Life) → EachLife Holds stack → EachLife Holds (live_from deposits stack)
each_live_from Holds deposits [] all = tt
each_live_from Holds deposits (life ∷ below) all =
    live_on Holds deposits life below (returned life) all.0 all.1 (λ given. each_live_from Holds given below all.1)

pub each_live : (Holds : Property) (stack : List Life) → EachLife Holds stack → EachLife Holds (live stack)
each_live Holds stack all = each_live_from Holds [] stack all

pub each_answered : (Holds : Property) (answer : Answer) (stack : List Life) → EachLife Holds stack → EachLife Holds (with_first (answered answer) stack)
each_answered Holds answer [] all = tt
each_answered Holds answer (life ∷ below) all = all

pub each_added : (Holds : Property) (old : ℤ) (stack : List Life) → EachLife Holds stack → EachLife Holds (added old stack)
each_added Holds old [] all = tt
each_added Holds old (life ∷ below) all = all

-- ---- complete joins

joined_on : (Holds : Property) (node : Node) (past : Past) (first : Parked) (parked : List Parked) (b : Bool) → Holds first.closure.id None
    → EachLife Holds (all_joined node past parked)
    → EachLife Holds (cond b (joined node past first ∷ all_joined node past parked) (all_joined node past parked))
joined_on Holds node past first parked true here all = (here, all)
joined_on Holds node past first parked false here all = all

pub each_joined : (Holds : Property) (node : Node) (past : Past) (parked : List Parked) → EachParked (λ id. Holds id None) parked
    → EachLife Holds (all_joined node past parked)
each_joined Holds node past [] all = tt
each_joined Holds node past (first ∷ parked) all =
    joined_on Holds node past first parked (is_complete past first) all.0 (each_joined Holds node past parked all.1)

still_on : (Holds : FrameId → Type 0) (past : Past) (first : Parked) (parked : List Parked) (b : Bool) → Holds first.closure.id
    → EachParked Holds (still_parked past parked) → EachParked Holds (cond b (still_parked past parked) (first ∷ still_parked past parked))
still_on Holds past first parked true here all = all
still_on Holds past first parked false here all = (here, all)

pub each_still : (Holds : FrameId → Type 0) (past : Past) (parked : List Parked) → EachParked Holds parked → EachParked Holds (still_parked past parked)
each_still Holds past [] all = tt
each_still Holds past (first ∷ parked) all = still_on Holds past first parked (is_complete past first) all.0 (each_still Holds past parked all.1)

-- ---- counting

-- how often a frame is among them
abbrev pub count : FrameId → List Mark → ℕ
count frame marks = many (named frame) marks

one_none : (b : Bool) (rest : ℕ) → one b + rest ≡ 0 → (b ≡ false) × (rest ≡ 0)
one_none true rest none = absurd (omega (arith, none))
one_none false rest none = (refl, omega (arith, none))

-- where a frame is counted nowhere, each other one has another name
pub counted_none : (frame : FrameId) (lives : List Life) → count frame (marks lives) ≡ 0 → EachLife (λ id join. same_frame id frame ≡ false) lives
counted_none frame [] none = tt
counted_none frame (life ∷ lives) none =
    let both = one_none (same_frame life.id frame) (count frame (marks lives)) none in (both.0, counted_none frame lives both.1)

pub parked_none : (frame : FrameId) (parked : List Parked) → count frame (parked_marks parked) ≡ 0 → EachParked (λ id. same_frame id frame ≡ false) parked
parked_none frame [] none = tt
parked_none frame (first ∷ parked) none =
    let both = one_none (same_frame first.closure.id frame) (count frame (parked_marks parked)) none in (both.0, parked_none frame parked both.1)
