-- Two items that answer one want are of one kind.
use Rattle.std.proofs.Common.{◌≡◌, ℕ, inl, inr, ℤ, Option, refl, sym, subst}
use Rattle.backer_order.specs.Log.{Act, Read, Write, Add, Print, Spawn, Sync, Event, Acts, Tick}
use Rattle.cilk_meaning.specs.Wants as wanted
use Rattle.cilk_meaning.specs.Wants.{Want}
use Rattle.determinacy.proofs.Matches as matches
use Rattle.determinacy.proofs.Matches.{Two, Meets}
use Rattle.determinacy.proofs.Told as told
use Rattle.determinacy.specs.Replies.{Trace, want_at, Answers}
use Rattle.page_messages.specs.declared.closure.FrameId.{FrameId}

-- what a read gives, an add finds and a spawn names may differ
pub data Twins : Event → Event → Type 0 where
  Reads : (node other : ℕ) (frame row : FrameId) (word : ℕ) (here there : ℤ) → Twins (Acts node frame (Read word here)) (Acts other row (Read word there))
  Writes : (node other : ℕ) (frame row : FrameId) (word : ℕ) (value : ℤ) → Twins (Acts node frame (Write word value)) (Acts other row (Write word value))
  Adds : (node other : ℕ) (frame row : FrameId) (word : ℕ) (here there addend : ℤ) →
      Twins (Acts node frame (Add word here addend)) (Acts other row (Add word there addend))
  Prints : (node other : ℕ) (frame row : FrameId) (value : ℤ) → Twins (Acts node frame (Print value)) (Acts other row (Print value))
  Spawns : (node other : ℕ) (frame row child next : FrameId) → Twins (Acts node frame (Spawn child)) (Acts other row (Spawn next))
  Syncs : (node other : ℕ) (frame row : FrameId) → Twins (Acts node frame Sync) (Acts other row Sync)
  Ticks : (node other : ℕ) (frame row : FrameId) → Twins (Tick node frame) (Tick other row)

module _ (run serial : Trace) where
  pub twins : (event other : Event) (want : Option Want) → Answers run event want → Answers serial other want → Twins event other
  twins (Acts node frame (Read word value)) other want here there =
      let (node', row, value', is) = told.was_read serial other word (subst (λ i. Answers serial other i) here there) in
      subst (λ i. Twins (Acts node frame (Read word value)) i) (sym is) (Reads node node' frame row word value value')
  twins (Acts node frame (Write word value)) other want here there =
      let (node', row, is) = told.was_write serial other word value (subst (λ i. Answers serial other i) here there) in
      subst (λ i. Twins (Acts node frame (Write word value)) i) (sym is) (Writes node node' frame row word value)
  twins (Acts node frame (Add word old addend)) other want here there =
      let (node', row, old', is) = told.was_add serial other word addend (subst (λ i. Answers serial other i) here there) in
      subst (λ i. Twins (Acts node frame (Add word old addend)) i) (sym is) (Adds node node' frame row word old old' addend)
  twins (Acts node frame (Print value)) other want here there =
      let (node', row, is) = told.was_print serial other value (subst (λ i. Answers serial other i) here there) in
      subst (λ i. Twins (Acts node frame (Print value)) i) (sym is) (Prints node node' frame row value)
  twins (Acts node frame (Spawn child)) other want here there =
      let (node', row, next, is) = told.was_spawn serial other (run.target child) ((run.instance child).procedure) ((run.instance child).arguments)
      (subst (λ i. Answers serial other i) here there) in
      subst (λ i. Twins (Acts node frame (Spawn child)) i) (sym is) (Spawns node node' frame row child next)
  twins (Acts node frame Sync) other want here there =
      let (node', row, is) = told.was_sync serial other (subst (λ i. Answers serial other i) here there) in
      subst (λ i. Twins (Acts node frame Sync) i) (sym is) (Syncs node node' frame row)
  twins (Tick node frame) other want (inl call) there =
      let (node', row, is) = told.was_tick serial other wanted.Call (inl refl) (subst (λ i. Answers serial other i) call there) in
      subst (λ i. Twins (Tick node frame) i) (sym is) (Ticks node node' frame row)
  twins (Tick node frame) other want (inr turn) there =
      let (node', row, is) = told.was_tick serial other wanted.LoopTurn (inr refl) (subst (λ i. Answers serial other i) turn there) in
      subst (λ i. Twins (Tick node frame) i) (sym is) (Ticks node node' frame row)
  twins event other want here there = absurd here

pub twins_of : (two : Two) (at place : ℕ) → Meets two at place → Twins (two.run.events at) (two.serial.events place)
twins_of two at place match =
    twins two.run two.serial (two.run.events at) (two.serial.events place) (want_at two.starts two.serial place match.row)
    (matches.answers_there two at place match)
    (two.serial_obeys.wants place match.row match.by_row)

-- ---- what one of two twins says of the other

pub twin_act : (event other : Event) → Twins event other → (node : ℕ) (row : FrameId) (act : Act) → other ≡ Acts node row act →
    (here : ℕ) × (frame : FrameId) × (made : Act) × (event ≡ Acts here frame made)
twin_act event other (Reads here there frame actor word value next) node row act is = (here, frame, Read word value, refl)
twin_act event other (Writes here there frame actor word value) node row act is = (here, frame, Write word value, refl)
twin_act event other (Adds here there frame actor word value next addend) node row act is = (here, frame, Add word value addend, refl)
twin_act event other (Prints here there frame actor value) node row act is = (here, frame, Print value, refl)
twin_act event other (Spawns here there frame actor child next) node row act is = (here, frame, Spawn child, refl)
twin_act event other (Syncs here there frame actor) node row act is = (here, frame, Sync, refl)
twin_act event other (Ticks here there frame actor) node row act is = absurd cc

pub twin_sync : (event other : Event) → Twins event other → (node : ℕ) (row : FrameId) → other ≡ Acts node row Sync →
    (here : ℕ) × (frame : FrameId) × (event ≡ Acts here frame Sync)
twin_sync event other (Syncs here there frame actor) node row is = (here, frame, refl)
twin_sync event other (Reads here there frame actor word value next) node row is = absurd cc
twin_sync event other (Writes here there frame actor word value) node row is = absurd cc
twin_sync event other (Adds here there frame actor word value next addend) node row is = absurd cc
twin_sync event other (Prints here there frame actor value) node row is = absurd cc
twin_sync event other (Spawns here there frame actor child next) node row is = absurd cc
twin_sync event other (Ticks here there frame actor) node row is = absurd cc

pub twin_spawn : (event other : Event) → Twins event other → (node : ℕ) (row child : FrameId) → other ≡ Acts node row (Spawn child) →
    (here : ℕ) × (frame next : FrameId) × (event ≡ Acts here frame (Spawn next))
twin_spawn event other (Spawns here there frame actor child' next) node row child is = (here, frame, child', refl)
twin_spawn event other (Syncs here there frame actor) node row child is = absurd cc
twin_spawn event other (Reads here there frame actor word value next) node row child is = absurd cc
twin_spawn event other (Writes here there frame actor word value) node row child is = absurd cc
twin_spawn event other (Adds here there frame actor word value next addend) node row child is = absurd cc
twin_spawn event other (Prints here there frame actor value) node row child is = absurd cc
twin_spawn event other (Ticks here there frame actor) node row child is = absurd cc

pub twins_back : (event other : Event) → Twins event other → Twins other event
twins_back event other (Reads here there frame actor word value next) = Reads there here actor frame word next value
twins_back event other (Writes here there frame actor word value) = Writes there here actor frame word value
twins_back event other (Adds here there frame actor word value next addend) = Adds there here actor frame word next value addend
twins_back event other (Prints here there frame actor value) = Prints there here actor frame value
twins_back event other (Spawns here there frame actor child next) = Spawns there here actor frame next child
twins_back event other (Syncs here there frame actor) = Syncs there here actor frame
twins_back event other (Ticks here there frame actor) = Ticks there here actor frame
