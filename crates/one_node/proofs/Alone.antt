-- A run depth first on one node is the elision, races or not: it goes in step with it, and ends where it does.
use Rattle.std.proofs.Common.{◌≡◌, ℕ, zero, suc, ◌<◌, ◌≤◌, inl, inr, ℤ, true, Some, refl, sym, ◌∙◌, ap, subst, arith}
use Rattle.backer_order.proofs.Search.{Less3, Same3, More3, compare}
use Rattle.backer_order.specs.Log.{main_id, SharedMemory}
use Rattle.cilk_meaning.specs.declared.ends.NodeEnd.{NodeEnd}
use Rattle.cilk_meaning.specs.declared.ends.NodeEnd.TheVariants.{Finished, Trapped, Budget}
use Rattle.cilk_meaning.specs.declared.ends.TrapKind.{TrapKind}
use Rattle.cilk_meaning.specs.Wants.{Request, Asks, Returns, Traps}
use Rattle.determinacy.proofs.Counting.{count_yes, count_no, count_zero}
use Rattle.one_node.proofs.Home as home
use Rattle.determinacy.proofs.Items.{actor}
use Rattle.one_node.proofs.Lasts.{last_one}
use Rattle.one_node.proofs.Lockstep as lockstep
use Rattle.one_node.proofs.Lockstep.{Lock}
use Rattle.determinacy.proofs.Matches as matches
use Rattle.determinacy.proofs.Matches.{Two, Is}
use Rattle.determinacy.proofs.Rows.{either_bool}
use Rattle.one_node.proofs.Stacks.{tops_pair, top_none, none_top, on_live, nothing_live}
use Rattle.determinacy.proofs.Told as told
use Rattle.one_node.specs.Alone.{Within, EndsAs, OneNode, Elision, AloneSerial}
use Rattle.one_node.specs.Deep.{live, IsTop, Deep}
use Rattle.determinacy.specs.Ending.{is_item, all_ticks, ItsRow, OneHistory}
use Rattle.determinacy.specs.Replies.{Trace, by, want_at, Answers, Born}
use Rattle.determinacy.specs.Serial.{SerialReads}
use Rattle.page_messages.specs.declared.closure.FrameId.{FrameId}
use Rattle.span_tree.specs.Program.{Starts}

trap_request : (kind : TrapKind) (request : Request) → Some (Traps kind) ≡ Some (Asks request) → ⊥
trap_request kind request is = cc

one_trap : (kind other : TrapKind) → Some (Traps kind) ≡ Some (Traps other) → kind ≡ other
one_trap kind other is = cc

-- Two executions depth first whose reads go by position, of which the other is a list of items that ends.
pub record Race : Type 0 where
  pub two : Two
  pub memory : SharedMemory
  pub deep : Deep two.starts two.run
  pub deep_there : Deep two.starts two.serial
  pub reads : SerialReads two.run.events memory
  pub reads_there : SerialReads two.serial.events memory
  pub budget : ℕ
  pub finish : ℕ
  pub within : Within two.run budget
  pub within_there : Within two.serial budget
  pub items : (at : ℕ) → at < finish → is_item (two.serial.events at) ≡ true

module _ (race : Race) where
  abbrev Locks : ℕ → ℕ → Type 0
  Locks now place = Lock race.two race.memory now place

  abbrev Ends : ℕ → NodeEnd → Type 0
  Ends now end = EndsAs race.two.starts race.two.run race.budget now end

  abbrev EndsThere : ℕ → NodeEnd → Type 0
  EndsThere place end = EndsAs race.two.starts race.two.serial race.budget place end

  abbrev Top : ℕ → FrameId → Type 0
  Top now frame = IsTop race.two.starts race.two.run now frame

  abbrev TopThere : ℕ → FrameId → Type 0
  TopThere place row = IsTop race.two.starts race.two.serial place row

  all_items : (place : ℕ) → place ≤ race.finish → all_ticks race.two.serial.events place ≡ place
  all_items zero inside = count_zero (λ i. is_item (race.two.serial.events i))
  all_items (suc place) inside =
      count_yes (λ i. is_item (race.two.serial.events i)) place (race.items place (omega arith)) ∙ ap suc (all_items place (omega arith))

  -- both tops want the same
  tops_alike : (now place : ℕ) (frame row : FrameId) → Locks now place → Top now frame → TopThere place row →
      want_at race.two.starts race.two.run now frame ≡ want_at race.two.starts race.two.serial place row
  tops_alike now place frame row lock top top_there =
      lockstep.lock_want race.two race.memory now place frame row lock (on_live race.two.starts race.two.run now frame top)
      (tops_pair (Is race.two) (live race.two.starts race.two.run now) (live race.two.starts race.two.serial place) frame row top.0 top_there.0
      (lockstep.lives race.two race.memory now place lock) top.1 top_there.1)

  -- where the other has no frame left there is no top, and the other way round
  no_top : (now place : ℕ) (frame : FrameId) (value : ℤ) → Locks now place → Top now frame →
      want_at race.two.starts race.two.serial place main_id ≡ Some (Returns value) → ⊥
  no_top now place frame value lock top finished =
      top_none (Is race.two) (live race.two.starts race.two.run now) (live race.two.starts race.two.serial place) frame top.0
      (lockstep.lives race.two race.memory now place lock) top.1
      (nothing_live race.two.starts race.two.main race.two.serial race.two.serial_obeys place value finished)

  no_top_there : (now place : ℕ) (row : FrameId) (value : ℤ) → Locks now place → TopThere place row →
      want_at race.two.starts race.two.run now main_id ≡ Some (Returns value) → ⊥
  no_top_there now place row value lock top finished =
      none_top (Is race.two) (live race.two.starts race.two.run now) (live race.two.starts race.two.serial place) row top.0
      (lockstep.lives race.two race.memory now place lock)
      (nothing_live race.two.starts race.two.main race.two.run race.two.run_obeys now value finished) top.1

  -- an item of the run does not find the other at its end
  not_ended : (now : ℕ) (frame : FrameId) (end : NodeEnd) → EndsThere (race.finish) end → Locks now (race.finish) → by frame (race.two.run.events now) ≡ true →
      all_ticks race.two.run.events now ≡ race.finish → ⊥
  not_ended now frame Finished (value, finished) lock acts ticks = no_top now race.finish frame value lock (race.deep now frame acts) finished
  not_ended now frame (Trapped kind) (row, top, traps) lock acts ticks =
      told.no_trap race.two.run (race.two.run.events now) kind
      (subst (λ i. Answers race.two.run (race.two.run.events now) i) (tops_alike now race.finish frame row lock (race.deep now frame acts) top ∙
      traps) (race.two.run_obeys.wants now frame acts))
  not_ended now frame Budget (row, request, top, wants, full) lock acts ticks =
      let left = race.within now frame acts in let spent = all_items race.finish (omega arith) in omega (arith, full)

  -- nor is the run at its end where the other makes an item
  not_ended_there : (now place : ℕ) (row : FrameId) (end : NodeEnd) → Ends now end → Locks now place → by row (race.two.serial.events place) ≡ true →
      place < race.finish →
      all_ticks race.two.run.events now ≡ place → ⊥
  not_ended_there now place row Finished (value, finished) lock acts inside ticks =
      no_top_there now place row value lock (race.deep_there place row acts) finished
  not_ended_there now place row (Trapped kind) (frame, top, traps) lock acts inside ticks =
      told.no_trap race.two.serial (race.two.serial.events place) kind
      (subst (λ i. Answers race.two.serial (race.two.serial.events place) i)
      (sym (tops_alike now place frame row lock top (race.deep_there place row acts)) ∙ traps)
      (race.two.serial_obeys.wants place row acts))
  not_ended_there now place row Budget (frame, request, top, wants, full) lock acts inside ticks =
      let left = race.within_there place row acts in let spent = all_items place (omega arith) in omega (arith, full)

  -- the run at a position is the other behind as many items
  pub record Locked (now : ℕ) : Type 0 where
    pub inside : all_ticks race.two.run.events now ≤ race.finish
    pub lock : Locks now (all_ticks race.two.run.events now)

  item_locked : (end : NodeEnd) → EndsThere (race.finish) end → (now : ℕ) → Locked now → is_item (race.two.run.events now) ≡ true → Locked (suc now)
  item_locked end ends now locked is =
      let more = count_yes (λ i. is_item (race.two.run.events i)) now is in
      elim (compare (all_ticks race.two.run.events now) race.finish) [
        | More3 l ↦ absurd (omega (arith, locked.inside))
        | Same3 same ↦
            let acting = actor (race.two.run.events now) is in
            absurd (not_ended now acting.frame end ends (subst (λ i. Locks now i) same locked.lock) acting.acts same)
        | Less3 l ↦
            let its = lockstep.both race.two race.memory race.deep race.deep_there now (all_ticks race.two.run.events now) locked.lock is
            (race.items (all_ticks race.two.run.events now) l) in
            record {
              inside = omega arith;
              lock = subst (λ i. Locks (suc now) i) (sym more)
                  (lockstep.item race.two race.memory race.reads race.reads_there now (all_ticks race.two.run.events now) locked.lock its);
            }
      ]

  locked_step : (end : NodeEnd) → EndsThere (race.finish) end → (now : ℕ) → Locked now → Locked (suc now)
  locked_step end ends now locked = elim (either_bool (is_item (race.two.run.events now))) [
    | inl is ↦ item_locked end ends now locked is
    | inr none ↦
        let same = count_no (λ i. is_item (race.two.run.events i)) now none in
        record {
          inside = omega (arith, locked.inside);
          lock = subst (λ i. Locks (suc now) i) (sym same) (lockstep.other race.two race.memory now (all_ticks race.two.run.events now) locked.lock none);
        }
  ]

  pub locked : (end : NodeEnd) → EndsThere (race.finish) end → (now : ℕ) → Locked now
  locked end ends zero =
      let none = count_zero (λ i. is_item (race.two.run.events i)) in
      record { inside = omega arith; lock = subst (λ i. Locks 0 i) (sym none) (lockstep.start race.two race.memory) }
  locked end ends (suc now) = locked_step end ends now (locked end ends now)

  -- the end of the one is the end of the other
  pub reached : (end other : NodeEnd) → EndsThere (race.finish) end → (now : ℕ) → Ends now other → all_ticks race.two.run.events now ≡ race.finish
  reached end other ends now ends_here =
      let locked_now = locked end ends now in
      elim (compare (all_ticks race.two.run.events now) race.finish) [
        | Same3 same ↦ same
        | More3 l ↦ absurd (omega (arith, locked_now.inside))
        | Less3 l ↦
            let acting = actor (race.two.serial.events (all_ticks race.two.run.events now)) (race.items (all_ticks race.two.run.events now) l) in
            absurd (not_ended_there now (all_ticks race.two.run.events now) acting.frame other ends_here locked_now.lock acting.acts l refl)
      ]

  ends_alike : (now place : ℕ) → Locks now place → (here there : NodeEnd) → Ends now here → EndsThere place there → here ≡ there
  ends_alike now place lock Finished Finished here there = refl
  ends_alike now place lock Finished (Trapped kind) (value, finished) (row, top, traps) = absurd (no_top_there now place row value lock top finished)
  ends_alike now place lock Finished Budget (value, finished) (row, request, top, wants, full) = absurd (no_top_there now place row value lock top finished)
  ends_alike now place lock (Trapped kind) Finished (frame, top, traps) (value, finished) = absurd (no_top now place frame value lock top finished)
  ends_alike now place lock Budget Finished (frame, request, top, wants, full) (value, finished) = absurd (no_top now place frame value lock top finished)
  ends_alike now place lock (Trapped kind) (Trapped other) (frame, top, traps) (row, top_there, traps_there) =
      ap (λ i. Trapped i) (one_trap kind other (sym traps ∙ tops_alike now place frame row lock top top_there ∙ traps_there))
  ends_alike now place lock (Trapped kind) Budget (frame, top, traps) (row, request, top_there, wants, full) =
      absurd (trap_request kind request (sym traps ∙ tops_alike now place frame row lock top top_there ∙ wants))
  ends_alike now place lock Budget (Trapped kind) (frame, request, top, wants, full) (row, top_there, traps) =
      absurd (trap_request kind request (sym traps ∙ sym (tops_alike now place frame row lock top top_there) ∙ wants))
  ends_alike now place lock Budget Budget here there = refl

  lock_row : (now place : ℕ) → Locks now place → (frame : FrameId) → Born race.two.run.events now frame →
      ItsRow race.two.starts race.two.run race.two.serial now place frame
  lock_row now place lock frame born =
      let level = lock.level frame born in
      record {
        row = level.row;
        born = level.born;
        same = level.same;
        alike = level.alike;
        instance = matches.same_instance race.two frame level.row level.same;
      }

  lock_history : (now : ℕ) → Locks now (race.finish) → all_ticks race.two.run.events now ≡ race.finish →
      OneHistory race.two.starts race.two.run race.two.serial now (race.finish)
  lock_history now lock ticks = record {
    rows = lock_row now race.finish lock;
    frames = lock.frames;
    one_row = matches.one_row race.two;
    one_frame = matches.one_frame race.two;
    ticks = ticks ∙ sym (all_items race.finish (omega arith));
  }

abbrev race_of : (starts : Starts) (main : ℕ) (run serial : Trace) (memory : SharedMemory) (budget finish : ℕ) (end : NodeEnd) →
    OneNode starts main run memory budget →
    Elision starts main serial memory budget finish end → Race
race_of starts main run serial memory budget finish end alone elision = record {
  two = record { starts = starts; main = main; run = run; serial = serial; run_obeys = alone.obeys; serial_obeys = elision.obeys };
  memory = memory;
  deep = alone.deep;
  deep_there = elision.deep;
  reads = home.serial_reads run.events memory alone.caching alone.one;
  reads_there = elision.reads;
  budget = budget;
  finish = finish;
  within = alone.within;
  within_there = elision.within;
  items = elision.items;
}

pub alone_serial : AloneSerial
alone_serial starts main run serial memory budget now finish end other alone ends elision =
    let race = race_of starts main run serial memory budget finish end alone elision in
    let ticks = reached race end other elision.ends now ends in
    let lock = subst (λ i. Lock race.two memory now i) ticks ((locked race end elision.ends now).lock) in
    record {
      end_is = ends_alike race now finish lock other end ends elision.ends;
      ticks = ticks;
      history = lock_history race now lock ticks;
      word = λ word here there at_home last. last_one run.events memory word now here there
          (home.memory_at run.events memory alone.caching alone.one now word here at_home) (lock.word word there last);
    }
