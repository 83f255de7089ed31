-- The children of a block have targets of which none stands twice, by how the machine runs.
use Rattle.std.proofs.Common.{◌≡◌, ℕ, zero, suc, List, [], ◌∷◌, ◌++◌, take, Option, Some, None, refl, sym, ap, ◌∙◌, subst}
use Rattle.std.proofs.lemmas.Bool.{eqb-true, eqb-false}
use Rattle.std.specs.Prelude.{ℤ, pos, ◌==◌, Bool, true, false, ◌||◌, slice_get}
use Rattle.cilk_meaning.specs.Alone.{Block, block_after, block_of}
use Rattle.cilk_meaning.specs.Wants.{Request, Read, Write, Add, Print, Spawn, Sync, Call, LoopTurn, Want, Asks, Returns, Traps, Answer}
use Rattle.machine_code.specs.Early.{Event, Steps, Answered, Run, HasRun, TakesEarly, after_events, answered, awaits, goes_on_with, happens, resumed_with, start_run, stepped}
use Rattle.machine_code.specs.Machine.{Code, Frame, Move, GoesOn, Requests, Ends, Stuck}
use Rattle.machine_code.specs.Machine.{go_on, last_want, look, remaining, resumed, settle, settled, start_frame, starts, starts_at, want_and, wants_for}
use Rattle.machine_code.specs.declared.code.Proc.{Proc}
use Rattle.sync_order.specs.Orders.{AreApart}
use Rattle.sync_order.proofs.Moving.{Behaves, IsEnd, IsFree, look_behaves}

-- ---- one child more

or_parts : (a b : Bool) → a || b ≡ false → (a ≡ false) × (b ≡ false)
or_parts true b is = absurd cc
or_parts false b is = (refl, is)

other_way : (a b : ℕ) → (a == b) ≡ false → (b == a) ≡ false
other_way a b differs = either (b == a) refl
  where
    either : (same : Bool) → (b == a) ≡ same → (b == a) ≡ false
    either true is = absurd (eqb-false a b differs (sym (eqb-true b a is)))
    either false is = is

or_false : (a b : Bool) → a ≡ false → b ≡ false → a || b ≡ false
or_false true b is is' = is
or_false false b is is' = is'

awaits_neither : (block : Block) (target other : ℕ) → awaits target block ≡ false → (target == other) ≡ false → awaits target (block ++ Some other ∷ []) ≡ false
awaits_neither [] target other out differs = or_false (target == other) false differs refl
awaits_neither (None ∷ block) target other out differs = awaits_neither block target other out differs
awaits_neither (Some first ∷ block) target other out differs =
    let parts = or_parts (target == first) (awaits target block) out in
    or_false (target == first) (awaits target (block ++ Some other ∷ [])) parts.0 (awaits_neither block target other parts.1 differs)

awaits_nameless : (block : Block) (target : ℕ) → awaits target block ≡ false → awaits target (block ++ None ∷ []) ≡ false
awaits_nameless [] target out = refl
awaits_nameless (None ∷ block) target out = awaits_nameless block target out
awaits_nameless (Some first ∷ block) target out =
    let parts = or_parts (target == first) (awaits target block) out in
    or_false (target == first) (awaits target (block ++ None ∷ [])) parts.0 (awaits_nameless block target parts.1)

apart_nameless : (block : Block) → AreApart block → AreApart (block ++ None ∷ [])
apart_nameless [] apart = tt
apart_nameless (None ∷ block) apart = apart_nameless block apart
apart_nameless (Some first ∷ block) apart = (awaits_nameless block first apart.0, apart_nameless block apart.1)

apart_more : (block : Block) (target : ℕ) → AreApart block → awaits target block ≡ false → AreApart (block ++ Some target ∷ [])
apart_more [] target apart out = (refl, tt)
apart_more (None ∷ block) target apart out = apart_more block target apart out
apart_more (Some first ∷ block) target apart out =
    let parts = or_parts (target == first) (awaits target block) out in
    (awaits_neither block first target apart.0 (other_way target first parts.0), apart_more block target apart.1 parts.1)

-- ---- how a frame came to be

through : (code : Code) (event : Event) (events : List Event) (run next : Run) (mid : Option Run) →
    ((first : Run) → after_events code events first ≡ Some run → after_events code (events ++ event ∷ []) first ≡ Some next) →
    goes_on_with mid (after_events code events) ≡ Some run → goes_on_with mid (after_events code (events ++ event ∷ [])) ≡ Some next
through code event events run next None later comes = absurd cc
through code event events run next (Some mid) later comes = later mid comes

one_event : (code : Code) (event : Event) (events : List Event) (start run next : Run) → after_events code events start ≡ Some run
    → happens code event run ≡ Some next →
    after_events code (events ++ event ∷ []) start ≡ Some next
one_event code event [] start run next comes is =
    let same : start ≡ run = cc in
    ap (λ it. goes_on_with (happens code event it) (after_events code [])) same ∙ ap (λ it. goes_on_with it (after_events code [])) is
one_event code event (first ∷ events) start run next comes is =
    through code event events run next (happens code first start) (λ mid coming. one_event code event events mid run next coming is) comes

module _ (code : Code) (early : TakesEarly code) (depth procedure : ℕ) (arguments : List ℤ) where
  -- the frame came to be from the start of this procedure, and these are its children, whose targets are apart
  pub record Came (block : Block) (f : Frame) : Type 0 where
    pub events : List Event
    pub has_run : HasRun code depth procedure arguments events (record { frame = f; block = block })
    pub apart : AreApart block

  pub record IsMet (block : Block) (request : Request) (follows : Answer → Option Frame) : Type 0 where
    pub is_free : IsFree follows
    pub apart : AreApart (block_after request block)
    pub comes : (answer : Answer) (g : Frame) → follows answer ≡ Some g → Came (block_after request block) g

  abbrev pub Leads : Block → Move → Type 0
  Leads block (GoesOn f) = Unit {0}
  Leads block (Requests request follows) = IsMet block request follows
  Leads block (Ends want) = IsEnd want
  Leads block Stuck = Unit {0}

  one_more : (block next : Block) (f g : Frame) (event : Event) (came : Came block f) → AreApart next →
      happens code event (record { frame = f; block = block }) ≡ Some (record { frame = g; block = next }) → Came next g
  one_more block next f g event came apart is = record {
    events = came.events ++ event ∷ [];
    has_run = record {
      proc = came.has_run.proc;
      is = came.has_run.is;
      comes =
          one_event code event came.events (start_run came.has_run.proc arguments depth) (record { frame = f; block = block })
          (record { frame = g; block = next }) came.has_run.comes is;
    };
    apart = apart;
  }

  spawn_apart : (block : Block) (f : Frame) (came : Came block f) (target : Option ℕ) (child : ℕ) (given : List ℤ) (follows : Answer → Option Frame) →
      look code f ≡ Requests (Spawn target child given) follows → AreApart (block ++ target ∷ [])
  spawn_apart block f came None child given follows is = apart_nameless block came.apart
  spawn_apart block f came (Some target) child given follows is =
      apart_more block target came.apart
      (early.apart depth procedure arguments came.events (record { frame = f; block = block }) came.has_run target child given follows is)

  request_apart : (block : Block) (f : Frame) (came : Came block f) (request : Request) (follows : Answer → Option Frame) →
      look code f ≡ Requests request follows → AreApart (block_after request block)
  request_apart block f came (Spawn target child given) follows is = spawn_apart block f came target child given follows is
  request_apart block f came (Read word) follows is = came.apart
  request_apart block f came (Write word value) follows is = came.apart
  request_apart block f came (Add word addend) follows is = came.apart
  request_apart block f came (Print value) follows is = came.apart
  request_apart block f came Sync follows is = tt
  request_apart block f came Call follows is = came.apart
  request_apart block f came LoopTurn follows is = came.apart

  look_leads : (block : Block) (f : Frame) → Came block f → (move : Move) → look code f ≡ move → Leads block move
  look_leads block f came (GoesOn g) is = tt
  look_leads block f came (Requests request follows) is =
      let apart = request_apart block f came request follows is in
      record {
        is_free = subst Behaves is (look_behaves code f);
        apart = apart;
        comes = λ answer g led. one_more block (block_after request block) f g (Answered answer) came apart
            (ap (λ move. answered move answer block) is ∙ ap (λ frame. resumed_with frame (block_after request block)) led);
      }
  look_leads block f came (Ends want) is = subst Behaves is (look_behaves code f)
  look_leads block f came Stuck is = tt

  onward : (block : Block) (f : Frame) (came : Came block f) (next : Frame → Move) → ((g : Frame) → Came block g → Leads block (next g)) → (move : Move) →
      look code f ≡ move → Leads block (go_on move next)
  onward block f came next later (GoesOn g) is = later g (one_more block block f g Steps came came.apart (ap (λ move. stepped move block) is))
  onward block f came next later (Requests request follows) is = look_leads block f came (Requests request follows) is
  onward block f came next later (Ends want) is = look_leads block f came (Ends want) is
  onward block f came next later Stuck is = tt

  settle_leads : (n : ℕ) (block : Block) (f : Frame) → Came block f → Leads block (settle code n f)
  settle_leads zero block f came = tt
  settle_leads (suc n) block f came = onward block f came (settle code n) (λ g comes. settle_leads n block g comes) (look code f) refl

  pub settled_leads : (block : Block) (f : Frame) → Came block f → Leads block (settled code f)
  settled_leads block f came = settle_leads (suc (suc (remaining code f))) block f came

  pub came_first : (proc : Proc) → slice_get code.procs procedure ≡ Some proc → Came [] (start_frame proc arguments depth)
  came_first proc is = record { events = []; has_run = record { proc = proc; is = is; comes = refl }; apart = tt }

  -- ---- the blocks by its wants

  none_more : (block : Block) (count : ℕ) → AreApart block → AreApart (block_of block (take count []))
  none_more block zero apart = apart
  none_more block (suc count) apart = apart

  end_more : (block : Block) (count : ℕ) (want : Want) → IsEnd want → AreApart block → AreApart (block_of block (take (suc count) (want ∷ [])))
  end_more block count (Asks request) end apart = absurd end
  end_more block count (Returns value) end apart = none_more block count apart
  end_more block count (Traps kind) end apart = none_more block count apart

  last_apart : (block : Block) (count : ℕ) (move : Move) → AreApart block → Leads block move → AreApart (block_of block (take (suc count) (last_want move)))
  last_apart block count (GoesOn f) apart leads = apart
  last_apart block count (Requests request follows) apart leads = none_more (block_after request block) count leads.apart
  last_apart block count (Ends want) apart leads = end_more block count want leads apart
  last_apart block count Stuck apart leads = apart

  resumed_apart : (block : Block) (count : ℕ) (frame : Option Frame) (next : Frame → List Want) → AreApart block
      → ((g : Frame) → frame ≡ Some g → AreApart (block_of block (take count (next g)))) →
      AreApart (block_of block (take count (resumed frame next)))
  resumed_apart block count None next apart later = none_more block count apart
  resumed_apart block count (Some g) next apart later = later g refl

  want_apart : (block : Block) (count : ℕ) (move : Move) (answer : Answer) (next : Frame → List Want) → AreApart block → Leads block move →
      ((after : Block) (g : Frame) → Came after g → AreApart (block_of after (take count (next g))))
      → AreApart (block_of block (take (suc count) (want_and move answer next)))
  want_apart block count (GoesOn f) answer next apart leads later = apart
  want_apart block count (Requests request follows) answer next apart leads later =
      resumed_apart (block_after request block) count (follows answer) next leads.apart
      (λ g led. later (block_after request block) g (leads.comes answer g led))
  want_apart block count (Ends want) answer next apart leads later = end_more block count want leads apart
  want_apart block count Stuck answer next apart leads later = apart

  frame_apart : (answers : List Answer) (count : ℕ) (block : Block) (f : Frame) → Came block f
      → AreApart (block_of block (take count (wants_for code answers f)))
  frame_apart answers zero block f came = came.apart
  frame_apart [] (suc count) block f came = last_apart block count (settled code f) came.apart (settled_leads block f came)
  frame_apart (answer ∷ answers) (suc count) block f came =
      want_apart block count (settled code f) answer (wants_for code answers) came.apart (settled_leads block f came)
      (λ after g comes. frame_apart answers count after g comes)

  pub block_apart : (answers : List Answer) (count : ℕ) → AreApart (block_of [] (take count (starts code depth procedure arguments answers)))
  block_apart answers count = at_proc (slice_get code.procs procedure) refl
    where
      at_proc : (proc : Option Proc) → slice_get code.procs procedure ≡ proc → AreApart (block_of [] (take count (starts_at code depth proc arguments answers)))
      at_proc None is = no_proc count
        where
          no_proc : (count : ℕ) → AreApart (block_of [] (take count (Returns (pos 0) ∷ [])))
          no_proc zero = tt
          no_proc (suc count) = none_more [] count tt
      at_proc (Some proc) is = frame_apart answers count [] (start_frame proc arguments depth) (came_first proc is)
