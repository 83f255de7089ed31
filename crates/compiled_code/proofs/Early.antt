-- A marked code takes values early.
use Rattle.std.proofs.Common.{◌≡◌, ℕ, suc, List, [], ◌∷◌, ◌++◌, Option, Some, None, refl, sym, ap, ◌∙◌, subst}
use Rattle.std.proofs.lemmas.Bool.{eqb-true}
use Rattle.std.specs.Prelude.{ℤ, ◌==◌, Bool, true, false, ◌||◌, if◌then◌else◌, drop}
use Rattle.cilk_meaning.specs.Alone.{Block}
use Rattle.cilk_meaning.specs.Wants as want
use Rattle.cilk_meaning.specs.Wants.{Request, Want, Asks, Deposit, Answer, Value, Children, Done}
use Rattle.machine_code.specs.Early.{own, own_callers, with_values, Event, Steps, Answered, Receives, Run, awaits, stepped, resumed_with, answered, goes_on_with, after_events, HasRun, at_sync, held, answers_in, TakesEarly}
use Rattle.machine_code.specs.Machine.{Code, Activation, Frame, Move, GoesOn, Requests, Ends, Stuck, look, wants_for, wants, start_frame, starts, starts_at, resumed}
use Rattle.machine_code.specs.Valid.{GoesForward}
use Rattle.machine_code.proofs.Steps.{goes_wants, requests_wants}
use Rattle.compiled_code.proofs.Lockstep.{deposited_more, with_more, mapped, shifted, StepWaits, PlainAnswer, SyncAnswer, FollowerWaits, InOwn, TargetWaits, look_waits, look_shift, values_at_sync}
use Rattle.compiled_code.specs.Safe.{Set}
use Rattle.compiled_code.proofs.Marks.{IsWithin, Targets, Marks, AreMarks, MayWait}

-- no early value, and more of them
none_own : (cs : List Activation) → own_callers [] cs ≡ cs
none_own [] = refl
none_own (c ∷ []) = refl
none_own (c ∷ d ∷ cs) = ap (λ l. c ∷ l) (none_own (d ∷ cs))

none_running : (f : Frame) (cs : List Activation) → record f { running = record f.running { locals = own [] cs f.running.locals }; callers = cs } ≡ record f { callers = cs }
none_running f [] = refl
none_running f (c ∷ cs) = refl

pub no_values : (f : Frame) → with_values [] f ≡ f
no_values f = ap (λ cs. record f { running = record f.running { locals = own [] f.callers f.running.locals }; callers = cs }) (none_own f.callers) ∙ none_running f f.callers

own_more : (ds more : List Deposit) (cs : List Activation) (l : List ℤ) → own more (own_callers ds cs) (own ds cs l) ≡ own (ds ++ more) cs l
own_more ds more [] l = sym (deposited_more ds more l)
own_more ds more (c ∷ cs) l = refl

callers_more : (ds more : List Deposit) (cs : List Activation) → own_callers more (own_callers ds cs) ≡ own_callers (ds ++ more) cs
callers_more ds more [] = refl
callers_more ds more (c ∷ cs) =
    ap (λ l. record c { locals = l } ∷ own_callers more (own_callers ds cs)) (own_more ds more cs c.locals)
    ∙ ap (λ l. record c { locals = own (ds ++ more) cs c.locals } ∷ l) (callers_more ds more cs)

pub more_values : (ds more : List Deposit) (f : Frame) → with_values more (with_values ds f) ≡ with_values (ds ++ more) f
more_values ds more f =
    ap (λ l. record f { running = record f.running { locals = l }; callers = own_callers more (own_callers ds f.callers) }) (own_more ds more f.callers f.running.locals)
    ∙ ap (λ cs. record f { running = record f.running { locals = own (ds ++ more) f.callers f.running.locals }; callers = cs }) (callers_more ds more f.callers)

-- the targets that a block waits for
abbrev waited : Block → Set
waited block target = awaits target block

-- one child more
or_assoc : (a b c : Bool) → a || (b || c) ≡ (a || b) || c
or_assoc true b c = refl
or_assoc false b c = refl

or_right : (a b : Bool) → b ≡ true → a || b ≡ true
or_right true b h = refl
or_right false b h = h

awaits_one_more : (t : ℕ) (block : Block) (target : Option ℕ) → awaits t (block ++ target ∷ []) ≡ awaits t block || awaits t (target ∷ [])
awaits_one_more t [] target = refl
awaits_one_more t (None ∷ block) target = awaits_one_more t block target
awaits_one_more t (Some k ∷ block) target =
    ap (λ b. (t == k) || b) (awaits_one_more t block target) ∙ or_assoc (t == k) (awaits t block) (awaits t (target ∷ []))

still_awaited : (block : Block) (target : Option ℕ) → IsWithin (waited block) (waited (block ++ target ∷ []))
still_awaited block target t h = awaits_one_more t block target ∙ ap (λ b. b || awaits t (target ∷ [])) h

within_longer : (block : Block) (target : Option ℕ) (set : Set) → IsWithin (waited block) set → ((k : ℕ) → target ≡ Some k → set k ≡ true) → IsWithin (waited (block ++ target ∷ [])) set
within_longer block target set h new t e = go target new (awaits t block) refl (sym (awaits_one_more t block target) ∙ e)
  where
    go : (target : Option ℕ) → ((k : ℕ) → target ≡ Some k → set k ≡ true) → (b : Bool) → awaits t block ≡ b → b || awaits t (target ∷ []) ≡ true → set t ≡ true
    go target new true is e = h t is
    go None new false is e = absurd cc
    go (Some k) new false is e = one (t == k) refl e
      where
        one : (b : Bool) → (t == k) ≡ b → b || false ≡ true → set t ≡ true
        one true same e = ap set (eqb-true t k same) ∙ new k refl
        one false same e = absurd cc

targets_within : (few many : Set) (ds : List Deposit) → IsWithin few many → Targets few ds → Targets many ds
targets_within few many [] h t = tt
targets_within few many (d ∷ ds) h t = ((λ k e. h k (t.0 k e)), targets_within few many ds h t.1)

targets_append : (set : Set) (ds more : List Deposit) → Targets set ds → Targets set more → Targets set (ds ++ more)
targets_append set [] more t u = u
targets_append set (d ∷ ds) more t u = (t.0, targets_append set ds more t.1 u)

module _ (code : Code) (forward : GoesForward code.instrs) (marks : Marks) (are : AreMarks code marks) where
  abbrev Waiting : Block → Frame → Type 0
  Waiting block f = MayWait marks (waited block) f.callers f.running.pc

  -- What became of a frame that had early values, seen without them: it wants what the first frame wants where they come at the sync.
  pub record Reached (f : Frame) (events : List Event) (kept : List Deposit) (run : Run) : Type 0 where
    pub bare : Frame
    pub later : List Deposit
    pub is : run.frame ≡ with_values later bare
    pub waiting : Waiting run.block bare
    pub targets : Targets (waited run.block) later
    pub wants_are : (answers : List Answer) → wants_for code (at_sync later answers) bare ≡ drop (answers_in events) (wants_for code (held kept events answers) f)

  abbrev Reaches : List Event → Type 0
  Reaches events = (f : Frame) (kept : List Deposit) (block : Block) (run : Run) → Waiting block f → Targets (waited block) kept →
      after_events code events (record { frame = with_values kept f; block = block }) ≡ Some run → Reached f events kept run

  nothing_is : {A : Type 0} {run : Run} → None ≡ Some run → A
  nothing_is {A} {run} e = absurd cc

  -- an event that answers nothing
  silently : (f g : Frame) (event : Event) (events : List Event) (kept more : List Deposit) (run : Run) → Reached g events more run → answers_in (event ∷ events) ≡ answers_in events →
      ((answers : List Answer) → wants_for code (held more events answers) g ≡ wants_for code (held kept (event ∷ events) answers) f) → Reached f (event ∷ events) kept run
  silently f g event events kept more run r n same = record {
    bare = r.bare;
    later = r.later;
    is = r.is;
    waiting = r.waiting;
    targets = r.targets;
    wants_are = λ answers. r.wants_are answers ∙ ap (λ l. drop (answers_in events) l) (same answers) ∙ ap (λ m. drop m (wants_for code (held kept (event ∷ events) answers) f)) (sym n);
  }

  -- an answer of a request that goes on
  answering : (f g : Frame) (request : Request) (k : Answer → Option Frame) (answer answer' : Answer) (events : List Event) (kept more : List Deposit) (run : Run) → look code f ≡ Requests request k → k answer' ≡ Some g →
      Reached g events more run → ((answers : List Answer) → held kept (Answered answer ∷ events) answers ≡ answer' ∷ held more events answers) → Reached f (Answered answer ∷ events) kept run
  answering f g request k answer answer' events kept more run e goes r same = record {
    bare = r.bare;
    later = r.later;
    is = r.is;
    waiting = r.waiting;
    targets = r.targets;
    wants_are = λ answers. r.wants_are answers
        ∙ ap (λ o. drop (suc (answers_in events)) (Asks request ∷ resumed o (wants_for code (held more events answers)))) (sym goes)
        ∙ ap (λ l. drop (suc (answers_in events)) l) (sym (requests_wants code f request k e (answer' ∷ held more events answers)))
        ∙ ap (λ l. drop (suc (answers_in events)) (wants_for code l f)) (sym (same answers));
  }

  -- a request that is no sync
  plainly : (events : List Event) → Reaches events → (f : Frame) (kept : List Deposit) (block block' : Block) (run : Run) (request : Request) (k : Answer → Option Frame) → look code f ≡ Requests request k →
      ((answer : Answer) → PlainAnswer code marks (waited block) answer (k answer)) → Targets (waited block') kept → ((answer : Answer) (g : Frame) → k answer ≡ Some g → Waiting block g → Waiting block' g) →
      (answer : Answer) → goes_on_with (resumed_with (mapped kept (k answer)) block') (after_events code events) ≡ Some run → Reached f (Answered answer ∷ events) kept run
  plainly events again f kept block block' run request k e plain targets longer (Value v) h = go (k (Value v)) refl (plain (Value v)) h
    where
      go : (o : Option Frame) → k (Value v) ≡ o → FollowerWaits code marks (waited block) o → goes_on_with (resumed_with (mapped kept o) block') (after_events code events) ≡ Some run → Reached f (Answered (Value v) ∷ events) kept run
      go None is w h = nothing_is h
      go (Some g) is w h = answering f g request k (Value v) (Value v) events kept kept run e is (again g kept block' run (longer (Value v) g is w) targets h) (λ answers. refl)
  plainly events again f kept block block' run request k e plain targets longer Done h = go (k Done) refl (plain Done) h
    where
      go : (o : Option Frame) → k Done ≡ o → FollowerWaits code marks (waited block) o → goes_on_with (resumed_with (mapped kept o) block') (after_events code events) ≡ Some run → Reached f (Answered Done ∷ events) kept run
      go None is w h = nothing_is h
      go (Some g) is w h = answering f g request k Done Done events kept kept run e is (again g kept block' run (longer Done g is w) targets h) (λ answers. refl)
  plainly events again f kept block block' run request k e plain targets longer (Children ds) h =
      nothing_is (ap (λ o. goes_on_with (resumed_with (mapped kept o) block') (after_events code events)) (sym (plain (Children ds))) ∙ h)

  -- a sync: what came early comes with its answer
  syncing : (events : List Event) → Reaches events → (f : Frame) (kept : List Deposit) (run : Run) (k : Answer → Option Frame) → look code f ≡ Requests want.Sync k →
      (block : Block) → ((answer : Answer) → SyncAnswer code marks (waited block) answer (k answer)) → (answer : Answer) →
      goes_on_with (resumed_with (k (with_more kept answer)) []) (after_events code events) ≡ Some run → Reached f (Answered answer ∷ events) kept run
  syncing events again f kept run k e block syncs (Value v) h = nothing_is (ap (λ o. goes_on_with (resumed_with o []) (after_events code events)) (sym (syncs (Value v))) ∙ h)
  syncing events again f kept run k e block syncs Done h = nothing_is (ap (λ o. goes_on_with (resumed_with o []) (after_events code events)) (sym (syncs Done)) ∙ h)
  syncing events again f kept run k e block syncs (Children ds) h = go (k (Children (kept ++ ds))) refl (syncs (Children (kept ++ ds))) h
    where
      alone : (g : Frame) (cs : List Activation) → cs ≡ [] → MayWait marks (waited []) cs g.running.pc
      alone g [] own = λ t h'. absurd cc
      alone g (c ∷ cs) own = absurd cc

      go : (o : Option Frame) → k (Children (kept ++ ds)) ≡ o → InOwn code marks (waited block) o → goes_on_with (resumed_with o []) (after_events code events) ≡ Some run → Reached f (Answered (Children ds) ∷ events) kept run
      go None is own h = nothing_is h
      go (Some g) is own h =
          answering f g want.Sync k (Children ds) (Children (kept ++ ds)) events kept [] run e is
          (again g [] [] run (alone g g.callers own) tt (ap (λ x. after_events code events (record { frame = x; block = [] })) (no_values g) ∙ h)) (λ answers. refl)

  -- fewer locals wait where more do
  fewer_wait : (few many : Set) (cs : List Activation) (pc : ℕ) → IsWithin few many → MayWait marks many cs pc → MayWait marks few cs pc
  fewer_wait few many [] pc h w = λ t e. w t (h t e)
  fewer_wait few many (c ∷ cs) pc h w = (w.0, fewer_wait few many cs c.pc h w.1)

  -- the target of a spawn waits from then on
  longer_waits : (block : Block) (target : Option ℕ) (g : Frame) → Waiting block g → TargetWaits code marks (waited block) target (Some g) → Waiting (block ++ target ∷ []) g
  longer_waits block None g w new =
      fewer_wait (waited (block ++ None ∷ [])) (waited block) g.callers g.running.pc (within_longer block None (waited block) (λ t e. e) (λ t e. absurd cc)) w
  longer_waits block (Some t) g w new = go g.callers new.0 w
    where
      go : (cs : List Activation) → cs ≡ [] → MayWait marks (waited block) cs g.running.pc → MayWait marks (waited (block ++ Some t ∷ [])) cs g.running.pc
      go [] own w = within_longer block (Some t) (marks.waiting g.running.pc) w (λ k e. subst (λ n. marks.waiting g.running.pc n ≡ true) (let same : t ≡ k = cc in same) new.1)
      go (c ∷ cs) own w = absurd cc

  answered_on : (events : List Event) → Reaches events → (f : Frame) (kept : List Deposit) (block : Block) (run : Run) → Targets (waited block) kept → (answer : Answer) (move : Move) → look code f ≡ move →
      StepWaits code marks (waited block) move → goes_on_with (answered (shifted kept move) answer block) (after_events code events) ≡ Some run → Reached f (Answered answer ∷ events) kept run
  answered_on events again f kept block run targets answer (GoesOn g) e w h = nothing_is h
  answered_on events again f kept block run targets answer (Ends want) e w h = nothing_is h
  answered_on events again f kept block run targets answer Stuck e w h = nothing_is h
  answered_on events again f kept block run targets answer (Requests want.Sync k) e w h = syncing events again f kept run k e block w answer h
  answered_on events again f kept block run targets answer (Requests (want.Read x) k) e w h = plainly events again f kept block block run (want.Read x) k e w targets (λ a g is w. w) answer h
  answered_on events again f kept block run targets answer (Requests (want.Write x v) k) e w h = plainly events again f kept block block run (want.Write x v) k e w targets (λ a g is w. w) answer h
  answered_on events again f kept block run targets answer (Requests (want.Add x v) k) e w h = plainly events again f kept block block run (want.Add x v) k e w targets (λ a g is w. w) answer h
  answered_on events again f kept block run targets answer (Requests (want.Print v) k) e w h = plainly events again f kept block block run (want.Print v) k e w targets (λ a g is w. w) answer h
  answered_on events again f kept block run targets answer (Requests (want.Spawn t p vs) k) e w h =
      plainly events again f kept block (block ++ t ∷ []) run (want.Spawn t p vs) k e w.0 (targets_within (waited block) (waited (block ++ t ∷ [])) kept (still_awaited block t) targets)
      (λ a g is w'. longer_waits block t g w' (subst (TargetWaits code marks (waited block) t) is (w.2 a))) answer h
  answered_on events again f kept block run targets answer (Requests want.Call k) e w h = plainly events again f kept block block run want.Call k e w targets (λ a g is w. w) answer h
  answered_on events again f kept block run targets answer (Requests want.LoopTurn k) e w h = plainly events again f kept block block run want.LoopTurn k e w targets (λ a g is w. w) answer h

  stepped_on : (events : List Event) → Reaches events → (f : Frame) (kept : List Deposit) (block : Block) (run : Run) → Targets (waited block) kept → (move : Move) → look code f ≡ move →
      StepWaits code marks (waited block) move → goes_on_with (stepped (shifted kept move) block) (after_events code events) ≡ Some run → Reached f (Steps ∷ events) kept run
  stepped_on events again f kept block run targets (GoesOn g) e w h =
      silently f g Steps events kept kept run (again g kept block run w targets h) refl (λ answers. sym (goes_wants code forward f g e (held kept events answers)))
  stepped_on events again f kept block run targets (Requests request k) e w h = nothing_is h
  stepped_on events again f kept block run targets (Ends want) e w h = nothing_is h
  stepped_on events again f kept block run targets Stuck e w h = nothing_is h

  reaches : (events : List Event) → Reaches events
  reaches [] f kept block run w targets h =
      let same : record { frame = with_values kept f; block = block } ≡ run = cc in
      record {
        bare = f;
        later = kept;
        is = ap (λ (r : Run). r.frame) (sym same);
        waiting = subst (λ (r : Run). Waiting r.block f) same w;
        targets = subst (λ (r : Run). Targets (waited r.block) kept) same targets;
        wants_are = λ answers. refl;
      }
  reaches (Steps ∷ events) f kept block run w targets h =
      stepped_on events (reaches events) f kept block run targets (look code f) refl (look_waits code marks (waited block) are f w)
      (ap (λ m. goes_on_with (stepped m block) (after_events code events)) (sym (look_shift code marks are (waited block) kept targets f w)) ∙ h)
  reaches (Answered answer ∷ events) f kept block run w targets h =
      answered_on events (reaches events) f kept block run targets answer (look code f) refl (look_waits code marks (waited block) are f w)
      (ap (λ m. goes_on_with (answered m answer block) (after_events code events)) (sym (look_shift code marks are (waited block) kept targets f w)) ∙ h)
  reaches (Receives t v ∷ events) f kept block run w targets h = receives (reaches events) (awaits t block) refl h
    where
      receives : Reaches events → (b : Bool) → awaits t block ≡ b →
          goes_on_with (if b then Some (record { frame = with_values ((Some t, v) ∷ []) (with_values kept f); block = block }) else None) (after_events code events) ≡ Some run → Reached f (Receives t v ∷ events) kept run
      receives again false is h = nothing_is h
      receives again true is h =
          silently f f (Receives t v) events kept (kept ++ (Some t, v) ∷ []) run
          (again f (kept ++ (Some t, v) ∷ []) block run w
          (targets_append (waited block) kept ((Some t, v) ∷ []) targets ((λ k e. subst (λ n. awaits n block ≡ true) (let same : t ≡ k = cc in same) is), tt))
          (ap (λ g. after_events code events (record { frame = g; block = block })) (sym (more_values kept ((Some t, v) ∷ []) f)) ∙ h))
          refl (λ answers. refl)

  -- what the frame wants that events made, and whom a spawn of it may not wait for
  pub reached_wants : (depth procedure : ℕ) (arguments : List ℤ) (events : List Event) (run : Run) → HasRun code depth procedure arguments events run →
      (answers : List Answer) → wants code run.frame answers ≡ drop (answers_in events) (starts code depth procedure arguments (held [] events answers))
  reached_wants depth procedure arguments events run has answers =
      let first = start_frame has.proc arguments depth in
      let r = reaches events first [] [] run (λ t e. absurd cc) tt (ap (λ f. after_events code events (record { frame = f; block = [] })) (no_values first) ∙ has.comes) in
      ap (λ f. wants_for code answers f) r.is ∙ values_at_sync code marks are (waited run.block) r.later r.targets answers r.bare r.waiting ∙ r.wants_are answers
      ∙ ap (λ o. drop (answers_in events) (starts_at code depth o arguments (held [] events answers))) (sym has.is)

  spawns_free : (block : Block) (later : List Deposit) (target child : ℕ) (given : List ℤ) (move : Move) → StepWaits code marks (waited block) move → (follows : Answer → Option Frame) →
      shifted later move ≡ Requests (want.Spawn (Some target) child given) follows → awaits target block ≡ false
  spawns_free block later target child given (GoesOn g) w follows e = absurd cc
  spawns_free block later target child given (Ends want) w follows e = absurd cc
  spawns_free block later target child given Stuck w follows e = absurd cc
  spawns_free block later target child given (Requests want.Sync k) w follows e = absurd cc
  spawns_free block later target child given (Requests (want.Read x) k) w follows e = absurd cc
  spawns_free block later target child given (Requests (want.Write x v) k) w follows e = absurd cc
  spawns_free block later target child given (Requests (want.Add x v) k) w follows e = absurd cc
  spawns_free block later target child given (Requests (want.Print v) k) w follows e = absurd cc
  spawns_free block later target child given (Requests want.Call k) w follows e = absurd cc
  spawns_free block later target child given (Requests want.LoopTurn k) w follows e = absurd cc
  spawns_free block later target child given (Requests (want.Spawn None p vs) k) w follows e = absurd cc
  spawns_free block later target child given (Requests (want.Spawn (Some t) p vs) k) w follows e =
      let same : t ≡ target = cc in
      subst (λ n. awaits n block ≡ false) same w.1

  pub takes_early : TakesEarly code
  takes_early = record {
    wants = reached_wants;
    apart = λ depth procedure arguments events run has target child given follows e.
        let first = start_frame has.proc arguments depth in
        let r = reaches events first [] [] run (λ t e. absurd cc) tt (ap (λ f. after_events code events (record { frame = f; block = [] })) (no_values first) ∙ has.comes) in
        spawns_free run.block r.later target child given (look code r.bare) (look_waits code marks (waited run.block) are r.bare r.waiting) follows
        (sym (look_shift code marks are (waited run.block) r.later r.targets r.bare r.waiting) ∙ ap (look code) (sym r.is) ∙ e);
  }
