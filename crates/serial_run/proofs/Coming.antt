-- Frames that go as instances do: behind an answer, and behind a value that comes early.
use Rattle.std.proofs.Common.{◌≡◌, ℕ, suc, ◌≤◌, List, [], ◌∷◌, ◌++◌, append_assoc, length, drop, Option, Some, None, refl, sym, ap, ◌∙◌}
use Rattle.std.specs.Prelude.{ℤ, Bool, true, false, ◌||◌, ◌==◌, if◌then◌else◌, slice_get, replicate}
use Rattle.std.proofs.lemmas.Bool.{eq-eqb}
use Rattle.std.proofs.lemmas.List.{append-nil}
use Rattle.cilk_meaning.specs.Alone.{Block, block_after}
use Rattle.cilk_meaning.specs.Instance.{Meaning, limits}
use Rattle.cilk_meaning.specs.Serve.{Entry, answered, after, first_of, rest_of, now, with_child}
use Rattle.cilk_meaning.specs.Wants.{Request, Deposit, Answer, Value, Children, Done}
use Rattle.machine_code.specs.Early.{Event, Steps, Answered, Receives, Run, TakesEarly, after_events, answers_in, at_sync, awaits, goes_on_with, held, start_run, with_values}
use Rattle.machine_code.specs.Machine.{Code, Frame, start_frame, starts, wants}
use Rattle.machine_code.specs.Valid.{IsValid, params_of}
use Rattle.machine_code.specs.declared.code.Proc.{Proc}
use Rattle.plain_machine.specs.Lasting.{HasLasted}
use Rattle.plain_machine.specs.Stepping.{HasResumed, HasStepped}
use Rattle.serial_run.specs.Running.{GoesAs, HasCome, IsBlind, if_targeted, targeted}

-- ---- values at their sync

pub none_at_sync : (answers : List Answer) → at_sync [] answers ≡ answers
none_at_sync [] = refl
none_at_sync (Value v ∷ answers) = ap (λ l. Value v ∷ l) (none_at_sync answers)
none_at_sync (Done ∷ answers) = ap (λ l. Done ∷ l) (none_at_sync answers)
none_at_sync (Children more ∷ answers) = refl

pub more_at_sync : (kept more : List Deposit) (answers : List Answer) → at_sync (kept ++ more) answers ≡ at_sync kept (at_sync more answers)
more_at_sync kept more [] = refl
more_at_sync kept more (Value v ∷ answers) = ap (λ l. Value v ∷ l) (more_at_sync kept more answers)
more_at_sync kept more (Done ∷ answers) = ap (λ l. Done ∷ l) (more_at_sync kept more answers)
more_at_sync kept more (Children last ∷ answers) = ap (λ l. Children l ∷ answers) (append_assoc kept more last)

pub more_targeted : (kept : List Deposit) (target : Option ℕ) (value : ℤ) → targeted (kept ++ (target, value) ∷ []) ≡ targeted kept ++ if_targeted target value []
more_targeted [] target value = refl
more_targeted (first ∷ kept) target value = go first.0 (more_targeted kept target value)
  where
    go : (goal : Option ℕ) → targeted (kept ++ (target, value) ∷ []) ≡ targeted kept ++ if_targeted target value [] →
        if_targeted goal first.1 (targeted (kept ++ (target, value) ∷ [])) ≡ if_targeted goal first.1 (targeted kept) ++ if_targeted target value []
    go None e = e
    go (Some local) e = ap (λ l. (Some local, first.1) ∷ l) e

-- ---- events

goes_on : (o : Option Run) (f g : Run → Option Run) → ((run : Run) → f run ≡ g run) → goes_on_with o f ≡ goes_on_with o g
goes_on None f g e = refl
goes_on (Some run) f g e = e run

then_goes_on : (o : Option Run) (f g : Run → Option Run) → goes_on_with o (λ run. goes_on_with (f run) g) ≡ goes_on_with (goes_on_with o f) g
then_goes_on None f g = refl
then_goes_on (Some run) f g = refl

pub more_events : (code : Code) (events more : List Event) (run : Run) → after_events code (events ++ more) run ≡ goes_on_with (after_events code events run) (after_events code more)
more_events code [] more run = refl
more_events code (event ∷ events) more run =
    goes_on _ _ _ (λ next. more_events code events more next) ∙ then_goes_on _ (after_events code events) (after_events code more)

-- the events of a frame, and then some more
pub comes_on : (code : Code) (depth procedure : ℕ) (arguments : List ℤ) (events more : List Event) (run next : Run) → HasLasted code depth procedure arguments events run →
    after_events code more run ≡ Some next → HasLasted code depth procedure arguments (events ++ more) next
comes_on code depth procedure arguments events more run next h e = record {
  valid = h.valid;
  params = h.params;
  deep = h.deep;
  has_run = record {
    proc = h.has_run.proc;
    is = h.has_run.is;
    comes = more_events code events more (start_run h.has_run.proc arguments depth) ∙ ap (λ o. goes_on_with o (after_events code more)) h.has_run.comes ∙ e;
  };
}

module _ (code : Code) (depth : ℕ) (frame : Frame) (block : Block) (come : HasCome code depth frame block) where
  pub come_stepped : (next : Frame) → HasStepped code frame next → HasCome code depth next block
  come_stepped next steps = record {
    procedure = come.procedure;
    arguments = come.arguments;
    events = come.events ++ replicate steps.count Steps;
    lasted = comes_on code depth come.procedure come.arguments come.events (replicate steps.count Steps) _ _ come.lasted (steps.comes block);
  }

  pub come_resumed : (request : Request) (answer : Answer) (next : Frame) → HasResumed code request answer frame next → HasCome code depth next (block_after request block)
  come_resumed request answer next steps = record {
    procedure = come.procedure;
    arguments = come.arguments;
    events = come.events ++ (replicate steps.count Steps ++ Answered answer ∷ []);
    lasted = comes_on code depth come.procedure come.arguments come.events (replicate steps.count Steps ++ Answered answer ∷ []) _ _ come.lasted (steps.comes block);
  }

  pub resumed_procedure : (request : Request) (answer : Answer) (next : Frame) (steps : HasResumed code request answer frame next) → (come_resumed request answer next steps).procedure ≡ come.procedure
  unfolding come_resumed
  resumed_procedure request answer next steps = refl

or_true : (b c : Bool) → c ≡ true → (b || c) ≡ true
or_true true c e = refl
or_true false c e = e

-- a child that was spawned last is out
last_awaits : (target : ℕ) (block : Block) → awaits target (block ++ Some target ∷ []) ≡ true
last_awaits target [] = ap (λ b. b || false) (eq-eqb target target refl)
last_awaits target (None ∷ block) = last_awaits target block
last_awaits target (Some first ∷ block) = or_true (target == first) _ (last_awaits target block)

received : (code : Code) (target : ℕ) (value : ℤ) (frame : Frame) (block : Block) (b : Bool) → b ≡ true →
    goes_on_with (if b then Some (record { frame = with_values ((Some target, value) ∷ []) frame; block = block }) else None) (after_events code [])
    ≡ Some (record { frame = with_values ((Some target, value) ∷ []) frame; block = block })
received code target value frame block true e = refl
received code target value frame block false e = absurd cc

module _ (code : Code) (depth : ℕ) (frame : Frame) (block : Block) (target : ℕ) (value : ℤ) (come : HasCome code depth frame (block ++ Some target ∷ [])) where
  given_comes : after_events code (Receives target value ∷ []) (record { frame = frame; block = block ++ Some target ∷ [] }) ≡ Some (record { frame = with_values ((Some target, value) ∷ []) frame; block = block ++ Some target ∷ [] })
  given_comes = received code target value frame (block ++ Some target ∷ []) (awaits target (block ++ Some target ∷ [])) (last_awaits target block)

  given_lasted : HasLasted code depth come.procedure come.arguments (come.events ++ Receives target value ∷ []) (record { frame = with_values ((Some target, value) ∷ []) frame; block = block ++ Some target ∷ [] })
  given_lasted = comes_on code depth come.procedure come.arguments come.events (Receives target value ∷ []) _ _ come.lasted given_comes

  pub come_given : HasCome code depth (with_values ((Some target, value) ∷ []) frame) (block ++ Some target ∷ [])
  come_given = record { procedure = come.procedure; arguments = come.arguments; events = come.events ++ Receives target value ∷ []; lasted = given_lasted }

  held_more : (kept : List Deposit) (events : List Event) (answers : List Answer) →
      held kept (events ++ Receives target value ∷ []) answers ≡ held kept events (at_sync ((Some target, value) ∷ []) answers)
  held_more kept [] answers = more_at_sync kept ((Some target, value) ∷ []) answers
  held_more kept (Steps ∷ events) answers = held_more kept events answers
  held_more kept (Receives other v ∷ events) answers = held_more (kept ++ (Some other, v) ∷ []) events answers
  held_more kept (Answered (Value v) ∷ events) answers = ap (λ l. Value v ∷ l) (held_more kept events answers)
  held_more kept (Answered Done ∷ events) answers = ap (λ l. Done ∷ l) (held_more kept events answers)
  held_more kept (Answered (Children deposits) ∷ events) answers = ap (λ l. Children (kept ++ deposits) ∷ l) (held_more [] events answers)

  answers_more : (events : List Event) → answers_in (events ++ Receives target value ∷ []) ≡ answers_in events
  answers_more [] = refl
  answers_more (Steps ∷ events) = answers_more events
  answers_more (Receives other v ∷ events) = answers_more events
  answers_more (Answered answer ∷ events) = ap suc (answers_more events)

  -- A value that comes early is one that comes at the next sync.
  pub value_early : TakesEarly code → (answers : List Answer) → wants code (with_values ((Some target, value) ∷ []) frame) answers ≡ wants code frame (at_sync ((Some target, value) ∷ []) answers)
  value_early early answers =
      let goes = starts code depth come.procedure come.arguments in
      early.wants depth come.procedure come.arguments (come.events ++ Receives target value ∷ []) _ given_lasted.has_run answers
      ∙ ap (λ n. drop n (goes (held [] (come.events ++ Receives target value ∷ []) answers))) (answers_more come.events)
      ∙ ap (λ l. drop (answers_in come.events) (goes l)) (held_more [] come.events answers)
      ∙ sym (early.wants depth come.procedure come.arguments come.events _ come.lasted.has_run (at_sync ((Some target, value) ∷ []) answers))

  pub given_goes : TakesEarly code → (entry : Entry) → GoesAs code frame entry →
      GoesAs code (with_values ((Some target, value) ∷ []) frame) (with_child (record { entry = entry; target = Some target }) value)
  given_goes early entry goes = record {
    same = λ answers.
        value_early early answers ∙ goes.same (at_sync ((Some target, value) ∷ []) answers)
        ∙ ap entry.goes (sym (more_at_sync (targeted entry.kept) ((Some target, value) ∷ []) answers))
        ∙ ap (λ kept. entry.goes (at_sync kept answers)) (sym (more_targeted entry.kept (Some target) value));
    blind = goes.blind;
  }

-- ---- what an instance wants behind an answer

blind_after : (goes : Meaning) (answer : Answer) → IsBlind goes → IsBlind (after goes answer)
blind_after goes answer blind = record { same = λ front deposits back. ap rest_of (blind.same (answer ∷ front) deposits back) }

module _ (code : Code) (frame : Frame) (entry : Entry) (goes : GoesAs code frame entry) where
  pub goes_want : now (wants code frame) ≡ now entry.goes
  goes_want = ap first_of (goes.same [])

  pub goes_stepped : (next : Frame) → wants code next ≡ wants code frame → GoesAs code next entry
  goes_stepped next e = record { same = λ answers. ap (λ (w : Meaning). w answers) e ∙ goes.same answers; blind = goes.blind }

  pub goes_answered : (next : Frame) (answer : Answer) → wants code next ≡ after (wants code frame) answer →
      ((answers : List Answer) → at_sync (targeted entry.kept) (answer ∷ answers) ≡ answer ∷ at_sync (targeted entry.kept) answers) → GoesAs code next (answered answer entry.kept entry)
  goes_answered next answer e early = record {
    same = λ answers. ap (λ (w : Meaning). w answers) e ∙ ap rest_of (goes.same (answer ∷ answers)) ∙ ap (λ l. rest_of (entry.goes l)) (early answers);
    blind = blind_after entry.goes answer goes.blind;
  }

  pub goes_synced : (next : Frame) → wants code next ≡ after (wants code frame) (Children []) → GoesAs code next (answered (Children entry.kept) [] entry)
  goes_synced next e = record {
    same = λ answers.
        ap (λ (w : Meaning). w answers) e ∙ ap rest_of (goes.same (Children [] ∷ answers))
        ∙ ap (λ l. rest_of (entry.goes (Children l ∷ answers))) (append-nil (targeted entry.kept))
        ∙ ap rest_of (sym (goes.blind.same [] entry.kept answers))
        ∙ ap (λ l. rest_of (entry.goes (Children entry.kept ∷ l))) (sym (none_at_sync answers));
    blind = blind_after entry.goes (Children entry.kept) goes.blind;
  }

  -- a value that goes nowhere
  pub goes_on_alone : (value : ℤ) → GoesAs code frame (with_child (record { entry = entry; target = None }) value)
  goes_on_alone value = record {
    same = λ answers. goes.same answers ∙ ap (λ kept. entry.goes (at_sync kept answers)) (sym (more_targeted entry.kept None value ∙ append-nil (targeted entry.kept)));
    blind = goes.blind;
  }

-- a frame at the start of a procedure
pub goes_first : (code : Code) (frame : Frame) (depth procedure row : ℕ) (arguments : List ℤ) → IsBlind (starts code depth procedure arguments) → wants code frame ≡ starts code depth procedure arguments →
    GoesAs code frame (record { goes = starts code depth procedure arguments; row = row; kept = [] })
goes_first code frame depth procedure row arguments blind e = record {
  same = λ answers. ap (λ (w : Meaning). w answers) e ∙ ap (starts code depth procedure arguments) (sym (none_at_sync answers));
  blind = blind;
}

pub come_first : (code : Code) (depth procedure : ℕ) (proc : Proc) (arguments : List ℤ) → IsValid code → slice_get code.procs procedure ≡ Some proc → length arguments ≡ params_of (slice_get code.procs procedure) → depth ≤ limits.depth →
    HasCome code depth (start_frame proc arguments depth) []
come_first code depth procedure proc arguments valid is params deep = record {
  procedure = procedure;
  arguments = arguments;
  events = [];
  lasted = record { valid = valid; params = params; deep = deep; has_run = record { proc = proc; is = is; comes = refl } };
}
