-- What a turn of the run is to the service.
use Rattle.std.proofs.Common.{◌≡◌, ℕ, suc, ◌+◌, ◌*◌, ◌<◌, ◌≤◌, List, [], ◌∷◌, length, reverse, Option, Some, None, refl, sym, ap, ◌∙◌, subst, arith}
use Rattle.std.specs.Option.{option_map}
use Rattle.std.specs.Prelude.{ℤ, MatchOption}
use Rattle.cilk_meaning.specs.declared.ends.NodeEnd.{NodeEnd}
use Rattle.cilk_meaning.specs.declared.ends.NodeEnd.TheVariants.{Finished, Trapped, Budget}
use Rattle.cilk_meaning.specs.declared.ends.TrapKind.{TrapKind}
use Rattle.cilk_meaning.specs.Serve as service
use Rattle.cilk_meaning.specs.Serve.{State, now, serve, serve_request, serve_return, serve_want, served, with_child}
use Rattle.cilk_meaning.specs.Wants.{Request, Read, Write, Add, Print, Spawn, Sync, Call, LoopTurn, Want, Asks, Returns, Traps}
use Rattle.cilk_meaning.specs.World.{End}
use Rattle.machine_code.specs.Early.{TakesEarly}
use Rattle.machine_code.specs.Machine.{Code, Frame, starts, wants}
use Rattle.plain_machine.specs.Shown.{WantsNext, arguments_of, shown_want}
use Rattle.plain_machine.specs.Standing.{StandsIn}
use Rattle.plain_machine.specs.Stepping.{HasStepped}
use Rattle.plain_machine.specs.declared.want.Want as declared
use Rattle.plain_machine.specs.declared.want.Want.TheVariants as shown
use Rattle.machine_code.specs.Valid.{words_in}
use Rattle.serial_run.specs.Elision.{AreWords}
use Rattle.span_tree.specs.Recording.{Recorded}
use Rattle.serial_run.specs.Running.{AllWait, AreAbove, HasCome, IsStanding, Stands}
use Rattle.serial_run.specs.Serving.{EndsAs, GoesBack, IsDone, LeadsTo, Serves, meant_by}
use Rattle.serial_run.specs.declared.run.Run.{Run}
use Rattle.serial_run.proofs.Coming.{come_stepped, goes_stepped, goes_want}
use Rattle.serial_run.proofs.Standing.{parents_length}

-- ---- what a frame shows

meant_back : (want : Want) → meant_by (shown_want want) (arguments_of want) ≡ want
meant_back (Asks (Read word)) = refl
meant_back (Asks (Write word value)) = refl
meant_back (Asks (Add word addend)) = refl
meant_back (Asks (Print value)) = refl
meant_back (Asks (Spawn target procedure arguments)) = refl
meant_back (Asks Sync) = refl
meant_back (Asks Call) = refl
meant_back (Asks LoopTurn) = refl
meant_back (Returns value) = refl
meant_back (Traps kind) = refl

seen : (o : Option Want) (said : declared.Want) (arguments : List ℤ) → option_map shown_want o ≡ Some said → option_map arguments_of o ≡ Some arguments → o ≡ Some (meant_by said arguments)
seen None said arguments e h = absurd cc
seen (Some want) said arguments e h =
    let same : shown_want want ≡ said = cc in
    let same' : arguments_of want ≡ arguments = cc in
    ap Some (sym (meant_back want) ∙ ap (λ s. meant_by s (arguments_of want)) same ∙ ap (meant_by said) same')

-- the want that a frame tells of, when it has run on to it
pub wants_so : (code : Code) (frame next : Frame) (said : declared.Want) (arguments : List ℤ) → option_map shown_want (now (wants code frame)) ≡ Some said → option_map arguments_of (now (wants code frame)) ≡ Some arguments →
    wants code next ≡ wants code frame → WantsNext code next (meant_by said arguments)
wants_so code frame next said arguments e h same = ap now same ∙ seen (now (wants code frame)) said arguments e h

-- a want that ends nothing is a request
pub is_request : (said : declared.Want) (arguments : List ℤ) → ((value : ℤ) → said ≡ shown.Return value → ⊥) → ((kind : TrapKind) → said ≡ shown.Trap kind → ⊥) → (request : Request) × (meant_by said arguments ≡ Asks request)
is_request (shown.Read word) arguments h k = (Read word, refl)
is_request (shown.Write word value) arguments h k = (Write word value, refl)
is_request (shown.Add word addend) arguments h k = (Add word addend, refl)
is_request (shown.Print value) arguments h k = (Print value, refl)
is_request (shown.Spawn procedure target) arguments h k = (Spawn target procedure arguments, refl)
is_request shown.Sync arguments h k = (Sync, refl)
is_request shown.Call arguments h k = (Call, refl)
is_request shown.LoopTurn arguments h k = (LoopTurn, refl)
is_request (shown.Return value) arguments h k = absurd (h value refl)
is_request (shown.Trap kind) arguments h k = absurd (k kind refl)

-- ---- steps of the service

module _ (code : Code) (left : ℕ) (state : State) where
  asks_served : (request : Request) → now state.running.goes ≡ Some (Asks request) → serve (starts code) (suc left) state ≡ serve (starts code) left (served (starts code) request state)
  asks_served request e = ap (λ o. serve_want (serve_request (starts code) (suc left)) (serve_return (serve_request (starts code) (suc left)) state.waiting) o state) e

  pub spent_served : (request : Request) → now state.running.goes ≡ Some (Asks request) → serve (starts code) 0 state ≡ record { end = Budget; world = state.world }
  spent_served request e = ap (λ o. serve_want (serve_request (starts code) 0) (serve_return (serve_request (starts code) 0) state.waiting) o state) e

  pub trap_served : (kind : TrapKind) → now state.running.goes ≡ Some (Traps kind) → serve (starts code) left state ≡ record { end = Trapped kind; world = state.world }
  trap_served kind e = ap (λ o. serve_want (serve_request (starts code) left) (serve_return (serve_request (starts code) left) state.waiting) o state) e

  return_served : (value : ℤ) → now state.running.goes ≡ Some (Returns value) → serve (starts code) left state ≡ serve_return (serve_request (starts code) left) state.waiting value state.world
  return_served value e = ap (λ o. serve_want (serve_request (starts code) left) (serve_return (serve_request (starts code) left) state.waiting) o state) e

  back_served : (value : ℤ) (waiting : service.Parent) (others : List service.Parent) → state.waiting ≡ waiting ∷ others → now state.running.goes ≡ Some (Returns value) →
      serve (starts code) left state ≡ serve (starts code) left (record { running = with_child waiting value; waiting = others; world = state.world })
  back_served value waiting others is e = return_served value e ∙ ap (λ ps. serve_return (serve_request (starts code) left) ps value state.world) is

  done_served : (value : ℤ) → state.waiting ≡ [] → now state.running.goes ≡ Some (Returns value) → serve (starts code) left state ≡ record { end = Finished; world = state.world }
  done_served value is e = return_served value e ∙ ap (λ ps. serve_return (serve_request (starts code) left) ps value state.world) is

-- each request is one event more
one_event : (code : Code) (request : Request) (state : State) → length (served (starts code) request state).world.log ≡ suc (length state.world.log)
one_event code (Read word) state = refl
one_event code (Write word value) state = refl
one_event code (Add word addend) state = refl
one_event code (Print value) state = refl
one_event code (Spawn target procedure arguments) state = refl
one_event code Sync state = refl
one_event code Call state = refl
one_event code LoopTurn state = refl

one_waits : (code : Code) (request : Request) (state : State) → length (served (starts code) request state).waiting ≤ suc (length state.waiting)
one_waits code (Read word) state = omega arith
one_waits code (Write word value) state = omega arith
one_waits code (Add word addend) state = omega arith
one_waits code (Print value) state = omega arith
one_waits code (Spawn target procedure arguments) state = omega arith
one_waits code Sync state = omega arith
one_waits code Call state = omega arith
one_waits code LoopTurn state = omega arith

-- ---- a frame that ran on to its want

-- nothing changed but the frame, which ran on, and the ticks that are left
pub record RunsOn (code : Code) (old new : Run) : Type 0 where
  pub parents : new.parents.items ≡ old.parents.items
  pub recording : new.recording ≡ old.recording
  pub words : new.words.items ≡ old.words.items
  pub fine : StandsIn code new.frame.frame
  pub stepped : HasStepped code old.frame.frame new.frame.frame
  pub same : wants code new.frame.frame ≡ wants code old.frame.frame

pub stands_on : (code : Code) (old new : Run) → RunsOn code old new → (state : State) → Stands code old state → Stands code new state
stands_on code old new on state s = record {
  fine = on.fine;
  block = s.block;
  come = subst (λ items. HasCome code (length items) new.frame.frame s.block) (sym on.parents) (come_stepped code (length old.parents.items) old.frame.frame s.block s.come new.frame.frame on.stepped);
  goes = λ early. goes_stepped code old.frame.frame state.running (s.goes early) new.frame.frame on.same;
  waiting = subst (λ items. AllWait code (reverse items) state.waiting) (sym on.parents) s.waiting;
  row = ap (λ (r : Recorded). r.row) on.recording ∙ s.row;
  inside = subst (λ (r : Recorded). state.running.row < length r.history) (sym on.recording) s.inside;
  above = subst (λ (r : Recorded). AreAbove r.history state.running.row state.waiting) (sym on.recording) s.above;
  history = ap (λ (r : Recorded). r.history) on.recording ∙ s.history;
  rows = s.rows ∙ ap (λ (r : Recorded). length r.history) (sym on.recording);
  words = subst (λ items. AreWords (words_in code.shared) state.world.memory items) (sym on.words) s.words;
}

pub standing_on : (code : Code) (old new : Run) → RunsOn code old new → IsStanding code old → IsStanding code new
standing_on code old new on s = (s.0, stands_on code old new on s.0 s.1)

-- what an instance wants that a run stands for
pub running_wants : (code : Code) (run : Run) (state : State) → Stands code run state → TakesEarly code → (want : Want) → WantsNext code run.frame.frame want → now state.running.goes ≡ Some want
running_wants code run state s early want next = sym (goes_want code run.frame.frame state.running (s.goes early)) ∙ next

-- ---- turns

module _ (code : Code) (old mid new : Run) (on : RunsOn code old mid) where
  -- a return
  module _ (value : ℤ) (result : Option NodeEnd) (next : WantsNext code mid.frame.frame (Returns value)) (same : mid.left ≡ old.left) (left : new.left ≡ mid.left) where
    pub return_leads : ((state : State) → Stands code mid state → MatchOption result (GoesBack code state value new) (λ end. IsDone code state new end)) → (whole : End) (budget : ℕ) → LeadsTo code whole budget old →
        MatchOption result (LeadsTo code whole budget new) (λ end. EndsAs code whole budget end new)
    return_leads back whole budget leads = go result (back leads.state (stands_on code old mid on leads.state leads.stands))
      where
        wants_return : TakesEarly code → now leads.state.running.goes ≡ Some (Returns value)
        wants_return early = running_wants code mid leads.state (stands_on code old mid on leads.state leads.stands) early (Returns value) next

        go : (result : Option NodeEnd) → MatchOption result (GoesBack code leads.state value new) (λ end. IsDone code leads.state new end) →
            MatchOption result (LeadsTo code whole budget new) (λ end. EndsAs code whole budget end new)
        go None is = record {
          state = record { running = with_child is.waiting value; waiting = is.others; world = leads.state.world };
          stands = is.stands;
          ticks = let ticks = leads.ticks in omega (arith, ticks, same, left);
          serves = λ early.
              ap (λ n. serve (starts code) n (record { running = with_child is.waiting value; waiting = is.others; world = leads.state.world })) (left ∙ same)
              ∙ sym (back_served code old.left leads.state value is.waiting is.others is.is (wants_return early)) ∙ leads.serves early;
        }
        go (Some end) is = record {
          state = leads.state;
          stands = is.stands;
          ticks = let ticks = leads.ticks in omega (arith, ticks, same, left);
          ends = λ early.
              sym (leads.serves early) ∙ done_served code old.left leads.state value is.alone (wants_return early)
              ∙ ap (λ how. record { end = how; world = leads.state.world }) (sym is.finished);
        }

    pub return_nearer : ((state : State) → Stands code mid state → MatchOption result (GoesBack code state value new) (λ end. IsDone code state new end)) → IsStanding code old →
        MatchOption result (2 * new.left + length new.parents.items < 2 * old.left + length old.parents.items) (λ end. Unit {0})
    return_nearer back s = go result (back s.0 (stands_on code old mid on s.0 s.1))
      where
        go : (result : Option NodeEnd) → MatchOption result (GoesBack code s.0 value new) (λ end. IsDone code s.0 new end) →
            MatchOption result (2 * new.left + length new.parents.items < 2 * old.left + length old.parents.items) (λ end. Unit {0})
        go None is =
            let before = parents_length code old s.0 s.1 in
            let behind = parents_length code new _ is.stands in
            let more = ap length is.is in
            omega (arith, before, behind, more, same, left)
        go (Some end) is = tt

  -- an end that the wants of the frame and the ticks that are left make
  module _ (want : Want) (next : WantsNext code mid.frame.frame want) (same : mid.left ≡ old.left) where
    pub ends_so : (end : NodeEnd) → ((state : State) → now state.running.goes ≡ Some want → serve (starts code) old.left state ≡ record { end = end; world = state.world }) →
        (whole : End) (budget : ℕ) → LeadsTo code whole budget old → EndsAs code whole budget end mid
    ends_so end ends whole budget leads =
        let stands = stands_on code old mid on leads.state leads.stands in
        record {
          state = leads.state;
          stands = stands;
          ticks = let ticks = leads.ticks in omega (arith, ticks, same);
          ends = λ early. sym (leads.serves early) ∙ ends leads.state (running_wants code mid leads.state stands early want next);
        }

  -- a request that is served
  module _ (request : Request) (next : WantsNext code mid.frame.frame (Asks request)) (some : suc mid.left ≡ old.left) (serves : Serves code request mid new) where
    pub request_leads : (whole : End) (budget : ℕ) → LeadsTo code whole budget old → LeadsTo code whole budget new
    request_leads whole budget leads =
        let state = leads.state in
        let stands = stands_on code old mid on state leads.stands in
        record {
          state = served (starts code) request state;
          stands = serves.stands state stands;
          ticks = let ticks = leads.ticks in let one = one_event code request state in let left = serves.left in omega (arith, ticks, one, some, left);
          serves = λ early.
              ap (λ n. serve (starts code) n (served (starts code) request state)) serves.left
              ∙ sym (asks_served code mid.left state request (running_wants code mid state stands early (Asks request) next))
              ∙ ap (λ n. serve (starts code) n state) some ∙ leads.serves early;
        }

    pub request_nearer : IsStanding code old → 2 * new.left + length new.parents.items < 2 * old.left + length old.parents.items
    request_nearer s =
        let before = parents_length code old s.0 s.1 in
        let behind = parents_length code new (served (starts code) request s.0) (serves.stands s.0 (stands_on code old mid on s.0 s.1)) in
        let more = one_waits code request s.0 in
        let left = serves.left in
        omega (arith, before, behind, more, some, left)
