-- A frame stands in its code whatever happens to it.
use Rattle.std.proofs.Common.{◌≡◌, ℕ, zero, suc, ◌<◌, List, [], ◌∷◌, length, Option, Some, None, refl, sym, ap, ◌∙◌, subst, arith}
use Rattle.std.specs.Prelude.{ℤ, Bool, true, false, if◌then◌else◌}
use Rattle.cilk_meaning.specs.Alone.{Block, block_after}
use Rattle.cilk_meaning.specs.Serve.{now}
use Rattle.cilk_meaning.specs.Wants.{Request, Spawn, Asks, Answer, Deposit}
use Rattle.machine_code.specs.Early.{Event, Steps, Answered, Receives, Run, after_events, answered, awaits, goes_on_with, happens, own, own_callers, resumed_with, start_run, stepped, with_values}
use Rattle.machine_code.specs.Machine.{Code, Activation, Frame, Move, GoesOn, Requests, Ends, Stuck, look}
use Rattle.machine_code.specs.Valid.{params_of}
use Rattle.machine_code.proofs.Steps.{goes_same}
use Rattle.plain_machine.specs.Lasting.{HasLasted, Lasts, locals_of}
use Rattle.plain_machine.specs.Shown.{WantsNext}
use Rattle.plain_machine.specs.Standing.{StandsIn, own_locals, own_locals_of}
use Rattle.plain_machine.specs.Starting.{CanStart, IsTarget}
use Rattle.plain_machine.proofs.Depositing.{own_length, values_stand}
use Rattle.plain_machine.proofs.Finding.{IsEnd, Keeps, ends_so, first_length, goes_keeps, leading, not_stuck}
use Rattle.plain_machine.proofs.Going.{comes_down, ends_next, rank, requests_next}
use Rattle.plain_machine.proofs.Wanting.{start_stands}

values_own : (deposits : List Deposit) (running : Activation) (callers : List Activation) →
    length (own_locals_of (record running { locals = own deposits callers running.locals }) (own_callers deposits callers)) ≡ length (own_locals_of running callers)
values_own deposits running [] = own_length deposits [] running.locals
values_own deposits running (caller ∷ callers) = values_own deposits caller callers

values_keep : (code : Code) (deposits : List Deposit) (f : Frame) → StandsIn code f → Keeps code f (with_values deposits f)
values_keep code deposits f s = record { stands = values_stand code deposits f s; depth = refl; own = values_own deposits f.running f.callers }

module _ (code : Code) (run next : Run) (s : StandsIn code run.frame) where
  same_run : (g : Frame) (block : Block) → Keeps code run.frame g → Some (record { frame = g; block = block }) ≡ Some next → Keeps code run.frame next.frame
  same_run g block h e = subst (λ (r : Run). Keeps code run.frame r.frame) (let same : record { frame = g; block = block } ≡ next = cc in same) h

  step_keeps : (move : Move) → look code run.frame ≡ move → stepped move run.block ≡ Some next → Keeps code run.frame next.frame
  step_keeps (GoesOn g) is e = same_run g run.block (goes_keeps code run.frame s g is) e
  step_keeps (Requests request follows) is e = absurd cc
  step_keeps (Ends want) is e = absurd cc
  step_keeps Stuck is e = absurd cc

  resumed_keeps : (request : Request) (follows : Answer → Option Frame) (answer : Answer) (o : Option Frame) → look code run.frame ≡ Requests request follows → follows answer ≡ o →
      resumed_with o (block_after request run.block) ≡ Some next → Keeps code run.frame next.frame
  resumed_keeps request follows answer None is led e = absurd cc
  resumed_keeps request follows answer (Some g) is led e = same_run g (block_after request run.block) ((leading code run.frame s request follows is).keeps answer g led) e

  answer_keeps : (answer : Answer) (move : Move) → look code run.frame ≡ move → answered move answer run.block ≡ Some next → Keeps code run.frame next.frame
  answer_keeps answer (GoesOn g) is e = absurd cc
  answer_keeps answer (Requests request follows) is e = resumed_keeps request follows answer (follows answer) is refl e
  answer_keeps answer (Ends want) is e = absurd cc
  answer_keeps answer Stuck is e = absurd cc

  receive_keeps : (target : ℕ) (value : ℤ) (b : Bool) →
      (if b then Some (record { frame = with_values ((Some target, value) ∷ []) run.frame; block = run.block }) else None) ≡ Some next → Keeps code run.frame next.frame
  receive_keeps target value true e = same_run _ run.block (values_keep code ((Some target, value) ∷ []) run.frame s) e
  receive_keeps target value false e = absurd cc

  happens_keeps : (event : Event) → happens code event run ≡ Some next → Keeps code run.frame next.frame
  happens_keeps Steps e = step_keeps (look code run.frame) refl e
  happens_keeps (Answered answer) e = answer_keeps answer (look code run.frame) refl e
  happens_keeps (Receives target value) e = receive_keeps target value (awaits target run.block) e

then_keeps : (code : Code) (f g h : Frame) → Keeps code f g → Keeps code g h → Keeps code f h
then_keeps code f g h first second = record { stands = second.stands; depth = second.depth ∙ first.depth; own = second.own ∙ first.own }

some_keeps : (code : Code) (run last : Run) (events : List Event) (o : Option Run) → StandsIn code run.frame → ((next : Run) → o ≡ Some next → Keeps code run.frame next.frame) →
    ((next : Run) → StandsIn code next.frame → after_events code events next ≡ Some last → Keeps code next.frame last.frame) → goes_on_with o (after_events code events) ≡ Some last → Keeps code run.frame last.frame
some_keeps code run last events None s first later e = absurd cc
some_keeps code run last events (Some next) s first later e = then_keeps code run.frame next.frame last.frame (first next refl) (later next (first next refl).stands e)

events_keep : (code : Code) (events : List Event) (run last : Run) → StandsIn code run.frame → after_events code events run ≡ Some last → Keeps code run.frame last.frame
events_keep code [] run last s e = subst (λ (r : Run). Keeps code run.frame r.frame) (let same : run ≡ last = cc in same) (record { stands = s; depth = refl; own = refl })
events_keep code (event ∷ events) run last s e =
    some_keeps code run last events (happens code event run) s (λ next is. happens_keeps code run next s event is) (λ next stands is. events_keep code events next last stands is) e

pub lasts : (code : Code) (depth procedure : ℕ) (arguments : List ℤ) (events : List Event) (run : Run) → HasLasted code depth procedure arguments events run → Lasts code depth procedure run.frame
lasts code depth procedure arguments events run h =
    let proc = h.has_run.proc in
    let params : length arguments ≡ proc.params = h.params ∙ ap params_of h.has_run.is in
    let keeps = events_keep code events (start_run proc arguments depth) run (start_stands code h.valid depth procedure proc h.has_run.is arguments params h.deep) h.has_run.comes in
    record {
      stands = keeps.stands;
      depth = keeps.depth;
      locals = keeps.own ∙ first_length proc arguments params (h.valid.procs procedure proc h.has_run.is).params ∙ ap locals_of (sym h.has_run.is);
    }

-- what a frame keeps lets a child start that the next one can start
target_so : (f g : Frame) (target : Option ℕ) → length (own_locals g) ≡ length (own_locals f) → IsTarget target g → IsTarget target f
target_so f g None e h = tt
target_so f g (Some k) e h = omega (arith, e, h)

starts_so : (code : Code) (f g : Frame) (target : Option ℕ) (procedure : ℕ) (arguments : List ℤ) → Keeps code f g → CanStart code g target procedure arguments → CanStart code f target procedure arguments
starts_so code f g target procedure arguments keeps h =
    record {
      proc = h.proc;
      is = h.is;
      params = h.params;
      depth = let a = h.depth in let b = keeps.depth in omega (arith, a, b);
      target = target_so f g target keeps.own h.target;
    }

starts_at : (code : Code) (f : Frame) → StandsIn code f → (target : Option ℕ) (procedure : ℕ) (arguments : List ℤ) → WantsNext code f (Asks (Spawn target procedure arguments)) → (move : Move) → look code f ≡ move →
    ((g : Frame) → look code f ≡ GoesOn g → StandsIn code g → WantsNext code g (Asks (Spawn target procedure arguments)) → CanStart code g target procedure arguments) → CanStart code f target procedure arguments
starts_at code f s target procedure arguments next (GoesOn g) e later =
    let keeps = goes_keeps code f s g e in
    starts_so code f g target procedure arguments keeps (later g e keeps.stands (ap now (sym (goes_same code s.valid.forward f g e)) ∙ next))
starts_at code f s target procedure arguments next (Requests request follows) e later =
    let same : request ≡ Spawn target procedure arguments = let h = sym (requests_next code f request follows e) ∙ next in cc in
    (leading code f s (Spawn target procedure arguments) follows (e ∙ ap (λ r. Requests r follows) same)).child.starts
starts_at code f s target procedure arguments next (Ends want) e later =
    absurd (subst IsEnd (let h = sym (ends_next code f want e) ∙ next in let same : want ≡ Asks (Spawn target procedure arguments) = cc in same) (ends_so code f s want e))
starts_at code f s target procedure arguments next Stuck e later = absurd (not_stuck code f s e)

starts_within : (n : ℕ) (code : Code) (f : Frame) → rank code f < n → StandsIn code f → (target : Option ℕ) (procedure : ℕ) (arguments : List ℤ) →
    WantsNext code f (Asks (Spawn target procedure arguments)) → CanStart code f target procedure arguments
starts_within zero code f less s target procedure arguments next = absurd (omega (arith, less))
starts_within (suc n) code f less s target procedure arguments next =
    starts_at code f s target procedure arguments next (look code f) refl
    (λ g e stands here. starts_within n code g (let h = comes_down code f g s e in omega (arith, h, less)) stands target procedure arguments here)

pub children_start : (code : Code) (f : Frame) → StandsIn code f → (target : Option ℕ) (procedure : ℕ) (arguments : List ℤ) →
    WantsNext code f (Asks (Spawn target procedure arguments)) → CanStart code f target procedure arguments
children_start code f s target procedure arguments next = starts_within (suc (rank code f)) code f (omega arith) s target procedure arguments next
