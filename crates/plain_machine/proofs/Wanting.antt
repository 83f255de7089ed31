-- What a frame wants that stands at its want, and what an answer makes of it.
use Rattle.std.proofs.Common.{◌≡◌, ℕ, zero, suc, ◌<◌, ◌≤◌, List, [], length, Option, Some, None, Result, Ok, Err, refl, sym, ap, ◌∙◌, subst, arith}
use Rattle.std.specs.Prelude.{ℤ, slice_get}
use Rattle.std.specs.Option.{option_map}
use Rattle.std.specs.Result.{OnOk, OnErr}
use Rattle.std.specs.declared.alloc.AllocError.{AllocError}
use Rattle.cilk_meaning.specs.Instance.{limits}
use Rattle.cilk_meaning.specs.Serve.{now, after}
use Rattle.cilk_meaning.specs.Wants as wanted
use Rattle.cilk_meaning.specs.Wants.{Request, Read, Write, Add, Print, Spawn, Sync, Call, LoopTurn, Want, Asks, Returns, Traps, suits}
use Rattle.machine_code.specs.declared.code.Proc.{Proc}
use Rattle.machine_code.specs.Machine.{Code, Frame, Move, GoesOn, Requests, Ends, Stuck, arguments_on, look, start_frame, wants}
use Rattle.machine_code.specs.Valid.{IsValid, params_of}
use Rattle.machine_code.proofs.Steps.{is_inside, goes_same}
use Rattle.plain_machine.specs.Shown.{Suits, WantsNext, arguments_in, arguments_of, meant, shown_request, shown_want}
use Rattle.plain_machine.specs.Standing.{StandsIn}
use Rattle.plain_machine.specs.Stepping.{HasStepped, HasResumed, NamesChild, Resumes, asked, child_params, led_to}
use Rattle.plain_machine.specs.declared.want.Answer.{Answer}
use Rattle.plain_machine.specs.declared.want.Want as declared
use Rattle.plain_machine.specs.declared.want.Want.TheVariants as shown
use Rattle.plain_machine.proofs.Finding.{ChildOf, IsEnd, begins, ends_so, goes_stands, leading, not_stuck}
use Rattle.plain_machine.proofs.Going.{comes_down, ends_next, follows_after, rank, requests_next, steps_resume}

-- what `Frame::want` tells
pub record Asked (code : Code) (f : Frame) (said : declared.Want) : Type 0 where
  pub names : NamesChild code.procs said
  pub enough : child_params code.procs said ≤ length f.running.operands
  pub want : option_map shown_want (now (wants code f)) ≡ Some said
  pub arguments : option_map arguments_of (now (wants code f)) ≡ Some (arguments_on (child_params code.procs said) f.running.operands)

-- of a request the parts that speak of its child
record Child (code : Code) (f : Frame) (request : Request) : Type 0 where
  names : NamesChild code.procs (shown_request request)
  enough : child_params code.procs (shown_request request) ≤ length f.running.operands
  arguments : arguments_in request ≡ arguments_on (child_params code.procs (shown_request request)) f.running.operands

child : (code : Code) (f : Frame) (request : Request) → ChildOf code f request → Child code f request
child code f (Spawn target procedure arguments) h =
    let params = ap params_of h.starts.is in
    let enough = h.enough in
    record {
      names = is_inside code.procs procedure h.starts.proc h.starts.is;
      enough = omega (arith, params, enough);
      arguments = h.arguments ∙ ap (λ n. arguments_on n f.running.operands) (sym params);
    }
child code f (Read word) h = record { names = tt; enough = omega arith; arguments = refl }
child code f (Write word value) h = record { names = tt; enough = omega arith; arguments = refl }
child code f (Add word addend) h = record { names = tt; enough = omega arith; arguments = refl }
child code f (Print value) h = record { names = tt; enough = omega arith; arguments = refl }
child code f Sync h = record { names = tt; enough = omega arith; arguments = refl }
child code f Call h = record { names = tt; enough = omega arith; arguments = refl }
child code f LoopTurn h = record { names = tt; enough = omega arith; arguments = refl }

module _ (code : Code) (f : Frame) (s : StandsIn code f) where
  asks_request : (request : Request) → ChildOf code f request → WantsNext code f (Asks request) → Asked code f (shown_request request)
  asks_request request starts next =
      let parts = child code f request starts in
      record {
        names = parts.names;
        enough = parts.enough;
        want = ap (option_map shown_want) next;
        arguments = ap (option_map arguments_of) next ∙ ap Some parts.arguments;
      }

  asks_end : (want : Want) → IsEnd want → WantsNext code f want → Asked code f (shown_want want)
  asks_end (Asks request) end next = absurd end
  asks_end (Returns value) end next = record { names = tt; enough = omega arith; want = ap (option_map shown_want) next; arguments = ap (option_map arguments_of) next }
  asks_end (Traps kind) end next = record { names = tt; enough = omega arith; want = ap (option_map shown_want) next; arguments = ap (option_map arguments_of) next }

  pub asks : (want : declared.Want) → asked (look code f) ≡ Some want → Asked code f want
  asks want e = go (look code f) refl
    where
      go : (move : Move) → look code f ≡ move → Asked code f want
      go (GoesOn g) is = absurd (let h : None ≡ Some want = ap asked (sym is) ∙ e in cc)
      go (Requests request follows) is =
          let same : shown_request request ≡ want = let h : Some (shown_request request) ≡ Some want = ap asked (sym is) ∙ e in cc in
          subst (Asked code f) same (asks_request request (leading code f s request follows is).child (requests_next code f request follows is))
      go (Ends end) is =
          let same : shown_want end ≡ want = let h : Some (shown_want end) ≡ Some want = ap asked (sym is) ∙ e in cc in
          subst (Asked code f) same (asks_end end (ends_so code f s end is) (ends_next code f end is))
      go Stuck is = absurd (let h : None ≡ Some want = ap asked (sym is) ∙ e in cc)

  -- a frame at its want whose want is a request is at it
  pub at_request : (want : declared.Want) → asked (look code f) ≡ Some want → (request : Request) → WantsNext code f (Asks request) →
      (follows : wanted.Answer → Option Frame) × (look code f ≡ Requests request follows)
  at_request want e request next = go (look code f) refl
    where
      go : (move : Move) → look code f ≡ move → (follows : wanted.Answer → Option Frame) × (look code f ≡ Requests request follows)
      go (GoesOn g) is = absurd (let h : None ≡ Some want = ap asked (sym is) ∙ e in cc)
      go (Requests other follows) is =
          let same : other ≡ request = let h : Some (Asks other) ≡ Some (Asks request) = sym (requests_next code f other follows is) ∙ next in cc in
          (follows, is ∙ ap (λ r. Requests r follows) same)
      go (Ends end) is = absurd (subst IsEnd (let h : Some end ≡ Some (Asks request) = sym (ends_next code f end is) ∙ next in let same : end ≡ Asks request = cc in same) (ends_so code f s end is))
      go Stuck is = absurd (let h : None ≡ Some want = ap asked (sym is) ∙ e in cc)

  call_only : (request : Request) → shown_request request ≡ shown.Call → request ≡ Call
  call_only (Read word) e = absurd cc
  call_only (Write word value) e = absurd cc
  call_only (Add word addend) e = absurd cc
  call_only (Print value) e = absurd cc
  call_only (Spawn target procedure arguments) e = absurd cc
  call_only Sync e = absurd cc
  call_only Call e = refl
  call_only LoopTurn e = absurd cc

  end_no_call : (end : Want) → IsEnd end → shown_want end ≡ shown.Call → ⊥
  end_no_call (Asks request) end e = end
  end_no_call (Returns value) end e = absurd cc
  end_no_call (Traps kind) end e = absurd cc

  pub wants_call : asked (look code f) ≡ Some shown.Call → WantsNext code f (Asks Call)
  wants_call e = go (look code f) refl
    where
      go : (move : Move) → look code f ≡ move → WantsNext code f (Asks Call)
      go (GoesOn g) is = absurd (let h : None ≡ Some shown.Call = ap asked (sym is) ∙ e in cc)
      go (Requests request follows) is =
          let same : shown_request request ≡ shown.Call = let h : Some (shown_request request) ≡ Some shown.Call = ap asked (sym is) ∙ e in cc in
          requests_next code f request follows is ∙ ap (λ r. Some (Asks r)) (call_only request same)
      go (Ends end) is = absurd (end_no_call end (ends_so code f s end is) (let h : Some (shown_want end) ≡ Some shown.Call = ap asked (sym is) ∙ e in cc))
      go Stuck is = absurd (let h : None ≡ Some shown.Call = ap asked (sym is) ∙ e in cc)

-- What an answer makes of a frame that ran on to its want: from `old` to `f`, and then to `g`.
module _ (code : Code) (old f : Frame) (s : StandsIn code f) (same : wants code f ≡ wants code old) (want : declared.Want) (e : asked (look code f) ≡ Some want) where
  next_here : (next : Want) → WantsNext code old next → WantsNext code f next
  next_here next h = ap now same ∙ h

  pub resumes : (answer : Answer) → Suits code old answer → Resumes (look code f) answer
  resumes answer h =
      let is = at_request code f s want e h.request (next_here (Asks h.request) h.next) in
      subst (λ move. Resumes move answer) (sym is.1) h.suits

  module _ (answer : Answer) (g : Frame) (led : led_to (look code f) answer ≡ Some g) (request : Request) (next : WantsNext code old (Asks request)) where
    here : (follows : wanted.Answer → Option Frame) × (look code f ≡ Requests request follows)
    here = at_request code f s want e request (next_here (Asks request) next)

    leads : here.0 (meant request answer) ≡ Some g
    leads = ap (λ move. led_to move answer) (sym here.1) ∙ led

    pub wants_after : wants code g ≡ after (wants code old) (meant request answer)
    wants_after = follows_after code f g request here.0 (meant request answer) here.1 leads ∙ ap (λ goes. after goes (meant request answer)) same

    pub resumed : HasStepped code old f → HasResumed code request (meant request answer) old g
    resumed steps = steps_resume code old f g request here.0 (meant request answer) steps here.1 leads

pub led_stands : (code : Code) (f g : Frame) → StandsIn code f → (answer : Answer) → led_to (look code f) answer ≡ Some g → StandsIn code g
led_stands code f g s answer led = go (look code f) refl
  where
    go : (move : Move) → look code f ≡ move → StandsIn code g
    go (GoesOn h) is = absurd (let h : None ≡ Some g = ap (λ move. led_to move answer) (sym is) ∙ led in cc)
    go (Requests request follows) is = ((leading code f s request follows is).keeps (meant request answer) g (ap (λ move. led_to move answer) (sym is) ∙ led)).stands
    go (Ends end) is = absurd (let h : None ≡ Some g = ap (λ move. led_to move answer) (sym is) ∙ led in cc)
    go Stuck is = absurd (let h : None ≡ Some g = ap (λ move. led_to move answer) (sym is) ∙ led in cc)

-- The start of a procedure stands in its code.
pub start_stands : (code : Code) → IsValid code → (depth procedure : ℕ) (proc : Proc) → slice_get code.procs procedure ≡ Some proc → (arguments : List ℤ) → length arguments ≡ proc.params → depth ≤ limits.depth →
    StandsIn code (start_frame proc arguments depth)
start_stands code valid depth procedure proc is arguments e deep =
    record {
      valid = valid;
      running = begins code valid.shapes (λ p q same. ((valid.procs p q same).starts, (valid.procs p q same).params)) procedure proc is arguments e [] tt;
      waiting = tt;
      depth = deep;
    }

-- A frame that stands always wants something.
at_move : (code : Code) (f : Frame) → StandsIn code f → (move : Move) → look code f ≡ move → ((g : Frame) → look code f ≡ GoesOn g → (want : Want) × WantsNext code g want) → (want : Want) × WantsNext code f want
at_move code f s (GoesOn g) e later = let h = later g e in (h.0, ap now (goes_same code s.valid.forward f g e) ∙ h.1)
at_move code f s (Requests request follows) e later = (Asks request, requests_next code f request follows e)
at_move code f s (Ends want) e later = (want, ends_next code f want e)
at_move code f s Stuck e later = absurd (not_stuck code f s e)

wants_within : (n : ℕ) (code : Code) (f : Frame) → rank code f < n → StandsIn code f → (want : Want) × WantsNext code f want
wants_within zero code f less s = absurd (omega (arith, less))
wants_within (suc n) code f less s = at_move code f s (look code f) refl (λ g e. wants_within n code g (let h = comes_down code f g s e in omega (arith, h, less)) (goes_stands code f s g e))

pub wants_something : (code : Code) (f : Frame) → StandsIn code f → (want : Want) × WantsNext code f want
wants_something code f s = wants_within (suc (rank code f)) code f (omega arith) s

-- What the calls answer, by whether memory was refused.
module _ (code : Code) (old f : Frame) (s : StandsIn code f) (same : wants code f ≡ wants code old) (want : declared.Want) (e : asked (look code f) ≡ Some want) (answer : Answer) (g : Frame) where
  pub answered_wants : (result : Result (Unit {0}) AllocError) → OnOk result (led_to (look code f) answer ≡ Some g) →
      OnOk result ((request : Request) → WantsNext code old (Asks request) → wants code g ≡ after (wants code old) (meant request answer))
  answered_wants (Ok u) led = λ request next. wants_after code old f s same want e answer g led request next
  answered_wants (Err u) led = tt

  pub answered_resumed : (result : Result (Unit {0}) AllocError) → OnOk result (led_to (look code f) answer ≡ Some g) → HasStepped code old f →
      OnOk result ((request : Request) → WantsNext code old (Asks request) → HasResumed code request (meant request answer) old g)
  answered_resumed (Ok u) led steps = λ request next. resumed code old f s same want e answer g led request next steps
  answered_resumed (Err u) led steps = tt

  pub answered_call : (result : Result (Unit {0}) AllocError) → OnErr result ((g ≡ f) × (asked (look code f) ≡ Some shown.Call)) → OnErr result (WantsNext code old (Asks Call))
  answered_call (Ok u) kept = tt
  answered_call (Err u) kept = ap now (sym same) ∙ wants_call code f s kept.1

pub answered_stands : (code : Code) (f g : Frame) → StandsIn code f → (answer : Answer) (result : Result (Unit {0}) AllocError) →
    OnOk result (led_to (look code f) answer ≡ Some g) → OnErr result ((g ≡ f) × (asked (look code f) ≡ Some shown.Call)) → StandsIn code g
answered_stands code f g s answer (Ok u) led kept = led_stands code f g s answer led
answered_stands code f g s answer (Err u) led kept = subst (StandsIn code) (sym kept.0) s
