-- From a frame to its next want.
use Rattle.std.proofs.Common.{◌≡◌, ℕ, suc, ◌<◌, ◌≤◌, List, [], ◌∷◌, ◌++◌, replicate, Option, Some, None, refl, sym, ap, ◌∙◌, inl, inr, arith}
use Rattle.std.specs.Prelude.{Bool, true, false, if◌then◌else◌, slice_get}
use Rattle.cilk_meaning.specs.declared.ends.TrapKind.TheVariants.{Overflow}
use Rattle.cilk_meaning.specs.Alone.{block_after}
use Rattle.cilk_meaning.specs.Serve.{first_of, rest_of, after}
use Rattle.cilk_meaning.specs.Wants.{Request, Want, Asks, Traps, Answer}
use Rattle.machine_code.specs.declared.instr.Instr.{Instr}
use Rattle.machine_code.specs.declared.instr.Instr.TheVariants as instr
use Rattle.machine_code.specs.Early.{Event, Steps, Answered, Run, happens, goes_on_with, after_events, stepped, answered, resumed_with}
use Rattle.machine_code.specs.Machine.{Code, Frame, GoesOn, Requests, Ends, act, look, remaining, resumed, wants, wants_for}
use Rattle.machine_code.proofs.Steps.{Nearer, comes_nearer, requests_wants, ends_wants}
use Rattle.plain_machine.specs.Shown.{WantsNext}
use Rattle.plain_machine.specs.Standing.{StandsIn}
use Rattle.plain_machine.specs.Stepping.{HasStepped, HasResumed}

pub stays_put : (code : Code) (f : Frame) → HasStepped code f f
stays_put code f = record { count = 0; comes = λ block. refl }

pub steps_first : (code : Code) (f g h : Frame) → look code f ≡ GoesOn g → HasStepped code g h → HasStepped code f h
steps_first code f g h e s = record {
  count = suc s.count;
  comes = λ block. ap (λ move. goes_on_with (stepped move block) (after_events code (replicate s.count Steps))) e ∙ s.comes block;
}

more_if : (code : Code) (o : Option Run) (first more : List Event) → ((run : Run) → after_events code (first ++ more) run ≡ goes_on_with (after_events code first run) (after_events code more)) →
    goes_on_with o (after_events code (first ++ more)) ≡ goes_on_with (goes_on_with o (after_events code first)) (after_events code more)
more_if code None first more h = refl
more_if code (Some run) first more h = h run

after_more : (code : Code) (first more : List Event) (run : Run) → after_events code (first ++ more) run ≡ goes_on_with (after_events code first run) (after_events code more)
after_more code [] more run = refl
after_more code (event ∷ first) more run = more_if code (happens code event run) first more (λ next. after_more code first more next)

pub steps_resume : (code : Code) (f g h : Frame) (request : Request) (follows : Answer → Option Frame) (answer : Answer) → HasStepped code f g → look code g ≡ Requests request follows → follows answer ≡ Some h → HasResumed code request answer f h
steps_resume code f g h request follows answer s e is = record {
  count = s.count;
  comes = λ block.
      after_more code (replicate s.count Steps) (Answered answer ∷ []) (record { frame = f; block = block })
      ∙ ap (λ o. goes_on_with o (after_events code (Answered answer ∷ []))) (s.comes block)
      ∙ ap (λ move. goes_on_with (answered move answer block) (after_events code [])) e
      ∙ ap (λ o. goes_on_with (resumed_with o (block_after request block)) (after_events code [])) is;
}

-- what a frame wants that stands at its want
pub requests_next : (code : Code) (f : Frame) (request : Request) (follows : Answer → Option Frame) → look code f ≡ Requests request follows → WantsNext code f (Asks request)
requests_next code f request follows e = ap first_of (requests_wants code f request follows e [])

pub ends_next : (code : Code) (f : Frame) (want : Want) → look code f ≡ Ends want → WantsNext code f want
ends_next code f want e = ap first_of (ends_wants code f want e [])

-- and what follows an answer
pub follows_after : (code : Code) (f g : Frame) (request : Request) (follows : Answer → Option Frame) (answer : Answer) → look code f ≡ Requests request follows → follows answer ≡ Some g → wants code g ≡ after (wants code f) answer
follows_after code f g request follows answer e is = λ i answers. same answers i
  where
    same : (answers : List Answer) → wants code g answers ≡ rest_of (wants code f (answer ∷ answers))
    same answers =
        sym (ap rest_of (requests_wants code f request follows e (answer ∷ answers))
        ∙ ap (λ o. resumed o (wants_for code answers)) is)

-- how far the next want is: nothing at a test of a loop
abbrev pub rank_at : ℕ → Option Instr → ℕ
rank_at n (Some instr.Turn) = 0
rank_at n _ = suc n

abbrev pub rank : Code → Frame → ℕ
rank code f = rank_at (remaining code f) (slice_get code.instrs f.running.pc)

rank_bound : (n : ℕ) (o : Option Instr) → rank_at n o ≤ suc n
rank_bound n None = omega arith
rank_bound n (Some i) = each i
  where
    each : (i : Instr) → rank_at n (Some i) ≤ suc n
    each instr.Turn = omega arith
    each _ = omega arith

-- a frame at a test of a loop does not go on
rank_going : (code : Code) (f g : Frame) (n : ℕ) (o : Option Instr) → act code f o ≡ GoesOn g → rank_at n o ≡ suc n
rank_going code f g n None e = absurd cc
rank_going code f g n (Some i) e = each i e
  where
    each : (i : Instr) → act code f (Some i) ≡ GoesOn g → rank_at n (Some i) ≡ suc n
    each instr.Turn e = absurd cc
    each _ e = refl

flagged : (code : Code) (f : Frame) (b : Bool) → f.overflowed ≡ b → look code f ≡ (if b then Ends (Traps Overflow) else act code f (slice_get code.instrs f.running.pc))
flagged code f b over = ap (λ (b : Bool). if b then Ends (Traps Overflow) else act code f (slice_get code.instrs f.running.pc)) over

acts : (code : Code) (f g : Frame) (b : Bool) → f.overflowed ≡ b → look code f ≡ GoesOn g → act code f (slice_get code.instrs f.running.pc) ≡ GoesOn g
acts code f g true over e = absurd (let h = sym (flagged code f true over) ∙ e in cc)
acts code f g false over e = sym (flagged code f false over) ∙ e

pub comes_down : (code : Code) (f g : Frame) → StandsIn code f → look code f ≡ GoesOn g → rank code g < rank code f
comes_down code f g s e = by (comes_nearer code s.valid.forward f g e)
  where
    going : rank code f ≡ suc (remaining code f)
    going = rank_going code f g (remaining code f) (slice_get code.instrs f.running.pc) (acts code f g f.overflowed refl e)

    by : Nearer code f g → rank code g < rank code f
    by (inl less) =
        let a = going in
        let b = rank_bound (remaining code g) (slice_get code.instrs g.running.pc) in
        omega (arith, less, a, b)
    by (inr turn) =
        let a = going in
        let b : rank code g ≡ 0 = ap (λ o. rank_at (remaining code g) o) turn in
        omega (arith, a, b)
