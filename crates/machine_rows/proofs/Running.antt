-- What is done with a frame keeps that it came to be by events.
use Rattle.std.proofs.Common.{◌≡◌, ℕ, ℤ, Option, Some, None, List, [], ◌∷◌, ◌++◌, length, slice_get, refl, ap, ◌∙◌, ◌≤◌, replicate, subst}
use Rattle.cilk_meaning.specs.Alone.{block_after}
use Rattle.cilk_meaning.specs.Instance.{limits}
use Rattle.cilk_meaning.specs.Wants.{Request, Answer}
use Rattle.machine_code.specs.Early.{Event, Steps, Answered, Run, after_events, goes_on_with, happens, start_run}
use Rattle.machine_code.specs.Machine.{Code, Frame, start_frame}
use Rattle.machine_code.specs.Valid.{IsValid, params_of}
use Rattle.machine_code.specs.declared.code.Proc.{Proc}
use Rattle.plain_machine.specs.Lasting.{HasLasted, Lasts}
use Rattle.plain_machine.specs.Stepping.{HasStepped, HasResumed}
use Rattle.machine_rows.specs.Running.{IsRunOf, RunsOn}

one_then : (code : Code) (first second : List Event) (o : Option Run) → ((run : Run) → after_events code (first ++ second) run ≡ goes_on_with (after_events code first run) (after_events code second)) →
    goes_on_with o (after_events code (first ++ second)) ≡ goes_on_with (goes_on_with o (after_events code first)) (after_events code second)
one_then code first second None both = refl
one_then code first second (Some run) both = both run

after_both : (code : Code) (first second : List Event) (run : Run) → after_events code (first ++ second) run ≡ goes_on_with (after_events code first run) (after_events code second)
after_both code [] second run = refl
after_both code (event ∷ first) second run = one_then code first second (happens code event run) (after_both code first second)

-- after some events more
goes_further : (code : Code) (old : Frame) (depth procedure : ℕ) (arguments : List ℤ) (is : IsRunOf code depth procedure arguments old) (events : List Event) (next : Run) →
    after_events code events (record { frame = old; block = is.run.block }) ≡ Some next → IsRunOf code depth procedure arguments next.frame
goes_further code old depth procedure arguments is events next comes =
    let begun = is.lasted.has_run in
    let here : is.run ≡ record { frame = old; block = is.run.block } = λ i. record { frame = is.frame_is i; block = is.run.block } in
    let all : after_events code (is.events ++ events) (start_run begun.proc arguments depth) ≡ Some next =
    after_both code is.events events (start_run begun.proc arguments depth) ∙ ap (λ o. goes_on_with o (after_events code events)) begun.comes ∙ ap (after_events code events) here ∙ comes in
    record {
      events = is.events ++ events;
      run = next;
      frame_is = refl;
      lasted = record { valid = is.lasted.valid; params = is.lasted.params; deep = is.lasted.deep; has_run = record { proc = begun.proc; is = begun.is; comes = all } };
    }

pub steps_on : (code : Code) (old new : Frame) → HasStepped code old new → RunsOn code old new
steps_on code old new steps depth procedure arguments is =
    goes_further code old depth procedure arguments is (replicate steps.count Steps) (record { frame = new; block = is.run.block }) (steps.comes is.run.block)

pub answers_on : (code : Code) (request : Request) (answer : Answer) (old new : Frame) → HasResumed code request answer old new → RunsOn code old new
answers_on code request answer old new goes depth procedure arguments is =
    goes_further code old depth procedure arguments is (replicate goes.count Steps ++ Answered answer ∷ []) (record { frame = new; block = block_after request is.run.block }) (goes.comes is.run.block)

pub runs_both : (code : Code) (first second third : Frame) → RunsOn code first second → RunsOn code second third → RunsOn code first third
runs_both code first second third one two depth procedure arguments is = two depth procedure arguments (one depth procedure arguments is)

pub starts_on : (code : Code) (procedure : ℕ) (proc : Proc) (arguments : List ℤ) (depth : ℕ) → IsValid code → slice_get code.procs procedure ≡ Some proc → length arguments ≡ params_of (slice_get code.procs procedure) →
    depth ≤ limits.depth → IsRunOf code depth procedure arguments (start_frame proc arguments depth)
starts_on code procedure proc arguments depth valid is params deep = record {
  events = [];
  run = start_run proc arguments depth;
  frame_is = refl;
  lasted = record { valid = valid; params = params; deep = deep; has_run = record { proc = proc; is = is; comes = refl } };
}

-- `has_run_stands` says it of each run, and so of each frame that came to be by one
pub run_lasts : ((code : Code) (depth procedure : ℕ) (arguments : List ℤ) (events : List Event) (run : Run) → HasLasted code depth procedure arguments events run → Lasts code depth procedure run.frame) →
    (code : Code) (depth procedure : ℕ) (arguments : List ℤ) (frame : Frame) → IsRunOf code depth procedure arguments frame → Lasts code depth procedure frame
run_lasts law code depth procedure arguments frame is =
    subst (λ (f : Frame). Lasts code depth procedure f) is.frame_is (law code depth procedure arguments is.events is.run is.lasted)
