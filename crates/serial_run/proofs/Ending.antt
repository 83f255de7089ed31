-- The beginning of a run, and what it leaves.
use Rattle.std.proofs.Common.{◌≡◌, ℕ, ◌-◌, ◌≤◌, [], length, reverse, Some, Result, Ok, Err, sym, ap, ◌∙◌, subst, arith}
use Rattle.std.specs.Prelude.{IfOk, slice_get}
use Rattle.std.specs.declared.alloc.AllocError.{AllocError}
use Rattle.cilk_meaning.specs.declared.ends.NodeEnd.{NodeEnd}
use Rattle.cilk_meaning.specs.Instance.{limits}
use Rattle.cilk_meaning.specs.Resolved.{Program}
use Rattle.cilk_meaning.specs.Serve.{first_state, serve}
use Rattle.cilk_meaning.specs.World.{End, ticks_of}
use Rattle.cilk_meaning.proofs.Elisions.{elision_is_service}
use Rattle.elision_history.specs.Logged.{history_of, logged}
use Rattle.machine_code.specs.Machine.{Code, start_frame, starts, wants}
use Rattle.machine_code.specs.StandsFor.{StandsFor, start_words_of}
use Rattle.machine_code.specs.Valid.{params_of, words_in}
use Rattle.machine_code.specs.declared.code.Proc.{Proc}
use Rattle.plain_machine.specs.Standing.{StandsIn}
use Rattle.serial_run.specs.Elision.{AreWords, IsElision, elision_of}
use Rattle.serial_run.specs.Running.{AllWait, HasCome}
use Rattle.serial_run.specs.Serving.{EndsAs, LeadsTo}
use Rattle.serial_run.specs.declared.run.Run.{Run}
use Rattle.serial_run.specs.declared.serial_end.SerialEnd.{SerialEnd}
use Rattle.serial_run.proofs.Blind.{starts_blind}
use Rattle.serial_run.proofs.Coming.{come_first, goes_first}
use Rattle.span_tree.specs.Recording.{Recorded, first_history}

-- the service that a code makes for a budget
abbrev pub service_of : Code → ℕ → End
service_of code budget = serve (starts code) budget (first_state (starts code) code.main (start_words_of code))

module _ (code : Code) (budget : ℕ) (run : Run)
    (begins : (proc : Proc) → slice_get code.procs code.main ≡ Some proc → run.frame ≡ record { frame = start_frame proc [] 0; arguments = [] })
    (goes_so : wants code run.frame.frame ≡ starts code 0 code.main []) (fine : StandsIn code run.frame.frame) (parents : run.parents.items ≡ [])
    (recording : run.recording ≡ record { history = first_history code.main; row = 0 }) (words : AreWords (words_in code.shared) (start_words_of code) run.words.items) (left : run.left ≡ budget) where
  first_come : HasCome code 0 run.frame.frame []
  first_come =
      let proc = fine.valid.main.0 in
      let is : slice_get code.procs code.main ≡ Some proc = fine.valid.main.1 in
      subst (λ f. HasCome code 0 f []) (ap (λ shown. shown.frame) (sym (begins proc is)))
      (come_first code 0 code.main proc [] fine.valid is (sym fine.valid.main.2 ∙ ap params_of (sym is)) (omega arith))

  -- A run that begins stands for the first state.
  begins_so : LeadsTo code (service_of code budget) budget run
  begins_so = record {
    state = first_state (starts code) code.main (start_words_of code);
    stands = record {
      fine = fine;
      block = [];
      come = subst (λ items. HasCome code (length items) run.frame.frame []) (sym parents) first_come;
      goes = λ early. goes_first code run.frame.frame 0 code.main 0 [] (starts_blind code fine.valid.arrays 0 code.main []) goes_so;
      waiting = subst (λ items. AllWait code (reverse items) []) (sym parents) tt;
      row = ap (λ (r : Recorded). r.row) recording;
      inside = let size = ap (λ (r : Recorded). length r.history) recording in omega (arith, size);
      above = tt;
      history = ap (λ (r : Recorded). r.history) recording;
      rows = sym (ap (λ (r : Recorded). length r.history) recording);
      words = words;
    };
    ticks = omega (arith, left);
    serves = λ early. ap (λ n. serve (starts code) n (first_state (starts code) code.main (start_words_of code))) left;
  }

-- the same where `main` is read from the code
pub begins_at : (code : Code) (budget : ℕ) (run : Run) (main : ℕ) → main ≡ code.main →
    ((proc : Proc) → slice_get code.procs main ≡ Some proc → run.frame ≡ record { frame = start_frame proc [] 0; arguments = [] }) →
    wants code run.frame.frame ≡ starts code 0 main [] → StandsIn code run.frame.frame → run.parents.items ≡ [] → run.recording ≡ record { history = first_history main; row = 0 } →
    AreWords (words_in code.shared) (start_words_of code) run.words.items → run.left ≡ budget → LeadsTo code (service_of code budget) budget run
begins_at code budget run main e begins goes_so fine parents recording words left =
    begins_so code budget run (λ proc is. begins proc (ap (slice_get code.procs) e ∙ is)) (goes_so ∙ ap (λ m. starts code 0 m []) e) fine parents
    (recording ∙ ap (λ m. record { history = first_history m; row = 0 }) e) words left

-- A code that stands for a program makes the service of its elision.
service_is_elision : (code : Code) (program : Program) (budget : ℕ) → StandsFor code program → service_of code budget ≡ elision_of code program budget
service_is_elision code program budget is =
    ap (λ main. serve (starts code) budget (first_state (starts code) main (start_words_of code))) is.main
    ∙ ap (λ start. serve start budget (first_state start program.main (start_words_of code))) is.wants
    ∙ sym (elision_is_service limits program (start_words_of code) budget)

pub within_budget : (code : Code) (whole : End) (budget : ℕ) (end : NodeEnd) (run : Run) → EndsAs code whole budget end run → run.left ≤ budget
within_budget code whole budget end run ends = let ticks = ends.ticks in omega (arith, ticks)

module _ (code : Code) (program : Program) (budget : ℕ) (end : NodeEnd) (run : Run) (ends : EndsAs code (service_of code budget) budget end run) (is : StandsFor code program) where
  whole_is : elision_of code program budget ≡ record { end = end; world = ends.state.world }
  whole_is = sym (service_is_elision code program budget is) ∙ ends.ends is.early

  leaves : (ended : SerialEnd) → ended.end ≡ end → ended.history ≡ run.recording.history → ended.memory ≡ run.words.items → ended.ticks ≡ budget - run.left → IsElision code program budget ended
  leaves ended same history memory ticks = record {
    end = same ∙ ap (λ (e : End). e.end) (sym whole_is);
    history = history ∙ ends.stands.history ∙ ap (λ main. logged main ends.state.world.log) is.main ∙ ap (history_of program) (sym whole_is);
    memory = subst (λ (e : End). AreWords (words_in code.shared) e.world.memory ended.memory) (sym whole_is)
        (subst (λ items. AreWords (words_in code.shared) ends.state.world.memory items) (sym memory) ends.stands.words);
    ticks = (let made = ends.ticks in let all : ended.ticks ≡ length ends.state.world.log = omega (arith, made, ticks) in all) ∙ ap ticks_of (sym whole_is);
  }

  pub leaves_elision : (result : Result SerialEnd AllocError) → IfOk result (λ ended. ended.end ≡ end) → IfOk result (λ ended. ended.history ≡ run.recording.history) →
      IfOk result (λ ended. ended.memory ≡ run.words.items) → IfOk result (λ ended. ended.ticks ≡ budget - run.left) → IfOk result (λ ended. IsElision code program budget ended)
  leaves_elision (Ok ended) same history memory ticks = leaves ended same history memory ticks
  leaves_elision (Err error) same history memory ticks = tt
