-- A child that is spawned.
use Rattle.std.proofs.Common.{◌≡◌, ℕ, suc, ◌+◌, ◌<◌, List, [], ◌∷◌, ◌++◌, length, reverse, Option, Some, None, refl, sym, ap, ◌∙◌, subst, arith}
use Rattle.std.specs.Prelude.{ℤ, slice_get}
use Rattle.std.proofs.lemmas.List.{length-append, length-reverse, reverse-append}
use Rattle.cilk_meaning.specs.Serve as service
use Rattle.cilk_meaning.specs.Serve.{Entry, State, answered, served}
use Rattle.cilk_meaning.specs.Wants.{Done, Spawn}
use Rattle.machine_code.specs.Early.{Event, Run as Reached}
use Rattle.machine_code.specs.Machine.{Code, Frame, start_frame, starts, wants}
use Rattle.machine_code.specs.Valid.{params_of, words_in}
use Rattle.machine_code.specs.declared.code.Proc.{Proc}
use Rattle.machine_code.proofs.Steps.{is_inside}
use Rattle.plain_machine.specs.Lasting.{HasLasted, Lasts}
use Rattle.plain_machine.specs.Shown.{Shown}
use Rattle.plain_machine.specs.Standing.{StandsIn, own_locals}
use Rattle.plain_machine.specs.Starting.{CanStart, IsTarget}
use Rattle.serial_run.specs.Elision.{AreWords}
use Rattle.serial_run.specs.Running.{AllWait, AreAbove, GoesAs, HasCome, Stands, Waits}
use Rattle.serial_run.specs.Serving.{Serves}
use Rattle.serial_run.specs.declared.run.Run.{Run}
use Rattle.serial_run.proofs.Blind.{starts_blind}
use Rattle.serial_run.proofs.Coming.{come_first, come_resumed, goes_answered, goes_first, resumed_procedure}
use Rattle.serial_run.proofs.Requests.{Answering}
use Rattle.serial_run.proofs.Standing.{above_grows, parents_length}
use Rattle.span_tree.specs.History.{History, Row, row_at}
use Rattle.span_tree.specs.Recording.{Recorded, spawned, with_child}
use Rattle.span_tree.proofs.Growing.{child_length, child_parent, new_row}

-- what lasts in each frame, as the machine has it
abbrev pub AllLast : Type 0
AllLast = (code : Code) (depth procedure : ℕ) (arguments : List ℤ) (events : List Event) (run : Reached) → HasLasted code depth procedure arguments events run → Lasts code depth procedure run.frame

target_lasts : (target : Option ℕ) (old new : Frame) → length (own_locals new) ≡ length (own_locals old) → IsTarget target old → IsTarget target new
target_lasts None old new e inside = tt
target_lasts (Some target) old new e inside = omega (arith, e, inside)

-- what a start asks for
module _ (code : Code) (frame : Frame) (target : Option ℕ) (procedure : ℕ) (arguments : List ℤ) (can : CanStart code frame target procedure arguments) where
  pub names_proc : procedure < length code.procs
  names_proc = is_inside code.procs procedure can.proc can.is

  pub fits_params : length arguments ≡ params_of (slice_get code.procs procedure)
  fits_params = can.params ∙ ap params_of (sym can.is)

module _ (code : Code) (old new : Run) (target : Option ℕ) (procedure : ℕ) (arguments : List ℤ) (depth : ℕ) (waits child : Shown) (all_last : AllLast)
    (can : CanStart code old.frame.frame target procedure arguments) (depth_is : depth ≡ old.frame.frame.depth + 1)
    (begins : (proc : Proc) → slice_get code.procs procedure ≡ Some proc → child ≡ record { frame = start_frame proc arguments depth; arguments = [] })
    (goes_so : wants code child.frame ≡ starts code depth procedure arguments) (fine : StandsIn code child.frame)
    (a : Answering code (Spawn target procedure arguments) Done old.frame.frame waits.frame) where
  module _ (frame : new.frame ≡ child) (parents : new.parents.items ≡ old.parents.items ++ record { frame = waits; target = target } ∷ [])
      (recording : new.recording ≡ spawned procedure arguments old.recording) (words : new.words.items ≡ old.words.items) (left : new.left ≡ old.left) where
    module _ (state : State) (s : Stands code old state) where
      size : length new.parents.items ≡ suc (length old.parents.items)
      size = ap length parents ∙ (let more = length-append old.parents.items (record { frame = waits; target = target } ∷ []) in omega (arith, more))

      abbrev behind : HasCome code (length old.parents.items) waits.frame (s.block ++ target ∷ [])
      behind = come_resumed code (length old.parents.items) old.frame.frame s.block s.come (Spawn target procedure arguments) Done waits.frame a.resumed

      before_lasts : Lasts code (length old.parents.items) s.come.procedure old.frame.frame
      before_lasts = all_last code (length old.parents.items) s.come.procedure s.come.arguments s.come.events (record { frame = old.frame.frame; block = s.block }) s.come.lasted

      behind_lasts : Lasts code (length old.parents.items) s.come.procedure waits.frame
      behind_lasts = subst (λ p. Lasts code (length old.parents.items) p waits.frame) (resumed_procedure code (length old.parents.items) old.frame.frame s.block s.come (Spawn target procedure arguments) Done waits.frame a.resumed)
          (all_last code (length old.parents.items) behind.procedure behind.arguments behind.events (record { frame = waits.frame; block = s.block ++ target ∷ [] }) behind.lasted)

      deeper : depth ≡ suc (length state.waiting)
      deeper = let deep = before_lasts.depth in let waiting = parents_length code old state s in omega (arith, deep, waiting, depth_is)

      abbrev running : Entry
      running = record { goes = starts code (suc (length state.waiting)) procedure arguments; row = state.world.rows; kept = [] }

      abbrev waiting : service.Parent
      waiting = record { entry = answered Done state.running.kept state.running; target = target }

      child_come : HasCome code (length new.parents.items) new.frame.frame []
      child_come =
          subst (λ n. HasCome code n new.frame.frame []) (let deep = before_lasts.depth in omega (arith, deep, depth_is, size))
          (subst (λ (f : Shown). HasCome code depth f.frame []) (sym (frame ∙ begins can.proc can.is))
          (come_first code depth procedure can.proc arguments s.come.lasted.valid can.is (fits_params code old.frame.frame target procedure arguments can)
          (let deep = can.depth in omega (arith, deep, depth_is))))

      child_goes : GoesAs code new.frame.frame running
      child_goes =
          goes_first code new.frame.frame (suc (length state.waiting)) procedure state.world.rows arguments (starts_blind code s.come.lasted.valid.arrays (suc (length state.waiting)) procedure arguments)
          (ap (λ (f : Shown). wants code f.frame) frame ∙ goes_so ∙ ap (λ n. starts code n procedure arguments) deeper)

      waits_so : Waits code (length (reverse old.parents.items)) (record { frame = waits; target = target }) waiting
      waits_so = record {
        fine = a.fine;
        block = s.block;
        come = subst (λ n. HasCome code n waits.frame (s.block ++ target ∷ [])) (sym (length-reverse old.parents.items)) behind;
        target = refl;
        inside = target_lasts target old.frame.frame waits.frame (behind_lasts.locals ∙ sym before_lasts.locals) can.target;
        goes = λ early. goes_answered code old.frame.frame state.running (s.goes early) waits.frame Done a.wants_so (λ answers. refl);
      }

      all_wait : AllWait code (reverse new.parents.items) (waiting ∷ state.waiting)
      all_wait =
          subst (λ items. AllWait code items (waiting ∷ state.waiting))
          (sym (ap reverse parents ∙ reverse-append old.parents.items (record { frame = waits; target = target } ∷ []))) (waits_so, s.waiting)

      inside : old.recording.row < length old.recording.history
      inside = let row = s.row in let here = s.inside in omega (arith, row, here)

      abbrev grown : History
      grown = with_child old.recording.row procedure arguments old.recording.history

      -- the rows above the child's
      child_above : AreAbove grown state.world.rows (waiting ∷ state.waiting)
      child_above = (
        (
          length (row_at old.recording.history old.recording.row).acts,
          ap (λ row. (row_at grown row).parent) s.rows ∙ ap (λ (r : Row). r.parent) (new_row old.recording.history old.recording.row procedure arguments inside)
              ∙ ap (λ row. Some (record { row = row; act = length (row_at old.recording.history old.recording.row).acts })) s.row,
        ),
        (let rows = s.rows in let here = s.inside in omega (arith, rows, here)),
        above_grows old.recording.history grown (child_parent old.recording.history old.recording.row procedure arguments inside) state.running.row s.inside state.waiting s.above,
      )

      grows : new.recording.history ≡ grown
      grows = ap (λ (r : Recorded). r.history) recording

      spawn_stands : Stands code new (served (starts code) (Spawn target procedure arguments) state)
      spawn_stands = record {
        fine = subst (λ (f : Shown). StandsIn code f.frame) (sym frame) fine;
        block = [];
        come = child_come;
        goes = λ early. child_goes;
        waiting = all_wait;
        row = ap (λ (r : Recorded). r.row) recording ∙ sym s.rows;
        inside =
            let rows = s.rows in
            let more = ap length grows ∙ child_length old.recording.history old.recording.row procedure arguments inside in
            omega (arith, rows, more);
        above = subst (λ h. AreAbove h state.world.rows (waiting ∷ state.waiting)) (sym grows) child_above;
        history = grows ∙ ap (λ row. with_child row procedure arguments old.recording.history) s.row ∙ ap (with_child state.running.row procedure arguments) s.history;
        rows = ap suc s.rows ∙ sym (ap length grows ∙ child_length old.recording.history old.recording.row procedure arguments inside);
        words = subst (λ items. AreWords (words_in code.shared) state.world.memory items) (sym words) s.words;
      }

    pub spawn_serves : Serves code (Spawn target procedure arguments) old new
    spawn_serves = record { left = left; stands = spawn_stands }
