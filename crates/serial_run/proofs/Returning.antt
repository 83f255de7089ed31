-- A value that goes back to the nearest parent.
use Rattle.std.proofs.Common.{◌≡◌, ◌≢◌, ℕ, List, [], ◌∷◌, ◌++◌, length, reverse, Option, Some, None, refl, sym, ap, ◌∙◌, subst, arith}
use Rattle.std.specs.Prelude.{ℤ}
use Rattle.std.proofs.lemmas.List.{length-reverse, reverse-append}
use Rattle.cilk_meaning.specs.declared.ends.NodeEnd.TheVariants.{Finished}
use Rattle.cilk_meaning.specs.Alone.{Block}
use Rattle.cilk_meaning.specs.Serve as service
use Rattle.cilk_meaning.specs.Serve.{Entry, State, with_child}
use Rattle.machine_code.specs.Early.{TakesEarly}
use Rattle.machine_code.specs.Machine.{Code, Frame}
use Rattle.machine_code.specs.Valid.{words_in}
use Rattle.plain_machine.specs.Standing.{StandsIn}
use Rattle.plain_machine.specs.Starting.{IsTarget}
use Rattle.serial_run.specs.Elision.{AreWords}
use Rattle.serial_run.specs.Running.{AllWait, AreAbove, GoesAs, HasCome, Stands, Waits}
use Rattle.serial_run.specs.Serving.{GoesBack, IsDone, with_value}
use Rattle.serial_run.specs.declared.run.Parent.{Parent}
use Rattle.serial_run.specs.declared.run.Run.{Run}
use Rattle.serial_run.proofs.Coming.{come_given, given_goes, goes_on_alone}
use Rattle.span_tree.specs.History.{row_at}
use Rattle.span_tree.specs.Recording.{IsParentRow}
use Rattle.span_tree.specs.declared.act.Place.{Place}
use Rattle.span_tree.proofs.Ways.{some_same}

module _ (code : Code) (depth : ℕ) (frame : Frame) (block : Block) (value : ℤ) where
  value_come : (target : Option ℕ) → HasCome code depth frame (block ++ target ∷ []) → HasCome code depth (with_value target value frame) (block ++ target ∷ [])
  value_come None come = come
  value_come (Some target) come = come_given code depth frame block target value come

  value_goes : (target : Option ℕ) → HasCome code depth frame (block ++ target ∷ []) → TakesEarly code → (entry : Entry) → GoesAs code frame entry →
      GoesAs code (with_value target value frame) (with_child (record { entry = entry; target = target }) value)
  value_goes None come early entry goes = goes_on_alone code frame entry goes value
  value_goes (Some target) come early entry goes = given_goes code depth frame block target value come early entry goes

module _ (code : Code) (old : Run) (state : State) (s : Stands code old state) (parent : Parent) (rest : List Parent) (items : old.parents.items ≡ rest ++ parent ∷ []) where
  -- the instance for which the nearest parent stands
  record Nearest (others : List service.Parent) : Type 0 where
    waiting : service.Parent
    further : List service.Parent
    is : others ≡ waiting ∷ further
    waits : Waits code (length (reverse rest)) parent waiting
    all : AllWait code (reverse rest) further

  nearest_in : (others : List service.Parent) → AllWait code (parent ∷ reverse rest) others → Nearest others
  nearest_in [] all = absurd all
  nearest_in (first ∷ further) all = record { waiting = first; further = further; is = refl; waits = all.0; all = all.1 }

  nearest : Nearest state.waiting
  nearest = nearest_in state.waiting (subst (λ parents. AllWait code parents state.waiting) (ap reverse items ∙ reverse-append rest (parent ∷ [])) s.waiting)

  above : AreAbove old.recording.history state.running.row (nearest.waiting ∷ nearest.further)
  above = subst (λ others. AreAbove old.recording.history state.running.row others) nearest.is s.above

  pub can_leave : old.recording.row ≢ 0
  can_leave e = let row = s.row in let before = above.1 in omega (arith, e, row, before)

  pub can_receive : IsTarget parent.target parent.frame.frame
  can_receive = nearest.waits.inside

  module _ (new : Run) (value : ℤ) (parents : new.parents.items ≡ rest) (frame : new.frame.frame ≡ with_value parent.target value parent.frame.frame)
      (fine : StandsIn code parent.frame.frame → StandsIn code new.frame.frame)
      (leaves : IsParentRow old.recording.history old.recording.row new.recording.row) (history : new.recording.history ≡ old.recording.history) (words : new.words.items ≡ old.words.items) where
    same_row : new.recording.row ≡ nearest.waiting.entry.row
    same_row =
        let here : Some (record { row = new.recording.row; act = leaves.0 }) ≡ Some (record { row = nearest.waiting.entry.row; act = above.0.0 }) =
        sym leaves.1 ∙ ap (λ row. (row_at old.recording.history row).parent) s.row ∙ above.0.1 in
        ap (λ (place : Place). place.row) (some_same (record { row = new.recording.row; act = leaves.0 }) (record { row = nearest.waiting.entry.row; act = above.0.0 }) here)

    come : HasCome code (length new.parents.items) new.frame.frame (nearest.waits.block ++ parent.target ∷ [])
    come =
        subst (λ items. HasCome code (length items) new.frame.frame (nearest.waits.block ++ parent.target ∷ [])) (sym parents)
        (subst (λ n. HasCome code n new.frame.frame (nearest.waits.block ++ parent.target ∷ [])) (length-reverse rest)
        (subst (λ f. HasCome code (length (reverse rest)) f (nearest.waits.block ++ parent.target ∷ [])) (sym frame)
        (value_come code (length (reverse rest)) parent.frame.frame nearest.waits.block value parent.target nearest.waits.come)))

    goes : TakesEarly code → GoesAs code new.frame.frame (with_child nearest.waiting value)
    goes early =
        subst (λ f. GoesAs code f (with_child nearest.waiting value)) (sym frame)
        (subst (λ target. GoesAs code (with_value parent.target value parent.frame.frame) (with_child (record { entry = nearest.waiting.entry; target = target }) value)) nearest.waits.target
        (value_goes code (length (reverse rest)) parent.frame.frame nearest.waits.block value parent.target nearest.waits.come early nearest.waiting.entry (nearest.waits.goes early)))

    pub goes_back : GoesBack code state value new
    goes_back = record {
      waiting = nearest.waiting;
      others = nearest.further;
      is = nearest.is;
      stands = record {
        fine = fine nearest.waits.fine;
        block = nearest.waits.block ++ parent.target ∷ [];
        come = come;
        goes = goes;
        waiting = subst (λ items. AllWait code (reverse items) nearest.further) (sym parents) nearest.all;
        row = same_row;
        inside = let inside = s.inside in let before = above.1 in let size = ap length history in omega (arith, inside, before, size);
        above = subst (λ h. AreAbove h nearest.waiting.entry.row nearest.further) (sym history) above.2;
        history = history ∙ s.history;
        rows = s.rows ∙ ap length (sym history);
        words = subst (λ items. AreWords (words_in code.shared) state.world.memory items) (sym words) s.words;
      };
    }

-- without a parent
none_waits : (code : Code) (parents : List Parent) (others : List service.Parent) → AllWait code parents others → parents ≡ [] → others ≡ []
none_waits code [] [] all e = refl
none_waits code [] (first ∷ others) all e = absurd all
none_waits code (parent ∷ parents) others all e = absurd cc

pub is_done : (code : Code) (old new : Run) (state : State) → old.parents.items ≡ [] → (Stands code old state → Stands code new state) → Stands code old state → IsDone code state new Finished
is_done code old new state items same s = record {
  finished = refl;
  alone = none_waits code (reverse old.parents.items) state.waiting s.waiting (ap reverse items);
  stands = same s;
}
