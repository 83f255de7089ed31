-- Answers whose children's values came in any order lead a frame as the same ones in the order of the spawns.
use Rattle.std.proofs.Common.{◌≡◌, ℕ, List, [], ◌∷◌, ◌++◌, Option, Some, None, refl, sym, ap, ◌∙◌, subst}
use Rattle.std.proofs.lemmas.List.Sorted.{All-permutation, IsPermutation-refl, IsPermutation-sym}
use Rattle.std.specs.Prelude.{ℤ, true, slice_get}
use Rattle.cilk_meaning.specs.Alone.{Block, block_after, AllFit, Fits, IsValue}
use Rattle.cilk_meaning.specs.Instance as instance
use Rattle.cilk_meaning.specs.Resolved.{Program}
use Rattle.cilk_meaning.specs.Wants.{Request, Read, Write, Add, Print, Spawn, Sync, Call, LoopTurn, suits, Want, Asks, Returns, Traps, Deposit, Answer, Value, Children, Done}
use Rattle.machine_code.specs.Early.{TakesEarly}
use Rattle.machine_code.specs.Machine.{Code, Frame, Move, GoesOn, Requests, Ends, Stuck, last_want, resumed, settled, start_frame, starts, starts_at, want_and, wants_for}
use Rattle.machine_code.specs.StandsFor.{StandsFor}
use Rattle.machine_code.specs.declared.code.Proc.{Proc}
use Rattle.sync_order.specs.Orders.{AllFitInAnyOrder, AreApart, AreFittingInAnyOrder, AreSame, FitsInAnyOrder, GoesAsOrdered, IsSame}
use Rattle.sync_order.proofs.Blocks.{Came, Leads, came_first, settled_leads}
use Rattle.sync_order.proofs.Moving.{IsFree}

same_answer : (answer : Answer) → IsSame answer answer
same_answer (Value value) = refl
same_answer (Children deposits) = IsPermutation-refl deposits
same_answer Done = refl

same_answers : (answers : List Answer) → AreSame answers answers
same_answers [] = tt
same_answers (answer ∷ answers) = (same_answer answer, same_answers answers)

-- ---- one answer

-- what suits is not seen from the values
suits_so : (request : Request) (ordered deposits : List Deposit) → suits request (Children deposits) ≡ true → suits request (Children ordered) ≡ true
suits_so (Read word) ordered deposits is = absurd cc
suits_so (Write word value) ordered deposits is = absurd cc
suits_so (Add word addend) ordered deposits is = absurd cc
suits_so (Print value) ordered deposits is = absurd cc
suits_so (Spawn target procedure arguments) ordered deposits is = absurd cc
suits_so Sync ordered deposits is = refl
suits_so Call ordered deposits is = absurd cc
suits_so LoopTurn ordered deposits is = absurd cc

record OneOrdered (block : Block) (request : Request) (follows : Answer → Option Frame) (answer : Answer) : Type 0 where
  first : Answer
  same : IsSame first answer
  fits : Fits block request first
  led : follows first ≡ follows answer

one_ordered : (block : Block) (request : Request) (follows : Answer → Option Frame) (answer : Answer) → AreApart block → IsFree follows
    → FitsInAnyOrder block request answer →
    OneOrdered block request follows answer
one_ordered block request follows (Value value) apart is_free fit =
    record { first = Value value; same = refl; fits = record { suits = fit.suits; values = fit.values; children = tt }; led = refl }
one_ordered block request follows Done apart is_free fit =
    record { first = Done; same = refl; fits = record { suits = fit.suits; values = fit.values; children = tt }; led = refl }
one_ordered block request follows (Children deposits) apart is_free fit =
    let ordered = fit.children.ordered in
    record {
      first = Children ordered;
      same = fit.children.same;
      fits = record {
        suits = suits_so request ordered deposits fit.suits;
        values = All-permutation (λ (deposit : Deposit). IsValue deposit.1) deposits ordered (IsPermutation-sym ordered deposits fit.children.same) fit.values;
        children = fit.children.targets;
      };
      led = is_free ordered deposits (subst AreApart (sym fit.children.targets) apart) fit.children.same;
    }

module _ (code : Code) (early : TakesEarly code) (depth procedure : ℕ) (arguments : List ℤ) where
  -- the answers of a frame
  record AllOrdered (block : Block) (f : Frame) (answers : List Answer) : Type 0 where
    ordered : List Answer
    same : AreSame ordered answers
    fits : AllFit block (wants_for code ordered f) ordered
    goes : (rest : List Answer) → wants_for code (ordered ++ rest) f ≡ wants_for code (answers ++ rest) f

  -- those behind an answer that led here
  record RestOrdered (block : Block) (frame : Option Frame) (answers : List Answer) : Type 0 where
    ordered : List Answer
    same : AreSame ordered answers
    fits : AllFit block (resumed frame (wants_for code ordered)) ordered
    goes : (rest : List Answer) → resumed frame (wants_for code (ordered ++ rest)) ≡ resumed frame (wants_for code (answers ++ rest))

  -- those of a frame that does this next
  record MoveOrdered (block : Block) (move : Move) (answer : Answer) (answers : List Answer) : Type 0 where
    first : Answer
    ordered : List Answer
    same : AreSame (first ∷ ordered) (answer ∷ answers)
    fits : AllFit block (want_and move first (wants_for code ordered)) (first ∷ ordered)
    goes : (rest : List Answer) → want_and move first (wants_for code (ordered ++ rest)) ≡ want_and move answer (wants_for code (answers ++ rest))

  rest_ordered : (block : Block) (frame : Option Frame) (answers : List Answer) → AllFitInAnyOrder block (resumed frame (wants_for code answers)) answers →
      ((g : Frame) → frame ≡ Some g → AllFitInAnyOrder block (wants_for code answers g) answers → AllOrdered block g answers) → RestOrdered block frame answers
  rest_ordered block None answers fit later = record { ordered = answers; same = same_answers answers; fits = tt; goes = λ rest. refl }
  rest_ordered block (Some g) answers fit later =
      let all = later g refl fit in record { ordered = all.ordered; same = all.same; fits = all.fits; goes = all.goes }

  request_ordered : (block : Block) (request : Request) (follows : Answer → Option Frame) (answer : Answer) (answers : List Answer)
      → OneOrdered block request follows answer →
      RestOrdered (block_after request block) (follows answer) answers → MoveOrdered block (Requests request follows) answer answers
  request_ordered block request follows answer answers one behind = record {
    first = one.first;
    ordered = behind.ordered;
    same = (one.same, behind.same);
    fits = (
      one.fits,
      subst (λ frame. AllFit (block_after request block) (resumed frame (wants_for code behind.ordered)) behind.ordered)
          (sym one.led) behind.fits,
    );
    goes =
        λ rest. ap (λ frame. Asks request ∷ resumed frame (wants_for code (behind.ordered ++ rest))) one.led
        ∙ ap (λ wants. Asks request ∷ wants) (behind.goes rest);
  }

  nothing_behind : (block : Block) (want : Want) (answer : Answer) (answers : List Answer) → AllFitInAnyOrder block (want ∷ []) (answer ∷ answers) →
      Leads code early depth procedure arguments block (Ends want) → ⊥
  nothing_behind block (Asks request) answer answers fit end = end
  nothing_behind block (Returns value) answer answers fit end = cc
  nothing_behind block (Traps kind) answer answers fit end = cc

  move_ordered : (block : Block) (move : Move) (answer : Answer) (answers : List Answer) → AreApart block
      → Leads code early depth procedure arguments block move →
      AllFitInAnyOrder block (want_and move answer (wants_for code answers)) (answer ∷ answers) →
      ((after : Block) (g : Frame) → Came code early depth procedure arguments after g → AllFitInAnyOrder after (wants_for code answers g) answers
      → AllOrdered after g answers) →
      MoveOrdered block move answer answers
  move_ordered block (GoesOn f) answer answers apart leads fit later =
      record { first = answer; ordered = answers; same = same_answers (answer ∷ answers); fits = tt; goes = λ rest. refl }
  move_ordered block (Requests request follows) answer answers apart leads fit later =
      request_ordered block request follows answer answers (one_ordered block request follows answer apart leads.is_free fit.0)
      (rest_ordered (block_after request block) (follows answer) answers fit.1
      (λ g led fits. later (block_after request block) g (leads.comes answer g led) fits))
  move_ordered block (Ends want) answer answers apart leads fit later = absurd (nothing_behind block want answer answers fit leads)
  move_ordered block Stuck answer answers apart leads fit later =
      record { first = answer; ordered = answers; same = same_answers (answer ∷ answers); fits = tt; goes = λ rest. refl }

  last_fits : (block : Block) (move : Move) → Leads code early depth procedure arguments block move → AllFit block (last_want move) []
  last_fits block (GoesOn f) leads = tt
  last_fits block (Requests request follows) leads = tt
  last_fits block (Ends (Asks request)) leads = absurd leads
  last_fits block (Ends (Returns value)) leads = refl
  last_fits block (Ends (Traps kind)) leads = refl
  last_fits block Stuck leads = tt

  all_ordered : (answers : List Answer) (block : Block) (f : Frame) → Came code early depth procedure arguments block f →
      AllFitInAnyOrder block (wants_for code answers f) answers → AllOrdered block f answers
  all_ordered [] block f came fit =
      record {
        ordered = [];
        same = tt;
        fits = last_fits block (settled code f) (settled_leads code early depth procedure arguments block f came);
        goes = λ rest. refl;
      }
  all_ordered (answer ∷ answers) block f came fit =
      let leads = settled_leads code early depth procedure arguments block f came in
      let all = move_ordered block (settled code f) answer answers came.apart leads fit (λ after g comes fits. all_ordered answers after g comes fits) in
      record { ordered = all.first ∷ all.ordered; same = all.same; fits = all.fits; goes = all.goes }

  -- ---- of an instance

  record StartOrdered (answers : List Answer) : Type 0 where
    ordered : List Answer
    same : AreSame ordered answers
    fits : AllFit [] (starts code depth procedure arguments ordered) ordered
    goes : (rest : List Answer) → starts code depth procedure arguments (ordered ++ rest) ≡ starts code depth procedure arguments (answers ++ rest)

  start_ordered : (answers : List Answer) → AllFitInAnyOrder [] (starts code depth procedure arguments answers) answers → StartOrdered answers
  start_ordered answers fit = at_proc (slice_get code.procs procedure) refl
    where
      at_proc : (proc : Option Proc) → slice_get code.procs procedure ≡ proc → StartOrdered answers
      at_proc None is =
          record {
            ordered = answers;
            same = same_answers answers;
            fits = let behind : answers ≡ [] = subst (λ it. AllFitInAnyOrder [] (starts_at code depth it arguments answers) answers) is fit in
                subst (λ it. AllFit [] (starts_at code depth it arguments answers) answers) (sym is) behind;
            goes = λ rest. refl;
          }
      at_proc (Some proc) is =
          let f = start_frame proc arguments depth in
          let came = came_first code early depth procedure arguments proc is in
          let all = all_ordered answers [] f came (subst (λ it. AllFitInAnyOrder [] (starts_at code depth it arguments answers) answers) is fit) in
          record {
            ordered = all.ordered;
            same = all.same;
            fits = subst (λ it. AllFit [] (starts_at code depth it arguments all.ordered) all.ordered) (sym is) all.fits;
            goes =
                λ rest. subst (λ it. starts_at code depth it arguments (all.ordered ++ rest) ≡ starts_at code depth it arguments (answers ++ rest)) (sym is)
                (all.goes rest);
          }

-- ---- of a program

module _ (code : Code) (program : Program) (stands : StandsFor code program) (depth procedure : ℕ) (arguments : List ℤ) where
  as_program : (answers : List Answer) → starts code depth procedure arguments answers ≡ instance.wants program depth procedure arguments answers
  as_program answers = ap (λ begins. begins depth procedure arguments answers) stands.wants

  -- all of them
  pub goes_as_ordered : (answers : List Answer) → AreFittingInAnyOrder program depth procedure arguments answers
      → GoesAsOrdered program depth procedure arguments answers
  goes_as_ordered answers fit =
      let all = start_ordered code stands.early depth procedure arguments answers
      (subst (λ wants. AllFitInAnyOrder [] wants answers) (sym (as_program answers)) fit) in
      record {
        ordered = all.ordered;
        same = all.same;
        fitting = subst (λ wants. AllFit [] wants all.ordered) (as_program all.ordered) all.fits;
        goes = λ rest. sym (as_program (all.ordered ++ rest)) ∙ all.goes rest ∙ as_program (answers ++ rest);
      }
