-- What a frame's next want is like: an end is no request, and a sync leads to the same frame with its children's values in any order.
use Rattle.std.proofs.Common.{◌≡◌, ℕ, zero, suc, List, [], ◌∷◌, ◌++◌, length, Option, Some, None, refl, ap}
use Rattle.std.specs.List.Sorted.{IsPermutation}
use Rattle.std.specs.Prelude.{ℤ, ◌==◌, Bool, true, false, if◌then◌else◌, Result, Ok, Err, slice_get}
use Rattle.cilk_tree.specs.declared.tree.BinaryOp.{BinaryOp}
use Rattle.cilk_tree.specs.declared.tree.BinaryOp.TheVariants as op
use Rattle.cilk_tree.specs.declared.tree.UnaryOp.{UnaryOp}
use Rattle.cilk_tree.specs.declared.tree.UnaryOp.TheVariants as unary_op
use Rattle.cilk_meaning.specs.declared.ends.TrapKind.{TrapKind}
use Rattle.cilk_meaning.specs.declared.ends.TrapKind.TheVariants.{Overflow, TooDeep}
use Rattle.cilk_meaning.specs.Instance.{limits}
use Rattle.cilk_meaning.specs.Locals.{extent_of}
use Rattle.cilk_meaning.specs.Values.{negated, operated, word_of}
use Rattle.cilk_meaning.specs.Wants.{Want, Asks, Returns, Traps, Deposit, Answer, Children}
use Rattle.machine_code.specs.declared.code.Proc.{Proc}
use Rattle.machine_code.specs.declared.instr.Instr.{Instr}
use Rattle.machine_code.specs.declared.instr.Instr.TheVariants as instr
use Rattle.machine_code.specs.Machine.{Code, Activation, Frame, Move, GoesOn, Requests, Ends, Stuck}
use Rattle.machine_code.specs.Machine.{stored, popping, given, with_proc, binary, unary, returned, act, look}
use Rattle.machine_code.specs.Machine.{go_on, settle, remaining, settled, want_and, resumed, wants_for, start_frame, starts, starts_at}
use Rattle.sync_order.specs.Orders.{AreApart, targets_of}
use Rattle.sync_order.proofs.Depositing.{any_order}

abbrev pub IsEnd : Want → Type 0
IsEnd (Asks request) = ⊥
IsEnd (Returns value) = Unit {0}
IsEnd (Traps kind) = Unit {0}

-- The answer of a sync leads to one frame, in whatever order its values come.
abbrev pub IsFree : (Answer → Option Frame) → Type 0
IsFree follows = (first other : List Deposit) → AreApart (targets_of first) → IsPermutation first other → follows (Children first) ≡ follows (Children other)

abbrev pub Behaves : Move → Type 0
Behaves (GoesOn frame) = Unit {0}
Behaves (Requests request follows) = IsFree follows
Behaves (Ends want) = IsEnd want
Behaves Stuck = Unit {0}

-- what takes no children's values
free : (answer : Option Frame) → IsFree (λ it. answer)
free answer first other apart same = refl

pop_behaves : (operands : List ℤ) (next : ℤ → List ℤ → Move) → ((v : ℤ) (rest : List ℤ) → Behaves (next v rest)) → Behaves (popping operands next)
pop_behaves [] next behaves = tt
pop_behaves (v ∷ operands) next behaves = behaves v operands

given_behaves : {A : Type 0} (result : Result A TrapKind) (next : A → Move) → ((v : A) → Behaves (next v)) → Behaves (given result next)
given_behaves {A} (Ok v) next behaves = behaves v
given_behaves {A} (Err kind) next behaves = tt

trap_behaves : (b : Bool) (kind : TrapKind) (move : Move) → Behaves move → Behaves (if b then Ends (Traps kind) else move)
trap_behaves true kind move behaves = tt
trap_behaves false kind move behaves = behaves

proc_behaves : (proc : Option Proc) (next : Proc → Move) → ((proc : Proc) → Behaves (next proc)) → Behaves (with_proc proc next)
proc_behaves None next behaves = tt
proc_behaves (Some proc) next behaves = behaves proc

module _ (code : Code) where
  binary_behaves : (f : Frame) (operator : BinaryOp) → Behaves (binary f operator)
  binary_behaves f operator = pop_behaves f.running.operands _ (λ y below. pop_behaves below _ (λ x rest. given_behaves (operated operator x y) _ (λ v. tt)))

  unary_behaves : (f : Frame) (operator : UnaryOp) → Behaves (unary f operator)
  unary_behaves f operator = pop_behaves f.running.operands _ (λ x rest. given_behaves (negated operator x) _ (λ v. tt))

  return_behaves : (f : Frame) (v : ℤ) (callers : List Activation) → Behaves (returned f v callers)
  return_behaves f v [] = tt
  return_behaves f v (caller ∷ callers) = tt

  act_behaves : (f : Frame) (o : Option Instr) → Behaves (act code f o)
  act_behaves f None = tt
  act_behaves f (Some (instr.Const v)) = tt
  act_behaves f (Some (instr.Load k)) = tt
  act_behaves f (Some (instr.Store k)) = pop_behaves f.running.operands _ (λ v rest. tt)
  act_behaves f (Some instr.Pop) = pop_behaves f.running.operands _ (λ v rest. tt)
  act_behaves f (Some instr.Add) = binary_behaves f op.Add
  act_behaves f (Some instr.Sub) = binary_behaves f op.Sub
  act_behaves f (Some instr.Mul) = binary_behaves f op.Mul
  act_behaves f (Some instr.Div) = binary_behaves f op.Div
  act_behaves f (Some instr.Rem) = binary_behaves f op.Rem
  act_behaves f (Some instr.Neg) = unary_behaves f unary_op.Neg
  act_behaves f (Some instr.Not) = unary_behaves f unary_op.Not
  act_behaves f (Some instr.Eq) = binary_behaves f op.Eq
  act_behaves f (Some instr.Ne) = binary_behaves f op.Ne
  act_behaves f (Some instr.Lt) = binary_behaves f op.Lt
  act_behaves f (Some instr.Le) = binary_behaves f op.Le
  act_behaves f (Some instr.Gt) = binary_behaves f op.Gt
  act_behaves f (Some instr.Ge) = binary_behaves f op.Ge
  act_behaves f (Some (instr.Jump to)) = tt
  act_behaves f (Some (instr.JumpIfZero to)) = pop_behaves f.running.operands _ (λ v rest. tt)
  act_behaves f (Some (instr.ReadShared array)) =
      pop_behaves f.running.operands _ (λ i rest. given_behaves (word_of (extent_of code.shared array) i) _ (λ word. free None))
  act_behaves f (Some (instr.WriteShared array)) =
      pop_behaves f.running.operands _
      (λ v below. pop_behaves below _ (λ i rest. given_behaves (word_of (extent_of code.shared array) i) _ (λ word. free None)))
  act_behaves f (Some (instr.AddShared array)) =
      pop_behaves f.running.operands _
      (λ addend below. pop_behaves below _ (λ i rest. given_behaves (word_of (extent_of code.shared array) i) _ (λ word. free None)))
  act_behaves f (Some instr.PrintTop) = pop_behaves f.running.operands _ (λ v rest. free None)
  act_behaves f (Some instr.Turn) = free None
  act_behaves f (Some (instr.Call procedure)) =
      proc_behaves (slice_get code.procs procedure) _ (λ proc. trap_behaves (length f.callers == limits.calls) TooDeep _ (free None))
  act_behaves f (Some (instr.Spawn procedure target)) =
      proc_behaves (slice_get code.procs procedure) _ (λ proc. trap_behaves (f.depth == limits.depth) TooDeep _ (free None))
  act_behaves f (Some instr.SyncAll) = λ first other apart same.
      ap (λ locals. Some (stored f locals f.running.operands)) (any_order first other apart same f.running.locals)
  act_behaves f (Some instr.Return) = pop_behaves f.running.operands _ (λ v rest. return_behaves f v f.callers)

  pub look_behaves : (f : Frame) → Behaves (look code f)
  look_behaves f = trap_behaves f.overflowed Overflow _ (act_behaves f (slice_get code.instrs f.running.pc))

  onward : (move : Move) (next : Frame → Move) → Behaves move → ((f : Frame) → Behaves (next f)) → Behaves (go_on move next)
  onward (GoesOn frame) next behaves later = later frame
  onward (Requests request follows) next behaves later = behaves
  onward (Ends want) next behaves later = behaves
  onward Stuck next behaves later = tt

  settle_behaves : (n : ℕ) (f : Frame) → Behaves (settle code n f)
  settle_behaves zero f = tt
  settle_behaves (suc n) f = onward (look code f) (settle code n) (look_behaves f) (settle_behaves n)

  pub settled_behaves : (f : Frame) → Behaves (settled code f)
  settled_behaves f = settle_behaves (suc (suc (remaining code f))) f

  -- ---- the wants of an instance

  module _ (first other : List Deposit) (apart : AreApart (targets_of first)) (same : IsPermutation first other) (rest : List Answer) where
    at_once : (move : Move) → Behaves move → want_and move (Children first) (wants_for code rest) ≡ want_and move (Children other) (wants_for code rest)
    at_once (GoesOn frame) behaves = refl
    at_once (Requests request follows) behaves = ap (λ frame. Asks request ∷ resumed frame (wants_for code rest)) (behaves first other apart same)
    at_once (Ends want) behaves = refl
    at_once Stuck behaves = refl

    resumed_so : (frame : Option Frame) (one two : Frame → List Want) → ((f : Frame) → one f ≡ two f) → resumed frame one ≡ resumed frame two
    resumed_so None one two equal = refl
    resumed_so (Some frame) one two equal = equal frame

    later : (move : Move) (answer : Answer) (one two : Frame → List Want) → ((f : Frame) → one f ≡ two f) → want_and move answer one ≡ want_and move answer two
    later (GoesOn frame) answer one two equal = refl
    later (Requests request follows) answer one two equal = ap (λ wants. Asks request ∷ wants) (resumed_so (follows answer) one two equal)
    later (Ends want) answer one two equal = refl
    later Stuck answer one two equal = refl

    pub frames_want : (answers : List Answer) (f : Frame)
        → wants_for code (answers ++ Children first ∷ rest) f ≡ wants_for code (answers ++ Children other ∷ rest) f
    frames_want [] f = at_once (settled code f) (settled_behaves f)
    frames_want (answer ∷ answers) f = later (settled code f) answer _ _ (frames_want answers)

    pub order_is_free : (depth procedure : ℕ) (arguments : List ℤ) (answers : List Answer) →
        starts code depth procedure arguments (answers ++ Children first ∷ rest) ≡ starts code depth procedure arguments (answers ++ Children other ∷ rest)
    order_is_free depth procedure arguments answers = at_proc (slice_get code.procs procedure)
      where
        at_proc : (proc : Option Proc) → starts_at code depth proc arguments (answers ++ Children first ∷ rest)
            ≡ starts_at code depth proc arguments (answers ++ Children other ∷ rest)
        at_proc None = refl
        at_proc (Some proc) = frames_want answers (start_frame proc arguments depth)
