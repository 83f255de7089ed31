-- A frame with early values and one without go in step.
use Rattle.std.proofs.Common.{◌≡◌, ◌≢◌, ℕ, zero, suc, ◌+◌, ◌-◌, ◌*◌, List, [], ◌∷◌, ◌++◌, length, Option, Some, None, refl, sym, ap, ◌∙◌, subst}
use Rattle.std.proofs.lemmas.List.{get_or-set_other}
use Rattle.std.specs.Prelude.{ℤ, pos, ◌==◌, Bool, true, false, if◌then◌else◌, Result, Ok, Err, slice_get, slice_set, drop}
use Rattle.cilk_tree.specs.declared.tree.BinaryOp.{BinaryOp}
use Rattle.cilk_tree.specs.declared.tree.BinaryOp.TheVariants as op
use Rattle.cilk_tree.specs.declared.tree.UnaryOp.{UnaryOp}
use Rattle.cilk_tree.specs.declared.tree.UnaryOp.TheVariants as unary_op
use Rattle.cilk_meaning.specs.declared.ends.TrapKind.{TrapKind}
use Rattle.cilk_meaning.specs.declared.ends.TrapKind.TheVariants.{Overflow, TooDeep}
use Rattle.cilk_meaning.specs.Instance.{limits}
use Rattle.cilk_meaning.specs.Locals.{Locals, local_at, assigned, deposited, extent_of}
use Rattle.cilk_meaning.specs.Values.{is_zero, negated, operated, word_of}
use Rattle.cilk_meaning.specs.Wants as want
use Rattle.cilk_meaning.specs.Wants.{Request, Want, Asks, Traps, Deposit, Answer, Value, Children, Done}
use Rattle.machine_code.specs.declared.code.Proc.{Proc}
use Rattle.machine_code.specs.declared.instr.Instr.{Instr}
use Rattle.machine_code.specs.declared.instr.Instr.TheVariants as instr
use Rattle.machine_code.specs.Early.{own, own_callers, with_values, at_sync}
use Rattle.machine_code.specs.Machine.{Code, Activation, Frame, Move, GoesOn, Requests, Ends, Stuck, next_with, stored, popping, given, limited, on_value, on_children, on_done, with_proc, binary, unary, called, returned, added, arguments_on, act, look, go_on, settle, remaining, settled, last_want, want_and, resumed, wants_for}
use Rattle.compiled_code.specs.Safe.{Set}
use Rattle.compiled_code.proofs.Marks.{IsWithin, Targets, Marks, Flows, Waits, IsMarked, AreMarks, MayWait}

pub deposited_more : (ds more : List Deposit) (l : Locals) → deposited (ds ++ more) l ≡ deposited more (deposited ds l)
deposited_more [] more l = refl
deposited_more (d ∷ ds) more l = deposited_more ds more (assigned d.0 d.1 l)

set_apart : (l : Locals) (i j : ℕ) (x y : ℤ) → i ≢ j → slice_set (slice_set l i x) j y ≡ slice_set (slice_set l j y) i x
set_apart [] i j x y ne = refl
set_apart (z ∷ l) zero zero x y ne = absurd (ne refl)
set_apart (z ∷ l) zero (suc j) x y ne = refl
set_apart (z ∷ l) (suc i) zero x y ne = refl
set_apart (z ∷ l) (suc i) (suc j) x y ne = ap (λ r. z ∷ r) (set_apart l i j x y (λ e. ne (ap suc e)))

-- a local that is no target
no_target : (set : Set) (target : Option ℕ) (k t : ℕ) → ((j : ℕ) → target ≡ Some j → set j ≡ true) → set k ≡ false → target ≡ Some t → t ≢ k
no_target set target k t h out e same = let a = h t e in let b : set t ≡ false = ap set same ∙ out in cc

assigned_apart : (set : Set) (target : Option ℕ) (x : ℤ) (k : ℕ) (l : Locals) → ((j : ℕ) → target ≡ Some j → set j ≡ true) → set k ≡ false → local_at (assigned target x l) k ≡ local_at l k
assigned_apart set None x k l h out = refl
assigned_apart set (Some t) x k l h out = get_or-set_other l t k x (pos 0) (λ e. no_target set (Some t) k t h out refl (sym e))

assigned_set : (set : Set) (target : Option ℕ) (x : ℤ) (k : ℕ) (v : ℤ) (l : Locals) → ((j : ℕ) → target ≡ Some j → set j ≡ true) → set k ≡ false →
    slice_set (assigned target x l) k v ≡ assigned target x (slice_set l k v)
assigned_set set None x k v l h out = refl
assigned_set set (Some t) x k v l h out = set_apart l t k x v (no_target set (Some t) k t h out refl)

deposited_apart : (set : Set) (ds : List Deposit) (k : ℕ) (l : Locals) → Targets set ds → set k ≡ false → local_at (deposited ds l) k ≡ local_at l k
deposited_apart set [] k l h out = refl
deposited_apart set (d ∷ ds) k l h out = deposited_apart set ds k (assigned d.0 d.1 l) h.1 out ∙ assigned_apart set d.0 d.1 k l h.0 out

deposited_set : (set : Set) (ds : List Deposit) (k : ℕ) (v : ℤ) (l : Locals) → Targets set ds → set k ≡ false → slice_set (deposited ds l) k v ≡ deposited ds (slice_set l k v)
deposited_set set [] k v l h out = refl
deposited_set set (d ∷ ds) k v l h out = deposited_set set ds k v (assigned d.0 d.1 l) h.1 out ∙ ap (λ r. deposited ds r) (assigned_set set d.0 d.1 k v l h.0 out)

pub not_within : (few many : Set) (k : ℕ) → IsWithin few many → many k ≡ false → few k ≡ false
not_within few many k h out = go (few k) refl
  where
    go : (x : Bool) → few k ≡ x → few k ≡ false
    go true e = absurd (let y = h k e in cc)
    go false e = e

same_size : (ds : List Deposit) (cs : List Activation) → length (own_callers ds cs) ≡ length cs
same_size ds [] = refl
same_size ds (c ∷ cs) = ap suc (same_size ds cs)

-- the answer that holds the early values too
abbrev pub with_more : List Deposit → Answer → Answer
with_more ds (Value v) = Value v
with_more ds Done = Done
with_more ds (Children more) = Children (ds ++ more)

abbrev pub mapped : List Deposit → Option Frame → Option Frame
mapped ds None = None
mapped ds (Some f) = Some (with_values ds f)

-- what follows an answer, where there are early values: at a sync they come with the answer
abbrev pub shift_next : List Deposit → Request → (Answer → Option Frame) → Answer → Option Frame
shift_next ds want.Sync k answer = k (with_more ds answer)
shift_next ds (want.Read w) k answer = mapped ds (k answer)
shift_next ds (want.Write w v) k answer = mapped ds (k answer)
shift_next ds (want.Add w v) k answer = mapped ds (k answer)
shift_next ds (want.Print v) k answer = mapped ds (k answer)
shift_next ds (want.Spawn t f vs) k answer = mapped ds (k answer)
shift_next ds want.Call k answer = mapped ds (k answer)
shift_next ds want.LoopTurn k answer = mapped ds (k answer)

abbrev pub shifted : List Deposit → Move → Move
shifted ds (GoesOn f) = GoesOn (with_values ds f)
shifted ds (Requests request k) = Requests request (shift_next ds request k)
shifted ds (Ends want) = Ends want
shifted ds Stuck = Stuck

done_shift : (ds : List Deposit) (g : Frame) (answer : Answer) → on_done (with_values ds g) answer ≡ mapped ds (on_done g answer)
done_shift ds g (Value v) = refl
done_shift ds g Done = refl
done_shift ds g (Children more) = refl

value_shift : (ds : List Deposit) (g : ℤ → Frame) (answer : Answer) → on_value (λ v. with_values ds (g v)) answer ≡ mapped ds (on_value g answer)
value_shift ds g (Value v) = refl
value_shift ds g Done = refl
value_shift ds g (Children more) = refl

pop_shift : (ds : List Deposit) (ops : List ℤ) (next next' : ℤ → List ℤ → Move) → ((v : ℤ) (rest : List ℤ) → next' v rest ≡ shifted ds (next v rest)) → popping ops next' ≡ shifted ds (popping ops next)
pop_shift ds [] next next' h = refl
pop_shift ds (v ∷ ops) next next' h = h v ops

given_shift : {A : Type 0} (ds : List Deposit) (r : Result A TrapKind) (next next' : A → Move) → ((v : A) → next' v ≡ shifted ds (next v)) → given r next' ≡ shifted ds (given r next)
given_shift {A} ds (Ok v) next next' h = h v
given_shift {A} ds (Err kind) next next' h = refl

proc_shift : (ds : List Deposit) (o : Option Proc) (next next' : Proc → Move) → ((p : Proc) → next' p ≡ shifted ds (next p)) → with_proc o next' ≡ shifted ds (with_proc o next)
proc_shift ds None next next' h = refl
proc_shift ds (Some p) next next' h = h p

if_shift : (ds : List Deposit) (b : Bool) (kind : TrapKind) (m m' : Move) → m' ≡ shifted ds m → (if b then Ends (Traps kind) else m') ≡ shifted ds (if b then Ends (Traps kind) else m)
if_shift ds true kind m m' h = refl
if_shift ds false kind m m' h = h

binary_shift : (ds : List Deposit) (f : Frame) (operator : BinaryOp) → binary (with_values ds f) operator ≡ shifted ds (binary f operator)
binary_shift ds f operator = pop_shift ds f.running.operands _ _ (λ y below. pop_shift ds below _ _ (λ x rest. given_shift ds (operated operator x y) _ _ (λ v. refl)))

unary_shift : (ds : List Deposit) (f : Frame) (operator : UnaryOp) → unary (with_values ds f) operator ≡ shifted ds (unary f operator)
unary_shift ds f operator = pop_shift ds f.running.operands _ _ (λ x rest. given_shift ds (negated operator x) _ _ (λ v. refl))

module _ (code : Code) (marks : Marks) (set : Set) (ds : List Deposit) (targets : Targets set ds) where
  load_same : (cs : List Activation) (pc k : ℕ) (l : Locals) → MayWait marks set cs pc → marks.waiting pc k ≡ false → local_at (own ds cs l) k ≡ local_at l k
  load_same [] pc k l h out = deposited_apart set ds k l targets (not_within set (marks.waiting pc) k h out)
  load_same (c ∷ cs) pc k l h out = refl

  store_same : (cs : List Activation) (pc k : ℕ) (v : ℤ) (l : Locals) → MayWait marks set cs pc → marks.waiting pc k ≡ false → slice_set (own ds cs l) k v ≡ own ds cs (slice_set l k v)
  store_same [] pc k v l h out = deposited_set set ds k v l targets (not_within set (marks.waiting pc) k h out)
  store_same (c ∷ cs) pc k v l h out = refl

  sync_shift : (r : Activation) (cs : List Activation) (depth : ℕ) (overflowed : Bool) → MayWait marks set cs r.pc → marks.plain r.pc ≡ false → (answer : Answer) →
      on_children (λ more. record { running = record r { pc = suc r.pc; locals = deposited more (own ds cs r.locals) }; callers = own_callers ds cs; depth = depth; overflowed = overflowed }) answer
      ≡ on_children (λ more. record { running = record r { pc = suc r.pc; locals = deposited more r.locals }; callers = cs; depth = depth; overflowed = overflowed }) (with_more ds answer)
  sync_shift r cs depth overflowed h out (Value v) = refl
  sync_shift r cs depth overflowed h out Done = refl
  sync_shift r [] depth overflowed h out (Children more) =
      ap (λ x. Some (record { running = record r { pc = suc r.pc; locals = x }; callers = []; depth = depth; overflowed = overflowed })) (sym (deposited_more ds more r.locals))
  sync_shift r (c ∷ cs) depth overflowed h out (Children more) = absurd (let a = h.0 in cc)

  returned_shift : (f : Frame) (v : ℤ) (cs : List Activation) → returned (with_values ds f) v (own_callers ds cs) ≡ shifted ds (returned f v cs)
  returned_shift f v [] = refl
  returned_shift f v (c ∷ cs) = refl

  act_shift : (f : Frame) (o : Option Instr) → MayWait marks set f.callers f.running.pc → ((i : Instr) → o ≡ Some i → IsMarked code marks f.running.pc i) →
      act code (with_values ds f) o ≡ shifted ds (act code f o)
  act_shift f None p m = refl
  act_shift f (Some (instr.Const v)) p m = refl
  act_shift f (Some (instr.Load k)) p m =
      ap (λ x. GoesOn (with_values ds (next_with f (x ∷ f.running.operands)))) (load_same f.callers f.running.pc k f.running.locals p (m (instr.Load k) refl).0)
  act_shift f (Some (instr.Store k)) p m = pop_shift ds f.running.operands _ _ (λ v rest.
      ap (λ x. GoesOn (stored (with_values ds f) x rest)) (store_same f.callers f.running.pc k v f.running.locals p (m (instr.Store k) refl).0))
  act_shift f (Some instr.Pop) p m = pop_shift ds f.running.operands _ _ (λ v rest. refl)
  act_shift f (Some instr.Add) p m = binary_shift ds f op.Add
  act_shift f (Some instr.Sub) p m = binary_shift ds f op.Sub
  act_shift f (Some instr.Mul) p m = binary_shift ds f op.Mul
  act_shift f (Some instr.Div) p m = binary_shift ds f op.Div
  act_shift f (Some instr.Rem) p m = binary_shift ds f op.Rem
  act_shift f (Some instr.Neg) p m = unary_shift ds f unary_op.Neg
  act_shift f (Some instr.Not) p m = unary_shift ds f unary_op.Not
  act_shift f (Some instr.Eq) p m = binary_shift ds f op.Eq
  act_shift f (Some instr.Ne) p m = binary_shift ds f op.Ne
  act_shift f (Some instr.Lt) p m = binary_shift ds f op.Lt
  act_shift f (Some instr.Le) p m = binary_shift ds f op.Le
  act_shift f (Some instr.Gt) p m = binary_shift ds f op.Gt
  act_shift f (Some instr.Ge) p m = binary_shift ds f op.Ge
  act_shift f (Some (instr.Jump to)) p m = refl
  act_shift f (Some (instr.JumpIfZero to)) p m = pop_shift ds f.running.operands _ _ (λ v rest. refl)
  act_shift f (Some (instr.ReadShared a)) p m = pop_shift ds f.running.operands _ _ (λ i rest. given_shift ds (word_of (extent_of code.shared a) i) _ _ (λ word.
      ap (λ k. Requests (want.Read word) k) (λ j answer. value_shift ds (λ v. next_with f (v ∷ rest)) answer j)))
  act_shift f (Some (instr.WriteShared a)) p m = pop_shift ds f.running.operands _ _ (λ v below. pop_shift ds below _ _ (λ i rest. given_shift ds (word_of (extent_of code.shared a) i) _ _ (λ word.
      ap (λ k. Requests (want.Write word v) k) (λ j answer. done_shift ds (next_with f rest) answer j))))
  act_shift f (Some (instr.AddShared a)) p m = pop_shift ds f.running.operands _ _ (λ v below. pop_shift ds below _ _ (λ i rest. given_shift ds (word_of (extent_of code.shared a) i) _ _ (λ word.
      ap (λ k. Requests (want.Add word v) k) (λ j answer. value_shift ds (added f v rest) answer j))))
  act_shift f (Some instr.PrintTop) p m = pop_shift ds f.running.operands _ _ (λ v rest. ap (λ k. Requests (want.Print v) k) (λ j answer. done_shift ds (next_with f rest) answer j))
  act_shift f (Some instr.Turn) p m = ap (λ k. Requests want.LoopTurn k) (λ j answer. done_shift ds (next_with f f.running.operands) answer j)
  act_shift f (Some (instr.Call q)) p m = proc_shift ds (slice_get code.procs q) _ _ (λ proc.
      ap (λ n. limited limits.calls n (Requests want.Call (on_done (called (with_values ds f) proc)))) (same_size ds f.callers)
      ∙ if_shift ds (length f.callers == limits.calls) TooDeep _ _ (ap (λ k. Requests want.Call k) (λ j answer. done_shift ds (called f proc) answer j)))
  act_shift f (Some (instr.Spawn q target)) p m = proc_shift ds (slice_get code.procs q) _ _ (λ proc.
      if_shift ds (f.depth == limits.depth) TooDeep _ _ (ap (λ k. Requests (want.Spawn target q (arguments_on proc.params f.running.operands)) k)
      (λ j answer. done_shift ds (next_with f (drop proc.params f.running.operands)) answer j)))
  act_shift f (Some instr.SyncAll) p m = ap (λ k. Requests want.Sync k) (λ j answer. sync_shift f.running f.callers f.depth f.overflowed p (m instr.SyncAll refl) answer j)
  act_shift f (Some instr.Return) p m = pop_shift ds f.running.operands _ _ (λ v rest. returned_shift f v f.callers)

-- Where these locals of the frame's own function may wait, they may wait behind each step, and behind each answer but that of a sync.
module _ (code : Code) (marks : Marks) (set : Set) where
  flow : (cs : List Activation) (pc next : ℕ) → Flows marks pc next → MayWait marks set cs pc → MayWait marks set cs next
  flow [] pc next f h = λ k e. f.0 k (h k e)
  flow (c ∷ cs) pc next f h = (f.1 h.0, h.1)

  abbrev pub FollowerWaits : Option Frame → Type 0
  FollowerWaits None = Unit {0}
  FollowerWaits (Some g) = MayWait marks set g.callers g.running.pc

  -- what an answer leads to, at a sync and elsewhere
  abbrev pub PlainAnswer : Answer → Option Frame → Type 0
  PlainAnswer (Value v) o = FollowerWaits o
  PlainAnswer Done o = FollowerWaits o
  PlainAnswer (Children more) o = o ≡ None

  -- behind a sync the frame's own function runs
  abbrev pub InOwn : Option Frame → Type 0
  InOwn None = Unit {0}
  InOwn (Some g) = g.callers ≡ []

  abbrev pub SyncAnswer : Answer → Option Frame → Type 0
  SyncAnswer (Value v) o = o ≡ None
  SyncAnswer Done o = o ≡ None
  SyncAnswer (Children more) o = InOwn o

  -- a spawn's target waits for no other child, and may wait behind the spawn
  abbrev pub TargetWaits : Option ℕ → Option Frame → Type 0
  TargetWaits None o = Unit {0}
  TargetWaits (Some target) None = Unit {0}
  TargetWaits (Some target) (Some g) = (g.callers ≡ []) × (marks.waiting g.running.pc target ≡ true)

  abbrev pub IsFree : Option ℕ → Type 0
  IsFree None = Unit {0}
  IsFree (Some target) = set target ≡ false

  abbrev pub Answers : Request → (Answer → Option Frame) → Type 0
  Answers want.Sync k = (answer : Answer) → SyncAnswer answer (k answer)
  Answers (want.Read w) k = (answer : Answer) → PlainAnswer answer (k answer)
  Answers (want.Write w v) k = (answer : Answer) → PlainAnswer answer (k answer)
  Answers (want.Add w v) k = (answer : Answer) → PlainAnswer answer (k answer)
  Answers (want.Print v) k = (answer : Answer) → PlainAnswer answer (k answer)
  Answers (want.Spawn t f vs) k = ((answer : Answer) → PlainAnswer answer (k answer)) × IsFree t × ((answer : Answer) → TargetWaits t (k answer))
  Answers want.Call k = (answer : Answer) → PlainAnswer answer (k answer)
  Answers want.LoopTurn k = (answer : Answer) → PlainAnswer answer (k answer)

  abbrev pub StepWaits : Move → Type 0
  StepWaits (GoesOn g) = MayWait marks set g.callers g.running.pc
  StepWaits (Requests request k) = Answers request k
  StepWaits (Ends want) = Unit {0}
  StepWaits Stuck = Unit {0}

  done_waits : (g : Frame) → MayWait marks set g.callers g.running.pc → (answer : Answer) → PlainAnswer answer (on_done g answer)
  done_waits g h (Value v) = tt
  done_waits g h Done = h
  done_waits g h (Children more) = refl

  value_waits : (g : ℤ → Frame) → ((v : ℤ) → MayWait marks set (g v).callers (g v).running.pc) → (answer : Answer) → PlainAnswer answer (on_value g answer)
  value_waits g h (Value v) = h v
  value_waits g h Done = tt
  value_waits g h (Children more) = refl

  children_waits : (g : List Deposit → Frame) → ((ds : List Deposit) → (g ds).callers ≡ []) → (answer : Answer) → SyncAnswer answer (on_children g answer)
  children_waits g h (Value v) = refl
  children_waits g h Done = refl
  children_waits g h (Children more) = h more

  pop_waits : (ops : List ℤ) (next : ℤ → List ℤ → Move) → ((v : ℤ) (rest : List ℤ) → StepWaits (next v rest)) → StepWaits (popping ops next)
  pop_waits [] next h = tt
  pop_waits (v ∷ ops) next h = h v ops

  given_waits : {A : Type 0} (r : Result A TrapKind) (next : A → Move) → ((v : A) → StepWaits (next v)) → StepWaits (given r next)
  given_waits {A} (Ok v) next h = h v
  given_waits {A} (Err kind) next h = tt

  if_waits : (b : Bool) (kind : TrapKind) (m : Move) → StepWaits m → StepWaits (if b then Ends (Traps kind) else m)
  if_waits true kind m h = tt
  if_waits false kind m h = h

  choose : (cs : List Activation) (pc next other : ℕ) (b : Bool) → Flows marks pc next → Flows marks pc other → MayWait marks set cs pc → MayWait marks set cs (if b then next else other)
  choose cs pc next other true f g h = flow cs pc next f h
  choose cs pc next other false f g h = flow cs pc other g h

  returned_waits : (f : Frame) (v : ℤ) (cs : List Activation) (pc : ℕ) → MayWait marks set cs pc → StepWaits (returned f v cs)
  returned_waits f v [] pc h = tt
  returned_waits f v (c ∷ cs) pc h = h.1

  -- an instruction of a `cilk` procedure runs in the frame's own function
  own_runs : (cs : List Activation) (pc : ℕ) → MayWait marks set cs pc → marks.plain pc ≡ false → cs ≡ []
  own_runs [] pc h out = refl
  own_runs (c ∷ cs) pc h out = absurd (let a = h.0 in cc)

  target_free : (target : Option ℕ) (cs : List Activation) (pc : ℕ) → MayWait marks set cs pc → marks.plain pc ≡ false → Waits marks pc target → IsFree target
  target_free None cs pc h out w = tt
  target_free (Some t) [] pc h out w = not_within set (marks.waiting pc) t h w.1
  target_free (Some t) (c ∷ cs) pc h out w = absurd (let a = h.0 in cc)

  target_waits : (target : Option ℕ) (g : Frame) (pc : ℕ) → g.running.pc ≡ suc pc → g.callers ≡ [] → Waits marks pc target → (answer : Answer) → TargetWaits target (on_done g answer)
  target_waits None g pc e own w answer = tt
  target_waits (Some t) g pc e own w (Value v) = tt
  target_waits (Some t) g pc e own w (Children more) = tt
  target_waits (Some t) g pc e own w Done = (own, subst (λ n. marks.waiting n t ≡ true) (sym e) w.0)

  binary_waits : (f : Frame) (operator : BinaryOp) → MayWait marks set f.callers f.running.pc → Flows marks f.running.pc (suc f.running.pc) → StepWaits (binary f operator)
  binary_waits f operator p flows = pop_waits f.running.operands _ (λ y below. pop_waits below _ (λ x rest. given_waits (operated operator x y) _ (λ v. flow f.callers f.running.pc _ flows p)))

  unary_waits : (f : Frame) (operator : UnaryOp) → MayWait marks set f.callers f.running.pc → Flows marks f.running.pc (suc f.running.pc) → StepWaits (unary f operator)
  unary_waits f operator p flows = pop_waits f.running.operands _ (λ x rest. given_waits (negated operator x) _ (λ v. flow f.callers f.running.pc _ flows p))

  act_waits : (f : Frame) (o : Option Instr) → MayWait marks set f.callers f.running.pc → ((i : Instr) → o ≡ Some i → IsMarked code marks f.running.pc i) → StepWaits (act code f o)
  act_waits f None p m = tt
  act_waits f (Some (instr.Const v)) p m = flow f.callers f.running.pc _ (m (instr.Const v) refl) p
  act_waits f (Some (instr.Load k)) p m = flow f.callers f.running.pc _ (m (instr.Load k) refl).1 p
  act_waits f (Some (instr.Store k)) p m = pop_waits f.running.operands _ (λ v rest. flow f.callers f.running.pc _ (m (instr.Store k) refl).1 p)
  act_waits f (Some instr.Pop) p m = pop_waits f.running.operands _ (λ v rest. flow f.callers f.running.pc _ (m instr.Pop refl) p)
  act_waits f (Some instr.Add) p m = binary_waits f op.Add p (m instr.Add refl)
  act_waits f (Some instr.Sub) p m = binary_waits f op.Sub p (m instr.Sub refl)
  act_waits f (Some instr.Mul) p m = binary_waits f op.Mul p (m instr.Mul refl)
  act_waits f (Some instr.Div) p m = binary_waits f op.Div p (m instr.Div refl)
  act_waits f (Some instr.Rem) p m = binary_waits f op.Rem p (m instr.Rem refl)
  act_waits f (Some instr.Neg) p m = unary_waits f unary_op.Neg p (m instr.Neg refl)
  act_waits f (Some instr.Not) p m = unary_waits f unary_op.Not p (m instr.Not refl)
  act_waits f (Some instr.Eq) p m = binary_waits f op.Eq p (m instr.Eq refl)
  act_waits f (Some instr.Ne) p m = binary_waits f op.Ne p (m instr.Ne refl)
  act_waits f (Some instr.Lt) p m = binary_waits f op.Lt p (m instr.Lt refl)
  act_waits f (Some instr.Le) p m = binary_waits f op.Le p (m instr.Le refl)
  act_waits f (Some instr.Gt) p m = binary_waits f op.Gt p (m instr.Gt refl)
  act_waits f (Some instr.Ge) p m = binary_waits f op.Ge p (m instr.Ge refl)
  act_waits f (Some (instr.Jump to)) p m = flow f.callers f.running.pc _ (m (instr.Jump to) refl) p
  act_waits f (Some (instr.JumpIfZero to)) p m = pop_waits f.running.operands _ (λ v rest.
      choose f.callers f.running.pc to (suc f.running.pc) (is_zero v) (m (instr.JumpIfZero to) refl).0 (m (instr.JumpIfZero to) refl).1 p)
  act_waits f (Some (instr.ReadShared a)) p m = pop_waits f.running.operands _ (λ i rest. given_waits (word_of (extent_of code.shared a) i) _ (λ word.
      value_waits _ (λ v. flow f.callers f.running.pc _ (m (instr.ReadShared a) refl) p)))
  act_waits f (Some (instr.WriteShared a)) p m = pop_waits f.running.operands _ (λ v below. pop_waits below _ (λ i rest. given_waits (word_of (extent_of code.shared a) i) _ (λ word.
      done_waits _ (flow f.callers f.running.pc _ (m (instr.WriteShared a) refl) p))))
  act_waits f (Some (instr.AddShared a)) p m = pop_waits f.running.operands _ (λ v below. pop_waits below _ (λ i rest. given_waits (word_of (extent_of code.shared a) i) _ (λ word.
      value_waits _ (λ old. flow f.callers f.running.pc _ (m (instr.AddShared a) refl) p))))
  act_waits f (Some instr.PrintTop) p m = pop_waits f.running.operands _ (λ v rest. done_waits _ (flow f.callers f.running.pc _ (m instr.PrintTop refl) p))
  act_waits f (Some instr.Turn) p m = done_waits _ (flow f.callers f.running.pc _ (m instr.Turn refl) p)
  act_waits f (Some (instr.Call q)) p m = opens (slice_get code.procs q) (m (instr.Call q) refl).1
    where
      opens : (o : Option Proc) → ((proc : Proc) → o ≡ Some proc → marks.plain proc.start ≡ true) →
          StepWaits (with_proc o (λ proc. limited limits.calls (length f.callers) (Requests want.Call (on_done (called f proc)))))
      opens None h = tt
      opens (Some proc) h = if_waits (length f.callers == limits.calls) TooDeep _ (done_waits (called f proc) (h proc refl, flow f.callers f.running.pc _ (m (instr.Call q) refl).0 p))
  act_waits f (Some (instr.Spawn q target)) p m = spawns (slice_get code.procs q)
    where
      spawns : (o : Option Proc) → StepWaits (with_proc o (λ proc. limited limits.depth f.depth
          (Requests (want.Spawn target q (arguments_on proc.params f.running.operands)) (on_done (next_with f (drop proc.params f.running.operands))))))
      spawns None = tt
      spawns (Some proc) = if_waits (f.depth == limits.depth) TooDeep _ (
        done_waits (next_with f (drop proc.params f.running.operands)) (flow f.callers f.running.pc _ (m (instr.Spawn q target) refl).0 p),
        target_free target f.callers f.running.pc p (m (instr.Spawn q target) refl).2 (m (instr.Spawn q target) refl).1,
        target_waits target (next_with f (drop proc.params f.running.operands)) f.running.pc refl (own_runs f.callers f.running.pc p (m (instr.Spawn q target) refl).2) (m (instr.Spawn q target) refl).1,
      )
  act_waits f (Some instr.SyncAll) p m = children_waits _ (λ ds. own_runs f.callers f.running.pc p (m instr.SyncAll refl))
  act_waits f (Some instr.Return) p m = pop_waits f.running.operands _ (λ v rest. returned_waits f v f.callers f.running.pc p)

  pub look_waits : AreMarks code marks → (f : Frame) → MayWait marks set f.callers f.running.pc → StepWaits (look code f)
  look_waits are f p = if_waits f.overflowed Overflow _ (act_waits f (slice_get code.instrs f.running.pc) p (λ i e. are f.running.pc i e))

module _ (code : Code) (marks : Marks) (are : AreMarks code marks) (set : Set) (ds : List Deposit) (targets : Targets set ds) where
  pub look_shift : (f : Frame) → MayWait marks set f.callers f.running.pc → look code (with_values ds f) ≡ shifted ds (look code f)
  look_shift f p = if_shift ds f.overflowed Overflow _ _ (act_shift code marks set ds targets f (slice_get code.instrs f.running.pc) p (λ i e. are f.running.pc i e))

  go_shift : (n : ℕ) → ((g : Frame) → MayWait marks set g.callers g.running.pc → settle code n (with_values ds g) ≡ shifted ds (settle code n g)) →
      (m : Move) → StepWaits code marks set m → go_on (shifted ds m) (settle code n) ≡ shifted ds (go_on m (settle code n))
  go_shift n again (GoesOn g) h = again g h
  go_shift n again (Requests request k) h = refl
  go_shift n again (Ends want) h = refl
  go_shift n again Stuck h = refl

  settle_shift : (n : ℕ) (f : Frame) → MayWait marks set f.callers f.running.pc → settle code n (with_values ds f) ≡ shifted ds (settle code n f)
  settle_shift zero f p = refl
  settle_shift (suc n) f p = ap (λ m. go_on m (settle code n)) (look_shift f p) ∙ go_shift n (settle_shift n) (look code f) (look_waits code marks set are f p)

  go_waits : (n : ℕ) → ((g : Frame) → MayWait marks set g.callers g.running.pc → StepWaits code marks set (settle code n g)) →
      (m : Move) → StepWaits code marks set m → StepWaits code marks set (go_on m (settle code n))
  go_waits n again (GoesOn g) h = again g h
  go_waits n again (Requests request k) h = h
  go_waits n again (Ends want) h = tt
  go_waits n again Stuck h = tt

  settle_waits : (n : ℕ) (f : Frame) → MayWait marks set f.callers f.running.pc → StepWaits code marks set (settle code n f)
  settle_waits zero f p = tt
  settle_waits (suc n) f p = go_waits n (settle_waits n) (look code f) (look_waits code marks set are f p)

  settled_shift : (f : Frame) → MayWait marks set f.callers f.running.pc → settled code (with_values ds f) ≡ shifted ds (settled code f)
  settled_shift f p =
      ap (λ n. settle code (suc (suc (n * suc (length code.instrs) + (length code.instrs - f.running.pc)))) (with_values ds f)) (same_size ds f.callers)
      ∙ settle_shift (suc (suc (remaining code f))) f p

  abbrev Law : List Answer → Type 0
  Law answers = (f : Frame) → MayWait marks set f.callers f.running.pc → wants_for code answers (with_values ds f) ≡ wants_for code (at_sync ds answers) f

  resumed_law : (answers : List Answer) → Law answers → (o : Option Frame) → FollowerWaits code marks set o → resumed (mapped ds o) (wants_for code answers) ≡ resumed o (wants_for code (at_sync ds answers))
  resumed_law answers again None h = refl
  resumed_law answers again (Some g) h = again g h

  -- the want and what follows this answer, with the early values
  abbrev and_then : Move → Answer → List Answer → List Want
  and_then move (Value v) answers = want_and move (Value v) (wants_for code (at_sync ds answers))
  and_then move Done answers = want_and move Done (wants_for code (at_sync ds answers))
  and_then move (Children more) answers = want_and move (Children (ds ++ more)) (wants_for code answers)

  plain_law : (request : Request) (k : Answer → Option Frame) → ((answer : Answer) → PlainAnswer code marks set answer (k answer)) → (answer : Answer) (answers : List Answer) → Law answers →
      want_and (Requests request (λ a. mapped ds (k a))) answer (wants_for code answers) ≡ and_then (Requests request k) answer answers
  plain_law request k h (Value v) answers again = ap (λ ws. Asks request ∷ ws) (resumed_law answers again (k (Value v)) (h (Value v)))
  plain_law request k h Done answers again = ap (λ ws. Asks request ∷ ws) (resumed_law answers again (k Done) (h Done))
  plain_law request k h (Children more) answers again =
      ap (λ o. Asks request ∷ resumed (mapped ds o) (wants_for code answers)) (h (Children more))
      ∙ ap (λ o. Asks request ∷ resumed o (wants_for code answers)) (sym (h (Children (ds ++ more))))

  sync_law : (k : Answer → Option Frame) → ((answer : Answer) → SyncAnswer code marks set answer (k answer)) → (answer : Answer) (answers : List Answer) →
      want_and (Requests want.Sync (λ a. k (with_more ds a))) answer (wants_for code answers) ≡ and_then (Requests want.Sync k) answer answers
  sync_law k h (Value v) answers =
      ap (λ o. Asks want.Sync ∷ resumed o (wants_for code answers)) (h (Value v)) ∙ ap (λ o. Asks want.Sync ∷ resumed o (wants_for code (at_sync ds answers))) (sym (h (Value v)))
  sync_law k h Done answers =
      ap (λ o. Asks want.Sync ∷ resumed o (wants_for code answers)) (h Done) ∙ ap (λ o. Asks want.Sync ∷ resumed o (wants_for code (at_sync ds answers))) (sym (h Done))
  sync_law k h (Children more) answers = refl

  move_law : (move : Move) → StepWaits code marks set move → (answer : Answer) (answers : List Answer) → Law answers → want_and (shifted ds move) answer (wants_for code answers) ≡ and_then move answer answers
  move_law (GoesOn g) h (Value v) answers again = refl
  move_law (GoesOn g) h Done answers again = refl
  move_law (GoesOn g) h (Children more) answers again = refl
  move_law (Requests want.Sync k) h answer answers again = sync_law k h answer answers
  move_law (Requests (want.Read w) k) h answer answers again = plain_law (want.Read w) k h answer answers again
  move_law (Requests (want.Write w v) k) h answer answers again = plain_law (want.Write w v) k h answer answers again
  move_law (Requests (want.Add w v) k) h answer answers again = plain_law (want.Add w v) k h answer answers again
  move_law (Requests (want.Print v) k) h answer answers again = plain_law (want.Print v) k h answer answers again
  move_law (Requests (want.Spawn t f vs) k) h answer answers again = plain_law (want.Spawn t f vs) k h.0 answer answers again
  move_law (Requests want.Call k) h answer answers again = plain_law want.Call k h answer answers again
  move_law (Requests want.LoopTurn k) h answer answers again = plain_law want.LoopTurn k h answer answers again
  move_law (Ends want) h (Value v) answers again = refl
  move_law (Ends want) h Done answers again = refl
  move_law (Ends want) h (Children more) answers again = refl
  move_law Stuck h (Value v) answers again = refl
  move_law Stuck h Done answers again = refl
  move_law Stuck h (Children more) answers again = refl

  last_shift : (move : Move) → last_want (shifted ds move) ≡ last_want move
  last_shift (GoesOn g) = refl
  last_shift (Requests request k) = refl
  last_shift (Ends want) = refl
  last_shift Stuck = refl

  and_then_is : (answer : Answer) (answers : List Answer) (f : Frame) → and_then (settled code f) answer answers ≡ wants_for code (at_sync ds (answer ∷ answers)) f
  and_then_is (Value v) answers f = refl
  and_then_is Done answers f = refl
  and_then_is (Children more) answers f = refl

  -- Values that come now are values that come at the next sync.
  pub values_at_sync : (answers : List Answer) → Law answers
  values_at_sync [] f p = ap last_want (settled_shift f p) ∙ last_shift (settled code f)
  values_at_sync (answer ∷ answers) f p =
      ap (λ m. want_and m answer (wants_for code answers)) (settled_shift f p)
      ∙ move_law (settled code f) (settle_waits (suc (suc (remaining code f))) f p) answer answers (values_at_sync answers)
      ∙ and_then_is answer answers f
