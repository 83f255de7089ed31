-- What holds of each request of a frame: its word is one of the code's, and values without a target change nothing behind it.
use Rattle.std.proofs.Common.{◌≡◌, ℕ, zero, suc, ◌+◌, ◌<◌, List, length, [], ◌∷◌, ◌++◌, Option, Some, None, Result, Ok, Err, refl, ap, subst, arith}
use Rattle.std.proofs.lemmas.Bool.{ltb-true}
use Rattle.std.specs.Prelude.{ℤ, pos, negsuc, ◌==◌, nat_lt, Bool, true, false, if◌then◌else◌, slice_get}
use Rattle.cilk_tree.specs.declared.tree.BinaryOp.{BinaryOp}
use Rattle.cilk_tree.specs.declared.tree.BinaryOp.TheVariants as op
use Rattle.cilk_tree.specs.declared.tree.UnaryOp.{UnaryOp}
use Rattle.cilk_tree.specs.declared.tree.UnaryOp.TheVariants as unary_op
use Rattle.cilk_meaning.specs.declared.ends.TrapKind.{TrapKind}
use Rattle.cilk_meaning.specs.declared.ends.TrapKind.TheVariants.{IndexOutOfRange, Overflow, TooDeep}
use Rattle.cilk_meaning.specs.Instance.{limits}
use Rattle.cilk_meaning.specs.Locals.{Locals, assigned, deposited, extent_of}
use Rattle.cilk_meaning.specs.Resolved.{Extent}
use Rattle.cilk_meaning.specs.Serve.{first_of}
use Rattle.cilk_meaning.specs.Values.{negated, operated, word_of}
use Rattle.cilk_meaning.specs.Wants as want
use Rattle.cilk_meaning.specs.Wants.{Request, Want, Asks, Returns, Traps, Deposit, Answer, Children}
use Rattle.machine_code.specs.declared.code.Proc.{Proc}
use Rattle.machine_code.specs.declared.instr.Instr.{Instr}
use Rattle.machine_code.specs.declared.instr.Instr.TheVariants as instr
use Rattle.machine_code.specs.Machine.{Code, Activation, Frame, Move, GoesOn, Requests, Ends, Stuck, popping, given, with_proc, binary, unary, returned, act, look, go_on, remaining, settle, settled, last_want, want_and, resumed, wants_for, stored, start_frame, starts, starts_at}
use Rattle.machine_code.specs.Valid.{AreInOrder, words_in}
use Rattle.plain_machine.specs.Shown.{WantsNext}
use Rattle.serial_run.specs.Running.{IsBlind, if_targeted, targeted}

-- ---- words

module _ (extent : Extent) (number word : ℕ) where
  pub record IsWord : Type 0 where
    pub inside : number < extent.words
    pub is : extent.base + number ≡ word

  word_there : (b : Bool) → nat_lt number extent.words ≡ b → (if b then Ok (extent.base + number) else Err IndexOutOfRange) ≡ Ok word → IsWord
  word_there true inside e = record { inside = ltb-true number extent.words inside; is = cc }
  word_there false inside e = absurd cc

word_in : (extent : Extent) (index : ℤ) (word : ℕ) → word_of extent index ≡ Ok word → (number : ℕ) × IsWord extent number word
word_in extent (pos number) word e = (number, word_there extent number word (nat_lt number extent.words) refl e)
word_in extent (negsuc number) word e = absurd cc

-- a word of an array is one of all words
word_among : (base : ℕ) (shared : List Extent) → AreInOrder base shared → (array : ℕ) (index : ℤ) (word : ℕ) → word_of (extent_of shared array) index ≡ Ok word → word < base + words_in shared
word_among base [] order array index word e =
    let h = word_in (record { base = 0; words = 0 }) index word e in
    absurd (omega (arith, (h.1).inside))
word_among base (first ∷ rest) order zero index word e =
    let h = word_in first index word e in
    omega (arith, order.0, (h.1).inside, (h.1).is)
word_among base (first ∷ rest) order (suc array) index word e =
    let h = word_among (base + first.words) rest order.1 array index word e in
    omega (arith, h)

-- ---- values without a target

deposited_targeted : (deposits : List Deposit) (locals : Locals) → deposited deposits locals ≡ deposited (targeted deposits) locals
deposited_targeted [] locals = refl
deposited_targeted (first ∷ rest) locals = go first.0 (deposited_targeted rest (assigned first.0 first.1 locals))
  where
    go : (target : Option ℕ) → deposited rest (assigned target first.1 locals) ≡ deposited (targeted rest) (assigned target first.1 locals) →
        deposited rest (assigned target first.1 locals) ≡ deposited (if_targeted target first.1 (targeted rest)) locals
    go None e = e
    go (Some target) e = e

module _ (code : Code) (order : AreInOrder 0 code.shared) where
  abbrev HasWord : Request → Type 0
  HasWord (want.Read word) = word < words_in code.shared
  HasWord (want.Write word value) = word < words_in code.shared
  HasWord (want.Add word addend) = word < words_in code.shared
  HasWord (want.Print value) = Unit {0}
  HasWord (want.Spawn target procedure arguments) = Unit {0}
  HasWord want.Sync = Unit {0}
  HasWord want.Call = Unit {0}
  HasWord want.LoopTurn = Unit {0}

  abbrev LeadsBlind : (Answer → Option Frame) → Type 0
  LeadsBlind follows = (deposits : List Deposit) → follows (Children deposits) ≡ follows (Children (targeted deposits))

  -- a request is so, if the move is one
  abbrev IsFair : Move → Type 0
  IsFair (GoesOn frame) = Unit {0}
  IsFair (Requests request follows) = HasWord request × LeadsBlind follows
  IsFair (Ends (Asks request)) = ⊥
  IsFair (Ends (Returns value)) = Unit {0}
  IsFair (Ends (Traps kind)) = Unit {0}
  IsFair Stuck = Unit {0}

  pop_fair : (operands : List ℤ) (next : ℤ → List ℤ → Move) → ((v : ℤ) (rest : List ℤ) → IsFair (next v rest)) → IsFair (popping operands next)
  pop_fair [] next h = tt
  pop_fair (v ∷ operands) next h = h v operands

  given_fair : {A : Type 0} (r : Result A TrapKind) (next : A → Move) → ((v : A) → r ≡ Ok v → IsFair (next v)) → IsFair (given r next)
  given_fair {A} (Ok v) next h = h v refl
  given_fair {A} (Err kind) next h = tt

  trap_fair : (b : Bool) (kind : TrapKind) (move : Move) → IsFair move → IsFair (if b then Ends (Traps kind) else move)
  trap_fair true kind move h = tt
  trap_fair false kind move h = h

  proc_fair : (o : Option Proc) (next : Proc → Move) → ((proc : Proc) → IsFair (next proc)) → IsFair (with_proc o next)
  proc_fair None next h = tt
  proc_fair (Some proc) next h = h proc

  binary_fair : (f : Frame) (operator : BinaryOp) → IsFair (binary f operator)
  binary_fair f operator = pop_fair f.running.operands _ (λ y below. pop_fair below _ (λ x rest. given_fair (operated operator x y) _ (λ v e. tt)))

  unary_fair : (f : Frame) (operator : UnaryOp) → IsFair (unary f operator)
  unary_fair f operator = pop_fair f.running.operands _ (λ x rest. given_fair (negated operator x) _ (λ v e. tt))

  returned_fair : (f : Frame) (v : ℤ) (callers : List Activation) → IsFair (returned f v callers)
  returned_fair f v [] = tt
  returned_fair f v (caller ∷ callers) = tt

  among : (array : ℕ) (index : ℤ) (word : ℕ) → word_of (extent_of code.shared array) index ≡ Ok word → word < words_in code.shared
  among array index word e = let h = word_among 0 code.shared order array index word e in omega (arith, h)

  act_fair : (f : Frame) (o : Option Instr) → IsFair (act code f o)
  act_fair f None = tt
  act_fair f (Some (instr.Const v)) = tt
  act_fair f (Some (instr.Load k)) = tt
  act_fair f (Some (instr.Store k)) = pop_fair f.running.operands _ (λ v rest. tt)
  act_fair f (Some instr.Pop) = pop_fair f.running.operands _ (λ v rest. tt)
  act_fair f (Some instr.Add) = binary_fair f op.Add
  act_fair f (Some instr.Sub) = binary_fair f op.Sub
  act_fair f (Some instr.Mul) = binary_fair f op.Mul
  act_fair f (Some instr.Div) = binary_fair f op.Div
  act_fair f (Some instr.Rem) = binary_fair f op.Rem
  act_fair f (Some instr.Neg) = unary_fair f unary_op.Neg
  act_fair f (Some instr.Not) = unary_fair f unary_op.Not
  act_fair f (Some instr.Eq) = binary_fair f op.Eq
  act_fair f (Some instr.Ne) = binary_fair f op.Ne
  act_fair f (Some instr.Lt) = binary_fair f op.Lt
  act_fair f (Some instr.Le) = binary_fair f op.Le
  act_fair f (Some instr.Gt) = binary_fair f op.Gt
  act_fair f (Some instr.Ge) = binary_fair f op.Ge
  act_fair f (Some (instr.Jump to)) = tt
  act_fair f (Some (instr.JumpIfZero to)) = pop_fair f.running.operands _ (λ v rest. tt)
  act_fair f (Some (instr.ReadShared array)) =
      pop_fair f.running.operands _ (λ i rest. given_fair (word_of (extent_of code.shared array) i) _ (λ word e. (among array i word e, λ deposits. refl)))
  act_fair f (Some (instr.WriteShared array)) =
      pop_fair f.running.operands _ (λ v below. pop_fair below _ (λ i rest. given_fair (word_of (extent_of code.shared array) i) _ (λ word e. (among array i word e, λ deposits. refl))))
  act_fair f (Some (instr.AddShared array)) =
      pop_fair f.running.operands _ (λ v below. pop_fair below _ (λ i rest. given_fair (word_of (extent_of code.shared array) i) _ (λ word e. (among array i word e, λ deposits. refl))))
  act_fair f (Some instr.PrintTop) = pop_fair f.running.operands _ (λ v rest. (tt, λ deposits. refl))
  act_fair f (Some instr.Turn) = (tt, λ deposits. refl)
  act_fair f (Some (instr.Call procedure)) =
      proc_fair (slice_get code.procs procedure) _ (λ proc. trap_fair (length f.callers == limits.calls) TooDeep _ (tt, λ deposits. refl))
  act_fair f (Some (instr.Spawn procedure target)) =
      proc_fair (slice_get code.procs procedure) _ (λ proc. trap_fair (f.depth == limits.depth) TooDeep _ (tt, λ deposits. refl))
  act_fair f (Some instr.SyncAll) = (tt, λ deposits. ap (λ locals. Some (stored f locals f.running.operands)) (deposited_targeted deposits f.running.locals))
  act_fair f (Some instr.Return) = pop_fair f.running.operands _ (λ v rest. returned_fair f v f.callers)

  look_fair : (f : Frame) → IsFair (look code f)
  look_fair f = trap_fair f.overflowed Overflow _ (act_fair f (slice_get code.instrs f.running.pc))

  going_fair : (move : Move) (next : Frame → Move) → IsFair move → ((g : Frame) → IsFair (next g)) → IsFair (go_on move next)
  going_fair (GoesOn g) next h later = later g
  going_fair (Requests request follows) next h later = h
  going_fair (Ends want) next h later = h
  going_fair Stuck next h later = tt

  settle_fair : (n : ℕ) (f : Frame) → IsFair (settle code n f)
  settle_fair zero f = tt
  settle_fair (suc n) f = going_fair (look code f) (settle code n) (look_fair f) (settle_fair n)

  settled_fair : (f : Frame) → IsFair (settled code f)
  settled_fair f = settle_fair (suc (suc (remaining code f))) f

  word_wanted : (move : Move) → IsFair move → (request : Request) → first_of (last_want move) ≡ Some (Asks request) → HasWord request
  word_wanted (GoesOn g) h request e = absurd cc
  word_wanted (Requests other follows) h request e = subst HasWord (let same : other ≡ request = cc in same) h.0
  word_wanted (Ends (Asks other)) h request e = absurd h
  word_wanted (Ends (Returns value)) h request e = absurd cc
  word_wanted (Ends (Traps kind)) h request e = absurd cc
  word_wanted Stuck h request e = absurd cc

  -- a frame wants shared words alone that there are
  pub wants_words : (f : Frame) (request : Request) → WantsNext code f (Asks request) → HasWord request
  wants_words f request e = word_wanted (settled code f) (settled_fair f) request e

  abbrev SameBehind : Move → Type 0
  SameBehind move = (deposits : List Deposit) (next : Frame → List Want) → want_and move (Children deposits) next ≡ want_and move (Children (targeted deposits)) next

  same_behind : (move : Move) → IsFair move → SameBehind move
  same_behind (GoesOn g) h deposits next = refl
  same_behind (Requests request follows) h deposits next = ap (λ o. Asks request ∷ resumed o next) (h.1 deposits)
  same_behind (Ends want) h deposits next = refl
  same_behind Stuck h deposits next = refl

  wants_blind : (front : List Answer) (deposits : List Deposit) (back : List Answer) (f : Frame) →
      wants_for code (front ++ Children deposits ∷ back) f ≡ wants_for code (front ++ Children (targeted deposits) ∷ back) f
  wants_blind [] deposits back f = same_behind (settled code f) (settled_fair f) deposits (wants_for code back)
  wants_blind (first ∷ front) deposits back f =
      ap (λ next. want_and (settled code f) first next) (λ i g. wants_blind front deposits back g i)

  starts_blind_at : (depth : ℕ) (o : Option Proc) (arguments : List ℤ) → IsBlind (starts_at code depth o arguments)
  starts_blind_at depth None arguments = record { same = λ front deposits back. refl }
  starts_blind_at depth (Some proc) arguments = record { same = λ front deposits back. wants_blind front deposits back (start_frame proc arguments depth) }

  pub starts_blind : (depth procedure : ℕ) (arguments : List ℤ) → IsBlind (starts code depth procedure arguments)
  starts_blind depth procedure arguments = starts_blind_at depth (slice_get code.procs procedure) arguments
