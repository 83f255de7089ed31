-- What a frame of a code wants: shared words alone that the code has.
use Rattle.std.proofs.Common.{◌≡◌, ℕ, zero, suc, ◌+◌, ◌<◌, List, length, [], ◌∷◌, Option, Some, None, Result, Ok, Err, refl, subst, arith}
use Rattle.std.proofs.lemmas.Bool.{ltb-true}
use Rattle.std.specs.Prelude.{ℤ, pos, negsuc, ◌==◌, nat_lt, Bool, true, false, if◌then◌else◌, slice_get}
use Rattle.cilk_tree.specs.declared.tree.BinaryOp.{BinaryOp}
use Rattle.cilk_tree.specs.declared.tree.BinaryOp.TheVariants as op
use Rattle.cilk_tree.specs.declared.tree.UnaryOp.{UnaryOp}
use Rattle.cilk_tree.specs.declared.tree.UnaryOp.TheVariants as unary_op
use Rattle.cilk_meaning.specs.declared.ends.TrapKind.{TrapKind}
use Rattle.cilk_meaning.specs.declared.ends.TrapKind.TheVariants.{IndexOutOfRange, Overflow, TooDeep}
use Rattle.cilk_meaning.specs.Instance.{Meaning, limits}
use Rattle.cilk_meaning.specs.Locals.{extent_of}
use Rattle.cilk_meaning.specs.Resolved.{Extent}
use Rattle.cilk_meaning.specs.Serve.{first_of, rest_of, now, after}
use Rattle.cilk_meaning.specs.Values.{negated, operated, word_of}
use Rattle.cilk_meaning.specs.Wants as want
use Rattle.cilk_meaning.specs.Wants.{Request, Want, Asks, Returns, Traps, Answer}
use Rattle.machine_code.specs.declared.code.Proc.{Proc}
use Rattle.machine_code.specs.declared.instr.Instr.{Instr}
use Rattle.machine_code.specs.declared.instr.Instr.TheVariants as instr
use Rattle.machine_code.specs.Machine.{Code, Activation, Frame, Move, GoesOn, Requests, Ends, Stuck, popping, given, with_proc, binary, unary, returned, act, look, go_on, remaining, settle, settled, last_want, want_and, resumed, wants_for, wants, start_frame, starts, starts_at}
use Rattle.machine_code.specs.Valid.{AreInOrder, words_in}

-- ---- words of arrays

module _ (extent : Extent) (number word : ℕ) where
  record IsWord : Type 0 where
    pub inside : number < extent.words
    pub is : extent.base + number ≡ word

  word_there : (b : Bool) → nat_lt number extent.words ≡ b → (if b then Ok (extent.base + number) else Err IndexOutOfRange) ≡ Ok word → IsWord
  word_there true inside is = record { inside = ltb-true number extent.words inside; is = cc }
  word_there false inside is = absurd cc

word_in : (extent : Extent) (index : ℤ) (word : ℕ) → word_of extent index ≡ Ok word → (number : ℕ) × IsWord extent number word
word_in extent (pos number) word is = (number, word_there extent number word (nat_lt number extent.words) refl is)
word_in extent (negsuc number) word is = absurd cc

-- a word of an array is one of all words
word_among : (base : ℕ) (shared : List Extent) → AreInOrder base shared → (array : ℕ) (index : ℤ) (word : ℕ) → word_of (extent_of shared array) index ≡ Ok word
    → word < base + words_in shared
word_among base [] order array index word is =
    let found = word_in (record { base = 0; words = 0 }) index word is in
    absurd (omega (arith, (found.1).inside))
word_among base (first ∷ rest) order zero index word is =
    let found = word_in first index word is in
    omega (arith, order.0, (found.1).inside, (found.1).is)
word_among base (first ∷ rest) order (suc array) index word is =
    let found = word_among (base + first.words) rest order.1 array index word is in
    omega (arith, found)

-- ---- wants

-- the want is of a word that there is, where it is of a word
abbrev pub IsIn : ℕ → Want → Type 0
IsIn words (Asks (want.Read word)) = word < words
IsIn words (Asks (want.Write word value)) = word < words
IsIn words (Asks (want.Add word addend)) = word < words
IsIn words (Asks (want.Print value)) = Unit {0}
IsIn words (Asks (want.Spawn target procedure arguments)) = Unit {0}
IsIn words (Asks want.Sync) = Unit {0}
IsIn words (Asks want.Call) = Unit {0}
IsIn words (Asks want.LoopTurn) = Unit {0}
IsIn words (Returns value) = Unit {0}
IsIn words (Traps kind) = Unit {0}

abbrev pub EachIn : ℕ → List Want → Type 0
EachIn words [] = Unit {0}
EachIn words (first ∷ rest) = IsIn words first × EachIn words rest

-- whatever the answers are
abbrev pub Within : ℕ → Meaning → Type 0
Within words goes = (answers : List Answer) → EachIn words (goes answers)

rest_in : (words : ℕ) (list : List Want) → EachIn words list → EachIn words (rest_of list)
rest_in words [] each = tt
rest_in words (first ∷ rest) each = each.1

pub after_within : (words : ℕ) (goes : Meaning) (answer : Answer) → Within words goes → Within words (after goes answer)
after_within words goes answer within answers = rest_in words (goes (answer ∷ answers)) (within (answer ∷ answers))

first_in : (words : ℕ) (list : List Want) (first : Want) → EachIn words list → first_of list ≡ Some first → IsIn words first
first_in words [] first each is = absurd cc
first_in words (other ∷ rest) first each is = let same : other ≡ first = cc in subst (IsIn words) same (each.0)

pub now_within : (words : ℕ) (goes : Meaning) (first : Want) → Within words goes → now goes ≡ Some first → IsIn words first
now_within words goes first within is = first_in words (goes []) first (within []) is

-- ---- what the machine wants

module _ (code : Code) (order : AreInOrder 0 code.shared) where
  abbrev words : ℕ
  words = words_in code.shared

  abbrev IsFair : Move → Type 0
  IsFair (GoesOn frame) = Unit {0}
  IsFair (Requests request follows) = IsIn words (Asks request)
  IsFair (Ends want) = IsIn words want
  IsFair Stuck = Unit {0}

  pop_fair : (operands : List ℤ) (next : ℤ → List ℤ → Move) → ((v : ℤ) (rest : List ℤ) → IsFair (next v rest)) → IsFair (popping operands next)
  pop_fair [] next each = tt
  pop_fair (v ∷ operands) next each = each v operands

  given_fair : {A : Type 0} (result : Result A TrapKind) (next : A → Move) → ((v : A) → result ≡ Ok v → IsFair (next v)) → IsFair (given result next)
  given_fair {A} (Ok v) next each = each v refl
  given_fair {A} (Err kind) next each = tt

  trap_fair : (b : Bool) (kind : TrapKind) (move : Move) → IsFair move → IsFair (if b then Ends (Traps kind) else move)
  trap_fair true kind move fair = tt
  trap_fair false kind move fair = fair

  proc_fair : (found : Option Proc) (next : Proc → Move) → ((proc : Proc) → IsFair (next proc)) → IsFair (with_proc found next)
  proc_fair None next each = tt
  proc_fair (Some proc) next each = each proc

  binary_fair : (f : Frame) (operator : BinaryOp) → IsFair (binary f operator)
  binary_fair f operator = pop_fair f.running.operands _ (λ y below. pop_fair below _ (λ x rest. given_fair (operated operator x y) _ (λ v is. tt)))

  unary_fair : (f : Frame) (operator : UnaryOp) → IsFair (unary f operator)
  unary_fair f operator = pop_fair f.running.operands _ (λ x rest. given_fair (negated operator x) _ (λ v is. tt))

  returned_fair : (f : Frame) (v : ℤ) (callers : List Activation) → IsFair (returned f v callers)
  returned_fair f v [] = tt
  returned_fair f v (caller ∷ callers) = tt

  among : (array : ℕ) (index : ℤ) (word : ℕ) → word_of (extent_of code.shared array) index ≡ Ok word → word < words_in code.shared
  among array index word is = let less = word_among 0 code.shared order array index word is in omega (arith, less)

  act_fair : (f : Frame) (found : Option Instr) → IsFair (act code f found)
  act_fair f None = tt
  act_fair f (Some (instr.Const v)) = tt
  act_fair f (Some (instr.Load k)) = tt
  act_fair f (Some (instr.Store k)) = pop_fair f.running.operands _ (λ v rest. tt)
  act_fair f (Some instr.Pop) = pop_fair f.running.operands _ (λ v rest. tt)
  act_fair f (Some instr.Add) = binary_fair f op.Add
  act_fair f (Some instr.Sub) = binary_fair f op.Sub
  act_fair f (Some instr.Mul) = binary_fair f op.Mul
  act_fair f (Some instr.Div) = binary_fair f op.Div
  act_fair f (Some instr.Rem) = binary_fair f op.Rem
  act_fair f (Some instr.Neg) = unary_fair f unary_op.Neg
  act_fair f (Some instr.Not) = unary_fair f unary_op.Not
  act_fair f (Some instr.Eq) = binary_fair f op.Eq
  act_fair f (Some instr.Ne) = binary_fair f op.Ne
  act_fair f (Some instr.Lt) = binary_fair f op.Lt
  act_fair f (Some instr.Le) = binary_fair f op.Le
  act_fair f (Some instr.Gt) = binary_fair f op.Gt
  act_fair f (Some instr.Ge) = binary_fair f op.Ge
  act_fair f (Some (instr.Jump to)) = tt
  act_fair f (Some (instr.JumpIfZero to)) = pop_fair f.running.operands _ (λ v rest. tt)
  act_fair f (Some (instr.ReadShared array)) =
      pop_fair f.running.operands _ (λ i rest. given_fair (word_of (extent_of code.shared array) i) _ (λ word is. among array i word is))
  act_fair f (Some (instr.WriteShared array)) =
      pop_fair f.running.operands _
      (λ v below. pop_fair below _ (λ i rest. given_fair (word_of (extent_of code.shared array) i) _ (λ word is. among array i word is)))
  act_fair f (Some (instr.AddShared array)) =
      pop_fair f.running.operands _
      (λ v below. pop_fair below _ (λ i rest. given_fair (word_of (extent_of code.shared array) i) _ (λ word is. among array i word is)))
  act_fair f (Some instr.PrintTop) = pop_fair f.running.operands _ (λ v rest. tt)
  act_fair f (Some instr.Turn) = tt
  act_fair f (Some (instr.Call procedure)) = proc_fair (slice_get code.procs procedure) _ (λ proc. trap_fair (length f.callers == limits.calls) TooDeep _ tt)
  act_fair f (Some (instr.Spawn procedure target)) = proc_fair (slice_get code.procs procedure) _ (λ proc. trap_fair (f.depth == limits.depth) TooDeep _ tt)
  act_fair f (Some instr.SyncAll) = tt
  act_fair f (Some instr.Return) = pop_fair f.running.operands _ (λ v rest. returned_fair f v f.callers)

  going_fair : (move : Move) (next : Frame → Move) → IsFair move → ((g : Frame) → IsFair (next g)) → IsFair (go_on move next)
  going_fair (GoesOn g) next fair later = later g
  going_fair (Requests request follows) next fair later = fair
  going_fair (Ends want) next fair later = fair
  going_fair Stuck next fair later = tt

  settle_fair : (n : ℕ) (f : Frame) → IsFair (settle code n f)
  settle_fair zero f = tt
  settle_fair (suc n) f =
      going_fair (look code f) (settle code n) (trap_fair f.overflowed Overflow _ (act_fair f (slice_get code.instrs f.running.pc))) (settle_fair n)

  settled_fair : (f : Frame) → IsFair (settled code f)
  settled_fair f = settle_fair (suc (suc (remaining code f))) f

  last_in : (move : Move) → IsFair move → EachIn words (last_want move)
  last_in (GoesOn g) fair = tt
  last_in (Requests request follows) fair = (fair, tt)
  last_in (Ends want) fair = (fair, tt)
  last_in Stuck fair = tt

  resumed_in : (found : Option Frame) (next : Frame → List Want) → ((g : Frame) → EachIn words (next g)) → EachIn words (resumed found next)
  resumed_in None next each = tt
  resumed_in (Some g) next each = each g

  and_in : (move : Move) (answer : Answer) (next : Frame → List Want) → IsFair move → ((g : Frame) → EachIn words (next g))
      → EachIn words (want_and move answer next)
  and_in (GoesOn g) answer next fair each = tt
  and_in (Requests request follows) answer next fair each = (fair, resumed_in (follows answer) next each)
  and_in (Ends want) answer next fair each = (fair, tt)
  and_in Stuck answer next fair each = tt

  wants_in : (answers : List Answer) (f : Frame) → EachIn words (wants_for code answers f)
  wants_in [] f = last_in (settled code f) (settled_fair f)
  wants_in (answer ∷ answers) f = and_in (settled code f) answer (wants_for code answers) (settled_fair f) (λ g. wants_in answers g)

  pub wants_within : (f : Frame) → Within words (wants code f)
  wants_within f answers = wants_in answers f

  starts_at_within : (depth : ℕ) (found : Option Proc) (arguments : List ℤ) → Within words (starts_at code depth found arguments)
  starts_at_within depth None arguments answers = (tt, tt)
  starts_at_within depth (Some proc) arguments answers = wants_in answers (start_frame proc arguments depth)

  pub starts_within : (depth procedure : ℕ) (arguments : List ℤ) → Within words (starts code depth procedure arguments)
  starts_within depth procedure arguments answers = starts_at_within depth (slice_get code.procs procedure) arguments answers
