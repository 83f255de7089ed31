-- In a code whose jumps go forward a frame that goes on wants what the frame after it wants.
use Rattle.std.proofs.Math.Nat.{suc-mul}
use Rattle.std.proofs.Common.{◌≡◌, ◌⊎◌, ℕ, zero, suc, ◌+◌, ◌*◌, ◌<◌, ◌≤◌, List, [], ◌∷◌, length, Option, Some, None, refl, sym, ap, ◌∙◌, subst, inl, inr, arith}
use Rattle.std.specs.Prelude.{ℤ, ◌==◌, Bool, true, false, if◌then◌else◌, Result, Ok, Err, slice_get, slice_set}
use Rattle.cilk_tree.specs.declared.tree.BinaryOp.{BinaryOp}
use Rattle.cilk_tree.specs.declared.tree.BinaryOp.TheVariants as op
use Rattle.cilk_tree.specs.declared.tree.UnaryOp.{UnaryOp}
use Rattle.cilk_tree.specs.declared.tree.UnaryOp.TheVariants as unary_op
use Rattle.cilk_meaning.specs.declared.ends.TrapKind.{TrapKind}
use Rattle.cilk_meaning.specs.declared.ends.TrapKind.TheVariants.{Overflow, TooDeep}
use Rattle.cilk_meaning.specs.Instance.{limits, ask}
use Rattle.cilk_meaning.specs.Locals.{local_at, extent_of}
use Rattle.cilk_meaning.specs.Values.{is_zero, negated, operated, word_of}
use Rattle.cilk_meaning.specs.Wants.{Request, Want, Traps, Answer}
use Rattle.machine_code.specs.declared.code.Proc.{Proc}
use Rattle.machine_code.specs.declared.instr.Instr.{Instr}
use Rattle.machine_code.specs.declared.instr.Instr.TheVariants as instr
use Rattle.machine_code.specs.Machine.{Code, Activation, Frame, Move, GoesOn, Requests, Ends, Stuck, moved, next_with, stored, popping, given, with_proc, binary, unary, returned, act, look, go_on, settle, remaining, settled, last_want, want_and, resumed, wants_for, wants}
use Rattle.machine_code.specs.Valid.{IsForward, GoesForward}

-- a place that holds something lies in the list
pub is_inside : {A : Type 0} (items : List A) (at : ℕ) (item : A) → slice_get items at ≡ Some item → at < length items
is_inside {A} [] at item e = absurd cc
is_inside {A} (x ∷ items) zero item e = omega arith
is_inside {A} (x ∷ items) (suc at) item e = let h = is_inside items at item e in omega (arith, h)

-- a frame that wants something
abbrev Halts : Move → Type 0
Halts (GoesOn frame) = ⊥
Halts (Requests request follows) = Unit {0}
Halts (Ends want) = Unit {0}
Halts Stuck = Unit {0}

same_halt : (move : Move) (next other : Frame → Move) → Halts move → go_on move next ≡ go_on move other
same_halt (GoesOn frame) next other h = absurd h
same_halt (Requests request follows) next other h = refl
same_halt (Ends want) next other h = refl
same_halt Stuck next other h = refl

or_overflow : (b : Bool) (move : Move) → Halts move → Halts (if b then Ends (Traps Overflow) else move)
or_overflow true move h = tt
or_overflow false move h = h

module _ (code : Code) where
  -- at a test of a loop
  abbrev pub AtTurn : Frame → Type 0
  AtTurn f = slice_get code.instrs f.running.pc ≡ Some instr.Turn

  turn_halts : (f : Frame) → AtTurn f → Halts (look code f)
  turn_halts f e = or_overflow f.overflowed _ (subst (λ o. Halts (act code f o)) (sym e) tt)

  -- one frame is nearer to the next want than another, or at a test of a loop
  abbrev pub Nearer : Frame → Frame → Type 0
  Nearer f g = (remaining code g < remaining code f) ⊎ AtTurn g

  abbrev Leads : Frame → Move → Type 0
  Leads f (GoesOn g) = Nearer f g
  Leads f (Requests request follows) = Unit {0}
  Leads f (Ends want) = Unit {0}
  Leads f Stuck = Unit {0}

  pop_leads : (f : Frame) (operands : List ℤ) (next : ℤ → List ℤ → Move) → ((v : ℤ) (rest : List ℤ) → Leads f (next v rest)) → Leads f (popping operands next)
  pop_leads f [] next h = tt
  pop_leads f (v ∷ operands) next h = h v operands

  given_leads : {A : Type 0} (f : Frame) (r : Result A TrapKind) (next : A → Move) → ((v : A) → Leads f (next v)) → Leads f (given r next)
  given_leads {A} f (Ok v) next h = h v
  given_leads {A} f (Err kind) next h = tt

  trap_leads : (f : Frame) (b : Bool) (kind : TrapKind) (move : Move) → Leads f move → Leads f (if b then Ends (Traps kind) else move)
  trap_leads f true kind move h = tt
  trap_leads f false kind move h = h

  proc_leads : (f : Frame) (o : Option Proc) (next : Proc → Move) → ((proc : Proc) → Leads f (next proc)) → Leads f (with_proc o next)
  proc_leads f None next h = tt
  proc_leads f (Some proc) next h = h proc

  module _ (forward : GoesForward code.instrs) (f : Frame) where
    -- to another place of the same function
    jumps : (g : Frame) → f.running.pc < length code.instrs → g.callers ≡ f.callers → (f.running.pc < g.running.pc) ⊎ (slice_get code.instrs g.running.pc ≡ Some instr.Turn) → Nearer f g
    jumps g inside same (inr turn) = inr turn
    jumps g inside same (inl less) =
        let m = ap (λ callers. length callers * suc (length code.instrs)) same in
        inl (omega (arith, inside, less, m))

    -- to the next one
    falls : (g : Frame) → f.running.pc < length code.instrs → g.running.pc ≡ suc f.running.pc → g.callers ≡ f.callers → Nearer f g
    falls g inside e same = jumps g inside same (inl (omega (arith, e)))

    chosen : (to : ℕ) (b : Bool) (rest : List ℤ) → f.running.pc < length code.instrs → IsForward code.instrs f.running.pc to → Nearer f (moved f (if b then to else suc f.running.pc) rest)
    chosen to true rest inside h = jumps (moved f to rest) inside refl h
    chosen to false rest inside h = falls (moved f (suc f.running.pc) rest) inside refl refl

    back : (v : ℤ) (callers : List Activation) → f.callers ≡ callers → f.running.pc < length code.instrs → Leads f (returned f v callers)
    back v [] e inside = tt
    back v (caller ∷ callers) e inside =
        let m : length f.callers * suc (length code.instrs) ≡ length callers * suc (length code.instrs) + suc (length code.instrs) =
        ap (λ l. length l * suc (length code.instrs)) e ∙ suc-mul (length callers) (suc (length code.instrs)) in
        inl (omega (arith, inside, m))

    binary_leads : (operator : BinaryOp) → f.running.pc < length code.instrs → Leads f (binary f operator)
    binary_leads operator inside =
        pop_leads f f.running.operands _ (λ y below. pop_leads f below _ (λ x rest. given_leads f (operated operator x y) _ (λ v. falls (next_with f (v ∷ rest)) inside refl refl)))

    unary_leads : (operator : UnaryOp) → f.running.pc < length code.instrs → Leads f (unary f operator)
    unary_leads operator inside = pop_leads f f.running.operands _ (λ x rest. given_leads f (negated operator x) _ (λ v. falls (next_with f (v ∷ rest)) inside refl refl))

    leads_at : (o : Option Instr) → slice_get code.instrs f.running.pc ≡ o → Leads f (act code f o)
    leads_at None e = tt
    leads_at (Some (instr.Const v)) e = falls (next_with f (v ∷ f.running.operands)) (is_inside code.instrs f.running.pc _ e) refl refl
    leads_at (Some (instr.Load k)) e = falls (next_with f (local_at f.running.locals k ∷ f.running.operands)) (is_inside code.instrs f.running.pc _ e) refl refl
    leads_at (Some (instr.Store k)) e =
        pop_leads f f.running.operands _ (λ v rest. falls (stored f (slice_set f.running.locals k v) rest) (is_inside code.instrs f.running.pc _ e) refl refl)
    leads_at (Some instr.Pop) e = pop_leads f f.running.operands _ (λ v rest. falls (next_with f rest) (is_inside code.instrs f.running.pc _ e) refl refl)
    leads_at (Some instr.Add) e = binary_leads op.Add (is_inside code.instrs f.running.pc _ e)
    leads_at (Some instr.Sub) e = binary_leads op.Sub (is_inside code.instrs f.running.pc _ e)
    leads_at (Some instr.Mul) e = binary_leads op.Mul (is_inside code.instrs f.running.pc _ e)
    leads_at (Some instr.Div) e = binary_leads op.Div (is_inside code.instrs f.running.pc _ e)
    leads_at (Some instr.Rem) e = binary_leads op.Rem (is_inside code.instrs f.running.pc _ e)
    leads_at (Some instr.Neg) e = unary_leads unary_op.Neg (is_inside code.instrs f.running.pc _ e)
    leads_at (Some instr.Not) e = unary_leads unary_op.Not (is_inside code.instrs f.running.pc _ e)
    leads_at (Some instr.Eq) e = binary_leads op.Eq (is_inside code.instrs f.running.pc _ e)
    leads_at (Some instr.Ne) e = binary_leads op.Ne (is_inside code.instrs f.running.pc _ e)
    leads_at (Some instr.Lt) e = binary_leads op.Lt (is_inside code.instrs f.running.pc _ e)
    leads_at (Some instr.Le) e = binary_leads op.Le (is_inside code.instrs f.running.pc _ e)
    leads_at (Some instr.Gt) e = binary_leads op.Gt (is_inside code.instrs f.running.pc _ e)
    leads_at (Some instr.Ge) e = binary_leads op.Ge (is_inside code.instrs f.running.pc _ e)
    leads_at (Some (instr.Jump to)) e =
        jumps (moved f to f.running.operands) (is_inside code.instrs f.running.pc _ e) refl (forward f.running.pc to (instr.Jump to) e refl)
    leads_at (Some (instr.JumpIfZero to)) e =
        pop_leads f f.running.operands _ (λ v rest. chosen to (is_zero v) rest (is_inside code.instrs f.running.pc _ e) (forward f.running.pc to (instr.JumpIfZero to) e refl))
    leads_at (Some (instr.ReadShared array)) e =
        pop_leads f f.running.operands _ (λ i rest. given_leads f (word_of (extent_of code.shared array) i) _ (λ word. tt))
    leads_at (Some (instr.WriteShared array)) e =
        pop_leads f f.running.operands _ (λ v below. pop_leads f below _ (λ i rest. given_leads f (word_of (extent_of code.shared array) i) _ (λ word. tt)))
    leads_at (Some (instr.AddShared array)) e =
        pop_leads f f.running.operands _ (λ v below. pop_leads f below _ (λ i rest. given_leads f (word_of (extent_of code.shared array) i) _ (λ word. tt)))
    leads_at (Some instr.PrintTop) e = pop_leads f f.running.operands _ (λ v rest. tt)
    leads_at (Some instr.Turn) e = tt
    leads_at (Some (instr.Call procedure)) e =
        proc_leads f (slice_get code.procs procedure) _ (λ proc. trap_leads f (length f.callers == limits.calls) TooDeep _ tt)
    leads_at (Some (instr.Spawn procedure target)) e =
        proc_leads f (slice_get code.procs procedure) _ (λ proc. trap_leads f (f.depth == limits.depth) TooDeep _ tt)
    leads_at (Some instr.SyncAll) e = tt
    leads_at (Some instr.Return) e = pop_leads f f.running.operands _ (λ v rest. back v f.callers refl (is_inside code.instrs f.running.pc _ e))

    pub leads : Leads f (look code f)
    leads = trap_leads f f.overflowed Overflow _ (leads_at (slice_get code.instrs f.running.pc) refl)

  module _ (forward : GoesForward code.instrs) where
    -- a step that goes on comes nearer to the next want
    pub comes_nearer : (f g : Frame) → look code f ≡ GoesOn g → Nearer f g
    comes_nearer f g e = subst (Leads f) e (leads forward f)

    -- enough instructions are enough
    steady_on : (f : Frame) (m n : ℕ) → remaining code f + 2 ≤ suc m → remaining code f + 2 ≤ suc n →
        ((g : Frame) → remaining code g + 2 ≤ m → remaining code g + 2 ≤ n → settle code m g ≡ settle code n g) →
        (move : Move) → Leads f move → go_on move (settle code m) ≡ go_on move (settle code n)
    steady_on f m n lm ln again (GoesOn g) (inl less) = again g (omega (arith, less, lm)) (omega (arith, less, ln))
    steady_on f zero n lm ln again (GoesOn g) (inr turn) = absurd (omega arith)
    steady_on f (suc m) zero lm ln again (GoesOn g) (inr turn) = absurd (omega arith)
    steady_on f (suc m) (suc n) lm ln again (GoesOn g) (inr turn) = same_halt (look code g) (settle code m) (settle code n) (turn_halts g turn)
    steady_on f m n lm ln again (Requests request follows) h = refl
    steady_on f m n lm ln again (Ends want) h = refl
    steady_on f m n lm ln again Stuck h = refl

    steady : (m n : ℕ) (f : Frame) → remaining code f + 2 ≤ m → remaining code f + 2 ≤ n → settle code m f ≡ settle code n f
    steady zero n f lm ln = absurd (omega arith)
    steady (suc m) zero f lm ln = absurd (omega arith)
    steady (suc m) (suc n) f lm ln = steady_on f m n lm ln (λ g. steady m n g) (look code f) (leads forward f)

    settled_nearer : (f g : Frame) → Nearer f g → settle code (suc (remaining code f)) g ≡ settled code g
    settled_nearer f g (inl less) = steady (suc (remaining code f)) (suc (suc (remaining code g))) g (omega (arith, less)) (omega arith)
    settled_nearer f g (inr turn) = same_halt (look code g) (settle code (remaining code f)) (settle code (suc (remaining code g))) (turn_halts g turn)

    pub goes_settled : (f g : Frame) → look code f ≡ GoesOn g → settled code f ≡ settled code g
    goes_settled f g e =
        ap (λ m. go_on m (settle code (suc (remaining code f)))) e ∙ settled_nearer f g (comes_nearer f g e)

    -- What a frame wants that goes on is what the next one wants.
    pub goes_wants : (f g : Frame) → look code f ≡ GoesOn g → (answers : List Answer) → wants code f answers ≡ wants code g answers
    goes_wants f g e [] = ap last_want (goes_settled f g e)
    goes_wants f g e (answer ∷ answers) = ap (λ m. want_and m answer (wants_for code answers)) (goes_settled f g e)

    pub goes_same : (f g : Frame) → look code f ≡ GoesOn g → wants code f ≡ wants code g
    goes_same f g e = λ i answers. goes_wants f g e answers i

  pub requests_settled : (f : Frame) (request : Request) (follows : Answer → Option Frame) → look code f ≡ Requests request follows → settled code f ≡ Requests request follows
  requests_settled f request follows e = ap (λ m. go_on m (settle code (suc (remaining code f)))) e

  pub ends_settled : (f : Frame) (want : Want) → look code f ≡ Ends want → settled code f ≡ Ends want
  ends_settled f want e = ap (λ m. go_on m (settle code (suc (remaining code f)))) e

  pub requests_wants : (f : Frame) (request : Request) (follows : Answer → Option Frame) → look code f ≡ Requests request follows → (answers : List Answer) →
      wants code f answers ≡ ask request (λ answer rest. resumed (follows answer) (wants_for code rest)) answers
  requests_wants f request follows e [] = ap last_want (requests_settled f request follows e)
  requests_wants f request follows e (answer ∷ answers) = ap (λ m. want_and m answer (wants_for code answers)) (requests_settled f request follows e)

  pub ends_wants : (f : Frame) (want : Want) → look code f ≡ Ends want → (answers : List Answer) → wants code f answers ≡ want ∷ []
  ends_wants f want e [] = ap last_want (ends_settled f want e)
  ends_wants f want e (answer ∷ answers) = ap (λ m. want_and m answer (wants_for code answers)) (ends_settled f want e)

  -- how far the next want is: nothing at a test of a loop
  abbrev rank_at : ℕ → Option Instr → ℕ
  rank_at n (Some instr.Turn) = 0
  rank_at n _ = suc n

  abbrev pub rank : Frame → ℕ
  rank f = rank_at (remaining code f) (slice_get code.instrs f.running.pc)
