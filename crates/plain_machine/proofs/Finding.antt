-- What the next step of a frame that stands in its code finds.
use Rattle.std.proofs.Common.{◌≡◌, ℕ, zero, suc, ◌+◌, ◌-◌, ◌<◌, ◌≤◌, List, [], ◌∷◌, length, take, drop, replicate, Option, Some, None, refl, sym, ap, ◌∙◌, subst, arith}
use Rattle.std.proofs.lemmas.Bool.Decides.{nat_tests}
use Rattle.std.proofs.lemmas.List.{length-append, length-replicate, length-reverse, length-take, length-drop, length-set}
use Rattle.std.specs.Prelude.{ℤ, pos, ◌==◌, Bool, true, false, if◌then◌else◌, Result, Ok, Err, slice_get, slice_set}
use Rattle.cilk_tree.specs.declared.tree.BinaryOp.{BinaryOp}
use Rattle.cilk_tree.specs.declared.tree.BinaryOp.TheVariants as op
use Rattle.cilk_tree.specs.declared.tree.UnaryOp.{UnaryOp}
use Rattle.cilk_tree.specs.declared.tree.UnaryOp.TheVariants as unary_op
use Rattle.cilk_meaning.specs.declared.ends.TrapKind.{TrapKind}
use Rattle.cilk_meaning.specs.declared.ends.TrapKind.TheVariants.{Overflow, TooDeep}
use Rattle.cilk_meaning.specs.Instance.{limits}
use Rattle.cilk_meaning.specs.Locals.{local_at, deposited, extent_of}
use Rattle.cilk_meaning.specs.Values.{is_zero, negated, operated, word_of}
use Rattle.cilk_meaning.specs.Wants as want
use Rattle.cilk_meaning.specs.Wants.{Request, Want, Asks, Returns, Traps, Deposit, Answer, Value, Children, Done}
use Rattle.machine_code.specs.declared.code.Proc.{Proc}
use Rattle.machine_code.specs.declared.instr.Instr.{Instr}
use Rattle.machine_code.specs.declared.instr.Instr.TheVariants as instr
use Rattle.machine_code.specs.Machine.{Code, Activation, Frame, Move, GoesOn, Requests, Ends, Stuck, moved, next_with, stored, popping, given, with_proc, binary, unary, activation, arguments_on, called, returned, on_value, on_children, on_done, act, look}
use Rattle.machine_code.specs.Valid.{Shape, Leads, IsFine, IsLocal, takes, puts, goes_behind, jumps_to, params_of}
use Rattle.plain_machine.proofs.Depositing.{deposited_length}
use Rattle.plain_machine.specs.Standing.{StandsIn, IsAt, AreWaiting, IsCallable, own_locals, own_locals_of}
use Rattle.plain_machine.specs.Starting.{CanStart, IsTarget}

-- The child can be started, and its arguments are the top operands.
pub record IsChild (code : Code) (f : Frame) (target : Option ℕ) (procedure : ℕ) (given : List ℤ) : Type 0 where
  pub starts : CanStart code f target procedure given
  pub arguments : given ≡ arguments_on starts.proc.params f.running.operands
  pub enough : starts.proc.params ≤ length f.running.operands

abbrev pub ChildOf : Code → Frame → Request → Type 0
ChildOf code f (want.Spawn target procedure arguments) = IsChild code f target procedure arguments
ChildOf code f _ = Unit {0}

-- A move that goes on: the frame stands still, is as deep, and its own function has as many locals.
pub record Keeps (code : Code) (f g : Frame) : Type 0 where
  pub stands : StandsIn code g
  pub depth : g.depth ≡ f.depth
  pub own : length (own_locals g) ≡ length (own_locals f)

-- where the answers to a request of a frame that stands lead, and what it starts
pub record Leading (code : Code) (f : Frame) (request : Request) (follows : Answer → Option Frame) : Type 0 where
  pub keeps : (answer : Answer) (g : Frame) → follows answer ≡ Some g → Keeps code f g
  pub child : ChildOf code f request

abbrev pub IsEnd : Want → Type 0
IsEnd (Asks request) = ⊥
IsEnd (Returns value) = Unit {0}
IsEnd (Traps kind) = Unit {0}

abbrev pub Finds : Code → Frame → Move → Type 0
Finds code f (GoesOn g) = Keeps code f g
Finds code f (Requests request follows) = Leading code f request follows
Finds code f (Ends want) = IsEnd want
Finds code f Stuck = ⊥

arguments_length : (params : ℕ) (operands : List ℤ) → params ≤ length operands → length (arguments_on params operands) ≡ params
arguments_length params operands enough =
    let a = length-reverse (take params operands) in
    let b = length-take params operands in
    omega (arith, a, b, enough)

pub first_length : (proc : Proc) (arguments : List ℤ) → length arguments ≡ proc.params → proc.params ≤ proc.locals → length (activation proc arguments).locals ≡ proc.locals
first_length proc arguments e enough =
    let a = length-append arguments (replicate (proc.locals - proc.params) (pos 0)) in
    let b = length-replicate (proc.locals - proc.params) (pos 0) in
    omega (arith, a, b, e, enough)

-- The start of a procedure of the code stands in it, whatever waits for it.
pub begins : (code : Code) (shapes : ℕ → Shape) (procs : (procedure : ℕ) (proc : Proc) → slice_get code.procs procedure ≡ Some proc → (Leads code.instrs shapes procedure proc 0 proc.start) × (proc.params ≤ proc.locals))
    (procedure : ℕ) (proc : Proc) → slice_get code.procs procedure ≡ Some proc → (arguments : List ℤ) → length arguments ≡ proc.params → (callers : List Activation) → IsCallable proc callers →
    IsAt code shapes 0 (activation proc arguments) callers
begins code shapes procs procedure proc is arguments e callers callable =
    let sound = procs procedure proc is in
    record {
      procedure = procedure;
      proc = proc;
      is = is;
      leads = sound.0;
      locals = first_length proc arguments e sound.1;
      room = refl;
      callable = callable;
    }

nothing_inside : {A : Type 0} (items : List A) (at : ℕ) → slice_get items at ≡ None → at < length items → ⊥
nothing_inside {A} [] at e less = absurd (omega (arith, less))
nothing_inside {A} (x ∷ items) zero e less = absurd cc
nothing_inside {A} (x ∷ items) (suc at) e less = nothing_inside items at e (omega (arith, less))

below_limit : (depth limit : ℕ) → depth ≤ limit → (depth == limit) ≡ false → suc depth ≤ limit
below_limit depth limit le e = grind (arith, nat_tests)

-- an add leaves a frame that stands, whatever its sum
overflowing : {code : Code} {f : Frame} {b : Bool} (g : Frame) → Keeps code f g → Keeps code f (record g { overflowed = b })
overflowing {code} {f} {b} g h =
    let s = h.stands in
    record { stands = record { valid = s.valid; running = s.running; waiting = s.waiting; depth = s.depth }; depth = h.depth; own = h.own }

-- only the function's own locals count, where it has callers only theirs
same_own : (a b : Activation) (callers : List Activation) → length a.locals ≡ length b.locals → length (own_locals_of a callers) ≡ length (own_locals_of b callers)
same_own a b [] e = e
same_own a b (caller ∷ callers) e = refl

none_waits : (proc : Proc) (callers : List Activation) → IsCallable proc callers → proc.«cilk» ≡ true → callers ≡ []
none_waits proc [] callable e = refl
none_waits proc (caller ∷ callers) callable e = absurd (let h : false ≡ true = sym callable ∙ e in cc)

module _ (code : Code) (f : Frame) (s : StandsIn code f) where
  pop_finds : (operands : List ℤ) (next : ℤ → List ℤ → Move) → 1 ≤ length operands → ((v : ℤ) (rest : List ℤ) → suc (length rest) ≡ length operands → Finds code f (next v rest)) → Finds code f (popping operands next)
  pop_finds [] next some h = absurd (omega (arith, some))
  pop_finds (v ∷ rest) next some h = h v rest refl

  given_finds : {A : Type 0} (r : Result A TrapKind) (next : A → Move) → ((v : A) → Finds code f (next v)) → Finds code f (given r next)
  given_finds {A} (Ok v) next h = h v
  given_finds {A} (Err kind) next h = tt

  trap_finds : (b : Bool) (kind : TrapKind) (move : Move) → (b ≡ false → Finds code f move) → Finds code f (if b then Ends (Traps kind) else move)
  trap_finds true kind move h = tt
  trap_finds false kind move h = h refl

  proc_finds : (o : Option Proc) (proc : Proc) (next : Proc → Move) → o ≡ Some proc → Finds code f (next proc) → Finds code f (with_proc o next)
  proc_finds o proc next e h = subst (λ o. Finds code f (with_proc o next)) (sym e) h

  value_leads : (next : ℤ → Frame) → ((v : ℤ) → Keeps code f (next v)) → (answer : Answer) (g : Frame) → on_value next answer ≡ Some g → Keeps code f g
  value_leads next h (Value v) g e = subst (Keeps code f) (let same : next v ≡ g = cc in same) (h v)
  value_leads next h (Children deposits) g e = absurd cc
  value_leads next h Done g e = absurd cc

  children_leads : (next : List Deposit → Frame) → ((deposits : List Deposit) → Keeps code f (next deposits)) → (answer : Answer) (g : Frame) → on_children next answer ≡ Some g → Keeps code f g
  children_leads next h (Value v) g e = absurd cc
  children_leads next h (Children deposits) g e = subst (Keeps code f) (let same : next deposits ≡ g = cc in same) (h deposits)
  children_leads next h Done g e = absurd cc

  done_leads : (next : Frame) → Keeps code f next → (answer : Answer) (g : Frame) → on_done next answer ≡ Some g → Keeps code f g
  done_leads next h (Value v) g e = absurd cc
  done_leads next h (Children deposits) g e = absurd cc
  done_leads next h Done g e = subst (Keeps code f) (let same : next ≡ g = cc in same) h

  -- with the value of the call the last caller goes on
  back_finds : (v : ℤ) (callers : List Activation) → f.callers ≡ callers → AreWaiting code s.valid.shapes callers → Finds code f (returned f v callers)
  back_finds v [] e waiting = tt
  back_finds v (caller ∷ callers) e waiting =
      record {
        stands = record {
          valid = s.valid;
          running = record {
            procedure = waiting.0.procedure;
            proc = waiting.0.proc;
            is = waiting.0.is;
            leads = waiting.0.leads;
            locals = waiting.0.locals;
            room = waiting.0.room;
            callable = waiting.0.callable;
          };
          waiting = waiting.1;
          depth = s.depth;
        };
        depth = refl;
        own = same_own (record caller { operands = v ∷ caller.operands }) caller callers refl ∙ ap (λ callers. length (own_locals_of f.running callers)) (sym e);
      }

  module _ (i : Instr) (e : slice_get code.instrs f.running.pc ≡ Some i) where
    here : s.valid.shapes f.running.pc ≡ record { procedure = s.running.procedure; operands = length f.running.operands }
    here = s.running.leads.expected

    pub fine : IsFine code.procs code.instrs (length code.shared) s.valid.shapes f.running.pc s.running.proc i
    fine = s.valid.instrs f.running.pc s.running.proc i (ap (λ shape. slice_get code.procs shape.procedure) here ∙ s.running.is) e

    pub taken : length f.running.operands ≡ takes code.procs i + fine.below
    taken = sym (ap (λ shape. shape.operands) here) ∙ fine.taken

    pub enough : takes code.procs i ≤ length f.running.operands
    enough = let h = taken in omega (arith, h)

    leads_on : (operands to : ℕ) → Leads code.instrs s.valid.shapes (s.valid.shapes f.running.pc).procedure s.running.proc (puts i + fine.below) to → operands + takes code.procs i ≡ puts i + length f.running.operands →
        Leads code.instrs s.valid.shapes s.running.procedure s.running.proc operands to
    leads_on operands to leads n =
        let h = taken in
        let same : puts i + fine.below ≡ operands = omega (arith, h, n) in
        subst (λ p. Leads code.instrs s.valid.shapes p s.running.proc operands to) (ap (λ shape. shape.procedure) here)
        (subst (λ k. Leads code.instrs s.valid.shapes (s.valid.shapes f.running.pc).procedure s.running.proc k to) same leads)

    -- the function, somewhere else
    is_at : (operands to : ℕ) (locals values : List ℤ) → Leads code.instrs s.valid.shapes s.running.procedure s.running.proc operands to → length locals ≡ length f.running.locals →
        IsAt code s.valid.shapes operands (record f.running { pc = to; locals = locals; operands = values }) f.callers
    is_at operands to locals values leads same =
        record {
          procedure = s.running.procedure;
          proc = s.running.proc;
          is = s.running.is;
          leads = leads;
          locals = same ∙ s.running.locals;
          room = s.running.room;
          callable = s.running.callable;
        }

    behind : goes_behind i ≡ true → (locals operands : List ℤ) → length locals ≡ length f.running.locals → length operands + takes code.procs i ≡ puts i + length f.running.operands → Keeps code f (stored f locals operands)
    behind goes locals operands same n =
        record {
          stands = record {
            valid = s.valid;
            running = is_at (length operands) (suc f.running.pc) locals operands (leads_on (length operands) (suc f.running.pc) (fine.behind goes) n) same;
            waiting = s.waiting;
            depth = s.depth;
          };
          depth = refl;
          own = same_own (record f.running { pc = suc f.running.pc; locals = locals; operands = operands }) f.running f.callers same;
        }

    jumps : (to : ℕ) → jumps_to i ≡ Some to → (operands : List ℤ) → length operands + takes code.procs i ≡ puts i + length f.running.operands → Keeps code f (moved f to operands)
    jumps to goes operands n =
        record {
          stands = record {
            valid = s.valid;
            running = is_at (length operands) to f.running.locals operands (leads_on (length operands) to (fine.jumps to goes) n) refl;
            waiting = s.waiting;
            depth = s.depth;
          };
          depth = refl;
          own = same_own (record f.running { pc = to; operands = operands }) f.running f.callers refl;
        }

    binary_finds : (operator : BinaryOp) → goes_behind i ≡ true → takes code.procs i ≡ 2 → puts i ≡ 1 → Finds code f (binary f operator)
    binary_finds operator goes two one =
        let h = enough in
        pop_finds f.running.operands _ (omega (arith, h, two)) (λ y below n.
        pop_finds below _ (omega (arith, h, two, n)) (λ x rest m.
        given_finds (operated operator x y) _ (λ v. behind goes f.running.locals (v ∷ rest) refl (omega (arith, two, one, n, m)))))

    unary_finds : (operator : UnaryOp) → goes_behind i ≡ true → takes code.procs i ≡ 1 → puts i ≡ 1 → Finds code f (unary f operator)
    unary_finds operator goes one other =
        let h = enough in
        pop_finds f.running.operands _ (omega (arith, h, one)) (λ x rest n.
        given_finds (negated operator x) _ (λ v. behind goes f.running.locals (v ∷ rest) refl (omega (arith, one, other, n))))

    chosen_keeps : (to : ℕ) (b : Bool) (rest : List ℤ) → jumps_to i ≡ Some to → goes_behind i ≡ true → length rest + takes code.procs i ≡ puts i + length f.running.operands →
        Keeps code f (moved f (if b then to else suc f.running.pc) rest)
    chosen_keeps to true rest goes falls n = jumps to goes rest n
    chosen_keeps to false rest goes falls n = behind falls f.running.locals rest refl n

    -- the function of a call that its arguments are taken off for
    call_keeps : (proc : Proc) (procedure : ℕ) → slice_get code.procs procedure ≡ Some proc → proc.«cilk» ≡ false → goes_behind i ≡ true → takes code.procs i ≡ proc.params → puts i ≡ 1 → Keeps code f (called f proc)
    call_keeps proc procedure is plain goes n one =
        let h = enough in
        let dropped = length-drop proc.params f.running.operands in
        record {
          stands = record {
            valid = s.valid;
            running = begins code s.valid.shapes (λ p q same. ((s.valid.procs p q same).starts, (s.valid.procs p q same).params)) procedure proc is
                (arguments_on proc.params f.running.operands) (arguments_length proc.params f.running.operands (omega (arith, h, n))) _ plain;
            waiting = (
              is_at (suc (length (drop proc.params f.running.operands))) (suc f.running.pc) f.running.locals (drop proc.params f.running.operands)
                  (leads_on (suc (length (drop proc.params f.running.operands))) (suc f.running.pc) (fine.behind goes) (omega (arith, dropped, h, n, one))) refl,
              s.waiting,
            );
            depth = s.depth;
          };
          depth = refl;
          own = same_own (record f.running { pc = suc f.running.pc; operands = drop proc.params f.running.operands }) f.running f.callers refl;
        }

    spawn_leads : (target : Option ℕ) (procedure : ℕ) (proc : Proc) → slice_get code.procs procedure ≡ Some proc → goes_behind i ≡ true → takes code.procs i ≡ proc.params → puts i ≡ 0 →
        s.running.proc.«cilk» ≡ true → IsLocal s.running.proc target → (f.depth == limits.depth) ≡ false →
        Leading code f (want.Spawn target procedure (arguments_on proc.params f.running.operands)) (on_done (next_with f (drop proc.params f.running.operands)))
    spawn_leads target procedure proc is goes n none kind inside less =
        let h = enough in
        let dropped = length-drop proc.params f.running.operands in
        let depth = s.depth in
        record {
          keeps = done_leads _ (behind goes f.running.locals (drop proc.params f.running.operands) refl (omega (arith, dropped, h, n, none)));
          child = record {
            starts = record {
              proc = proc;
              is = is;
              params = arguments_length proc.params f.running.operands (omega (arith, h, n));
              depth = below_limit f.depth limits.depth depth less;
              target = own_target target (none_waits s.running.proc f.callers s.running.callable kind) inside;
            };
            arguments = refl;
            enough = omega (arith, h, n);
          };
        }
      where
        own_target : (target : Option ℕ) → f.callers ≡ [] → IsLocal s.running.proc target → IsTarget target f
        own_target None e inside = tt
        own_target (Some k) e inside =
            subst (λ callers. k < length (own_locals_of f.running callers)) (sym e) (subst (λ n. k < n) (sym s.running.locals) inside)

  finds_at : (o : Option Instr) → slice_get code.instrs f.running.pc ≡ o → Finds code f (act code f o)
  finds_at None e = absurd (let h = s.running.leads.inside in nothing_inside code.instrs f.running.pc e h)
  finds_at (Some (instr.Const v)) e = behind (instr.Const v) e refl f.running.locals (v ∷ f.running.operands) refl (omega arith)
  finds_at (Some (instr.Load k)) e = behind (instr.Load k) e refl f.running.locals (local_at f.running.locals k ∷ f.running.operands) refl (omega arith)
  finds_at (Some (instr.Store k)) e =
      let h = enough (instr.Store k) e in
      pop_finds f.running.operands _ h (λ v rest n. behind (instr.Store k) e refl (slice_set f.running.locals k v) rest (length-set f.running.locals k v) (omega (arith, n)))
  finds_at (Some instr.Pop) e =
      let h = enough instr.Pop e in
      pop_finds f.running.operands _ h (λ v rest n. behind instr.Pop e refl f.running.locals rest refl (omega (arith, n)))
  finds_at (Some instr.Add) e = binary_finds instr.Add e op.Add refl refl refl
  finds_at (Some instr.Sub) e = binary_finds instr.Sub e op.Sub refl refl refl
  finds_at (Some instr.Mul) e = binary_finds instr.Mul e op.Mul refl refl refl
  finds_at (Some instr.Div) e = binary_finds instr.Div e op.Div refl refl refl
  finds_at (Some instr.Rem) e = binary_finds instr.Rem e op.Rem refl refl refl
  finds_at (Some instr.Neg) e = unary_finds instr.Neg e unary_op.Neg refl refl refl
  finds_at (Some instr.Not) e = unary_finds instr.Not e unary_op.Not refl refl refl
  finds_at (Some instr.Eq) e = binary_finds instr.Eq e op.Eq refl refl refl
  finds_at (Some instr.Ne) e = binary_finds instr.Ne e op.Ne refl refl refl
  finds_at (Some instr.Lt) e = binary_finds instr.Lt e op.Lt refl refl refl
  finds_at (Some instr.Le) e = binary_finds instr.Le e op.Le refl refl refl
  finds_at (Some instr.Gt) e = binary_finds instr.Gt e op.Gt refl refl refl
  finds_at (Some instr.Ge) e = binary_finds instr.Ge e op.Ge refl refl refl
  finds_at (Some (instr.Jump to)) e = jumps (instr.Jump to) e to refl f.running.operands (omega arith)
  finds_at (Some (instr.JumpIfZero to)) e =
      let h = enough (instr.JumpIfZero to) e in
      pop_finds f.running.operands _ h (λ v rest n. chosen_keeps (instr.JumpIfZero to) e to (is_zero v) rest refl refl (omega (arith, n)))
  finds_at (Some (instr.ReadShared array)) e =
      let h = enough (instr.ReadShared array) e in
      pop_finds f.running.operands _ h (λ i rest n.
      given_finds (word_of (extent_of code.shared array) i) _ (λ word. record {
        keeps = value_leads _ (λ v. behind (instr.ReadShared array) e refl f.running.locals (v ∷ rest) refl (omega (arith, n)));
        child = tt;
      }))
  finds_at (Some (instr.WriteShared array)) e =
      let h = enough (instr.WriteShared array) e in
      pop_finds f.running.operands _ (omega (arith, h)) (λ v below n.
      pop_finds below _ (omega (arith, h, n)) (λ i rest m.
      given_finds (word_of (extent_of code.shared array) i) _ (λ word. record {
        keeps = done_leads _ (behind (instr.WriteShared array) e refl f.running.locals rest refl (omega (arith, n, m)));
        child = tt;
      })))
  finds_at (Some (instr.AddShared array)) e =
      let h = enough (instr.AddShared array) e in
      pop_finds f.running.operands _ (omega (arith, h)) (λ addend below n.
      pop_finds below _ (omega (arith, h, n)) (λ i rest m.
      given_finds (word_of (extent_of code.shared array) i) _ (λ word. record {
        keeps = value_leads _ (λ old. overflowing _ (behind (instr.AddShared array) e refl f.running.locals (old ∷ rest) refl (omega (arith, n, m))));
        child = tt;
      })))
  finds_at (Some instr.PrintTop) e =
      let h = enough instr.PrintTop e in
      pop_finds f.running.operands _ h (λ v rest n. record { keeps = done_leads _ (behind instr.PrintTop e refl f.running.locals rest refl (omega (arith, n))); child = tt })
  finds_at (Some instr.Turn) e = record { keeps = done_leads _ (behind instr.Turn e refl f.running.locals f.running.operands refl (omega arith)); child = tt }
  finds_at (Some (instr.Call procedure)) e =
      let known = (fine (instr.Call procedure) e).in_range in
      proc_finds (slice_get code.procs procedure) known.0 _ known.1
      (trap_finds (length f.callers == limits.calls) TooDeep _ (λ less. record {
        keeps = done_leads _ (call_keeps (instr.Call procedure) e known.0 procedure known.1 known.2 refl (ap params_of known.1) refl);
        child = tt;
      }))
  finds_at (Some (instr.Spawn procedure target)) e =
      let range = (fine (instr.Spawn procedure target) e).in_range in
      proc_finds (slice_get code.procs procedure) range.1.0 _ range.1.1
      (trap_finds (f.depth == limits.depth) TooDeep _ (λ less.
      spawn_leads (instr.Spawn procedure target) e target procedure range.1.0 range.1.1 refl (ap params_of range.1.1) refl range.0 range.2 less))
  finds_at (Some instr.SyncAll) e = record {
    keeps = children_leads _ (λ deposits. behind instr.SyncAll e refl (deposited deposits f.running.locals) f.running.operands (deposited_length deposits f.running.locals) (omega arith));
    child = tt;
  }
  finds_at (Some instr.Return) e =
      let h = enough instr.Return e in
      pop_finds f.running.operands _ h (λ v rest n. back_finds v f.callers refl s.waiting)

  pub finds : Finds code f (look code f)
  finds = trap_finds f.overflowed Overflow _ (λ goes. finds_at (slice_get code.instrs f.running.pc) refl)

  pub goes_keeps : (g : Frame) → look code f ≡ GoesOn g → Keeps code f g
  goes_keeps g e = subst (Finds code f) e finds

  pub goes_stands : (g : Frame) → look code f ≡ GoesOn g → StandsIn code g
  goes_stands g e = (goes_keeps g e).stands

  pub leading : (request : Request) (follows : Answer → Option Frame) → look code f ≡ Requests request follows → Leading code f request follows
  leading request follows e = subst (Finds code f) e finds

  pub not_stuck : look code f ≡ Stuck → ⊥
  not_stuck e = subst (Finds code f) e finds

  pub ends_so : (want : Want) → look code f ≡ Ends want → IsEnd want
  ends_so want e = subst (Finds code f) e finds
