-- From each place of the code a frame wants what the rest of the tree wants.
use Rattle.std.proofs.Common.{◌≡◌, ℕ, zero, suc, ◌+◌, ◌-◌, ◌<◌, ◌≤◌, List, [], ◌∷◌, ◌++◌, length, Option, Some, None, refl, sym, ap, ◌∙◌, subst, arith, length-append, append_assoc}
use Rattle.std.proofs.lemmas.List.{take_at, drop_at, reverse-append, reverse-reverse, length-reverse}
use Rattle.std.specs.Prelude.{ℤ, pos, ◌+ℤ◌, ◌==◌, Bool, true, false, not, ◌&&◌, ◌||◌, if◌then◌else◌, Result, Ok, Err, slice_get, slice_set, reverse, drop, replicate}
use Rattle.cilk_tree.specs.declared.tree.BinaryOp.{BinaryOp}
use Rattle.cilk_tree.specs.declared.tree.BinaryOp.TheVariants as op
use Rattle.cilk_tree.specs.declared.tree.UnaryOp.{UnaryOp}
use Rattle.cilk_tree.specs.declared.tree.UnaryOp.TheVariants as unary_op
use Rattle.cilk_meaning.specs.declared.ends.TrapKind.{TrapKind}
use Rattle.cilk_meaning.specs.declared.ends.TrapKind.TheVariants.{Overflow, TooDeep}
use Rattle.cilk_meaning.specs.Instance.{Meaning, Calling, Around, limits, ends, ask, on_value, on_children, on_done, given, decides, limited, value, values, adding, turns, syncing, synced, does, whole, entered, calls}
use Rattle.cilk_meaning.specs.Locals.{Locals, local_at, assigned, deposited, first_locals, extent_of}
use Rattle.cilk_meaning.specs.Resolved as tree
use Rattle.cilk_meaning.specs.Resolved.{Expr, Stmt, Function, Program}
use Rattle.cilk_meaning.specs.Values.{fits, is_zero, is_met, truth, exact, negated, decided, operated, word_of}
use Rattle.cilk_meaning.specs.Wants as want
use Rattle.cilk_meaning.specs.Wants.{Request, Want, Asks, Returns, Traps, Deposit, Answer, Value, Children, Done}
use Rattle.machine_code.specs.declared.instr.Instr.{Instr}
use Rattle.machine_code.specs.declared.instr.Instr.TheVariants as instr
use Rattle.machine_code.specs.Machine.{Code, Activation, Frame, Move, GoesOn, Requests, Ends, Stuck, called, act, look, resumed, wants_for, wants, activation, arguments_on}
use Rattle.machine_code.specs.Machine as machine
use Rattle.machine_code.specs.Valid.{GoesForward}
use Rattle.machine_code.proofs.Steps.{goes_wants, requests_wants, ends_wants}
use Rattle.compiled_code.specs.Carries.{HasAt, SuitsCalls, Carries}
use Rattle.compiled_code.specs.Emitted.{unary_instr, then_operate, and_code, or_code, expr_code, exprs_code, target_code, sync_code, stmt_code, function_code}
use Rattle.compiled_code.proofs.Places.{has_front, has_back}

-- the operands behind arguments, and the arguments on top of them
pub on_top : (vs ops : List ℤ) (params : ℕ) → length vs ≡ params → arguments_on params (reverse vs ++ ops) ≡ vs
on_top vs ops params n =
    ap reverse (take_at (reverse vs) ops params (length-reverse vs ∙ n)) ∙ reverse-reverse vs

pub below_top : (vs ops : List ℤ) (params : ℕ) → length vs ≡ params → drop params (reverse vs ++ ops) ≡ ops
below_top vs ops params n = drop_at (reverse vs) ops params (length-reverse vs ∙ n)

one_more : (v : ℤ) (vs ops : List ℤ) → reverse vs ++ (v ∷ ops) ≡ reverse (v ∷ vs) ++ ops
one_more v vs ops = sym (append_assoc (reverse vs) (v ∷ []) ops) ∙ ap (λ l. l ++ ops) (sym (reverse-append (v ∷ []) vs))

-- a value as a truth
truth_twice : (x : ℤ) → truth (is_zero (truth (is_zero x))) ≡ truth (is_met x)
truth_twice x = go (is_zero x) refl
  where
    go : (b : Bool) → is_zero x ≡ b → truth (is_zero (truth (is_zero x))) ≡ truth (is_met x)
    go true e = ap (λ b. truth (is_zero (truth b))) e ∙ ap (λ b. truth (not b)) (sym e)
    go false e = ap (λ b. truth (is_zero (truth b))) e ∙ ap (λ b. truth (not b)) (sym e)

module _ (code : Code) (forward : GoesForward code.instrs) (depth : ℕ) where
  -- the same for fewer than n answers
  abbrev pub Same : ℕ → Meaning → Meaning → Type 0
  Same n g h = (answers : List Answer) → length answers < n → g answers ≡ h answers

  fewer : (k n : ℕ) (g h : Meaning) → k ≤ n → Same n g h → Same k g h
  fewer k n g h le s answers lt = s answers (omega (arith, le, lt))

  pub ending : (n : ℕ) (f : Frame) (want : Want) → look code f ≡ Ends want → Same n (ends want) (wants code f)
  ending n f want e answers lt = sym (ends_wants code f want e answers)

  -- one instruction that goes on
  going : (n : ℕ) (f g : Frame) (m : Meaning) → look code f ≡ GoesOn g → Same n m (wants code g) → Same n m (wants code f)
  going n f g m e h answers lt = h answers lt ∙ sym (goes_wants code forward f g e answers)

  asking : (n : ℕ) (f : Frame) (request : Request) (follows : Answer → Option Frame) (next : Answer → Meaning) → look code f ≡ Requests request follows →
      ((answer : Answer) (rest : List Answer) → suc (length rest) < n → next answer rest ≡ resumed (follows answer) (wants_for code rest)) → Same n (ask request next) (wants code f)
  asking n f request follows next e h [] lt = sym (requests_wants code f request follows e [])
  asking n f request follows next e h (answer ∷ rest) lt =
      ap (λ ws. Asks request ∷ ws) (h answer rest lt) ∙ sym (requests_wants code f request follows e (answer ∷ rest))

  value_next : (n : ℕ) (next : ℤ → Meaning) (g : ℤ → Frame) → ((v : ℤ) → Same n (next v) (wants code (g v))) →
      (answer : Answer) (rest : List Answer) → length rest < n → on_value next answer rest ≡ resumed (machine.on_value g answer) (wants_for code rest)
  value_next n next g h (Value v) rest lt = h v rest lt
  value_next n next g h (Children deposits) rest lt = refl
  value_next n next g h Done rest lt = refl

  children_next : (n : ℕ) (next : List Deposit → Meaning) (g : List Deposit → Frame) → ((deposits : List Deposit) → Same n (next deposits) (wants code (g deposits))) →
      (answer : Answer) (rest : List Answer) → length rest < n → on_children next answer rest ≡ resumed (machine.on_children g answer) (wants_for code rest)
  children_next n next g h (Value v) rest lt = refl
  children_next n next g h (Children deposits) rest lt = h deposits rest lt
  children_next n next g h Done rest lt = refl

  done_next : (n : ℕ) (next : Meaning) (g : Frame) → Same n next (wants code g) →
      (answer : Answer) (rest : List Answer) → length rest < n → on_done next answer rest ≡ resumed (machine.on_done g answer) (wants_for code rest)
  done_next n next g h (Value v) rest lt = refl
  done_next n next g h (Children deposits) rest lt = refl
  done_next n next g h Done rest lt = h rest lt

  giving : {A : Type 0} (n : ℕ) (f : Frame) (r : Result A TrapKind) (k : A → Move) (next : A → Meaning) → look code f ≡ machine.given r k →
      ((v : A) → look code f ≡ k v → Same n (next v) (wants code f)) → Same n (given r next) (wants code f)
  giving {A} n f (Ok v) k next e h = h v e
  giving {A} n f (Err kind) k next e h = ending n f (Traps kind) e

  limiting : (n : ℕ) (f : Frame) (b : Bool) (move : Move) (next : Meaning) → look code f ≡ (if b then Ends (Traps TooDeep) else move) →
      (look code f ≡ move → Same n next (wants code f)) → Same n (if b then ends (Traps TooDeep) else next) (wants code f)
  limiting n f true move next e h = ending n f (Traps TooDeep) e
  limiting n f false move next e h = h e

  module _ (room : ℕ) (cs : List Activation) where
    abbrev pub at : ℕ → Locals → List ℤ → Frame
    at pc l ops = record { running = record { pc = pc; locals = l; operands = ops; room = room }; callers = cs; depth = depth; overflowed = false }

    abbrev pub from : ℕ → Locals → List ℤ → Meaning
    from pc l ops = wants code (at pc l ops)

    moved_to : (n p q : ℕ) (l : Locals) (ops : List ℤ) (g : Meaning) → p ≡ q → Same n g (from p l ops) → Same n g (from q l ops)
    moved_to n p q l ops g e h = subst (λ r. Same n g (from r l ops)) e h

    pub looked : (pc : ℕ) (l : Locals) (ops : List ℤ) (i : Instr) → slice_get code.instrs pc ≡ Some i → look code (at pc l ops) ≡ act code (at pc l ops) (Some i)
    looked pc l ops i e = ap (λ o. act code (at pc l ops) o) e

    -- one instruction that goes on
    on : (n pc : ℕ) (l : Locals) (ops : List ℤ) (g : Frame) (i : Instr) (m : Meaning) → slice_get code.instrs pc ≡ Some i → act code (at pc l ops) (Some i) ≡ GoesOn g →
        Same n m (wants code g) → Same n m (from pc l ops)
    on n pc l ops g i m e a h = going n (at pc l ops) g m (looked pc l ops i e ∙ a) h

    branch : (n : ℕ) (b : Bool) (p q : ℕ) (l : Locals) (ops : List ℤ) (g h : Meaning) → Same n g (from p l ops) → Same n h (from q l ops) →
        Same n (if b then g else h) (from (if b then p else q) l ops)
    branch n true p q l ops g h x y = x
    branch n false p q l ops g h x y = y

    -- a test with a jump
    tested : (n pc other : ℕ) (l : Locals) (v : ℤ) (ops : List ℤ) (g h : Meaning) → slice_get code.instrs pc ≡ Some (instr.JumpIfZero other) →
        Same n g (from other l ops) → Same n h (from (suc pc) l ops) → Same n (if is_zero v then g else h) (from pc l (v ∷ ops))
    tested n pc other l v ops g h e x y =
        on n pc l (v ∷ ops) (at (if is_zero v then other else suc pc) l ops) (instr.JumpIfZero other) _ e refl (branch n (is_zero v) other (suc pc) l ops g h x y)

    -- an operator with its operands
    operating : (n pc : ℕ) (l : Locals) (ops : List ℤ) (i : Instr) (operator : BinaryOp) (x y : ℤ) (next : ℤ → Meaning) → slice_get code.instrs pc ≡ Some i →
        ((f : Frame) → act code f (Some i) ≡ machine.binary f operator) → ((v : ℤ) → Same n (next v) (from (suc pc) l (v ∷ ops))) →
        Same n (given (operated operator x y) next) (from pc l (y ∷ x ∷ ops))
    operating n pc l ops i operator x y next e acts h =
        giving n (at pc l (y ∷ x ∷ ops)) (operated operator x y) (λ v. GoesOn (at (suc pc) l (v ∷ ops))) next (looked pc l (y ∷ x ∷ ops) i e ∙ acts (at pc l (y ∷ x ∷ ops)))
        (λ v seen. going n (at pc l (y ∷ x ∷ ops)) (at (suc pc) l (v ∷ ops)) (next v) seen (h v))

    unary_means : (n pc : ℕ) (l : Locals) (ops : List ℤ) (operator : UnaryOp) (x : ℤ) (next : ℤ → Meaning) → slice_get code.instrs pc ≡ Some (unary_instr operator) →
        ((v : ℤ) → Same n (next v) (from (suc pc) l (v ∷ ops))) → Same n (given (negated operator x) next) (from pc l (x ∷ ops))
    unary_means n pc l ops unary_op.Neg x next e h =
        giving n (at pc l (x ∷ ops)) (negated unary_op.Neg x) (λ v. GoesOn (at (suc pc) l (v ∷ ops))) next (looked pc l (x ∷ ops) instr.Neg e)
        (λ v seen. going n (at pc l (x ∷ ops)) (at (suc pc) l (v ∷ ops)) (next v) seen (h v))
    unary_means n pc l ops unary_op.Not x next e h =
        giving n (at pc l (x ∷ ops)) (negated unary_op.Not x) (λ v. GoesOn (at (suc pc) l (v ∷ ops))) next (looked pc l (x ∷ ops) instr.Not e)
        (λ v seen. going n (at pc l (x ∷ ops)) (at (suc pc) l (v ∷ ops)) (next v) seen (h v))

    -- a value becomes 0 or 1
    met_means : (n pc : ℕ) (l : Locals) (ops : List ℤ) (y : ℤ) (next : ℤ → Meaning) → slice_get code.instrs pc ≡ Some instr.Not → slice_get code.instrs (suc pc) ≡ Some instr.Not →
        Same n (next (truth (is_met y))) (from (suc (suc pc)) l (truth (is_met y) ∷ ops)) → Same n (next (truth (is_met y))) (from pc l (y ∷ ops))
    met_means n pc l ops y next e e' h =
        on n pc l (y ∷ ops) (at (suc pc) l (truth (is_zero y) ∷ ops)) instr.Not _ e refl
        (on n (suc pc) l (truth (is_zero y) ∷ ops) (at (suc (suc pc)) l (truth (is_zero (truth (is_zero y))) ∷ ops)) instr.Not _ e' refl
        (subst (λ v. Same n (next (truth (is_met y))) (from (suc (suc pc)) l (v ∷ ops))) (sym (truth_twice y)) h))

    -- what an expression's code does, from its place
    abbrev Means : Expr → Type 0
    Means e = (n pc : ℕ) (l : Locals) (ops : List ℤ) (next : ℤ → Meaning) → HasAt code.instrs pc (expr_code pc e) →
        ((v : ℤ) → Same n (next v) (from (pc + length (expr_code pc e)) l (v ∷ ops))) → Same n (value code.shared e l next) (from pc l ops)

    -- an operator that evaluates both operands
    both_mean : (i : Instr) (operator : BinaryOp) → ((x : ℤ) → decided operator x ≡ None) → ((f : Frame) → act code f (Some i) ≡ machine.binary f operator) →
        (x y : Expr) → Means x → Means y → (n pc : ℕ) (l : Locals) (ops : List ℤ) (next : ℤ → Meaning) → HasAt code.instrs pc (then_operate i pc (expr_code pc x) (λ place. expr_code place y)) →
        ((v : ℤ) → Same n (next v) (from (pc + length (then_operate i pc (expr_code pc x) (λ place. expr_code place y))) l (v ∷ ops))) →
        Same n (value code.shared (tree.Binary operator x y) l next) (from pc l ops)
    both_mean i operator none acts x y mx my n pc l ops next has h =
        let cx = expr_code pc x in
        let cy = expr_code (pc + length cx) y in
        let end = pc + length cx + length cy in
        let hasy = has_back code.instrs pc cx _ has in
        let here = (has_back code.instrs (pc + length cx) cy (i ∷ []) hasy).0 in
        let len : pc + length (cx ++ (cy ++ i ∷ [])) ≡ suc end = omega (arith, length-append cx (cy ++ i ∷ []), length-append cy (i ∷ [])) in
        mx n pc l ops _ (has_front code.instrs pc cx _ has) (λ v.
        subst (λ o. Same n (decides o next (value code.shared y l (λ w. given (operated operator v w) next))) (from (pc + length cx) l (v ∷ ops))) (sym (none v))
        (my n (pc + length cx) l (v ∷ ops) _ (has_front code.instrs (pc + length cx) cy _ hasy) (λ w.
        operating n end l ops i operator v w next here acts (λ r. moved_to n _ _ l (r ∷ ops) (next r) len (h r)))))

    and_decides : (n pc : ℕ) (l : Locals) (v : ℤ) (ops : List ℤ) (next : ℤ → Meaning) (otherwise : Meaning) (zeros : ℕ) → slice_get code.instrs pc ≡ Some (instr.JumpIfZero zeros) →
        Same n (next (pos 0)) (from zeros l ops) → (is_zero v ≡ false → Same n otherwise (from (suc pc) l ops)) → Same n (decides (decided op.And v) next otherwise) (from pc l (v ∷ ops))
    and_decides n pc l v ops next otherwise zeros e skips goes =
        on n pc l (v ∷ ops) (at (if is_zero v then zeros else suc pc) l ops) (instr.JumpIfZero zeros) _ e refl (go (is_zero v) refl)
      where
        go : (b : Bool) → is_zero v ≡ b → Same n (decides (if b then Some (pos 0) else None) next otherwise) (from (if b then zeros else suc pc) l ops)
        go true is = skips
        go false is = goes is

    or_decides : (n pc : ℕ) (l : Locals) (v : ℤ) (ops : List ℤ) (next : ℤ → Meaning) (otherwise : Meaning) (other : ℕ) → slice_get code.instrs pc ≡ Some (instr.JumpIfZero other) →
        Same n (next (pos 1)) (from (suc pc) l ops) → (is_zero v ≡ true → Same n otherwise (from other l ops)) → Same n (decides (decided op.Or v) next otherwise) (from pc l (v ∷ ops))
    or_decides n pc l v ops next otherwise other e skips goes =
        on n pc l (v ∷ ops) (at (if is_zero v then other else suc pc) l ops) (instr.JumpIfZero other) _ e refl (go (is_zero v) refl)
      where
        go : (b : Bool) → is_zero v ≡ b → Same n (decides (if b then None else Some (pos 1)) next otherwise) (from (if b then other else suc pc) l ops)
        go true is = goes is
        go false is = skips

    and_means : (x y : Expr) → Means x → Means y → Means (tree.Binary op.And x y)
    and_means x y mx my n pc l ops next has h =
        let cx = expr_code pc x in
        let py = suc (pc + length cx) in
        let cy = expr_code py y in
        let zeros = suc (suc (suc (py + length cy))) in
        let tail : List Instr = instr.Not ∷ instr.Not ∷ instr.Jump (suc zeros) ∷ instr.Const (pos 0) ∷ [] in
        let hasx = has_back code.instrs pc cx _ has in
        let hasy = has_back code.instrs py cy tail hasx.1 in
        let len : pc + length (and_code zeros cx cy) ≡ suc zeros = omega (arith, length-append cx (instr.JumpIfZero zeros ∷ (cy ++ tail)), length-append cy tail) in
        let skipped : Same n (next (pos 0)) (from zeros l ops) =
        on n zeros l ops (at (suc zeros) l (pos 0 ∷ ops)) (instr.Const (pos 0)) _ hasy.1.1.1.0 refl (moved_to n _ _ l (pos 0 ∷ ops) _ len (h (pos 0))) in
        mx n pc l ops _ (has_front code.instrs pc cx _ has) (λ v.
        and_decides n (pc + length cx) l v ops next _ zeros hasx.0 skipped (λ is.
        my n py l ops _ (has_front code.instrs py cy tail hasx.1) (λ w.
        let same : truth (is_met w) ≡ truth (is_met v && is_met w) = ap (λ b. truth (not b && is_met w)) (sym is) in
        subst (λ t. Same n (next t) (from (py + length cy) l (w ∷ ops))) same
        (met_means n (py + length cy) l ops w next hasy.0 hasy.1.0
        (on n (suc (suc (py + length cy))) l (truth (is_met w) ∷ ops) (at (suc zeros) l (truth (is_met w) ∷ ops)) (instr.Jump (suc zeros)) _ hasy.1.1.0 refl
        (moved_to n _ _ l (truth (is_met w) ∷ ops) _ len (h (truth (is_met w)))))))))

    or_means : (x y : Expr) → Means x → Means y → Means (tree.Binary op.Or x y)
    or_means x y mx my n pc l ops next has h =
        let cx = expr_code pc x in
        let other = suc (suc (suc (pc + length cx))) in
        let cy = expr_code other y in
        let end = suc (suc (other + length cy)) in
        let tail : List Instr = instr.Not ∷ instr.Not ∷ [] in
        let hasx = has_back code.instrs pc cx _ has in
        let hasy = has_back code.instrs other cy tail hasx.1.1.1 in
        let len : pc + length (or_code other cx cy) ≡ end = omega (arith, length-append cx (instr.JumpIfZero other ∷ instr.Const (pos 1) ∷ instr.Jump end ∷ (cy ++ tail)), length-append cy tail) in
        let skipped : Same n (next (pos 1)) (from (suc (pc + length cx)) l ops) =
        on n (suc (pc + length cx)) l ops (at (suc (suc (pc + length cx))) l (pos 1 ∷ ops)) (instr.Const (pos 1)) _ hasx.1.0 refl
        (on n (suc (suc (pc + length cx))) l (pos 1 ∷ ops) (at end l (pos 1 ∷ ops)) (instr.Jump end) _ hasx.1.1.0 refl (moved_to n _ _ l (pos 1 ∷ ops) _ len (h (pos 1)))) in
        mx n pc l ops _ (has_front code.instrs pc cx _ has) (λ v.
        or_decides n (pc + length cx) l v ops next _ other hasx.0 skipped (λ is.
        my n other l ops _ (has_front code.instrs other cy tail hasx.1.1.1) (λ w.
        let same : truth (is_met w) ≡ truth (is_met v || is_met w) = ap (λ b. truth (not b || is_met w)) (sym is) in
        subst (λ t. Same n (next t) (from (other + length cy) l (w ∷ ops))) same
        (met_means n (other + length cy) l ops w next hasy.0 hasy.1.0
        (moved_to n _ _ l (truth (is_met w) ∷ ops) _ len (h (truth (is_met w))))))))

    binary_means : (operator : BinaryOp) (x y : Expr) → Means x → Means y → Means (tree.Binary operator x y)
    binary_means op.And x y mx my = and_means x y mx my
    binary_means op.Or x y mx my = or_means x y mx my
    binary_means op.Eq x y mx my = both_mean instr.Eq op.Eq (λ v. refl) (λ f. refl) x y mx my
    binary_means op.Ne x y mx my = both_mean instr.Ne op.Ne (λ v. refl) (λ f. refl) x y mx my
    binary_means op.Lt x y mx my = both_mean instr.Lt op.Lt (λ v. refl) (λ f. refl) x y mx my
    binary_means op.Le x y mx my = both_mean instr.Le op.Le (λ v. refl) (λ f. refl) x y mx my
    binary_means op.Gt x y mx my = both_mean instr.Gt op.Gt (λ v. refl) (λ f. refl) x y mx my
    binary_means op.Ge x y mx my = both_mean instr.Ge op.Ge (λ v. refl) (λ f. refl) x y mx my
    binary_means op.Add x y mx my = both_mean instr.Add op.Add (λ v. refl) (λ f. refl) x y mx my
    binary_means op.Sub x y mx my = both_mean instr.Sub op.Sub (λ v. refl) (λ f. refl) x y mx my
    binary_means op.Mul x y mx my = both_mean instr.Mul op.Mul (λ v. refl) (λ f. refl) x y mx my
    binary_means op.Div x y mx my = both_mean instr.Div op.Div (λ v. refl) (λ f. refl) x y mx my
    binary_means op.Rem x y mx my = both_mean instr.Rem op.Rem (λ v. refl) (λ f. refl) x y mx my

    expr_means : (e : Expr) → Means e
    expr_means (tree.Number v) n pc l ops next has h =
        on n pc l ops (at (suc pc) l (v ∷ ops)) (instr.Const v) _ has.0 refl (moved_to n _ (suc pc) l (v ∷ ops) _ (omega arith) (h v))
    expr_means (tree.Local k) n pc l ops next has h =
        on n pc l ops (at (suc pc) l (local_at l k ∷ ops)) (instr.Load k) _ has.0 refl (moved_to n _ (suc pc) l (local_at l k ∷ ops) _ (omega arith) (h (local_at l k)))
    expr_means (tree.Get a i) n pc l ops next has h =
        let ci = expr_code pc i in
        let end = pc + length ci in
        let len : pc + length (ci ++ instr.ReadShared a ∷ []) ≡ suc end = omega (arith, length-append ci (instr.ReadShared a ∷ [])) in
        expr_means i n pc l ops _ (has_front code.instrs pc ci _ has) (λ v.
        giving n (at end l (v ∷ ops)) (word_of (extent_of code.shared a) v) _ _ (looked end l (v ∷ ops) (instr.ReadShared a) (has_back code.instrs pc ci _ has).0) (λ word seen.
        asking n (at end l (v ∷ ops)) (want.Read word) _ (on_value next) seen (λ answer rest lt.
        value_next n next (λ x. at (suc end) l (x ∷ ops)) (λ x. moved_to n _ _ l (x ∷ ops) (next x) len (h x)) answer rest (omega (arith, lt)))))
    expr_means (tree.Unary operator x) n pc l ops next has h =
        let cx = expr_code pc x in
        let len : pc + length (cx ++ unary_instr operator ∷ []) ≡ suc (pc + length cx) = omega (arith, length-append cx (unary_instr operator ∷ [])) in
        expr_means x n pc l ops _ (has_front code.instrs pc cx _ has) (λ v.
        unary_means n (pc + length cx) l ops operator v next (has_back code.instrs pc cx _ has).0 (λ r. moved_to n _ _ l (r ∷ ops) (next r) len (h r)))
    expr_means (tree.Binary operator x y) n pc l ops next has h = binary_means operator x y (expr_means x) (expr_means y) n pc l ops next has h

    exprs_mean : (es : List Expr) (n pc : ℕ) (l : Locals) (ops : List ℤ) (next : List ℤ → Meaning) → HasAt code.instrs pc (exprs_code pc es) →
        ((vs : List ℤ) → length vs ≡ length es → Same n (next vs) (from (pc + length (exprs_code pc es)) l (reverse vs ++ ops))) → Same n (values code.shared es l next) (from pc l ops)
    exprs_mean [] n pc l ops next has h = moved_to n _ pc l ops _ (omega arith) (h [] refl)
    exprs_mean (e ∷ es) n pc l ops next has h =
        let ce = expr_code pc e in
        let ces = exprs_code (pc + length ce) es in
        let len : pc + length (ce ++ ces) ≡ pc + length ce + length ces = omega (arith, length-append ce ces) in
        expr_means e n pc l ops _ (has_front code.instrs pc ce ces has) (λ v.
        exprs_mean es n (pc + length ce) l (v ∷ ops) _ (has_back code.instrs pc ce ces has) (λ vs same.
        subst (λ o. Same n (next (v ∷ vs)) (from (pc + length ce + length ces) l o)) (sym (one_more v vs ops))
        (moved_to n _ _ l (reverse (v ∷ vs) ++ ops) (next (v ∷ vs)) len (h (v ∷ vs) (omega (arith, same))))))

    target_means : (n pc : ℕ) (l : Locals) (target : Option ℕ) (v : ℤ) (next : Locals → Meaning) → slice_get code.instrs pc ≡ Some (target_code target) →
        ((l : Locals) → Same n (next l) (from (suc pc) l [])) → Same n (next (assigned target v l)) (from pc l (v ∷ []))
    target_means n pc l None v next e h = on n pc l (v ∷ []) (at (suc pc) l []) instr.Pop _ e refl (h l)
    target_means n pc l (Some k) v next e h = on n pc l (v ∷ []) (at (suc pc) (slice_set l k v) []) (instr.Store k) _ e refl (h (slice_set l k v))

    syncing_means : (n pc : ℕ) (l : Locals) (next : Locals → Meaning) → slice_get code.instrs pc ≡ Some instr.SyncAll → ((l : Locals) → Same n (next l) (from (suc pc) l [])) → Same n (syncing l next) (from pc l [])
    syncing_means n pc l next e h =
        asking n (at pc l []) want.Sync _ (on_children (λ d. next (deposited d l))) (looked pc l [] instr.SyncAll e) (λ answer rest lt.
        children_next n (λ d. next (deposited d l)) (λ d. at (suc pc) (deposited d l) []) (λ d. h (deposited d l)) answer rest (omega (arith, lt)))

    synced_means : (n pc : ℕ) («cilk» : Bool) (l : Locals) (next : Locals → Meaning) → HasAt code.instrs pc (sync_code «cilk») →
        ((l : Locals) → Same n (next l) (from (pc + length (sync_code «cilk»)) l [])) → Same n (synced «cilk» l next) (from pc l [])
    synced_means n pc false l next has h = moved_to n _ pc l [] (next l) (omega arith) (h l)
    synced_means n pc true l next has h = syncing_means n pc l next has.0 (λ l'. moved_to n _ _ l' [] (next l') (omega arith) (h l'))

    -- behind an add
    added_means : (n pc : ℕ) (l : Locals) (word : ℕ) (addend : ℤ) (next : ℤ → Meaning) (f : Frame) → look code f ≡ Requests (want.Add word addend) (machine.on_value (λ old.
        record (at pc l (old ∷ [])) { overflowed = not (fits (old +ℤ addend)) })) → ((v : ℤ) → Same n (next v) (from pc l (v ∷ []))) → Same n (adding word addend next) (wants code f)
    added_means n pc l word addend next f e h =
        asking n f (want.Add word addend) _ (on_value (λ old. given (exact (old +ℤ addend)) (λ sum. next old))) e (λ answer rest lt.
        value_next n (λ old. given (exact (old +ℤ addend)) (λ sum. next old)) (λ old. record (at pc l (old ∷ [])) { overflowed = not (fits (old +ℤ addend)) })
        (λ old. go old (fits (old +ℤ addend))) answer rest (omega (arith, lt)))
      where
        go : (old : ℤ) (b : Bool) → Same n (given (if b then Ok (old +ℤ addend) else Err Overflow) (λ sum. next old)) (wants code (record (at pc l (old ∷ [])) { overflowed = not b }))
        go old true = h old
        go old false = ending n (record (at pc l (old ∷ [])) { overflowed = true }) (Traps Overflow) refl

    -- at most m turns of a loop
    turns_mean : (few pc end jump over : ℕ) (test : Locals → (ℤ → Meaning) → Meaning) (body : Locals → (Locals → Meaning) → Meaning) →
        slice_get code.instrs pc ≡ Some instr.Turn → slice_get code.instrs jump ≡ Some (instr.JumpIfZero over) → slice_get code.instrs end ≡ Some (instr.Jump pc) →
        ((k : ℕ) → k ≤ few → (l : Locals) (next : ℤ → Meaning) → ((v : ℤ) → Same k (next v) (from jump l (v ∷ []))) → Same k (test l next) (from (suc pc) l [])) →
        ((k : ℕ) → k ≤ few → (l : Locals) (next : Locals → Meaning) → ((l : Locals) → Same k (next l) (from end l [])) → Same k (body l next) (from (suc jump) l [])) →
        (m k : ℕ) → k ≤ m → k ≤ few → (next : Locals → Meaning) → ((l : Locals) → Same k (next l) (from over l [])) → (l : Locals) → Same k (turns m test body l next) (from pc l [])
    turns_mean few pc end jump over test body et ej ee ht hb zero k le lf next h l = λ answers lt. absurd (omega (arith, le, lt))
    turns_mean few pc end jump over test body et ej ee ht hb (suc m) zero le lf next h l = λ answers lt. absurd (omega (arith, lt))
    turns_mean few pc end jump over test body et ej ee ht hb (suc m) (suc k) le lf next h l =
        let h' : (l : Locals) → Same k (next l) (from over l []) = λ l. fewer k (suc k) _ _ (omega arith) (h l) in
        let again : (after : Locals) → Same k (turns m test body after next) (from end after []) =
        λ after. on k end after [] (at pc after []) (instr.Jump pc) _ ee refl (turns_mean few pc end jump over test body et ej ee ht hb m k (omega (arith, le)) (omega (arith, lf)) next h' after) in
        let once : Same k (test l (λ v. if is_zero v then next l else body l (λ after. turns m test body after next))) (from (suc pc) l []) =
        ht k (omega (arith, lf)) l _ (λ v. tested k jump over l v [] _ _ ej (h' l) (hb k (omega (arith, lf)) l _ again)) in
        asking (suc k) (at pc l []) want.LoopTurn _ (on_done (test l (λ v. if is_zero v then next l else body l (λ after. turns m test body after next)))) (looked pc l [] instr.Turn et) (λ answer rest lt.
        done_next k _ (at (suc pc) l []) once answer rest (omega (arith, lt)))

  module _ (program : Program) (carries : Carries code program) where
    -- a call of a function where so many operands are on the stack: its arguments
    spawn_means : (room : ℕ) (cs : List Activation) (k pc : ℕ) (l : Locals) (target : Option ℕ) (f : ℕ) (fn : Function) (vs : List ℤ) (next : Meaning) →
        slice_get code.instrs pc ≡ Some (instr.Spawn f target) → slice_get program.functions f ≡ Some fn → length vs ≡ fn.params → Same k next (from room cs (suc pc) l []) →
        Same k (limited limits.depth depth (ask (want.Spawn target f vs) (on_done next))) (from room cs pc l (reverse vs ++ []))
    spawn_means room cs k pc l target f fn vs next e is_fn n h =
        let p = carries.procs f fn is_fn in
        let enough : length vs ≡ p.proc.params = n ∙ sym p.params in
        let here : Frame = at room cs pc l (reverse vs ++ []) in
        let there : Frame = at room cs (suc pc) l [] in
        let seen : look code here ≡ machine.limited limits.depth depth (Requests (want.Spawn target f vs) (machine.on_done there)) =
        looked room cs pc l (reverse vs ++ []) (instr.Spawn f target) e
        ∙ ap (λ o. machine.with_proc o (λ proc. machine.limited limits.depth depth
        (Requests (want.Spawn target f (arguments_on proc.params (reverse vs ++ []))) (machine.on_done (at room cs (suc pc) l (drop proc.params (reverse vs ++ []))))))) p.is
        ∙ ap (λ a. machine.limited limits.depth depth (Requests (want.Spawn target f a) (machine.on_done (at room cs (suc pc) l (drop p.proc.params (reverse vs ++ [])))))) (on_top vs [] p.proc.params enough)
        ∙ ap (λ a. machine.limited limits.depth depth (Requests (want.Spawn target f vs) (machine.on_done (at room cs (suc pc) l a)))) (below_top vs [] p.proc.params enough) in
        limiting k here (depth == limits.depth) (Requests (want.Spawn target f vs) (machine.on_done there)) _ seen (λ seen'.
        asking k here (want.Spawn target f vs) _ (on_done next) seen' (λ answer rest lt.
        done_next k next there h answer rest (omega (arith, lt))))

    -- What the statements of a function mean, for a bound on answers: what follows a return and plain calls are as the machine makes them.
    module _ (room : ℕ) (cs : List Activation) (n : ℕ) («cilk» : Bool) (call : Calling) (most : ℕ) (leave : ℤ → Meaning) (enough : n ≤ most)
        (leaves : (pc : ℕ) (l : Locals) (v : ℤ) → slice_get code.instrs pc ≡ Some instr.Return → Same n (leave v) (from room cs pc l (v ∷ [])))
        (calls_mean : (k : ℕ) → k ≤ n → (f : ℕ) (fn : Function) (vs : List ℤ) (pc : ℕ) (l : Locals) (next : ℤ → Meaning) → slice_get code.instrs pc ≡ Some (instr.Call f) →
        slice_get program.functions f ≡ Some fn → length vs ≡ fn.params → ((v : ℤ) → Same k (next v) (from room cs (suc pc) l (v ∷ []))) →
        Same k (call f vs next) (from room cs pc l (reverse vs ++ []))) where
      abbrev around : Around
      around = record { shared = code.shared; «cilk» = «cilk»; deepest = limits.depth; depth = depth; call = call; turns = most; leave = leave }

      to_place : (k p q : ℕ) (l : Locals) (ops : List ℤ) (g : Meaning) → p ≡ q → Same k g (from room cs p l ops) → Same k g (from room cs q l ops)
      to_place k p q l ops g e h = moved_to room cs k p q l ops g e h

      does_means : (s : Stmt) (k : ℕ) → k ≤ n → (pc : ℕ) (l : Locals) (next : Locals → Meaning) → SuitsCalls program s → HasAt code.instrs pc (stmt_code «cilk» pc s) →
          ((l : Locals) → Same k (next l) (from room cs (pc + length (stmt_code «cilk» pc s)) l [])) → Same k (does around s l next) (from room cs pc l [])
      does_means tree.Skip k le pc l next suits has h = to_place k _ pc l [] (next l) (omega arith) (h l)
      does_means (tree.Then a b) k le pc l next suits has h =
          let ca = stmt_code «cilk» pc a in
          let cb = stmt_code «cilk» (pc + length ca) b in
          let len : pc + length (ca ++ cb) ≡ pc + length ca + length cb = omega (arith, length-append ca cb) in
          does_means a k le pc l _ suits.0 (has_front code.instrs pc ca cb has) (λ after.
          does_means b k le (pc + length ca) after next suits.1 (has_back code.instrs pc ca cb has) (λ last. to_place k _ _ last [] (next last) len (h last)))
      does_means (tree.Assign x e) k le pc l next suits has h =
          let ce = expr_code pc e in
          let end = pc + length ce in
          let len : pc + length (ce ++ instr.Store x ∷ []) ≡ suc end = omega (arith, length-append ce (instr.Store x ∷ [])) in
          expr_means room cs e k pc l [] _ (has_front code.instrs pc ce _ has) (λ v.
          on room cs k end l (v ∷ []) (at room cs (suc end) (slice_set l x v) []) (instr.Store x) _ (has_back code.instrs pc ce _ has).0 refl
          (to_place k _ _ (slice_set l x v) [] (next (slice_set l x v)) len (h (slice_set l x v))))
      does_means (tree.Put a i e) k le pc l next suits has h =
          let ci = expr_code pc i in
          let ce = expr_code (pc + length ci) e in
          let end = pc + length ci + length ce in
          let hase = has_back code.instrs pc ci _ has in
          let len : pc + length (ci ++ (ce ++ instr.WriteShared a ∷ [])) ≡ suc end =
          omega (arith, length-append ci (ce ++ instr.WriteShared a ∷ []), length-append ce (instr.WriteShared a ∷ [])) in
          expr_means room cs i k pc l [] _ (has_front code.instrs pc ci _ has) (λ x.
          expr_means room cs e k (pc + length ci) l (x ∷ []) _ (has_front code.instrs (pc + length ci) ce _ hase) (λ v.
          giving k (at room cs end l (v ∷ x ∷ [])) (word_of (extent_of code.shared a) x) _ _
          (looked room cs end l (v ∷ x ∷ []) (instr.WriteShared a) (has_back code.instrs (pc + length ci) ce _ hase).0) (λ word seen.
          asking k (at room cs end l (v ∷ x ∷ [])) (want.Write word v) _ (on_done (next l)) seen (λ answer rest lt.
          done_next k (next l) (at room cs (suc end) l []) (to_place k _ _ l [] (next l) len (h l)) answer rest (omega (arith, lt))))))
      does_means (tree.Print e) k le pc l next suits has h =
          let ce = expr_code pc e in
          let end = pc + length ce in
          let len : pc + length (ce ++ instr.PrintTop ∷ []) ≡ suc end = omega (arith, length-append ce (instr.PrintTop ∷ [])) in
          expr_means room cs e k pc l [] _ (has_front code.instrs pc ce _ has) (λ v.
          asking k (at room cs end l (v ∷ [])) (want.Print v) _ (on_done (next l)) (looked room cs end l (v ∷ []) instr.PrintTop (has_back code.instrs pc ce _ has).0) (λ answer rest lt.
          done_next k (next l) (at room cs (suc end) l []) (to_place k _ _ l [] (next l) len (h l)) answer rest (omega (arith, lt))))
      does_means (tree.If t a b) k le pc l next suits has h =
          let ct = expr_code pc t in
          let pa = suc (pc + length ct) in
          let ca = stmt_code «cilk» pa a in
          let pb = suc (pa + length ca) in
          let cb = stmt_code «cilk» pb b in
          let hast = has_back code.instrs pc ct _ has in
          let hasa = has_back code.instrs pa ca _ hast.1 in
          let len : pc + length (ct ++ (instr.JumpIfZero pb ∷ (ca ++ (instr.Jump (pb + length cb) ∷ cb)))) ≡ pb + length cb =
          omega (arith, length-append ct (instr.JumpIfZero pb ∷ (ca ++ (instr.Jump (pb + length cb) ∷ cb))), length-append ca (instr.Jump (pb + length cb) ∷ cb)) in
          let behind : (l : Locals) → Same k (next l) (from room cs (pb + length cb) l []) = λ l. to_place k _ _ l [] (next l) len (h l) in
          expr_means room cs t k pc l [] _ (has_front code.instrs pc ct _ has) (λ v.
          tested room cs k (pc + length ct) pb l v [] _ _ hast.0
          (does_means b k le pb l next suits.1 hasa.1 behind)
          (does_means a k le pa l next suits.0 (has_front code.instrs pa ca _ hast.1) (λ last.
          on room cs k (pa + length ca) last [] (at room cs (pb + length cb) last []) (instr.Jump (pb + length cb)) _ hasa.0 refl (behind last))))
      does_means (tree.While t s) k le pc l next suits has h =
          let ct = expr_code (suc pc) t in
          let jump = suc pc + length ct in
          let bs = stmt_code «cilk» (suc jump) s in
          let end = suc jump + length bs in
          let hast = has_back code.instrs (suc pc) ct _ has.1 in
          let hase = has_back code.instrs (suc jump) bs _ hast.1 in
          let len : pc + length (instr.Turn ∷ (ct ++ (instr.JumpIfZero (suc end) ∷ (bs ++ instr.Jump pc ∷ [])))) ≡ suc end =
          omega (arith, length-append ct (instr.JumpIfZero (suc end) ∷ (bs ++ instr.Jump pc ∷ [])), length-append bs (instr.Jump pc ∷ [])) in
          turns_mean room cs n pc end jump (suc end) (value code.shared t) (does around s) has.0 hast.0 hase.0
          (λ k' le' l' next' h'. expr_means room cs t k' (suc pc) l' [] next' (has_front code.instrs (suc pc) ct _ has.1) h')
          (λ k' le' l' next' h'. does_means s k' le' (suc jump) l' next' suits (has_front code.instrs (suc jump) bs _ hast.1) h')
          most k (omega (arith, le, enough)) le next (λ last. to_place k _ _ last [] (next last) len (h last)) l
      does_means (tree.Call target f es) k le pc l next suits has h =
          let ces = exprs_code pc es in
          let tail : List Instr = instr.Call f ∷ target_code target ∷ [] in
          let end = pc + length ces in
          let hasc = has_back code.instrs pc ces tail has in
          let len : pc + length (ces ++ tail) ≡ suc (suc end) = omega (arith, length-append ces tail) in
          exprs_mean room cs es k pc l [] _ (has_front code.instrs pc ces tail has) (λ vs same.
          calls_mean k le f suits.0 vs end l _ hasc.0 suits.1 (same ∙ suits.2) (λ v.
          target_means room cs k (suc end) l target v next hasc.1.0 (λ last. to_place k _ _ last [] (next last) len (h last))))
      does_means (tree.Spawn target f es) k le pc l next suits has h =
          let ces = exprs_code pc es in
          let end = pc + length ces in
          let len : pc + length (ces ++ instr.Spawn f target ∷ []) ≡ suc end = omega (arith, length-append ces (instr.Spawn f target ∷ [])) in
          exprs_mean room cs es k pc l [] _ (has_front code.instrs pc ces _ has) (λ vs same.
          spawn_means room cs k end l target f suits.0 vs (next l) (has_back code.instrs pc ces _ has).0 suits.1 (same ∙ suits.2) (to_place k _ _ l [] (next l) len (h l)))
      does_means (tree.Add target a i e) k le pc l next suits has h =
          let ci = expr_code pc i in
          let ce = expr_code (pc + length ci) e in
          let end = pc + length ci + length ce in
          let tail : List Instr = instr.AddShared a ∷ target_code target ∷ [] in
          let hase = has_back code.instrs pc ci _ has in
          let hasa = has_back code.instrs (pc + length ci) ce tail hase in
          let len : pc + length (ci ++ (ce ++ tail)) ≡ suc (suc end) = omega (arith, length-append ci (ce ++ tail), length-append ce tail) in
          expr_means room cs i k pc l [] _ (has_front code.instrs pc ci _ has) (λ x.
          expr_means room cs e k (pc + length ci) l (x ∷ []) _ (has_front code.instrs (pc + length ci) ce _ hase) (λ addend.
          giving k (at room cs end l (addend ∷ x ∷ [])) (word_of (extent_of code.shared a) x) _ _ (looked room cs end l (addend ∷ x ∷ []) (instr.AddShared a) hasa.0) (λ word seen.
          added_means room cs k (suc end) l word addend _ (at room cs end l (addend ∷ x ∷ [])) seen (λ old.
          target_means room cs k (suc end) l target old next hasa.1.0 (λ last. to_place k _ _ last [] (next last) len (h last))))))
      does_means tree.Sync k le pc l next suits has h = syncing_means room cs k pc l next has.0 (λ last. to_place k _ _ last [] (next last) (omega arith) (h last))
      does_means (tree.Return e) k le pc l next suits has h =
          let sc = sync_code «cilk» in
          let ce = expr_code (pc + length sc) e in
          let hase = has_back code.instrs pc sc _ has in
          synced_means room cs k pc «cilk» l _ (has_front code.instrs pc sc _ has) (λ after.
          expr_means room cs e k (pc + length sc) after [] leave (has_front code.instrs (pc + length sc) ce _ hase) (λ v.
          fewer k n _ _ le (leaves (pc + length sc + length ce) after v (has_back code.instrs (pc + length sc) ce _ hase).0)))

      whole_means : (body : Stmt) (pc : ℕ) (l : Locals) → SuitsCalls program body → HasAt code.instrs pc (stmt_code «cilk» pc body ++ (sync_code «cilk» ++ (instr.Const (pos 0) ∷ instr.Return ∷ []))) →
          Same n (whole around body l) (from room cs pc l [])
      whole_means body pc l suits has =
          let cb = stmt_code «cilk» pc body in
          let sc = sync_code «cilk» in
          let end = pc + length cb + length sc in
          let hass = has_back code.instrs pc cb _ has in
          let hase = has_back code.instrs (pc + length cb) sc (instr.Const (pos 0) ∷ instr.Return ∷ []) hass in
          does_means body n (omega arith) pc l _ suits (has_front code.instrs pc cb _ has) (λ after.
          synced_means room cs n (pc + length cb) «cilk» after _ (has_front code.instrs (pc + length cb) sc _ hass) (λ last.
          on room cs n end last [] (at room cs (suc end) last (pos 0 ∷ [])) (instr.Const (pos 0)) _ hase.0 refl (leaves (suc end) last (pos 0) hase.1.0)))

    -- What a body means, where its frame runs it and as many plain calls are open as callers wait.
    abbrev BodyMeans : ℕ → Type 0
    BodyMeans m = (cs : List Activation) (n : ℕ) → n ≤ m → (fn : Function) (room pc : ℕ) (l : Locals) (leave : ℤ → Meaning) → SuitsCalls program fn.body → HasAt code.instrs pc (function_code pc fn) →
        ((pc' : ℕ) (l' : Locals) (v : ℤ) → slice_get code.instrs pc' ≡ Some instr.Return → Same n (leave v) (from room cs pc' l' (v ∷ []))) →
        Same n (whole (record { shared = code.shared; «cilk» = fn.«cilk»; deepest = limits.depth; depth = depth; call = calls limits program depth m (length cs); turns = m; leave = leave }) fn.body l) (from room cs pc l [])

    -- a plain call
    called_means : (m k : ℕ) (room : ℕ) (cs : List Activation) → BodyMeans m → k ≤ suc m → (f : ℕ) (fn : Function) (vs : List ℤ) (pc : ℕ) (l : Locals) (next : ℤ → Meaning) →
        slice_get code.instrs pc ≡ Some (instr.Call f) → slice_get program.functions f ≡ Some fn → length vs ≡ fn.params → ((v : ℤ) → Same k (next v) (from room cs (suc pc) l (v ∷ []))) →
        Same k (calls limits program depth (suc m) (length cs) f vs next) (from room cs pc l (reverse vs ++ []))
    called_means m k room cs again le f fn vs pc l next e is_fn n h =
        let p = carries.procs f fn is_fn in
        let enough : length vs ≡ p.proc.params = n ∙ sym p.params in
        let here : Frame = at room cs pc l (reverse vs ++ []) in
        let waiting : List Activation = record { pc = suc pc; locals = l; operands = []; room = room } ∷ cs in
        let begun = first_locals fn vs in
        let there : Frame = at p.proc.operands waiting p.proc.start begun [] in
        let opens : List ℤ → List ℤ → Locals → Frame = λ arguments rest locals. record {
          running = record { pc = p.proc.start; locals = locals; operands = []; room = p.proc.operands };
          callers = record { pc = suc pc; locals = l; operands = rest; room = room } ∷ cs;
          depth = depth;
          overflowed = false;
        } in
        let same : called here p.proc ≡ there =
        ap (λ a. opens [] (drop p.proc.params (reverse vs ++ [])) (a ++ replicate (p.proc.locals - p.proc.params) (pos 0))) (on_top vs [] p.proc.params enough)
        ∙ ap (λ a. opens [] a (vs ++ replicate (p.proc.locals - p.proc.params) (pos 0))) (below_top vs [] p.proc.params enough)
        ∙ ap (λ a. opens [] [] (vs ++ replicate (a - p.proc.params) (pos 0))) p.locals
        ∙ ap (λ a. opens [] [] (vs ++ replicate (fn.locals - a) (pos 0))) p.params in
        let seen : look code here ≡ machine.limited limits.calls (length cs) (Requests want.Call (machine.on_done there)) =
        looked room cs pc l (reverse vs ++ []) (instr.Call f) e
        ∙ ap (λ o. machine.with_proc o (λ proc. machine.limited limits.calls (length cs) (Requests want.Call (machine.on_done (called here proc))))) p.is
        ∙ ap (λ g. machine.limited limits.calls (length cs) (Requests want.Call (machine.on_done g))) same in
        let inside : Meaning = entered limits program depth m (calls limits program depth m (suc (length cs))) (slice_get program.functions f) vs next in
        limiting k here (length cs == limits.calls) (Requests want.Call (machine.on_done there)) _ seen (λ seen'.
        asking k here want.Call _ (on_done inside) seen' (λ answer rest lt.
        done_next (k - 1) inside there
        (λ answers lt'.
        ap (λ o. entered limits program depth m (calls limits program depth m (suc (length cs))) o vs next answers) is_fn
        ∙ ap (λ sh. whole (record { shared = sh; «cilk» = fn.«cilk»; deepest = limits.depth; depth = depth; call = calls limits program depth m (suc (length cs)); turns = m; leave = next }) fn.body begun answers) (sym carries.shared)
        ∙ again waiting (k - 1) (omega (arith, le)) fn p.proc.operands p.proc.start begun next (carries.suits f fn is_fn) p.stands
        (λ pc' l' v is_return. on p.proc.operands waiting (k - 1) pc' l' (v ∷ []) (at room cs (suc pc) l (v ∷ [])) instr.Return _ is_return refl (fewer (k - 1) k _ _ (omega arith) (h v))) answers lt')
        answer rest (omega (arith, lt))))

    pub body_means : (m : ℕ) → BodyMeans m
    body_means zero cs n le fn room pc l leave suits has leaves = λ answers lt. absurd (omega (arith, le, lt))
    body_means (suc m) cs n le fn room pc l leave suits has leaves =
        whole_means room cs n fn.«cilk» (calls limits program depth (suc m) (length cs)) (suc m) leave le leaves
        (λ k le' f fn' vs pc' l' next e is_fn n' h'. called_means m k room cs (body_means m) (omega (arith, le, le')) f fn' vs pc' l' next e is_fn n' h')
        fn.body pc l suits has
