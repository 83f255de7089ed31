-- Each instruction of the code does no harm.
use Rattle.std.proofs.Common.{◌≡◌, ℕ, suc, ◌+◌, ◌-◌, ◌<◌, ◌≤◌, max, List, [], ◌∷◌, ◌++◌, length, Option, Some, None, refl, sym, ap, ◌∙◌, subst, arith, length-append}
use Rattle.std.specs.Prelude.{pos, Bool, true, false}
use Rattle.cilk_tree.specs.declared.tree.BinaryOp.{BinaryOp}
use Rattle.cilk_tree.specs.declared.tree.BinaryOp.TheVariants as op
use Rattle.cilk_tree.specs.declared.tree.UnaryOp.{UnaryOp}
use Rattle.cilk_tree.specs.declared.tree.UnaryOp.TheVariants as unary_op
use Rattle.cilk_meaning.specs.Resolved as tree
use Rattle.cilk_meaning.specs.Resolved.{Expr, Stmt, Function, Program}
use Rattle.machine_code.specs.declared.code.Proc.{Proc}
use Rattle.machine_code.specs.declared.instr.Instr.{Instr}
use Rattle.machine_code.specs.declared.instr.Instr.TheVariants as instr
use Rattle.machine_code.specs.Valid.{Shape, Leads, IsFine, IsInRange, IsProc, IsLocal, takes, puts, jumps_to}
use Rattle.compiled_code.specs.Emitted.{unary_instr, then_operate, and_code, or_code, expr_code, exprs_code, target_code, sync_code, stmt_code, expr_operands, exprs_operands, stmt_operands}
use Rattle.compiled_code.specs.WellFormed.{IsExprInRange, AreExprsInRange, IsTargetInRange, Suits, IsStmtInRange}
use Rattle.compiled_code.proofs.Heights.{step, sweep, Agrees, agrees_here, agrees_front, agrees_back, agrees_end, expr_sweeps, exprs_sweep, sync_sweeps, target_sweeps, AreThose, takes_arguments, stmt_sweeps}
use Rattle.compiled_code.proofs.Whole.{AllAt, all_append}

-- every expression has an operand
some_operand : (e : Expr) → 1 ≤ expr_operands e
some_operand (tree.Number v) = omega arith
some_operand (tree.Local k) = omega arith
some_operand (tree.Get a i) = some_operand i
some_operand (tree.Unary operator x) = some_operand x
some_operand (tree.Binary operator x y) = let h = some_operand x in omega (arith, h)

-- so there is room for its value
top_fits : {room : ℕ} (e : Expr) (h : ℕ) → h + expr_operands e ≤ room → suc h ≤ room
top_fits {room} e h le = let one = some_operand e in omega (arith, le, one)

module _ (procs : List Proc) (instrs : List Instr) (program : Program) (those : AreThose procs program) (shapes : ℕ → Shape) (p : ℕ) (proc : Proc) where
  abbrev arrays : ℕ
  arrays = length program.shared

  -- the instruction belongs to this procedure and does no harm
  abbrev pub Fine : ℕ → Instr → Type 0
  Fine at i = ((shapes at).procedure ≡ p) × IsFine procs instrs arrays shapes at proc i

  abbrev Shaped : ℕ → ℕ → Type 0
  Shaped at h = shapes at ≡ record { procedure = p; operands = h }

  abbrev Agree : ℕ → ℕ → List Instr → Type 0
  Agree h at is = Agrees procs shapes p h at is

  shaped : (at h g : ℕ) → h ≡ g → Shaped at h → Shaped at g
  shaped at h g e s = subst (Shaped at) e s

  leads : (at to h n : ℕ) → Shaped at h → Shaped to n → to < length instrs → n ≤ proc.operands → Leads instrs shapes (shapes at).procedure proc n to
  leads at to h n here there inside room = record {
    inside = inside;
    expected = subst (λ q. shapes to ≡ record { procedure = q; operands = n }) (sym (ap (λ (s : Shape). s.procedure) here)) there;
    room = room;
  }

  none_to : (i : Instr) (to : ℕ) {A : Type 0} → jumps_to i ≡ None → jumps_to i ≡ Some to → A
  none_to i to {A} none e = absurd (let same : None ≡ Some to = sym none ∙ e in cc)

  -- an instruction behind which control goes on
  falls : (i : Instr) (at h next below : ℕ) → Shaped at h → Shaped (suc at) next → h ≡ takes procs i + below → next ≡ puts i + below → jumps_to i ≡ None →
      suc at < length instrs → puts i + below ≤ proc.operands → IsInRange procs arrays proc i → Fine at i
  falls i at h next below here there taken left none inside room range = (
    ap (λ (s : Shape). s.procedure) here,
    record {
      in_range = range;
      below = below;
      taken = ap (λ (s : Shape). s.operands) here ∙ taken;
      behind = λ goes. leads at (suc at) h (puts i + below) here (shaped (suc at) next _ left there) inside room;
      jumps = λ to e. none_to i to none e;
    },
  )

  -- a test with a jump
  tests : (at to h next below : ℕ) → Shaped at h → Shaped (suc at) next → Shaped to below → h ≡ 1 + below → next ≡ below → suc at < length instrs → to < length instrs → below ≤ proc.operands →
      Fine at (instr.JumpIfZero to)
  tests at to h next below here there away taken left inside inside' room = (
    ap (λ (s : Shape). s.procedure) here,
    record {
      in_range = tt;
      below = below;
      taken = ap (λ (s : Shape). s.operands) here ∙ taken;
      behind = λ goes. leads at (suc at) h (0 + below) here (shaped (suc at) next _ (left ∙ omega arith) there) inside (omega (arith, room));
      jumps = λ to' e. subst (λ t. Leads instrs shapes (shapes at).procedure proc (0 + below) t) (let same : Some to ≡ Some to' = e in cc)
          (leads at to h (0 + below) here (shaped to _ _ (omega arith) away) inside' (omega (arith, room)));
    },
  )

  -- a jump
  goes_to : (at to h : ℕ) → Shaped at h → Shaped to h → to < length instrs → h ≤ proc.operands → Fine at (instr.Jump to)
  goes_to at to h here there inside room = (
    ap (λ (s : Shape). s.procedure) here,
    record {
      in_range = tt;
      below = h;
      taken = ap (λ (s : Shape). s.operands) here ∙ omega arith;
      behind = λ e. absurd (let no_more : false ≡ true = e in cc);
      jumps = λ to' e. subst (λ t. Leads instrs shapes (shapes at).procedure proc (0 + h) t) (let same : Some to ≡ Some to' = e in cc)
          (leads at to h (0 + h) here (shaped to _ _ (omega arith) there) inside (omega (arith, room)));
    },
  )

  returns : (at h : ℕ) → Shaped at h → h ≡ 1 → Fine at instr.Return
  returns at h here e = (
    ap (λ (s : Shape). s.procedure) here,
    record {
      in_range = tt;
      below = 0;
      taken = ap (λ (s : Shape). s.operands) here ∙ e;
      behind = λ goes. absurd (let no_more : false ≡ true = goes in cc);
      jumps = λ to e'. none_to instr.Return to refl e';
    },
  )

  -- what is left of an agreement behind a part of the code
  behind : (h h' at : ℕ) (front back : List Instr) → sweep procs h front ≡ h' → Agree h at (front ++ back) → Agree h' (at + length front) back
  behind h h' at front back e a = subst (λ n. Agree n (at + length front) back) e (agrees_back procs shapes p h at front back a)

  before : (h at : ℕ) (front back : List Instr) → Agree h at (front ++ back) → Agree h at front
  before h at front back a = agrees_front procs shapes p h at front back a

  -- an expression, wherever it stands
  abbrev ExprFine : Expr → Type 0
  ExprFine e = (h at : ℕ) → Agree h at (expr_code at e) → at + length (expr_code at e) < length instrs → h + expr_operands e ≤ proc.operands → IsExprInRange arrays proc.locals e →
      AllAt Fine at (expr_code at e)

  unary_fine : (operator : UnaryOp) (at h : ℕ) → Agree (suc h) at (unary_instr operator ∷ []) → suc at < length instrs → suc h ≤ proc.operands → Fine at (unary_instr operator)
  unary_fine unary_op.Neg at h a inside room = falls instr.Neg at _ _ h a.0 a.1 (omega arith) (omega arith) refl inside (omega (arith, room)) tt
  unary_fine unary_op.Not at h a inside room = falls instr.Not at _ _ h a.0 a.1 (omega arith) (omega arith) refl inside (omega (arith, room)) tt

  both_fine : (i : Instr) (x y : Expr) → ExprFine x → ExprFine y → takes procs i ≡ 2 → puts i ≡ 1 → ((h : ℕ) → step procs i h ≡ (h - takes procs i) + puts i) → jumps_to i ≡ None → IsInRange procs arrays proc i →
      (h at : ℕ) → Agree h at (then_operate i at (expr_code at x) (λ place. expr_code place y)) → at + length (then_operate i at (expr_code at x) (λ place. expr_code place y)) < length instrs →
      h + max (expr_operands x) (suc (expr_operands y)) ≤ proc.operands → IsExprInRange arrays proc.locals x → IsExprInRange arrays proc.locals y →
      AllAt Fine at (then_operate i at (expr_code at x) (λ place. expr_code place y))
  both_fine i x y fx fy t u s none range h at a inside room rx ry =
      let cx = expr_code at x in
      let cy = expr_code (at + length cx) y in
      let n1 = length-append cx (cy ++ i ∷ []) in
      let n2 = length-append cy (i ∷ []) in
      let a' = behind h (suc h) at cx _ (expr_sweeps procs x h at) a in
      let a'' = behind (suc h) (suc (suc h)) (at + length cx) cy _ (expr_sweeps procs y (suc h) (at + length cx)) a' in
      let e = s (suc (suc h)) in
      let left : step procs i (suc (suc h)) ≡ puts i + h = e ∙ omega (arith, t) in
      all_append Fine at cx _ (fx h at (before h at cx _ a) (omega (arith, inside, n1, n2)) (omega (arith, room)) rx)
      (all_append Fine (at + length cx) cy _ (fy (suc h) (at + length cx) (before (suc h) (at + length cx) cy _ a') (omega (arith, inside, n1, n2)) (omega (arith, room)) ry)
      (falls i (at + length cx + length cy) _ _ h a''.0 a''.1 (omega (arith, t)) left none (omega (arith, inside, n1, n2)) (omega (arith, u, room)) range, tt))

  and_fine : (x y : Expr) → ExprFine x → ExprFine y → ExprFine (tree.Binary op.And x y)
  and_fine x y fx fy h at a inside room range =
      let cx = expr_code at x in
      let py = suc (at + length cx) in
      let cy = expr_code py y in
      let zeros = suc (suc (suc (py + length cy))) in
      let tail : List Instr = instr.Not ∷ instr.Not ∷ instr.Jump (suc zeros) ∷ instr.Const (pos 0) ∷ [] in
      let n1 = length-append cx (instr.JumpIfZero zeros ∷ (cy ++ tail)) in
      let n2 = length-append cy tail in
      let end : at + length (and_code zeros cx cy) ≡ suc zeros = omega (arith, n1, n2) in
      let ax = behind h (suc h) at cx _ (expr_sweeps procs x h at) a in
      let ay : Agree h py (cy ++ tail) = subst (λ n. Agree n py (cy ++ tail)) (omega arith) ax.1 in
      let at_tail = behind h (suc h) py cy tail (expr_sweeps procs y h py) ay in
      let zeros_shaped : Shaped zeros h = shaped zeros _ h (omega arith) (at_tail.1.1.1.0) in
      let end_shaped : Shaped (suc zeros) (suc h) = shaped (suc zeros) _ (suc h) (omega arith) (at_tail.1.1.1.1) in
      all_append Fine at cx _ (fx h at (before h at cx _ a) (omega (arith, inside, end)) (omega (arith, room)) range.0) (
        tests (at + length cx) zeros _ _ h ax.0 (agrees_here procs shapes p _ py (cy ++ tail) ax.1) zeros_shaped (omega arith) (omega arith) (omega (arith, inside, end)) (omega (arith, inside, end)) (omega (arith, room)),
        all_append Fine py cy tail (fy h py (before h py cy tail ay) (omega (arith, inside, end)) (omega (arith, room)) range.1) (
          falls instr.Not (py + length cy) _ _ h at_tail.0 at_tail.1.0 (omega arith) (omega arith) refl (omega (arith, inside, end)) (omega (arith, room)) tt,
          (
            falls instr.Not (suc (py + length cy)) _ _ h at_tail.1.0 at_tail.1.1.0 (omega arith) (omega arith) refl (omega (arith, inside, end)) (omega (arith, room)) tt,
            (
              goes_to (suc (suc (py + length cy))) (suc zeros) (suc h) (shaped (suc (suc (py + length cy))) _ (suc h) (omega arith) (at_tail.1.1.0)) end_shaped (omega (arith, inside, end)) (omega (arith, room)),
              (falls (instr.Const (pos 0)) zeros h (suc h) h zeros_shaped end_shaped (omega arith) (omega arith) refl (omega (arith, inside, end)) (omega (arith, room)) tt, tt),
            ),
          ),
        ),
      )

  or_fine : (x y : Expr) → ExprFine x → ExprFine y → ExprFine (tree.Binary op.Or x y)
  or_fine x y fx fy h at a inside room range =
      let cx = expr_code at x in
      let other = suc (suc (suc (at + length cx))) in
      let cy = expr_code other y in
      let last = suc (suc (other + length cy)) in
      let tail : List Instr = instr.Not ∷ instr.Not ∷ [] in
      let n1 = length-append cx (instr.JumpIfZero other ∷ instr.Const (pos 1) ∷ instr.Jump last ∷ (cy ++ tail)) in
      let n2 = length-append cy tail in
      let end : at + length (or_code other cx cy) ≡ last = omega (arith, n1, n2) in
      let ax = behind h (suc h) at cx _ (expr_sweeps procs x h at) a in
      let ay : Agree h other (cy ++ tail) = subst (λ n. Agree n other (cy ++ tail)) (omega arith) ax.1.1.1 in
      let at_tail = behind h (suc h) other cy tail (expr_sweeps procs y h other) ay in
      let last_shaped : Shaped last (suc h) = shaped last _ (suc h) (omega arith) (at_tail.1.1) in
      all_append Fine at cx _ (fx h at (before h at cx _ a) (omega (arith, inside, end)) (omega (arith, room)) range.0) (
        tests (at + length cx) other _ _ h ax.0 ax.1.0 (agrees_here procs shapes p h other (cy ++ tail) ay) (omega arith) (omega arith) (omega (arith, inside, end)) (omega (arith, inside, end)) (omega (arith, room)),
        (
          falls (instr.Const (pos 1)) (suc (at + length cx)) _ _ h ax.1.0 ax.1.1.0 (omega arith) (omega arith) refl (omega (arith, inside, end)) (omega (arith, room)) tt,
          (
            goes_to (suc (suc (at + length cx))) last (suc h) (shaped (suc (suc (at + length cx))) _ (suc h) (omega arith) (ax.1.1.0)) last_shaped (omega (arith, inside, end)) (omega (arith, room)),
            all_append Fine other cy tail (fy h other (before h other cy tail ay) (omega (arith, inside, end)) (omega (arith, room)) range.1) (
              falls instr.Not (other + length cy) _ _ h at_tail.0 at_tail.1.0 (omega arith) (omega arith) refl (omega (arith, inside, end)) (omega (arith, room)) tt,
              (falls instr.Not (suc (other + length cy)) _ _ h at_tail.1.0 at_tail.1.1 (omega arith) (omega arith) refl (omega (arith, inside, end)) (omega (arith, room)) tt, tt),
            ),
          ),
        ),
      )

  binary_fine : (operator : BinaryOp) (x y : Expr) → ExprFine x → ExprFine y → ExprFine (tree.Binary operator x y)
  binary_fine op.And x y fx fy h at a inside room range = and_fine x y fx fy h at a inside room range
  binary_fine op.Or x y fx fy h at a inside room range = or_fine x y fx fy h at a inside room range
  binary_fine op.Eq x y fx fy h at a inside room range = both_fine instr.Eq x y fx fy refl refl (λ g. refl) refl tt h at a inside room range.0 range.1
  binary_fine op.Ne x y fx fy h at a inside room range = both_fine instr.Ne x y fx fy refl refl (λ g. refl) refl tt h at a inside room range.0 range.1
  binary_fine op.Lt x y fx fy h at a inside room range = both_fine instr.Lt x y fx fy refl refl (λ g. refl) refl tt h at a inside room range.0 range.1
  binary_fine op.Le x y fx fy h at a inside room range = both_fine instr.Le x y fx fy refl refl (λ g. refl) refl tt h at a inside room range.0 range.1
  binary_fine op.Gt x y fx fy h at a inside room range = both_fine instr.Gt x y fx fy refl refl (λ g. refl) refl tt h at a inside room range.0 range.1
  binary_fine op.Ge x y fx fy h at a inside room range = both_fine instr.Ge x y fx fy refl refl (λ g. refl) refl tt h at a inside room range.0 range.1
  binary_fine op.Add x y fx fy h at a inside room range = both_fine instr.Add x y fx fy refl refl (λ g. refl) refl tt h at a inside room range.0 range.1
  binary_fine op.Sub x y fx fy h at a inside room range = both_fine instr.Sub x y fx fy refl refl (λ g. refl) refl tt h at a inside room range.0 range.1
  binary_fine op.Mul x y fx fy h at a inside room range = both_fine instr.Mul x y fx fy refl refl (λ g. refl) refl tt h at a inside room range.0 range.1
  binary_fine op.Div x y fx fy h at a inside room range = both_fine instr.Div x y fx fy refl refl (λ g. refl) refl tt h at a inside room range.0 range.1
  binary_fine op.Rem x y fx fy h at a inside room range = both_fine instr.Rem x y fx fy refl refl (λ g. refl) refl tt h at a inside room range.0 range.1

  expr_fine : (e : Expr) → ExprFine e
  expr_fine (tree.Number v) h at a inside room range = (falls (instr.Const v) at _ _ h a.0 a.1 (omega arith) (omega arith) refl (omega (arith, inside)) (omega (arith, room)) tt, tt)
  expr_fine (tree.Local k) h at a inside room range = (falls (instr.Load k) at _ _ h a.0 a.1 (omega arith) (omega arith) refl (omega (arith, inside)) (omega (arith, room)) range, tt)
  expr_fine (tree.Get b i) h at a inside room range =
      let ci = expr_code at i in
      let n = length-append ci (instr.ReadShared b ∷ []) in
      let a' = behind h (suc h) at ci _ (expr_sweeps procs i h at) a in
      all_append Fine at ci _ (expr_fine i h at (before h at ci _ a) (omega (arith, inside, n)) room range.1)
      (falls (instr.ReadShared b) (at + length ci) _ _ h a'.0 a'.1 (omega arith) (omega arith) refl (omega (arith, inside, n)) (let r = top_fits i h room in omega (arith, r)) range.0, tt)
  expr_fine (tree.Unary operator x) h at a inside room range =
      let cx = expr_code at x in
      let n = length-append cx (unary_instr operator ∷ []) in
      all_append Fine at cx _ (expr_fine x h at (before h at cx _ a) (omega (arith, inside, n)) room range)
      (unary_fine operator (at + length cx) h (behind h (suc h) at cx _ (expr_sweeps procs x h at) a) (omega (arith, inside, n)) (top_fits x h room), tt)
  expr_fine (tree.Binary operator x y) h at a inside room range = binary_fine operator x y (expr_fine x) (expr_fine y) h at a inside room range

  exprs_fine : (es : List Expr) (h at : ℕ) → Agree h at (exprs_code at es) → at + length (exprs_code at es) < length instrs → exprs_operands h es ≤ proc.operands → AreExprsInRange arrays proc.locals es →
      AllAt Fine at (exprs_code at es)
  exprs_fine [] h at a inside room range = tt
  exprs_fine (e ∷ es) h at a inside room range =
      let ce = expr_code at e in
      let n = length-append ce (exprs_code (at + length ce) es) in
      all_append Fine at ce _ (expr_fine e h at (before h at ce _ a) (omega (arith, inside, n)) (omega (arith, room)) range.0)
      (exprs_fine es (suc h) (at + length ce) (behind h (suc h) at ce _ (expr_sweeps procs e h at) a) (omega (arith, inside, n)) (omega (arith, room)) range.1)

  target_fine : (target : Option ℕ) (at h next : ℕ) → Shaped at h → Shaped (suc at) next → h ≡ 1 → next ≡ 0 → suc at < length instrs → IsTargetInRange proc.locals target → Fine at (target_code target)
  target_fine None at h next here there e e' inside range = falls instr.Pop at h next 0 here there e e' refl inside (omega arith) tt
  target_fine (Some k) at h next here there e e' inside range = falls (instr.Store k) at h next 0 here there e e' refl inside (omega arith) range

  sync_fine : («cilk» : Bool) (at : ℕ) → proc.«cilk» ≡ «cilk» → Agree 0 at (sync_code «cilk») → at + length (sync_code «cilk») < length instrs → AllAt Fine at (sync_code «cilk»)
  sync_fine true at kind a inside = (falls instr.SyncAll at _ _ 0 a.0 a.1 (omega arith) (omega arith) refl (omega (arith, inside)) (omega arith) kind, tt)
  sync_fine false at kind a inside = tt

  is_proc : (f : ℕ) (kind : Bool) (es : List Expr) → Suits program f kind es → IsProc procs f kind
  is_proc f kind es s = let h = those f s.function s.is in (h.0, h.1, h.3 ∙ s.kind_is)

  is_local : (target : Option ℕ) → IsTargetInRange proc.locals target → IsLocal proc target
  is_local None r = tt
  is_local (Some k) r = r

  stmt_fine : (s : Stmt) (at : ℕ) → Agree 0 at (stmt_code proc.«cilk» at s) → at + length (stmt_code proc.«cilk» at s) < length instrs → stmt_operands s ≤ proc.operands →
      IsStmtInRange program proc.«cilk» proc.locals s → AllAt Fine at (stmt_code proc.«cilk» at s)
  stmt_fine tree.Skip at a inside room range = tt
  stmt_fine (tree.Then x y) at a inside room range =
      let cx = stmt_code proc.«cilk» at x in
      let n = length-append cx (stmt_code proc.«cilk» (at + length cx) y) in
      all_append Fine at cx _ (stmt_fine x at (before 0 at cx _ a) (omega (arith, inside, n)) (omega (arith, room)) range.0)
      (stmt_fine y (at + length cx) (behind 0 0 at cx _ (stmt_sweeps procs program those x proc.«cilk» proc.locals at range.0) a) (omega (arith, inside, n)) (omega (arith, room)) range.1)
  stmt_fine (tree.Assign k e) at a inside room range =
      let ce = expr_code at e in
      let n = length-append ce (instr.Store k ∷ []) in
      let a' = behind 0 1 at ce _ (expr_sweeps procs e 0 at) a in
      all_append Fine at ce _ (expr_fine e 0 at (before 0 at ce _ a) (omega (arith, inside, n)) (omega (arith, room)) range.1)
      (falls (instr.Store k) (at + length ce) _ _ 0 a'.0 a'.1 (omega arith) (omega arith) refl (omega (arith, inside, n)) (omega arith) range.0, tt)
  stmt_fine (tree.Put b i e) at a inside room range =
      let ci = expr_code at i in
      let ce = expr_code (at + length ci) e in
      let n1 = length-append ci (ce ++ instr.WriteShared b ∷ []) in
      let n2 = length-append ce (instr.WriteShared b ∷ []) in
      let a' = behind 0 1 at ci _ (expr_sweeps procs i 0 at) a in
      let a'' = behind 1 2 (at + length ci) ce _ (expr_sweeps procs e 1 (at + length ci)) a' in
      all_append Fine at ci _ (expr_fine i 0 at (before 0 at ci _ a) (omega (arith, inside, n1, n2)) (omega (arith, room)) range.1)
      (all_append Fine (at + length ci) ce _ (expr_fine e 1 (at + length ci) (before 1 (at + length ci) ce _ a') (omega (arith, inside, n1, n2)) (omega (arith, room)) range.2)
      (falls (instr.WriteShared b) (at + length ci + length ce) _ _ 0 a''.0 a''.1 (omega arith) (omega arith) refl (omega (arith, inside, n1, n2)) (omega arith) range.0, tt))
  stmt_fine (tree.Print e) at a inside room range =
      let ce = expr_code at e in
      let n = length-append ce (instr.PrintTop ∷ []) in
      let a' = behind 0 1 at ce _ (expr_sweeps procs e 0 at) a in
      all_append Fine at ce _ (expr_fine e 0 at (before 0 at ce _ a) (omega (arith, inside, n)) (omega (arith, room)) range)
      (falls instr.PrintTop (at + length ce) _ _ 0 a'.0 a'.1 (omega arith) (omega arith) refl (omega (arith, inside, n)) (omega arith) tt, tt)
  stmt_fine (tree.If t x y) at a inside room range =
      let ct = expr_code at t in
      let px = suc (at + length ct) in
      let cx = stmt_code proc.«cilk» px x in
      let py = suc (px + length cx) in
      let cy = stmt_code proc.«cilk» py y in
      let end = py + length cy in
      let n1 = length-append ct (instr.JumpIfZero py ∷ (cx ++ (instr.Jump end ∷ cy))) in
      let n2 = length-append cx (instr.Jump end ∷ cy) in
      let at_test = behind 0 1 at ct _ (expr_sweeps procs t 0 at) a in
      let at_jump = behind 0 0 px cx _ (stmt_sweeps procs program those x proc.«cilk» proc.locals px range.1) at_test.1 in
      let end_shaped = shaped end _ 0 (stmt_sweeps procs program those y proc.«cilk» proc.locals py range.2) (agrees_end procs shapes p 0 py cy at_jump.1) in
      all_append Fine at ct _ (expr_fine t 0 at (before 0 at ct _ a) (omega (arith, inside, n1, n2)) (omega (arith, room)) range.0) (
        tests (at + length ct) py _ _ 0 at_test.0 (agrees_here procs shapes p 0 px _ at_test.1) (agrees_here procs shapes p 0 py cy at_jump.1)
            (omega arith) refl (omega (arith, inside, n1, n2)) (omega (arith, inside, n1, n2)) (omega arith),
        all_append Fine px cx _ (stmt_fine x px (before 0 px cx _ at_test.1) (omega (arith, inside, n1, n2)) (omega (arith, room)) range.1) (
          goes_to (px + length cx) end 0 at_jump.0 end_shaped (omega (arith, inside, n1, n2)) (omega arith),
          stmt_fine y py at_jump.1 (omega (arith, inside, n1, n2)) (omega (arith, room)) range.2,
        ),
      )
  stmt_fine (tree.While t s) at a inside room range =
      let ct = expr_code (suc at) t in
      let jump = suc at + length ct in
      let ps = suc jump in
      let cs = stmt_code proc.«cilk» ps s in
      let end = ps + length cs in
      let n1 = length-append ct (instr.JumpIfZero (suc end) ∷ (cs ++ instr.Jump at ∷ [])) in
      let n2 = length-append cs (instr.Jump at ∷ []) in
      let at_test = behind 0 1 (suc at) ct _ (expr_sweeps procs t 0 (suc at)) a.1 in
      let at_jump = behind 0 0 ps cs _ (stmt_sweeps procs program those s proc.«cilk» proc.locals ps range.1) at_test.1 in (
        falls instr.Turn at _ _ 0 a.0 (agrees_here procs shapes p 0 (suc at) _ a.1) (omega arith) (omega arith) refl (omega (arith, inside, n1, n2)) (omega arith) tt,
        all_append Fine (suc at) ct _ (expr_fine t 0 (suc at) (before 0 (suc at) ct _ a.1) (omega (arith, inside, n1, n2)) (omega (arith, room)) range.0) (
          tests jump (suc end) _ _ 0 at_test.0 (agrees_here procs shapes p 0 ps _ at_test.1) at_jump.1 (omega arith) refl (omega (arith, inside, n1, n2)) (omega (arith, inside, n1, n2)) (omega arith),
          all_append Fine ps cs _ (stmt_fine s ps (before 0 ps cs _ at_test.1) (omega (arith, inside, n1, n2)) (omega (arith, room)) range.1)
              (goes_to end at 0 at_jump.0 a.0 (omega (arith, inside, n1, n2)) (omega arith), tt),
        ),
      )
  stmt_fine (tree.Call target f es) at a inside room range =
      let ces = exprs_code at es in
      let n = length-append ces (instr.Call f ∷ target_code target ∷ []) in
      let args = takes_arguments procs program those f false es range.0 in
      let swept : sweep procs 0 ces ≡ length es = exprs_sweep procs es 0 at ∙ omega arith in
      let a' = behind 0 (length es) at ces _ swept a in
      all_append Fine at ces _ (exprs_fine es 0 at (before 0 at ces _ a) (omega (arith, inside, n)) (omega (arith, room)) range.2) (
        falls (instr.Call f) (at + length ces) _ _ 0 a'.0 a'.1.0 (omega (arith, args)) (omega (arith, args)) refl (omega (arith, inside, n)) (omega (arith, room)) (is_proc f false es range.0),
        (target_fine target (suc (at + length ces)) _ _ a'.1.0 a'.1.1 (omega (arith, args)) (emptied (target_sweeps procs target) (omega (arith, args))) (omega (arith, inside, n)) range.1, tt),
      )
    where
      emptied : {h : ℕ} → step procs (target_code target) 1 ≡ 0 → h ≡ 1 → step procs (target_code target) h ≡ 0
      emptied {h} e is = ap (λ n. step procs (target_code target) n) is ∙ e
  stmt_fine (tree.Spawn target f es) at a inside room range =
      let ces = exprs_code at es in
      let n = length-append ces (instr.Spawn f target ∷ []) in
      let args = takes_arguments procs program those f true es range.0 in
      let swept : sweep procs 0 ces ≡ length es = exprs_sweep procs es 0 at ∙ omega arith in
      let a' = behind 0 (length es) at ces _ swept a in
      all_append Fine at ces _ (exprs_fine es 0 at (before 0 at ces _ a) (omega (arith, inside, n)) room range.2) (
        falls (instr.Spawn f target) (at + length ces) _ _ 0 a'.0 a'.1 (omega (arith, args)) (omega (arith, args)) refl (omega (arith, inside, n)) (omega arith)
            (range.3, is_proc f true es range.0, is_local target range.1),
        tt,
      )
  stmt_fine (tree.Add target b i e) at a inside room range =
      let ci = expr_code at i in
      let ce = expr_code (at + length ci) e in
      let n1 = length-append ci (ce ++ instr.AddShared b ∷ target_code target ∷ []) in
      let n2 = length-append ce (instr.AddShared b ∷ target_code target ∷ []) in
      let a' = behind 0 1 at ci _ (expr_sweeps procs i 0 at) a in
      let a'' = behind 1 2 (at + length ci) ce _ (expr_sweeps procs e 1 (at + length ci)) a' in
      all_append Fine at ci _ (expr_fine i 0 at (before 0 at ci _ a) (omega (arith, inside, n1, n2)) (omega (arith, room)) range.2)
      (all_append Fine (at + length ci) ce _ (expr_fine e 1 (at + length ci) (before 1 (at + length ci) ce _ a') (omega (arith, inside, n1, n2)) (omega (arith, room)) range.3) (
        falls (instr.AddShared b) (at + length ci + length ce) _ _ 0 a''.0 a''.1.0 (omega arith) (omega arith) refl (omega (arith, inside, n1, n2)) (omega (arith, room)) range.0,
        (target_fine target (suc (at + length ci + length ce)) _ _ a''.1.0 a''.1.1 refl (target_sweeps procs target) (omega (arith, inside, n1, n2)) range.1, tt),
      ))
  stmt_fine tree.Sync at a inside room range = (falls instr.SyncAll at _ _ 0 a.0 a.1 (omega arith) (omega arith) refl (omega (arith, inside)) (omega arith) range, tt)
  stmt_fine (tree.Return e) at a inside room range =
      let sc = sync_code proc.«cilk» in
      let pe = at + length sc in
      let ce = expr_code pe e in
      let n1 = length-append sc (ce ++ instr.Return ∷ []) in
      let n2 = length-append ce (instr.Return ∷ []) in
      let a' = behind 0 0 at sc _ (sync_sweeps procs proc.«cilk») a in
      let a'' = behind 0 1 pe ce _ (expr_sweeps procs e 0 pe) a' in
      all_append Fine at sc _ (sync_fine proc.«cilk» at refl (before 0 at sc _ a) (omega (arith, inside, n1, n2)))
      (all_append Fine pe ce _ (expr_fine e 0 pe (before 0 pe ce _ a') (omega (arith, inside, n1, n2)) (omega (arith, room)) range)
      (returns (pe + length ce) 1 a''.0 refl, tt))

  -- a whole body, before whose return there is one operand
  pub body_fine : (body : Stmt) (at : ℕ) → Agree 0 at (stmt_code proc.«cilk» at body ++ (sync_code proc.«cilk» ++ instr.Const (pos 0) ∷ [])) →
      at + length (stmt_code proc.«cilk» at body ++ (sync_code proc.«cilk» ++ instr.Const (pos 0) ∷ [])) < length instrs → max 1 (stmt_operands body) ≤ proc.operands →
      IsStmtInRange program proc.«cilk» proc.locals body → AllAt Fine at (stmt_code proc.«cilk» at body ++ (sync_code proc.«cilk» ++ (instr.Const (pos 0) ∷ instr.Return ∷ [])))
  body_fine body at a inside room range =
      let cb = stmt_code proc.«cilk» at body in
      let sc = sync_code proc.«cilk» in
      let ps = at + length cb in
      let end = ps + length sc in
      let n1 = length-append cb (sc ++ instr.Const (pos 0) ∷ []) in
      let n2 = length-append sc (instr.Const (pos 0) ∷ []) in
      let a' = behind 0 0 at cb _ (stmt_sweeps procs program those body proc.«cilk» proc.locals at range) a in
      let a'' = behind 0 0 ps sc _ (sync_sweeps procs proc.«cilk») a' in
      all_append Fine at cb _ (stmt_fine body at (before 0 at cb _ a) (omega (arith, inside, n1, n2)) (omega (arith, room)) range)
      (all_append Fine ps sc _ (sync_fine proc.«cilk» ps refl (before 0 ps sc _ a') (omega (arith, inside, n1, n2))) (
        falls (instr.Const (pos 0)) end _ _ 0 a''.0 a''.1 (omega arith) (omega arith) refl (omega (arith, inside, n1, n2)) (omega (arith, room)) tt,
        (returns (suc end) 1 a''.1 refl, tt),
      ))
