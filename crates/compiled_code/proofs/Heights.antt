-- How many operands there are before each instruction of the code.
use Rattle.std.proofs.Common.{◌≡◌, ℕ, suc, ◌+◌, ◌-◌, ◌≤◌, List, [], ◌∷◌, ◌++◌, length, Option, Some, None, refl, sym, ap, ◌∙◌, subst, arith}
use Rattle.std.specs.Prelude.{pos, Bool, true, false, take, slice_get}
use Rattle.cilk_tree.specs.declared.tree.BinaryOp.{BinaryOp}
use Rattle.cilk_tree.specs.declared.tree.BinaryOp.TheVariants as op
use Rattle.cilk_tree.specs.declared.tree.UnaryOp.{UnaryOp}
use Rattle.cilk_tree.specs.declared.tree.UnaryOp.TheVariants as unary_op
use Rattle.cilk_meaning.specs.Resolved as tree
use Rattle.cilk_meaning.specs.Resolved.{Expr, Stmt, Function, Program}
use Rattle.machine_code.specs.declared.code.Proc.{Proc}
use Rattle.machine_code.specs.declared.instr.Instr.{Instr}
use Rattle.machine_code.specs.declared.instr.Instr.TheVariants as instr
use Rattle.machine_code.specs.Valid.{Shape, takes, puts, params_of}
use Rattle.compiled_code.specs.Emitted.{unary_instr, then_operate, expr_code, exprs_code, target_code, sync_code, stmt_code}
use Rattle.compiled_code.specs.WellFormed.{Suits, IsStmtInRange}

-- How many operands are there at the next place. Behind a jump there is one less: what the code between made is joined where it leads.
abbrev pub step : List Proc → Instr → ℕ → ℕ
step procs (instr.Jump to) h = h - 1
step procs i h = (h - takes procs i) + puts i

-- and behind some instructions
abbrev pub sweep : List Proc → ℕ → List Instr → ℕ
sweep procs h [] = h
sweep procs h (i ∷ is) = sweep procs (step procs i h) is

module _ (procs : List Proc) where
  pub sweep_append : (h : ℕ) (front back : List Instr) → sweep procs h (front ++ back) ≡ sweep procs (sweep procs h front) back
  sweep_append h [] back = refl
  sweep_append h (i ∷ front) back = sweep_append (step procs i h) front back

  module _ (shapes : ℕ → Shape) (procedure : ℕ) where
    -- The shapes are those of these instructions from a place on, and of the place behind them.
    abbrev pub Agrees : ℕ → ℕ → List Instr → Type 0
    Agrees h at [] = shapes at ≡ record { procedure = procedure; operands = h }
    Agrees h at (i ∷ is) = (shapes at ≡ record { procedure = procedure; operands = h }) × Agrees (step procs i h) (suc at) is

    pub agrees_here : (h at : ℕ) (is : List Instr) → Agrees h at is → shapes at ≡ record { procedure = procedure; operands = h }
    agrees_here h at [] a = a
    agrees_here h at (i ∷ is) a = a.0

    pub agrees_front : (h at : ℕ) (front back : List Instr) → Agrees h at (front ++ back) → Agrees h at front
    agrees_front h at [] back a = agrees_here h at back a
    agrees_front h at (i ∷ front) back a = (a.0, agrees_front (step procs i h) (suc at) front back a.1)

    pub agrees_back : (h at : ℕ) (front back : List Instr) → Agrees h at (front ++ back) → Agrees (sweep procs h front) (at + length front) back
    agrees_back h at [] back a = subst (λ n. Agrees h n back) (omega arith) a
    agrees_back h at (i ∷ front) back a =
        subst (λ n. Agrees (sweep procs (step procs i h) front) n back) (omega arith) (agrees_back (step procs i h) (suc at) front back a.1)

    pub agrees_end : (h at : ℕ) (is : List Instr) → Agrees h at is → shapes (at + length is) ≡ record { procedure = procedure; operands = sweep procs h is }
    agrees_end h at [] a = subst (λ n. shapes n ≡ record { procedure = procedure; operands = h }) (omega arith) a
    agrees_end h at (i ∷ is) a =
        subst (λ n. shapes n ≡ record { procedure = procedure; operands = sweep procs (step procs i h) is }) (omega arith) (agrees_end (step procs i h) (suc at) is a.1)

    -- where the shape at each place is that of the instructions before it
    pub agrees_by : (h at : ℕ) (is : List Instr) → ((k : ℕ) → k ≤ length is → shapes (at + k) ≡ record { procedure = procedure; operands = sweep procs h (take k is) }) → Agrees h at is
    agrees_by h at [] all = subst (λ n. shapes n ≡ record { procedure = procedure; operands = h }) (omega arith) (all 0 (omega arith))
    agrees_by h at (i ∷ is) all = (
      subst (λ n. shapes n ≡ record { procedure = procedure; operands = h }) (omega arith) (all 0 (omega arith)),
      agrees_by (step procs i h) (suc at) is (λ k le.
          subst (λ n. shapes n ≡ record { procedure = procedure; operands = sweep procs (step procs i h) (take k is) }) (omega arith) (all (suc k) (omega (arith, le)))),
    )

  -- an expression leaves its value
  then_sweeps : (i : Instr) (h at : ℕ) (left : List Instr) (right : ℕ → List Instr) → sweep procs h left ≡ suc h → ((place : ℕ) → sweep procs (suc h) (right place) ≡ suc (suc h)) →
      step procs i (suc (suc h)) ≡ suc h → sweep procs h (then_operate i at left right) ≡ suc h
  then_sweeps i h at left right hl hr e =
      sweep_append h left _ ∙ ap (λ n. sweep procs n (right (at + length left) ++ i ∷ [])) hl
      ∙ sweep_append (suc h) (right (at + length left)) (i ∷ []) ∙ ap (λ n. sweep procs n (i ∷ [])) (hr (at + length left)) ∙ e

  binary_sweeps : (operator : BinaryOp) (h at : ℕ) (x y : Expr) → ((g place : ℕ) → sweep procs g (expr_code place x) ≡ suc g) → ((g place : ℕ) → sweep procs g (expr_code place y) ≡ suc g) →
      sweep procs h (expr_code at (tree.Binary operator x y)) ≡ suc h
  binary_sweeps op.And h at x y hx hy =
      let cx = expr_code at x in
      let py = suc (at + length cx) in
      let cy = expr_code py y in
      let back : suc h - 1 + 0 ≡ h = omega arith in
      let last : ((suc h - 1 + 1) - 1 + 1) - 1 + 1 ≡ suc h = omega arith in
      sweep_append h cx _ ∙ ap (λ n. sweep procs n (instr.JumpIfZero (suc (suc (suc (py + length cy)))) ∷ (cy ++ instr.Not ∷ instr.Not ∷ instr.Jump (suc (suc (suc (suc (py + length cy))))) ∷ instr.Const (pos 0) ∷ []))) (hx h at)
      ∙ ap (λ n. sweep procs n (cy ++ instr.Not ∷ instr.Not ∷ instr.Jump (suc (suc (suc (suc (py + length cy))))) ∷ instr.Const (pos 0) ∷ [])) back
      ∙ sweep_append h cy _ ∙ ap (λ n. sweep procs n (instr.Not ∷ instr.Not ∷ instr.Jump (suc (suc (suc (suc (py + length cy))))) ∷ instr.Const (pos 0) ∷ [])) (hy h py)
      ∙ omega arith
  binary_sweeps op.Or h at x y hx hy =
      let cx = expr_code at x in
      let other = suc (suc (suc (at + length cx))) in
      let cy = expr_code other y in
      let end = suc (suc (other + length cy)) in
      let back : (suc h - 1 + 0) - 0 + 1 - 1 ≡ h = omega arith in
      sweep_append h cx _ ∙ ap (λ n. sweep procs n (instr.JumpIfZero other ∷ instr.Const (pos 1) ∷ instr.Jump end ∷ (cy ++ instr.Not ∷ instr.Not ∷ []))) (hx h at)
      ∙ ap (λ n. sweep procs n (cy ++ instr.Not ∷ instr.Not ∷ [])) back
      ∙ sweep_append h cy _ ∙ ap (λ n. sweep procs n (instr.Not ∷ instr.Not ∷ [])) (hy h other) ∙ omega arith
  binary_sweeps op.Eq h at x y hx hy = then_sweeps instr.Eq h at (expr_code at x) (λ place. expr_code place y) (hx h at) (λ place. hy (suc h) place) (omega arith)
  binary_sweeps op.Ne h at x y hx hy = then_sweeps instr.Ne h at (expr_code at x) (λ place. expr_code place y) (hx h at) (λ place. hy (suc h) place) (omega arith)
  binary_sweeps op.Lt h at x y hx hy = then_sweeps instr.Lt h at (expr_code at x) (λ place. expr_code place y) (hx h at) (λ place. hy (suc h) place) (omega arith)
  binary_sweeps op.Le h at x y hx hy = then_sweeps instr.Le h at (expr_code at x) (λ place. expr_code place y) (hx h at) (λ place. hy (suc h) place) (omega arith)
  binary_sweeps op.Gt h at x y hx hy = then_sweeps instr.Gt h at (expr_code at x) (λ place. expr_code place y) (hx h at) (λ place. hy (suc h) place) (omega arith)
  binary_sweeps op.Ge h at x y hx hy = then_sweeps instr.Ge h at (expr_code at x) (λ place. expr_code place y) (hx h at) (λ place. hy (suc h) place) (omega arith)
  binary_sweeps op.Add h at x y hx hy = then_sweeps instr.Add h at (expr_code at x) (λ place. expr_code place y) (hx h at) (λ place. hy (suc h) place) (omega arith)
  binary_sweeps op.Sub h at x y hx hy = then_sweeps instr.Sub h at (expr_code at x) (λ place. expr_code place y) (hx h at) (λ place. hy (suc h) place) (omega arith)
  binary_sweeps op.Mul h at x y hx hy = then_sweeps instr.Mul h at (expr_code at x) (λ place. expr_code place y) (hx h at) (λ place. hy (suc h) place) (omega arith)
  binary_sweeps op.Div h at x y hx hy = then_sweeps instr.Div h at (expr_code at x) (λ place. expr_code place y) (hx h at) (λ place. hy (suc h) place) (omega arith)
  binary_sweeps op.Rem h at x y hx hy = then_sweeps instr.Rem h at (expr_code at x) (λ place. expr_code place y) (hx h at) (λ place. hy (suc h) place) (omega arith)

  unary_sweeps : (operator : UnaryOp) (h : ℕ) → step procs (unary_instr operator) (suc h) ≡ suc h
  unary_sweeps unary_op.Neg h = omega arith
  unary_sweeps unary_op.Not h = omega arith

  pub expr_sweeps : (e : Expr) (h at : ℕ) → sweep procs h (expr_code at e) ≡ suc h
  expr_sweeps (tree.Number v) h at = omega arith
  expr_sweeps (tree.Local k) h at = omega arith
  expr_sweeps (tree.Get a i) h at = sweep_append h (expr_code at i) _ ∙ ap (λ n. sweep procs n (instr.ReadShared a ∷ [])) (expr_sweeps i h at) ∙ omega arith
  expr_sweeps (tree.Unary operator x) h at = sweep_append h (expr_code at x) _ ∙ ap (λ n. sweep procs n (unary_instr operator ∷ [])) (expr_sweeps x h at) ∙ unary_sweeps operator h
  expr_sweeps (tree.Binary operator x y) h at = binary_sweeps operator h at x y (λ g place. expr_sweeps x g place) (λ g place. expr_sweeps y g place)

  pub exprs_sweep : (es : List Expr) (h at : ℕ) → sweep procs h (exprs_code at es) ≡ h + length es
  exprs_sweep [] h at = omega arith
  exprs_sweep (e ∷ es) h at =
      sweep_append h (expr_code at e) _ ∙ ap (λ n. sweep procs n (exprs_code (at + length (expr_code at e)) es)) (expr_sweeps e h at)
      ∙ exprs_sweep es (suc h) (at + length (expr_code at e)) ∙ omega arith

  pub sync_sweeps : («cilk» : Bool) → sweep procs 0 (sync_code «cilk») ≡ 0
  sync_sweeps true = refl
  sync_sweeps false = refl

  pub target_sweeps : (target : Option ℕ) → step procs (target_code target) 1 ≡ 0
  target_sweeps None = refl
  target_sweeps (Some k) = refl

-- The procedures are those of the program's functions.
abbrev pub AreThose : List Proc → Program → Type 0
AreThose procs program = (number : ℕ) (function : Function) → slice_get program.functions number ≡ Some function →
    (proc : Proc) × (slice_get procs number ≡ Some proc) × (proc.params ≡ function.params) × (proc.«cilk» ≡ function.«cilk»)

module _ (procs : List Proc) (program : Program) (those : AreThose procs program) where
  -- a call takes its arguments
  pub takes_arguments : (number : ℕ) (kind : Bool) (arguments : List Expr) → Suits program number kind arguments → params_of (slice_get procs number) ≡ length arguments
  takes_arguments number kind arguments s =
      let h = those number s.function s.is in
      ap params_of h.1 ∙ h.2 ∙ sym s.params

  -- a statement leaves no operand
  pub stmt_sweeps : (s : Stmt) («cilk» : Bool) (locals at : ℕ) → IsStmtInRange program «cilk» locals s → sweep procs 0 (stmt_code «cilk» at s) ≡ 0
  stmt_sweeps tree.Skip «cilk» locals at r = refl
  stmt_sweeps (tree.Then a b) «cilk» locals at r =
      let ca = stmt_code «cilk» at a in
      sweep_append procs 0 ca _ ∙ ap (λ n. sweep procs n (stmt_code «cilk» (at + length ca) b)) (stmt_sweeps a «cilk» locals at r.0) ∙ stmt_sweeps b «cilk» locals (at + length ca) r.1
  stmt_sweeps (tree.Assign k e) «cilk» locals at r = sweep_append procs 0 (expr_code at e) _ ∙ ap (λ n. sweep procs n (instr.Store k ∷ [])) (expr_sweeps procs e 0 at)
  stmt_sweeps (tree.Put a i e) «cilk» locals at r =
      let ci = expr_code at i in
      let ce = expr_code (at + length ci) e in
      sweep_append procs 0 ci _ ∙ ap (λ n. sweep procs n (ce ++ instr.WriteShared a ∷ [])) (expr_sweeps procs i 0 at)
      ∙ sweep_append procs 1 ce _ ∙ ap (λ n. sweep procs n (instr.WriteShared a ∷ [])) (expr_sweeps procs e 1 (at + length ci))
  stmt_sweeps (tree.Print e) «cilk» locals at r = sweep_append procs 0 (expr_code at e) _ ∙ ap (λ n. sweep procs n (instr.PrintTop ∷ [])) (expr_sweeps procs e 0 at)
  stmt_sweeps (tree.If t a b) «cilk» locals at r =
      let ct = expr_code at t in
      let pa = suc (at + length ct) in
      let ca = stmt_code «cilk» pa a in
      let pb = suc (pa + length ca) in
      let cb = stmt_code «cilk» pb b in
      sweep_append procs 0 ct _ ∙ ap (λ n. sweep procs n (instr.JumpIfZero pb ∷ (ca ++ (instr.Jump (pb + length cb) ∷ cb)))) (expr_sweeps procs t 0 at)
      ∙ sweep_append procs 0 ca _ ∙ ap (λ n. sweep procs n (instr.Jump (pb + length cb) ∷ cb)) (stmt_sweeps a «cilk» locals pa r.1)
      ∙ stmt_sweeps b «cilk» locals pb r.2
  stmt_sweeps (tree.While t s) «cilk» locals at r =
      let ct = expr_code (suc at) t in
      let ps = suc (suc at + length ct) in
      let cs = stmt_code «cilk» ps s in
      sweep_append procs 0 ct _ ∙ ap (λ n. sweep procs n (instr.JumpIfZero (suc (ps + length cs)) ∷ (cs ++ instr.Jump at ∷ []))) (expr_sweeps procs t 0 (suc at))
      ∙ sweep_append procs 0 cs _ ∙ ap (λ n. sweep procs n (instr.Jump at ∷ [])) (stmt_sweeps s «cilk» locals ps r.1)
  stmt_sweeps (tree.Call target f es) «cilk» locals at r =
      let n = takes_arguments f false es r.0 in
      let none : step procs (instr.Call f) (length es) ≡ 1 = omega (arith, n) in
      let given : sweep procs 0 (exprs_code at es) ≡ length es = exprs_sweep procs es 0 at ∙ omega arith in
      sweep_append procs 0 (exprs_code at es) _ ∙ ap (λ n. sweep procs n (instr.Call f ∷ target_code target ∷ [])) given
      ∙ ap (λ n. sweep procs n (target_code target ∷ [])) none ∙ target_sweeps procs target
  stmt_sweeps (tree.Spawn target f es) «cilk» locals at r =
      let n = takes_arguments f true es r.0 in
      let given : sweep procs 0 (exprs_code at es) ≡ length es = exprs_sweep procs es 0 at ∙ omega arith in
      let none : step procs (instr.Spawn f target) (length es) ≡ 0 = omega (arith, n) in
      sweep_append procs 0 (exprs_code at es) _ ∙ ap (λ n. sweep procs n (instr.Spawn f target ∷ [])) given ∙ none
  stmt_sweeps (tree.Add target a i e) «cilk» locals at r =
      let ci = expr_code at i in
      let ce = expr_code (at + length ci) e in
      sweep_append procs 0 ci _ ∙ ap (λ n. sweep procs n (ce ++ instr.AddShared a ∷ target_code target ∷ [])) (expr_sweeps procs i 0 at)
      ∙ sweep_append procs 1 ce _ ∙ ap (λ n. sweep procs n (instr.AddShared a ∷ target_code target ∷ [])) (expr_sweeps procs e 1 (at + length ci)) ∙ target_sweeps procs target
  stmt_sweeps tree.Sync «cilk» locals at r = refl
  stmt_sweeps (tree.Return e) «cilk» locals at r =
      let sc = sync_code «cilk» in
      let ce = expr_code (at + length sc) e in
      sweep_append procs 0 sc _ ∙ ap (λ n. sweep procs n (ce ++ instr.Return ∷ [])) (sync_sweeps procs «cilk»)
      ∙ sweep_append procs 0 ce _ ∙ ap (λ n. sweep procs n (instr.Return ∷ [])) (expr_sweeps procs e 0 (at + length sc))
