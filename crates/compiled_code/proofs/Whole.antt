-- The code of a program carries the program.
use Rattle.std.proofs.Common.{◌≡◌, ℕ, zero, suc, ◌+◌, List, [], ◌∷◌, ◌++◌, length, Option, Some, None, refl, sym, ap, ◌∙◌, subst, inl, inr, arith, append_assoc, length-append}
use Rattle.std.specs.Prelude.{pos, Bool, true, false, slice_get}
use Rattle.cilk_tree.specs.declared.tree.BinaryOp.{BinaryOp}
use Rattle.cilk_tree.specs.declared.tree.BinaryOp.TheVariants as op
use Rattle.cilk_tree.specs.declared.tree.UnaryOp.{UnaryOp}
use Rattle.cilk_tree.specs.declared.tree.UnaryOp.TheVariants as unary_op
use Rattle.cilk_meaning.specs.Instance.{wants}
use Rattle.cilk_meaning.specs.Resolved as tree
use Rattle.cilk_meaning.specs.Resolved.{Expr, Stmt, Function, Program}
use Rattle.machine_code.specs.declared.instr.Instr.{Instr}
use Rattle.machine_code.specs.declared.instr.Instr.TheVariants as instr
use Rattle.machine_code.specs.Machine.{starts}
use Rattle.machine_code.specs.Valid.{IsForward, GoesForward, jumps_to}
use Rattle.compiled_code.specs.Carries.{HasAt, AllSuit, Carries}
use Rattle.compiled_code.specs.Emitted.{unary_instr, then_operate, expr_code, exprs_code, target_code, sync_code, stmt_code, function_code, functions_code, proc_at, procs_at, compiled}
use Rattle.compiled_code.proofs.Places.{has_front, has_back}
use Rattle.compiled_code.proofs.Wants.{carried_wants}

-- each instruction is fine at its place
abbrev pub AllAt : (ℕ → Instr → Type 0) → ℕ → List Instr → Type 0
AllAt Fine at [] = Unit {0}
AllAt Fine at (i ∷ is) = Fine at i × AllAt Fine (suc at) is

pub all_append : (Fine : ℕ → Instr → Type 0) (at : ℕ) (front back : List Instr) → AllAt Fine at front → AllAt Fine (at + length front) back → AllAt Fine at (front ++ back)
all_append Fine at [] back a b = subst (λ n. AllAt Fine n back) (omega arith) b
all_append Fine at (x ∷ front) back a b = (a.0, all_append Fine (suc at) front back a.1 (subst (λ n. AllAt Fine n back) (omega arith) b))

pub all_get : (Fine : ℕ → Instr → Type 0) (at : ℕ) (is : List Instr) (k : ℕ) (i : Instr) → AllAt Fine at is → slice_get is k ≡ Some i → Fine (at + k) i
all_get Fine at [] k i h e = absurd cc
all_get Fine at (x ∷ is) zero i h e =
    let same : x ≡ i = cc in
    subst (λ n. Fine n i) (omega arith) (subst (λ y. Fine at y) same h.0)
all_get Fine at (x ∷ is) (suc k) i h e = subst (λ n. Fine n i) (omega arith) (all_get Fine (suc at) is k i h.1 e)

module _ (all : List Instr) where
  -- where the instruction jumps, it jumps forward
  abbrev Jumps : ℕ → Instr → Type 0
  Jumps at i = (to : ℕ) → jumps_to i ≡ Some to → IsForward all at to

  stays : (at : ℕ) (i : Instr) → jumps_to i ≡ None → Jumps at i
  stays at i none to e = absurd (let same : None ≡ Some to = sym none ∙ e in cc)

  onward : (at goal : ℕ) (i : Instr) → jumps_to i ≡ Some goal → IsForward all at goal → Jumps at i
  onward at goal i is h to e = subst (IsForward all at) (let same : Some goal ≡ Some to = sym is ∙ e in cc) h

  then_jumps : (i : Instr) (at : ℕ) (left : List Instr) (right : ℕ → List Instr) → jumps_to i ≡ None → AllAt Jumps at left → ((place : ℕ) → AllAt Jumps place (right place)) → AllAt Jumps at (then_operate i at left right)
  then_jumps i at left right none hl hr = all_append Jumps at left _ hl (all_append Jumps (at + length left) (right (at + length left)) _ (hr (at + length left)) (stays _ i none, tt))

  unary_jumps : (operator : UnaryOp) (at : ℕ) → Jumps at (unary_instr operator)
  unary_jumps unary_op.Neg at = stays at instr.Neg refl
  unary_jumps unary_op.Not at = stays at instr.Not refl

  binary_jumps : (operator : BinaryOp) (x y : Expr) (at : ℕ) → AllAt Jumps at (expr_code at x) → ((place : ℕ) → AllAt Jumps place (expr_code place y)) →
      AllAt Jumps at (expr_code at (tree.Binary operator x y))
  binary_jumps op.And x y at hx hy =
      let cx = expr_code at x in
      let py = suc (at + length cx) in
      let cy = expr_code py y in
      let zeros = suc (suc (suc (py + length cy))) in
      all_append Jumps at cx _ hx (
        onward (at + length cx) zeros (instr.JumpIfZero zeros) refl (inl (omega arith)),
        all_append Jumps py cy _ (hy py)
            (stays _ instr.Not refl, (stays _ instr.Not refl, (onward _ (suc zeros) (instr.Jump (suc zeros)) refl (inl (omega arith)), (stays _ (instr.Const (pos 0)) refl, tt)))),
      )
  binary_jumps op.Or x y at hx hy =
      let cx = expr_code at x in
      let other = suc (suc (suc (at + length cx))) in
      let cy = expr_code other y in
      let end = suc (suc (other + length cy)) in
      all_append Jumps at cx _ hx (
        onward (at + length cx) other (instr.JumpIfZero other) refl (inl (omega arith)),
        (
          stays _ (instr.Const (pos 1)) refl,
          (
            onward (suc (suc (at + length cx))) end (instr.Jump end) refl (inl (omega arith)),
            all_append Jumps other cy _ (hy other) (stays _ instr.Not refl, (stays _ instr.Not refl, tt)),
          ),
        ),
      )
  binary_jumps op.Eq x y at hx hy = then_jumps instr.Eq at (expr_code at x) (λ place. expr_code place y) refl hx hy
  binary_jumps op.Ne x y at hx hy = then_jumps instr.Ne at (expr_code at x) (λ place. expr_code place y) refl hx hy
  binary_jumps op.Lt x y at hx hy = then_jumps instr.Lt at (expr_code at x) (λ place. expr_code place y) refl hx hy
  binary_jumps op.Le x y at hx hy = then_jumps instr.Le at (expr_code at x) (λ place. expr_code place y) refl hx hy
  binary_jumps op.Gt x y at hx hy = then_jumps instr.Gt at (expr_code at x) (λ place. expr_code place y) refl hx hy
  binary_jumps op.Ge x y at hx hy = then_jumps instr.Ge at (expr_code at x) (λ place. expr_code place y) refl hx hy
  binary_jumps op.Add x y at hx hy = then_jumps instr.Add at (expr_code at x) (λ place. expr_code place y) refl hx hy
  binary_jumps op.Sub x y at hx hy = then_jumps instr.Sub at (expr_code at x) (λ place. expr_code place y) refl hx hy
  binary_jumps op.Mul x y at hx hy = then_jumps instr.Mul at (expr_code at x) (λ place. expr_code place y) refl hx hy
  binary_jumps op.Div x y at hx hy = then_jumps instr.Div at (expr_code at x) (λ place. expr_code place y) refl hx hy
  binary_jumps op.Rem x y at hx hy = then_jumps instr.Rem at (expr_code at x) (λ place. expr_code place y) refl hx hy

  expr_jumps : (e : Expr) (at : ℕ) → AllAt Jumps at (expr_code at e)
  expr_jumps (tree.Number v) at = (stays at (instr.Const v) refl, tt)
  expr_jumps (tree.Local k) at = (stays at (instr.Load k) refl, tt)
  expr_jumps (tree.Get a i) at = all_append Jumps at (expr_code at i) _ (expr_jumps i at) (stays _ (instr.ReadShared a) refl, tt)
  expr_jumps (tree.Unary operator x) at = all_append Jumps at (expr_code at x) _ (expr_jumps x at) (unary_jumps operator _, tt)
  expr_jumps (tree.Binary operator x y) at = binary_jumps operator x y at (expr_jumps x at) (λ place. expr_jumps y place)

  exprs_jumps : (es : List Expr) (at : ℕ) → AllAt Jumps at (exprs_code at es)
  exprs_jumps [] at = tt
  exprs_jumps (e ∷ es) at = all_append Jumps at (expr_code at e) _ (expr_jumps e at) (exprs_jumps es (at + length (expr_code at e)))

  sync_jumps : («cilk» : Bool) (at : ℕ) → AllAt Jumps at (sync_code «cilk»)
  sync_jumps true at = (stays at instr.SyncAll refl, tt)
  sync_jumps false at = tt

  target_jumps : (target : Option ℕ) (at : ℕ) → Jumps at (target_code target)
  target_jumps None at = stays at instr.Pop refl
  target_jumps (Some k) at = stays at (instr.Store k) refl

  stmt_jumps : (s : Stmt) («cilk» : Bool) (at : ℕ) → HasAt all at (stmt_code «cilk» at s) → AllAt Jumps at (stmt_code «cilk» at s)
  stmt_jumps tree.Skip «cilk» at has = tt
  stmt_jumps (tree.Then a b) «cilk» at has =
      let ca = stmt_code «cilk» at a in
      all_append Jumps at ca _ (stmt_jumps a «cilk» at (has_front all at ca _ has)) (stmt_jumps b «cilk» (at + length ca) (has_back all at ca _ has))
  stmt_jumps (tree.Assign k e) «cilk» at has = all_append Jumps at (expr_code at e) _ (expr_jumps e at) (stays _ (instr.Store k) refl, tt)
  stmt_jumps (tree.Put a i e) «cilk» at has =
      let ci = expr_code at i in
      all_append Jumps at ci _ (expr_jumps i at) (all_append Jumps (at + length ci) (expr_code (at + length ci) e) _ (expr_jumps e (at + length ci)) (stays _ (instr.WriteShared a) refl, tt))
  stmt_jumps (tree.Print e) «cilk» at has = all_append Jumps at (expr_code at e) _ (expr_jumps e at) (stays _ instr.PrintTop refl, tt)
  stmt_jumps (tree.If t a b) «cilk» at has =
      let ct = expr_code at t in
      let pa = suc (at + length ct) in
      let ca = stmt_code «cilk» pa a in
      let pb = suc (pa + length ca) in
      let cb = stmt_code «cilk» pb b in
      let hast = has_back all at ct _ has in
      let hasa = has_back all pa ca _ hast.1 in
      all_append Jumps at ct _ (expr_jumps t at) (
        onward (at + length ct) pb (instr.JumpIfZero pb) refl (inl (omega arith)),
        all_append Jumps pa ca _ (stmt_jumps a «cilk» pa (has_front all pa ca _ hast.1))
            (onward (pa + length ca) (pb + length cb) (instr.Jump (pb + length cb)) refl (inl (omega arith)), stmt_jumps b «cilk» pb hasa.1),
      )
  stmt_jumps (tree.While t s) «cilk» at has =
      let ct = expr_code (suc at) t in
      let jump = suc at + length ct in
      let cs = stmt_code «cilk» (suc jump) s in
      let end = suc jump + length cs in
      let hast = has_back all (suc at) ct _ has.1 in (
        stays at instr.Turn refl,
        all_append Jumps (suc at) ct _ (expr_jumps t (suc at)) (
          onward jump (suc end) (instr.JumpIfZero (suc end)) refl (inl (omega arith)),
          all_append Jumps (suc jump) cs _ (stmt_jumps s «cilk» (suc jump) (has_front all (suc jump) cs _ hast.1)) (onward end at (instr.Jump at) refl (inr has.0), tt),
        ),
      )
  stmt_jumps (tree.Call target f es) «cilk» at has = all_append Jumps at (exprs_code at es) _ (exprs_jumps es at) (stays _ (instr.Call f) refl, (target_jumps target _, tt))
  stmt_jumps (tree.Spawn target f es) «cilk» at has = all_append Jumps at (exprs_code at es) _ (exprs_jumps es at) (stays _ (instr.Spawn f target) refl, tt)
  stmt_jumps (tree.Add target a i e) «cilk» at has =
      let ci = expr_code at i in
      all_append Jumps at ci _ (expr_jumps i at) (all_append Jumps (at + length ci) (expr_code (at + length ci) e) _ (expr_jumps e (at + length ci))
      (stays _ (instr.AddShared a) refl, (target_jumps target _, tt)))
  stmt_jumps tree.Sync «cilk» at has = (stays at instr.SyncAll refl, tt)
  stmt_jumps (tree.Return e) «cilk» at has =
      let sc = sync_code «cilk» in
      all_append Jumps at sc _ (sync_jumps «cilk» at) (all_append Jumps (at + length sc) (expr_code (at + length sc) e) _ (expr_jumps e (at + length sc)) (stays _ instr.Return refl, tt))

  function_jumps : (fn : Function) (at : ℕ) → HasAt all at (function_code at fn) → AllAt Jumps at (function_code at fn)
  function_jumps fn at has =
      let cb = stmt_code fn.«cilk» at fn.body in
      let sc = sync_code fn.«cilk» in
      all_append Jumps at cb _ (stmt_jumps fn.body fn.«cilk» at (has_front all at cb _ has))
      (all_append Jumps (at + length cb) sc _ (sync_jumps fn.«cilk» _) (stays _ (instr.Const (pos 0)) refl, (stays _ instr.Return refl, tt)))

  functions_jump : (at : ℕ) (fns : List Function) → HasAt all at (functions_code at fns) → AllAt Jumps at (functions_code at fns)
  functions_jump at [] has = tt
  functions_jump at (fn ∷ fns) has =
      all_append Jumps at (function_code at fn) _ (function_jumps fn at (has_front all at (function_code at fn) _ has))
      (functions_jump (at + length (function_code at fn)) fns (has_back all at (function_code at fn) _ has))

-- instructions stand where they stand
get_seam : (front : List Instr) (i : Instr) (is : List Instr) → slice_get (front ++ i ∷ is) (length front) ≡ Some i
get_seam [] i is = refl
get_seam (x ∷ front) i is = get_seam front i is

has_behind : (is front : List Instr) → HasAt (front ++ is) (length front) is
has_behind [] front = tt
has_behind (i ∷ is) front =
    let n : length (front ++ i ∷ []) ≡ suc (length front) = omega (arith, length-append front (i ∷ [])) in
    (get_seam front i is, subst (λ m. HasAt (front ++ i ∷ is) m is) n (subst (λ l. HasAt l (length (front ++ i ∷ [])) is) (append_assoc front (i ∷ []) is) (has_behind is (front ++ i ∷ []))))

pub has_itself : (is : List Instr) → HasAt is 0 is
has_itself is = has_behind is []

pub compiled_forward : (program : Program) → GoesForward (compiled program).instrs
compiled_forward program at to i e is =
    let all = functions_code 0 program.functions in
    subst (λ n. IsForward all n to) (omega arith) (all_get (Jumps all) 0 all at i (functions_jump all 0 program.functions (has_itself all)) e to is)

none_too : (at : ℕ) (fns : List Function) (f : ℕ) → slice_get fns f ≡ None → slice_get (procs_at at fns) f ≡ None
none_too at [] f e = refl
none_too at (x ∷ fns) zero e = absurd cc
none_too at (x ∷ fns) (suc f) e = none_too (at + length (function_code at x)) fns f e

-- a function's procedure among those of the functions from a place on, and its code there
pub record Held (all : List Instr) (at : ℕ) (fns : List Function) (f : ℕ) (fn : Function) : Type 0 where
  pub start : ℕ
  pub is : slice_get (procs_at at fns) f ≡ Some (proc_at start fn)
  pub stands : HasAt all start (function_code start fn)

pub held : (all : List Instr) (at : ℕ) (fns : List Function) → HasAt all at (functions_code at fns) → (f : ℕ) (fn : Function) → slice_get fns f ≡ Some fn → Held all at fns f fn
held all at [] has f fn e = absurd cc
held all at (x ∷ fns) has zero fn e =
    let same : x ≡ fn = cc in
    record { start = at; is = ap (λ g. Some (proc_at at g)) same; stands = subst (λ g. HasAt all at (function_code at g)) same (has_front all at (function_code at x) _ has) }
held all at (x ∷ fns) has (suc f) fn e =
    let rest = held all (at + length (function_code at x)) fns (has_back all at (function_code at x) _ has) f fn e in
    record { start = rest.start; is = rest.is; stands = rest.stands }

pub compiled_carries : (program : Program) → AllSuit program → Carries (compiled program) program
compiled_carries program suits =
    let all = functions_code 0 program.functions in
    record {
      shared = refl;
      forward = compiled_forward program;
      none = none_too 0 program.functions;
      procs = λ f fn e. let h = held all 0 program.functions (has_itself all) f fn e in
          record { proc = proc_at h.start fn; is = h.is; params = refl; locals = refl; stands = h.stands };
      suits = suits;
    }

pub compiled_wants : (program : Program) → AllSuit program → starts (compiled program) ≡ wants program
compiled_wants program suits = λ i depth procedure arguments answers. carried_wants (compiled program) program (compiled_carries program suits) depth procedure arguments answers i
