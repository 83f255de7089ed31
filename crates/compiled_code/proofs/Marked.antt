-- The code of a statement that keeps the rule keeps its marks.
use Rattle.std.proofs.Common.{◌≡◌, ℕ, suc, ◌+◌, ◌<◌, ◌≤◌, List, [], ◌∷◌, ◌++◌, length, Option, Some, None, refl, sym, ap, ◌∙◌, subst, arith, length-append}
use Rattle.std.proofs.lemmas.Bool.{eq-eqb}
use Rattle.std.specs.Prelude.{pos, ◌==◌, Bool, true, false, not, ◌||◌, ◌&&◌, slice_get}
use Rattle.cilk_tree.specs.declared.tree.BinaryOp.{BinaryOp}
use Rattle.cilk_tree.specs.declared.tree.BinaryOp.TheVariants as op
use Rattle.cilk_tree.specs.declared.tree.UnaryOp.{UnaryOp}
use Rattle.cilk_tree.specs.declared.tree.UnaryOp.TheVariants as unary_op
use Rattle.cilk_meaning.specs.Resolved as tree
use Rattle.cilk_meaning.specs.Resolved.{Expr, Stmt, Function, Program}
use Rattle.machine_code.specs.declared.code.Proc.{Proc}
use Rattle.machine_code.specs.declared.instr.Instr.{Instr}
use Rattle.machine_code.specs.declared.instr.Instr.TheVariants as instr
use Rattle.machine_code.specs.Machine.{Code}
use Rattle.compiled_code.specs.Emitted.{unary_instr, then_operate, expr_code, exprs_code, target_code, sync_code, stmt_code}
use Rattle.compiled_code.specs.Safe.{Set, none, both, with_target, behind_sync, leaves, IsFree, AreFree, IsTargetFree, IsSafe}
use Rattle.compiled_code.specs.WellFormed.{IsStmtInRange}
use Rattle.compiled_code.proofs.Marks.{IsWithin, Marks, Flows, Waits, IsMarked}
use Rattle.compiled_code.proofs.Waiting.{Range, StmtMarks}
use Rattle.compiled_code.proofs.Whole.{AllAt, all_append}

-- ---- what a turn adds, another turn does not

or_none : (x : Bool) → x ≡ (true && x) || false
or_none true = refl
or_none false = refl

then_bool : (kb ka x aa ab : Bool) → (kb && ((ka && x) || aa)) || ab ≡ ((kb && ka) && x) || ((kb && aa) || ab)
then_bool false ka x aa ab = refl
then_bool true false x aa ab = refl
then_bool true true true aa ab = refl
then_bool true true false aa ab = refl

if_bool : (kb ka x aa ab : Bool) → ((ka && x) || aa) || ((kb && x) || ab) ≡ ((ka || kb) && x) || (aa || ab)
if_bool kb true true aa ab = refl
if_bool true false true true ab = refl
if_bool true false true false ab = refl
if_bool false false true aa ab = refl
if_bool true true false aa ab = refl
if_bool true false false aa ab = refl
if_bool false true false aa ab = refl
if_bool false false false aa ab = refl

while_bool : (k x a : Bool) → x || ((k && x) || a) ≡ (true && x) || a
while_bool k true a = refl
while_bool true false a = refl
while_bool false false a = refl

once_bool : (k x a : Bool) → (k && (x || ((k && x) || a))) || a ≡ true → x || ((k && x) || a) ≡ true
once_bool k true a h = refl
once_bool true false true h = refl
once_bool true false false h = h
once_bool false false true h = refl
once_bool false false false h = h

-- What a statement does to a set: it keeps it or not, and adds something.
record Effect (s : Stmt) : Type 0 where
  keeps : Bool
  adds : Set
  is : (set : Set) (k : ℕ) → leaves s set k ≡ (keeps && set k) || adds k

keeping : (s : Stmt) → ((set : Set) → leaves s set ≡ set) → Effect s
keeping s same = record { keeps = true; adds = none; is = λ set k. ap (λ (x : Set). x k) (same set) ∙ or_none (set k) }

effect : (s : Stmt) → Effect s
effect tree.Skip = keeping tree.Skip (λ set. refl)
effect (tree.Then a b) =
    let x = effect a in
    let y = effect b in
    record { keeps = y.keeps && x.keeps; adds = λ k. (y.keeps && x.adds k) || y.adds k; is = λ set k. y.is (leaves a set) k ∙ ap (λ z. (y.keeps && z) || y.adds k) (x.is set k) ∙ then_bool y.keeps x.keeps (set k) (x.adds k) (y.adds k) }
effect (tree.Assign j e) = keeping (tree.Assign j e) (λ set. refl)
effect (tree.Put a i e) = keeping (tree.Put a i e) (λ set. refl)
effect (tree.Print e) = keeping (tree.Print e) (λ set. refl)
effect (tree.If t a b) =
    let x = effect a in
    let y = effect b in
    record { keeps = x.keeps || y.keeps; adds = λ k. x.adds k || y.adds k; is = λ set k. ap (λ z. z || leaves b set k) (x.is set k) ∙ ap (λ z. ((x.keeps && set k) || x.adds k) || z) (y.is set k) ∙ if_bool y.keeps x.keeps (set k) (x.adds k) (y.adds k) }
effect (tree.While t s) = let x = effect s in record { keeps = true; adds = x.adds; is = λ set k. ap (λ z. set k || z) (x.is set k) ∙ while_bool x.keeps (set k) (x.adds k) }
effect (tree.Call target f es) = keeping (tree.Call target f es) (λ set. refl)
effect (tree.Spawn None f es) = keeping (tree.Spawn None f es) (λ set. refl)
effect (tree.Spawn (Some t) f es) = record { keeps = true; adds = λ k. k == t; is = λ set k. refl }
effect (tree.Add target a i e) = keeping (tree.Add target a i e) (λ set. refl)
effect tree.Sync = record { keeps = false; adds = none; is = λ set k. refl }
effect (tree.Return e) = record { keeps = false; adds = none; is = λ set k. refl }

-- one turn reaches the set of a loop
once : (s : Stmt) (set : Set) → IsWithin (leaves s (both set (leaves s set))) (both set (leaves s set))
once s set k h =
    let x = effect s in
    let inner : set k || leaves s set k ≡ set k || ((x.keeps && set k) || x.adds k) = ap (λ z. set k || z) (x.is set k) in
    inner ∙ once_bool x.keeps (set k) (x.adds k) (ap (λ z. (x.keeps && z) || x.adds k) (sym inner) ∙ sym (x.is (both set (leaves s set)) k) ∙ h)

module _ (code : Code) (m : Marks) where
  abbrev pub Fine : ℕ → Instr → Type 0
  Fine at i = IsMarked code m at i

  -- a set may come in at a place
  abbrev Into : Set → Bool → ℕ → Type 0
  Into set plain at = IsWithin set (m.waiting at) × (plain ≡ true → m.plain at ≡ true)

  range_in : (set : Set) (plain : Bool) (from to q : ℕ) → Range m set plain from to → from ≤ q → q < to → Into set plain q
  range_in set plain from to q r a b = let e = r q a b in (λ k h. ap (λ (s : Set). s k) e.0 ∙ h, λ h. e.1 ∙ h)

  sub : (set : Set) (plain : Bool) (from to from' to' : ℕ) → from ≤ from' → to' ≤ to → Range m set plain from to → Range m set plain from' to'
  sub set plain from to from' to' a b r q c d = r q (omega (arith, a, c)) (omega (arith, b, d))

  -- from a place of a range on to a place that the set may come in at
  flows : (set : Set) (plain : Bool) (from to q next : ℕ) → Range m set plain from to → from ≤ q → q < to → Into set plain next → Flows m q next
  flows set plain from to q next r a b into = let e = r q a b in (λ k h. into.0 k (sym (ap (λ (s : Set). s k) e.0) ∙ h), λ h. into.1 (sym e.1 ∙ h))

  not_in : (set : Set) (plain : Bool) (from to q k : ℕ) → Range m set plain from to → from ≤ q → q < to → set k ≡ false → m.waiting q k ≡ false
  not_in set plain from to q k r a b h = ap (λ (s : Set). s k) (r q a b).0 ∙ h

  -- an instruction that only goes on
  abbrev OnlyFlows : Instr → Type 0
  OnlyFlows i = (at : ℕ) → Flows m at (suc at) → Fine at i

  abbrev ExprFine : Expr → Type 0
  ExprFine e = (set : Set) (plain : Bool) (at : ℕ) → Range m set plain at (at + length (expr_code at e)) → Into set plain (at + length (expr_code at e)) → IsFree set e → AllAt Fine at (expr_code at e)

  both_fine : (i : Instr) (x y : Expr) → OnlyFlows i → ExprFine x → ExprFine y → (set : Set) (plain : Bool) (at : ℕ) → Range m set plain at (at + length (then_operate i at (expr_code at x) (λ place. expr_code place y))) →
      Into set plain (at + length (then_operate i at (expr_code at x) (λ place. expr_code place y))) → IsFree set x → IsFree set y → AllAt Fine at (then_operate i at (expr_code at x) (λ place. expr_code place y))
  both_fine i x y only fx fy set plain at r into hx hy =
      let cx = expr_code at x in
      let cy = expr_code (at + length cx) y in
      let n1 = length-append cx (cy ++ i ∷ []) in
      let n2 = length-append cy (i ∷ []) in
      let mid = at + length cx in
      let end = mid + length cy in
      all_append Fine at cx _ (fx set plain at (sub set plain at _ at mid (omega arith) (omega (arith, n1, n2)) r) (range_in set plain at _ mid r (omega arith) (omega (arith, n1, n2))) hx)
      (all_append Fine mid cy _ (fy set plain mid (sub set plain at _ mid end (omega arith) (omega (arith, n1, n2)) r) (range_in set plain at _ end r (omega arith) (omega (arith, n1, n2))) hy)
      (only end (flows set plain at _ end (suc end) r (omega arith) (omega (arith, n1, n2)) (subst (λ q. Into set plain q) (omega (arith, n1, n2)) into)), tt))

  and_fine : (x y : Expr) → ExprFine x → ExprFine y → ExprFine (tree.Binary op.And x y)
  and_fine x y fx fy set plain at r into f =
      let cx = expr_code at x in
      let py = suc (at + length cx) in
      let cy = expr_code py y in
      let end = py + length cy in
      let zeros = suc (suc (suc end)) in
      let tail : List Instr = instr.Not ∷ instr.Not ∷ instr.Jump (suc zeros) ∷ instr.Const (pos 0) ∷ [] in
      let n1 = length-append cx (instr.JumpIfZero zeros ∷ (cy ++ tail)) in
      let n2 = length-append cy tail in
      let over : Into set plain (suc zeros) = subst (λ q. Into set plain q) (omega (arith, n1, n2)) into in
      let here : (q : ℕ) → at ≤ q → q ≤ zeros → Into set plain q = λ q a b. range_in set plain at _ q r a (omega (arith, n1, n2, b)) in
      let go : (q next : ℕ) → at ≤ q → q ≤ zeros → Into set plain next → Flows m q next = λ q next a b i. flows set plain at _ q next r a (omega (arith, n1, n2, b)) i in
      all_append Fine at cx _ (fx set plain at (sub set plain at _ at (at + length cx) (omega arith) (omega (arith, n1, n2)) r) (here (at + length cx) (omega arith) (omega arith)) f.0) (
        (go (at + length cx) zeros (omega arith) (omega arith) (here zeros (omega arith) (omega arith)), go (at + length cx) py (omega arith) (omega arith) (here py (omega arith) (omega arith))),
        all_append Fine py cy _ (fy set plain py (sub set plain at _ py end (omega arith) (omega (arith, n1, n2)) r) (here end (omega arith) (omega arith)) f.1) (
          go end (suc end) (omega arith) (omega arith) (here (suc end) (omega arith) (omega arith)),
          (
            go (suc end) (suc (suc end)) (omega arith) (omega arith) (here (suc (suc end)) (omega arith) (omega arith)),
            (go (suc (suc end)) (suc zeros) (omega arith) (omega arith) over, (go zeros (suc zeros) (omega arith) (omega arith) over, tt)),
          ),
        ),
      )

  or_fine : (x y : Expr) → ExprFine x → ExprFine y → ExprFine (tree.Binary op.Or x y)
  or_fine x y fx fy set plain at r into f =
      let cx = expr_code at x in
      let test = at + length cx in
      let other = suc (suc (suc test)) in
      let cy = expr_code other y in
      let end = other + length cy in
      let tail : List Instr = instr.Not ∷ instr.Not ∷ [] in
      let n1 = length-append cx (instr.JumpIfZero other ∷ instr.Const (pos 1) ∷ instr.Jump (suc (suc end)) ∷ (cy ++ tail)) in
      let n2 = length-append cy tail in
      let over : Into set plain (suc (suc end)) = subst (λ q. Into set plain q) (omega (arith, n1, n2)) into in
      let here : (q : ℕ) → at ≤ q → q ≤ suc end → Into set plain q = λ q a b. range_in set plain at _ q r a (omega (arith, n1, n2, b)) in
      let go : (q next : ℕ) → at ≤ q → q ≤ suc end → Into set plain next → Flows m q next = λ q next a b i. flows set plain at _ q next r a (omega (arith, n1, n2, b)) i in
      all_append Fine at cx _ (fx set plain at (sub set plain at _ at test (omega arith) (omega (arith, n1, n2)) r) (here test (omega arith) (omega arith)) f.0) (
        (go test other (omega arith) (omega arith) (here other (omega arith) (omega arith)), go test (suc test) (omega arith) (omega arith) (here (suc test) (omega arith) (omega arith))),
        (
          go (suc test) (suc (suc test)) (omega arith) (omega arith) (here (suc (suc test)) (omega arith) (omega arith)),
          (
            go (suc (suc test)) (suc (suc end)) (omega arith) (omega arith) over,
            all_append Fine other cy _ (fy set plain other (sub set plain at _ other end (omega arith) (omega (arith, n1, n2)) r) (here end (omega arith) (omega arith)) f.1)
                (go end (suc end) (omega arith) (omega arith) (here (suc end) (omega arith) (omega arith)), (go (suc end) (suc (suc end)) (omega arith) (omega arith) over, tt)),
          ),
        ),
      )

  binary_fine : (operator : BinaryOp) (x y : Expr) → ExprFine x → ExprFine y → ExprFine (tree.Binary operator x y)
  binary_fine op.And x y fx fy set plain at r into f = and_fine x y fx fy set plain at r into f
  binary_fine op.Or x y fx fy set plain at r into f = or_fine x y fx fy set plain at r into f
  binary_fine op.Eq x y fx fy set plain at r into f = both_fine instr.Eq x y (λ q h. h) fx fy set plain at r into f.0 f.1
  binary_fine op.Ne x y fx fy set plain at r into f = both_fine instr.Ne x y (λ q h. h) fx fy set plain at r into f.0 f.1
  binary_fine op.Lt x y fx fy set plain at r into f = both_fine instr.Lt x y (λ q h. h) fx fy set plain at r into f.0 f.1
  binary_fine op.Le x y fx fy set plain at r into f = both_fine instr.Le x y (λ q h. h) fx fy set plain at r into f.0 f.1
  binary_fine op.Gt x y fx fy set plain at r into f = both_fine instr.Gt x y (λ q h. h) fx fy set plain at r into f.0 f.1
  binary_fine op.Ge x y fx fy set plain at r into f = both_fine instr.Ge x y (λ q h. h) fx fy set plain at r into f.0 f.1
  binary_fine op.Add x y fx fy set plain at r into f = both_fine instr.Add x y (λ q h. h) fx fy set plain at r into f.0 f.1
  binary_fine op.Sub x y fx fy set plain at r into f = both_fine instr.Sub x y (λ q h. h) fx fy set plain at r into f.0 f.1
  binary_fine op.Mul x y fx fy set plain at r into f = both_fine instr.Mul x y (λ q h. h) fx fy set plain at r into f.0 f.1
  binary_fine op.Div x y fx fy set plain at r into f = both_fine instr.Div x y (λ q h. h) fx fy set plain at r into f.0 f.1
  binary_fine op.Rem x y fx fy set plain at r into f = both_fine instr.Rem x y (λ q h. h) fx fy set plain at r into f.0 f.1

  unary_only : (operator : UnaryOp) → OnlyFlows (unary_instr operator)
  unary_only unary_op.Neg at h = h
  unary_only unary_op.Not at h = h

  expr_fine : (e : Expr) → ExprFine e
  expr_fine (tree.Number v) set plain at r into f = (flows set plain at _ at (suc at) r (omega arith) (omega arith) (subst (λ n. Into set plain n) (omega arith) into), tt)
  expr_fine (tree.Local k) set plain at r into f = ((not_in set plain at _ at k r (omega arith) (omega arith) f, flows set plain at _ at (suc at) r (omega arith) (omega arith) (subst (λ n. Into set plain n) (omega arith) into)), tt)
  expr_fine (tree.Get a i) set plain at r into f =
      let ci = expr_code at i in
      let n = length-append ci (instr.ReadShared a ∷ []) in
      let end = at + length ci in
      all_append Fine at ci _ (expr_fine i set plain at (sub set plain at _ at end (omega arith) (omega (arith, n)) r) (range_in set plain at _ end r (omega arith) (omega (arith, n))) f)
      (flows set plain at _ end (suc end) r (omega arith) (omega (arith, n)) (subst (λ q. Into set plain q) (omega (arith, n)) into), tt)
  expr_fine (tree.Unary operator x) set plain at r into f =
      let cx = expr_code at x in
      let n = length-append cx (unary_instr operator ∷ []) in
      let end = at + length cx in
      all_append Fine at cx _ (expr_fine x set plain at (sub set plain at _ at end (omega arith) (omega (arith, n)) r) (range_in set plain at _ end r (omega arith) (omega (arith, n))) f)
      (unary_only operator end (flows set plain at _ end (suc end) r (omega arith) (omega (arith, n)) (subst (λ q. Into set plain q) (omega (arith, n)) into)), tt)
  expr_fine (tree.Binary operator x y) set plain at r into f = binary_fine operator x y (expr_fine x) (expr_fine y) set plain at r into f

  -- arguments, in a range that goes on behind them
  exprs_fine : (es : List Expr) (set : Set) (plain : Bool) (at to : ℕ) → Range m set plain at to → at + length (exprs_code at es) < to → AreFree set es → AllAt Fine at (exprs_code at es)
  exprs_fine [] set plain at to r lt f = tt
  exprs_fine (e ∷ es) set plain at to r lt f =
      let ce = expr_code at e in
      let n = length-append ce (exprs_code (at + length ce) es) in
      all_append Fine at ce _ (expr_fine e set plain at (sub set plain at to at (at + length ce) (omega arith) (omega (arith, n, lt)) r) (range_in set plain at to (at + length ce) r (omega arith) (omega (arith, n, lt))) f.0)
      (exprs_fine es set plain (at + length ce) to (sub set plain at to (at + length ce) to (omega arith) (omega arith) r) (omega (arith, n, lt)) f.1)

  target_fine : (target : Option ℕ) (set : Set) (plain : Bool) (at from to : ℕ) → Range m set plain from to → from ≤ at → at < to → Into set plain (suc at) → IsTargetFree set target → Fine at (target_code target)
  target_fine None set plain at from to r a b into f = flows set plain from to at (suc at) r a b into
  target_fine (Some k) set plain at from to r a b into f = (not_in set plain from to at k r a b f, flows set plain from to at (suc at) r a b into)

  or_right : (a b : Bool) → b ≡ true → a || b ≡ true
  or_right true b h = refl
  or_right false b h = h

  spawn_into : (target : Option ℕ) (set : Set) (plain : Bool) (q : ℕ) → Into (with_target target set) plain q → Into set plain q
  spawn_into None set plain q into = into
  spawn_into (Some t) set plain q into = ((λ k h. into.0 k (ap (λ z. z || k == t) h)), into.1)

  spawn_waits : (target : Option ℕ) (set : Set) (plain : Bool) (at from to : ℕ) → Range m set plain from to → from ≤ at → at < to → Into (with_target target set) plain (suc at) → IsTargetFree set target → Waits m at target
  spawn_waits None set plain at from to r a b into f = tt
  spawn_waits (Some t) set plain at from to r a b into f = (into.0 t (or_right (set t) (t == t) (eq-eqb t t refl)), not_in set plain from to at t r a b f)

  within : (few many : Set) (plain : Bool) (q : ℕ) → IsWithin few many → Into many plain q → Into few plain q
  within few many plain q h into = ((λ k e. into.0 k (h k e)), into.1)

  left_of : (a b : Set) → IsWithin a (both a b)
  left_of a b k h = ap (λ z. z || b k) h

  right_of : (a b : Set) → IsWithin b (both a b)
  right_of a b k h = or_right (a k) (b k) h

  module _ (program : Program) (called : (f : ℕ) (fn : Function) → slice_get program.functions f ≡ Some fn → (proc : Proc) → slice_get code.procs f ≡ Some proc → m.plain proc.start ≡ not fn.«cilk») («cilk» : Bool) (locals : ℕ) where
    abbrev plain : Bool
    plain = not «cilk»

    -- a part of the code is marked, and its set may come in at its first place
    abbrev Enters : Set → ℕ → List Instr → Type 0
    Enters set at is = AllAt Fine at is × Into set plain at

    is_own : «cilk» ≡ true → (at : ℕ) (set : Set) (from to : ℕ) → Range m set plain from to → from ≤ at → at < to → m.plain at ≡ false
    is_own kind at set from to r a b = (r at a b).1 ∙ ap not kind

    sync_fine : (kind : Bool) → kind ≡ «cilk» → (set : Set) (at : ℕ) → Range m set plain at (at + length (sync_code kind)) → Into (behind_sync kind set) plain (at + length (sync_code kind)) → Enters set at (sync_code kind)
    sync_fine true same set at r into = ((is_own (sym same) at set at _ r (omega arith) (omega arith), tt), range_in set plain at _ at r (omega arith) (omega arith))
    sync_fine false same set at r into = (tt, subst (λ q. Into set plain q) (omega arith) into)

    return_fine : (e : Expr) (at : ℕ) (set : Set) → StmtMarks m «cilk» at set (tree.Return e) → IsSafe «cilk» set (tree.Return e) → Enters set at (stmt_code «cilk» at (tree.Return e))
    return_fine e at set r f =
        let sc = sync_code «cilk» in
        let ps = at + length sc in
        let ce = expr_code ps e in
        let end = ps + length ce in
        let later = behind_sync «cilk» set in
        let value = expr_fine e later plain ps (sub later plain ps (suc end) ps end (omega arith) (omega arith) r.1) (range_in later plain ps (suc end) end r.1 (omega arith) (omega arith)) f in
        let sync = sync_fine «cilk» refl set at r.0 (range_in later plain ps (suc end) ps r.1 (omega arith) (omega arith)) in
        (all_append Fine at sc _ sync.0 (all_append Fine ps ce _ value (tt, tt)), sync.1)

    stmt_fine : (s : Stmt) (at : ℕ) (set : Set) → StmtMarks m «cilk» at set s → Into (leaves s set) plain (at + length (stmt_code «cilk» at s)) → IsSafe «cilk» set s → IsStmtInRange program «cilk» locals s → Enters set at (stmt_code «cilk» at s)
    stmt_fine tree.Skip at set r into f range = (tt, subst (λ q. Into set plain q) (omega arith) into)
    stmt_fine (tree.Then a b) at set r into f range =
        let ca = stmt_code «cilk» at a in
        let n = length-append ca (stmt_code «cilk» (at + length ca) b) in
        let second = stmt_fine b (at + length ca) (leaves a set) r.1 (subst (λ q. Into (leaves b (leaves a set)) plain q) (omega (arith, n)) into) f.1 range.1 in
        let first = stmt_fine a at set r.0 second.1 f.0 range.0 in
        (all_append Fine at ca _ first.0 second.0, first.1)
    stmt_fine (tree.Assign k e) at set r into f range =
        let ce = expr_code at e in
        let n = length-append ce (instr.Store k ∷ []) in
        let end = at + length ce in (
          all_append Fine at ce _ (expr_fine e set plain at (sub set plain at _ at end (omega arith) (omega (arith, n)) r) (range_in set plain at _ end r (omega arith) (omega (arith, n))) f.1)
              ((not_in set plain at _ end k r (omega arith) (omega (arith, n)) f.0, flows set plain at _ end (suc end) r (omega arith) (omega (arith, n)) (subst (λ q. Into set plain q) (omega (arith, n)) into)), tt),
          range_in set plain at _ at r (omega arith) (omega (arith, n)),
        )
    stmt_fine (tree.Put a i e) at set r into f range =
        let ci = expr_code at i in
        let mid = at + length ci in
        let ce = expr_code mid e in
        let end = mid + length ce in
        let n1 = length-append ci (ce ++ instr.WriteShared a ∷ []) in
        let n2 = length-append ce (instr.WriteShared a ∷ []) in (
          all_append Fine at ci _ (expr_fine i set plain at (sub set plain at _ at mid (omega arith) (omega (arith, n1, n2)) r) (range_in set plain at _ mid r (omega arith) (omega (arith, n1, n2))) f.0)
              (all_append Fine mid ce _ (expr_fine e set plain mid (sub set plain at _ mid end (omega arith) (omega (arith, n1, n2)) r) (range_in set plain at _ end r (omega arith) (omega (arith, n1, n2))) f.1)
              (flows set plain at _ end (suc end) r (omega arith) (omega (arith, n1, n2)) (subst (λ q. Into set plain q) (omega (arith, n1, n2)) into), tt)),
          range_in set plain at _ at r (omega arith) (omega (arith, n1, n2)),
        )
    stmt_fine (tree.Print e) at set r into f range =
        let ce = expr_code at e in
        let n = length-append ce (instr.PrintTop ∷ []) in
        let end = at + length ce in (
          all_append Fine at ce _ (expr_fine e set plain at (sub set plain at _ at end (omega arith) (omega (arith, n)) r) (range_in set plain at _ end r (omega arith) (omega (arith, n))) f)
              (flows set plain at _ end (suc end) r (omega arith) (omega (arith, n)) (subst (λ q. Into set plain q) (omega (arith, n)) into), tt),
          range_in set plain at _ at r (omega arith) (omega (arith, n)),
        )
    stmt_fine (tree.If t a b) at set r into f range =
        let ct = expr_code at t in
        let jump = at + length ct in
        let pa = suc jump in
        let ca = stmt_code «cilk» pa a in
        let over = pa + length ca in
        let pb = suc over in
        let cb = stmt_code «cilk» pb b in
        let n1 = length-append ct (instr.JumpIfZero pb ∷ (ca ++ (instr.Jump (pb + length cb) ∷ cb))) in
        let n2 = length-append ca (instr.Jump (pb + length cb) ∷ cb) in
        let last : Into (both (leaves a set) (leaves b set)) plain (pb + length cb) = subst (λ q. Into (both (leaves a set) (leaves b set)) plain q) (omega (arith, n1, n2)) into in
        let other = stmt_fine b pb set r.3 (within (leaves b set) _ plain _ (right_of (leaves a set) (leaves b set)) last) f.2 range.2 in
        let jumped : Fine over (instr.Jump (pb + length cb)) = flows (leaves a set) plain over pb over (pb + length cb) r.2 (omega arith) (omega arith) (within (leaves a set) _ plain _ (left_of (leaves a set) (leaves b set)) last) in
        let met = stmt_fine a pa set r.1 (range_in (leaves a set) plain over pb over r.2 (omega arith) (omega arith)) f.1 range.1 in (
          all_append Fine at ct _ (expr_fine t set plain at (sub set plain at pa at jump (omega arith) (omega arith) r.0) (range_in set plain at pa jump r.0 (omega arith) (omega arith)) f.0) (
            (flows set plain at pa jump pb r.0 (omega arith) (omega arith) other.1, flows set plain at pa jump pa r.0 (omega arith) (omega arith) met.1),
            all_append Fine pa ca _ met.0 (jumped, other.0),
          ),
          range_in set plain at pa at r.0 (omega arith) (omega arith),
        )
    stmt_fine (tree.While t s) at set r into f range =
        let all = both set (leaves s set) in
        let ct = expr_code (suc at) t in
        let jump = suc at + length ct in
        let cs = stmt_code «cilk» (suc jump) s in
        let end = suc jump + length cs in
        let n1 = length-append ct (instr.JumpIfZero (suc end) ∷ (cs ++ instr.Jump at ∷ [])) in
        let n2 = length-append cs (instr.Jump at ∷ []) in
        let out : Into all plain (suc end) = subst (λ q. Into all plain q) (omega (arith, n1, n2)) into in
        let head : Into all plain at = range_in all plain at (suc jump) at r.0 (omega arith) (omega arith) in
        let body = stmt_fine s (suc jump) all r.1 (range_in (leaves s all) plain end (suc end) end r.2 (omega arith) (omega arith)) f.1 range.1 in
        let back : Fine end (instr.Jump at) = flows (leaves s all) plain end (suc end) end at r.2 (omega arith) (omega arith) (within (leaves s all) all plain at (once s set) head) in (
          (
            flows all plain at (suc jump) at (suc at) r.0 (omega arith) (omega arith) (range_in all plain at (suc jump) (suc at) r.0 (omega arith) (omega arith)),
            all_append Fine (suc at) ct _ (expr_fine t all plain (suc at) (sub all plain at (suc jump) (suc at) jump (omega arith) (omega arith) r.0) (range_in all plain at (suc jump) jump r.0 (omega arith) (omega arith)) f.0) (
              (flows all plain at (suc jump) jump (suc end) r.0 (omega arith) (omega arith) out, flows all plain at (suc jump) jump (suc jump) r.0 (omega arith) (omega arith) body.1),
              all_append Fine (suc jump) cs _ body.0 (back, tt),
            ),
          ),
          within set all plain at (left_of set (leaves s set)) head,
        )
    stmt_fine (tree.Call target f es) at set r into h range =
        let ces = exprs_code at es in
        let end = at + length ces in
        let n = length-append ces (instr.Call f ∷ target_code target ∷ []) in
        let plain_start : (proc : Proc) → slice_get code.procs f ≡ Some proc → m.plain proc.start ≡ true = λ proc e. called f range.0.function range.0.is proc e ∙ ap not range.0.kind_is in (
          all_append Fine at ces _ (exprs_fine es set plain at _ r (omega (arith, n)) h.1) (
            (flows set plain at _ end (suc end) r (omega arith) (omega (arith, n)) (range_in set plain at _ (suc end) r (omega arith) (omega (arith, n))), plain_start),
            (target_fine target set plain (suc end) at _ r (omega arith) (omega (arith, n)) (subst (λ q. Into set plain q) (omega (arith, n)) into) h.0, tt),
          ),
          range_in set plain at _ at r (omega arith) (omega (arith, n)),
        )
    stmt_fine (tree.Spawn target f es) at set r into h range =
        let ces = exprs_code at es in
        let end = at + length ces in
        let n = length-append ces (instr.Spawn f target ∷ []) in
        let out : Into (with_target target set) plain (suc end) = subst (λ q. Into (with_target target set) plain q) (omega (arith, n)) into in (
          all_append Fine at ces _ (exprs_fine es set plain at _ r (omega (arith, n)) h.1) (
            (
              flows set plain at _ end (suc end) r (omega arith) (omega (arith, n)) (spawn_into target set plain (suc end) out),
              spawn_waits target set plain end at _ r (omega arith) (omega (arith, n)) out h.0,
              is_own range.3 end set at _ r (omega arith) (omega (arith, n)),
            ),
            tt,
          ),
          range_in set plain at _ at r (omega arith) (omega (arith, n)),
        )
    stmt_fine (tree.Add target a i e) at set r into f range =
        let ci = expr_code at i in
        let mid = at + length ci in
        let ce = expr_code mid e in
        let end = mid + length ce in
        let n1 = length-append ci (ce ++ instr.AddShared a ∷ target_code target ∷ []) in
        let n2 = length-append ce (instr.AddShared a ∷ target_code target ∷ []) in (
          all_append Fine at ci _ (expr_fine i set plain at (sub set plain at _ at mid (omega arith) (omega (arith, n1, n2)) r) (range_in set plain at _ mid r (omega arith) (omega (arith, n1, n2))) f.1)
              (all_append Fine mid ce _ (expr_fine e set plain mid (sub set plain at _ mid end (omega arith) (omega (arith, n1, n2)) r) (range_in set plain at _ end r (omega arith) (omega (arith, n1, n2))) f.2) (
                flows set plain at _ end (suc end) r (omega arith) (omega (arith, n1, n2)) (range_in set plain at _ (suc end) r (omega arith) (omega (arith, n1, n2))),
                (target_fine target set plain (suc end) at _ r (omega arith) (omega (arith, n1, n2)) (subst (λ q. Into set plain q) (omega (arith, n1, n2)) into) f.0, tt),
              )),
          range_in set plain at _ at r (omega arith) (omega (arith, n1, n2)),
        )
    stmt_fine tree.Sync at set r into f range = ((is_own range at set at _ r (omega arith) (omega arith), tt), range_in set plain at _ at r (omega arith) (omega arith))
    stmt_fine (tree.Return e) at set r into f range = return_fine e at set r f

    -- a whole body, behind which there is a return of 0
    pub body_marked : (body : Stmt) (at : ℕ) → StmtMarks m «cilk» at none (tree.Then body (tree.Return (tree.Number (pos 0)))) → IsSafe «cilk» none body → IsStmtInRange program «cilk» locals body →
        AllAt Fine at (stmt_code «cilk» at (tree.Then body (tree.Return (tree.Number (pos 0)))))
    body_marked body at r f range =
        let cb = stmt_code «cilk» at body in
        let end = return_fine (tree.Number (pos 0)) (at + length cb) (leaves body none) r.1 tt in
        let first = stmt_fine body at none r.0 end.1 f range in
        all_append Fine at cb _ first.0 end.0
