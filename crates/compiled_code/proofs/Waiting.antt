-- Which locals may wait before each instruction of a statement's code.
use Rattle.std.proofs.Common.{◌≡◌, ℕ, suc, ◌+◌, ◌-◌, ◌<◌, ◌≤◌, [], ◌∷◌, ◌++◌, length, sym, ap, ◌∙◌, subst, arith, length-append}
use Rattle.std.specs.Prelude.{Bool, not}
use Rattle.cilk_meaning.specs.Resolved as tree
use Rattle.cilk_meaning.specs.Resolved.{Expr, Stmt}
use Rattle.machine_code.specs.declared.instr.Instr.TheVariants as instr
use Rattle.compiled_code.specs.Emitted.{expr_code, sync_code, stmt_code}
use Rattle.compiled_code.specs.Safe.{Set, both, behind_sync, leaves}
use Rattle.compiled_code.proofs.Marks.{Marks}
use Rattle.compiled_code.proofs.Validity.{pick, pick_here, pick_behind}

-- the places from one to another have this set, and are those of a plain function or not
abbrev pub Range : Marks → Set → Bool → ℕ → ℕ → Type 0
Range m set plain from to = (q : ℕ) → from ≤ q → q < to → (m.waiting q ≡ set) × (m.plain q ≡ plain)

-- the marks of a statement's code
abbrev pub StmtMarks : Marks → Bool → ℕ → Set → Stmt → Type 0
StmtMarks m «cilk» at set (tree.Then a b) = StmtMarks m «cilk» at set a × StmtMarks m «cilk» (at + length (stmt_code «cilk» at a)) (leaves a set) b
StmtMarks m «cilk» at set (tree.If t a b) =
    let ct = expr_code at t in
    let pa = suc (at + length ct) in
    let pb = suc (pa + length (stmt_code «cilk» pa a)) in
    Range m set (not «cilk») at pa × StmtMarks m «cilk» pa set a × Range m (leaves a set) (not «cilk») (pa + length (stmt_code «cilk» pa a)) pb × StmtMarks m «cilk» pb set b
StmtMarks m «cilk» at set (tree.While t s) =
    let jump = suc at + length (expr_code (suc at) t) in
    let end = suc jump + length (stmt_code «cilk» (suc jump) s) in
    let all = both set (leaves s set) in
    Range m all (not «cilk») at (suc jump) × StmtMarks m «cilk» (suc jump) all s × Range m (leaves s all) (not «cilk») end (suc end)
StmtMarks m «cilk» at set (tree.Return e) =
    let ps = at + length (sync_code «cilk») in
    Range m set (not «cilk») at ps × Range m (behind_sync «cilk» set) (not «cilk») ps (suc (ps + length (expr_code ps e)))
StmtMarks m «cilk» at set tree.Skip = Unit {0}
StmtMarks m «cilk» at set (tree.Assign k e) = Range m set (not «cilk») at (at + length (stmt_code «cilk» at (tree.Assign k e)))
StmtMarks m «cilk» at set (tree.Put a i e) = Range m set (not «cilk») at (at + length (stmt_code «cilk» at (tree.Put a i e)))
StmtMarks m «cilk» at set (tree.Print e) = Range m set (not «cilk») at (at + length (stmt_code «cilk» at (tree.Print e)))
StmtMarks m «cilk» at set (tree.Call target f es) = Range m set (not «cilk») at (at + length (stmt_code «cilk» at (tree.Call target f es)))
StmtMarks m «cilk» at set (tree.Spawn target f es) = Range m set (not «cilk») at (at + length (stmt_code «cilk» at (tree.Spawn target f es)))
StmtMarks m «cilk» at set (tree.Add target a i e) = Range m set (not «cilk») at (at + length (stmt_code «cilk» at (tree.Add target a i e)))
StmtMarks m «cilk» at set tree.Sync = Range m set (not «cilk») at (suc at)

-- the set before each instruction of a statement's code, counted from its first one
abbrev pub waiting_in : Bool → ℕ → Stmt → Set → ℕ → Set
waiting_in «cilk» at (tree.Then a b) set k =
    let ca = stmt_code «cilk» at a in
    pick (length ca) k (waiting_in «cilk» at a set k) (waiting_in «cilk» (at + length ca) b (leaves a set))
waiting_in «cilk» at (tree.If t a b) set k =
    let ct = expr_code at t in
    let pa = suc (at + length ct) in
    let ca = stmt_code «cilk» pa a in
    pick (suc (length ct)) k set (λ j. pick (length ca) j (waiting_in «cilk» pa a set j) (λ i. pick 1 i (leaves a set) (waiting_in «cilk» (suc (pa + length ca)) b set)))
waiting_in «cilk» at (tree.While t s) set k =
    let ct = expr_code (suc at) t in
    let ps = suc (suc at + length ct) in
    let cs = stmt_code «cilk» ps s in
    let all = both set (leaves s set) in
    pick (suc (suc (length ct))) k all (λ j. pick (length cs) j (waiting_in «cilk» ps s all j) (λ i. leaves s all))
waiting_in «cilk» at (tree.Return e) set k = pick (length (sync_code «cilk»)) k set (λ j. behind_sync «cilk» set)
waiting_in «cilk» at tree.Skip set k = set
waiting_in «cilk» at (tree.Assign x e) set k = set
waiting_in «cilk» at (tree.Put a i e) set k = set
waiting_in «cilk» at (tree.Print e) set k = set
waiting_in «cilk» at (tree.Call target f es) set k = set
waiting_in «cilk» at (tree.Spawn target f es) set k = set
waiting_in «cilk» at (tree.Add target a i e) set k = set
waiting_in «cilk» at tree.Sync set k = set

module _ (m : Marks) («cilk» : Bool) where
  -- so many marks from a place on are these
  abbrev pub Follow : ℕ → ℕ → (ℕ → Set) → Type 0
  Follow at n sets = (k : ℕ) → k < n → (m.waiting (at + k) ≡ sets k) × (m.plain (at + k) ≡ not «cilk»)

  range : (at n : ℕ) (set : Set) → Follow at n (λ k. set) → Range m set (not «cilk») at (at + n)
  range at n set h q a b = subst (λ x. (m.waiting x ≡ set) × (m.plain x ≡ not «cilk»)) (omega (arith, a)) (h (q - at) (omega (arith, a, b)))

  -- the first of them, and those behind
  first : (at n n' k' : ℕ) (here : ℕ → Set) (behind : ℕ → Set) → n ≤ n' → Follow at n' (λ k. pick n k (here k) behind) → Follow at n here
  first at n n' k' here behind le h k lt = let e = h k (omega (arith, le, lt)) in (e.0 ∙ pick_here n k (here k) behind lt, e.1)

  rest : (at n n' more : ℕ) (here : ℕ → Set) (behind : ℕ → Set) → n + more ≤ n' → Follow at n' (λ k. pick n k (here k) behind) → Follow (at + n) more behind
  rest at n n' more here behind le h k lt =
      let e = h (n + k) (omega (arith, le, lt)) in
      let same : at + (n + k) ≡ at + n + k = omega arith in
      (ap m.waiting (sym same) ∙ e.0 ∙ pick_behind n k (here (n + k)) behind, ap m.plain (sym same) ∙ e.1)

  elsewhere : (p q n : ℕ) (sets : ℕ → Set) → p ≡ q → Follow p n sets → Follow q n sets
  elsewhere p q n sets e h = subst (λ x. Follow x n sets) e h

  pub stmt_marks : (s : Stmt) (at : ℕ) (set : Set) → Follow at (length (stmt_code «cilk» at s)) (waiting_in «cilk» at s set) → StmtMarks m «cilk» at set s
  stmt_marks (tree.Then a b) at set h =
      let ca = stmt_code «cilk» at a in
      let cb = stmt_code «cilk» (at + length ca) b in
      let n = length-append ca cb in (
        stmt_marks a at set (first at (length ca) _ 0 (waiting_in «cilk» at a set) _ (omega (arith, n)) h),
        stmt_marks b (at + length ca) (leaves a set) (rest at (length ca) _ (length cb) (waiting_in «cilk» at a set) _ (omega (arith, n)) h),
      )
  stmt_marks (tree.If t a b) at set h =
      let ct = expr_code at t in
      let pa = suc (at + length ct) in
      let ca = stmt_code «cilk» pa a in
      let pb = suc (pa + length ca) in
      let cb = stmt_code «cilk» pb b in
      let end = pb + length cb in
      let n1 = length-append ct (instr.JumpIfZero pb ∷ (ca ++ (instr.Jump end ∷ cb))) in
      let n2 = length-append ca (instr.Jump end ∷ cb) in
      let h1 = elsewhere (at + suc (length ct)) pa _ _ (omega arith) (rest at (suc (length ct)) _ (length ca + suc (length cb)) (λ k. set) _ (omega (arith, n1, n2)) h) in
      let h2 = rest pa (length ca) _ (suc (length cb)) (waiting_in «cilk» pa a set) _ (omega arith) h1 in
      let h3 = elsewhere (pa + length ca + 1) pb _ _ (omega arith) (rest (pa + length ca) 1 _ (length cb) (λ k. leaves a set) _ (omega arith) h2) in (
        subst (λ q. Range m set (not «cilk») at q) (omega arith) (range at (suc (length ct)) set (first at (suc (length ct)) _ 0 (λ k. set) _ (omega (arith, n1)) h)),
        stmt_marks a pa set (first pa (length ca) _ 0 (waiting_in «cilk» pa a set) _ (omega arith) h1),
        subst (λ q. Range m (leaves a set) (not «cilk») (pa + length ca) q) (omega arith) (range (pa + length ca) 1 (leaves a set) (first (pa + length ca) 1 _ 0 (λ k. leaves a set) _ (omega arith) h2)),
        stmt_marks b pb set h3,
      )
  stmt_marks (tree.While t s) at set h =
      let ct = expr_code (suc at) t in
      let ps = suc (suc at + length ct) in
      let cs = stmt_code «cilk» ps s in
      let end = ps + length cs in
      let all = both set (leaves s set) in
      let n1 = length-append ct (instr.JumpIfZero (suc end) ∷ (cs ++ instr.Jump at ∷ [])) in
      let n2 = length-append cs (instr.Jump at ∷ []) in
      let h1 = elsewhere (at + suc (suc (length ct))) ps _ _ (omega arith) (rest at (suc (suc (length ct))) _ (length cs + 1) (λ k. all) _ (omega (arith, n1, n2)) h) in
      let h2 = rest ps (length cs) _ 1 (waiting_in «cilk» ps s all) _ (omega arith) h1 in (
        subst (λ q. Range m all (not «cilk») at q) (omega arith) (range at (suc (suc (length ct))) all (first at (suc (suc (length ct))) _ 0 (λ k. all) _ (omega (arith, n1)) h)),
        stmt_marks s ps all (first ps (length cs) _ 0 (waiting_in «cilk» ps s all) _ (omega arith) h1),
        subst (λ q. Range m (leaves s all) (not «cilk») end q) (omega arith) (range end 1 (leaves s all) h2),
      )
  stmt_marks (tree.Return e) at set h =
      let sc = sync_code «cilk» in
      let ps = at + length sc in
      let ce = expr_code ps e in
      let n1 = length-append sc (ce ++ instr.Return ∷ []) in
      let n2 = length-append ce (instr.Return ∷ []) in (
        range at (length sc) set (first at (length sc) _ 0 (λ k. set) _ (omega (arith, n1)) h),
        subst (λ q. Range m (behind_sync «cilk» set) (not «cilk») ps q) (omega arith) (range ps (suc (length ce)) (behind_sync «cilk» set) (rest at (length sc) _ (suc (length ce)) (λ k. set) _ (omega (arith, n1, n2)) h)),
      )
  stmt_marks tree.Skip at set h = tt
  stmt_marks (tree.Assign x e) at set h = range at _ set h
  stmt_marks (tree.Put a i e) at set h = range at _ set h
  stmt_marks (tree.Print e) at set h = range at _ set h
  stmt_marks (tree.Call target f es) at set h = range at _ set h
  stmt_marks (tree.Spawn target f es) at set h = range at _ set h
  stmt_marks (tree.Add target a i e) at set h = range at _ set h
  stmt_marks tree.Sync at set h = subst (λ q. Range m set (not «cilk») at q) (omega arith) (range at 1 set h)
