-- The code of a program stands for it.
use Rattle.std.proofs.Common.{◌≡◌, ℕ, zero, suc, ◌+◌, ◌<◌, List, [], ◌∷◌, length, map, Some, refl, sym, ap, ◌∙◌, subst, arith, length-append}
use Rattle.std.specs.Prelude.{pos, Bool, true, false, not, slice_get}
use Rattle.cilk_meaning.specs.Resolved as tree
use Rattle.cilk_meaning.specs.Resolved.{Stmt, Function, Program}
use Rattle.machine_code.specs.declared.code.Proc.{Proc}
use Rattle.machine_code.specs.StandsFor.{header_of_proc, header_of_function}
use Rattle.compiled_code.specs.Carries.{SuitsCalls, AllSuit}
use Rattle.compiled_code.specs.Emitted.{stmt_code, function_code, functions_code, proc_at, procs_at, compiled}
use Rattle.compiled_code.specs.Laws.{CompiledStands}
use Rattle.compiled_code.specs.Safe.{Set, none, KeepsValues}
use Rattle.compiled_code.specs.WellFormed.{IsStmtInRange, IsWellFormed}
use Rattle.compiled_code.proofs.Early.{takes_early}
use Rattle.compiled_code.proofs.Marked.{body_marked}
use Rattle.compiled_code.proofs.Marks.{Marks, IsMarked, AreMarks}
use Rattle.compiled_code.proofs.Validity.{pick, pick_here, pick_behind}
use Rattle.compiled_code.proofs.Waiting.{waiting_in, Follow, stmt_marks}
use Rattle.compiled_code.proofs.Whole.{AllAt, all_append, all_get, compiled_forward, compiled_wants}

-- the body of a function with the return of 0 behind it
abbrev with_end : Function → Stmt
with_end fn = tree.Then fn.body (tree.Return (tree.Number (pos 0)))

-- the marks of functions from one on
abbrev waiting_from : ℕ → List Function → ℕ → Set
waiting_from at [] k = none
waiting_from at (fn ∷ fns) k =
    pick (length (function_code at fn)) k (waiting_in fn.«cilk» at (with_end fn) none k) (waiting_from (at + length (function_code at fn)) fns)

abbrev plain_from : ℕ → List Function → ℕ → Bool
plain_from at [] k = false
plain_from at (fn ∷ fns) k = pick (length (function_code at fn)) k (not fn.«cilk») (plain_from (at + length (function_code at fn)) fns)

some_code : (at : ℕ) (fn : Function) → 0 < length (function_code at fn)
some_code at fn =
    let n = length-append (stmt_code fn.«cilk» at fn.body) (stmt_code fn.«cilk» (at + length (stmt_code fn.«cilk» at fn.body)) (tree.Return (tree.Number (pos 0)))) in
    let m = behind fn.«cilk» in
    omega (arith, n, m)
  where
    behind : (kind : Bool) → 0 < length (stmt_code kind (at + length (stmt_code fn.«cilk» at fn.body)) (tree.Return (tree.Number (pos 0))))
    behind true = omega arith
    behind false = omega arith

-- calls suit their functions where numbers are in range
suits_calls : (program : Program) («cilk» : Bool) (locals : ℕ) (s : Stmt) → IsStmtInRange program «cilk» locals s → SuitsCalls program s
suits_calls program «cilk» locals tree.Skip r = tt
suits_calls program «cilk» locals (tree.Then a b) r = (suits_calls program «cilk» locals a r.0, suits_calls program «cilk» locals b r.1)
suits_calls program «cilk» locals (tree.Assign k e) r = tt
suits_calls program «cilk» locals (tree.Put a i e) r = tt
suits_calls program «cilk» locals (tree.Print e) r = tt
suits_calls program «cilk» locals (tree.If t a b) r = (suits_calls program «cilk» locals a r.1, suits_calls program «cilk» locals b r.2)
suits_calls program «cilk» locals (tree.While t s) r = suits_calls program «cilk» locals s r.1
suits_calls program «cilk» locals (tree.Call target f es) r = (r.0.function, r.0.is, r.0.params)
suits_calls program «cilk» locals (tree.Spawn target f es) r = (r.0.function, r.0.is, r.0.params)
suits_calls program «cilk» locals (tree.Add target a i e) r = tt
suits_calls program «cilk» locals tree.Sync r = tt
suits_calls program «cilk» locals (tree.Return e) r = tt

all_suit : (program : Program) → IsWellFormed program → AllSuit program
all_suit program well number fn is = suits_calls program fn.«cilk» fn.locals fn.body (well.functions number fn is).body

same_headers : (at : ℕ) (fns : List Function) → map header_of_proc (procs_at at fns) ≡ map header_of_function fns
same_headers at [] = refl
same_headers at (fn ∷ fns) = ap (λ l. header_of_function fn ∷ l) (same_headers (at + length (function_code at fn)) fns)

module _ (program : Program) (well : IsWellFormed program) (keeps : KeepsValues program) (m : Marks) where
  -- these functions are among those of the program, and the marks are theirs
  pub record Tail (f at : ℕ) (fns : List Function) : Type 0 where
    pub functions : (j : ℕ) (fn : Function) → slice_get fns j ≡ Some fn → slice_get program.functions (f + j) ≡ Some fn
    pub waiting : (k : ℕ) → m.waiting (at + k) ≡ waiting_from at fns k
    pub plain : (k : ℕ) → m.plain (at + k) ≡ plain_from at fns k

  next_tail : (f at : ℕ) (fn : Function) (fns : List Function) → Tail f at (fn ∷ fns) → Tail (suc f) (at + length (function_code at fn)) fns
  next_tail f at fn fns tail = record {
    functions = λ j g e. subst (λ n. slice_get program.functions n ≡ Some g) (omega arith) (tail.functions (suc j) g e);
    waiting = λ k. let e : at + length (function_code at fn) + k ≡ at + (length (function_code at fn) + k) = omega arith in
        ap m.waiting e ∙ tail.waiting (length (function_code at fn) + k) ∙ pick_behind (length (function_code at fn)) k _ (waiting_from (at + length (function_code at fn)) fns);
    plain = λ k. let e : at + length (function_code at fn) + k ≡ at + (length (function_code at fn) + k) = omega arith in
        ap m.plain e ∙ tail.plain (length (function_code at fn) + k) ∙ pick_behind (length (function_code at fn)) k _ (plain_from (at + length (function_code at fn)) fns);
  }

  first_follows : (f at : ℕ) (fn : Function) (fns : List Function) → Tail f at (fn ∷ fns) → Follow m fn.«cilk» at (length (function_code at fn)) (waiting_in fn.«cilk» at (with_end fn) none)
  first_follows f at fn fns tail k lt = (
    tail.waiting k ∙ pick_here (length (function_code at fn)) k (waiting_in fn.«cilk» at (with_end fn) none k) (waiting_from (at + length (function_code at fn)) fns) lt,
    tail.plain k ∙ pick_here (length (function_code at fn)) k (not fn.«cilk») (plain_from (at + length (function_code at fn)) fns) lt,
  )

  -- a procedure's first place is that of a plain function or not
  starts_plain : (f at : ℕ) (fns : List Function) → Tail f at fns → (j : ℕ) (fn : Function) → slice_get fns j ≡ Some fn → (proc : Proc) → slice_get (procs_at at fns) j ≡ Some proc → m.plain proc.start ≡ not fn.«cilk»
  starts_plain f at [] tail j fn e proc e' = absurd cc
  starts_plain f at (x ∷ fns) tail zero fn e proc e' =
      let same : x ≡ fn = cc in
      let is : proc_at at x ≡ proc = cc in
      let here : at + 0 ≡ at = omega arith in
      ap (λ (p : Proc). m.plain p.start) (sym is) ∙ ap m.plain (sym here) ∙ (first_follows f at x fns tail 0 (some_code at x)).1 ∙ ap (λ (g : Function). not g.«cilk») same
  starts_plain f at (x ∷ fns) tail (suc j) fn e proc e' = starts_plain (suc f) (at + length (function_code at x)) fns (next_tail f at x fns tail) j fn e proc e'

  module _ (all : Tail 0 0 program.functions) where
    all_marked : (f at : ℕ) (fns : List Function) → Tail f at fns → AllAt (IsMarked (compiled program) m) at (functions_code at fns)
    all_marked f at [] tail = tt
    all_marked f at (fn ∷ fns) tail =
        let is = subst (λ n. slice_get program.functions n ≡ Some fn) (omega arith) (tail.functions 0 fn refl) in
        all_append (IsMarked (compiled program) m) at (function_code at fn) _
        (body_marked (compiled program) m program (λ g fn' is' proc e. starts_plain 0 0 program.functions all g fn' is' proc e) fn.«cilk» fn.locals fn.body at
        (stmt_marks m fn.«cilk» (with_end fn) at none (first_follows f at fn fns tail)) (keeps f fn is) (well.functions f fn is).body)
        (all_marked (suc f) (at + length (function_code at fn)) fns (next_tail f at fn fns tail))

pub compiled_stands : CompiledStands
compiled_stands program well keeps =
    let m : Marks = record { waiting = waiting_from 0 program.functions; plain = plain_from 0 program.functions } in
    let tail : Tail program well keeps m 0 0 program.functions = record {
      functions = λ j fn e. subst (λ n. slice_get program.functions n ≡ Some fn) (omega arith) e;
      waiting = λ k. let e : 0 + k ≡ k = omega arith in ap m.waiting e;
      plain = λ k. let e : 0 + k ≡ k = omega arith in ap m.plain e;
    } in
    let marked : AreMarks (compiled program) m = λ at i e. subst (λ n. IsMarked (compiled program) m n i) (omega arith)
    (all_get (IsMarked (compiled program) m) 0 (functions_code 0 program.functions) at i (all_marked program well keeps m tail 0 0 program.functions tail) e) in
    record {
      main = refl;
      arrays = refl;
      procedures = same_headers 0 program.functions;
      wants = compiled_wants program (all_suit program well);
      early = takes_early (compiled program) (compiled_forward program) m marked;
    }
