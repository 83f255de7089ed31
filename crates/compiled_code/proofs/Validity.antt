-- The code of a well formed program is well formed.
use Rattle.std.proofs.Common.{◌≡◌, ℕ, zero, suc, ◌+◌, ◌<◌, ◌≤◌, List, [], ◌∷◌, ◌++◌, length, Some, refl, sym, ap, ◌∙◌, subst, arith, append_assoc, length-append}
use Rattle.std.proofs.lemmas.List.{take-append-le}
use Rattle.std.specs.Prelude.{pos, take, slice_get}
use Rattle.cilk_meaning.specs.Resolved.{Function, Program}
use Rattle.machine_code.specs.declared.code.Proc.{Proc}
use Rattle.machine_code.specs.declared.instr.Instr.{Instr}
use Rattle.machine_code.specs.declared.instr.Instr.TheVariants as instr
use Rattle.machine_code.specs.Valid.{Shape, IsFine, IsSound}
use Rattle.compiled_code.specs.Emitted.{sync_code, stmt_code, function_code, functions_code, proc_at, procs_at}
use Rattle.compiled_code.specs.Laws.{CompiledIsValid}
use Rattle.compiled_code.specs.WellFormed.{IsInRange, IsWellFormed}
use Rattle.compiled_code.proofs.Fine.{Fine, body_fine}
use Rattle.compiled_code.proofs.Heights.{sweep, Agrees, agrees_here, agrees_by, AreThose}
use Rattle.compiled_code.proofs.Whole.{AllAt, all_append, all_get, has_itself, held, compiled_forward}

-- a value for the first so many numbers, and something else for those behind them
abbrev pub pick : {A : Type 0} → ℕ → ℕ → A → (ℕ → A) → A
pick zero k here behind = behind k
pick (suc n) zero here behind = here
pick (suc n) (suc k) here behind = pick n k here behind

pub pick_here : {A : Type 0} (n k : ℕ) (here : A) (behind : ℕ → A) → k < n → pick n k here behind ≡ here
pick_here {A} zero k here behind lt = absurd (omega (arith, lt))
pick_here {A} (suc n) zero here behind lt = refl
pick_here {A} (suc n) (suc k) here behind lt = pick_here n k here behind (omega (arith, lt))

pub pick_behind : {A : Type 0} (n k : ℕ) (here : A) (behind : ℕ → A) → pick n (n + k) here behind ≡ behind k
pick_behind {A} zero k here behind = let e : 0 + k ≡ k = omega arith in ap behind e
pick_behind {A} (suc n) k here behind =
    let e : suc n + k ≡ suc (n + k) = omega arith in
    ap (λ m. pick (suc n) m here behind) e ∙ pick_behind n k here behind

-- what is expected at each place of functions from one on, where the first of them has this number
abbrev shape_from : List Proc → ℕ → ℕ → List Function → ℕ → Shape
shape_from procs f at [] k = record { procedure = f; operands = 0 }
shape_from procs f at (fn ∷ fns) k =
    pick (length (function_code at fn)) k (record { procedure = f; operands = sweep procs 0 (take k (function_code at fn)) }) (shape_from procs (suc f) (at + length (function_code at fn)) fns)

-- the code of a function up to its last return
abbrev up_to_return : ℕ → Function → List Instr
up_to_return at fn = stmt_code fn.«cilk» at fn.body ++ (sync_code fn.«cilk» ++ instr.Const (pos 0) ∷ [])

with_return : (at : ℕ) (fn : Function) → up_to_return at fn ++ instr.Return ∷ [] ≡ function_code at fn
with_return at fn =
    append_assoc (stmt_code fn.«cilk» at fn.body) (sync_code fn.«cilk» ++ instr.Const (pos 0) ∷ []) (instr.Return ∷ [])
    ∙ ap (λ l. stmt_code fn.«cilk» at fn.body ++ l) (append_assoc (sync_code fn.«cilk») (instr.Const (pos 0) ∷ []) (instr.Return ∷ []))

one_longer : (at : ℕ) (fn : Function) → length (function_code at fn) ≡ suc (length (up_to_return at fn))
one_longer at fn = ap length (sym (with_return at fn)) ∙ length-append (up_to_return at fn) (instr.Return ∷ []) ∙ omega arith

all_map : (P Q : ℕ → Instr → Type 0) (at : ℕ) (is : List Instr) → ((at : ℕ) (i : Instr) → P at i → Q at i) → AllAt P at is → AllAt Q at is
all_map P Q at [] h a = tt
all_map P Q at (i ∷ is) h a = (h at i a.0, all_map P Q (suc at) is h a.1)

those_of : (program : Program) → AreThose (procs_at 0 program.functions) program
those_of program number function e =
    let all = functions_code 0 program.functions in
    let h = held all 0 program.functions (has_itself all) number function e in
    (proc_at h.start function, h.is, refl, refl)

module _ (program : Program) (well : IsWellFormed program) (shapes : ℕ → Shape) where
  abbrev procs : List Proc
  procs = procs_at 0 program.functions

  abbrev instrs : List Instr
  instrs = functions_code 0 program.functions

  -- the instruction at a place does no harm in the procedure that it belongs to
  abbrev Harmless : ℕ → Instr → Type 0
  Harmless at i = (proc : Proc) → slice_get procs (shapes at).procedure ≡ Some proc → IsFine procs instrs (length program.shared) shapes at proc i

  weaker : (f : ℕ) (proc : Proc) → slice_get procs f ≡ Some proc → (at : ℕ) (i : Instr) → Fine procs instrs program (those_of program) shapes f proc at i → Harmless at i
  weaker f proc is at i h proc' e =
      let same : Some proc ≡ Some proc' = sym is ∙ ap (λ n. slice_get procs n) (sym h.0) ∙ e in
      subst (λ q. IsFine procs instrs (length program.shared) shapes at q i) (let x : proc ≡ proc' = cc in x) h.1

  -- these functions are those from a number on, and their shapes are as expected
  pub record Tail (f at : ℕ) (fns : List Function) : Type 0 where
    pub functions : (j : ℕ) (fn : Function) → slice_get fns j ≡ Some fn → slice_get program.functions (f + j) ≡ Some fn
    pub procs_are : (j : ℕ) (proc : Proc) → slice_get (procs_at at fns) j ≡ Some proc → slice_get procs (f + j) ≡ Some proc
    pub shaped : (k : ℕ) → shapes (at + k) ≡ shape_from procs f at fns k
    pub inside : at + length (functions_code at fns) ≤ length instrs

  next_tail : (f at : ℕ) (fn : Function) (fns : List Function) → Tail f at (fn ∷ fns) → Tail (suc f) (at + length (function_code at fn)) fns
  next_tail f at fn fns tail = record {
    functions = λ j g e. subst (λ n. slice_get program.functions n ≡ Some g) (omega arith) (tail.functions (suc j) g e);
    procs_are = λ j proc e. subst (λ n. slice_get procs n ≡ Some proc) (omega arith) (tail.procs_are (suc j) proc e);
    shaped = λ k. let e : at + length (function_code at fn) + k ≡ at + (length (function_code at fn) + k) = omega arith in ap shapes e ∙ tail.shaped (length (function_code at fn) + k)
        ∙ pick_behind (length (function_code at fn)) k _ (shape_from procs (suc f) (at + length (function_code at fn)) fns);
    inside = let n = length-append (function_code at fn) (functions_code (at + length (function_code at fn)) fns) in let h = tail.inside in omega (arith, n, h);
  }

  -- the places of the first of them
  agrees : (f at : ℕ) (fn : Function) (fns : List Function) → Tail f at (fn ∷ fns) → Agrees procs shapes f 0 at (up_to_return at fn)
  agrees f at fn fns tail = agrees_by procs shapes f 0 at (up_to_return at fn) (λ k le.
      let n = one_longer at fn in
      tail.shaped k ∙ pick_here (length (function_code at fn)) k _ (shape_from procs (suc f) (at + length (function_code at fn)) fns) (omega (arith, le, n))
      ∙ ap (λ l. record { procedure = f; operands = sweep procs 0 (take k l) }) (sym (with_return at fn))
      ∙ ap (λ l. record { procedure = f; operands = sweep procs 0 l }) (take-append-le k (up_to_return at fn) (instr.Return ∷ []) le))

  first_proc : (f at : ℕ) (fn : Function) (fns : List Function) → Tail f at (fn ∷ fns) → slice_get procs f ≡ Some (proc_at at fn)
  first_proc f at fn fns tail = subst (λ n. slice_get procs n ≡ Some (proc_at at fn)) (omega arith) (tail.procs_are 0 (proc_at at fn) refl)

  first_range : (f at : ℕ) (fn : Function) (fns : List Function) → Tail f at (fn ∷ fns) → IsInRange program fn
  first_range f at fn fns tail = well.functions f fn (subst (λ n. slice_get program.functions n ≡ Some fn) (omega arith) (tail.functions 0 fn refl))

  all_harmless : (f at : ℕ) (fns : List Function) → Tail f at fns → AllAt Harmless at (functions_code at fns)
  all_harmless f at [] tail = tt
  all_harmless f at (fn ∷ fns) tail =
      let n1 = one_longer at fn in
      let n2 = length-append (function_code at fn) (functions_code (at + length (function_code at fn)) fns) in
      let inside = tail.inside in
      all_append Harmless at (function_code at fn) _
      (all_map (Fine procs instrs program (those_of program) shapes f (proc_at at fn)) Harmless at (function_code at fn) (weaker f (proc_at at fn) (first_proc f at fn fns tail))
      (body_fine procs instrs program (those_of program) shapes f (proc_at at fn) fn.body at (agrees f at fn fns tail) (omega (arith, n1, n2, inside)) (omega arith) (first_range f at fn fns tail).body))
      (all_harmless (suc f) (at + length (function_code at fn)) fns (next_tail f at fn fns tail))

  all_sound : (f at : ℕ) (fns : List Function) → Tail f at fns → (j : ℕ) (proc : Proc) → slice_get (procs_at at fns) j ≡ Some proc → IsSound instrs shapes (f + j) proc
  all_sound f at [] tail j proc e = absurd cc
  all_sound f at (fn ∷ fns) tail zero proc e =
      let n1 = one_longer at fn in
      let n2 = length-append (function_code at fn) (functions_code (at + length (function_code at fn)) fns) in
      let inside = tail.inside in
      let same : proc_at at fn ≡ proc = cc in
      let zeroth : shapes at ≡ record { procedure = f; operands = 0 } = agrees_here procs shapes f 0 at (up_to_return at fn) (agrees f at fn fns tail) in
      subst (λ q. IsSound instrs shapes (f + 0) q) same (subst (λ n. IsSound instrs shapes n (proc_at at fn)) (omega arith) (record {
        starts = record { inside = omega (arith, n1, n2, inside); expected = zeroth; room = omega arith };
        params = (first_range f at fn fns tail).params;
      }))
  all_sound f at (fn ∷ fns) tail (suc j) proc e =
      subst (λ n. IsSound instrs shapes n proc) (omega arith) (all_sound (suc f) (at + length (function_code at fn)) fns (next_tail f at fn fns tail) j proc e)

pub compiled_is_valid : CompiledIsValid
compiled_is_valid program well few_instrs few_words =
    let procs = procs_at 0 program.functions in
    let instrs = functions_code 0 program.functions in
    let shapes = shape_from procs 0 0 program.functions in
    let tail : Tail program well shapes 0 0 program.functions = record {
      functions = λ j fn e. subst (λ n. slice_get program.functions n ≡ Some fn) (omega arith) e;
      procs_are = λ j proc e. subst (λ n. slice_get procs n ≡ Some proc) (omega arith) e;
      shaped = λ k. let e : 0 + k ≡ k = omega arith in ap shapes e;
      inside = omega arith;
    } in
    let main = well.main in
    let main_proc = those_of program program.main main.0 main.1 in
    record {
      shapes = shapes;
      procs = λ f proc e. subst (λ n. IsSound instrs shapes n proc) (omega arith) (all_sound program well shapes 0 0 program.functions tail f proc e);
      instrs = λ at proc i e is. subst (λ n. Harmless program well shapes n i) (omega arith) (all_get (Harmless program well shapes) 0 instrs at i (all_harmless program well shapes 0 0 program.functions tail) is) proc e;
      forward = compiled_forward program;
      main = (main_proc.0, main_proc.1, main_proc.2 ∙ main.2);
      arrays = well.arrays;
      input = omega arith;
      few_instrs = few_instrs;
      few_words = few_words;
    }
