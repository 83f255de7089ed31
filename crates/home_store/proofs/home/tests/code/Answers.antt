use Rattle.std.proofs.Common.{◌≡◌, ◌≤◌, ℕ, ℤ, zero, suc, pos, false, List, [], ◌∷◌, length, Some, None, refl, subst, inl, arith}
use Rattle.std.specs.Prelude.{slice_get}
use Rattle.machine_code.specs.Machine.{Code}
use Rattle.machine_code.specs.Valid.{IsFine, IsSound, IsValid, Shape, jumps_to}
use Rattle.machine_code.specs.declared.code.Proc.{Proc}
use Rattle.machine_code.specs.declared.instr.Instr.{Instr}
use Rattle.machine_code.specs.declared.instr.Instr.TheVariants.{Const, Return}
use Rattle.home_store.proofs.home.tests.code.Goals as goal

abbrev main : Proc
main = record { «cilk» = false; start = 0; params = 0; locals = 0; operands = 1 }

abbrev procs : List Proc
procs = main ∷ []

abbrev instrs : List Instr
instrs = Const (pos 0) ∷ Return ∷ []

abbrev over : List ℤ → Code
over input = record { procs = procs; instrs = instrs; shared = record { base = 0; words = 18 } ∷ []; main = 0; input_base = 0; input = input }

abbrev shapes : ℕ → Shape
shapes at = record { procedure = 0; operands = at }

sound : (procedure : ℕ) (proc : Proc) → slice_get procs procedure ≡ Some proc → IsSound instrs shapes procedure proc
sound zero proc is =
    let same : main ≡ proc = cc in
    subst (λ (p : Proc). IsSound instrs shapes 0 p) same (record { starts = record { inside = omega arith; expected = refl; room = omega arith }; params = omega arith })
sound (suc procedure) proc is = absurd cc

fine : (at : ℕ) (instr : Instr) → slice_get instrs at ≡ Some instr → IsFine procs instrs 1 shapes at main instr
fine zero instr is =
    let same : Const (pos 0) ≡ instr = cc in
    subst (λ (i : Instr). IsFine procs instrs 1 shapes 0 main i) same (record {
      in_range = tt;
      below = 0;
      taken = refl;
      behind = λ _. record { inside = omega arith; expected = refl; room = omega arith };
      jumps = λ to e. absurd cc;
    })
fine (suc zero) instr is =
    let same : Return ≡ instr = cc in
    subst (λ (i : Instr). IsFine procs instrs 1 shapes 1 main i) same (record { in_range = tt; below = 0; taken = refl; behind = λ e. absurd cc; jumps = λ to e. absurd cc })
fine (suc (suc at)) instr is = absurd cc

jumps_nowhere : (one instr : Instr) (to : ℕ) → jumps_to one ≡ None → one ≡ instr → jumps_to instr ≡ Some to → ⊥
jumps_nowhere one instr to nowhere same jump = let e : None ≡ Some to = cc in absurd cc

no_jump : (at to : ℕ) (instr : Instr) → slice_get instrs at ≡ Some instr → jumps_to instr ≡ Some to → ⊥
no_jump zero to instr is jump = let same : Const (pos 0) ≡ instr = cc in jumps_nowhere (Const (pos 0)) instr to refl same jump
no_jump (suc zero) to instr is jump = let same : Return ≡ instr = cc in jumps_nowhere Return instr to refl same jump
no_jump (suc (suc at)) to instr is jump = absurd cc

valid : (input : List ℤ) → length input ≤ 18 → IsValid (over input)
valid input few = record {
  shapes = shapes;
  procs = sound;
  instrs = λ at proc instr of is. let same : main ≡ proc = cc in subst (λ (p : Proc). IsFine procs instrs 1 shapes at p instr) same (fine at instr is);
  forward = λ at to instr is jump. absurd (no_jump at to instr is jump);
  main = (main, refl, refl);
  arrays = (refl, tt);
  input = omega arith;
  few_instrs = omega arith;
  few_words = omega arith;
}

pub invariant_of-result : goal.invariant_of-result
invariant_of-result c =
    let few : length c.in_ok-words.field-0 ≤ 18 = rw (c.in_ok-words.ensures {u = tt}) (omega arith) in
    rw ((c.in_ok-from_slice.ensures {u = tt}).items, (c.in_ok-from_slice-2.ensures {u = tt}).items, (c.in_ok-from_slice-3.ensures {u = tt}).items) (valid c.in_ok-words.field-0 few)
