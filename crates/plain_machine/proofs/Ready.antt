-- A frame that stands has what its next instruction takes.
use Rattle.std.proofs.Common.{◌≡◌, ℕ, suc, ◌<◌, ◌^◌, List, [], ◌∷◌, length, Option, Some, refl, sym, ap, ◌∙◌, subst, arith}
use Rattle.std.specs.Prelude.{Bool, true, false, if◌then◌else◌, slice_get}
use Rattle.cilk_meaning.specs.declared.ends.TrapKind.TheVariants.{Overflow}
use Rattle.cilk_meaning.specs.Wants.{Traps}
use Rattle.machine_code.proofs.Steps.{is_inside}
use Rattle.machine_code.specs.declared.code.Proc.{Proc}
use Rattle.machine_code.specs.declared.instr.Instr.{Instr}
use Rattle.machine_code.specs.declared.instr.Instr.TheVariants as instr
use Rattle.machine_code.specs.Machine.{Code, Activation, Frame, Ends, act, look}
use Rattle.machine_code.specs.Valid.{takes, puts, goes_behind, params_of}
use Rattle.plain_machine.specs.Standing.{StandsIn, AreWaiting}
use Rattle.plain_machine.specs.Stepping.{CanReceive, IsReady, Makes, NamesProc, asked}
use Rattle.plain_machine.specs.declared.want.Want.{Want}
use Rattle.plain_machine.proofs.Finding.{fine, taken, enough}

pub small : (code : Code) (f : Frame) → StandsIn code f → suc f.running.pc < 2 ^ 32
small code f s =
    let a = s.running.leads.inside in
    let b = s.valid.few_instrs in
    omega (arith, a, b)

pub inside : (code : Code) (f : Frame) → StandsIn code f → f.running.pc < length code.instrs
inside code f s = s.running.leads.inside

module _ (code : Code) (f : Frame) (s : StandsIn code f) (i : Instr) (e : slice_get code.instrs f.running.pc ≡ Some i) where
  pub ready : goes_behind i ≡ true → IsReady (takes code.procs i) (puts i) f.running
  ready goes =
      let h = enough code f s i e in
      let t = taken code f s i e in
      let r = ((fine code f s i e).behind goes).room in
      let same = s.running.room in
      let next = small code f s in
      record {
        operands = h;
        room = omega (arith, h, t, r, same);
        next = next;
      }

  -- where it goes on depends on the instruction alone
  pub looked : f.overflowed ≡ false → look code f ≡ act code f (Some i)
  looked goes =
      ap (λ (b : Bool). if b then Ends (Traps Overflow) else act code f (slice_get code.instrs f.running.pc)) goes ∙ ap (act code f) e

  pub made : (g : Frame) (result : Option Want) → f.overflowed ≡ false → Makes (act code f (Some i)) f g result → Makes (look code f) f g result
  made g result goes h = subst (λ move. Makes move f g result) (sym (looked goes)) h

  pub stays : (want : Want) → f.overflowed ≡ false → asked (act code f (Some i)) ≡ Some want → Makes (look code f) f f (Some want)
  stays want goes h = made f (Some want) goes (refl, h)

pub leaves_ready : (code : Code) (f : Frame) (s : StandsIn code f) → slice_get code.instrs f.running.pc ≡ Some instr.Return → IsReady 1 0 f.running
leaves_ready code f s e =
    let h = enough code f s instr.Return e in
    let r = s.running.leads.room in
    let same = s.running.room in
    let next = small code f s in
    record { operands = h; room = omega (arith, h, r, same); next = next }

pub receives : (code : Code) (f : Frame) → StandsIn code f → CanReceive f.callers
receives code f s = go f.callers s.waiting
  where
    go : (callers : List Activation) → AreWaiting code s.valid.shapes callers → CanReceive callers
    go [] waiting = tt
    go (caller ∷ callers) waiting =
        let room = waiting.0.leads.room in
        let same = waiting.0.room in
        omega (arith, room, same)

pub local_inside : (code : Code) (f : Frame) → StandsIn code f → (k : ℕ) → slice_get code.instrs f.running.pc ≡ Some (instr.Load k) → k < length f.running.locals
local_inside code f s k e = let h = (fine code f s (instr.Load k) e).in_range in let n = s.running.locals in omega (arith, h, n)

pub stored_inside : (code : Code) (f : Frame) → StandsIn code f → (k : ℕ) → slice_get code.instrs f.running.pc ≡ Some (instr.Store k) → k < length f.running.locals
stored_inside code f s k e = let h = (fine code f s (instr.Store k) e).in_range in let n = s.running.locals in omega (arith, h, n)

pub call_inside : (code : Code) (f : Frame) → StandsIn code f → (p : ℕ) → slice_get code.instrs f.running.pc ≡ Some (instr.Call p) → (proc : Proc) × (slice_get code.procs p ≡ Some proc)
call_inside code f s p e = let h = (fine code f s (instr.Call p) e).in_range in (h.0, h.1)

pub spawn_inside : (code : Code) (f : Frame) → StandsIn code f → (p : ℕ) (target : Option ℕ) → slice_get code.instrs f.running.pc ≡ Some (instr.Spawn p target) → (proc : Proc) × (slice_get code.procs p ≡ Some proc)
spawn_inside code f s p target e = let h = (fine code f s (instr.Spawn p target) e).in_range in (h.1.0, h.1.1)

-- the procedure that the next instruction names is one of the code
pub names_proc : (code : Code) (f : Frame) (s : StandsIn code f) (i : Instr) → slice_get code.instrs f.running.pc ≡ Some i → NamesProc code.procs i
names_proc code f s (instr.Call p) e = let h = call_inside code f s p e in is_inside code.procs p h.0 h.1
names_proc code f s (instr.Spawn p target) e = let h = spawn_inside code f s p target e in is_inside code.procs p h.0 h.1
names_proc code f s (instr.Const v) e = tt
names_proc code f s (instr.Load k) e = tt
names_proc code f s (instr.Store k) e = tt
names_proc code f s instr.Pop e = tt
names_proc code f s instr.Add e = tt
names_proc code f s instr.Sub e = tt
names_proc code f s instr.Mul e = tt
names_proc code f s instr.Div e = tt
names_proc code f s instr.Rem e = tt
names_proc code f s instr.Neg e = tt
names_proc code f s instr.Not e = tt
names_proc code f s instr.Eq e = tt
names_proc code f s instr.Ne e = tt
names_proc code f s instr.Lt e = tt
names_proc code f s instr.Le e = tt
names_proc code f s instr.Gt e = tt
names_proc code f s instr.Ge e = tt
names_proc code f s (instr.Jump to) e = tt
names_proc code f s (instr.JumpIfZero to) e = tt
names_proc code f s (instr.ReadShared array) e = tt
names_proc code f s (instr.WriteShared array) e = tt
names_proc code f s (instr.AddShared array) e = tt
names_proc code f s instr.PrintTop e = tt
names_proc code f s instr.Turn e = tt
names_proc code f s instr.SyncAll e = tt
names_proc code f s instr.Return e = tt

-- its operands can be taken off
pub drops_ready : (code : Code) (f : Frame) (s : StandsIn code f) (i : Instr) → slice_get code.instrs f.running.pc ≡ Some i → IsReady (takes code.procs i) 0 f.running
drops_ready code f s i e =
    let h = enough code f s i e in
    let r = s.running.leads.room in
    let same = s.running.room in
    let next = small code f s in
    record { operands = h; room = omega (arith, h, r, same); next = next }

pub call_ready : (code : Code) (f : Frame) (s : StandsIn code f) (p : ℕ) (proc : Proc) → slice_get code.instrs f.running.pc ≡ Some (instr.Call p) → slice_get code.procs p ≡ Some proc → IsReady proc.params 1 f.running
call_ready code f s p proc e is = subst (λ n. IsReady n 1 f.running) (ap params_of is) (ready code f s (instr.Call p) e refl)
