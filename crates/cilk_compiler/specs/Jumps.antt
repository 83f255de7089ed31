-- Jumps that are written before it is known where they lead.
use Rattle.std.specs.Prelude.{ℕ, [], ◌∷◌, ◌++◌, length, slice_set}
use Rattle.cilk_meaning.specs.Resolved.{Expr}
use Rattle.machine_code.specs.declared.instr.Instr.TheVariants.{Jump, JumpIfZero}
use Rattle.cilk_compiler.specs.declared.emitter.Emitter.{Emitter}
use Rattle.cilk_compiler.specs.Emitting.{with_instr, with_instrs, valued}

-- a condition and its jump, which leads nowhere yet
abbrev pub forked : Expr → Emitter → Emitter
forked condition e = with_instr (JumpIfZero 0) (valued condition e)

-- the jump of the condition leads behind another one, which leads nowhere yet
abbrev pub parted : ℕ → Emitter → Emitter
parted fork e =
    let more = e.instrs ++ Jump 0 ∷ [] in
    with_instrs (slice_set more fork (JumpIfZero (length more))) e

-- this jump leads behind all
abbrev pub met : ℕ → Emitter → Emitter
met jump e = with_instrs (slice_set e.instrs jump (Jump (length e.instrs))) e

-- the jump of the condition leads behind the one that goes back to the start
abbrev pub turned : ℕ → ℕ → Emitter → Emitter
turned start fork e =
    let more = e.instrs ++ Jump start ∷ [] in
    with_instrs (slice_set more fork (JumpIfZero (length more))) e
