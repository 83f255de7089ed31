-- A code that carries a program wants what the program wants.
use Rattle.std.proofs.Common.{◌≡◌, ℕ, suc, ◌-◌, List, [], ◌∷◌, ◌++◌, length, Option, Some, None, refl, sym, ap, ◌∙◌, arith}
use Rattle.std.specs.Prelude.{ℤ, pos, slice_get, replicate}
use Rattle.cilk_meaning.specs.Instance.{Meaning, limits, ends, whole, entered, calls, wants}
use Rattle.cilk_meaning.specs.Locals.{first_locals}
use Rattle.cilk_meaning.specs.Resolved.{Function, Program}
use Rattle.cilk_meaning.specs.Wants.{Returns, Answer}
use Rattle.machine_code.specs.declared.instr.Instr.TheVariants as instr
use Rattle.machine_code.specs.Machine.{Code, start_frame, starts_at, starts}
use Rattle.machine_code.specs.Machine as machine
use Rattle.compiled_code.specs.Carries.{Carries}
use Rattle.compiled_code.proofs.Meaning.{body_means, ending, at, looked}

pub carried_wants : (code : Code) (program : Program) → Carries code program → (depth procedure : ℕ) (arguments : List ℤ) (answers : List Answer) →
    starts code depth procedure arguments answers ≡ wants program depth procedure arguments answers
carried_wants code program carries depth procedure arguments answers = go (slice_get program.functions procedure) refl
  where
    go : (o : Option Function) → slice_get program.functions procedure ≡ o → starts code depth procedure arguments answers ≡ wants program depth procedure arguments answers
    go None e =
        ap (λ o. starts_at code depth o arguments answers) (carries.none procedure e)
        ∙ ap (λ o. entered limits program depth (suc (length answers)) (calls limits program depth (suc (length answers)) 0) o arguments (λ v. ends (Returns v)) answers) (sym e)
    go (Some fn) e =
        let p = carries.procs procedure fn e in
        let m = suc (length answers) in
        let leave : ℤ → Meaning = λ v. ends (Returns v) in
        let begun = first_locals fn arguments in
        ap (λ o. starts_at code depth o arguments answers) p.is
        ∙ ap (λ a. machine.wants code (at code carries.forward depth p.proc.operands [] p.proc.start (arguments ++ replicate (a - p.proc.params) (pos 0)) []) answers) p.locals
        ∙ ap (λ a. machine.wants code (at code carries.forward depth p.proc.operands [] p.proc.start (arguments ++ replicate (fn.locals - a) (pos 0)) []) answers) p.params
        ∙ sym (body_means code carries.forward depth program carries m [] m (omega arith) fn p.proc.operands p.proc.start begun leave (carries.suits procedure fn e) p.stands
        (λ pc l v is_return. ending code carries.forward depth m (at code carries.forward depth p.proc.operands [] pc l (v ∷ [])) (Returns v)
        (looked code carries.forward depth p.proc.operands [] pc l (v ∷ []) instr.Return is_return)) answers (omega arith))
        ∙ ap (λ sh. whole (record { shared = sh; «cilk» = fn.«cilk»; deepest = limits.depth; depth = depth; call = calls limits program depth m 0; turns = m; leave = leave }) fn.body begun answers) carries.shared
        ∙ ap (λ o. entered limits program depth m (calls limits program depth m 0) o arguments leave answers) (sym e)
