-- Where an answer leads a frame that stands at a request.
use Rattle.std.proofs.Common.{◌≡◌, ℕ, List, [], ◌∷◌, Some, refl, sym, ap, ◌∙◌, subst}
use Rattle.std.specs.Prelude.{ℤ, Bool, true, false, if◌then◌else◌, Result, Ok, Err, slice_get}
use Rattle.cilk_meaning.specs.declared.ends.TrapKind.{TrapKind}
use Rattle.cilk_meaning.specs.declared.ends.TrapKind.TheVariants.{Overflow}
use Rattle.cilk_meaning.specs.Locals.{extent_of}
use Rattle.cilk_meaning.specs.Values.{word_of}
use Rattle.cilk_meaning.specs.Wants.{Want, Traps}
use Rattle.machine_code.specs.declared.instr.Instr.{Instr}
use Rattle.machine_code.specs.declared.instr.Instr.TheVariants as instr
use Rattle.machine_code.specs.Machine.{Code, Frame, Move, Ends, popping, given, added, act, look}
use Rattle.plain_machine.specs.Stepping.{Resumes, led_to}
use Rattle.plain_machine.specs.declared.want.Answer.{Answer}
use Rattle.plain_machine.specs.declared.want.Answer.TheVariants as reply

-- If the answer suits, it leads to this frame.
record Leads (answer : Answer) (g : Frame) (move : Move) : Type 0 where
  led : Resumes move answer → led_to move answer ≡ Some g

-- what asks for nothing gets no answer
end_leads : (answer : Answer) (g : Frame) (want : Want) → Leads answer g (Ends want)
end_leads answer g want = record { led = λ suits. absurd suits }

pop_leads : (answer : Answer) (g : Frame) (operands : List ℤ) (next : ℤ → List ℤ → Move) → ((v : ℤ) (rest : List ℤ) → operands ≡ v ∷ rest → Leads answer g (next v rest)) → Leads answer g (popping operands next)
pop_leads answer g [] next h = record { led = λ suits. absurd suits }
pop_leads answer g (v ∷ rest) next h = h v rest refl

given_leads : {A : Type 0} (answer : Answer) (g : Frame) (r : Result A TrapKind) (next : A → Move) → ((v : A) → Leads answer g (next v)) → Leads answer g (given r next)
given_leads {A} answer g (Ok v) next h = h v
given_leads {A} answer g (Err kind) next h = end_leads answer g (Traps kind)

-- at an add the sum may be no value
add_at : (v : ℤ) (code : Code) (f g : Frame) (array : ℕ) → ((addend index : ℤ) (rest : List ℤ) → f.running.operands ≡ addend ∷ index ∷ rest → g ≡ added f addend rest v) →
    Leads (reply.Value v) g (act code f (Some (instr.AddShared array)))
add_at v code f g array is =
    pop_leads _ _ f.running.operands _ (λ addend below e. pop_leads _ _ below _ (λ i rest e'. given_leads _ _ (word_of (extent_of code.shared array) i) _ (λ word.
    record { led = λ suits. ap Some (sym (is addend i rest (e ∙ ap (λ (below : List ℤ). addend ∷ below) e'))) })))

goes_none : (code : Code) (f : Frame) (answer : Answer) (b : Bool) → f.overflowed ≡ b → Resumes (look code f) answer → f.overflowed ≡ false
goes_none code f answer true over suits =
    absurd (subst (λ (b : Bool). Resumes (if b then Ends (Traps Overflow) else act code f (slice_get code.instrs f.running.pc)) answer) over suits)
goes_none code f answer false over suits = over

module _ (code : Code) (f : Frame) (answer : Answer) (suits : Resumes (look code f) answer) (i : Instr) (e : slice_get code.instrs f.running.pc ≡ Some i) where
  looks : look code f ≡ act code f (Some i)
  looks = ap (λ (b : Bool). if b then Ends (Traps Overflow) else act code f (slice_get code.instrs f.running.pc)) (goes_none code f answer f.overflowed refl suits) ∙ ap (act code f) e

  leads_so : (g : Frame) → Leads answer g (act code f (Some i)) → led_to (look code f) answer ≡ Some g
  leads_so g h = ap (λ move. led_to move answer) looks ∙ h.led (subst (λ move. Resumes move answer) looks suits)

pub add_leads : (code : Code) (f g : Frame) (v : ℤ) (array : ℕ) → Resumes (look code f) (reply.Value v) → slice_get code.instrs f.running.pc ≡ Some (instr.AddShared array) →
    ((addend index : ℤ) (rest : List ℤ) → f.running.operands ≡ addend ∷ index ∷ rest → g ≡ added f addend rest v) → led_to (look code f) (reply.Value v) ≡ Some g
add_leads code f g v array suits e is = leads_so code f (reply.Value v) suits (instr.AddShared array) e g (add_at v code f g array is)
