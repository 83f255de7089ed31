-- A child's value in the locals of the frame's own function, the first of the open ones.
use Rattle.std.proofs.Common.{◌≡◌, ℕ, suc, ◌<◌, List, [], ◌∷◌, ◌++◌, length, get_or, reverse, Some, None, refl, sym, ap, ◌∙◌, subst, arith}
use Rattle.std.proofs.lemmas.List.{reverse-append, length-set}
use Rattle.std.specs.Prelude.{ℤ, slice_set}
use Rattle.cilk_meaning.specs.Locals.{Locals, deposited}
use Rattle.cilk_meaning.specs.Wants.{Deposit}
use Rattle.machine_code.specs.Early.{own, own_callers, with_values}
use Rattle.machine_code.specs.Machine.{Code, Activation, Frame}
use Rattle.machine_code.specs.Valid.{Shape}
use Rattle.machine_code.specs.declared.code.Proc.{Proc}
use Rattle.plain_machine.specs.Standing.{StandsIn, IsAt, AreWaiting, IsCallable, own_locals, own_locals_of}

last_first : {A : Type 0} (first : A) (rest : List A) → reverse (first ∷ rest) ≡ reverse rest ++ first ∷ []
last_first {A} first rest = reverse-append (first ∷ []) rest

own_at_end : (running : Activation) (callers : List Activation) (first : Activation) → own_locals_of running (callers ++ first ∷ []) ≡ first.locals
own_at_end running [] first = refl
own_at_end running (caller ∷ callers) first = own_at_end caller callers first

-- the own function of a frame with callers is their first
pub own_of_first : (running first : Activation) (rest : List Activation) → own_locals_of running (reverse (first ∷ rest)) ≡ first.locals
own_of_first running first rest = ap (own_locals_of running) (last_first first rest) ∙ own_at_end running (reverse rest) first

called_keeps : (deposits : List Deposit) (callers : List Activation) (first : Activation) (locals : Locals) → own deposits (callers ++ first ∷ []) locals ≡ locals
called_keeps deposits [] first locals = refl
called_keeps deposits (caller ∷ callers) first locals = refl

end_gets : (deposits : List Deposit) (callers : List Activation) (first : Activation) →
    own_callers deposits (callers ++ first ∷ []) ≡ callers ++ record first { locals = deposited deposits first.locals } ∷ []
end_gets deposits [] first = refl
end_gets deposits (caller ∷ callers) first =
    ap (λ locals. record caller { locals = locals } ∷ own_callers deposits (callers ++ first ∷ [])) (called_keeps deposits callers first caller.locals)
    ∙ ap (λ (rest : List Activation). caller ∷ rest) (end_gets deposits callers first)

-- with the values in the first caller
pub first_gets : (deposits : List Deposit) (f : Frame) (first : Activation) (rest : List Activation) → f.callers ≡ reverse (first ∷ rest) →
    with_values deposits f ≡ record f { callers = reverse (record first { locals = deposited deposits first.locals } ∷ rest) }
first_gets deposits f first rest e =
    ap (λ callers. with_values deposits (record f { callers = callers })) (e ∙ last_first first rest)
    ∙ ap (λ locals. record f { running = record f.running { locals = locals }; callers = own_callers deposits (reverse rest ++ first ∷ []) }) (called_keeps deposits (reverse rest) first f.running.locals)
    ∙ ap (λ callers. record f { callers = callers }) (end_gets deposits (reverse rest) first ∙ sym (last_first _ rest))

-- the first caller, where they are kept the other way round
pub own_inside : (f : Frame) (items : List Activation) (first : Activation) (target : ℕ) → f.callers ≡ reverse items → 0 < length items → first ≡ get_or items 0 first →
    target < length (own_locals f) → target < length first.locals
own_inside f [] first target e some is less = absurd (omega (arith, some))
own_inside f (x ∷ rest) first target e some is less =
    let same : own_locals f ≡ first.locals = ap (own_locals_of f.running) e ∙ own_of_first f.running x rest ∙ ap (λ (a : Activation). a.locals) (sym is) in
    subst (λ (locals : List ℤ). target < length locals) same less

pub first_set : (f : Frame) (items : List Activation) (first new : Activation) (target : ℕ) (value : ℤ) → f.callers ≡ reverse items → 0 < length items → first ≡ get_or items 0 first →
    new ≡ record first { locals = slice_set first.locals target value } →
    record f { callers = reverse (slice_set items 0 new) } ≡ with_values ((Some target, value) ∷ []) f
first_set f [] first new target value e some is set = absurd (omega (arith, some))
first_set f (x ∷ rest) first new target value e some is set =
    ap (λ (a : Activation). record f { callers = reverse (a ∷ rest) }) (set ∙ ap (λ (a : Activation). record a { locals = slice_set a.locals target value }) is)
    ∙ sym (first_gets ((Some target, value) ∷ []) f x rest e)

-- A frame stands where values come in, whatever they are.
pub deposited_length : (deposits : List Deposit) (locals : Locals) → length (deposited deposits locals) ≡ length locals
deposited_length [] locals = refl
deposited_length ((None, v) ∷ deposits) locals = deposited_length deposits locals
deposited_length ((Some k, v) ∷ deposits) locals = deposited_length deposits (slice_set locals k v) ∙ length-set locals k v

pub own_length : (deposits : List Deposit) (callers : List Activation) (locals : Locals) → length (own deposits callers locals) ≡ length locals
own_length deposits [] locals = deposited_length deposits locals
own_length deposits (caller ∷ callers) locals = refl

callable_so : (deposits : List Deposit) (proc : Proc) (callers : List Activation) → IsCallable proc callers → IsCallable proc (own_callers deposits callers)
callable_so deposits proc [] h = h
callable_so deposits proc (caller ∷ callers) h = h

at_so : (code : Code) (shapes : ℕ → Shape) (operands : ℕ) (deposits : List Deposit) (activation : Activation) (callers : List Activation) → IsAt code shapes operands activation callers →
    IsAt code shapes operands (record activation { locals = own deposits callers activation.locals }) (own_callers deposits callers)
at_so code shapes operands deposits activation callers h =
    record {
      procedure = h.procedure;
      proc = h.proc;
      is = h.is;
      leads = h.leads;
      locals = own_length deposits callers activation.locals ∙ h.locals;
      room = h.room;
      callable = callable_so deposits h.proc callers h.callable;
    }

waiting_so : (code : Code) (shapes : ℕ → Shape) (deposits : List Deposit) (callers : List Activation) → AreWaiting code shapes callers → AreWaiting code shapes (own_callers deposits callers)
waiting_so code shapes deposits [] h = tt
waiting_so code shapes deposits (caller ∷ callers) h = (at_so code shapes (suc (length caller.operands)) deposits caller callers h.0, waiting_so code shapes deposits callers h.1)

pub values_stand : (code : Code) (deposits : List Deposit) (f : Frame) → StandsIn code f → StandsIn code (with_values deposits f)
values_stand code deposits f s =
    record {
      valid = s.valid;
      running = at_so code s.valid.shapes (length f.running.operands) deposits f.running f.callers s.running;
      waiting = waiting_so code s.valid.shapes deposits f.callers s.waiting;
      depth = s.depth;
    }
