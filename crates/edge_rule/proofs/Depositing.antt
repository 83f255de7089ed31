-- Values that come into a frame one after another.
use Rattle.std.proofs.Common.{◌≡◌, add-one, ℕ, ◌+◌, ◌<◌, ◌≤◌, List, [], ◌∷◌, ◌++◌, length, drop, get_or, Some, None, Option, refl, sym, ap, ◌∙◌, subst}
use Rattle.std.proofs.Math.Seq.{drop-cons}
use Rattle.std.proofs.lemmas.List.{drop_all, length-set}
use Rattle.std.specs.Prelude.{ℤ, slice_set}
use Rattle.std.specs.BTreeMap.{is_at}
use Rattle.std.specs.Map.{lookup}
use Rattle.std.specs.Ordering.{nat_cmp}
use Rattle.cilk_meaning.specs.Locals.{Locals, deposited}
use Rattle.cilk_meaning.specs.Wants.{Deposit}
use Rattle.machine_code.specs.Early.{own, own_callers, with_values}
use Rattle.machine_code.specs.Machine.{Activation, Code, Frame}
use Rattle.page_messages.specs.declared.closure.Child.{Child}
use Rattle.plain_machine.specs.Shown.{Shown}
use Rattle.plain_machine.specs.Standing.{StandsIn, own_locals, own_locals_of}
use Rattle.edge_rule.specs.Joins.{AreAmong, IsAmong, Values, deposits_of, targeted, value_of}
use Rattle.edge_rule.proofs.Changing.{read_at}

-- ---- values that change nothing

module _ (deposits : List Deposit) (same : (locals : Locals) → deposited deposits locals ≡ locals) where
  own_same : (callers : List Activation) (locals : Locals) → own deposits callers locals ≡ locals
  own_same [] locals = same locals
  own_same (caller ∷ callers) locals = refl

  callers_same : (callers : List Activation) → own_callers deposits callers ≡ callers
  callers_same [] = refl
  callers_same (caller ∷ callers) = λ i. record caller { locals = own_same callers caller.locals i } ∷ callers_same callers i

  frame_same : (f : Frame) → with_values deposits f ≡ f
  frame_same f = λ i. record f { running = record f.running { locals = own_same f.callers f.running.locals i }; callers = callers_same f.callers i }

-- no value changes nothing
pub with_none : (f : Frame) → with_values [] f ≡ f
with_none = frame_same [] (λ locals. refl)

-- nor does one without a target
pub with_untargeted : (value : ℤ) (f : Frame) → with_values ((None, value) ∷ []) f ≡ f
with_untargeted value = frame_same ((None, value) ∷ []) (λ locals. refl)

-- ---- values after others

deposited_both : (first second : List Deposit) (locals : Locals) → deposited second (deposited first locals) ≡ deposited (first ++ second) locals
deposited_both [] second locals = refl
deposited_both ((None, value) ∷ first) second locals = deposited_both first second locals
deposited_both ((Some target, value) ∷ first) second locals = deposited_both first second (slice_set locals target value)

module _ (first second : List Deposit) where
  own_both : (callers : List Activation) (locals : Locals) → own second (own_callers first callers) (own first callers locals) ≡ own (first ++ second) callers locals
  own_both [] locals = deposited_both first second locals
  own_both (caller ∷ callers) locals = refl

  callers_both : (callers : List Activation) → own_callers second (own_callers first callers) ≡ own_callers (first ++ second) callers
  callers_both [] = refl
  callers_both (caller ∷ callers) = λ i. record caller { locals = own_both callers caller.locals i } ∷ callers_both callers i

  -- values that come after others come with them
  pub with_both : (f : Frame) → with_values second (with_values first f) ≡ with_values (first ++ second) f
  with_both f = λ i. record f { running = record f.running { locals = own_both f.callers f.running.locals i }; callers = callers_both f.callers i }

-- ---- the locals keep their number

deposited_length : (deposits : List Deposit) (locals : Locals) → length (deposited deposits locals) ≡ length locals
deposited_length [] locals = refl
deposited_length ((None, value) ∷ deposits) locals = deposited_length deposits locals
deposited_length ((Some target, value) ∷ deposits) locals = deposited_length deposits (slice_set locals target value) ∙ length-set locals target value

own_locals_length : (deposits : List Deposit) (running : Activation) (callers : List Activation) →
    length (own_locals_of (record running { locals = own deposits callers running.locals }) (own_callers deposits callers)) ≡ length (own_locals_of running callers)
own_locals_length deposits running [] = deposited_length deposits running.locals
own_locals_length deposits running (caller ∷ callers) = own_locals_length deposits caller callers

pub same_number : (deposits : List Deposit) (f : Frame) → length (own_locals (with_values deposits f)) ≡ length (own_locals f)
same_number deposits f = own_locals_length deposits f.running f.callers

is_among : (old new : List ℤ) → length new ≡ length old → (target : Option ℕ) → IsAmong old target → IsAmong new target
is_among old new same None among = tt
is_among old new same (Some local) among = subst (λ n. local < n) (sym same) among

-- targets among the locals stay among them
pub are_among : (old new : List ℤ) → length new ≡ length old → (children : List Child) → AreAmong old children → AreAmong new children
are_among old new same [] among = tt
are_among old new same (child ∷ children) (here, rest) = (is_among old new same child.target here, are_among old new same children rest)

-- ---- the children of a join

-- What is left, from the frame as it is, gives the frame that all children give from the start.
pub record Deposits (came : Values) (start : Shown) (children : List Child) (now : Shown) (left : List Child) : Type 0 where
  pub goes : with_values (deposits_of came left) now.frame ≡ with_values (deposits_of came children) start.frame
  pub arguments : now.arguments ≡ start.arguments
  pub targets : AreAmong (own_locals now.frame) left
  pub stands : (code : Code) → StandsIn code start.frame → StandsIn code now.frame

pub all_left : (came : Values) (start : Shown) (children : List Child) → AreAmong (own_locals start.frame) children → Deposits came start children start children
all_left came start children targets = record { goes = refl; arguments = refl; targets = targets; stands = λ code stands. stands }

pub one_less : (came : Values) (start : Shown) (children : List Child) (now new : Shown) (child : Child) (left : List Child) → Deposits came start children now (child ∷ left) →
    new ≡ record now { frame = with_values (targeted child.target (value_of came child.index)) now.frame } → ((code : Code) → StandsIn code now.frame → StandsIn code new.frame) →
    Deposits came start children new left
one_less came start children now new child left before set stands = record {
  goes = ap (λ (shown : Shown). with_values (deposits_of came left) shown.frame) set ∙ with_both (targeted child.target (value_of came child.index)) (deposits_of came left) now.frame ∙ before.goes;
  arguments = ap (λ (shown : Shown). shown.arguments) set ∙ before.arguments;
  targets = are_among (own_locals now.frame) (own_locals new.frame)
      (ap (λ (shown : Shown). length (own_locals shown.frame)) set ∙ same_number (targeted child.target (value_of came child.index)) now.frame) left before.targets.1;
  stands = λ code s. stands code (before.stands code s);
}

pub none_left : (came : Values) (start : Shown) (children : List Child) (now : Shown) → Deposits came start children now [] →
    now ≡ record start { frame = with_values (deposits_of came children) start.frame }
none_left came start children now done = λ i. record { frame = (sym (with_none now.frame) ∙ done.goes) i; arguments = done.arguments i }

module _ (came : Values) (start : Shown) (children : List Child) (now : Shown) where
  -- one child after another
  pub next_given : (new : Shown) (place : ℕ) (default : Child) (value : Option ℤ) → place < length children → Deposits came start children now (drop place children) →
      value ≡ lookup (is_at (nat_cmp (get_or children place default).index)) came → new ≡ record now { frame = with_values (targeted (get_or children place default).target value) now.frame } →
      ((code : Code) → StandsIn code now.frame → StandsIn code new.frame) → Deposits came start children new (drop (place + 1) children)
  next_given new place default value within before is set stands =
      let child = get_or children place default in
      one_less came start children now new child (drop (place + 1) children)
      (subst (Deposits came start children now) (drop-cons children place default within ∙ ap (λ n. child ∷ drop n children) (sym (add-one place))) before)
      (set ∙ ap (λ given. record now { frame = with_values (targeted child.target given) now.frame }) (is ∙ read_at child.index came)) stands

  -- until none is left
  pub all_given : (place : ℕ) → length children ≤ place → Deposits came start children now (drop place children) → now ≡ record start { frame = with_values (deposits_of came children) start.frame }
  all_given place whole done = none_left came start children now (subst (Deposits came start children now) (drop_all place children whole) done)
