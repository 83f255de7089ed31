-- Values that go to targets of which none stands twice leave the same locals in every order.
use Rattle.std.proofs.Common.{◌≡◌, ◌⊎◌, ℕ, zero, suc, ◌<◌, List, [], ◌∷◌, length, get_or, Some, None, refl, sym, ap, ◌∙◌, subst, inl, inr, arith}
use Rattle.std.proofs.lemmas.Bool.{eqb-true, eqb-false, eq-eqb}
use Rattle.std.proofs.lemmas.List.{ext_get_or, get_or-set_other, get_or-set_same, length-set}
use Rattle.std.proofs.lemmas.List.Sorted.{Contains-permutation, IsPermutation-sym}
use Rattle.std.specs.List.{Contains}
use Rattle.std.specs.List.Sorted.{IsPermutation}
use Rattle.std.specs.Prelude.{ℤ, pos, ◌==◌, Bool, true, false, ◌||◌, slice_set}
use Rattle.cilk_meaning.specs.Locals.{Locals, assigned, deposited}
use Rattle.cilk_meaning.specs.Wants.{Deposit}
use Rattle.machine_code.specs.Early.{awaits}
use Rattle.sync_order.specs.Orders.{AreApart, targets_of}

-- a value is among these
abbrev Has : Deposit → List Deposit → Type 0
Has deposit [] = ⊥
Has deposit (first ∷ rest) = (first ≡ deposit) ⊎ Has deposit rest

-- and so in std's words
has_at : (deposits : List Deposit) (deposit : Deposit) (at : ℕ) → at < length deposits → get_or deposits at deposit ≡ deposit → Has deposit deposits
has_at [] deposit at less is = absurd (omega (arith, less))
has_at (first ∷ rest) deposit zero less is = inl is
has_at (first ∷ rest) deposit (suc at) less is = inr (has_at rest deposit at (omega (arith, less)) is)

contains_has : (deposits : List Deposit) (deposit : Deposit) → Contains deposits deposit → Has deposit deposits
contains_has deposits deposit contained = has_at deposits deposit contained.0 contained.1 contained.2

one_behind : (first : Deposit) (rest : List Deposit) (deposit : Deposit) → Contains rest deposit → Contains (first ∷ rest) deposit
one_behind first rest deposit contained = let less = contained.1 in (suc contained.0, omega (arith, less), contained.2)

has_contains : (deposits : List Deposit) (deposit : Deposit) → Has deposit deposits → Contains deposits deposit
has_contains [] deposit has = absurd has
has_contains (first ∷ rest) deposit (inl is) = (0, omega arith, is)
has_contains (first ∷ rest) deposit (inr has) = one_behind first rest deposit (has_contains rest deposit has)

or_right : (a b : Bool) → b ≡ true → a || b ≡ true
or_right true b is = refl
or_right false b is = is

or_left : (a b : Bool) → a ≡ true → a || b ≡ true
or_left true b is = refl
or_left false b is = absurd cc

-- a value's target is waited for
has_awaits : (deposits : List Deposit) (target : ℕ) (value : ℤ) → Has (Some target, value) deposits → awaits target (targets_of deposits) ≡ true
has_awaits [] target value has = absurd has
has_awaits ((None, other) ∷ rest) target value (inl is) = absurd (let none : None ≡ Some target = ap (λ (it : Deposit). it.0) is in cc)
has_awaits ((None, other) ∷ rest) target value (inr has) = has_awaits rest target value has
has_awaits ((Some first, other) ∷ rest) target value (inl is) =
    let some : Some first ≡ Some target = ap (λ (it : Deposit). it.0) is in
    let same : target ≡ first = cc in
    or_left (target == first) (awaits target (targets_of rest)) (eq-eqb target first same)
has_awaits ((Some first, other) ∷ rest) target value (inr has) = or_right (target == first) (awaits target (targets_of rest)) (has_awaits rest target value has)

-- so a target gets one value at most
one_value : (deposits : List Deposit) (target : ℕ) (value other : ℤ) → AreApart (targets_of deposits) → Has (Some target, value) deposits
    → Has (Some target, other) deposits → value ≡ other
one_value [] target value other apart has has' = absurd has
one_value ((None, v) ∷ rest) target value other apart (inl is) has' = absurd (let none : None ≡ Some target = ap (λ (it : Deposit). it.0) is in cc)
one_value ((None, v) ∷ rest) target value other apart (inr has) (inl is) = absurd (let none : None ≡ Some target = ap (λ (it : Deposit). it.0) is in cc)
one_value ((None, v) ∷ rest) target value other apart (inr has) (inr has') = one_value rest target value other apart has has'
one_value ((Some first, v) ∷ rest) target value other apart (inl is) (inl is') = sym (ap (λ (it : Deposit). it.1) is) ∙ ap (λ (it : Deposit). it.1) is'
one_value ((Some first, v) ∷ rest) target value other apart (inl is) (inr has') =
    let some : Some first ≡ Some target = ap (λ (it : Deposit). it.0) is in
    let same : first ≡ target = cc in
    let out : awaits target (targets_of rest) ≡ false = subst (λ it. awaits it (targets_of rest) ≡ false) same apart.0 in
    absurd (let some' = has_awaits rest target other has' in cc)
one_value ((Some first, v) ∷ rest) target value other apart (inr has) (inl is) =
    let some : Some first ≡ Some target = ap (λ (it : Deposit). it.0) is in
    let same : first ≡ target = cc in
    let out : awaits target (targets_of rest) ≡ false = subst (λ it. awaits it (targets_of rest) ≡ false) same apart.0 in
    absurd (let some' = has_awaits rest target value has in cc)
one_value ((Some first, v) ∷ rest) target value other apart (inr has) (inr has') = one_value rest target value other apart.1 has has'

-- A local that is a target has one of the values that go to it; one that is none is as it was.
record GotValue (deposits : List Deposit) (locals : Locals) (local : ℕ) (start : ℤ) : Type 0 where
  value : ℤ
  has : Has (Some local, value) deposits
  is : get_or (deposited deposits locals) local start ≡ value

record StayedSame (deposits : List Deposit) (locals : Locals) (local : ℕ) (start : ℤ) : Type 0 where
  none : (value : ℤ) → Has (Some local, value) deposits → ⊥
  is : get_or (deposited deposits locals) local start ≡ get_or locals local start

none_behind : (first : Deposit) (rest : List Deposit) (local : ℕ) → (first.0 ≡ Some local → ⊥) → ((value : ℤ) → Has (Some local, value) rest → ⊥) →
    (value : ℤ) → Has (Some local, value) (first ∷ rest) → ⊥
none_behind first rest local differs none value (inl is) = differs (ap (λ (it : Deposit). it.0) is)
none_behind first rest local differs none value (inr has) = none value has

set_local : (first : ℕ) (v : ℤ) (rest : List Deposit) (locals : Locals) (local : ℕ) (start : ℤ) → local < length locals
    → StayedSame rest (slice_set locals first v) local start →
    (same : Bool) → (first == local) ≡ same → GotValue ((Some first, v) ∷ rest) locals local start ⊎ StayedSame ((Some first, v) ∷ rest) locals local start
set_local first v rest locals local start less stayed true e =
    let equal : first ≡ local = eqb-true first local e in
    inl (record {
      value = v;
      has = inl (ap (λ it. (Some it, v)) equal);
      is = stayed.is ∙ ap (λ it. get_or (slice_set locals it v) local start) equal ∙ get_or-set_same locals local v start less;
    })
set_local first v rest locals local start less stayed false e =
    inr (record {
      none = none_behind (Some first, v) rest local (λ is. let same : first ≡ local = cc in eqb-false first local e same) stayed.none;
      is = stayed.is ∙ get_or-set_other locals first local v start (λ is. eqb-false first local e (sym is));
    })

got_behind : (first : Deposit) (rest : List Deposit) (locals : Locals) (local : ℕ) (start : ℤ) →
    GotValue rest (assigned first.0 first.1 locals) local start → GotValue (first ∷ rest) locals local start
got_behind first rest locals local start got = record { value = got.value; has = inr got.has; is = got.is }

on_local : (deposits : List Deposit) (locals : Locals) (local : ℕ) (start : ℤ) → local < length locals
    → GotValue deposits locals local start ⊎ StayedSame deposits locals local start
on_local [] locals local start less = inr (record { none = λ value has. has; is = refl })
on_local ((None, v) ∷ rest) locals local start less = either (on_local rest locals local start less)
  where
    either : GotValue rest locals local start ⊎ StayedSame rest locals local start
        → GotValue ((None, v) ∷ rest) locals local start ⊎ StayedSame ((None, v) ∷ rest) locals local start
    either (inl got) = inl (got_behind (None, v) rest locals local start got)
    either (inr stayed) = inr (record { none = none_behind (None, v) rest local (λ is. cc) stayed.none; is = stayed.is })
on_local ((Some first, v) ∷ rest) locals local start less =
    either (on_local rest (slice_set locals first v) local start (let long = length-set locals first v in omega (arith, long, less)))
  where
    either : GotValue rest (slice_set locals first v) local start ⊎ StayedSame rest (slice_set locals first v) local start →
        GotValue ((Some first, v) ∷ rest) locals local start ⊎ StayedSame ((Some first, v) ∷ rest) locals local start
    either (inl got) = inl (got_behind (Some first, v) rest locals local start got)
    either (inr stayed) = set_local first v rest locals local start less stayed (first == local) refl

keeps_length : (deposits : List Deposit) (locals : Locals) → length (deposited deposits locals) ≡ length locals
keeps_length [] locals = refl
keeps_length ((None, v) ∷ rest) locals = keeps_length rest locals
keeps_length ((Some target, v) ∷ rest) locals = keeps_length rest (slice_set locals target v) ∙ length-set locals target v

module _ (given other : List Deposit) (apart : AreApart (targets_of given)) (there : (deposit : Deposit) → Has deposit given → Has deposit other)
    (back : (deposit : Deposit) → Has deposit other → Has deposit given)
    (locals : Locals) where
  same_local : (local : ℕ) (start : ℤ) → GotValue given locals local start ⊎ StayedSame given locals local start
      → GotValue other locals local start ⊎ StayedSame other locals local start →
      get_or (deposited given locals) local start ≡ get_or (deposited other locals) local start
  same_local local start (inl got) (inl got') =
      got.is ∙ one_value given local got.value got'.value apart got.has (back (Some local, got'.value) got'.has) ∙ sym got'.is
  same_local local start (inl got) (inr stayed') = absurd (stayed'.none got.value (there (Some local, got.value) got.has))
  same_local local start (inr stayed) (inl got') = absurd (stayed.none got'.value (back (Some local, got'.value) got'.has))
  same_local local start (inr stayed) (inr stayed') = stayed.is ∙ sym stayed'.is

  same_locals : deposited given locals ≡ deposited other locals
  same_locals =
      let long = keeps_length given locals in
      let long' = keeps_length other locals in
      ext_get_or (pos 0) (deposited given locals) (deposited other locals) (long ∙ sym long')
      (λ local less. let inside : local < length locals = omega (arith, long, less) in
      same_local local (pos 0) (on_local given locals local (pos 0) inside) (on_local other locals local (pos 0) inside))

pub any_order : (given other : List Deposit) → AreApart (targets_of given) → IsPermutation given other → (locals : Locals)
    → deposited given locals ≡ deposited other locals
any_order given other apart same locals =
    same_locals given other apart
    (λ deposit has. contains_has other deposit (Contains-permutation given other deposit same (has_contains given deposit has)))
    (λ deposit has. contains_has given deposit (Contains-permutation other given deposit (IsPermutation-sym given other same) (has_contains other deposit has)))
    locals
