-- The instances of a parted program return only where no child of their block is out, whatever suits them as answers.
use Rattle.std.proofs.Common.{◌≡◌, ℕ, zero, suc, ◌≤◌, ◌<◌, List, [], ◌∷◌, length, Option, Some, None, refl, sym, ap, ◌∙◌, subst, arith}
use Rattle.std.specs.Prelude.{ℤ, Bool, true, false, not, slice_get}
use Rattle.cilk_meaning.specs.declared.ends.TrapKind.{TrapKind}
use Rattle.cilk_meaning.specs.Instance.{Limits, Meaning, ends, ask, instance, wants_within}
use Rattle.cilk_meaning.specs.Parted.{CallsPlain, IsParted, IsPlain}
use Rattle.cilk_meaning.specs.Resolved.{Function, Program}
use Rattle.cilk_meaning.specs.Serve.{first_of, rest_of, now, after}
use Rattle.cilk_meaning.specs.Wants.{Request, Read, Write, Add, Print, Spawn, Sync, Call, LoopTurn, Want, Asks, Returns, Traps, Answer, suits}
use Rattle.cilk_meaning.proofs.Asks.{IsKept, IsNoSpawn, Follows, out_after}
use Rattle.cilk_meaning.proofs.Walk.{Leaves, instance_at, no_claim}
use Rattle.cilk_meaning.proofs.Wanting.{bound_is_hidden}

-- for one answer less, behind this want
abbrev pub CleanAt : (Bool → Meaning → Type 0) → Option Want → Bool → Meaning → Type 0
CleanAt Clean None out goes = Unit {0}
CleanAt Clean (Some (Asks request)) out goes = (answer : Answer) → suits request answer ≡ true → Clean (out_after request out) (after goes answer)
CleanAt Clean (Some (Returns value)) out goes = out ≡ false
CleanAt Clean (Some (Traps kind)) out goes = Unit {0}

-- for so many answers that suit, it returns only where no child is out; the flag says whether one may be out now
abbrev pub Clean : ℕ → Bool → Meaning → Type 0
Clean zero = λ out goes. Unit {0}
Clean (suc count) = λ out goes. CleanAt (Clean count) (now goes) out goes

less_at : (more fewer : Bool → Meaning → Type 0) → ((out : Bool) (goes : Meaning) → more out goes → fewer out goes)
    → (want : Option Want) (out : Bool) (goes : Meaning) →
    CleanAt more want out goes → CleanAt fewer want out goes
less_at more fewer on None out goes clean = clean
less_at more fewer on (Some (Asks request)) out goes clean = λ answer good. on (out_after request out) (after goes answer) (clean answer good)
less_at more fewer on (Some (Returns value)) out goes clean = clean
less_at more fewer on (Some (Traps kind)) out goes clean = clean

less : (count most : ℕ) (out : Bool) (goes : Meaning) → count ≤ most → Clean most out goes → Clean count out goes
less zero most out goes inside clean = tt
less (suc count) zero out goes inside clean = absurd (omega arith)
less (suc count) (suc most) out goes inside clean =
    less_at (Clean most) (Clean count) (λ flag next. less count most flag next (omega arith)) (now goes) out goes clean

-- where none is out it is as good
settled_at : (Clean' : Bool → Meaning → Type 0) → ((goes : Meaning) → Clean' true goes → Clean' false goes) → (want : Option Want) (goes : Meaning) →
    CleanAt Clean' want true goes → CleanAt Clean' want false goes
settled_at Clean' on None goes clean = tt
settled_at Clean' on (Some (Asks (Read word))) goes clean = λ answer good. on (after goes answer) (clean answer good)
settled_at Clean' on (Some (Asks (Write word value))) goes clean = λ answer good. on (after goes answer) (clean answer good)
settled_at Clean' on (Some (Asks (Add word addend))) goes clean = λ answer good. on (after goes answer) (clean answer good)
settled_at Clean' on (Some (Asks (Print value))) goes clean = λ answer good. on (after goes answer) (clean answer good)
settled_at Clean' on (Some (Asks (Spawn target procedure arguments))) goes clean = clean
settled_at Clean' on (Some (Asks Sync)) goes clean = clean
settled_at Clean' on (Some (Asks Call)) goes clean = λ answer good. on (after goes answer) (clean answer good)
settled_at Clean' on (Some (Asks LoopTurn)) goes clean = λ answer good. on (after goes answer) (clean answer good)
settled_at Clean' on (Some (Returns value)) goes clean = refl
settled_at Clean' on (Some (Traps kind)) goes clean = tt

settled : (count : ℕ) (goes : Meaning) → Clean count true goes → Clean count false goes
settled zero goes clean = tt
settled (suc count) goes clean = settled_at (Clean count) (settled count) (now goes) goes clean

traps_clean : (count : ℕ) (out : Bool) (kind : TrapKind) → Clean count out (ends (Traps kind))
traps_clean zero out kind = tt
traps_clean (suc count) out kind = tt

returns_clean : (count : ℕ) (value : ℤ) → Clean count false (ends (Returns value))
returns_clean zero value = tt
returns_clean (suc count) value = refl

-- ---- `cilk` procedures

abbrev BothClean : Bool → ℕ → Meaning → Meaning → Type 0
BothClean out count goes other = Clean count out goes

clean_kept : IsKept true BothClean
clean_kept = record {
  none = λ out goes other. tt;
  less = λ out count most goes other inside clean. less count most out goes inside clean;
  settled = λ count goes other clean. settled count goes clean;
  traps = λ out count kind. traps_clean count out kind;
  returns = λ count value. returns_clean count value;
  asks = λ out count request next next' may follows answer good. follows.fit answer good;
}

-- ---- plain functions spawn nothing

abbrev NeverOut : Bool → ℕ → Meaning → Meaning → Type 0
NeverOut out count goes other = Clean count false goes

none_out : (request : Request) → IsNoSpawn request → out_after request false ≡ false
none_out (Read word) quiet = refl
none_out (Write word value) quiet = refl
none_out (Add word addend) quiet = refl
none_out (Print value) quiet = refl
none_out (Spawn target procedure arguments) quiet = absurd quiet
none_out Sync quiet = refl
none_out Call quiet = refl
none_out LoopTurn quiet = refl

never_asks : (out : Bool) (count : ℕ) (request : Request) (next next' : Answer → Meaning) → (false ≡ false → IsNoSpawn request) →
    Follows NeverOut request out count next next' → NeverOut out (suc count) (ask request next) (ask request next')
never_asks out count request next next' may follows answer good =
    subst (λ i. Clean count i (next answer)) (sym (none_out request (may refl))) (follows.fit answer good)

never_kept : IsKept false NeverOut
never_kept = record {
  none = λ out goes other. tt;
  less = λ out count most goes other inside clean. less count most false goes inside clean;
  settled = λ count goes other clean. clean;
  traps = λ out count kind. traps_clean count false kind;
  returns = λ count value. returns_clean count value;
  asks = never_asks;
}

-- ---- instances

some_same : {function other : Function} → Some function ≡ Some other → function ≡ other
some_same is = cc

module _ (most : Limits) (program : Program) (parted : IsParted program) (depth procedure : ℕ) (arguments : List ℤ) where
  cilk_leaves : (count : ℕ) (function : Function) → slice_get program.functions procedure ≡ Some function → function.«cilk» ≡ true →
      Leaves true BothClean clean_kept most program depth (no_claim {A = IsParted program}) false (slice_get program.functions procedure) count
      (λ v. ends (Returns v)) (λ v. ends (Returns v))
  cilk_leaves count function is cilk =
      subst (λ f. Leaves true BothClean clean_kept most program depth (no_claim {A = IsParted program}) false f count (λ v. ends (Returns v))
      (λ v. ends (Returns v))) (sym is)
      (λ v. subst (λ c. BothClean (not c) count (ends (Returns v)) (ends (Returns v))) (sym cilk) (clean_kept.returns count v))

  cilk_clean : (bound : ℕ) (function : Function) → slice_get program.functions procedure ≡ Some function → function.«cilk» ≡ true →
      Clean bound false (instance most program depth bound procedure arguments)
  cilk_clean bound function is cilk =
      instance_at true BothClean clean_kept most program depth (no_claim {A = IsParted program}) bound bound bound (omega arith)
      (omega arith) procedure arguments
      (λ f is_f none. no_claim {A = IsPlain program f.body} none) (cilk_leaves bound function is cilk)

  plain_clean : (bound : ℕ) → CallsPlain program procedure → Clean bound false (instance most program depth bound procedure arguments)
  plain_clean bound plain =
      instance_at false NeverOut never_kept most program depth (λ none. parted) bound bound bound (omega arith) (omega arith) procedure arguments
      (λ function is none. parted procedure function is (plain function is)) (leaves (slice_get program.functions procedure))
    where
      leaves : (function : Option Function) → Leaves false NeverOut never_kept most program depth (λ none. parted) false function bound (λ v. ends (Returns v))
          (λ v. ends (Returns v))
      leaves None = λ v. returns_clean bound v
      leaves (Some function) = λ v. returns_clean bound v

  bounded_clean : (bound : ℕ) → Clean bound false (instance most program depth bound procedure arguments)
  bounded_clean bound = by (slice_get program.functions procedure) refl
    where
      by : (found : Option Function) → slice_get program.functions procedure ≡ found → Clean bound false (instance most program depth bound procedure arguments)
      by None is = plain_clean bound (λ function is_f. (let clash : None ≡ Some function = sym is ∙ is_f in absurd cc))
      by (Some function) is = kind function.«cilk» refl
        where
          kind : (b : Bool) → function.«cilk» ≡ b → Clean bound false (instance most program depth bound procedure arguments)
          kind true is_cilk = cilk_clean bound function is is_cilk
          kind false is_plain = plain_clean bound
              (λ other is_other. (let same : function ≡ other = some_same (sym is ∙ is_other) in sym (ap (λ (f : Function). f.«cilk») same) ∙ is_plain))

-- ---- the bound does not show

alike_at : (Clean' : Bool → Meaning → Type 0) (want : Option Want) (out : Bool) (goes other : Meaning) →
    ((answer : Answer) (flag : Bool) → Clean' flag (after goes answer) → Clean' flag (after other answer)) → CleanAt Clean' want out goes
    → CleanAt Clean' want out other
alike_at Clean' None out goes other on clean = clean
alike_at Clean' (Some (Asks request)) out goes other on clean = λ answer good. on answer (out_after request out) (clean answer good)
alike_at Clean' (Some (Returns value)) out goes other on clean = clean
alike_at Clean' (Some (Traps kind)) out goes other on clean = clean

clean_alike : (count : ℕ) (out : Bool) (goes other : Meaning) → ((answers : List Answer) → length answers < count → goes answers ≡ other answers) →
    Clean count out goes → Clean count out other
clean_alike zero out goes other alike clean = tt
clean_alike (suc count) out goes other alike clean =
    subst (λ i. CleanAt (Clean count) i out other) (ap first_of (alike [] (omega arith)))
    (alike_at (Clean count) (now goes) out goes other
    (λ answer flag. clean_alike count flag (after goes answer) (after other answer) (λ answers inside. ap rest_of (alike (answer ∷ answers) (omega arith))))
    clean)

-- each instance of a parted program, for any number of answers
pub starts_clean : (most : Limits) (program : Program) → IsParted program → (count depth procedure : ℕ) (arguments : List ℤ) →
    Clean count false (wants_within most program depth procedure arguments)
starts_clean most program parted count depth procedure arguments =
    clean_alike count false (instance most program depth count procedure arguments) (wants_within most program depth procedure arguments)
    (λ answers inside. bound_is_hidden most program depth count procedure arguments answers inside)
    (bounded_clean most program parted depth procedure arguments count)
