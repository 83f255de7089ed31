-- A test that a code is well formed, for codes that are written out: where it gives true, the code is.
use Rattle.std.proofs.Common.{◌≡◌, ◌⊎◌, ℕ, zero, suc, ◌+◌, ◌-◌, ◌<◌, ◌≤◌, ◌^◌, List, [], ◌∷◌, length, Option, Some, None, refl, subst, inl, inr, arith}
use Rattle.std.proofs.lemmas.Bool.Decides.{nat_tests}
use Rattle.std.specs.Prelude.{Bool, true, false, not, ◌&&◌, ◌||◌, if◌then◌else◌, ◌==◌, nat_lt, nat_le, slice_get}
use Rattle.cilk_meaning.specs.Resolved as resolved
use Rattle.machine_code.specs.Machine.{Code}
use Rattle.machine_code.specs.Valid.{IsValid, IsSound, IsFine, IsForward, IsInRange, IsLocal, Leads, Shape, AreInOrder, goes_behind, jumps_to, puts, takes, words_in}
use Rattle.machine_code.specs.declared.code.Proc.{Proc}
use Rattle.machine_code.specs.declared.instr.Instr.{Instr}
use Rattle.machine_code.specs.declared.instr.Instr.TheVariants as instr

both : (a b : Bool) → (a && b) ≡ true → (a ≡ true) × (b ≡ true)
both true b e = (refl, e)
both false b e = absurd cc

equal : (a b : ℕ) → (a == b) ≡ true → a ≡ b
equal a b e = grind (arith, nat_tests)

less : (a b : ℕ) → nat_lt a b ≡ true → a < b
less a b e = grind (arith, nat_tests)

at_most : (a b : ℕ) → nat_le a b ≡ true → a ≤ b
at_most a b e = grind (arith, nat_tests)

-- a test of each item of a list, by its place
abbrev all_from : {A : Type 0} → (ℕ → A → Bool) → ℕ → List A → Bool
all_from test at [] = true
all_from test at (x ∷ items) = test at x && all_from test (suc at) items

all_at : {A : Type 0} (test : ℕ → A → Bool) (from : ℕ) (items : List A) → all_from test from items ≡ true → (at : ℕ) (x : A) → slice_get items at ≡ Some x → test (from + at) x ≡ true
all_at {A} test from [] e at x is = absurd cc
all_at {A} test from (y ∷ items) e zero x is =
    let same : y ≡ x = cc in
    let here : from ≡ from + 0 = omega arith in
    subst (λ n. test n x ≡ true) here (subst (λ (z : A). test from z ≡ true) same (both _ _ e).0)
all_at {A} test from (y ∷ items) e (suc at) x is =
    let there : suc from + at ≡ from + suc at = omega arith in
    subst (λ n. test n x ≡ true) there (all_at test (suc from) items (both _ _ e).1 at x is)

each : {A : Type 0} (test : ℕ → A → Bool) (items : List A) → all_from test 0 items ≡ true → (at : ℕ) (x : A) → slice_get items at ≡ Some x → test at x ≡ true
each {A} test items e at x is =
    let here : 0 + at ≡ at = omega arith in
    subst (λ n. test n x ≡ true) here (all_at test 0 items e at x is)

abbrev pub shape_at : List Shape → ℕ → Shape
shape_at [] at = record { procedure = 0; operands = 0 }
shape_at (shape ∷ shapes) zero = shape
shape_at (shape ∷ shapes) (suc at) = shape_at shapes at

abbrev is_kind : Option Proc → Bool → Bool
is_kind None kind = false
is_kind (Some proc) true = proc.«cilk»
is_kind (Some proc) false = not proc.«cilk»

abbrev is_local : Proc → Option ℕ → Bool
is_local proc None = true
is_local proc (Some local) = nat_lt local proc.locals

abbrev is_in_range : List Proc → ℕ → Proc → Instr → Bool
is_in_range procs arrays proc (instr.Load k) = nat_lt k proc.locals
is_in_range procs arrays proc (instr.Store k) = nat_lt k proc.locals
is_in_range procs arrays proc (instr.ReadShared array) = nat_lt array arrays
is_in_range procs arrays proc (instr.WriteShared array) = nat_lt array arrays
is_in_range procs arrays proc (instr.AddShared array) = nat_lt array arrays
is_in_range procs arrays proc (instr.Call procedure) = is_kind (slice_get procs procedure) false
is_in_range procs arrays proc (instr.Spawn procedure target) = proc.«cilk» && (is_kind (slice_get procs procedure) true && is_local proc target)
is_in_range procs arrays proc instr.SyncAll = proc.«cilk»
is_in_range procs arrays proc _ = true

kind_so : (o : Option Proc) (kind : Bool) → is_kind o kind ≡ true → (proc : Proc) × (o ≡ Some proc) × (proc.«cilk» ≡ kind)
kind_so None kind e = absurd cc
kind_so (Some proc) true e = (proc, refl, e)
kind_so (Some proc) false e = (proc, refl, not_so proc.«cilk» e)
  where
    not_so : (b : Bool) → not b ≡ true → b ≡ false
    not_so true e = absurd cc
    not_so false e = refl

local_so : (proc : Proc) (target : Option ℕ) → is_local proc target ≡ true → IsLocal proc target
local_so proc None e = tt
local_so proc (Some local) e = less local proc.locals e

range_so : (procs : List Proc) (arrays : ℕ) (proc : Proc) (i : Instr) → is_in_range procs arrays proc i ≡ true → IsInRange procs arrays proc i
range_so procs arrays proc (instr.Load k) e = less k proc.locals e
range_so procs arrays proc (instr.Store k) e = less k proc.locals e
range_so procs arrays proc (instr.ReadShared array) e = less array arrays e
range_so procs arrays proc (instr.WriteShared array) e = less array arrays e
range_so procs arrays proc (instr.AddShared array) e = less array arrays e
range_so procs arrays proc (instr.Call procedure) e = kind_so (slice_get procs procedure) false e
range_so procs arrays proc (instr.Spawn procedure target) e =
    let first = both _ _ e in
    let rest = both _ _ first.1 in
    (first.0, kind_so (slice_get procs procedure) true rest.0, local_so proc target rest.1)
range_so procs arrays proc instr.SyncAll e = e
range_so procs arrays proc (instr.Const v) e = tt
range_so procs arrays proc instr.Pop e = tt
range_so procs arrays proc instr.Add e = tt
range_so procs arrays proc instr.Sub e = tt
range_so procs arrays proc instr.Mul e = tt
range_so procs arrays proc instr.Div e = tt
range_so procs arrays proc instr.Rem e = tt
range_so procs arrays proc instr.Neg e = tt
range_so procs arrays proc instr.Not e = tt
range_so procs arrays proc instr.Eq e = tt
range_so procs arrays proc instr.Ne e = tt
range_so procs arrays proc instr.Lt e = tt
range_so procs arrays proc instr.Le e = tt
range_so procs arrays proc instr.Gt e = tt
range_so procs arrays proc instr.Ge e = tt
range_so procs arrays proc (instr.Jump to) e = tt
range_so procs arrays proc (instr.JumpIfZero to) e = tt
range_so procs arrays proc instr.PrintTop e = tt
range_so procs arrays proc instr.Turn e = tt
range_so procs arrays proc instr.Return e = tt

abbrev is_turn : Option Instr → Bool
is_turn (Some instr.Turn) = true
is_turn _ = false

turn_so : (o : Option Instr) → is_turn o ≡ true → o ≡ Some instr.Turn
turn_so None e = absurd cc
turn_so (Some i) e = one i e
  where
    one : (i : Instr) → is_turn (Some i) ≡ true → Some i ≡ Some instr.Turn
    one instr.Turn e = refl
    one _ e = absurd cc

either : (a b : Bool) → (a || b) ≡ true → (a ≡ true) ⊎ (b ≡ true)
either true b e = inl refl
either false b e = inr e

abbrev is_main : Option Proc → Bool
is_main None = false
is_main (Some proc) = proc.params == 0

main_so : (o : Option Proc) → is_main o ≡ true → (proc : Proc) × (o ≡ Some proc) × (proc.params ≡ 0)
main_so None e = absurd cc
main_so (Some proc) e = (proc, refl, equal proc.params 0 e)

abbrev in_order : ℕ → List resolved.Extent → Bool
in_order base [] = true
in_order base (first ∷ rest) = first.base == base && in_order (base + first.words) rest

order_so : (base : ℕ) (shared : List resolved.Extent) → in_order base shared ≡ true → AreInOrder base shared
order_so base [] e = tt
order_so base (first ∷ rest) e = let parts = both _ _ e in (equal first.base base parts.0, order_so (base + first.words) rest parts.1)

-- This list of shapes fits the places of the code.
module _ (code : Code) (shapes : List Shape) where
  abbrev leads : ℕ → Proc → ℕ → ℕ → Bool
  leads procedure proc operands to =
      nat_lt to (length code.instrs) && ((shape_at shapes to).procedure == procedure && ((shape_at shapes to).operands == operands && nat_le operands proc.operands))

  leads_so : (procedure : ℕ) (proc : Proc) (operands to : ℕ) → leads procedure proc operands to ≡ true → Leads code.instrs (shape_at shapes) procedure proc operands to
  leads_so procedure proc operands to e =
      let a = both _ _ e in
      let b = both _ _ a.1 in
      let c = both _ _ b.1 in
      let p = equal _ _ b.0 in
      let n = equal _ _ c.0 in
      record {
        inside = less _ _ a.0;
        expected = λ i. record { procedure = p i; operands = n i };
        room = at_most _ _ c.1;
      }

  abbrev jumps_well : ℕ → Proc → ℕ → ℕ → Option ℕ → Bool
  jumps_well procedure proc operands at None = true
  jumps_well procedure proc operands at (Some to) = leads procedure proc operands to && (nat_lt at to || is_turn (slice_get code.instrs to))

  abbrev falls_well : ℕ → Proc → ℕ → ℕ → Bool → Bool
  falls_well procedure proc operands at false = true
  falls_well procedure proc operands at true = leads procedure proc operands (suc at)

  abbrev below : ℕ → Instr → ℕ
  below at i = (shape_at shapes at).operands - takes code.procs i

  abbrev is_fine_in : ℕ → Option Proc → Instr → Bool
  is_fine_in at None i = false
  is_fine_in at (Some proc) i =
      is_in_range code.procs (length code.shared) proc i && (nat_le (takes code.procs i) (shape_at shapes at).operands
      && (falls_well (shape_at shapes at).procedure proc (puts i + below at i) at (goes_behind i) && jumps_well (shape_at shapes at).procedure proc (puts i + below at i) at (jumps_to i)))

  abbrev is_fine : ℕ → Instr → Bool
  is_fine at i = is_fine_in at (slice_get code.procs (shape_at shapes at).procedure) i

  abbrev is_sound : ℕ → Proc → Bool
  is_sound procedure proc = leads procedure proc 0 proc.start && nat_le proc.params proc.locals

  falls_so : (procedure : ℕ) (proc : Proc) (operands at : ℕ) (b : Bool) → falls_well procedure proc operands at b ≡ true → b ≡ true → Leads code.instrs (shape_at shapes) procedure proc operands (suc at)
  falls_so procedure proc operands at false e goes = absurd cc
  falls_so procedure proc operands at true e goes = leads_so procedure proc operands (suc at) e

  jumps_so : (procedure : ℕ) (proc : Proc) (operands at : ℕ) (o : Option ℕ) → jumps_well procedure proc operands at o ≡ true → (to : ℕ) → o ≡ Some to →
      Leads code.instrs (shape_at shapes) procedure proc operands to × IsForward code.instrs at to
  jumps_so procedure proc operands at None e to is = absurd cc
  jumps_so procedure proc operands at (Some goal) e to is =
      let same : goal ≡ to = cc in
      let parts = both _ _ e in
      subst (λ n. Leads code.instrs (shape_at shapes) procedure proc operands n × IsForward code.instrs at n) same
      (leads_so procedure proc operands goal parts.0, forward (either _ _ parts.1))
    where
      forward : ((nat_lt at goal ≡ true) ⊎ (is_turn (slice_get code.instrs goal) ≡ true)) → IsForward code.instrs at goal
      forward (inl e) = inl (less at goal e)
      forward (inr e) = inr (turn_so (slice_get code.instrs goal) e)

  abbrev pub is_valid : Bool
  is_valid =
      all_from is_sound 0 code.procs && (all_from is_fine 0 code.instrs
      && (is_main (slice_get code.procs code.main) && (in_order 0 code.shared && (nat_le (code.input_base + length code.input) (words_in code.shared)
      && (nat_lt (length code.instrs) (2 ^ 32) && nat_lt (words_in code.shared) (2 ^ 32))))))

  module _ (e : is_valid ≡ true) where
    sound_here : (procedure : ℕ) (proc : Proc) → slice_get code.procs procedure ≡ Some proc → IsSound code.instrs (shape_at shapes) procedure proc
    sound_here procedure proc is =
        let parts = both _ _ (each is_sound code.procs (both _ _ e).0 procedure proc is) in
        record { starts = leads_so procedure proc 0 proc.start parts.0; params = at_most _ _ parts.1 }

    rest : (all_from is_fine 0 code.instrs ≡ true) × (is_main (slice_get code.procs code.main) ≡ true) × (in_order 0 code.shared ≡ true) × (nat_le (code.input_base + length code.input) (words_in code.shared) ≡ true)
        × (nat_lt (length code.instrs) (2 ^ 32) ≡ true) × (nat_lt (words_in code.shared) (2 ^ 32) ≡ true)
    rest =
        let a = both _ _ (both _ _ e).1 in
        let b = both _ _ a.1 in
        let c = both _ _ b.1 in
        let d = both _ _ c.1 in
        let f = both _ _ d.1 in
        (a.0, b.0, c.0, d.0, f.0, f.1)

    fine_in : (at : ℕ) (o : Option Proc) (i : Instr) → is_fine_in at o i ≡ true → (proc : Proc) → o ≡ Some proc →
        (IsInRange code.procs (length code.shared) proc i) × (takes code.procs i ≤ (shape_at shapes at).operands)
        × (falls_well (shape_at shapes at).procedure proc (puts i + below at i) at (goes_behind i) ≡ true) × (jumps_well (shape_at shapes at).procedure proc (puts i + below at i) at (jumps_to i) ≡ true)
    fine_in at None i e proc is = absurd cc
    fine_in at (Some other) i e proc is =
        let same : other ≡ proc = cc in
        let a = both _ _ (subst (λ (p : Proc). is_fine_in at (Some p) i ≡ true) same e) in
        let b = both _ _ a.1 in
        let c = both _ _ b.1 in
        (range_so code.procs (length code.shared) proc i a.0, at_most _ _ b.0, c.0, c.1)

    fine_here : (at : ℕ) (proc : Proc) (i : Instr) → slice_get code.procs (shape_at shapes at).procedure ≡ Some proc → slice_get code.instrs at ≡ Some i → IsFine code.procs code.instrs (length code.shared) (shape_at shapes) at proc i
    fine_here at proc i is here =
        let parts = fine_in at (slice_get code.procs (shape_at shapes at).procedure) i (each is_fine code.instrs rest.0 at i here) proc is in
        let taken = parts.1 in
        record {
          in_range = parts.0;
          below = below at i;
          taken = omega (arith, taken);
          behind = falls_so (shape_at shapes at).procedure proc (puts i + below at i) at (goes_behind i) parts.2;
          jumps = λ to goes. (jumps_so (shape_at shapes at).procedure proc (puts i + below at i) at (jumps_to i) parts.3 to goes).0;
        }

    -- it jumps forward, whatever procedure it is in
    forward_in : (at : ℕ) (o : Option Proc) (i : Instr) → is_fine_in at o i ≡ true → (to : ℕ) → jumps_to i ≡ Some to → IsForward code.instrs at to
    forward_in at None i e to goes = absurd cc
    forward_in at (Some proc) i e to goes =
        (jumps_so (shape_at shapes at).procedure proc (puts i + below at i) at (jumps_to i) (fine_in at (Some proc) i e proc refl).3 to goes).1

    pub valid : IsValid code
    valid = record {
      shapes = shape_at shapes;
      procs = sound_here;
      instrs = fine_here;
      forward = λ at to i here goes. forward_in at (slice_get code.procs (shape_at shapes at).procedure) i (each is_fine code.instrs rest.0 at i here) to goes;
      main = main_so (slice_get code.procs code.main) rest.1;
      arrays = order_so 0 code.shared rest.2;
      input = at_most _ _ rest.3;
      few_instrs = less _ _ rest.4;
      few_words = less _ _ rest.5;
    }

-- the last procedure that starts at a place or before it
abbrev owner : ℕ → List Proc → ℕ → ℕ → ℕ
owner number [] at found = found
owner number (proc ∷ procs) at found = owner (suc number) procs at (if nat_le proc.start at then number else found)

abbrev starts_at : List Proc → ℕ → Bool
starts_at [] at = false
starts_at (proc ∷ procs) at = proc.start == at || starts_at procs at

-- The shapes that follow from going through the code: nothing is left behind a jump or a return.
abbrev guessed_from : List Proc → ℕ → ℕ → List Instr → List Shape
guessed_from procs at operands [] = []
guessed_from procs at operands (i ∷ instrs) =
    let here = if starts_at procs at then 0 else operands in
    record { procedure = owner 0 procs at 0; operands = here } ∷ guessed_from procs (suc at) (if goes_behind i then puts i + (here - takes procs i) else 0) instrs

abbrev pub guessed : Code → List Shape
guessed code = guessed_from code.procs 0 0 code.instrs

pub written : (code : Code) → is_valid code (guessed code) ≡ true → IsValid code
written code e = valid code (guessed code) e
