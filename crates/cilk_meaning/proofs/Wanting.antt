-- The laws of what instances want.
use Rattle.std.proofs.Common.{◌≡◌, ◌⊎◌, ℕ, zero, suc, ◌≤◌, ◌<◌, List, [], ◌∷◌, ◌++◌, length, take, Option, Some, None, refl, sym, ap, ◌∙◌, subst, inl, inr, arith, length-append}
use Rattle.std.specs.Prelude.{ℤ, Bool, true, false, not, slice_get}
use Rattle.std.specs.List.{last_or}
use Rattle.cilk_meaning.specs.Alone.{HasReturned, Block, block_after, block_of, AllFit}
use Rattle.cilk_meaning.specs.Instance.{wants, Limits, limits, Meaning, ends, ask}
use Rattle.cilk_meaning.specs.Laws.{BoundIsHidden, WantsAreKept, AlwaysWants, ReturnsSynced}
use Rattle.cilk_meaning.specs.Parted.{CallsPlain, IsParted, IsPlain}
use Rattle.cilk_meaning.specs.Resolved.{Function, Program}
use Rattle.cilk_meaning.specs.Wants.{Request, Read, Write, Add, Print, Spawn, Sync, Call, LoopTurn, Want, Asks, Returns, Traps, Answer, suits}
use Rattle.cilk_meaning.proofs.Asks.{IsKept, IsNoSpawn, Follows, out_after}
use Rattle.cilk_meaning.proofs.Walk.{Leaves, instance_at, instance_kept, no_claim}

-- it suits, or it does not
suits_or : (request : Request) (a : Answer) → (suits request a ≡ true) ⊎ (suits request a ≡ false)
suits_or request a = either (suits request a)
  where
    either : (b : Bool) → (b ≡ true) ⊎ (b ≡ false)
    either true = inl refl
    either false = inr refl

-- ---- two bounds

-- the same wants below so many answers
abbrev pub Alike : Bool → ℕ → Meaning → Meaning → Type 0
Alike out k g h = (answers : List Answer) → length answers < k → g answers ≡ h answers

alike_asks : (out : Bool) (k : ℕ) (request : Request) (f f' : Answer → Meaning) → (true ≡ false → IsNoSpawn request) → Follows Alike request out k f f' → Alike out (suc k) (ask request f) (ask request f')
alike_asks out k request f f' may follows [] lt = refl
alike_asks out k request f f' may follows (a ∷ answers) lt = ap (λ l. Asks request ∷ l) (next (suits_or request a))
  where
    next : (suits request a ≡ true) ⊎ (suits request a ≡ false) → f a answers ≡ f' a answers
    next (inl good) = follows.fit a good answers (omega arith)
    next (inr bad) = let both = follows.unfit a bad in ap (λ (g : Meaning). g answers) both.0 ∙ sym (ap (λ (g : Meaning). g answers) both.1)

alike_kept : IsKept true Alike
alike_kept = record {
  none = λ out g h answers lt. absurd (omega arith);
  less = λ out k m g h le alike answers lt. alike answers (omega arith);
  settled = λ k g h alike. alike;
  traps = λ out k kind answers lt. refl;
  returns = λ k v answers lt. refl;
  asks = alike_asks;
}

pub bound_is_hidden : BoundIsHidden
bound_is_hidden most program depth bound procedure arguments answers lt =
    instance_kept Alike alike_kept most program depth bound (suc (length answers)) (suc (length answers)) (omega arith) (omega arith) procedure arguments (λ out v a lt'. refl) answers (omega arith)

-- ---- later answers

-- later answers change no want before them
abbrev Steady : Bool → ℕ → Meaning → Meaning → Type 0
Steady out k g h = (answers more : List Answer) → length answers < k → take (suc (length answers)) (g (answers ++ more)) ≡ g answers

take_one : (want : Want) (n : ℕ) → take (suc n) (want ∷ []) ≡ want ∷ []
take_one want zero = refl
take_one want (suc n) = refl

take_none : (want : Want) (more : List Answer) (f : Answer → Meaning) (request : Request) → take 1 (ask request f more) ≡ Asks request ∷ []
take_none want [] f request = refl
take_none want (a ∷ more) f request = refl

steady_asks : (out : Bool) (k : ℕ) (request : Request) (f f' : Answer → Meaning) → (true ≡ false → IsNoSpawn request) → Follows Steady request out k f f' → Steady out (suc k) (ask request f) (ask request f')
steady_asks out k request f f' may follows [] more lt = take_none (Asks request) more f request
steady_asks out k request f f' may follows (a ∷ answers) more lt = ap (λ l. Asks request ∷ l) (next (suits_or request a))
  where
    next : (suits request a ≡ true) ⊎ (suits request a ≡ false) → take (suc (length answers)) (f a (answers ++ more)) ≡ f a answers
    next (inl good) = follows.fit a good answers more (omega arith)
    next (inr bad) = let both = follows.unfit a bad in
        ap (λ (g : Meaning). take (suc (length answers)) (g (answers ++ more))) both.0 ∙ sym (ap (λ (g : Meaning). g answers) both.0)

steady_kept : IsKept true Steady
steady_kept = record {
  none = λ out g h answers more lt. absurd (omega arith);
  less = λ out k m g h le steady answers more lt. steady answers more (omega arith);
  settled = λ k g h steady. steady;
  traps = λ out k kind answers more lt. take_one (Traps kind) (length answers);
  returns = λ k v answers more lt. take_one (Returns v) (length answers);
  asks = steady_asks;
}

pub wants_are_kept : WantsAreKept
wants_are_kept most program depth procedure arguments answers more =
    let n = suc (length (answers ++ more)) in
    let le : suc (length answers) ≤ n = simp length-append (omega arith) in
    instance_kept Steady steady_kept most program depth n n n (omega arith) (omega arith) procedure arguments (λ out v a m lt'. take_one (Returns v) (length a)) answers more le
    ∙ bound_is_hidden most program depth n procedure arguments answers le

-- ---- fitting answers

abbrev Lasts : Bool → ℕ → Meaning → Meaning → Type 0
Lasts out k g h = (block : Block) (answers : List Answer) → length answers < k → AllFit block (g answers) answers → length (g answers) ≡ suc (length answers)

lasts_asks : (out : Bool) (k : ℕ) (request : Request) (f f' : Answer → Meaning) → (true ≡ false → IsNoSpawn request) → Follows Lasts request out k f f' → Lasts out (suc k) (ask request f) (ask request f')
lasts_asks out k request f f' may follows block [] lt fits = refl
lasts_asks out k request f f' may follows block (a ∷ answers) lt fits =
    ap suc (follows.fit a fits.0.suits (block_after request block) answers (omega arith) fits.1)

lasts_end : (answers : List Answer) → answers ≡ [] → 1 ≡ suc (length answers)
lasts_end answers e = sym (ap (λ l. suc (length l)) e)

lasts_kept : IsKept true Lasts
lasts_kept = record {
  none = λ out g h block answers lt fits. absurd (omega arith);
  less = λ out k m g h le lasts block answers lt fits. lasts block answers (omega arith) fits;
  settled = λ k g h lasts. lasts;
  traps = λ out k kind block answers lt fits. lasts_end answers fits;
  returns = λ k v block answers lt fits. lasts_end answers fits;
  asks = lasts_asks;
}

pub always_wants : AlwaysWants
always_wants program depth procedure arguments answers fits =
    let n = suc (length answers) in
    instance_kept Lasts lasts_kept limits program depth n n n (omega arith) (omega arith) procedure arguments (λ out v block a lt' f. lasts_end a f) [] answers (omega arith) fits

-- ---- returns

-- where it returns, it has spawned nothing since the last Sync; before it nothing either, unless the flag says so
abbrev Synced : Bool → ℕ → Meaning → Meaning → Type 0
Synced out k g h = (block : Block) (before : Option Want) (answers : List Answer) (v : ℤ) → length answers < k → (out ≡ false → block ≡ []) →
    ((u : ℤ) → before ≡ Some (Returns u) → ⊥) → last_or before (g answers) ≡ Some (Returns v) → block_of block (g answers) ≡ []

block_on : (request : Request) (out : Bool) (block : Block) → (out ≡ false → block ≡ []) → out_after request out ≡ false → block_after request block ≡ []
block_on (Read word) out block h = h
block_on (Write word value) out block h = h
block_on (Add word addend) out block h = h
block_on (Print value) out block h = h
block_on (Spawn target procedure arguments) out block h = λ e. absurd cc
block_on Sync out block h = λ e. refl
block_on Call out block h = h
block_on LoopTurn out block h = h

synced_asks : (out : Bool) (k : ℕ) (request : Request) (f f' : Answer → Meaning) → (true ≡ false → IsNoSpawn request) → Follows Synced request out k f f' → Synced out (suc k) (ask request f) (ask request f')
synced_asks out k request f f' may follows block before [] v lt h no_return e = let clash : Some (Asks request) ≡ Some (Returns v) = e in absurd cc
synced_asks out k request f f' may follows block before (a ∷ answers) v lt h no_return e = next (suits_or request a)
  where
    no_ask : (u : ℤ) → Some (Asks request) ≡ Some (Returns u) → ⊥
    no_ask u clash = cc

    next : (suits request a ≡ true) ⊎ (suits request a ≡ false) → block_of (block_after request block) (f a answers) ≡ []
    next (inl good) = follows.fit a good (block_after request block) (Some (Asks request)) answers v (omega arith) (block_on request out block h) no_ask e
    next (inr bad) = absurd (no_ask v (sym (ap (λ (g : Meaning). last_or (Some (Asks request)) (g answers)) (follows.unfit a bad).0) ∙ e))

synced_kept : IsKept true Synced
synced_kept = record {
  none = λ out g h block before answers v lt. absurd (omega arith);
  less = λ out k m g h le synced block before answers v lt. synced block before answers v (omega arith);
  settled = λ k g h synced block before answers v lt empty. synced block before answers v lt (λ (e : true ≡ false). absurd cc);
  traps = λ out k kind block before answers v lt empty no_return e. (let clash : Some (Traps kind) ≡ Some (Returns v) = e in absurd cc);
  returns = λ k u block before answers v lt empty no_return e. empty refl;
  asks = synced_asks;
}

synced_leaves : (most : Limits) (program : Program) (depth k procedure : ℕ) (function : Function) → slice_get program.functions procedure ≡ Some function → function.«cilk» ≡ true →
    Leaves true Synced synced_kept most program depth (no_claim {A = IsParted program}) false (slice_get program.functions procedure) k (λ v. ends (Returns v)) (λ v. ends (Returns v))
synced_leaves most program depth k procedure function is cilk =
    subst (λ f. Leaves true Synced synced_kept most program depth (no_claim {A = IsParted program}) false f k (λ v. ends (Returns v)) (λ v. ends (Returns v))) (sym is)
    (λ v. subst (λ c. Synced (not c) k (ends (Returns v)) (ends (Returns v))) (sym cilk) (synced_kept.returns k v))

some_same : {function other : Function} → Some function ≡ Some other → function ≡ other
some_same e = cc

-- a `cilk` procedure, of any program
pub procedure_returns_synced : (program : Program) (depth procedure : ℕ) (function : Function) (arguments : List ℤ) (answers : List Answer) (v : ℤ) →
    slice_get program.functions procedure ≡ Some function → function.«cilk» ≡ true →
    HasReturned program depth procedure arguments answers v → block_of [] (wants program depth procedure arguments answers) ≡ []
procedure_returns_synced program depth procedure function arguments answers v is cilk e =
    let n = suc (length answers) in
    instance_at true Synced synced_kept limits program depth (no_claim {A = IsParted program}) n n n (omega arith) (omega arith) procedure arguments (λ f is_f e'. no_claim {A = IsPlain program f.body} e')
    (synced_leaves limits program depth n procedure function is cilk) [] None answers v (omega arith) (λ no. refl) (λ u (clash : None ≡ Some (Returns u)). absurd cc) e

-- without spawns no block has a child
abbrev Childless : Bool → ℕ → Meaning → Meaning → Type 0
Childless out k g h = (answers : List Answer) → length answers < k → block_of [] (g answers) ≡ []

childless_on : (request : Request) → IsNoSpawn request → block_after request [] ≡ []
childless_on (Read word) no_spawn = refl
childless_on (Write word value) no_spawn = refl
childless_on (Add word addend) no_spawn = refl
childless_on (Print value) no_spawn = refl
childless_on (Spawn target procedure arguments) no_spawn = absurd no_spawn
childless_on Sync no_spawn = refl
childless_on Call no_spawn = refl
childless_on LoopTurn no_spawn = refl

childless_asks : (out : Bool) (k : ℕ) (request : Request) (f f' : Answer → Meaning) → (false ≡ false → IsNoSpawn request) → Follows Childless request out k f f' → Childless out (suc k) (ask request f) (ask request f')
childless_asks out k request f f' may follows [] lt = childless_on request (may refl)
childless_asks out k request f f' may follows (a ∷ answers) lt = ap (λ b. block_of b (f a answers)) (childless_on request (may refl)) ∙ next (suits_or request a)
  where
    next : (suits request a ≡ true) ⊎ (suits request a ≡ false) → block_of [] (f a answers) ≡ []
    next (inl good) = follows.fit a good answers (omega arith)
    next (inr bad) = ap (λ (g : Meaning). block_of [] (g answers)) (follows.unfit a bad).0

childless_kept : IsKept false Childless
childless_kept = record {
  none = λ out g h answers lt. absurd (omega arith);
  less = λ out k m g h le childless answers lt. childless answers (omega arith);
  settled = λ k g h childless. childless;
  traps = λ out k kind answers lt. refl;
  returns = λ k v answers lt. refl;
  asks = childless_asks;
}

-- a plain function whose program is parted, or one that is not there
plain_childless : (program : Program) → IsParted program → (depth procedure : ℕ) (arguments : List ℤ) (answers : List Answer) → CallsPlain program procedure →
    block_of [] (wants program depth procedure arguments answers) ≡ []
plain_childless program parted depth procedure arguments answers plain =
    let n = suc (length answers) in
    instance_at false Childless childless_kept limits program depth (λ e. parted) n n n (omega arith) (omega arith) procedure arguments
    (λ function is e. parted procedure function is (plain function is)) (leaves (slice_get program.functions procedure)) answers (omega arith)
  where
    leaves : (function : Option Function) → Leaves false Childless childless_kept limits program depth (λ e. parted) false function (suc (length answers)) (λ v. ends (Returns v)) (λ v. ends (Returns v))
    leaves None = λ v a lt. refl
    leaves (Some function) = λ v a lt. refl

pub returns_synced : ReturnsSynced
returns_synced program parted depth procedure arguments answers v e = by (slice_get program.functions procedure) refl
  where
    by : (found : Option Function) → slice_get program.functions procedure ≡ found → block_of [] (wants program depth procedure arguments answers) ≡ []
    by None is = plain_childless program parted depth procedure arguments answers (λ function is_f. (let clash : None ≡ Some function = sym is ∙ is_f in absurd cc))
    by (Some function) is = kind function.«cilk» refl
      where
        kind : (b : Bool) → function.«cilk» ≡ b → block_of [] (wants program depth procedure arguments answers) ≡ []
        kind true is_cilk = procedure_returns_synced program depth procedure function arguments answers v is is_cilk e
        kind false is_plain = plain_childless program parted depth procedure arguments answers
            (λ other is_other. (let same : function ≡ other = some_same (sym is ∙ is_other) in sym (ap (λ (f : Function). f.«cilk») same) ∙ is_plain))
