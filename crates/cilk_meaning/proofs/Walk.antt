-- The generic induction on what instances want: a relation that each want keeps holds of an instance with two bounds.
use Rattle.std.proofs.Common.{◌≡◌, ℕ, zero, suc, ◌≤◌, List, [], ◌∷◌, Option, Some, None, refl, arith}
use Rattle.std.specs.Prelude.{ℤ, pos, ◌+ℤ◌, ◌==◌, Bool, true, false, not, if◌then◌else◌, Result, Ok, Err, slice_get, slice_set}
use Rattle.cilk_meaning.specs.declared.ends.TrapKind.{TrapKind}
use Rattle.cilk_meaning.specs.declared.ends.TrapKind.TheVariants.{TooDeep}
use Rattle.cilk_meaning.specs.Instance.{Limits, Meaning, ends, ask, on_value, on_children, on_done, given, decides, limited, value, values, adding, turns, syncing, synced, Calling, Around, does, whole, entered, calls, instance}
use Rattle.cilk_meaning.specs.Locals.{Locals, local_at, assigned, deposited, first_locals, extent_of}
use Rattle.cilk_meaning.specs.Parted.{CallsPlain, IsPlain, IsParted}
use Rattle.cilk_meaning.specs.Resolved.{Expr, Number, Local, Get, Unary, Binary, Stmt, Skip, Then, Assign, Put, Print, If, While, Call, Spawn, Add, Sync, Return, Function, Extent, Program}
use Rattle.cilk_meaning.specs.Values.{is_zero, exact, negated, decided, operated, word_of}
use Rattle.cilk_meaning.specs.Wants as want
use Rattle.cilk_meaning.specs.Wants.{Request, Want, Returns, Traps, Deposit, Answer}
use Rattle.cilk_meaning.proofs.Asks.{IsKept, quiet_no_spawn, is_quiet, read_follows, add_follows, sync_follows, spawn_done, done_follows, quiet_follows}

module _ (may_spawn : Bool) (R : Bool → ℕ → Meaning → Meaning → Type 0) (kept : IsKept may_spawn R) where
  -- what follows a request has one answer less, and the same index serves
  read_at : (out : Bool) (k word : ℕ) (g h : ℤ → Meaning) → ((v : ℤ) → R out k (g v) (h v)) → R out k (ask (want.Read word) (on_value g)) (ask (want.Read word) (on_value h))
  read_at out zero word g h r = kept.none out _ _
  read_at out (suc k) word g h r = kept.asks out k (want.Read word) _ _ (λ e. tt) (read_follows R out k word g h (λ v. kept.less out k (suc k) (g v) (h v) (omega arith) (r v)))

  add_at : (out : Bool) (k word : ℕ) (addend : ℤ) (g h : ℤ → Meaning) → ((v : ℤ) → R out k (g v) (h v)) → R out k (ask (want.Add word addend) (on_value g)) (ask (want.Add word addend) (on_value h))
  add_at out zero word addend g h r = kept.none out _ _
  add_at out (suc k) word addend g h r = kept.asks out k (want.Add word addend) _ _ (λ e. tt) (add_follows R out k word addend g h (λ v. kept.less out k (suc k) (g v) (h v) (omega arith) (r v)))

  quiet_at : (out : Bool) (k : ℕ) (request : Request) (g h : Meaning) → is_quiet request ≡ true → R out k g h → R out k (ask request (on_done g)) (ask request (on_done h))
  quiet_at out zero request g h is r = kept.none out _ _
  quiet_at out (suc k) request g h is r = kept.asks out k request _ _ (λ e. quiet_no_spawn request is) (quiet_follows R out k request g h is (kept.less out k (suc k) g h (omega arith) r))

  spawn_at : (out : Bool) (k : ℕ) (target : Option ℕ) (procedure : ℕ) (arguments : List ℤ) (g h : Meaning) → (may_spawn ≡ false → ⊥) → R true k g h →
      R out k (ask (want.Spawn target procedure arguments) (on_done g)) (ask (want.Spawn target procedure arguments) (on_done h))
  spawn_at out zero target procedure arguments g h may r = kept.none out _ _
  spawn_at out (suc k) target procedure arguments g h may r = kept.asks out k (want.Spawn target procedure arguments) _ _ may
      (done_follows R out k (want.Spawn target procedure arguments) g h (spawn_done R target procedure arguments) (kept.less true k (suc k) g h (omega arith) r))

  sync_at : (out : Bool) (k : ℕ) (g h : List Deposit → Meaning) → ((d : List Deposit) → R false k (g d) (h d)) → R out k (ask want.Sync (on_children g)) (ask want.Sync (on_children h))
  sync_at out zero g h r = kept.none out _ _
  sync_at out (suc k) g h r = kept.asks out k want.Sync _ _ (λ e. tt) (sync_follows R out k g h (λ d. kept.less false k (suc k) (g d) (h d) (omega arith) (r d)))

  -- what holds where a child may be out holds where none is
  weak : (out : Bool) (k : ℕ) (g h : Meaning) → R true k g h → R out k g h
  weak true k g h r = r
  weak false k g h r = kept.settled k g h r

  module _ (out : Bool) (k : ℕ) where
    given_at : {A : Type 0} → (result : Result A TrapKind) (g h : A → Meaning) → ((v : A) → R out k (g v) (h v)) → R out k (given result g) (given result h)
    given_at {A} (Ok v) g h r = r v
    given_at {A} (Err kind) g h r = kept.traps out k kind

    if_at : (b : Bool) (g h g' h' : Meaning) → R out k g g' → R out k h h' → R out k (if b then g else h) (if b then g' else h')
    if_at true g h g' h' r s = r
    if_at false g h g' h' r s = s

    decides_at : (o : Option ℤ) (g g' : ℤ → Meaning) (h h' : Meaning) → ((v : ℤ) → R out k (g v) (g' v)) → R out k h h' → R out k (decides o g h) (decides o g' h')
    decides_at (Some v) g g' h h' r s = r v
    decides_at None g g' h h' r s = s

    value_at : (shared : List Extent) (e : Expr) (locals : Locals) (g h : ℤ → Meaning) → ((v : ℤ) → R out k (g v) (h v)) → R out k (value shared e locals g) (value shared e locals h)
    value_at shared (Number number) locals g h r = r number
    value_at shared (Local local) locals g h r = r (local_at locals local)
    value_at shared (Get array index) locals g h r =
        value_at shared index locals _ _ (λ i. given_at (word_of (extent_of shared array) i) _ _ (λ word. read_at out k word g h r))
    value_at shared (Unary operator operand) locals g h r = value_at shared operand locals _ _ (λ x. given_at (negated operator x) g h r)
    value_at shared (Binary operator left right) locals g h r =
        value_at shared left locals _ _ (λ x. decides_at (decided operator x) g h _ _ r (value_at shared right locals _ _ (λ y. given_at (operated operator x y) g h r)))

    values_at : (shared : List Extent) (es : List Expr) (locals : Locals) (g h : List ℤ → Meaning) → ((vs : List ℤ) → R out k (g vs) (h vs)) → R out k (values shared es locals g) (values shared es locals h)
    values_at shared [] locals g h r = r []
    values_at shared (e ∷ es) locals g h r = value_at shared e locals _ _ (λ v. values_at shared es locals _ _ (λ vs. r (v ∷ vs)))

    limited_at : (limit reached : ℕ) (g h : Meaning) → R out k g h → R out k (limited limit reached g) (limited limit reached h)
    limited_at limit reached g h r = if_at (reached == limit) _ _ _ _ (kept.traps out k TooDeep) r

    adding_at : (word : ℕ) (addend : ℤ) (g h : ℤ → Meaning) → ((v : ℤ) → R out k (g v) (h v)) → R out k (adding word addend g) (adding word addend h)
    adding_at word addend g h r = add_at out k word addend _ _ (λ old. given_at (exact (old +ℤ addend)) _ _ (λ sum. r old))

  syncing_at : (out : Bool) (k : ℕ) (locals : Locals) (g h : Locals → Meaning) → ((l : Locals) → R false k (g l) (h l)) → R out k (syncing locals g) (syncing locals h)
  syncing_at out k locals g h r = sync_at out k _ _ (λ d. r (deposited d locals))

  -- what a function returns to: behind a sync in a `cilk` procedure
  synced_at : (is_cilk : Bool) (k : ℕ) (locals : Locals) (g h : Locals → Meaning) → ((l : Locals) → R (not is_cilk) k (g l) (h l)) → R true k (synced is_cilk locals g) (synced is_cilk locals h)
  synced_at true k locals g h r = syncing_at true k locals g h r
  synced_at false k locals g h r = r locals

  -- a loop, whose condition and body keep the relation at each index up to this one
  module _ (most : ℕ) (condition condition' : Locals → (ℤ → Meaning) → Meaning) (body body' : Locals → (Locals → Meaning) → Meaning)
      (condition_at : (k : ℕ) → k ≤ most → (l : Locals) (g h : ℤ → Meaning) → ((v : ℤ) → R true k (g v) (h v)) → R true k (condition l g) (condition' l h))
      (body_at : (k : ℕ) → k ≤ most → (l : Locals) (g h : Locals → Meaning) → ((l : Locals) → R true k (g l) (h l)) → R true k (body l g) (body' l h)) where
    turns_at : (k m n : ℕ) → k ≤ most → k ≤ m → k ≤ n → (l : Locals) (g h : Locals → Meaning) → ((l : Locals) → R true k (g l) (h l)) → R true k (turns m condition body l g) (turns n condition' body' l h)
    turns_at zero m n le lm ln l g h r = kept.none true _ _
    turns_at (suc k) zero n le lm ln l g h r = absurd (omega arith)
    turns_at (suc k) (suc m) zero le lm ln l g h r = absurd (omega arith)
    turns_at (suc k) (suc m) (suc n) le lm ln l g h r =
        let below : (l : Locals) → R true k (g l) (h l) = λ l. kept.less true k (suc k) (g l) (h l) (omega arith) (r l) in
        kept.asks true k want.LoopTurn _ _ (λ e. tt) (quiet_follows R true k want.LoopTurn _ _ refl
        (condition_at k (omega arith) l _ _ (λ v. if_at true k (is_zero v) _ _ _ _ (below l)
        (body_at k (omega arith) l _ _ (λ after. turns_at k m n (omega arith) (omega arith) (omega arith) after g h below)))))

  -- two plain calls that keep the relation
  abbrev pub Calls : Program → ℕ → Calling → Calling → Type 0
  Calls program most call call' = (k : ℕ) → k ≤ most → (f : ℕ) (vs : List ℤ) (g h : ℤ → Meaning) → (may_spawn ≡ false → CallsPlain program f) → ((v : ℤ) → R true k (g v) (h v)) → R true k (call f vs g) (call' f vs h)

  module _ (program : Program) (is_cilk : Bool) (deepest depth most : ℕ) (call call' : Calling) (calls_at : Calls program most call call')
      (m n : ℕ) (lm : most ≤ m) (ln : most ≤ n) (leave leave' : ℤ → Meaning) (leaves : (v : ℤ) → R (not is_cilk) most (leave v) (leave' v)) where
    abbrev shared : List Extent
    shared = program.shared

    abbrev here : Around
    here = record { shared = shared; «cilk» = is_cilk; deepest = deepest; depth = depth; call = call; turns = m; leave = leave }

    abbrev there : Around
    there = record { shared = shared; «cilk» = is_cilk; deepest = deepest; depth = depth; call = call'; turns = n; leave = leave' }

    does_at : (s : Stmt) → (may_spawn ≡ false → IsPlain program s) → (k : ℕ) → k ≤ most → (l : Locals) (g h : Locals → Meaning) → ((l : Locals) → R true k (g l) (h l)) → R true k (does here s l g) (does there s l h)
    does_at Skip plain k le l g h r = r l
    does_at (Then first second) plain k le l g h r = does_at first (λ e. (plain e).0) k le l _ _ (λ after. does_at second (λ e. (plain e).1) k le after g h r)
    does_at (Assign local e) plain k le l g h r = value_at true k shared e l _ _ (λ v. r (slice_set l local v))
    does_at (Put array index e) plain k le l g h r =
        value_at true k shared index l _ _ (λ i. value_at true k shared e l _ _ (λ v.
        given_at true k (word_of (extent_of shared array) i) _ _ (λ word. quiet_at true k (want.Write word v) _ _ refl (r l))))
    does_at (Print e) plain k le l g h r = value_at true k shared e l _ _ (λ v. quiet_at true k (want.Print v) _ _ refl (r l))
    does_at (If condition met unmet) plain k le l g h r =
        value_at true k shared condition l _ _ (λ v. if_at true k (is_zero v) _ _ _ _ (does_at unmet (λ e. (plain e).1) k le l g h r) (does_at met (λ e. (plain e).0) k le l g h r))
    does_at (While condition body) plain k le l g h r =
        turns_at k (value shared condition) (value shared condition) (does here body) (does there body)
        (λ j lj l' g' h' r'. value_at true j shared condition l' g' h' r')
        (λ j lj l' g' h' r'. does_at body plain j (omega arith) l' g' h' r') k m n (omega arith) (omega arith) (omega arith) l g h r
    does_at (Call target f es) plain k le l g h r =
        values_at true k shared es l _ _ (λ vs. calls_at k le f vs _ _ plain (λ v. r (assigned target v l)))
    does_at (Spawn target f es) plain k le l g h r =
        values_at true k shared es l _ _ (λ vs. limited_at true k deepest depth _ _ (spawn_at true k target f vs _ _ plain (r l)))
    does_at (Add target array index e) plain k le l g h r =
        value_at true k shared index l _ _ (λ i. value_at true k shared e l _ _ (λ addend.
        given_at true k (word_of (extent_of shared array) i) _ _ (λ word. adding_at true k word addend _ _ (λ old. r (assigned target old l)))))
    does_at Sync plain k le l g h r = syncing_at true k l g h (λ l'. weak false k (g l') (h l') (r l'))
    does_at (Return e) plain k le l g h r =
        synced_at is_cilk k l _ _ (λ after. value_at (not is_cilk) k shared e after leave leave' (λ v. kept.less (not is_cilk) k most (leave v) (leave' v) le (leaves v)))

    whole_at : (body : Stmt) → (may_spawn ≡ false → IsPlain program body) → (l : Locals) → R true most (whole here body l) (whole there body l)
    whole_at body plain l = does_at body plain most (omega arith) l _ _ (λ after. synced_at is_cilk most after _ _ (λ last. leaves (pos 0)))

  -- Where no spawn may come, a function that is entered is plain.
  abbrev pub Enters : Program → Option Function → Type 0
  Enters program function = (f : Function) → function ≡ Some f → may_spawn ≡ false → IsPlain program f.body

  module _ (limits : Limits) (program : Program) (depth : ℕ) (parted : may_spawn ≡ false → IsParted program) where
    -- What a function returns to: behind a sync where it is a `cilk` procedure, without one where it is not.
    abbrev pub Leaves : Bool → Option Function → ℕ → (ℤ → Meaning) → (ℤ → Meaning) → Type 0
    Leaves out None k g h = (v : ℤ) → R out k (g v) (h v)
    Leaves out (Some function) k g h = (v : ℤ) → R (not function.«cilk») k (g v) (h v)

    entered_at : (out : Bool) (most : ℕ) (call call' : Calling) → Calls program most call call' → (m n : ℕ) → most ≤ m → most ≤ n → (function : Option Function) → Enters program function → (vs : List ℤ) (g h : ℤ → Meaning) →
        Leaves out function most g h → R out most (entered limits program depth m call function vs g) (entered limits program depth n call' function vs h)
    entered_at out most call call' calls_at m n lm ln None enters vs g h r = r (pos 0)
    entered_at out most call call' calls_at m n lm ln (Some function) enters vs g h r =
        weak out most _ _ (whole_at program function.«cilk» limits.depth depth most call call' calls_at m n lm ln g h r function.body (enters function refl) (first_locals function vs))

    -- what follows a plain call serves whatever function is called
    leaves_on : (function : Option Function) (k : ℕ) (g h : ℤ → Meaning) → ((v : ℤ) → R true k (g v) (h v)) → Leaves true function k g h
    leaves_on None k g h r = r
    leaves_on (Some function) k g h r = λ v. weak (not function.«cilk») k (g v) (h v) (r v)

    calls_at : (m n opened most : ℕ) → most ≤ m → most ≤ n → Calls program most (calls limits program depth m opened) (calls limits program depth n opened)
    calls_at m n opened most lm ln zero le f vs g h plain r = kept.none true _ _
    calls_at zero n opened most lm ln (suc k) le f vs g h plain r = absurd (omega arith)
    calls_at (suc m) zero opened most lm ln (suc k) le f vs g h plain r = absurd (omega arith)
    calls_at (suc m) (suc n) opened most lm ln (suc k) le f vs g h plain r =
        limited_at true (suc k) limits.calls opened _ _ (kept.asks true k want.Call _ _ (λ e. tt) (quiet_follows R true k want.Call _ _ refl
        (entered_at true k (calls limits program depth m (suc opened)) (calls limits program depth n (suc opened))
        (calls_at m n (suc opened) k (omega arith) (omega arith)) m n (omega arith) (omega arith) (slice_get program.functions f) (λ function is e. parted e f function is (plain e function is)) vs g h
        (leaves_on (slice_get program.functions f) k g h (λ v. kept.less true k (suc k) (g v) (h v) (omega arith) (r v))))))

    -- The relation holds of an instance with two bounds, where it holds of its return.
    pub instance_at : (m n most : ℕ) → most ≤ m → most ≤ n → (f : ℕ) (vs : List ℤ) → Enters program (slice_get program.functions f) → Leaves false (slice_get program.functions f) most (λ v. ends (Returns v)) (λ v. ends (Returns v)) →
        R false most (instance limits program depth m f vs) (instance limits program depth n f vs)
    instance_at m n most lm ln f vs enters r =
        entered_at false most (calls limits program depth m 0) (calls limits program depth n 0) (calls_at m n 0 most lm ln) m n lm ln (slice_get program.functions f) enters vs _ _ r

pub no_claim : {A : Type 0} → true ≡ false → A
no_claim {A} e = absurd cc

-- Where spawns may come, it holds of each instance where it holds of every return.
pub instance_kept : (R : Bool → ℕ → Meaning → Meaning → Type 0) → IsKept true R → (limits : Limits) (program : Program) (depth m n most : ℕ) → most ≤ m → most ≤ n → (f : ℕ) (vs : List ℤ) →
    ((out : Bool) (v : ℤ) → R out most (ends (Returns v)) (ends (Returns v))) → R false most (instance limits program depth m f vs) (instance limits program depth n f vs)
instance_kept R kept limits program depth m n most lm ln f vs returns =
    instance_at true R kept limits program depth (no_claim {A = IsParted program}) m n most lm ln f vs
    (λ function is e. no_claim {A = IsPlain program function.body} e) (leaves (slice_get program.functions f))
  where
    leaves : (function : Option Function) → Leaves true R kept limits program depth (no_claim {A = IsParted program}) false function most (λ v. ends (Returns v)) (λ v. ends (Returns v))
    leaves None = returns false
    leaves (Some function) = returns (not function.«cilk»)
