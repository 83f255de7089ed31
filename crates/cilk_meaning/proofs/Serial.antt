-- The service of the instances is the serial elision: with so many ticks left, serving an instance is its run.
use Rattle.std.proofs.Common.{◌≡◌, ℕ, zero, suc, ◌<◌, ◌≤◌, List, [], ◌∷◌, ◌++◌, length, Option, Some, None, refl, arith}
use Rattle.std.specs.Prelude.{ℤ, pos, ◌+ℤ◌, ◌==◌, Bool, true, false, if◌then◌else◌, Result, Ok, Err, slice_get, slice_set}
use Rattle.cilk_meaning.specs.declared.ends.NodeEnd.TheVariants.{Finished, Trapped}
use Rattle.cilk_meaning.specs.declared.ends.TrapKind.{TrapKind}
use Rattle.cilk_meaning.specs.declared.ends.TrapKind.TheVariants.{TooDeep}
use Rattle.cilk_meaning.specs.Elision as serial
use Rattle.cilk_meaning.specs.Elision.{Run, stop, tick, fetched, spawning, Spawning}
use Rattle.cilk_meaning.specs.Instance as source
use Rattle.cilk_meaning.specs.Instance.{Limits, Meaning, ends, ask, on_value, on_children, on_done}
use Rattle.cilk_meaning.specs.Locals.{Locals, local_at, assigned, deposited, first_locals, extent_of}
use Rattle.cilk_meaning.specs.Resolved.{Expr, Number, Local, Get, Unary, Binary, Stmt, Skip, Then, Assign, Put, Print, If, While, Call, Spawn, Add, Sync, Return, Function, Extent, Program}
use Rattle.cilk_meaning.specs.Serve.{Parent, serve, first_state}
use Rattle.cilk_meaning.specs.Values.{is_zero, exact, negated, decided, operated, word_of}
use Rattle.cilk_meaning.specs.Wants as want
use Rattle.cilk_meaning.specs.Wants.{Returns, Traps, Deposit}
use Rattle.cilk_meaning.specs.World.{World, first_world, after_read, after_write, after_add, after_print, after_spawn, after_sync, after_tick}

module _ (limits : Limits) (program : Program) (bound : ℕ) where
  abbrev pub start : ℕ → ℕ → List ℤ → Meaning
  start depth f vs = source.instance limits program depth bound f vs

  -- with at most so many ticks left, serving this instance is this run
  abbrev Agrees : ℕ → List Parent → ℕ → Meaning → Run → Type 0
  Agrees most parents row goes run =
      (left : ℕ) → left ≤ most → (kept : List Deposit) (at : World) →
      serve start left (record { running = record { goes = goes; row = row; kept = kept }; waiting = parents; world = at }) ≡ run kept left at

  fewer : (few most : ℕ) (parents : List Parent) (row : ℕ) (goes : Meaning) (run : Run) → few ≤ most → Agrees most parents row goes run → Agrees few parents row goes run
  fewer few most parents row goes run le h left le' kept at = h left (omega arith) kept at

  module _ (most : ℕ) (parents : List Parent) (row : ℕ) where
    traps : (kind : TrapKind) → Agrees most parents row (ends (Traps kind)) (stop (Trapped kind))
    traps kind left le kept at = refl

    given_agrees : {A : Type 0} → (r : Result A TrapKind) (next : A → Meaning) (run : A → Run) → ((v : A) → Agrees most parents row (next v) (run v)) → Agrees most parents row (source.given r next) (serial.given r run)
    given_agrees {A} (Ok v) next run h = h v
    given_agrees {A} (Err kind) next run h = traps kind

    if_agrees : (b : Bool) (g h : Meaning) (r s : Run) → Agrees most parents row g r → Agrees most parents row h s → Agrees most parents row (if b then g else h) (if b then r else s)
    if_agrees true g h r s x y = x
    if_agrees false g h r s x y = y

    decides_agrees : (o : Option ℤ) (next : ℤ → Meaning) (run : ℤ → Run) (g : Meaning) (r : Run) → ((v : ℤ) → Agrees most parents row (next v) (run v)) → Agrees most parents row g r → Agrees most parents row (source.decides o next g) (serial.decides o run r)
    decides_agrees (Some v) next run g r h k = h v
    decides_agrees None next run g r h k = k

    limited_agrees : (limit reached : ℕ) (g : Meaning) (r : Run) → Agrees most parents row g r → Agrees most parents row (source.limited limit reached g) (serial.limited limit reached r)
    limited_agrees limit reached g r h = if_agrees (reached == limit) (ends (Traps TooDeep)) g (stop (Trapped TooDeep)) r (traps TooDeep) h

    read_agrees : (word : ℕ) (next : ℤ → Meaning) (run : ℤ → Run) → ((v : ℤ) → Agrees most parents row (next v) (run v)) → Agrees most parents row (ask (want.Read word) (on_value next)) (fetched (after_read row word) word run)
    read_agrees word next run h zero le kept at = refl
    read_agrees word next run h (suc left) le kept at = h (at.memory word) left (omega arith) kept (after_read row word at)

    add_agrees : (word : ℕ) (addend : ℤ) (next : ℤ → Meaning) (run : ℤ → Run) → ((v : ℤ) → Agrees most parents row (next v) (run v)) → Agrees most parents row (ask (want.Add word addend) (on_value next)) (fetched (after_add row word addend) word run)
    add_agrees word addend next run h zero le kept at = refl
    add_agrees word addend next run h (suc left) le kept at = h (at.memory word) left (omega arith) kept (after_add row word addend at)

    write_agrees : (word : ℕ) (v : ℤ) (next : Meaning) (run : Run) → Agrees most parents row next run → Agrees most parents row (ask (want.Write word v) (on_done next)) (tick (after_write row word v) run)
    write_agrees word v next run h zero le kept at = refl
    write_agrees word v next run h (suc left) le kept at = h left (omega arith) kept (after_write row word v at)

    print_agrees : (v : ℤ) (next : Meaning) (run : Run) → Agrees most parents row next run → Agrees most parents row (ask (want.Print v) (on_done next)) (tick (after_print row v) run)
    print_agrees v next run h zero le kept at = refl
    print_agrees v next run h (suc left) le kept at = h left (omega arith) kept (after_print row v at)

    syncing_agrees : (locals : Locals) (next : Locals → Meaning) (run : Locals → Run) → ((l : Locals) → Agrees most parents row (next l) (run l)) → Agrees most parents row (source.syncing locals next) (serial.syncing row locals run)
    syncing_agrees locals next run h zero le kept at = refl
    syncing_agrees locals next run h (suc left) le kept at = h (deposited kept locals) left (omega arith) [] (after_sync row at)

    synced_agrees : (is_cilk : Bool) (locals : Locals) (next : Locals → Meaning) (run : Locals → Run) → ((l : Locals) → Agrees most parents row (next l) (run l)) → Agrees most parents row (source.synced is_cilk locals next) (serial.synced row is_cilk locals run)
    synced_agrees false locals next run h = h locals
    synced_agrees true locals next run h = syncing_agrees locals next run h

    value_agrees : (shared : List Extent) (e : Expr) (locals : Locals) (next : ℤ → Meaning) (run : ℤ → Run) → ((v : ℤ) → Agrees most parents row (next v) (run v)) → Agrees most parents row (source.value shared e locals next) (serial.value shared row e locals run)
    value_agrees shared (Number number) locals next run h = h number
    value_agrees shared (Local local) locals next run h = h (local_at locals local)
    value_agrees shared (Get array index) locals next run h =
        value_agrees shared index locals _ _ (λ i. given_agrees (word_of (extent_of shared array) i) _ _ (λ word. read_agrees word next run h))
    value_agrees shared (Unary operator operand) locals next run h = value_agrees shared operand locals _ _ (λ x. given_agrees (negated operator x) next run h)
    value_agrees shared (Binary operator left right) locals next run h =
        value_agrees shared left locals _ _ (λ x. decides_agrees (decided operator x) next run _ _ h (value_agrees shared right locals _ _ (λ y. given_agrees (operated operator x y) next run h)))

    values_agrees : (shared : List Extent) (es : List Expr) (locals : Locals) (next : List ℤ → Meaning) (run : List ℤ → Run) → ((vs : List ℤ) → Agrees most parents row (next vs) (run vs)) → Agrees most parents row (source.values shared es locals next) (serial.values shared row es locals run)
    values_agrees shared [] locals next run h = h []
    values_agrees shared (e ∷ es) locals next run h = value_agrees shared e locals _ _ (λ v. values_agrees shared es locals _ _ (λ vs. h (v ∷ vs)))

    adding_agrees : (word : ℕ) (addend : ℤ) (next : ℤ → Meaning) (run : ℤ → Run) → ((v : ℤ) → Agrees most parents row (next v) (run v)) → Agrees most parents row (source.adding word addend next) (serial.adding row word addend run)
    adding_agrees word addend next run h = add_agrees word addend _ _ (λ old. given_agrees (exact (old +ℤ addend)) _ _ (λ sum. h old))

  -- a loop, whose condition and body agree with any fewer ticks
  module _ (parents : List Parent) (row : ℕ) (most : ℕ) (test : Locals → (ℤ → Meaning) → Meaning) (etest : Locals → (ℤ → Run) → Run) (body : Locals → (Locals → Meaning) → Meaning) (ebody : Locals → (Locals → Run) → Run)
      (test_agrees : (few : ℕ) → few ≤ most → (l : Locals) (g : ℤ → Meaning) (r : ℤ → Run) → ((v : ℤ) → Agrees few parents row (g v) (r v)) → Agrees few parents row (test l g) (etest l r))
      (body_agrees : (few : ℕ) → few ≤ most → (l : Locals) (g : Locals → Meaning) (r : Locals → Run) → ((v : Locals) → Agrees few parents row (g v) (r v)) → Agrees few parents row (body l g) (ebody l r))
      (next : Locals → Meaning) (run : Locals → Run) where
    turns_agrees : (few m n : ℕ) → few ≤ most → few < m → few < n → ((l : Locals) → Agrees few parents row (next l) (run l)) → (l : Locals) → Agrees few parents row (source.turns m test body l next) (serial.turns n row etest ebody l run)
    turns_agrees few zero n le lm ln h l left le0 kept at = absurd (omega arith)
    turns_agrees few (suc m) zero le lm ln h l left le0 kept at = absurd (omega arith)
    turns_agrees few (suc m) (suc n) le lm ln h l zero le0 kept at = refl
    turns_agrees zero (suc m) (suc n) le lm ln h l (suc left) le0 kept at = absurd (omega arith)
    turns_agrees (suc few) (suc m) (suc n) le lm ln h l (suc left) le0 kept at =
        let h' : (l : Locals) → Agrees few parents row (next l) (run l) = λ l. fewer few (suc few) parents row (next l) (run l) (omega arith) (h l) in
        test_agrees few (omega arith) l _ _ (λ v. if_agrees few parents row (is_zero v) _ _ _ _ (h' l)
        (body_agrees few (omega arith) l _ _ (λ after. turns_agrees few m n (omega arith) (omega arith) (omega arith) h' after))) left (omega arith) kept (after_tick row at)

  -- plain calls that agree with any fewer ticks
  abbrev CallAgrees : ℕ → List Parent → ℕ → source.Calling → serial.Calling → Type 0
  CallAgrees most parents row call ecall =
      (few : ℕ) → few ≤ most → (f : ℕ) (vs : List ℤ) (g : ℤ → Meaning) (r : ℤ → Run) → ((v : ℤ) → Agrees few parents row (g v) (r v)) → Agrees few parents row (call f vs g) (ecall f vs r)

  -- children that agree, where what their parent goes on with does
  abbrev Child : ℕ → List Parent → Spawning → Type 0
  Child most parents child =
      (few : ℕ) → suc few ≤ most → (f : ℕ) (vs : List ℤ) (parent : Parent) (below : ℕ) (r : ℤ → Run) →
      ((v : ℤ) → Agrees few (parent ∷ parents) below (ends (Returns v)) (r v)) →
      Agrees few (parent ∷ parents) below (start (suc (length parents)) f vs) (child f vs below r)

  less_child : (few most : ℕ) (parents : List Parent) (child : Spawning) → few ≤ most → Child most parents child → Child few parents child
  less_child few most parents child le h few' le' f vs parent below r k = h few' (omega arith) f vs parent below r k

  module _ (most : ℕ) (parents : List Parent) (row : ℕ) (shared : List Extent) (is_cilk : Bool) (call : source.Calling) (ecall : serial.Calling)
      (child : Spawning) (m n : ℕ) (leave : ℤ → Meaning) (eleave : ℤ → Run) (lm : most < m) (ln : most < n)
      (leave_ok : (v : ℤ) → Agrees most parents row (leave v) (eleave v)) (call_ok : CallAgrees most parents row call ecall) (child_ok : Child most parents child) where
    abbrev here : source.Around
    here = record { shared = shared; «cilk» = is_cilk; deepest = limits.depth; depth = length parents; call = call; turns = m; leave = leave }

    abbrev there : serial.Around
    there = record { shared = shared; «cilk» = is_cilk; deepest = limits.depth; depth = length parents; row = row; call = ecall; child = child; turns = n; leave = eleave }

    spawn_agrees : (few : ℕ) → few ≤ most → (target : Option ℕ) (f : ℕ) (vs : List ℤ) (next : Meaning) (run : Run) → Agrees few parents row next run → Agrees few parents row (ask (want.Spawn target f vs) (on_done next)) (spawning row target f vs (child f vs) run)
    spawn_agrees few le target f vs next run h zero le0 kept at = refl
    spawn_agrees few le target f vs next run h (suc left) le0 kept at =
        child_ok left (omega arith) f vs (record { entry = record { goes = next; row = row; kept = kept }; target = target }) at.rows _
        (λ v left' le' kept' at'. h left' (omega arith) (kept ++ (target, v) ∷ []) at') left (omega arith) [] (after_spawn row f vs at)

    does_agrees : (s : Stmt) (few : ℕ) → few ≤ most → (l : Locals) (next : Locals → Meaning) (run : Locals → Run) → ((l : Locals) → Agrees few parents row (next l) (run l)) → Agrees few parents row (source.does here s l next) (serial.does there s l run)
    does_agrees Skip few le l next run h = h l
    does_agrees (Then a b) few le l next run h = does_agrees a few le l _ _ (λ after. does_agrees b few le after next run h)
    does_agrees (Assign local e) few le l next run h = value_agrees few parents row shared e l _ _ (λ v. h (slice_set l local v))
    does_agrees (Put array index e) few le l next run h =
        value_agrees few parents row shared index l _ _ (λ i. value_agrees few parents row shared e l _ _ (λ v.
        given_agrees few parents row (word_of (extent_of shared array) i) _ _ (λ word. write_agrees few parents row word v (next l) (run l) (h l))))
    does_agrees (Print e) few le l next run h = value_agrees few parents row shared e l _ _ (λ v. print_agrees few parents row v (next l) (run l) (h l))
    does_agrees (If condition met unmet) few le l next run h =
        value_agrees few parents row shared condition l _ _ (λ v. if_agrees few parents row (is_zero v) _ _ _ _ (does_agrees unmet few le l next run h) (does_agrees met few le l next run h))
    does_agrees (While condition body) few le l next run h =
        turns_agrees parents row few (source.value shared condition) (serial.value shared row condition) (source.does here body) (serial.does there body)
        (λ few' le' l' g r h'. value_agrees few' parents row shared condition l' g r h')
        (λ few' le' l' g r h'. does_agrees body few' (omega arith) l' g r h') next run few m n (omega arith) (omega arith) (omega arith) h l
    does_agrees (Call target f es) few le l next run h =
        values_agrees few parents row shared es l _ _ (λ vs. call_ok few le f vs _ _ (λ v. h (assigned target v l)))
    does_agrees (Spawn target f es) few le l next run h =
        values_agrees few parents row shared es l _ _ (λ vs. limited_agrees few parents row limits.depth (length parents) _ _ (spawn_agrees few le target f vs (next l) (run l) (h l)))
    does_agrees (Add target array index e) few le l next run h =
        value_agrees few parents row shared index l _ _ (λ i. value_agrees few parents row shared e l _ _ (λ addend.
        given_agrees few parents row (word_of (extent_of shared array) i) _ _ (λ word. adding_agrees few parents row word addend _ _ (λ old. h (assigned target old l)))))
    does_agrees Sync few le l next run h = syncing_agrees few parents row l next run h
    does_agrees (Return e) few le l next run h =
        synced_agrees few parents row is_cilk l _ _ (λ after. value_agrees few parents row shared e after leave eleave (λ v. fewer few most parents row (leave v) (eleave v) le (leave_ok v)))

    whole_agrees : (body : Stmt) (l : Locals) → Agrees most parents row (source.whole here body l) (serial.whole there body l)
    whole_agrees body l = does_agrees body most (omega arith) l _ _ (λ after. synced_agrees most parents row is_cilk after _ _ (λ last. leave_ok (pos 0)))

  entered_agrees : (most : ℕ) (parents : List Parent) (row : ℕ) (call : source.Calling) (ecall : serial.Calling) (child : Spawning) (m n : ℕ) → most < m → most < n →
      CallAgrees most parents row call ecall → Child most parents child → (function : Option Function) (vs : List ℤ) (leave : ℤ → Meaning) (eleave : ℤ → Run) →
      ((v : ℤ) → Agrees most parents row (leave v) (eleave v)) →
      Agrees most parents row (source.entered limits program (length parents) m call function vs leave) (serial.entered limits program n (length parents) row ecall child function vs eleave)
  entered_agrees most parents row call ecall child m n lm ln hcall hchild None vs leave eleave h = h (pos 0)
  entered_agrees most parents row call ecall child m n lm ln hcall hchild (Some function) vs leave eleave h =
      whole_agrees most parents row program.shared function.«cilk» call ecall child m n leave eleave lm ln h hcall hchild function.body (first_locals function vs)

  abbrev CallsAgree : ℕ → ℕ → Type 0
  CallsAgree m n =
      (opened most : ℕ) (parents : List Parent) (row : ℕ) (child : Spawning) → most < m → most < n → Child most parents child →
      CallAgrees most parents row (source.calls limits program (length parents) m opened) (serial.calls limits program n opened (length parents) row child)

  called_agrees : (m n : ℕ) → CallsAgree m n → (opened most : ℕ) (parents : List Parent) (row : ℕ) (child : Spawning) → most < suc m → most < suc n → Child most parents child →
      (few : ℕ) → few ≤ most → (f : ℕ) (vs : List ℤ) (g : ℤ → Meaning) (r : ℤ → Run) → ((v : ℤ) → Agrees few parents row (g v) (r v)) →
      Agrees few parents row (ask want.Call (on_done (source.entered limits program (length parents) m (source.calls limits program (length parents) m (suc opened)) (slice_get program.functions f) vs g)))
      (tick (after_tick row) (serial.entered limits program n (length parents) row (serial.calls limits program n (suc opened) (length parents) row child) child (slice_get program.functions f) vs r))
  called_agrees m n again opened most parents row child lm ln hchild few le f vs g r h zero le0 kept at = refl
  called_agrees m n again opened most parents row child lm ln hchild few le f vs g r h (suc left) le0 kept at =
      let hc = less_child left most parents child (omega arith) hchild in
      entered_agrees left parents row (source.calls limits program (length parents) m (suc opened)) (serial.calls limits program n (suc opened) (length parents) row child) child m n (omega arith) (omega arith)
      (again (suc opened) left parents row child (omega arith) (omega arith) hc)
      hc (slice_get program.functions f) vs g r
      (λ v. fewer left few parents row (g v) (r v) (omega arith) (h v)) left (omega arith) kept (after_tick row at)

  calls_agree : (m n : ℕ) → CallsAgree m n
  calls_agree zero n = λ opened most parents row child lm. absurd (omega arith)
  calls_agree (suc m) zero = λ opened most parents row child lm ln. absurd (omega arith)
  calls_agree (suc m) (suc n) = λ opened most parents row child lm ln hchild few le f vs g r h.
      limited_agrees few parents row limits.calls opened _ _ (called_agrees m n (calls_agree m n) opened most parents row child lm ln hchild few le f vs g r h)

  pub instance_agrees : (n most : ℕ) → most < n → most < bound → (parents : List Parent) (row : ℕ) (f : ℕ) (vs : List ℤ) (leave : ℤ → Run) →
      ((v : ℤ) → Agrees most parents row (ends (Returns v)) (leave v)) →
      Agrees most parents row (start (length parents) f vs) (serial.instance limits program n (length parents) f vs row leave)
  instance_agrees zero most ln lb parents row f vs leave h = absurd (omega arith)
  instance_agrees (suc n) most ln lb parents row f vs leave h =
      let child : Child most parents (serial.instance limits program n (suc (length parents))) =
      λ few le f' vs' parent below r k. instance_agrees n few (omega arith) (omega arith) (parent ∷ parents) below f' vs' r k in
      entered_agrees most parents row (source.calls limits program (length parents) bound 0) (serial.calls limits program (suc n) 0 (length parents) row (serial.instance limits program n (suc (length parents)))) (serial.instance limits program n (suc (length parents))) bound (suc n) lb ln
      (calls_agree bound (suc n) 0 most parents row (serial.instance limits program n (suc (length parents))) lb ln child)
      child (slice_get program.functions f) vs (λ v. ends (Returns v)) leave h

-- The service of instances with a bound is the serial elision.
pub bounded_service : (limits : Limits) (program : Program) (memory : ℕ → ℤ) (budget bound : ℕ) → budget < bound →
    serve (start limits program bound) budget (first_state (start limits program bound) program.main memory) ≡ serial.elision_within limits program memory budget
bounded_service limits program memory budget bound lt =
    instance_agrees limits program bound (suc budget) budget (omega arith) lt [] 0 program.main [] (λ v. stop Finished)
    (λ v left le kept at. refl) budget (omega arith) [] (first_world memory)
