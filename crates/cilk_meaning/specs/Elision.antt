-- The serial elision of a program, by cases on the tree: a spawn is a call of the child, and a sync hands out what the children gave
-- back. One world of shared words is handed along, and the ticks that are left.
use Rattle.std.specs.Prelude.{ℕ, zero, suc, ◌==◌, ℤ, pos, ◌+ℤ◌, Bool, true, false, if◌then◌else◌, Option, Some, None, Result, Ok, Err, List, [], ◌∷◌, ◌++◌, slice_get, slice_set}
use Rattle.cilk_meaning.specs.declared.ends.NodeEnd.{NodeEnd}
use Rattle.cilk_meaning.specs.declared.ends.NodeEnd.TheVariants.{Finished, Trapped, Budget}
use Rattle.cilk_meaning.specs.declared.ends.TrapKind.{TrapKind}
use Rattle.cilk_meaning.specs.declared.ends.TrapKind.TheVariants.{TooDeep}
use Rattle.cilk_meaning.specs.Instance.{Limits, limits}
use Rattle.cilk_meaning.specs.Locals.{Locals, local_at, assigned, deposited, first_locals, extent_of}
use Rattle.cilk_meaning.specs.Resolved.{Expr, Number, Local, Get, Unary, Binary, Stmt, Skip, Then, Assign, Put, Print, If, While, Call, Spawn, Add, Sync, Return, Function, Extent, Program}
use Rattle.cilk_meaning.specs.Values.{is_zero, exact, negated, decided, operated, word_of}
use Rattle.cilk_meaning.specs.Wants.{Deposit}
use Rattle.cilk_meaning.specs.World.{World, End, first_world, after_read, after_write, after_add, after_print, after_spawn, after_sync, after_tick}

-- What becomes of the values that are kept for the next sync, of the ticks that are left, and of the world.
abbrev pub Run : Type 0
Run = List Deposit → ℕ → World → End

abbrev pub stop : NodeEnd → Run
stop how kept left world = record { end = how; world = world }

-- a tick that changes the world, where one is left
abbrev pub tick : (World → World) → Run → Run
tick change next kept zero world = record { end = Budget; world = world }
tick change next kept (suc left) world = next kept left (change world)

-- a word as it is, and then what follows with its value
abbrev pub fetched : (World → World) → ℕ → (ℤ → Run) → Run
fetched change word next kept zero world = record { end = Budget; world = world }
fetched change word next kept (suc left) world = next (world.memory word) kept left (change world)

-- A sync hands out what is kept.
abbrev pub syncing : ℕ → Locals → (Locals → Run) → Run
syncing row locals next kept zero world = record { end = Budget; world = world }
syncing row locals next kept (suc left) world = next (deposited kept locals) [] left (after_sync row world)

-- A spawn runs the child to its end, in the next row, and keeps its value for the next sync.
abbrev pub spawning : ℕ → Option ℕ → ℕ → List ℤ → (ℕ → (ℤ → Run) → Run) → Run → Run
spawning row target procedure arguments child next kept zero world = record { end = Budget; world = world }
spawning row target procedure arguments child next kept (suc left) world =
    child world.rows (λ v. λ nothing. next (kept ++ (target, v) ∷ [])) [] left (after_spawn row procedure arguments world)

-- goes on with a value, or traps
abbrev pub given : {A : Type 0} → Result A TrapKind → (A → Run) → Run
given (Ok value) next = next value
given (Err kind) next = stop (Trapped kind)

-- goes on with the value of an operator where its left operand decides it, and else otherwise
abbrev pub decides : Option ℤ → (ℤ → Run) → Run → Run
decides (Some value) next otherwise = next value
decides None next otherwise = otherwise

-- traps where the limit is reached
abbrev pub limited : ℕ → ℕ → Run → Run
limited limit reached next = if reached == limit then stop (Trapped TooDeep) else next

-- an expression, and then what follows with its value
abbrev pub value : List Extent → ℕ → Expr → Locals → (ℤ → Run) → Run
value shared row (Number number) locals next = next number
value shared row (Local local) locals next = next (local_at locals local)
value shared row (Get array index) locals next =
    value shared row index locals (λ i. given (word_of (extent_of shared array) i) (λ word. fetched (after_read row word) word next))
value shared row (Unary operator operand) locals next = value shared row operand locals (λ x. given (negated operator x) next)
value shared row (Binary operator left right) locals next =
    value shared row left locals (λ x. decides (decided operator x) next
    (value shared row right locals (λ y. given (operated operator x y) next)))

-- expressions from left to right, and then what follows with their values
abbrev pub values : List Extent → ℕ → List Expr → Locals → (List ℤ → Run) → Run
values shared row [] locals next = next []
values shared row (first ∷ rest) locals next = value shared row first locals (λ v. values shared row rest locals (λ vs. next (v ∷ vs)))

-- An add: where its sum is no value, it traps behind its tick.
abbrev pub adding : ℕ → ℕ → ℤ → (ℤ → Run) → Run
adding row word addend next = fetched (after_add row word addend) word (λ old. given (exact (old +ℤ addend)) (λ sum. next old))

-- at most so many turns of a loop
abbrev pub turns : ℕ → ℕ → (Locals → (ℤ → Run) → Run) → (Locals → (Locals → Run) → Run) → Locals → (Locals → Run) → Run
turns zero row condition body locals next = stop Budget
turns (suc n) row condition body locals next =
    tick (after_tick row) (condition locals (λ v. if is_zero v then next locals else body locals (λ after. turns n row condition body after next)))

-- the sync that a `cilk` procedure makes before it returns
abbrev pub synced : ℕ → Bool → Locals → (Locals → Run) → Run
synced row true locals next = syncing row locals next
synced row false locals next = next locals

-- a plain call: the function, its arguments, and what follows with its value
abbrev pub Calling : Type 0
Calling = ℕ → List ℤ → (ℤ → Run) → Run

-- a child: its procedure, its arguments, its row, and what follows with its value
abbrev pub Spawning : Type 0
Spawning = ℕ → List ℤ → ℕ → (ℤ → Run) → Run

-- What the statements of a function may use: the arrays, whether the function is a `cilk` procedure, the most deep that children may
-- be and how deep this instance is, its row, its plain calls and children, a bound on the turns of a loop, and what follows its return.
pub record Around : Type 0 where
  pub shared : List Extent
  pub «cilk» : Bool
  pub deepest : ℕ
  pub depth : ℕ
  pub row : ℕ
  pub call : Calling
  pub child : Spawning
  pub turns : ℕ
  pub leave : ℤ → Run

-- a statement, and then what follows with the locals after it
abbrev pub does : Around → Stmt → Locals → (Locals → Run) → Run
does a Skip locals next = next locals
does a (Then first second) locals next = does a first locals (λ after. does a second after next)
does a (Assign local e) locals next = value a.shared a.row e locals (λ v. next (slice_set locals local v))
does a (Put array index e) locals next =
    value a.shared a.row index locals (λ i. value a.shared a.row e locals (λ v.
    given (word_of (extent_of a.shared array) i) (λ word. tick (after_write a.row word v) (next locals))))
does a (Print e) locals next = value a.shared a.row e locals (λ v. tick (after_print a.row v) (next locals))
does a (If condition met unmet) locals next =
    value a.shared a.row condition locals (λ v. if is_zero v then does a unmet locals next else does a met locals next)
does a (While condition body) locals next = turns a.turns a.row (value a.shared a.row condition) (does a body) locals next
does a (Call target function arguments) locals next =
    values a.shared a.row arguments locals (λ vs. a.call function vs (λ v. next (assigned target v locals)))
does a (Spawn target procedure arguments) locals next =
    values a.shared a.row arguments locals (λ vs. limited a.deepest a.depth (spawning a.row target procedure vs (a.child procedure vs) (next locals)))
does a (Add target array index e) locals next =
    value a.shared a.row index locals (λ i. value a.shared a.row e locals (λ addend.
    given (word_of (extent_of a.shared array) i) (λ word. adding a.row word addend (λ old. next (assigned target old locals)))))
does a Sync locals next = syncing a.row locals next
does a (Return e) locals next = synced a.row a.«cilk» locals (λ after. value a.shared a.row e after a.leave)

-- a body: it gives 0 where it comes to its end
abbrev pub whole : Around → Stmt → Locals → Run
whole a body locals = does a body locals (λ after. synced a.row a.«cilk» after (λ last. a.leave (pos 0)))

module _ (most : Limits) (program : Program) where
  -- a function's body, and what follows its return; a function that the program has not gives 0
  abbrev pub entered : ℕ → ℕ → ℕ → Calling → Spawning → Option Function → List ℤ → (ℤ → Run) → Run
  entered bound depth row call child None arguments leave = leave (pos 0)
  entered bound depth row call child (Some function) arguments leave =
      whole (record { shared = program.shared; «cilk» = function.«cilk»; deepest = most.depth; depth = depth; row = row; call = call; child = child; turns = bound; leave = leave })
      function.body (first_locals function arguments)

  -- a plain call where so many are open
  abbrev pub calls : ℕ → ℕ → ℕ → ℕ → Spawning → Calling
  calls zero opened depth row child function arguments next = stop Budget
  calls (suc bound) opened depth row child function arguments next =
      limited most.calls opened (tick (after_tick row)
      (entered bound depth row (calls bound (suc opened) depth row child) child (slice_get program.functions function) arguments next))

  -- An instance. In it spawns and calls nest, and loops turn, fewer than `bound` times: each of these costs a tick, so with fewer ticks
  -- than that the bound is never reached.
  abbrev pub instance : ℕ → ℕ → Spawning
  instance zero depth procedure arguments row leave = stop Budget
  instance (suc bound) depth procedure arguments row leave =
      entered (suc bound) depth row (calls (suc bound) 0 depth row (instance bound (suc depth))) (instance bound (suc depth)) (slice_get program.functions procedure) arguments leave

  -- The serial elision for at most `budget` ticks, where the shared words start so.
  abbrev pub elision_within : (ℕ → ℤ) → ℕ → End
  elision_within start budget =
      instance (suc budget) 0 program.main [] 0 (λ v. stop Finished) [] budget (first_world start)

-- the same under the limits of the language
abbrev pub elision : Program → (ℕ → ℤ) → ℕ → End
elision program start budget = elision_within limits program start budget
