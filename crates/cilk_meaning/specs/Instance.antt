-- What an instance of a procedure wants, by cases on the tree: the wants that it makes for some answers.
use Rattle.std.specs.Prelude.{ℕ, zero, suc, ◌==◌, ℤ, pos, ◌+ℤ◌, Bool, true, false, if◌then◌else◌, Option, Some, None, Result, Ok, Err, List, [], ◌∷◌, length, slice_get, slice_set}
use Rattle.cilk_meaning.specs.declared.ends.TrapKind.{TrapKind}
use Rattle.cilk_meaning.specs.declared.ends.TrapKind.TheVariants.{TooDeep}
use Rattle.cilk_meaning.specs.Locals.{Locals, local_at, assigned, deposited, first_locals, extent_of}
use Rattle.cilk_meaning.specs.Resolved.{Expr, Number, Local, Get, Unary, Binary, Stmt, Skip, Then, Assign, Put, Print, If, While, Call, Spawn, Add, Sync, Return, Function, Extent, Program}
use Rattle.cilk_meaning.specs.Values.{is_zero, exact, negated, decided, operated, word_of}
use Rattle.cilk_meaning.specs.Wants as want
use Rattle.cilk_meaning.specs.Wants.{Request, Want, Asks, Returns, Traps, Deposit, Answer, Value, Children, Done}

-- How deep instances may nest, and how many plain calls may be open in one.
pub record Limits : Type 0 where
  pub depth : ℕ
  pub calls : ℕ

abbrev pub limits : Limits
limits = record { depth = 4096; calls = 4096 }

-- The wants that are made for a list of answers. Each takes the next answer; the last one has none left, or ends the instance.
abbrev pub Meaning : Type 0
Meaning = List Answer → List Want

-- a want that ends the instance
abbrev pub ends : Want → Meaning
ends want answers = want ∷ []

-- nothing, behind an answer of another kind than was asked for
abbrev pub silent : Meaning
silent answers = []

-- a request, and what follows its answer
abbrev pub ask : Request → (Answer → Meaning) → Meaning
ask request next [] = Asks request ∷ []
ask request next (answer ∷ answers) = Asks request ∷ next answer answers

abbrev pub on_value : (ℤ → Meaning) → Answer → Meaning
on_value next (Value value) = next value
on_value next (Children deposits) = silent
on_value next Done = silent

abbrev pub on_children : (List Deposit → Meaning) → Answer → Meaning
on_children next (Value value) = silent
on_children next (Children deposits) = next deposits
on_children next Done = silent

abbrev pub on_done : Meaning → Answer → Meaning
on_done next (Value value) = silent
on_done next (Children deposits) = silent
on_done next Done = next

-- goes on with a value, or traps
abbrev pub given : {A : Type 0} → Result A TrapKind → (A → Meaning) → Meaning
given (Ok value) next = next value
given (Err kind) next = ends (Traps kind)

-- goes on with the value of an operator where its left operand decides it, and else otherwise
abbrev pub decides : Option ℤ → (ℤ → Meaning) → Meaning → Meaning
decides (Some value) next otherwise = next value
decides None next otherwise = otherwise

-- traps where the limit is reached
abbrev pub limited : ℕ → ℕ → Meaning → Meaning
limited limit reached next = if reached == limit then ends (Traps TooDeep) else next

-- an expression, and then what follows with its value
abbrev pub value : List Extent → Expr → Locals → (ℤ → Meaning) → Meaning
value shared (Number number) locals next = next number
value shared (Local local) locals next = next (local_at locals local)
value shared (Get array index) locals next =
    value shared index locals (λ i. given (word_of (extent_of shared array) i) (λ word. ask (want.Read word) (on_value next)))
value shared (Unary operator operand) locals next = value shared operand locals (λ x. given (negated operator x) next)
value shared (Binary operator left right) locals next =
    value shared left locals (λ x. decides (decided operator x) next
    (value shared right locals (λ y. given (operated operator x y) next)))

-- expressions from left to right, and then what follows with their values
abbrev pub values : List Extent → List Expr → Locals → (List ℤ → Meaning) → Meaning
values shared [] locals next = next []
values shared (first ∷ rest) locals next = value shared first locals (λ v. values shared rest locals (λ vs. next (v ∷ vs)))

-- An add: where its sum is no value, it traps when it is answered.
abbrev pub adding : ℕ → ℤ → (ℤ → Meaning) → Meaning
adding word addend next = ask (want.Add word addend) (on_value (λ old. given (exact (old +ℤ addend)) (λ sum. next old)))

-- at most so many turns of a loop, each of which begins with a LoopTurn before its condition
abbrev pub turns : ℕ → (Locals → (ℤ → Meaning) → Meaning) → (Locals → (Locals → Meaning) → Meaning) → Locals → (Locals → Meaning) → Meaning
turns zero condition body locals next = silent
turns (suc n) condition body locals next =
    ask want.LoopTurn (on_done (condition locals (λ v. if is_zero v then next locals else body locals (λ after. turns n condition body after next))))

-- a sync, which the values of the block's children follow
abbrev pub syncing : Locals → (Locals → Meaning) → Meaning
syncing locals next = ask want.Sync (on_children (λ deposits. next (deposited deposits locals)))

-- the sync that a `cilk` procedure makes before it returns
abbrev pub synced : Bool → Locals → (Locals → Meaning) → Meaning
synced true locals next = syncing locals next
synced false locals next = next locals

-- a plain call: the function, its arguments, and what follows with its value
abbrev pub Calling : Type 0
Calling = ℕ → List ℤ → (ℤ → Meaning) → Meaning

-- What the statements of a function may use: the arrays, whether the function is a `cilk` procedure, how deep an instance may be and
-- how deep this one is, its plain calls, a bound on the turns of a loop, and what follows its return.
pub record Around : Type 0 where
  pub shared : List Extent
  pub «cilk» : Bool
  pub deepest : ℕ
  pub depth : ℕ
  pub call : Calling
  pub turns : ℕ
  pub leave : ℤ → Meaning

-- a statement, and then what follows with the locals after it
abbrev pub does : Around → Stmt → Locals → (Locals → Meaning) → Meaning
does a Skip locals next = next locals
does a (Then first second) locals next = does a first locals (λ after. does a second after next)
does a (Assign local e) locals next = value a.shared e locals (λ v. next (slice_set locals local v))
does a (Put array index e) locals next =
    value a.shared index locals (λ i. value a.shared e locals (λ v.
    given (word_of (extent_of a.shared array) i) (λ word. ask (want.Write word v) (on_done (next locals)))))
does a (Print e) locals next = value a.shared e locals (λ v. ask (want.Print v) (on_done (next locals)))
does a (If condition met unmet) locals next =
    value a.shared condition locals (λ v. if is_zero v then does a unmet locals next else does a met locals next)
does a (While condition body) locals next = turns a.turns (value a.shared condition) (does a body) locals next
does a (Call target function arguments) locals next =
    values a.shared arguments locals (λ vs. a.call function vs (λ v. next (assigned target v locals)))
does a (Spawn target procedure arguments) locals next =
    values a.shared arguments locals (λ vs. limited a.deepest a.depth (ask (want.Spawn target procedure vs) (on_done (next locals))))
does a (Add target array index e) locals next =
    value a.shared index locals (λ i. value a.shared e locals (λ addend.
    given (word_of (extent_of a.shared array) i) (λ word. adding word addend (λ old. next (assigned target old locals)))))
does a Sync locals next = syncing locals next
does a (Return e) locals next = synced a.«cilk» locals (λ after. value a.shared e after a.leave)

-- a body: it gives 0 where it comes to its end
abbrev pub whole : Around → Stmt → Locals → Meaning
whole a body locals = does a body locals (λ after. synced a.«cilk» after (λ last. a.leave (pos 0)))

module _ (most : Limits) (program : Program) (depth : ℕ) where
  -- a function's body, and what follows its return; a function that the program has not gives 0
  abbrev pub entered : ℕ → Calling → Option Function → List ℤ → (ℤ → Meaning) → Meaning
  entered bound call None arguments leave = leave (pos 0)
  entered bound call (Some function) arguments leave =
      whole (record { shared = program.shared; «cilk» = function.«cilk»; deepest = most.depth; depth = depth; call = call; turns = bound; leave = leave })
      function.body (first_locals function arguments)

  -- a plain call where so many are open; in the function each loop has at most `bound` turns, and calls nest at most so deep
  abbrev pub calls : ℕ → ℕ → Calling
  calls zero opened function arguments next = silent
  calls (suc bound) opened function arguments next =
      limited most.calls opened (ask want.Call (on_done
      (entered bound (calls bound (suc opened)) (slice_get program.functions function) arguments next)))

  -- an instance at this depth, exact for fewer than `bound` answers, since each turn and each call uses one up
  abbrev pub instance : ℕ → ℕ → List ℤ → Meaning
  instance bound procedure arguments =
      entered bound (calls bound 0) (slice_get program.functions procedure) arguments (λ v. ends (Returns v))

  -- The wants of an instance of a procedure, with these arguments and at this depth, for some answers.
  abbrev pub wants_within : ℕ → List ℤ → Meaning
  wants_within procedure arguments answers = instance (suc (length answers)) procedure arguments answers

-- the same under the limits of the language
abbrev pub wants : Program → ℕ → ℕ → List ℤ → Meaning
wants program depth procedure arguments = wants_within limits program depth procedure arguments
