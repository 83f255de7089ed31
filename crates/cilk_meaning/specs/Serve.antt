-- The depth-first service of instances that are known by their wants alone: the one that runs is answered from the world, and its
-- parents wait.
use Rattle.std.specs.Prelude.{ℕ, zero, suc, ℤ, Option, Some, None, List, [], ◌∷◌, ◌++◌, length}
use Rattle.cilk_meaning.specs.declared.ends.NodeEnd.TheVariants.{Finished, Trapped, Budget}
use Rattle.cilk_meaning.specs.Instance.{Meaning}
use Rattle.cilk_meaning.specs.Wants.{Request, Read, Write, Add, Print, Spawn, Sync, Call, LoopTurn, Want, Asks, Returns, Traps, Deposit, Answer, Value, Children, Done}
use Rattle.cilk_meaning.specs.World.{World, End, first_world, after_read, after_write, after_add, after_print, after_spawn, after_sync, after_tick}

abbrev pub first_of : List Want → Option Want
first_of [] = None
first_of (want ∷ wants) = Some want

abbrev pub rest_of : List Want → List Want
rest_of [] = []
rest_of (want ∷ wants) = wants

-- what an instance wants now, and the instance after an answer
abbrev pub now : Meaning → Option Want
now goes = first_of (goes [])

abbrev pub after : Meaning → Answer → Meaning
after goes answer = λ answers. rest_of (goes (answer ∷ answers))

-- an instance, its row, and what the children of its block gave back
pub record Entry : Type 0 where
  pub goes : Meaning
  pub row : ℕ
  pub kept : List Deposit

-- an instance that waits for its child, whose value goes to this target
pub record Parent : Type 0 where
  pub entry : Entry
  pub target : Option ℕ

-- the instance that runs, its parents, the nearest first, and the world
pub record State : Type 0 where
  pub running : Entry
  pub waiting : List Parent
  pub world : World

-- an instance behind an answer, which keeps this for its next sync
abbrev pub answered : Answer → List Deposit → Entry → Entry
answered answer kept entry = record { goes = after entry.goes answer; row = entry.row; kept = kept }

-- A request that the running instance goes on from: with this answer, what it keeps then, and the world then.
abbrev pub replied : Answer → List Deposit → World → State → State
replied answer kept world state = record { running = answered answer kept state.running; waiting = state.waiting; world = world }

-- a value goes back to the parent, which then runs
abbrev pub with_child : Parent → ℤ → Entry
with_child parent v = record { goes = parent.entry.goes; row = parent.entry.row; kept = parent.entry.kept ++ (parent.target, v) ∷ [] }

module _ (start : ℕ → ℕ → List ℤ → Meaning) where
  -- The state behind a request. A child runs at once; as many instances wait then as it is deep.
  abbrev pub served : Request → State → State
  served (Read word) state = replied (Value (state.world.memory word)) state.running.kept (after_read state.running.row word state.world) state
  served (Write word value) state = replied Done state.running.kept (after_write state.running.row word value state.world) state
  served (Add word addend) state = replied (Value (state.world.memory word)) state.running.kept (after_add state.running.row word addend state.world) state
  served (Print value) state = replied Done state.running.kept (after_print state.running.row value state.world) state
  served (Spawn target procedure arguments) state = record {
    running = record { goes = start (suc (length state.waiting)) procedure arguments; row = state.world.rows; kept = [] };
    waiting = record { entry = answered Done state.running.kept state.running; target = target } ∷ state.waiting;
    world = after_spawn state.running.row procedure arguments state.world;
  }
  served Sync state = replied (Children state.running.kept) [] (after_sync state.running.row state.world) state
  served Call state = replied Done state.running.kept (after_tick state.running.row state.world) state
  served LoopTurn state = replied Done state.running.kept (after_tick state.running.row state.world) state

-- What becomes of a request, and so of a state.
abbrev pub Serving : Type 0
Serving = Request → State → End

-- what a want leads to, where a value goes back so
abbrev pub serve_want : Serving → (ℤ → World → End) → Option Want → State → End
serve_want serving back None state = record { end = Budget; world = state.world }
serve_want serving back (Some (Asks request)) state = serving request state
serve_want serving back (Some (Returns v)) state = back v state.world
serve_want serving back (Some (Traps kind)) state = record { end = Trapped kind; world = state.world }

-- A value goes back to the nearest parent; where there is none, `main` has returned.
abbrev pub serve_return : Serving → List Parent → ℤ → World → End
serve_return serving [] v world = record { end = Finished; world = world }
serve_return serving (parent ∷ parents) v world =
    serve_want serving (serve_return serving parents) (now parent.entry.goes) (record { running = with_child parent v; waiting = parents; world = world })

abbrev pub serve_with : Serving → State → End
serve_with serving state = serve_want serving (serve_return serving state.waiting) (now state.running.goes) state

module _ (start : ℕ → ℕ → List ℤ → Meaning) where
  -- a request where so many ticks are left
  abbrev pub serve_request : ℕ → Serving
  serve_request zero request state = record { end = Budget; world = state.world }
  serve_request (suc left) request state = serve_with (serve_request left) (served start request state)

  -- The service of a state for at most so many ticks.
  abbrev pub serve : ℕ → State → End
  serve left = serve_with (serve_request left)

  -- before the first tick of `main`
  abbrev pub first_state : ℕ → (ℕ → ℤ) → State
  first_state main memory = record { running = record { goes = start 0 main []; row = 0; kept = [] }; waiting = []; world = first_world memory }
