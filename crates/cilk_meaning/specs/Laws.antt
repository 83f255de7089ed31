-- Laws of what instances want, and of the serial elision.
use Rattle.std.specs.Prelude.{◌≡◌, ◌≢◌, ℕ, suc, ◌<◌, ◌≤◌, ℤ, List, [], ◌++◌, length, take}
use Rattle.cilk_tree.specs.declared.tree.Program as source_program
use Rattle.cilk_tree.specs.declared.tree.Stmt.{Stmt}
use Rattle.cilk_tree.specs.Lawful.Flow.{part_of}
use Rattle.cilk_tree.specs.Lawful.Lawful.{IsLawful}
use Rattle.cilk_meaning.specs.declared.ends.NodeEnd.TheVariants.{Budget}
use Rattle.cilk_meaning.specs.Alone.{AreFitting, HasReturned, block_of}
use Rattle.cilk_meaning.specs.Elision.{elision_within}
use Rattle.cilk_meaning.specs.Instance.{Limits, instance, wants, wants_within}
use Rattle.cilk_meaning.specs.Parted.{IsParted}
use Rattle.cilk_meaning.specs.Resolved.{Program}
use Rattle.cilk_meaning.specs.Resolving.{resolved, resolving}
use Rattle.cilk_meaning.specs.Serve.{serve, first_state}
use Rattle.cilk_meaning.specs.Wants.{Answer}
use Rattle.cilk_meaning.specs.World.{ticks_of}

-- The bound of an instance does not show: each one above the number of answers gives the same wants.
abbrev pub BoundIsHidden : Type 0
BoundIsHidden = (most : Limits) (program : Program) (depth bound procedure : ℕ) (arguments : List ℤ) (answers : List Answer) → length answers < bound →
    instance most program depth bound procedure arguments answers ≡ wants_within most program depth procedure arguments answers

-- A want depends on the instance's own answers before it alone: what is answered later changes none of the wants so far.
abbrev pub WantsAreKept : Type 0
WantsAreKept = (most : Limits) (program : Program) (depth procedure : ℕ) (arguments : List ℤ) (answers more : List Answer) →
    take (suc (length answers)) (wants_within most program depth procedure arguments (answers ++ more)) ≡ wants_within most program depth procedure arguments answers

-- While its answers fit, an instance always wants something.
abbrev pub AlwaysWants : Type 0
AlwaysWants = (program : Program) (depth procedure : ℕ) (arguments : List ℤ) (answers : List Answer) → AreFitting program depth procedure arguments answers →
    length (wants program depth procedure arguments answers) ≡ suc (length answers)

-- Names are resolved from the points of the rules of lawful programs: each statement is the same part of its function, so each point has
-- the same scope there. What number a name gets in a scope is for the definition to say, and for the cases to show.
abbrev pub NamesInScope : Type 0
NamesInScope = (source : source_program.Program) (statement : Stmt) → (resolving source statement).part ≡ part_of statement

-- The resolved program of a lawful source has plain functions that are plain.
abbrev pub LawfulIsParted : Type 0
LawfulIsParted = (source : source_program.Program) → IsLawful source → IsParted (resolved source)

-- An instance returns only where it has spawned nothing since its last Sync.
abbrev pub ReturnsSynced : Type 0
ReturnsSynced = (program : Program) → IsParted program → (depth procedure : ℕ) (arguments : List ℤ) (answers : List Answer) (v : ℤ) →
    HasReturned program depth procedure arguments answers v → block_of [] (wants program depth procedure arguments answers) ≡ []

-- The serial elision is the depth-first service of the instances, with the same end, world and ticks.
abbrev pub ElisionIsService : Type 0
ElisionIsService = (most : Limits) (program : Program) (memory : ℕ → ℤ) (budget : ℕ) →
    elision_within most program memory budget ≡ serve (wants_within most program) budget (first_state (wants_within most program) program.main memory)

-- More ticks change nothing where the elision did not end for want of them.
abbrev pub MoreTicks : Type 0
MoreTicks = (most : Limits) (program : Program) (memory : ℕ → ℤ) (few many : ℕ) → few ≤ many → (elision_within most program memory few).end ≢ Budget →
    elision_within most program memory many ≡ elision_within most program memory few

-- It makes no more ticks than it may, and ends for want of them only where it has made them all.
abbrev pub TicksAreCounted : Type 0
TicksAreCounted = (most : Limits) (program : Program) (memory : ℕ → ℤ) (budget : ℕ) →
    (ticks_of (elision_within most program memory budget) ≤ budget) × ((elision_within most program memory budget).end ≡ Budget → ticks_of (elision_within most program memory budget) ≡ budget)

-- It ends for want of ticks only where it would make one more.
abbrev pub BudgetWantsMore : Type 0
BudgetWantsMore = (most : Limits) (program : Program) (memory : ℕ → ℤ) (budget : ℕ) → (elision_within most program memory budget).end ≡ Budget →
    ticks_of (elision_within most program memory (suc budget)) ≡ suc budget
