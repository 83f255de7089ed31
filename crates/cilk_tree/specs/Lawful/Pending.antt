-- The rule 209: a local that a spawn gives its value to is used before a sync, on some path.
use Rattle.std.specs.Prelude.{◌≡◌, ◌⊎◌, ℕ, Bool, false, ◌||◌, ◌==◌, IsTrue, List, [], ◌∷◌, Option, Some, None, slice_get, option_and_then}
use Rattle.std.specs.List.{filter_map, list_any}
use Rattle.cilk_tree.specs.declared.place.CheckPlace.{CheckPlace}
use Rattle.cilk_tree.specs.declared.place.CheckPlace.TheVariants as place
use Rattle.cilk_tree.specs.declared.tree.Function.{Function}
use Rattle.cilk_tree.specs.declared.tree.Program.{Program}
use Rattle.cilk_tree.specs.declared.tree.Stmt.TheOpen as head
use Rattle.cilk_tree.specs.Lawful.Flow.{Head, Flow, Nothing, At, Then, Either, Loop, flow_of}
use Rattle.cilk_tree.specs.Lawful.Rules.{Need, NeedsVariable, NeedsArray, NeedsFunction, head_uses}
use Rattle.cilk_tree.specs.Lawful.Scope.{Local, Point, local_named}

-- a set of locals, by their numbers: those that a spawn still may set
abbrev pub Pending : Type 0
Pending = ℕ → Bool

-- the empty set
abbrev pub none : Pending
none local = false

-- the union of two sets
abbrev pub both : Pending → Pending → Pending
both one other local = one local || other local

-- the first set is within the second
abbrev pub IsWithin : Pending → Pending → Type 0
IsWithin one other = (local : ℕ) → IsTrue (one local) → IsTrue (other local)

-- the set is one of those, and within each of them
pub record IsLeast (Solves : Pending → Type 0) (set : Pending) : Type 0 where
  pub solves : Solves set
  pub least : (other : Pending) → Solves other → IsWithin set other

-- the set with one local more, where there is one
abbrev pub with_local : Option ℕ → Pending → Pending
with_local None set = set
with_local (Some number) set = λ local. set local || local == number

-- What a statement itself does to the set: a spawn adds its target; a sync and a return empty it.
abbrev pub after_head : List Local → Head → Pending → Pending
after_head scope (head.Spawn target name arguments) set = with_local (option_and_then (local_named scope) target) set
after_head scope head.Sync set = none
after_head scope (head.Return value) set = none
after_head scope _ set = set

-- the local that is used, where a variable is needed
abbrev pub needed_local : List Local → Need → List ℕ → Option ℕ
needed_local scope NeedsVariable name = local_named scope name
needed_local scope NeedsArray name = None
needed_local scope NeedsFunction name = None

-- The locals that a statement itself declares, sets or reads while the set stands: none of a return's, which empties it
-- before its expression is read.
abbrev pub touched : Point → Head → List ℕ
touched point (head.Declare name) = point.local ∷ []
touched point (head.Return value) = []
touched point statement = filter_map (λ used. needed_local point.scope used.need used.name) (head_uses statement)

-- The set after a flow, from the set before it. Where two ways meet it is the union of theirs. A loop's set is the least one that
-- is the union of the set before the loop and the set at the end of a turn from it; it stands before each turn and after the loop.
abbrev pub Ends : Flow → Pending → Pending → Type 0
Ends Nothing before after = after ≡ before
Ends (At site) before after = after ≡ after_head site.point.scope site.head before
Ends (Then first second) before after = (middle : Pending) × Ends first before middle × Ends second middle after
Ends (Either met unmet) before after = (one other : Pending) × Ends met before one × Ends unmet before other × (after ≡ both one other)
Ends (Loop turn) before after = IsLeast (λ set. (end : Pending) × Ends turn set end × (set ≡ both before end)) after

-- From this set before the flow, the statement of this number declares, sets or reads a local that is pending there.
abbrev pub UsesPending : Flow → Pending → ℕ → Type 0
UsesPending Nothing before statement = ⊥
UsesPending (At site) before statement = (statement ≡ site.point.statement) × IsTrue (list_any before (touched site.point site.head))
UsesPending (Then first second) before statement =
    UsesPending first before statement ⊎ ((middle : Pending) × Ends first before middle × UsesPending second middle statement)
UsesPending (Either met unmet) before statement = UsesPending met before statement ⊎ UsesPending unmet before statement
UsesPending (Loop turn) before statement = (set : Pending) × Ends (Loop turn) before set × UsesPending turn set statement

-- 209 is broken at this place: a statement, in a function where nothing is pending at first
abbrev pub UsesBeforeSync : Program → CheckPlace → Type 0
UsesBeforeSync program (place.Shared number) = ⊥
UsesBeforeSync program (place.Function number) = ⊥
UsesBeforeSync program (place.Statement number statement) =
    (function : Function) × (slice_get program.functions number ≡ Some function) × UsesPending (flow_of function) none statement
UsesBeforeSync program place.Whole = ⊥
