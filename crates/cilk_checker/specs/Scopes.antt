-- The locals in scope, as the checker keeps them.
use Rattle.std.specs.Prelude.{◌≡◌, ℕ, List, [], ◌∷◌, None}
use Rattle.std.specs.List.{fold}
use Rattle.cilk_tree.specs.Lawful.Scope as scope
use Rattle.cilk_tree.specs.Lawful.Scope.{Point, local_named}
use Rattle.cilk_checker.specs.declared.locals.Local.{Local}
use Rattle.cilk_checker.specs.declared.locals.Locals.TheInside.{Inside}
use Rattle.cilk_checker.specs.Names.{value_at}

-- the scope with one local more
abbrev pub with_one : List scope.Local → Local → List scope.Local
with_one below local = record { name = local.name.now; number = local.number } ∷ below

-- the scope of these locals, the latest last
abbrev pub scope_of : List Local → List scope.Local
scope_of stack = fold with_one [] stack

-- the point that they stand for
abbrev pub point_of : Inside → Point
point_of locals = record { statement = locals.statement; local = locals.local; scope = scope_of locals.stack.items }

-- no name stands twice in the scope
abbrev pub IsFresh : List scope.Local → Type 0
IsFresh [] = Unit {0}
IsFresh (local ∷ below) = (local_named below local.name ≡ None) × IsFresh below

-- the table of numbers is that of the scope
pub record IsTidy (locals : Inside) : Type 0 where
  pub fresh : IsFresh (scope_of locals.stack.items)
  pub agrees : (name : List ℕ) → value_at locals.numbers.values name ≡ local_named (scope_of locals.stack.items) name
