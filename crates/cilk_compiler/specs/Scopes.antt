-- The locals in scope, as the compiler keeps them.
use Rattle.std.specs.Prelude.{List, map, reverse}
use Rattle.cilk_tree.specs.Lawful.Scope as scope
use Rattle.cilk_tree.specs.Lawful.Scope.{Point}
use Rattle.cilk_compiler.specs.declared.locals.Local.{Local}
use Rattle.cilk_compiler.specs.declared.locals.Locals.TheInside.{Inside}

abbrev pub seen : Local → scope.Local
seen local = record { name = local.name.now; number = local.number }

-- the scope of these locals, the latest last
abbrev pub scope_of : List Local → List scope.Local
scope_of stack = map seen (reverse stack)

-- the point that they stand for
abbrev pub point_of : Inside → Point
point_of locals = record { statement = locals.statement; local = locals.next; scope = scope_of locals.stack.items }
