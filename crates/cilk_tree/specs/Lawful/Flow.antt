-- The statements of a function, each with its number and what is in scope there, and how control goes through them.
use Rattle.std.specs.Prelude.{◌+◌, List, [], ◌∷◌, ◌++◌, map}
use Rattle.cilk_tree.specs.declared.tree.Function.{Function}
use Rattle.cilk_tree.specs.declared.tree.Stmt.{Stmt, fold-Stmt, map-Stmt}
use Rattle.cilk_tree.specs.declared.tree.Stmt.TheOpen as layer
use Rattle.cilk_tree.specs.declared.tree.Stmt.TheOpen.{Stmt-F}
use Rattle.cilk_tree.specs.Lawful.Scope.{Local, Point, declared, entry}

-- a statement without the statements that it holds: of an If or a While the condition
abbrev pub Head : Type 0
Head = Stmt-F (Unit {0})

abbrev pub head_of : {A : Type 0} → Stmt-F A → Head
head_of {A} statement = map-Stmt A (Unit {0}) (λ _. tt) statement

-- a statement and the point before it
pub record Site : Type 0 where
  pub point : Point
  pub head : Head

-- How control goes: nowhere, through one statement's head, through one part and then another, through one of two parts,
-- or round a part any number of times.
pub data Flow : Type 0 where
  Nothing : Flow
  At : (site : Site) → Flow
  Then : (first : Flow) (second : Flow) → Flow
  Either : (met : Flow) (unmet : Flow) → Flow
  Loop : (turn : Flow) → Flow

-- the statements in preorder
abbrev pub sites : Flow → List Site
sites Nothing = []
sites (At site) = site ∷ []
sites (Then first second) = sites first ++ sites second
sites (Either met unmet) = sites met ++ sites unmet
sites (Loop turn) = sites turn

-- A statement as a part of its function: from the point before it, how control goes through it, and the point after it.
pub record Part : Type 0 where
  pub flow : Point → Flow
  pub after : Point → Point

-- the point after one part after another
abbrev pub after_all : List Part → Point → Point
after_all [] point = point
after_all (first ∷ rest) point = after_all rest (first.after point)

-- how control goes through one part after another
abbrev pub in_order : List Part → Point → Flow
in_order [] point = Nothing
in_order (first ∷ rest) point = Then (first.flow point) (in_order rest (first.after point))

-- the point before the first statement that a statement holds
abbrev pub inside : Point → Point
inside point = record { statement = point.statement + 1; local = point.local; scope = point.scope }

-- the point, with this scope
abbrev pub with_scope : List Local → Point → Point
with_scope scope point = record { statement = point.statement; local = point.local; scope = scope }

-- the point after a list that a statement holds: what the list declares is in scope to its end alone
abbrev pub after_list : List Part → Point → Point
after_list parts point = with_scope point.scope (after_all parts point)

-- the point after a statement, where the statements that it holds are replaced by their own answers
abbrev pub after_here : Stmt-F Part → Point → Point
after_here (layer.Declare name) point = declared (inside point) name
after_here (layer.If condition met unmet) point = after_list unmet (after_list met (inside point))
after_here (layer.While condition body) point = after_list body (inside point)
after_here (layer.Block body) point = after_list body (inside point)
after_here _ point = inside point

-- how control goes through a statement's head alone
abbrev pub here : {A : Type 0} → Point → Stmt-F A → Flow
here point statement = At (record { point = point; head = head_of statement })

-- How control goes through a statement, in the same way: after its condition an If takes one of its lists, and a While goes round
-- its condition and its body.
abbrev pub flow_here : Stmt-F Part → Point → Flow
flow_here (layer.If condition met unmet) point =
    Then (here point (layer.If condition met unmet)) (Either (in_order met (inside point)) (in_order unmet (after_list met (inside point))))
flow_here (layer.While condition body) point =
    Loop (Then (here point (layer.While condition body)) (in_order body (inside point)))
flow_here (layer.Block body) point =
    Then (here point (layer.Block body)) (in_order body (inside point))
flow_here statement point = here point statement

-- one step of `part_of`
abbrev pub part_here : Stmt-F Part → Part
part_here statement = record { flow = flow_here statement; after = after_here statement }

-- a statement as a part of its function
abbrev pub part_of : Stmt → Part
part_of = fold-Stmt Part part_here

-- how control goes through a function's body
abbrev pub flow_of : Function → Flow
flow_of function = in_order (map part_of function.body) (entry function)
