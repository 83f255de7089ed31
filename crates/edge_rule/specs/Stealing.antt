-- How the oldest frame of a stack is stolen.
use Rattle.std.specs.Prelude.{◌≡◌, Option, Some, None, List, [], ◌∷◌, ◌++◌}
use Rattle.page_messages.specs.declared.closure.Child.{Child}
use Rattle.page_messages.specs.declared.closure.Closure.{Closure}
use Rattle.page_messages.specs.declared.closure.JoinId.{JoinId}
use Rattle.page_messages.specs.declared.closure.Link.TheVariants.{Away}
use Rattle.edge_rule.specs.Joins.{Joins, StartsJoin, next_join}

-- the frames of a node, the oldest first: those of its deque, and the one that runs
abbrev pub stack_of : List Closure → Closure → List Closure
stack_of deque running = deque ++ running ∷ []

-- the join of a frame that is stolen: its own, or where it has none the next one of the node
abbrev pub join_for : Joins → Option JoinId → JoinId
join_for joins (Some join) = join
join_for joins None = next_join joins

-- And one is started where it has none.
abbrev pub StartsJoinFor : Option JoinId → Joins → Joins → Type 0
StartsJoinFor (Some join) old new = new ≡ old
StartsJoinFor None old new = StartsJoin old new

-- A stolen frame is at the join, and this child is the last that was separated from it.
abbrev pub stolen : JoinId → Child → Closure → Closure
stolen join child parent = record parent { join = Some join; away = parent.away ++ child ∷ [] }

-- A child that was separated from its parent gives its value to the join.
abbrev pub separated : JoinId → Closure → Closure
separated join child = record child { link = Away join }

-- What a thief takes of a stack: its oldest frame, where that has a child on the stack.
abbrev pub taken_from : Joins → List Closure → Option Closure
taken_from joins [] = None
taken_from joins (frame ∷ []) = None
taken_from joins (parent ∷ (child ∷ above)) = Some (stolen (join_for joins parent.join) child.spawned parent)

-- And what is left of it: the other frames, of which the oldest was that one's child.
abbrev pub left_behind : Joins → List Closure → List Closure
left_behind joins [] = []
left_behind joins (frame ∷ []) = []
left_behind joins (parent ∷ (child ∷ above)) = separated (join_for joins parent.join) child ∷ above

-- A join was started where the oldest frame of the stack has none.
abbrev pub StartsJoinForOldest : List Closure → Joins → Joins → Type 0
StartsJoinForOldest [] old new = new ≡ old
StartsJoinForOldest (parent ∷ above) old new = StartsJoinFor parent.join old new

-- ---- by parts

-- what the second frame of the stack is in its parent
abbrev pub second_of : List Closure → Closure → Child
second_of [] running = running.spawned
second_of (parent ∷ []) running = running.spawned
second_of (parent ∷ (child ∷ above)) running = child.spawned

abbrev pub with_first : (Closure → Closure) → List Closure → List Closure
with_first change [] = []
with_first change (first ∷ rest) = change first ∷ rest

-- The oldest frame of the deque was taken, with its join and one child less.
pub record TakesParted (child : Child) (before after : Joins) (old new : List Closure) (taken : Closure) (join : JoinId) : Type 0 where
  pub parent : Closure
  pub deque : old ≡ parent ∷ new
  pub closure : taken ≡ stolen (join_for before parent.join) child parent
  pub join_is : join ≡ join_for before parent.join
  pub joins : StartsJoinFor parent.join before after
