-- The joins of a node, at each of which a stolen frame and the children that were separated from it come together.
use Rattle.std.specs.Prelude.{◌≡◌, ℕ, ◌+◌, ◌<◌, ◌==◌, ◌&&◌, if◌then◌else◌, nat_eq, ℤ, Bool, false, Option, Some, None, is_some, IfSome, IsSome, List, [], ◌∷◌, ◌++◌, length}
use Rattle.std.specs.BTreeMap.{insert_entry}
use Rattle.std.specs.List.{AllByRecursion, list_all}
use Rattle.std.specs.Map.{lookup, update}
use Rattle.std.specs.Option.{option_map, option_map_or, unwrap_or}
use Rattle.std.specs.Ordering.{nat_cmp}
use Rattle.cilk_meaning.specs.Wants.{Deposit}
use Rattle.machine_code.specs.Early.{with_values}
use Rattle.machine_code.specs.Machine.{Code}
use Rattle.page_messages.specs.declared.closure.Child.{Child}
use Rattle.page_messages.specs.declared.closure.Closure.{Closure}
use Rattle.page_messages.specs.declared.closure.JoinId.{JoinId}
use Rattle.plain_machine.specs.Standing.{StandsIn, own_locals}

-- the values of the children that have come, by the index of the act that spawned the child
abbrev pub Values : Type 0
Values = List (ℕ × ℤ)

-- What a join keeps: the values that came, and the closure that is parked.
pub record Join : Type 0 where
  pub came : Values
  pub parked : Option Closure

-- The node, how many joins it started, and those that are not over, by number.
pub record Joins : Type 0 where
  pub node : ℕ
  pub started : ℕ
  pub waiting : List (ℕ × Join)

-- ---- one join

-- the value of the child that the act of this index spawned, where it has come
abbrev pub value_of : Values → ℕ → Option ℤ
value_of came index = lookup (nat_eq index) came

-- a join to which nothing came
abbrev pub fresh : Join
fresh = record { came = []; parked = None }

-- a join to which the Done of this child came too
abbrev pub with_done : ℕ → ℤ → Join → Join
with_done index value join = record join { came = insert_entry nat_cmp join.came index value }

-- a join at which this closure is parked
abbrev pub with_parked : Closure → Join → Join
with_parked closure join = record join { parked = Some closure }

-- each of these children has come
abbrev pub have_come : Values → List Child → Bool
have_come came children = list_all (λ child. is_some (value_of came child.index)) children

-- A join is complete where its closure is parked, and each child that was separated from it has come.
abbrev pub is_complete : Join → Bool
is_complete join = option_map_or (λ closure. have_come join.came closure.away) join.parked false

-- a value for its target, where it came
abbrev pub targeted : Option ℕ → Option ℤ → List Deposit
targeted target None = []
targeted target (Some value) = (target, value) ∷ []

-- what these children gave back, each for its target, in this order
abbrev pub deposits_of : Values → List Child → List Deposit
deposits_of came [] = []
deposits_of came (child ∷ children) = targeted child.target (value_of came child.index) ++ deposits_of came children

-- The closure has the values of its separated children in its own function's locals, and is at no join any more.
abbrev pub joined : Values → Closure → Closure
joined came closure = record closure {
  frame = record closure.frame { frame = with_values (deposits_of came closure.away) closure.frame.frame };
  join = None;
  away = [];
}

-- what a join gives back: its closure, once the join is complete
abbrev pub given_back : Join → Option Closure
given_back join = if is_complete join then option_map (joined join.came) join.parked else None

-- what is left of a join: nothing, once it is complete
abbrev pub left_of : Join → Option Join
left_of join = if is_complete join then None else Some join

-- ---- all joins of a node

-- what the join of this number keeps, where it was started and is not over
abbrev pub join_at : Joins → ℕ → Option Join
join_at joins number = lookup (nat_eq number) joins.waiting

-- the join is one of this node, was started and is not over
abbrev pub is_waiting : Joins → JoinId → Bool
is_waiting joins join = (join.node == joins.node) && is_some (join_at joins join.number)

-- what a join keeps that is not over
abbrev pub kept_at : Joins → JoinId → Join
kept_at joins join = unwrap_or (join_at joins join.number) fresh

-- Only the join of this number has changed: it keeps this, or is over. All others are as they were.
pub record ChangesJoin (old new : Joins) (number : ℕ) (kept : Option Join) : Type 0 where
  pub node : new.node ≡ old.node
  pub started : new.started ≡ old.started
  pub joins : (other : ℕ) → join_at new other ≡ update nat_eq (join_at old) number kept other

-- the join that is started next
abbrev pub next_join : Joins → JoinId
next_join joins = record { node = joins.node; number = joins.started }

-- The next join was started.
abbrev pub StartsJoin : Joins → Joins → Type 0
StartsJoin old new = ChangesJoin (record old { started = old.started + 1 }) new old.started (Some fresh)

-- What holds of the joins of every node.
pub record AreJoins (joins : Joins) : Type 0 where
  -- those that are not over were started
  pub started : (number : ℕ) → IsSome (join_at joins number) → number < joins.started
  -- and none of them is complete
  pub incomplete : (number : ℕ) (join : Join) → join_at joins number ≡ Some join → is_complete join ≡ false

-- ---- closures at a join

-- the target, if there is one, is one of the locals
abbrev pub IsAmong : List ℤ → Option ℕ → Type 0
IsAmong locals target = IfSome target (λ local. local < length locals)

-- and so for each of these children
abbrev pub AreAmong : List ℤ → List Child → Type 0
AreAmong locals children = AllByRecursion (λ child. IsAmong locals child.target) children

-- Each target of the separated children is a local of the frame's own function.
abbrev pub HasTargets : Closure → Type 0
HasTargets closure = AreAmong (own_locals closure.frame.frame) closure.away

-- The frame of the closure, if there is one, stands in the code.
abbrev pub StandsThere : Code → Option Closure → Type 0
StandsThere code closure = IfSome closure (λ there. StandsIn code there.frame.frame)
