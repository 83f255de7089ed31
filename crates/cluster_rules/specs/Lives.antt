-- Frames as the past of a node has them: what each wants, and what its acts make of it.
use Rattle.std.specs.Prelude.{◌==◌, ◌&&◌, ℕ, suc, ℤ, Bool, Option, Some, None, List, [], ◌∷◌, ◌++◌}
use Rattle.cilk_meaning.specs.Instance.{Meaning}
use Rattle.cilk_meaning.specs.Serve.{now, after}
use Rattle.cilk_meaning.specs.Wants as want
use Rattle.cilk_meaning.specs.Wants.{Want, Asks, Returns, Traps, Deposit, Answer, Value, Children, Done}
use Rattle.machine_code.specs.Machine.{Frame, starts, wants}
use Rattle.page_messages.specs.declared.closure.FrameId.{FrameId}
use Rattle.page_messages.specs.declared.closure.JoinId.{JoinId}
use Rattle.page_messages.specs.declared.closure.Child.{Child}
use Rattle.page_messages.specs.declared.closure.Link.{Link}
use Rattle.page_messages.specs.declared.closure.Link.TheVariants.{Root, Here, Away}
use Rattle.page_messages.specs.declared.closure.Closure.{Closure}
use Rattle.page_messages.specs.declared.log.LoggedAct.{LoggedAct}
use Rattle.page_messages.specs.declared.log.LoggedAct.TheVariants.{Read, Write, Print, Spawn, Sync}
use Rattle.cluster_rules.specs.Node.{Node}
use Rattle.cluster_rules.specs.Walking.{with_first}

abbrev pub same_frame : FrameId → FrameId → Bool
same_frame first second = (first.node == second.node) && (first.number == second.number)

abbrev pub same_join : JoinId → JoinId → Bool
same_join first second = (first.node == second.node) && (first.number == second.number)

-- From what the frame at hand comes: from the start of a procedure with these arguments, or from the frame in a closure that was taken.
pub data Origin : Type 0 where
  Started : (procedure : ℕ) (arguments : List ℤ) → Origin
  Carried : (frame : Frame) → Origin

-- A frame where it is now.
pub record Life : Type 0 where
  pub id : FrameId
  pub origin : Origin
  pub depth : ℕ
  -- what it wants behind its items, for any further answers
  pub goes : Meaning
  -- how many acts it has made
  pub acts : ℕ
  pub link : Link
  -- the act of its parent that spawned it, and the local that its value is for
  pub spawned : Child
  -- its join, where it was granted in this block and the join is not complete
  pub join : Option JoinId
  -- the children of this block that were separated from it, in the order of those Grants
  pub away : List Child
  -- what children of this block gave back that is not in the frame yet: those that returned on this node and, where the frame came from its
  -- complete join, those that were separated from it
  pub kept : List Deposit

abbrev pub want_of : Life → Option Want
want_of life = now life.goes

-- ---- returned frames

abbrev pub value_in : Option Want → Option ℤ
value_in None = None
value_in (Some (Returns value)) = Some value
value_in (Some (Asks request)) = None
value_in (Some (Traps kind)) = None

abbrev pub returned : Life → Option ℤ
returned life = value_in (want_of life)

abbrev pub with_kept : List Deposit → Life → Life
with_kept deposits life = record life { kept = life.kept ++ deposits }

-- a frame that has returned gives its value to the one below it
abbrev pub live_from : List Deposit → List Life → List Life
live_from deposits [] = []
live_from deposits (life ∷ below) = elim (returned life) [
  | None ↦ with_kept deposits life ∷ below
  | Some value ↦ live_from ((life.spawned.target, value) ∷ []) below
]

-- The stack without the returned frames on top; its first frame is the highest that has not returned.
abbrev pub live : List Life → List Life
live stack = live_from [] stack

-- ---- answers and acts

abbrev pub answered : Answer → Life → Life
answered answer life = record life { goes = after life.goes answer }

abbrev pub made : Answer → Life → Life
made answer life = record (answered answer life) { acts = suc life.acts }

-- a frame behind an act of its own: at a Sync its children give back, and a new block begins
abbrev pub acted : LoggedAct → Life → Life
acted (Read word value) life = made (Value value) life
acted (Write word value) life = made Done life
acted (Print value) life = made Done life
acted (Spawn child procedure arguments) life = made Done life
acted Sync life = record (made (Children life.kept) life) { join = None; away = []; kept = [] }

-- a wanted add is answered by the old value
abbrev pub added : ℤ → List Life → List Life
added old stack = with_first (made (Value old)) stack

-- ---- children

abbrev pub target_in : Option Want → Option ℕ
target_in (Some (Asks (want.Spawn target procedure arguments))) = target
target_in _ = None

abbrev pub newborn : Node → FrameId → ℕ → List ℤ → Life → Life
newborn node child procedure arguments parent = record {
  id = child;
  origin = Started procedure arguments;
  depth = suc parent.depth;
  goes = starts node.code (suc parent.depth) procedure arguments;
  acts = 0;
  link = Here;
  spawned = record { index = parent.acts; target = target_in (want_of parent) };
  join = None;
  away = [];
  kept = [];
}

abbrev pub children_of : Node → LoggedAct → Life → List Life
children_of node (Spawn child procedure arguments) parent = newborn node child procedure arguments parent ∷ []
children_of node _ parent = []

-- The stack behind an act of its first frame: a child comes on top.
abbrev pub after_act : Node → LoggedAct → List Life → List Life
after_act node act [] = []
after_act node act (life ∷ below) = children_of node act life ++ (acted act life ∷ below)

abbrev pub main_id : FrameId
main_id = record { node = 0; number = 0 }

-- `main` at its start
abbrev pub main_life : Node → Life
main_life node = record {
  id = main_id;
  origin = Started node.code.main [];
  depth = 0;
  goes = starts node.code 0 node.code.main [];
  acts = 0;
  link = Root;
  spawned = record { index = 0; target = None };
  join = None;
  away = [];
  kept = [];
}

-- ---- frames that travel

abbrev pub link_to : Option JoinId → Link
link_to None = Here
link_to (Some join) = Away join

-- The stack behind a Grant, which takes its bottom frame for this join: the child directly above is separated from it.
abbrev pub without_bottom : Option JoinId → List Life → List Life
without_bottom join [] = []
without_bottom join (life ∷ []) = []
without_bottom join (child ∷ (parent ∷ [])) = record child { link = link_to join } ∷ []
without_bottom join (life ∷ (second ∷ (third ∷ below))) = life ∷ without_bottom join (second ∷ (third ∷ below))

-- a frame as it came in a closure
abbrev pub carried : Node → Closure → Life
carried node closure = record {
  id = closure.id;
  origin = Carried closure.frame.frame;
  depth = closure.frame.frame.depth;
  goes = wants node.code closure.frame.frame;
  acts = closure.acts;
  link = closure.link;
  spawned = closure.spawned;
  join = closure.join;
  away = closure.away;
  kept = [];
}
