-- An act of a frame bears one child.
use Rattle.std.proofs.Common.{◌≡◌, inl, inr, ℕ, [], ◌∷◌, Some, length, refl, sym, ◌∙◌, ap, subst}
use Rattle.page_messages.specs.declared.closure.FrameId.{FrameId}
use Rattle.page_messages.specs.declared.log.LoggedAct.TheVariants as act
use Rattle.page_messages.specs.declared.log.Item.TheVariants as item
use Rattle.cluster_rules.specs.Turns.{Event, Did}
use Rattle.cluster_rules.specs.Positions.{Moved, Course, at}
use Rattle.cluster_rules.specs.Runs.{Cluster}
use Rattle.cluster_rules.proofs.Stepping.{Stepped}
use Rattle.cluster_rules.proofs.Claimed.{ClaimsEvent, claimed_once}
use Rattle.cluster_order.proofs.Growing.{within, at_behind, at_last}
use Rattle.cluster_edges.proofs.Ties.{Spawns, Born}
use Rattle.cluster_edges.proofs.Completing.{BearsOnce}

-- ---- at a position

pub record BornAt (parent : FrameId) (index : ℕ) (child : FrameId) (course : Course) : Type 0 where
  pub position : ℕ
  pub moved : Moved
  pub found : at course position ≡ Some moved
  pub spawns : Spawns parent index child moved.event

pub born_at : (parent : FrameId) (index : ℕ) (child : FrameId) (course : Course) → Born parent index child course → BornAt parent index child course
born_at parent index child [] born = absurd born
born_at parent index child (moved ∷ course) (inl spawns) = record { position = length course; moved = moved; found = at_last moved course; spawns = spawns }
born_at parent index child (moved ∷ course) (inr born) =
    let it = born_at parent index child course born in
    record {
      position = it.position;
      moved = it.moved;
      found = at_behind (moved ∷ []) course it.position (within course it.position it.moved it.found) ∙ it.found;
      spawns = it.spawns;
    }

spawn_claims : (parent : FrameId) (index : ℕ) (child : FrameId) (event : Event) → Spawns parent index child event → ClaimsEvent parent index event
spawn_claims parent index child event spawns = subst (ClaimsEvent parent index) (sym spawns.2) (refl, refl)

same_spawn : (parent : FrameId) (index : ℕ) (child other : FrameId) (event : Event) → Spawns parent index child event → Spawns parent index other event
    → child ≡ other
same_spawn parent index child other event one two =
    let same : Did (item.Act parent index (act.Spawn child one.0 one.1)) ≡ Did (item.Act parent index (act.Spawn other two.0 two.1)) = sym one.2 ∙ two.2 in
    cc

-- An act of a frame bears one child.
pub bears_once : (cluster : Cluster) (course : Course) → Stepped cluster course → BearsOnce course
bears_once cluster course stepped = λ parent index child other one two.
    let first = born_at parent index child course one in
    let second = born_at parent index other course two in
    let same = claimed_once cluster course stepped parent index first.position second.position first.moved second.moved first.found second.found
    (spawn_claims parent index child first.moved.event first.spawns) (spawn_claims parent index other second.moved.event second.spawns) in
    let some : Some first.moved ≡ Some second.moved = sym first.found ∙ ap (at course) same ∙ second.found in
    let moved_same : first.moved ≡ second.moved = cc in
    same_spawn parent index child other second.moved.event (subst (λ (it : Moved). Spawns parent index child it.event) moved_same first.spawns) second.spawns
