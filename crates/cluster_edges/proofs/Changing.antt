-- The frames of a node behind an event that says nothing of where a frame was sent or taken up.
use Rattle.std.proofs.Common.{◌≡◌, inl, ℕ, ℤ, List, [], ◌∷◌, ◌++◌, Some, None, Bool, true, false, cond, refl, sym, subst}
use Rattle.cilk_meaning.specs.Wants.{Done as DoneAnswer}
use Rattle.page_messages.specs.declared.closure.FrameId.{FrameId}
use Rattle.page_messages.specs.declared.message.Body.{Body}
use Rattle.page_messages.specs.declared.message.Body.TheVariants as body
use Rattle.page_messages.specs.declared.log.LoggedAct.{LoggedAct}
use Rattle.page_messages.specs.declared.log.LoggedAct.TheVariants as act
use Rattle.cluster_rules.specs.Walking.{first_of, with_first}
use Rattle.cluster_rules.specs.Turns.{Past}
use Rattle.cluster_rules.specs.Node.{Node}
use Rattle.cluster_rules.specs.Lives.{Life, live, answered, added, after_act}
use Rattle.cluster_rules.specs.Frames.{Frames, Parked, with_stack, with_joined, all_joined, frames_took}
use Rattle.cluster_rules.specs.Positions.{Course}
use Rattle.cluster_rules.specs.Runs.{Cluster}
use Rattle.cluster_rules.proofs.Marks.{first_is}
use Rattle.cluster_edges.proofs.Through.{Property, EachLife, each_append, each_live, each_answered, each_added, each_joined, each_still, parked_append_each, parked_change}
use Rattle.cluster_edges.proofs.Placed.{OnStack, OnReady, AtJoin, Coming, Placed}

-- ---- acts

after_first : (Holds : Property) (node : Node) (done : LoggedAct) (life : Life) (below : List Life) → EachLife Holds (life ∷ below)
    → ((child : FrameId) (procedure : ℕ) (arguments : List ℤ) → done ≡ act.Spawn child procedure arguments → Holds child None)
    → (done ≡ act.Sync → Holds life.id None)
    → EachLife Holds (after_act node done (life ∷ below))
after_first Holds node (act.Read word value) life below all spawned synced = all
after_first Holds node (act.Write word value) life below all spawned synced = all
after_first Holds node (act.Print value) life below all spawned synced = all
after_first Holds node (act.Spawn child procedure arguments) life below all spawned synced = (spawned child procedure arguments refl, all)
after_first Holds node act.Sync life below all spawned synced = (synced refl, all.1)

-- Behind an act of the first frame: a child comes on top, and at a Sync the frame has no join any more.
pub each_acted : (Holds : Property) (node : Node) (done : LoggedAct) (life : Life) (lives : List Life) → first_of lives ≡ Some life → EachLife Holds lives
    → ((child : FrameId) (procedure : ℕ) (arguments : List ℤ) → done ≡ act.Spawn child procedure arguments → Holds child None)
    → (done ≡ act.Sync → Holds life.id None)
    → EachLife Holds (after_act node done lives)
each_acted Holds node done life lives is all spawned synced =
    let parts = first_is lives life is in
    subst (λ it. EachLife Holds (after_act node done it)) (sym parts.1)
    (after_first Holds node done life parts.0 (subst (EachLife Holds) parts.1 all) spawned synced)

-- ---- frames

module _ (cluster : Cluster) (number : ℕ) (course : Course) where
  pub placed_stack : (stack : List Life) (frames : Frames) → Placed cluster number course frames → EachLife (OnStack cluster number course) stack
      → Placed cluster number course (with_stack stack frames)
  placed_stack stack frames placed all = record { stack = all; ready = placed.ready; parked = placed.parked }

  pub placed_live : (frames : Frames) → Placed cluster number course frames → EachLife (OnStack cluster number course) (live frames.stack)
  placed_live frames placed = each_live (OnStack cluster number course) frames.stack placed.stack

  pub placed_ticked : (frames : Frames) → Placed cluster number course frames
      → Placed cluster number course (with_stack (with_first (answered DoneAnswer) (live frames.stack)) frames)
  placed_ticked frames placed =
      placed_stack (with_first (answered DoneAnswer) (live frames.stack)) frames placed
      (each_answered (OnStack cluster number course) DoneAnswer (live frames.stack) (placed_live frames placed))

  pub placed_served : (old : ℤ) (b : Bool) (frames : Frames) → Placed cluster number course frames
      → Placed cluster number course (with_stack (cond b (added old (live frames.stack)) frames.stack) frames)
  placed_served old true frames placed =
      placed_stack (added old (live frames.stack)) frames placed
      (each_added (OnStack cluster number course) old (live frames.stack) (placed_live frames placed))
  placed_served old false frames placed = placed

  pub placed_joined : (node : Node) (past : Past) (frames : Frames) → Placed cluster number course frames
      → Placed cluster number course (with_joined node past frames)
  placed_joined node past frames placed = record {
    stack = placed.stack;
    ready = each_append (OnReady cluster number course) frames.ready (all_joined node past frames.parked) placed.ready
        (each_joined (OnReady cluster number course) node past frames.parked
        (parked_change (AtJoin cluster number course) (AtJoin cluster number course) (λ id. OnReady cluster number course id None)
        (λ id holds also. record { news = inl (refl, holds.news); named = holds.named }) frames.parked placed.parked placed.parked));
    parked = each_still (AtJoin cluster number course) past frames.parked placed.parked;
  }

  -- as a message is taken
  pub placed_taking : (node : Node) (said : Body) (past : Past) (frames : Frames) → Placed cluster number course frames → Coming cluster course number said
      → Placed cluster number course (frames_took node said past frames)
  placed_taking node (body.Fetch page) past frames placed coming = placed
  placed_taking node (body.Page page words) past frames placed coming = placed
  placed_taking node (body.Reconcile parts) past frames placed coming = placed
  placed_taking node body.Ack past frames placed coming = placed
  placed_taking node body.Ask past frames placed coming = placed
  placed_taking node (body.Grant closure) past frames placed coming = record {
    stack = placed.stack;
    ready = each_append (OnReady cluster number course) frames.ready _ placed.ready (coming.0, tt);
    parked = placed.parked;
  }
  placed_taking node body.Refuse past frames placed coming = placed
  placed_taking node (body.Done join index value) past frames placed coming = placed_joined node past frames placed
  placed_taking node (body.Park join closure) past frames placed coming =
      let parked : List Parked = frames.parked ++ record { join = join; closure = closure } ∷ [] in
      placed_joined node past (record frames { parked = parked }) (record {
        stack = placed.stack;
        ready = placed.ready;
        parked = parked_append_each (AtJoin cluster number course) frames.parked (record { join = join; closure = closure } ∷ []) placed.parked (coming, tt);
      })
  placed_taking node (body.Add frame index word addend) past frames placed coming = placed
  placed_taking node (body.Added old) past frames placed coming =
      placed_stack (added old frames.stack) frames placed (each_added (OnStack cluster number course) old frames.stack placed.stack)
