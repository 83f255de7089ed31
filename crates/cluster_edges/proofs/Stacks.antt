-- What frames keep on a stack and on a ready list, as these change.
use Rattle.std.proofs.Common.{◌≡◌, ℕ, ℤ, List, [], ◌∷◌, ◌++◌, Option, Some, None, subst}
use Rattle.cilk_meaning.specs.Wants.{Deposit, Answer}
use Rattle.page_messages.specs.declared.closure.FrameId.{FrameId}
use Rattle.page_messages.specs.declared.log.LoggedAct.{LoggedAct}
use Rattle.page_messages.specs.declared.log.LoggedAct.TheVariants as act
use Rattle.cluster_rules.specs.Walking.{with_first, last_of}
use Rattle.cluster_rules.specs.Node.{Node}
use Rattle.cluster_rules.specs.Lives.{Life, returned, with_kept, live_from, live, answered, added, acted, newborn, after_act}
use Rattle.cluster_rules.specs.Positions.{Course}
use Rattle.cluster_rules.specs.Runs.{Cluster}
use Rattle.cluster_edges.proofs.Ties.{Born, Known, Gone, Parking, Tie, tie_of, Standing, Lying, Stacked, AllLying}

module _ (cluster : Cluster) (course : Course) where
  -- ---- returned frames go

  live_on : (deposits : List Deposit) (life : Life) (below : List Life) (value : Option ℤ) → Stacked cluster course (life ∷ below)
      → ((given : List Deposit) → Stacked cluster course below → Stacked cluster course (live_from given below))
      → Stacked cluster course (elim value [ None ↦ with_kept deposits life ∷ below | Some it ↦ live_from ((life.spawned.target, it) ∷ []) below ])
  live_on deposits life below None stacked rest = stacked
  live_on deposits life below (Some it) stacked rest = rest ((life.spawned.target, it) ∷ []) stacked.2

  live_from_stacked : (deposits : List Deposit) (stack : List Life) → Stacked cluster course stack → Stacked cluster course (live_from deposits stack)
  live_from_stacked deposits [] stacked = tt
  live_from_stacked deposits (life ∷ below) stacked = live_on deposits life below (returned life) stacked (λ given rest. live_from_stacked given below rest)

  pub live_stacked : (stack : List Life) → Stacked cluster course stack → Stacked cluster course (live stack)
  live_stacked stack stacked = live_from_stacked [] stack stacked

  pub last_stacked : (stack : List Life) (life : Life) → Stacked cluster course stack → last_of stack ≡ Some life → Standing cluster course (tie_of life)
  last_stacked [] life stacked is = absurd (cc)
  last_stacked (last ∷ []) life stacked is = let same : last ≡ life = cc in subst (λ it. Standing cluster course (tie_of it)) same stacked.0
  last_stacked (first ∷ (second ∷ below)) life stacked is = last_stacked (second ∷ below) life stacked.2 is

  -- ---- the first frame is answered

  pub answered_stacked : (answer : Answer) (stack : List Life) → Stacked cluster course stack → Stacked cluster course (with_first (answered answer) stack)
  answered_stacked answer [] stacked = tt
  answered_stacked answer (life ∷ below) stacked = stacked

  pub added_stacked : (old : ℤ) (stack : List Life) → Stacked cluster course stack → Stacked cluster course (added old stack)
  added_stacked old [] stacked = tt
  added_stacked old (life ∷ below) stacked = stacked

  -- ---- the first frame acts

  -- behind its Sync no child is away
  pub synced : (life : Life) → ((child : FrameId) → Gone cluster course life.id child → ⊥) → Standing cluster course (tie_of life)
      → Standing cluster course (tie_of (acted act.Sync life))
  synced life none standing = record {
    fits = record {
      known = standing.fits.known;
      rooted = standing.fits.rooted;
      linked = standing.fits.linked;
      joined = λ join is. absurd (cc);
      waits = λ child gone. absurd (none child gone);
    };
    not_parked = standing.not_parked;
  }

  -- a child at its start
  pub born_standing : (node : Node) (child : FrameId) (procedure : ℕ) (arguments : List ℤ) (parent : Life) → Known cluster child course
      → ((other : FrameId) → Gone cluster course child other → ⊥) → (Parking child course → ⊥)
      → Standing cluster course (tie_of (newborn node child procedure arguments parent))
  born_standing node child procedure arguments parent known none not_parked = record {
    fits = record {
      known = known;
      rooted = λ root. absurd (cc);
      linked = λ join is. absurd (cc);
      joined = λ join is. absurd (cc);
      waits = λ other gone. absurd (none other gone);
    };
    not_parked = not_parked;
  }

  -- what an act asks of its frame
  abbrev pub Acting : LoggedAct → Life → Type 0
  Acting (act.Read word value) life = Unit {0}
  Acting (act.Write word value) life = Unit {0}
  Acting (act.Print value) life = Unit {0}
  Acting (act.Spawn child procedure arguments) life =
      Born life.id life.acts child course × Known cluster child course × ((other : FrameId) → Gone cluster course child other → ⊥) × (Parking child course → ⊥)
  Acting act.Sync life = (child : FrameId) → Gone cluster course life.id child → ⊥

  pub acted_stacked : (node : Node) (done : LoggedAct) (life : Life) (below : List Life) → Acting done life → Stacked cluster course (life ∷ below)
      → Stacked cluster course (after_act node done (life ∷ below))
  acted_stacked node (act.Read word value) life below acting stacked = stacked
  acted_stacked node (act.Write word value) life below acting stacked = stacked
  acted_stacked node (act.Print value) life below acting stacked = stacked
  acted_stacked node (act.Spawn child procedure arguments) life below acting stacked =
      (born_standing node child procedure arguments life acting.1 acting.2 acting.3, acting.0, stacked)
  acted_stacked node act.Sync life below acting stacked = (synced life acting stacked.0, stacked.1, stacked.2)

  -- ---- ready lists

  pub lying_append : (front back : List Life) → AllLying cluster course front → AllLying cluster course back → AllLying cluster course (front ++ back)
  lying_append [] back first second = second
  lying_append (life ∷ front) back first second = (first.0, lying_append front back first.1 second)

  -- what stands may lie
  pub standing_lies : (tie : Tie) → Standing cluster course tie → Lying cluster course tie
  standing_lies tie standing = record { fits = standing.fits; complete = λ parking. absurd (standing.not_parked parking) }
