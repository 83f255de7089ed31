-- The frames on a stack by their names, and those on top that have returned.
use Rattle.std.proofs.Common.{◌≡◌, inl, inr, ℤ, List, [], ◌∷◌, ◌++◌, map, Option, Some, None, true, is_some, refl, ◌∙◌, ap, subst}
use Rattle.cilk_meaning.specs.Wants.{Deposit}
use Rattle.page_messages.specs.declared.closure.FrameId.{FrameId}
use Rattle.page_messages.specs.declared.closure.JoinId.{JoinId}
use Rattle.page_messages.specs.declared.log.LoggedAct.{LoggedAct}
use Rattle.page_messages.specs.declared.log.LoggedAct.TheVariants as act
use Rattle.cluster_rules.specs.Walking.{first_of, last_of}
use Rattle.cluster_rules.specs.Node.{Node}
use Rattle.cluster_rules.specs.Lives.{Life, returned, with_kept, live_from, live, added, after_act, link_to, without_bottom}
use Rattle.cluster_rules.proofs.Marks.{bottom_gone}
use Rattle.backer_order.specs.Edges.{Each}

-- ---- names

abbrev pub names : List Life → List FrameId
names lives = map (λ life. life.id) lives

pub names_append : (front back : List Life) → names (front ++ back) ≡ names front ++ names back
names_append [] back = refl
names_append (life ∷ front) back = ap (λ it. life.id ∷ it) (names_append front back)

-- ---- returned frames

abbrev pub AllReturned : List Life → Type 0
AllReturned [] = Unit {0}
AllReturned (life ∷ lives) = (is_some (returned life) ≡ true) × AllReturned lives

-- Frames on top of the stack have returned; the names of the rest are those of `left`.
pub record Shed (stack left : List Life) : Type 0 where
  pub above : List Life
  pub below : List Life
  pub parts : stack ≡ above ++ below
  pub returned : AllReturned above
  pub same : names left ≡ names below

shed_on : (deposits : List Deposit) (life : Life) (below : List Life) (value : Option ℤ) → returned life ≡ value
    → ((given : List Deposit) → Shed below (live_from given below))
    → Shed (life ∷ below) (elim value [ None ↦ with_kept deposits life ∷ below | Some it ↦ live_from ((life.spawned.target, it) ∷ []) below ])
shed_on deposits life below None is before = record { above = []; below = life ∷ below; parts = refl; returned = tt; same = refl }
shed_on deposits life below (Some it) is before =
    let shed = before ((life.spawned.target, it) ∷ []) in
    record {
      above = life ∷ shed.above;
      below = shed.below;
      parts = ap (λ it. life ∷ it) shed.parts;
      returned = (ap is_some is, shed.returned);
      same = shed.same;
    }

shed_from : (deposits : List Deposit) (stack : List Life) → Shed stack (live_from deposits stack)
shed_from deposits [] = record { above = []; below = []; parts = refl; returned = tt; same = refl }
shed_from deposits (life ∷ below) = shed_on deposits life below (returned life) refl (λ given. shed_from given below)

-- The returned frames on top leave the stack.
pub shed : (stack : List Life) → Shed stack (live stack)
shed stack = shed_from [] stack

pub first_is : (lives : List Life) (life : Life) → first_of lives ≡ Some life → (below : List Life) × (lives ≡ life ∷ below)
first_is [] life is = absurd (cc)
first_is (first ∷ below) life is = let one : first ≡ life = cc in (below, ap (λ it. it ∷ below) one)

pub last_is : (lives : List Life) (life : Life) → last_of lives ≡ Some life → (front : List Life) × (lives ≡ front ++ life ∷ [])
last_is [] life is = absurd (cc)
last_is (last ∷ []) life is = let one : last ≡ life = cc in ([], ap (λ it. it ∷ []) one)
last_is (first ∷ (second ∷ rest)) life is = let found = last_is (second ∷ rest) life is in (first ∷ found.0, ap (λ it. first ∷ it) (found.1))

pub no_names : (lives : List Life) → [] ≡ names lives → lives ≡ []
no_names [] is = refl
no_names (life ∷ lives) is = absurd (cc)

pub returned_front : (front back : List Life) → AllReturned (front ++ back) → AllReturned front × AllReturned back
returned_front [] back all = (tt, all)
returned_front (life ∷ front) back all = let parts = returned_front front back (all.1) in ((all.0, parts.0), parts.1)

-- one of these names is that of a frame among those, which has returned
pub each_returned : (Holds : FrameId → Type 0) (lives : List Life) → AllReturned lives
    → ((front back : List Life) (life : Life) → lives ≡ front ++ life ∷ back → is_some (returned life) ≡ true → Holds life.id)
    → Each Holds (names lives)
each_returned Holds [] all holds frame on = absurd on
each_returned Holds (life ∷ lives) all holds frame (inl same) = subst Holds same (holds [] lives life refl (all.0))
each_returned Holds (life ∷ lives) all holds frame (inr on) =
    each_returned Holds lives (all.1) (λ front back one parts is. holds (life ∷ front) back one (ap (λ it. life ∷ it) parts) is) frame on

-- ---- what changes no name

pub added_names : (old : ℤ) (stack : List Life) → names (added old stack) ≡ names stack
added_names old [] = refl
added_names old (life ∷ below) = refl

-- the children of an act, by name
abbrev pub spawned_in : LoggedAct → List FrameId
spawned_in (act.Spawn child procedure arguments) = child ∷ []
spawned_in _ = []

pub act_names : (node : Node) (done : LoggedAct) (life : Life) (below : List Life)
    → names (after_act node done (life ∷ below)) ≡ spawned_in done ++ life.id ∷ names below
act_names node (act.Read word value) life below = refl
act_names node (act.Write word value) life below = refl
act_names node (act.Print value) life below = refl
act_names node (act.Spawn child procedure arguments) life below = refl
act_names node act.Sync life below = refl

pub granted_names : (join : Option JoinId) (above : List Life) (child parent : Life)
    → names (without_bottom join (above ++ (child ∷ (parent ∷ [])))) ≡ names above ++ child.id ∷ []
granted_names join above child parent =
    ap names (bottom_gone join above child parent) ∙ names_append above (record child { link = link_to join } ∷ [])
