-- What has returned stays so, and a take-up leaves the cache empty.
use Rattle.std.proofs.Common.{◌≡◌, ◌⊎◌, inl, inr, ℕ, ℤ, suc, ◌<◌, ◌≤◌, List, [], ◌∷◌, ◌++◌, map, Bool, true, false, ◌||◌, eqb, refl, sym, ◌∙◌, subst, arith}
use Rattle.std.proofs.lemmas.Bool.Decides.{nat_tests}
use Rattle.page_messages.specs.declared.closure.FrameId.{FrameId}
use Rattle.page_messages.specs.declared.message.Msg.{Msg}
use Rattle.page_messages.specs.declared.log.Item.{Item}
use Rattle.page_messages.specs.declared.log.Item.TheVariants as item
use Rattle.cluster_rules.specs.Turns.{WholeTurn, Did, Past}
use Rattle.cluster_rules.specs.Node.{Node}
use Rattle.cluster_rules.specs.Cache.{is_resident, is_among}
use Rattle.cluster_rules.specs.Paging.{MayTakeUp}
use Rattle.cluster_rules.specs.Positions.{Course, course_of, own, before, Happens}
use Rattle.cluster_rules.specs.Runs.{Cluster, IsLawful, node_at, IsOwed, IsFree, MayDo}
use Rattle.backer_order.specs.Log as log
use Rattle.backer_order.specs.Moments.{Resident}
use Rattle.backer_order.specs.Edges.{DropsAll}
use Rattle.cluster_order.specs.Standing.{returns_of}
use Rattle.cluster_order.proofs.Events.{took_up_is}
use Rattle.cluster_order.proofs.Accesses.{ev, event_there}
use Rattle.cluster_order.proofs.Residing.{resided, arrival_resident}
use Rattle.cluster_order.proofs.Returning as returning
use Rattle.cluster_order.proofs.Following.{Follow, Doing, followed}

-- ---- a row of Drops

-- From this position the node drops pages, until it has dropped this one.
pub record DroppedIn (course : Course) (number position page : ℕ) : Type 0 where
  pub at : ℕ
  pub behind : position ≤ at
  pub is : Happens course number at (Did (item.Drop page))
  pub between : (any : ℕ) → position ≤ any → any < at → (other : ℕ) × Happens course number any (Did (item.Drop other))

pub dropped_in : (course : Course) (number position page : ℕ) (pages : List ℕ) (others : List Item)
    → Follow course number position (map (λ page. item.Drop page) pages ++ others)
    → is_among page pages ≡ true → DroppedIn course number position page
dropped_in course number position page [] others follow among = absurd (cc)
dropped_in course number position page (first ∷ pages) others follow among =
    on (eqb first page) refl among (λ later. dropped_in course number (suc position) page pages others (follow.1) later)
  where
    on : (b : Bool) → eqb first page ≡ b → b || is_among page pages ≡ true → (is_among page pages ≡ true → DroppedIn course number (suc position) page)
        → DroppedIn course number position page
    on true is any rest =
        let same : first ≡ page = grind (arith, nat_tests) in
        record {
          at = position;
          behind = omega (arith);
          is = subst (λ it. Happens course number position (Did (item.Drop it))) same (follow.0);
          between = λ i above below. absurd (omega (arith, above, below));
        }
    on false is any rest = later (rest any)
      where
        later : DroppedIn course number (suc position) page → DroppedIn course number position page
        later it = record {
          at = it.at;
          behind = let less = it.behind in omega (arith, less);
          is = it.is;
          between = λ i above below. by_place i above below (eqb i position) refl;
        }
          where
            by_place : (i : ℕ) → position ≤ i → i < it.at → (b : Bool) → eqb i position ≡ b → (other : ℕ) × Happens course number i (Did (item.Drop other))
            by_place i above below true same =
                let place : i ≡ position = grind (arith, nat_tests) in
                (first, subst (λ one. Happens course number one (Did (item.Drop first))) (sym place) (follow.0))
            by_place i above below false different = it.between i (let more : suc position ≤ i = grind (arith, nat_tests) in more) below

module _ (cluster : Cluster) (turns : List WholeTurn) (lawful : IsLawful cluster turns) where
  abbrev events : ℕ → log.Event
  events = ev cluster turns lawful

  abbrev course : Course
  course = course_of turns

  abbrev node : ℕ → Node
  node number = node_at cluster number

  abbrev past : ℕ → ℕ → Past
  past number position = own number (before course position)

  -- What has returned stays so.
  pub stays : (now : ℕ) (frame : FrameId) → returns_of cluster course now frame ≡ true → returns_of cluster course (suc now) frame ≡ true
  stays now frame is = returning.stays cluster course now frame is

  -- a TakeUp, with the items behind it
  pub taken_up_there : (number position : ℕ) (frame : FrameId) → Happens course number position (Did (item.TakeUp frame))
      → (rest : List Item) × MayTakeUp (node number) (past number position) frame rest × Follow course number (suc position) rest
  taken_up_there number position frame happens = on (doing.rest) (doing.posts) (doing.may) (doing.follow)
    where
      doing : Doing cluster number course position (item.TakeUp frame)
      doing = followed cluster turns lawful number position (item.TakeUp frame) happens

      on : (rest : List Item) (posts : List Msg)
          → IsOwed (node number) (past number position) (item.TakeUp frame)
          ⊎ (IsFree (past number position) × MayDo (node number) (past number position) (item.TakeUp frame) rest posts)
          → Follow course number (suc position) rest → (rest : List Item) × MayTakeUp (node number) (past number position) frame rest
          × Follow course number (suc position) rest
      on rest posts (inl owed) follow = absurd owed
      on rest posts (inr both) follow = (rest, both.1, follow)

  -- A node that takes up a frame drops its resident pages before all else.
  pub drops : (now number : ℕ) (frame : FrameId) (page arrival : ℕ) (words : ℕ → ℤ) → events now ≡ log.TakeUp number frame
      → Resident events number page now arrival words → DropsAll events now number page
  drops now number frame page arrival words is resident = record {
    at = it.at;
    after = let behind = it.behind in omega (arith, behind);
    is = event_there cluster turns lawful number (it.at) (Did (item.Drop page)) (it.is);
    between = λ any above below.
        let one = it.between any (omega (arith, above)) below in (one.0, event_there cluster turns lawful number any (Did (item.Drop (one.0))) (one.1));
  }
    where
      happens : Happens course number now (Did (item.TakeUp frame))
      happens = took_up_is cluster course now number frame is

      taken : (rest : List Item) × MayTakeUp (node number) (past number now) frame rest × Follow course number (suc now) rest
      taken = taken_up_there number now frame happens

      in_cache : is_resident page (past number now) ≡ true
      in_cache =
          let stay = resided cluster turns lawful now (happens.moved) (happens.is) number page arrival words resident in
          arrival_resident page (past number now) (stay.0) (stay.1.past)

      it : DroppedIn course number (suc now) page
      it =
          dropped_in course number (suc now) page (taken.1.pages) (taken.1.others) (subst (λ all. Follow course number (suc now) all) (taken.1.drops) (taken.2))
          (taken.1.all page ∙ in_cache)
