-- The way in a history to what lies at or below an act of a frame.
use Rattle.std.proofs.Common.{◌≡◌, ℕ, ◌<◌, List, [], ◌∷◌, ◌++◌, refl, ◌∙◌, ap, subst, append_assoc, arith}
use Rattle.page_messages.specs.declared.closure.FrameId.{FrameId}
use Rattle.span_tree.specs.declared.act.Place.{Place}
use Rattle.span_tree.specs.Dag.{way}
use Rattle.span_tree.specs.History.{History}
use Rattle.span_tree.proofs.Orders.{row_within}
use Rattle.span_tree.proofs.Ways.{row_way, row_way_is, way_is}
use Rattle.cluster_rules.specs.Histories.{row_number}
use Rattle.backer_order.specs.Log as log
use Rattle.backer_order.specs.Log.{Events}
use Rattle.backer_order.specs.Edges.{ActOf}
use Rattle.backer_order.specs.Dag.{Under, At, Below}
use Rattle.word_order.proofs.Rows.{place_in}
use Rattle.word_order.proofs.Places.{AreRows, place_for, act_here, place_there}

pub one_frame : (node other : ℕ) (frame second : FrameId) (act next : log.Act) (event : log.Event) → event ≡ log.Acts node frame act
    → event ≡ log.Acts other second next → frame ≡ second
one_frame node other frame second act next event is is' = cc

-- each frame acts behind its spawn
abbrev pub ActBehindSpawns : Events → Type 0
ActBehindSpawns events = (at node later : ℕ) (frame child : FrameId) → events at ≡ log.Acts node frame (log.Spawn child) → ActOf events child later → at < later

module _ (events : Events) (now : ℕ) (frames : List FrameId) (history : History) (rows : AreRows events now frames history) where
  abbrev pub its_place : FrameId → ℕ → Place
  its_place frame at = place_for events now frames history rows frame at

  -- the way to the row of a frame
  abbrev pub row_of : FrameId → List ℕ
  row_of frame = row_way history rows.numbered (row_number frames frame)

  abbrev pub index : FrameId → ℕ → ℕ
  index frame at = place_in frames events frame at

  pub own_way : (at node : ℕ) (frame : FrameId) (act : log.Act) → at < now → events at ≡ log.Acts node frame act →
      way history (its_place frame at) ≡ row_of frame ++ index frame at ∷ []
  own_way at node frame act inside is =
      way_is history rows.numbered (its_place frame at)
      (row_within history rows.numbered (row_number frames frame) (its_place frame at) refl
      (place_there events now frames history rows at node frame act inside is))

  -- The frame acts there, and the way to the place goes through this act.
  pub record Through (place : Place) (frame : FrameId) (at : ℕ) : Type 0 where
    pub node : ℕ
    pub done : log.Act
    pub inside : at < now
    pub is : events at ≡ log.Acts node frame done
    pub rest : List ℕ
    pub way_is : way history place ≡ row_of frame ++ index frame at ∷ rest

  pub own : (at node : ℕ) (frame : FrameId) (act : log.Act) → at < now → events at ≡ log.Acts node frame act → Through (its_place frame at) frame at
  own at node frame act inside is = record { node = node; done = act; inside = inside; is = is; rest = []; way_is = own_way at node frame act inside is }

  module _ (behind : ActBehindSpawns events) where
    -- what lies below a child lies below its spawn
    pub below : (place : Place) (at node next : ℕ) (frame child : FrameId) → events at ≡ log.Acts node frame (log.Spawn child) → Through place child next
        → Through place frame at
    below place at node next frame child is through =
        let earlier = behind at node next frame child is (through.node, through.done, through.is) in
        let later = through.inside in
        let inside : at < now = omega (arith, earlier, later) in
        let parent = (rows.numbered.child (its_place frame at) (row_number frames child)
        (act_here events now frames history rows at node frame (log.Spawn child) inside is)).1 in
        let up : row_of child ≡ row_of frame ++ index frame at ∷ [] =
        row_way_is history rows.numbered (row_number frames child) (its_place frame at) parent.named ∙ own_way at node frame (log.Spawn child) inside is in
        record {
          node = node;
          done = log.Spawn child;
          inside = inside;
          is = is;
          rest = index child next ∷ through.rest;
          way_is =
              through.way_is ∙ ap (λ front. front ++ index child next ∷ through.rest) up
              ∙ append_assoc (row_of frame) (index frame at ∷ []) (index child next ∷ through.rest);
        }

    pub through : (at node : ℕ) (frame : FrameId) (act : log.Act) → at < now → events at ≡ log.Acts node frame act → (above : FrameId) (first : ℕ)
        → Under events at above first →
        Through (its_place frame at) above first
    through at node frame act inside is above first (At (other, next, is') same) =
        let same_frame : frame ≡ above = one_frame node other frame above act next (events at) is (ap events same ∙ is') in
        subst (λ position. Through (its_place frame at) above position) same
        (subst (λ one. Through (its_place frame at) one at) same_frame (own at node frame act inside is))
    through at node frame act inside is above first (Below other child next is' under) =
        below (its_place frame at) first other next above child is' (through at node frame act inside is child next under)
