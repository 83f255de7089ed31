-- What the dag of the events orders is not parallel in the history, so it has no race where no two accesses in the events race.
use Rattle.std.proofs.Common.{◌≡◌, ◌⊎◌, inl, inr, ℕ, ◌<◌, ◌≤◌, List, [], ◌∷◌, ◌++◌, Some, length, refl, ◌∙◌, ap, subst, arith}
use Rattle.std.specs.Prelude.{slice_get}
use Rattle.page_messages.specs.declared.closure.FrameId.{FrameId}
use Rattle.span_tree.specs.declared.act.Act.TheVariants as row
use Rattle.span_tree.specs.declared.act.Place.{Place}
use Rattle.span_tree.specs.Dag.{IsParallel, PartUnsynced, RunsBeside, way}
use Rattle.span_tree.specs.History.{History, row_at}
use Rattle.span_tree.proofs.Orders.{row_within}
use Rattle.span_tree.proofs.Ways.{part_up}
use Rattle.cluster_rules.specs.Histories.{row_number}
use Rattle.backer_order.specs.Log as log
use Rattle.backer_order.specs.Log.{Events}
use Rattle.backer_order.specs.Dag.{Under, SyncAt, Across, IntoChild, Precedes}
use Rattle.word_order.proofs.Rows.{place_passed, place_later}
use Rattle.word_order.proofs.Places.{AreRows, act_here, place_there}
use Rattle.trace_rows.proofs.Under.{ActBehindSpawns, Through, its_place, index, row_of, own_way, one_frame, through, below}

module _ (events : Events) (now : ℕ) (frames : List FrameId) (history : History) (rows : AreRows events now frames history)
    (behind : ActBehindSpawns events) where
  abbrev place : FrameId → ℕ → Place
  place frame at = its_place events now frames history rows frame at

  abbrev position : FrameId → ℕ → ℕ
  position frame at = index events now frames history rows frame at

  abbrev Goes : Place → FrameId → ℕ → Type 0
  Goes it frame at = Through events now frames history rows it frame at

  inside_rows : (frame : FrameId) (at node : ℕ) (act : log.Act) → at < now → events at ≡ log.Acts node frame act → row_number frames frame < length history
  inside_rows frame at node act inside is =
      row_within history rows.numbered (row_number frames frame) (place frame at) refl (place_there events now frames history rows at node frame act inside is)

  -- the way to the place goes on so from the row of a frame
  abbrev GoesOn : Place → FrameId → ℕ → List ℕ → Type 0
  GoesOn it frame at rest = way history it ≡ row_of events now frames history rows frame ++ position frame at ∷ rest

  -- two ways through acts of one row part as they go on from there
  parted : (frame : FrameId) (at other : ℕ) (x y : Place) (xs ys : List ℕ) → row_number frames frame < length history → GoesOn x frame at xs
      → GoesOn y frame other ys → RunsBeside history x y →
      PartUnsynced history (row_number frames frame) (position frame at ∷ xs) (position frame other ∷ ys)
  parted frame at other x y xs ys inside one two beside =
      part_up history rows.numbered (row_number frames frame) (position frame at ∷ xs) (position frame other ∷ ys) inside
      (subst (λ way. PartUnsynced history 0 way (row_of events now frames history rows frame ++ position frame other ∷ ys)) one
      (subst (λ other_way. PartUnsynced history 0 (way history x) other_way) two beside))

  later_place : (frame : FrameId) (at other node : ℕ) (act : log.Act) → events at ≡ log.Acts node frame act → at < other
      → position frame at < position frame other
  later_place frame at other node act is less = place_passed frames events frame at node other act is less

  -- what goes on later does not run beside
  not_back : (number first second : ℕ) (xs ys : List ℕ) → first < second → PartUnsynced history number (second ∷ ys) (first ∷ xs) → ⊥
  not_back number first second xs ys less (inl part) = let more = part.0 in omega (arith, less, more)
  not_back number first second xs ys less (inr part) = let same = part.0 in omega (arith, less, same)

  own_beside : (number first second : ℕ) (ys : List ℕ) → first < second → PartUnsynced history number (first ∷ []) (second ∷ ys) → ⊥
  own_beside number first second ys less (inl part) = part.1 refl
  own_beside number first second ys less (inr part) = let same = part.0 in omega (arith, less, same)

  synced_beside : (number first second sync : ℕ) (xs ys : List ℕ) → first < second → first < sync → sync ≤ second
      → slice_get (row_at history number).acts sync ≡ Some row.Sync →
      PartUnsynced history number (first ∷ xs) (second ∷ ys) → ⊥
  synced_beside number first second sync xs ys less after up_to is (inl part) = part.2 sync after up_to is
  synced_beside number first second sync xs ys less after up_to is (inr part) = let same = part.0 in omega (arith, less, same)

  into_beside : (number act : ℕ) (ys : List ℕ) → PartUnsynced history number (act ∷ []) (act ∷ ys) → ⊥
  into_beside number act ys (inl part) = let less = part.0 in omega (arith, less)
  into_beside number act ys (inr part) = part.3

  out_beside : (number act : ℕ) (ys : List ℕ) → PartUnsynced history number (act ∷ ys) (act ∷ []) → ⊥
  out_beside number act ys (inl part) = let less = part.0 in omega (arith, less)
  out_beside number act ys (inr part) = nothing part.1 ys part.3
    where
      nothing : (child : ℕ) (xs : List ℕ) → PartUnsynced history child xs [] → ⊥
      nothing child [] part = part
      nothing child (x ∷ xs) part = part

  module _ (at later node other : ℕ) (frame second : FrameId) (act next : log.Act) (at_in : at < now) (later_in : later < now)
      (is : events at ≡ log.Acts node frame act)
      (later_is : events later ≡ log.Acts other second next) where
    abbrev x : Place
    x = place frame at

    abbrev y : Place
    y = place second later

    goes_x : (above : FrameId) (first : ℕ) → Under events at above first → Goes x above first
    goes_x above first under = through events now frames history rows behind at node frame act at_in is above first under

    goes_y : (above : FrameId) (first : ℕ) → Under events later above first → Goes y above first
    goes_y above first under = through events now frames history rows behind later other second next later_in later_is above first under

    -- it goes by itself
    itself : (above : FrameId) (first : ℕ) → frame ≡ above → at ≡ first → GoesOn x above first []
    itself above first one same =
        own_way events now frames history rows at node frame act at_in is
        ∙ ap (λ it. row_of events now frames history rows it ++ position it at ∷ []) one
        ∙ ap (λ at. row_of events now frames history rows above ++ position above at ∷ []) same

    across : Across events at later → IsParallel history x y → ⊥
    across it = on it.serial
      where
        one : Goes x it.frame it.act
        one = goes_x it.frame it.act it.first

        two : Goes y it.frame it.later_act
        two = goes_y it.frame it.later_act it.second

        inside : row_number frames it.frame < length history
        inside = inside_rows it.frame it.act one.node one.done one.inside one.is

        less : position it.frame it.act < position it.frame it.later_act
        less = later_place it.frame it.act it.later_act one.node one.done one.is it.order

        back : RunsBeside history y x → ⊥
        back beside =
            not_back (row_number frames it.frame) (position it.frame it.act) (position it.frame it.later_act) one.rest two.rest less
            (parted it.frame it.later_act it.act y x two.rest one.rest inside two.way_is one.way_is beside)

        on : (at ≡ it.act) ⊎ SyncAt events it.frame it.act it.later_act → IsParallel history x y → ⊥
        on serial (inr beside) = back beside
        on (inl same) (inl beside) =
            let alone = itself it.frame it.act (one_frame node one.node frame it.frame act one.done (events at) is (ap events same ∙ one.is)) same in
            own_beside (row_number frames it.frame) (position it.frame it.act) (position it.frame it.later_act) two.rest less
            (parted it.frame it.act it.later_act x y [] two.rest inside alone two.way_is beside)
        on (inr sync) (inl beside) =
            let sync_in : sync.at < now = (let up_to = sync.before in let later = two.inside in omega (arith, up_to, later)) in
            let up_to : position it.frame sync.at ≤ position it.frame it.later_act = place_later frames events it.frame sync.at it.later_act sync.before in
            synced_beside (row_number frames it.frame) (position it.frame it.act) (position it.frame it.later_act)
            (position it.frame sync.at) one.rest two.rest less
            (later_place it.frame it.act sync.at one.node one.done one.is sync.after) up_to
            (act_here events now frames history rows sync.at sync.node it.frame log.Sync sync_in sync.is)
            (parted it.frame it.act it.later_act x y one.rest two.rest inside one.way_is two.way_is beside)

    into : IntoChild events at later → IsParallel history x y → ⊥
    into it = on
      where
        alone : GoesOn x it.frame at []
        alone = itself it.frame at (one_frame node it.node frame it.frame act (log.Spawn it.child) (events at) is it.is) refl

        two : Goes y it.frame at
        two = below events now frames history rows behind y at it.node it.act it.frame it.child it.is (goes_y it.child it.act it.below)

        inside : row_number frames it.frame < length history
        inside = inside_rows it.frame at two.node two.done two.inside two.is

        on : IsParallel history x y → ⊥
        on (inl beside) =
            into_beside (row_number frames it.frame) (position it.frame at) two.rest (parted it.frame at at x y [] two.rest inside alone two.way_is beside)
        on (inr back) =
            out_beside (row_number frames it.frame) (position it.frame at) two.rest (parted it.frame at at y x two.rest [] inside two.way_is alone back)

    -- What the dag of the events orders is not parallel.
    pub not_parallel : Precedes events at later → IsParallel history x y → ⊥
    not_parallel (inl it) parallel = across it parallel
    not_parallel (inr it) parallel = into it parallel
