-- Where the Spawn acts of each row name the rows of its frame's children, those in serial order name the rows of the walk.
use Rattle.std.proofs.Common.{◌≡◌, ℕ, zero, suc, ◌+◌, ◌≤◌, List, [], ◌∷◌, ◌++◌, Option, Some, None, map, refl, sym, ◌∙◌, ap, subst, arith}
use Rattle.std.specs.Prelude.{slice_get}
use Rattle.std.proofs.lemmas.List.{map-append}
use Rattle.std.proofs.lemmas.List.Elements.{filter_map-append}
use Rattle.std.specs.List.{filter_map, cons_option}
use Rattle.page_messages.specs.declared.closure.FrameId.{FrameId}
use Rattle.span_tree.specs.declared.act.Act.{Act}
use Rattle.span_tree.specs.declared.act.Act.TheVariants.{Read, Write, Add, Print, Spawn, Sync}
use Rattle.span_tree.specs.declared.act.Place.{Place}
use Rattle.span_tree.specs.History.{History, row_at, act_at, spawned_by, with_child_places, places_from, places_below}
use Rattle.cluster_rules.specs.Histories.{Birth, row_number}
use Rattle.run_history.proofs.Walk.{times, children, walk, walk_all}
use Rattle.run_history.proofs.Counts.{times_self}
use Rattle.run_history.proofs.Trees.{made_by}

-- each number, and what is below it
abbrev all_below : (ℕ → List ℕ) → List ℕ → List ℕ
all_below below [] = []
all_below below (number ∷ numbers) = (number ∷ below number) ++ all_below below numbers

module _ (history : History) where
  -- the rows that are named at these places
  abbrev pub named_at : List Place → List ℕ
  named_at places = filter_map spawned_by (filter_map (act_at history) places)

  named_both : (front back : List Place) → named_at (front ++ back) ≡ named_at front ++ named_at back
  named_both front back =
      ap (filter_map spawned_by) (filter_map-append (act_at history) front back)
      ∙ filter_map-append spawned_by (filter_map (act_at history) front) (filter_map (act_at history) back)

  -- what one act names
  abbrev named_by : (ℕ → List Place) → Act → List ℕ
  named_by places done = all_below (λ number. named_at (places number)) (cons_option (spawned_by done) [])

  plain : (place : Place) (done : Act) → act_at history place ≡ Some done → spawned_by done ≡ None → named_at (place ∷ []) ≡ []
  plain place done is none = ap (λ it. filter_map spawned_by (cons_option it [])) is ∙ ap (λ it. cons_option it []) none

  spawn : (places : ℕ → List Place) (place : Place) (child : ℕ) → act_at history place ≡ Some (Spawn child)
      → named_at (place ∷ places child) ≡ child ∷ named_at (places child)
  spawn places place child is = ap (λ it. filter_map spawned_by (cons_option it (filter_map (act_at history) (places child)))) is

  nothing_more : (list : List ℕ) → list ++ [] ≡ list
  nothing_more [] = refl
  nothing_more (first ∷ list) = ap (λ it. first ∷ it) (nothing_more list)

  named_one : (places : ℕ → List Place) (place : Place) (done : Act) → act_at history place ≡ Some done
      → named_at (with_child_places places place done) ≡ named_by places done
  named_one places place (Read word value) is = plain place (Read word value) is refl
  named_one places place (Write word value) is = plain place (Write word value) is refl
  named_one places place (Add word old addend) is = plain place (Add word old addend) is refl
  named_one places place (Print value) is = plain place (Print value) is refl
  named_one places place (Spawn child) is = spawn places place child is ∙ sym (nothing_more (child ∷ named_at (places child)))
  named_one places place Sync is = plain place Sync is refl

  below_more : (places : ℕ → List Place) (done : Act) (acts : List Act) → all_below (λ number. named_at (places number)) (filter_map spawned_by (done ∷ acts))
      ≡ named_by places done ++ all_below (λ number. named_at (places number)) (filter_map spawned_by acts)
  below_more places done acts = on (spawned_by done)
    where
      on : (it : Option ℕ) → all_below (λ number. named_at (places number)) (cons_option it (filter_map spawned_by acts))
          ≡ all_below (λ number. named_at (places number)) (cons_option it []) ++ all_below (λ number. named_at (places number)) (filter_map spawned_by acts)
      on None = refl
      on (Some number) =
          ap (λ list. list ++ all_below (λ it. named_at (places it)) (filter_map spawned_by acts)) (sym (nothing_more (number ∷ named_at (places number))))

  next_place : (index place : ℕ) → suc index + place ≡ index + suc place
  next_place index place = omega arith

  pub from_zero : (row place : ℕ) (done : Act) → slice_get (row_at history row).acts place ≡ Some done
      → act_at history (record { row = row; act = 0 + place }) ≡ Some done
  from_zero row place done found =
      let same : place ≡ 0 + place = omega arith in subst (λ it. act_at history (record { row = row; act = it }) ≡ Some done) same found

  -- what the acts of a row name
  named_from : (places : ℕ → List Place) (row index : ℕ) (acts : List Act)
      → ((place : ℕ) (done : Act) → slice_get acts place ≡ Some done → act_at history (record { row = row; act = index + place }) ≡ Some done)
      → named_at (places_from places row index acts) ≡ all_below (λ number. named_at (places number)) (filter_map spawned_by acts)
  named_from places row index [] there = refl
  named_from places row index (done ∷ acts) there =
      let place : Place = record { row = row; act = index } in
      let same : index + 0 ≡ index = omega arith in
      let here : act_at history place ≡ Some done = subst (λ it. act_at history (record { row = row; act = it }) ≡ Some done) same (there 0 done refl) in
      let rest = named_from places row (suc index) acts
      (λ later one found. subst (λ it. act_at history (record { row = row; act = it }) ≡ Some one) (sym (next_place index later))
      (there (suc later) one found)) in
      named_both (with_child_places places place done) (places_from places row (suc index) acts)
      ∙ ap (λ list. list ++ named_at (places_from places row (suc index) acts)) (named_one places place done here)
      ∙ ap (λ list. named_by places done ++ list) rest
      ∙ sym (below_more places done acts)

  module _ (births : List Birth) (frames : List FrameId)
      (spawns : (frame : FrameId) → 1 ≤ times frame (made_by births)
      → filter_map spawned_by (row_at history (row_number frames frame)).acts ≡ map (row_number frames) (children births frame))
      (made : (frame child : FrameId) → 1 ≤ times child (children births frame) → 1 ≤ times child (made_by births)) where
    below_all : (below : ℕ → List ℕ) (walked : FrameId → List FrameId) (list : List FrameId)
        → ((frame : FrameId) → 1 ≤ times frame list → row_number frames frame ∷ below (row_number frames frame) ≡ map (row_number frames) (walked frame))
        → all_below below (map (row_number frames) list) ≡ map (row_number frames) (walk_all walked list)
    below_all below walked [] each = refl
    below_all below walked (frame ∷ list) each =
        ap (λ it. it ++ all_below below (map (row_number frames) list)) (each frame (let self = times_self frame list in omega (arith, self)))
        ∙ ap (λ it. map (row_number frames) (walked frame) ++ it) (below_all below walked list (λ other some. each other (omega (arith, some))))
        ∙ sym (map-append (row_number frames) (walked frame) (walk_all walked list))

    -- The Spawn acts at and below a row name the rows of the walk from its frame.
    pub named_below : (depth : ℕ) (frame : FrameId) → 1 ≤ times frame (made_by births)
        → row_number frames frame ∷ named_at (places_below depth history (row_number frames frame)) ≡ map (row_number frames) (walk births depth frame)
    named_below zero frame some = refl
    named_below (suc depth) frame some =
        ap (λ list. row_number frames frame ∷ list)
        (named_from (places_below depth history) (row_number frames frame) 0 (row_at history (row_number frames frame)).acts
        (λ place done found. from_zero (row_number frames frame) place done found)
        ∙ ap (all_below (λ number. named_at (places_below depth history number))) (spawns frame some)
        ∙ below_all (λ number. named_at (places_below depth history number)) (walk births depth) (children births frame)
        (λ child is. named_below depth child (made frame child is)))
