-- An execution has no race exactly where its history has none, if its positions are in the serial order of the history.
use Rattle.std.proofs.Common.{◌≡◌, ◌⊎◌, inl, inr, ℕ, ◌<◌, List, true, sym, ◌∙◌, ap, subst, arith}
use Rattle.page_messages.specs.declared.closure.FrameId.{FrameId}
use Rattle.span_tree.specs.declared.act.Place.{Place}
use Rattle.span_tree.specs.Dag.{IsBefore, IsParallel}
use Rattle.span_tree.specs.History.{History}
use Rattle.span_tree.specs.Memory.{changes, holds_at, is_change, HasNoRace}
use Rattle.span_tree.specs.Program.{Starts}
use Rattle.span_tree.proofs.ThreePlaces.{not_parallel_in_row, parallel_is_symmetric}
use Rattle.backer_order.specs.Log as log
use Rattle.backer_order.specs.Log.{Events}
use Rattle.backer_order.specs.Dag.{Precedes}
use Rattle.backer_order.specs.HomeList.{Entry}
use Rattle.backer_order.proofs.Search.{Less3, Same3, More3, compare}
use Rattle.determinacy.specs.Replies.{Trace, Obeys}
use Rattle.determinacy.specs.Serial.{IsWriter, RaceFree}
use Rattle.determinacy.proofs.Rows.{by_acts, born_before}
use Rattle.word_order.proofs.Rows.{shown}
use Rattle.word_order.proofs.Places.{AreRows, place_for}
use Rattle.word_order.proofs.Entries.{act_of, act_is, entry_for, one_place, place_at, is_place, stands_at, is_accessed, word_is, word_test}
use Rattle.word_order.proofs.Lines.{precedes}
use Rattle.trace_rows.proofs.Under.{ActBehindSpawns}
use Rattle.trace_rows.proofs.NotParallel.{not_parallel}

-- In an execution each frame acts behind its spawn.
pub acts_behind : (starts : Starts) (main : ℕ) (trace : Trace) → Obeys starts main trace → ActBehindSpawns trace.events
acts_behind starts main trace obeys at node later frame child is acts =
    born_before starts main trace obeys at node frame child later is (by_acts acts.0 child acts.1 (trace.events later) acts.2)

module _ (events : Events) (now : ℕ) (frames : List FrameId) (history : History) (rows : AreRows events now frames history) where
  abbrev Access : ℕ → Type 0
  Access word = Entry events now word

  abbrev its_place : (word : ℕ) → Access word → Place
  its_place word entry = place_at events now frames word history rows entry

  -- ---- which accesses write or add

  writes : (word node at : ℕ) (frame : FrameId) (done : log.Act) → events at ≡ log.Acts node frame done → changes word (shown frames done) ≡ true
      → IsWriter events node word at
  writes word node at frame (log.Write other value) is it =
      inl (value, record { frame = frame; is = is ∙ ap (λ one. log.Acts node frame (log.Write one value)) (sym (word_is word other it)) })
  writes word node at frame (log.Add other old addend) is it =
      inr (old, record { frame = frame; addend = addend; is = is ∙ ap (λ one. log.Acts node frame (log.Add one old addend)) (sym (word_is word other it)) })
  writes word node at frame (log.Read other value) is it = absurd cc
  writes word node at frame (log.Print value) is it = absurd cc
  writes word node at frame (log.Spawn child) is it = absurd cc
  writes word node at frame log.Sync is it = absurd cc

  changes_it : (word node other at : ℕ) (frame : FrameId) (done : log.Act) → events at ≡ log.Acts node frame done → IsWriter events other word at
      → changes word (shown frames done) ≡ true
  changes_it word node other at frame done is (inl wrote) =
      let it = wrote.1.is in let same : done ≡ log.Write word wrote.0 = cc in ap (λ one. changes word (shown frames one)) same ∙ word_test word
  changes_it word node other at frame done is (inr added) =
      let it = added.1.is in let same : done ≡ log.Add word added.0 added.1.addend = cc in ap (λ one. changes word (shown frames one)) same ∙ word_test word

  abbrev its_act : (word : ℕ) → Access word → log.Act
  its_act word entry = (act_of events now frames word entry).done

  is_writer : (word : ℕ) (entry : Access word) (place : Place) → place ≡ its_place word entry → is_change history word place ≡ true
      → IsWriter events entry.node word entry.at
  is_writer word entry place same change =
      writes word entry.node entry.at (act_of events now frames word entry).frame (its_act word entry) (act_of events now frames word entry).is
      (sym (ap (holds_at (changes word)) (act_is events now frames word history rows entry)) ∙ subst (λ place. is_change history word place ≡ true) same change)

  is_changed : (word other : ℕ) (entry : Access word) → IsWriter events other word entry.at → is_change history word (its_place word entry) ≡ true
  is_changed word other entry writer =
      ap (holds_at (changes word)) (act_is events now frames word history rows entry)
      ∙ changes_it word entry.node other entry.at (act_of events now frames word entry).frame (its_act word entry)
      (act_of events now frames word entry).is writer

  -- ---- no race in the history

  module _ (behind : ActBehindSpawns events) (free : RaceFree events now) where
    ordered : (word : ℕ) (first second : Access word) → Precedes events first.at second.at
        → IsParallel history (its_place word first) (its_place word second) → ⊥
    ordered word first second before parallel =
        let one = act_of events now frames word first in
        let two = act_of events now frames word second in
        not_parallel events now frames history rows behind first.at second.at first.node second.node one.frame two.frame one.done two.done first.inside
        second.inside one.is two.is before parallel

    not_both : (word : ℕ) (first second : Access word) → (IsWriter events first.node word first.at ⊎ IsWriter events second.node word second.at)
        → IsParallel history (its_place word first) (its_place word second) → ⊥
    not_both word first second writer parallel = elim (compare first.at second.at) [
      | Less3 less ↦ ordered word first second (free first.node second.node word first.at second.at less second.inside first.is second.is writer) parallel
      | Same3 same ↦ (
          let one = is_place events now frames word history rows first in
          let two = is_place events now frames word history rows second in
          not_parallel_in_row history rows.numbered (its_place word first) (its_place word second) one two
          (ap (λ (it : Place). it.row) (one_place events now frames word history rows first second same)) parallel)
      | More3 more ↦ ordered word second first (free second.node first.node word second.at first.at more first.inside second.is first.is (turned writer))
          (parallel_is_symmetric history (its_place word first) (its_place word second) parallel)
    ]
      where
        turned : {A B : Type 0} → A ⊎ B → B ⊎ A
        turned (inl one) = inr one
        turned (inr other) = inl other

    -- Where no two accesses of the events race, the history has no race.
    pub has_no_race : HasNoRace history
    has_no_race word x y race = by (entry_for events now frames word history rows x race.first) (entry_for events now frames word history rows y race.second)
      where
        by : (first : Access word) × (x ≡ its_place word first) → (second : Access word) × (y ≡ its_place word second) → ⊥
        by (first, one) (second, two) =
            not_both word first second
            (elim race.change [ inl change ↦ inl (is_writer word first x one change) | inr change ↦ inr (is_writer word second y two change) ])
            (subst (λ place. IsParallel history (its_place word first) place) two (subst (λ place. IsParallel history place y) one race.parallel))

  -- ---- no race in the events

  -- what was done earlier is serially before
  abbrev pub InSerialOrder : Type 0
  InSerialOrder =
      (at later node other : ℕ) (frame second : FrameId) (act next : log.Act) → at < later → later < now → events at ≡ log.Acts node frame act
      → events later ≡ log.Acts other second next →
      IsBefore history (place_for events now frames history rows frame at) (place_for events now frames history rows second later)

  pub is_race_free : InSerialOrder → HasNoRace history → RaceFree events now
  is_race_free serial none node other word at later less inside access next_access writer =
      let first : Access word = record { node = node; at = at; inside = omega (arith, less, inside); is = access } in
      let second : Access word = record { node = other; at = later; inside = inside; is = next_access } in
      let one = act_of events now frames word first in
      let two = act_of events now frames word second in
      let change : (is_change history word (its_place word first) ≡ true) ⊎ (is_change history word (its_place word second) ≡ true) =
      elim writer [ inl it ↦ inl (is_changed word node first it) | inr it ↦ inr (is_changed word other second it) ] in
      precedes events now frames history rows (its_place word first) (its_place word second) at later
      (stands_at events now frames word history rows first) (stands_at events now frames word history rows second)
      (is_place events now frames word history rows first) (is_place events now frames word history rows second) (
        serial at later node other one.frame two.frame one.done two.done less inside one.is two.is,
        λ parallel. none word (its_place word first) (its_place word second)
            (record {
              first = is_accessed events now frames word history rows first;
              second = is_accessed events now frames word history rows second;
              change = change;
              parallel = parallel;
            }),
      )

module _ (starts : Starts) (main : ℕ) (trace : Trace) (obeys : Obeys starts main trace) (now : ℕ) (frames : List FrameId) (history : History)
    (rows : AreRows trace.events now frames history) where
  -- The history of an execution without race has none.
  pub no_race : RaceFree trace.events now → HasNoRace history
  no_race free = has_no_race trace.events now frames history rows (acts_behind starts main trace obeys) free
