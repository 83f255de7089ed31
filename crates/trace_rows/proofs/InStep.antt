-- Two histories whose rows correspond, act for act, from `main` on are one history, since both number their rows as the walk comes to them.
use Rattle.std.proofs.Common.{◌≡◌, ℕ, zero, suc, ◌+◌, ◌<◌, List, [], ◌∷◌, ◌++◌, Some, None, length, refl, sym, ◌∙◌, ap, subst, arith}
use Rattle.std.specs.Prelude.{slice_get, slice_index_or}
use Rattle.std.specs.List.{filter_map, cons_option, range_with_len}
use Rattle.std.proofs.lemmas.List.FromFn.{length-range_with_len}
use Rattle.std.proofs.lemmas.List.Elements.{filter_map-append}
use Rattle.span_tree.specs.declared.act.Act.{Act}
use Rattle.span_tree.specs.declared.act.Act.TheVariants.{Read, Write, Add, Print, Spawn, Sync}
use Rattle.span_tree.specs.declared.act.Place.{Place}
use Rattle.span_tree.specs.History.{Row, History, no_row, row_at, act_at, spawned_by, with_child_places, places_from, places_below, serial_order, IsNumbered}
use Rattle.span_tree.proofs.Ways.{same_below}

-- ---- two lists, pairwise

abbrev pub Pairwise : {A : Type 0} → (A → A → Type 0) → List A → List A → Type 0
Pairwise Related [] [] = Unit {0}
Pairwise Related [] (second ∷ seconds) = ⊥
Pairwise Related (first ∷ firsts) [] = ⊥
Pairwise Related (first ∷ firsts) (second ∷ seconds) = Related first second × Pairwise Related firsts seconds

module _ {A : Type 0} (Related : A → A → Type 0) where
  pub pairwise_both : (firsts seconds more others : List A) → Pairwise Related firsts seconds → Pairwise Related more others →
      Pairwise Related (firsts ++ more) (seconds ++ others)
  pairwise_both [] [] more others pairs rest = rest
  pairwise_both [] (second ∷ seconds) more others pairs rest = absurd pairs
  pairwise_both (first ∷ firsts) [] more others pairs rest = absurd pairs
  pairwise_both (first ∷ firsts) (second ∷ seconds) more others pairs rest = (pairs.0, pairwise_both firsts seconds more others pairs.1 rest)

  pairwise_length : (firsts seconds : List A) → Pairwise Related firsts seconds → length firsts ≡ length seconds
  pairwise_length [] [] pairs = refl
  pairwise_length [] (second ∷ seconds) pairs = absurd pairs
  pairwise_length (first ∷ firsts) [] pairs = absurd pairs
  pairwise_length (first ∷ firsts) (second ∷ seconds) pairs = ap suc (pairwise_length firsts seconds pairs.1)

-- each number of a range is related to itself
in_range : (Related : ℕ → ℕ → Type 0) (from count place : ℕ) → Pairwise Related (range_with_len from count) (range_with_len from count) → place < count →
    Related (from + place) (from + place)
in_range Related from zero place pairs less = absurd (omega (arith, less))
in_range Related from (suc count) zero pairs less = let same : from ≡ from + 0 = omega arith in subst (λ number. Related number number) same pairs.0
in_range Related from (suc count) (suc place) pairs less =
    let same : (from + 1) + place ≡ from + suc place = omega arith in
    subst (λ number. Related number number) same (in_range Related (from + 1) count place pairs.1 (omega (arith, less)))

-- lists with the same elements at each place
same_lists : {A : Type 0} (firsts seconds : List A) (otherwise : A) → length firsts ≡ length seconds →
    ((place : ℕ) → place < length firsts → slice_index_or firsts place otherwise ≡ slice_index_or seconds place otherwise) → firsts ≡ seconds
same_lists [] [] otherwise lengths each = refl
same_lists [] (second ∷ seconds) otherwise lengths each = absurd (omega (arith, lengths))
same_lists (first ∷ firsts) [] otherwise lengths each = absurd (omega (arith, lengths))
same_lists (first ∷ firsts) (second ∷ seconds) otherwise lengths each =
    ap (λ it. it ∷ firsts) (each 0 (omega arith))
    ∙ ap (λ rest. second ∷ rest) (same_lists firsts seconds otherwise (omega (arith, lengths)) (λ place less. each (suc place) (omega (arith, less))))

-- ---- acts that correspond

-- one act, or two that spawn corresponding rows
pub data Alike (Rows : ℕ → ℕ → Type 0) : Act → Act → Type 0 where
  Plain : (act : Act) → spawned_by act ≡ None → Alike Rows act act
  BothSpawn : (child second : ℕ) → Rows child second → Alike Rows (Spawn child) (Spawn second)

-- ---- the rows that are named in serial order

module _ (history : History) where
  -- the rows that are named at these places
  abbrev named_at : List Place → List ℕ
  named_at places = filter_map spawned_by (filter_map (act_at history) places)

  named_both : (front back : List Place) → named_at (front ++ back) ≡ named_at front ++ named_at back
  named_both front back =
      ap (filter_map spawned_by) (filter_map-append (act_at history) front back)
      ∙ filter_map-append spawned_by (filter_map (act_at history) front) (filter_map (act_at history) back)

  named_none : (place : Place) (act : Act) → act_at history place ≡ Some act → spawned_by act ≡ None → named_at (place ∷ []) ≡ []
  named_none place act is none = ap (λ it. filter_map spawned_by (cons_option it [])) is ∙ ap (λ it. cons_option it []) none

  named_plain : (places : ℕ → List Place) (place : Place) (act : Act) → act_at history place ≡ Some act → spawned_by act ≡ None →
      named_at (with_child_places places place act) ≡ []
  named_plain places place (Read word value) is none = named_none place (Read word value) is none
  named_plain places place (Write word value) is none = named_none place (Write word value) is none
  named_plain places place (Add word old addend) is none = named_none place (Add word old addend) is none
  named_plain places place (Print value) is none = named_none place (Print value) is none
  named_plain places place (Spawn child) is none = absurd cc
  named_plain places place Sync is none = named_none place Sync is none

  named_spawn : (places : ℕ → List Place) (place : Place) (child : ℕ) → act_at history place ≡ Some (Spawn child) →
      named_at (place ∷ places child) ≡ child ∷ named_at (places child)
  named_spawn places place child is = ap (λ it. filter_map spawned_by (cons_option it (filter_map (act_at history) (places child)))) is

  -- these acts stand in the row from an index on
  abbrev StandFrom : ℕ → ℕ → List Act → Type 0
  StandFrom row index acts = (place : ℕ) (act : Act) → slice_get acts place ≡ Some act → act_at history (record { row = row; act = index + place }) ≡ Some act

  all_stand : (row : ℕ) → StandFrom row 0 (row_at history row).acts
  all_stand row place act found =
      let same : place ≡ 0 + place = omega arith in subst (λ it. act_at history (record { row = row; act = it }) ≡ Some act) same found

  first_stands : (row index : ℕ) (act : Act) (acts : List Act) → StandFrom row index (act ∷ acts) →
      act_at history (record { row = row; act = index }) ≡ Some act
  first_stands row index act acts stand =
      let same : index + 0 ≡ index = omega arith in subst (λ it. act_at history (record { row = row; act = it }) ≡ Some act) same (stand 0 act refl)

  rest_stand : (row index : ℕ) (act : Act) (acts : List Act) → StandFrom row index (act ∷ acts) → StandFrom row (suc index) acts
  rest_stand row index act acts stand place later found =
      let same : index + suc place ≡ suc index + place = omega arith in
      subst (λ it. act_at history (record { row = row; act = it }) ≡ Some later) same (stand (suc place) later found)

module _ (history other : History) (Rows : ℕ → ℕ → Type 0) where
  -- Where what lies below corresponding rows names corresponding ones, so do two acts that correspond,
  named_alike : (places seconds : ℕ → List Place) →
      ((row second : ℕ) → Rows row second → Pairwise Rows (named_at history (places row)) (named_at other (seconds second))) →
      (place twin : Place) (act made : Act) → act_at history place ≡ Some act → act_at other twin ≡ Some made → Alike Rows act made →
      Pairwise Rows (named_at history (with_child_places places place act)) (named_at other (with_child_places seconds twin made))
  named_alike places seconds below place twin act made here there (Plain same none) =
      subst (λ list. Pairwise Rows list (named_at other (with_child_places seconds twin same))) (sym (named_plain history places place same here none))
      (subst (λ list. Pairwise Rows [] list) (sym (named_plain other seconds twin same there none)) tt)
  named_alike places seconds below place twin act made here there (BothSpawn child second rows) =
      subst (λ list. Pairwise Rows list (named_at other (twin ∷ seconds second))) (sym (named_spawn history places place child here))
      (subst (λ list. Pairwise Rows (child ∷ named_at history (places child)) list) (sym (named_spawn other seconds twin second there))
      (rows, below child second rows))

  -- and so do all acts of two rows.
  named_from : (places seconds : ℕ → List Place) →
      ((row second : ℕ) → Rows row second → Pairwise Rows (named_at history (places row)) (named_at other (seconds second))) →
      (row second index : ℕ) (acts others : List Act) → StandFrom history row index acts → StandFrom other second index others →
      Pairwise (Alike Rows) acts others →
      Pairwise Rows (named_at history (places_from places row index acts)) (named_at other (places_from seconds second index others))
  named_from places seconds below row second index [] [] here there pairs = tt
  named_from places seconds below row second index [] (made ∷ others) here there pairs = absurd pairs
  named_from places seconds below row second index (act ∷ acts) [] here there pairs = absurd pairs
  named_from places seconds below row second index (act ∷ acts) (made ∷ others) here there pairs =
      let place : Place = record { row = row; act = index } in
      let twin : Place = record { row = second; act = index } in
      let first = named_alike places seconds below place twin act made (first_stands history row index act acts here)
      (first_stands other second index made others there) pairs.0 in
      let rest = named_from places seconds below row second (suc index) acts others (rest_stand history row index act acts here)
      (rest_stand other second index made others there) pairs.1 in
      subst (λ list. Pairwise Rows list (named_at other (places_from seconds second index (made ∷ others))))
      (sym (named_both history (with_child_places places place act) (places_from places row (suc index) acts)))
      (subst (λ list. Pairwise Rows (named_at history (with_child_places places place act) ++ named_at history (places_from places row (suc index) acts)) list)
      (sym (named_both other (with_child_places seconds twin made) (places_from seconds second (suc index) others)))
      (pairwise_both Rows (named_at history (with_child_places places place act)) (named_at other (with_child_places seconds twin made))
      (named_at history (places_from places row (suc index) acts)) (named_at other (places_from seconds second (suc index) others)) first rest))

  -- Rows of two histories correspond: they run the same, and their acts correspond. Each row has one at most.
  pub record AreInStep : Type 0 where
    pub mains : Rows 0 0
    pub inside : (row second : ℕ) → Rows row second → row < length history
    pub one_row : (row second third : ℕ) → Rows row second → Rows row third → second ≡ third
    pub procedure : (row second : ℕ) → Rows row second → (row_at history row).proc ≡ (row_at other second).proc
    pub arguments : (row second : ℕ) → Rows row second → (row_at history row).args ≡ (row_at other second).args
    pub acts : (row second : ℕ) → Rows row second → Pairwise (Alike Rows) (row_at history row).acts (row_at other second).acts

module _ (history other : History) (numbered : IsNumbered history) (other_numbered : IsNumbered other) (Rows : ℕ → ℕ → Type 0)
    (in_step : AreInStep history other Rows) where
  below_alike : (depth row second : ℕ) → Rows row second →
      Pairwise Rows (named_at history (places_below depth history row)) (named_at other (places_below depth other second))
  below_alike zero row second rows = tt
  below_alike (suc depth) row second rows =
      named_from history other Rows (places_below depth history) (places_below depth other) (λ child twin are. below_alike depth child twin are) row second 0
      (row_at history row).acts (row_at other second).acts (all_stand history row) (all_stand other second) (in_step.acts row second rows)

  -- a depth at which both are whole
  abbrev depth : ℕ
  depth = length history + length other

  ranges : Pairwise Rows (range_with_len 0 (length history)) (range_with_len 0 (length other))
  ranges =
      let whole : places_below depth history 0 ≡ serial_order history = same_below history numbered depth (length history) 0 (omega arith) (omega arith) in
      let other_whole : places_below depth other 0 ≡ serial_order other = same_below other other_numbered depth (length other) 0 (omega arith) (omega arith) in
      let walks : Pairwise Rows (0 ∷ named_at history (places_below depth history 0)) (0 ∷ named_at other (places_below depth other 0)) =
      (in_step.mains, below_alike depth 0 0 in_step.mains) in
      subst (λ list. Pairwise Rows list (range_with_len 0 (length other))) (ap (λ places. 0 ∷ named_at history places) whole ∙ numbered.preorder)
      (subst (λ list. Pairwise Rows (0 ∷ named_at history (places_below depth history 0)) list)
      (ap (λ places. 0 ∷ named_at other places) other_whole ∙ other_numbered.preorder) walks)

  same_length : length history ≡ length other
  same_length =
      sym (length-range_with_len 0 (length history)) ∙ pairwise_length Rows (range_with_len 0 (length history)) (range_with_len 0 (length other)) ranges
      ∙ length-range_with_len 0 (length other)

  -- each row corresponds to the one of its number
  own : (row : ℕ) → row < length history → Rows row row
  own row less =
      let same : 0 + row ≡ row = omega arith in
      subst (λ number. Rows number number) same (in_range Rows 0 (length history) row
      (subst (λ count. Pairwise Rows (range_with_len 0 (length history)) (range_with_len 0 count)) (sym same_length) ranges) less)

  one_act : (act made : Act) → Alike Rows act made → act ≡ made
  one_act act made (Plain same none) = refl
  one_act act made (BothSpawn child second rows) = ap Spawn (in_step.one_row child child second (own child (in_step.inside child second rows)) rows)

  one_list : (acts others : List Act) → Pairwise (Alike Rows) acts others → acts ≡ others
  one_list [] [] pairs = refl
  one_list [] (made ∷ others) pairs = absurd pairs
  one_list (act ∷ acts) [] pairs = absurd pairs
  one_list (act ∷ acts) (made ∷ others) pairs = ap (λ it. it ∷ acts) (one_act act made pairs.0) ∙ ap (λ rest. made ∷ rest) (one_list acts others pairs.1)

  same_acts : (row : ℕ) → row < length history → (row_at history row).acts ≡ (row_at other row).acts
  same_acts row less = one_list (row_at history row).acts (row_at other row).acts (in_step.acts row row (own row less))

  same_parent : (row : ℕ) → row < length history → (row_at history row).parent ≡ (row_at other row).parent
  same_parent zero less = numbered.main ∙ sym other_numbered.main
  same_parent (suc row) less =
      let it = numbered.parent (suc row) (omega arith) less in
      let before = it.1.before in
      let spawns : act_at other it.0 ≡ Some (Spawn (suc row)) = ap (λ acts. slice_get acts it.0.act) (sym (same_acts it.0.row (omega (arith, before, less))))
      ∙ it.1.spawns in
      it.1.named ∙ sym (other_numbered.child it.0 (suc row) spawns).1.named

  same_parts : (first second : Row) → first.parent ≡ second.parent → first.proc ≡ second.proc → first.args ≡ second.args → first.acts ≡ second.acts →
      first ≡ second
  same_parts first second parent procedure arguments acts =
      ap (λ it. record { parent = it; proc = first.proc; args = first.args; acts = first.acts }) parent
      ∙ ap (λ it. record { parent = second.parent; proc = it; args = first.args; acts = first.acts }) procedure
      ∙ ap (λ it. record { parent = second.parent; proc = second.proc; args = it; acts = first.acts }) arguments
      ∙ ap (λ it. record { parent = second.parent; proc = second.proc; args = second.args; acts = it }) acts

  -- Histories whose rows correspond from `main` on are one.
  pub same_history : history ≡ other
  same_history = same_lists history other no_row same_length (λ row less. same_parts (row_at history row) (row_at other row)
      (same_parent row less) (in_step.procedure row row (own row less)) (in_step.arguments row row (own row less)) (same_acts row less))
