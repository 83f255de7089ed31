-- What precedes a place in the dag of a history precedes it in the dag of the events.
use Rattle.std.proofs.Common.{◌≡◌, ◌⊎◌, inl, inr, ℕ, ◌<◌, ◌≤◌, List, [], ◌∷◌, refl, sym, ◌∙◌, ap, subst, arith}
use Rattle.page_messages.specs.declared.closure.FrameId.{FrameId}
use Rattle.span_tree.specs.declared.act.Act.TheVariants as acts
use Rattle.span_tree.specs.declared.act.Place.{Place}
use Rattle.span_tree.specs.Dag as dag
use Rattle.span_tree.specs.Dag.{PartUnsynced, NoSync, way}
use Rattle.span_tree.specs.History.{History, IsPlace, act_at, row_at}
use Rattle.span_tree.proofs.Orders.{Earlier, earlier_of}
use Rattle.span_tree.proofs.Ways.{child_same, some_same}
use Rattle.backer_order.specs.Log as log
use Rattle.backer_order.specs.Log.{Events}
use Rattle.backer_order.specs.Dag.{Under, At, Below, SyncAt, Precedes}
use Rattle.backer_order.proofs.Search.{Order3, Less3, Same3, More3, compare}
use Rattle.word_order.proofs.Rows.{shown}
use Rattle.word_order.proofs.Places.{AreRows, Stands, stands, one_frame, one_position_at, order_in_row, spawned_there}
use Rattle.word_order.proofs.Leading.{Leads, leads_from_act, way_leads, SyncBetween, sync_or_none}

module _ (events : Events) (now : ℕ) (frames : List FrameId) (history : History) (rows : AreRows events now frames history) where
  abbrev Is : Place → ℕ → Type 0
  Is place at = Stands events now frames history rows place at

  abbrev place_of : ℕ → ℕ → Place
  place_of row act = record { row = row; act = act }

  -- what stands at the first place of a way
  first_there : (row act : ℕ) (rest : List ℕ) (place : Place) (at : ℕ) → Is place at → Leads history row (act ∷ rest) place
      → (first : ℕ) × Is (place_of row act) first
  first_there row act rest place at it leads =
      let found = leads_from_act history row act rest place (shown frames it.done) it.act_is leads in
      stands events now frames history rows (place_of row act) (found.0) (found.1)

  -- what the way leads to is at its first act, or below it
  under : (row act : ℕ) (rest : List ℕ) (place : Place) (at first : ℕ) → Is place at → (that : Is (place_of row act) first)
      → Leads history row (act ∷ rest) place → Under events at that.frame first
  under row act [] place at first it that leads =
      At (that.node, that.done, that.is) (one_position_at events now frames history rows (place_of row act) at first (subst (λ one. Is one at) leads it) that)
  under row act (next ∷ rest) place at first it that (child, spawns, leads) =
      let spawn = spawned_there events now frames history rows (place_of row act) first child that spawns in
      let below = first_there child next rest place at it leads in
      let same : below.1.frame ≡ spawn.0 = some_same (below.1.frame) (spawn.0) (sym (below.1.number) ∙ spawn.2) in
      Below that.node (spawn.0) (below.0) (spawn.1)
      (subst (λ frame. Under events at frame (below.0)) same (under child next rest place at (below.0) it (below.1) leads))

  -- in one row, the one earlier, and no child or a Sync between
  module _ (row act later_act : ℕ) (first second : ℕ) (it : Is (place_of row act) first) (that : Is (place_of row later_act) second) where
    same : that.frame ≡ it.frame
    same = one_frame events now frames history rows (place_of row later_act) (place_of row act) second first refl that it

    synced : SyncBetween (row_at history row).acts act later_act → SyncAt events it.frame first second
    synced sync =
        let found = stands events now frames history rows (place_of row sync.at) acts.Sync sync.is in
        let frame : found.1.frame ≡ it.frame =
        one_frame events now frames history rows (place_of row sync.at) (place_of row act) (found.0) first refl (found.1) it in
        record {
          at = found.0;
          node = found.1.node;
          after = order_in_row events now frames history rows (place_of row act) (place_of row sync.at) first (found.0) refl sync.behind it (found.1);
          before = up_to (found.0) (found.1) (compare sync.at later_act);
          is = found.1.is ∙ ap (λ one. log.Acts found.1.node one (found.1.done)) frame
              ∙ ap (λ one. log.Acts found.1.node it.frame one) (is_sync (found.1.done)
              (some_same (shown frames (found.1.done)) acts.Sync (sym (found.1.act_is) ∙ sync.is)));
        }
      where
        is_sync : (done : log.Act) → shown frames done ≡ acts.Sync → done ≡ log.Sync
        is_sync (log.Read word value) is = absurd cc
        is_sync (log.Write word value) is = absurd cc
        is_sync (log.Add word old addend) is = absurd cc
        is_sync (log.Print value) is = absurd cc
        is_sync (log.Spawn child) is = absurd cc
        is_sync log.Sync is = refl

        up_to : (at : ℕ) → Is (place_of row sync.at) at → Order3 sync.at later_act → at ≤ second
        up_to at found (Less3 less) =
            let order = order_in_row events now frames history rows (place_of row sync.at) (place_of row later_act) at second refl less found that in
            omega (arith, order)
        up_to at found (Same3 one) =
            let here = one_position_at events now frames history rows (place_of row later_act) at second
            (subst (λ place. Is (place_of row place) at) one found) that in omega (arith, here)
        up_to at found (More3 more) = let up_to = sync.up_to in absurd (omega (arith, more, up_to))

    across : (x y : ℕ) → act < later_act → Under events x it.frame first → Under events y that.frame second → (x ≡ first) ⊎ SyncAt events it.frame first second
        → Precedes events x y
    across x y less one two serial = inl (record {
      frame = it.frame;
      act = first;
      later_act = second;
      first = one;
      second = subst (λ frame. Under events y frame second) same two;
      order = order_in_row events now frames history rows (place_of row act) (place_of row later_act) first second refl less it that;
      serial = serial;
    })

  parts : (row : ℕ) (xs ys : List ℕ) (x y : Place) (at later : ℕ) → Is x at → Is y later → Leads history row xs x → Leads history row ys y → Earlier xs ys
      → (PartUnsynced history row xs ys → ⊥) → Precedes events at later
  parts row [] ys x y at later it that one two earlier serial = absurd one
  parts row (i ∷ xs) [] x y at later it that one two earlier serial = absurd two
  parts row (i ∷ []) (j ∷ ys) x y at later it that one two (inl less) serial =
      let first = first_there row i [] x at it one in
      let second = first_there row j ys y later that two in
      across row i j (first.0) (second.0) (first.1) (second.1) at later less (under row i [] x at (first.0) it (first.1) one)
      (under row j ys y later (second.0) that (second.1) two)
      (inl (one_position_at events now frames history rows (place_of row i) at (first.0) (subst (λ place. Is place at) one it) (first.1)))
  parts row (i ∷ (k ∷ xs)) (j ∷ ys) x y at later it that one two (inl less) serial =
      let first = first_there row i (k ∷ xs) x at it one in
      let second = first_there row j ys y later that two in
      across row i j (first.0) (second.0) (first.1) (second.1) at later less (under row i (k ∷ xs) x at (first.0) it (first.1) one)
      (under row j ys y later (second.0) that (second.1) two)
      (elim (sync_or_none (row_at history row).acts i j less) [
        | inl sync ↦ inr (synced row i j (first.0) (second.0) (first.1) (second.1) sync)
        | inr quiet ↦ absurd (serial (inl (less, (λ none. absurd cc), quiet)))
      ])
  parts row (i ∷ []) (j ∷ []) x y at later it that one two (inr (level, earlier)) serial = absurd earlier
  parts row (i ∷ []) (j ∷ (k ∷ ys)) x y at later it that one two (inr (level, earlier)) serial =
      let here : Is (place_of row j) at = subst (λ act. Is (place_of row act) at) level (subst (λ place. Is place at) one it) in
      let spawn = spawned_there events now frames history rows (place_of row j) at (two.0) here (two.1) in
      let below = first_there (two.0) k ys y later that (two.2) in
      let frame : below.1.frame ≡ spawn.0 = some_same (below.1.frame) (spawn.0) (sym (below.1.number) ∙ spawn.2) in
      inr (record {
        node = here.node;
        frame = here.frame;
        child = spawn.0;
        act = below.0;
        is = spawn.1;
        below = subst (λ frame. Under events later frame (below.0)) frame (under (two.0) k ys y later (below.0) that (below.1) (two.2));
      })
  parts row (i ∷ (k ∷ xs)) (j ∷ []) x y at later it that one two (inr (level, earlier)) serial = absurd earlier
  parts row (i ∷ (k ∷ xs)) (j ∷ (l ∷ ys)) x y at later it that one two (inr (level, earlier)) serial =
      let same_child : two.0 ≡ one.0 = child_same (two.0) (one.0) (sym (two.1) ∙ ap (λ act. act_at history (place_of row act)) (sym level) ∙ one.1) in
      parts (one.0) (k ∷ xs) (l ∷ ys) x y at later it that (one.2) (subst (λ number. Leads history number (l ∷ ys) y) same_child (two.2)) earlier
      (λ part. serial (inr (level, one.0, one.1, part)))

  -- The order of the dag of the history is that of the dag of the events.
  pub precedes : (x y : Place) (at later : ℕ) → Is x at → Is y later → IsPlace history x → IsPlace history y → dag.Precedes history x y
      → Precedes events at later
  precedes x y at later it that is_x is_y before =
      parts 0 (way history x) (way history y) x y at later it that (way_leads history (rows.numbered) x is_x) (way_leads history (rows.numbered) y is_y)
      (earlier_of history (rows.numbered) x y (before.0)) (λ beside. before.1 (inl beside))
