-- The accesses of a word that a list has: which acts they are, and where these stand in the history.
use Rattle.std.proofs.Common.{◌≡◌, ◌⊎◌, inl, inr, ℕ, ◌<◌, List, Option, Some, None, true, eqb, refl, sym, ◌∙◌, ap, subst, arith}
use Rattle.std.proofs.lemmas.Bool.Decides.{nat_tests}
use Rattle.page_messages.specs.declared.closure.FrameId.{FrameId}
use Rattle.span_tree.specs.declared.act.Act.{Act}
use Rattle.span_tree.specs.declared.act.Place.{Place}
use Rattle.span_tree.specs.History.{History, IsPlace, act_at}
use Rattle.span_tree.specs.Memory.{accesses, holds_at, is_access}
use Rattle.backer_order.specs.Log as log
use Rattle.backer_order.specs.Log.{Events, SharedMemory}
use Rattle.backer_order.specs.Moments.{IsAccess}
use Rattle.backer_order.specs.Rules.{Caching}
use Rattle.backer_order.specs.HomeOrder.{Before}
use Rattle.backer_order.specs.HomeList.{Entry}
use Rattle.backer_order.proofs.HomeLists as lists
use Rattle.backer_order.proofs.ReadsLast as last
use Rattle.word_order.proofs.Rows.{shown}
use Rattle.word_order.proofs.Places.{AreRows, Stands, Comes, comes, place_back, place_for, stands_for, act_here, place_there, one_position}

pub word_test : (word : ℕ) → eqb word word ≡ true
word_test word = grind (arith, nat_tests)

pub word_is : (word other : ℕ) → eqb word other ≡ true → word ≡ other
word_is word other is = grind (arith, nat_tests)

module _ (events : Events) (now : ℕ) (frames : List FrameId) (word : ℕ) where
  -- the act that an access is
  pub record Accesses (node at : ℕ) : Type 0 where
    pub frame : FrameId
    pub done : log.Act
    pub is : events at ≡ log.Acts node frame done
    pub accesses_word : accesses word (shown frames done) ≡ true

  abbrev pub act_in : (node at : ℕ) → IsAccess events node word at → Accesses node at
  act_in node at (inl (inl write)) = record { frame = write.1.frame; done = log.Write word write.0; is = write.1.is; accesses_word = word_test word }
  act_in node at (inl (inr read)) = record { frame = read.1.frame; done = log.Read word read.0; is = read.1.is; accesses_word = word_test word }
  act_in node at (inr add) = record { frame = add.1.frame; done = log.Add word add.0 add.1.addend; is = add.1.is; accesses_word = word_test word }

  -- and the other way round
  pub access_of : (node at : ℕ) (frame : FrameId) (done : log.Act) → events at ≡ log.Acts node frame done → accesses word (shown frames done) ≡ true
      → IsAccess events node word at
  access_of node at frame (log.Read other value) is it =
      inl (inr (value, record { frame = frame; is = is ∙ ap (λ one. log.Acts node frame (log.Read one value)) (sym (word_is word other it)) }))
  access_of node at frame (log.Write other value) is it =
      inl (inl (value, record { frame = frame; is = is ∙ ap (λ one. log.Acts node frame (log.Write one value)) (sym (word_is word other it)) }))
  access_of node at frame (log.Add other old addend) is it =
      inr (old, record { frame = frame; addend = addend; is = is ∙ ap (λ one. log.Acts node frame (log.Add one old addend)) (sym (word_is word other it)) })
  access_of node at frame (log.Print value) is it = absurd cc
  access_of node at frame (log.Spawn child) is it = absurd cc
  access_of node at frame log.Sync is it = absurd cc

  abbrev pub act_of : (entry : Entry events now word) → Accesses entry.node entry.at
  act_of entry = act_in entry.node entry.at entry.is

  -- one node acts at a position, and one frame
  pub one_node : (first second : Entry events now word) → first.at ≡ second.at → first.node ≡ second.node
  one_node first second same =
      by (act_of first) (act_of second)
    where
      by : Accesses first.node first.at → Accesses second.node second.at → first.node ≡ second.node
      by one two = let is = sym (one.is) ∙ ap events same ∙ two.is in cc

  module _ (history : History) (rows : AreRows events now frames history) where
    -- the place of an access
    abbrev pub place_at : Entry events now word → Place
    place_at entry = place_for events now frames history rows (act_of entry).frame entry.at

    -- the act of an access
    abbrev pub shown_at : Entry events now word → Act
    shown_at entry = shown frames (act_of entry).done

    pub act_is : (entry : Entry events now word) → act_at history (place_at entry) ≡ Some (shown_at entry)
    act_is entry = act_here events now frames history rows entry.at entry.node (act_of entry).frame (act_of entry).done entry.inside (act_of entry).is

    pub is_place : (entry : Entry events now word) → IsPlace history (place_at entry)
    is_place entry = place_there events now frames history rows entry.at entry.node (act_of entry).frame (act_of entry).done entry.inside (act_of entry).is

    pub stands_at : (entry : Entry events now word) → Stands events now frames history rows (place_at entry) entry.at
    stands_at entry = stands_for events now frames history rows entry.at entry.node (act_of entry).frame (act_of entry).done entry.inside (act_of entry).is

    pub is_accessed : (entry : Entry events now word) → is_access history word (place_at entry) ≡ true
    is_accessed entry = ap (holds_at (accesses word)) (act_is entry) ∙ (act_of entry).accesses_word

    -- two accesses have two places
    pub one_access : (first second : Entry events now word) → place_at first ≡ place_at second → first.at ≡ second.at
    one_access first second same =
        one_position events now frames history rows first.at first.node (act_of first).frame (act_of first).done
        second.at second.node (act_of second).frame (act_of second).done first.inside (act_of first).is
        second.inside (act_of second).is same

    pub one_place : (first second : Entry events now word) → first.at ≡ second.at → place_at first ≡ place_at second
    one_place first second same = by (act_of first) (act_of second)
      where
        by : (one : Accesses first.node first.at) → (two : Accesses second.node second.at)
            → place_for events now frames history rows one.frame first.at ≡ place_for events now frames history rows two.frame second.at
        by one two =
            let is = sym (one.is) ∙ ap events same ∙ two.is in
            let frame : one.frame ≡ two.frame = cc in
            ap (λ it. place_for events now frames history rows it first.at) frame ∙ ap (λ at. place_for events now frames history rows two.frame at) same

    -- each place of an access is that of an entry
    pub entry_for : (place : Place) → is_access history word place ≡ true → (entry : Entry events now word) × (place ≡ place_at entry)
    entry_for place is = on (act_at history place) refl is
      where
        on : (act : Option Act) → act_at history place ≡ act → holds_at (accesses word) act ≡ true → (entry : Entry events now word) × (place ≡ place_at entry)
        on None found is = absurd cc
        on (Some act) found is =
            let it = comes events now frames history rows place act found in
            let entry : Entry events now word = record {
              node = it.node;
              at = it.at;
              inside = it.inside;
              is = access_of it.node it.at it.frame it.done it.is (ap (accesses word) it.act_is ∙ is);
            } in
            (entry, place_back events now frames history rows place act it ∙ same it entry (act_of entry) refl)
          where
            same : (it : Comes events now frames history rows place act) (entry : Entry events now word) (one : Accesses entry.node entry.at) → it.at ≡ entry.at
                → place_for events now frames history rows it.frame it.at ≡ place_for events now frames history rows one.frame entry.at
            same it entry one at =
                let is = sym (it.is) ∙ ap events at ∙ one.is in
                let frame : it.frame ≡ one.frame = cc in
                ap (λ one. place_for events now frames history rows one it.at) frame
                ∙ ap (λ position. place_for events now frames history rows one.frame position) at

  -- ---- the order of the accesses

  module _ (memory : SharedMemory) (caching : Caching events memory) where
    abbrev pub Earlier : Entry events now word → Entry events now word → Type 0
    Earlier first second = Before events memory now word first.node first.at second.node second.at

    pub earlier_on : (first second third : Entry events now word) → Earlier first second → Earlier second third → Earlier first third
    earlier_on first second third one two = lists.trans events memory caching now word first.node first.at second.node second.at third.node third.at one two

    pub not_earlier : (entry : Entry events now word) → Earlier entry entry → ⊥
    not_earlier entry (inl (inl both)) =
        let same = last.moment_unique events memory caching entry.node word entry.at both.first both.second both.first_is both.second_is in
        let at = entry.at in
        apart both.first both.second at same both.order
      where
        apart : (first second at : ℕ) → first ≡ second → (first < second) ⊎ ((first ≡ second) × (at < at)) → ⊥
        apart first second at same (inl less) = omega (arith, same, less)
        apart first second at same (inr less) = let here = less.1 in omega (arith, here)
    not_earlier entry (inl (inr one)) = one.second_is one.first one.first_in one.first_is
    not_earlier entry (inr none) = apart entry.node entry.at none.order
      where
        apart : (node at : ℕ) → (node < node) ⊎ ((node ≡ node) × (at < at)) → ⊥
        apart node at (inl less) = omega (arith, less)
        apart node at (inr less) = let here = less.1 in omega (arith, here)

    -- the order is that of positions and their nodes
    pub earlier_as : (first second other next : Entry events now word) → first.at ≡ other.at → second.at ≡ next.at → Earlier first second → Earlier other next
    earlier_as first second other next one two earlier =
        subst (λ at. Before events memory now word other.node other.at next.node at) two
        (subst (λ node. Before events memory now word other.node other.at node second.at) (one_node second next two)
        (subst (λ at. Before events memory now word other.node at second.node second.at) one
        (subst (λ node. Before events memory now word node first.at second.node second.at) (one_node first other one) earlier)))
