-- The acts of a frame in a line of events, as the rows of a history have them, and which act stands where.
use Rattle.std.proofs.Common.{◌≡◌, inl, inr, ℕ, zero, suc, ◌<◌, ◌≤◌, List, [], ◌∷◌, ◌++◌, Some, Bool, true, false, cond, length, refl, sym, ◌∙◌, ap, subst, length-append, arith, rules}
use Rattle.std.specs.Prelude.{slice_get}
use Rattle.page_messages.specs.declared.closure.FrameId.{FrameId}
use Rattle.span_tree.specs.declared.act.Act.{Act}
use Rattle.span_tree.specs.declared.act.Act.TheVariants as row
use Rattle.span_tree.proofs.Growing.{get_last, get_more}
use Rattle.cluster_rules.specs.Lives.{same_frame}
use Rattle.cluster_rules.specs.Histories.{row_number}
use Rattle.backer_order.specs.Log as log
use Rattle.backer_order.specs.Log.{Events}
use Rattle.backer_order.proofs.Search.{Less3, Same3, More3, compare}
use Rattle.cluster_rules.proofs.Marks.{same_self, same_name}

-- ---- the row of a frame

-- the frame at the number of a frame that is there is this one
pub number_get : (frames : List FrameId) (frame : FrameId) → row_number frames frame < length frames → slice_get frames (row_number frames frame) ≡ Some frame
number_get [] frame less = absurd (omega (arith, less))
number_get (first ∷ frames) frame less = on (same_frame first frame) refl less (number_get frames frame)
  where
    on : (b : Bool) → same_frame first frame ≡ b → cond b 0 (suc (row_number frames frame)) < length (first ∷ frames)
        → (row_number frames frame < length frames → slice_get frames (row_number frames frame) ≡ Some frame)
        → slice_get (first ∷ frames) (cond b 0 (suc (row_number frames frame))) ≡ Some frame
    on true is less rest = ap Some (same_name first frame is)
    on false is less rest = rest (omega (arith, less))

-- no frame stands before its number
pub number_first : (frames : List FrameId) (number : ℕ) (frame : FrameId) → slice_get frames number ≡ Some frame → row_number frames frame ≤ number
number_first [] number frame is = absurd cc
number_first (first ∷ frames) zero frame is = let same : first ≡ frame = cc in
    let test : same_frame first frame ≡ true = subst (λ it. same_frame first it ≡ true) same (same_self first) in rw test (omega arith)
number_first (first ∷ frames) (suc number) frame is = on (same_frame first frame) (number_first frames number frame is)
  where
    on : (b : Bool) → row_number frames frame ≤ number → cond b 0 (suc (row_number frames frame)) ≤ suc number
    on true less = omega arith
    on false less = omega (arith, less)

-- ---- the acts of a frame

get_more_behind : (front more : List Act) (act : Act) (place : ℕ) → slice_get front place ≡ Some act → slice_get (front ++ more) place ≡ Some act
get_more_behind [] more act place found = absurd cc
get_more_behind (first ∷ front) more act zero found = found
get_more_behind (first ∷ front) more act (suc place) found = get_more_behind front more act place found

-- the act of a history that an act of a frame is
abbrev pub shown : List FrameId → log.Act → Act
shown frames (log.Read word value) = row.Read word value
shown frames (log.Write word value) = row.Write word value
shown frames (log.Add word old addend) = row.Add word old addend
shown frames (log.Print value) = row.Print value
shown frames (log.Spawn child) = row.Spawn (row_number frames child)
shown frames log.Sync = row.Sync

abbrev pub act_by : List FrameId → FrameId → log.Event → List Act
act_by frames frame (log.Acts node other act) = cond (same_frame other frame) (shown frames act ∷ []) []
act_by frames frame _ = []

-- what a frame did before a position
unfoldable pub acts_before : List FrameId → Events → FrameId → ℕ → List Act
acts_before frames events frame zero = []
acts_before frames events frame (suc now) = acts_before frames events frame now ++ act_by frames frame (events now)

module _ (frames : List FrameId) (events : Events) (frame : FrameId) where
  abbrev acts : ℕ → List Act
  acts now = acts_before frames events frame now

  -- how many acts of the frame stand before a position
  abbrev pub place_in : ℕ → ℕ
  place_in at = length (acts at)

  pub act_next : (at node : ℕ) (act : log.Act) → events at ≡ log.Acts node frame act → acts (suc at) ≡ acts at ++ shown frames act ∷ []
  unfolding acts_before
  act_next at node act is = ap (λ list. acts at ++ list) (ap (act_by frames frame) is ∙ ap (λ b. cond b (shown frames act ∷ []) []) (same_self frame))

  place_next : (at : ℕ) → place_in at ≤ place_in (suc at)
  unfolding acts_before
  place_next at = let sum = length-append (acts at) (act_by frames frame (events at)) in omega (arith, sum)

  pub place_later : (first now : ℕ) → first ≤ now → place_in first ≤ place_in now
  place_later first zero less = let same : first ≡ zero = omega (arith, less) in subst (λ at. place_in first ≤ place_in at) same (omega arith)
  place_later first (suc now) less = elim (compare first (suc now)) [
    | Less3 earlier ↦ let rest = place_later first now (omega (arith, earlier)) in let next = place_next now in omega (arith, rest, next)
    | Same3 same ↦ subst (λ at. place_in first ≤ place_in at) same (omega arith)
    | More3 later ↦ absurd (omega (arith, less, later))
  ]

  pub place_passed : (at node now : ℕ) (act : log.Act) → events at ≡ log.Acts node frame act → at < now → place_in at < place_in now
  place_passed at node now act is less =
      let next = ap length (act_next at node act is) in
      let sum = length-append (acts at) (shown frames act ∷ []) in
      let rest = place_later (suc at) now (omega (arith, less)) in
      omega (arith, next, sum, rest)

  -- what stands at a lesser place was done earlier
  pub place_order : (first second : ℕ) → place_in first < place_in second → first < second
  place_order first second less = elim (compare first second) [
    | Less3 earlier ↦ earlier
    | Same3 same ↦ let one = ap place_in same in absurd (omega (arith, less, one))
    | More3 later ↦ let rest = place_later second first (omega (arith, later)) in absurd (omega (arith, less, rest))
  ]

  pub place_once : (first second node other : ℕ) (act next : log.Act) → events first ≡ log.Acts node frame act → events second ≡ log.Acts other frame next
      → place_in first ≡ place_in second → first ≡ second
  place_once first second node other act next is is' same = elim (compare first second) [
    | Less3 earlier ↦ let less = place_passed first node second act is earlier in absurd (omega (arith, less, same))
    | Same3 one ↦ one
    | More3 later ↦ let less = place_passed second other first next is' later in absurd (omega (arith, less, same))
  ]

  -- the act that was done at a position stands at its place
  pub act_there : (at node now : ℕ) (act : log.Act) → events at ≡ log.Acts node frame act → at < now
      → slice_get (acts now) (place_in at) ≡ Some (shown frames act)
  unfolding acts_before
  act_there at node zero act is less = absurd (omega (arith, less))
  act_there at node (suc now) act is less = elim (compare at now) [
    | Less3 earlier ↦ get_more_behind (acts now) (act_by frames frame (events now)) (shown frames act) (place_in at) (act_there at node now act is earlier)
    | Same3 same ↦ subst (λ it. slice_get (acts (suc it)) (place_in at) ≡ Some (shown frames act)) same
        (subst (λ list. slice_get list (place_in at) ≡ Some (shown frames act)) (sym (act_next at node act is)) (get_last (acts at) (shown frames act)))
    | More3 later ↦ absurd (omega (arith, less, later))
  ]

  -- what an act of the frame is that stands at a place
  pub record Found (now place : ℕ) (act : Act) : Type 0 where
    pub at : ℕ
    pub node : ℕ
    pub done : log.Act
    pub inside : at < now
    pub is : events at ≡ log.Acts node frame done
    pub place_is : place_in at ≡ place
    pub act_is : shown frames done ≡ act

  found_by : (now place : ℕ) (act : Act) (event : log.Event) → events now ≡ event → slice_get (acts now ++ act_by frames frame event) place ≡ Some act
      → (slice_get (acts now) place ≡ Some act → Found now place act) → Found (suc now) place act
  found_by now place act event is found rest = on event is found
    where
      older : slice_get (acts now) place ≡ Some act → Found (suc now) place act
      older found =
          let it = rest found in
          record {
            at = it.at;
            node = it.node;
            done = it.done;
            inside = (let less = it.inside in omega (arith, less));
            is = it.is;
            place_is = it.place_is;
            act_is = it.act_is;
          }

      nothing : (list : List Act) → slice_get (list ++ []) place ≡ Some act → slice_get list place ≡ Some act
      nothing list found = let same : list ++ [] ≡ list = search rules in subst (λ it. slice_get it place ≡ Some act) same found

      on : (event : log.Event) → events now ≡ event → slice_get (acts now ++ act_by frames frame event) place ≡ Some act → Found (suc now) place act
      on (log.Acts node other done) is found = by (same_frame other frame) refl found
        where
          by : (b : Bool) → same_frame other frame ≡ b → slice_get (acts now ++ cond b (shown frames done ∷ []) []) place ≡ Some act → Found (suc now) place act
          by true same found = elim (get_more (acts now) (shown frames done) act place found) [
            | inl earlier ↦ older earlier
            | inr here ↦ record {
              at = now;
              node = node;
              done = done;
              inside = omega arith;
              is = is ∙ ap (λ it. log.Acts node it done) (same_name other frame same);
              place_is = sym (here.0);
              act_is = here.1;
            }
          ]
          by false same found = older (nothing (acts now) found)
      on log.Nothing is found = older (nothing (acts now) found)
      on (log.Tick node other) is found = older (nothing (acts now) found)
      on (log.Drop node page) is found = older (nothing (acts now) found)
      on (log.TakeUp node other) is found = older (nothing (acts now) found)
      on (log.OwnFetch node page words) is found = older (nothing (acts now) found)
      on (log.OwnReconcile node part) is found = older (nothing (acts now) found)
      on (log.Post node receiver note) is found = older (nothing (acts now) found)
      on (log.Took node post) is found = older (nothing (acts now) found)
      on (log.End node) is found = older (nothing (acts now) found)

  pub act_found : (now place : ℕ) (act : Act) → slice_get (acts now) place ≡ Some act → Found now place act
  unfolding acts_before
  act_found zero place act found = absurd cc
  act_found (suc now) place act found = found_by now place act (events now) refl found (act_found now place act)
