-- Births as they come, one behind the other, and that the walk from the root has each frame once.
use Rattle.std.proofs.Common.{◌≡◌, ℕ, zero, suc, ◌+◌, ◌≤◌, List, [], ◌∷◌, ◌++◌, Bool, true, false, cond, length, map, refl, sym, ◌∙◌, ap, length-append, arith}
use Rattle.std.proofs.lemmas.List.{map-append}
use Rattle.std.proofs.lemmas.List.Elements.{filter_map-append}
use Rattle.std.specs.List.Sorted.{IsPermutation}
use Rattle.page_messages.specs.declared.closure.FrameId.{FrameId}
use Rattle.cluster_rules.specs.Lives.{same_frame, main_id}
use Rattle.cluster_rules.specs.Histories.{Birth}
use Rattle.cluster_rules.proofs.Marks.{same_name}
use Rattle.run_history.proofs.Walk.{one, times, times_append, children, child_of, walk, grows}
use Rattle.run_history.proofs.Counts.{permutation_of}

abbrev pub made_by : List Birth → List FrameId
made_by births = main_id ∷ map (λ birth. birth.child) births

-- Births in which each parent was made before its child, and each child is new.
pub data IsTree : List Birth → Type 0 where
  Bare : IsTree []
  Grown : (births : List Birth) (birth : Birth) → IsTree births → times birth.parent (made_by births) ≡ 1 → times birth.child (made_by births) ≡ 0
      → IsTree (births ++ birth ∷ [])

pub made_more : (births : List Birth) (birth : Birth) → made_by (births ++ birth ∷ []) ≡ made_by births ++ birth.child ∷ []
made_more births birth = ap (λ list. main_id ∷ list) (map-append (λ (it : Birth). it.child) births (birth ∷ []))

module _ (frame : FrameId) where
  pub made_times : (births : List Birth) (birth : Birth)
      → times frame (made_by (births ++ birth ∷ [])) ≡ times frame (made_by births) + one (same_frame frame birth.child)
  made_times births birth = let both = ap (times frame) (made_more births birth) ∙ times_append frame (made_by births) (birth.child ∷ []) in omega (arith, both)

-- who was not made has no children
pub childless : (births : List Birth) → IsTree births → (frame : FrameId) → times frame (made_by births) ≡ 0 → children births frame ≡ []
childless _ Bare frame none = refl
childless _ (Grown births birth tree parent new) frame none =
    let sum = made_times frame births birth in
    filter_map-append (child_of frame) births (birth ∷ [])
    ∙ ap (λ list. list ++ children (birth ∷ []) frame) (childless births tree frame (omega (arith, none, sum)))
    ∙ on (same_frame birth.parent frame) refl
  where
    on : (b : Bool) → same_frame birth.parent frame ≡ b → children (birth ∷ []) frame ≡ []
    on true is =
        let same = ap (λ it. times it (made_by births)) (same_name birth.parent frame is) in
        let sum = made_times frame births birth in absurd (omega (arith, none, same, parent, sum))
    on false is = rw is refl

not_itself : (births : List Birth) (birth : Birth) → times birth.parent (made_by births) ≡ 1 → times birth.child (made_by births) ≡ 0 → (b : Bool)
    → same_frame birth.parent birth.child ≡ b → b ≡ false
not_itself births birth parent new true is =
    let same = ap (λ it. times it (made_by births)) (same_name birth.parent birth.child is) in absurd (omega (arith, same, parent, new))
not_itself births birth parent new false is = refl

bare : (frame : FrameId) (depth : ℕ) → walk [] depth frame ≡ frame ∷ []
bare frame zero = refl
bare frame (suc depth) = refl

gained : (b : Bool) (count : ℕ) → count ≡ 1 → cond b count 0 ≡ one b
gained true count is = is
gained false count is = refl

-- The walk has each frame as often as it was made.
pub as_often : (births : List Birth) → IsTree births → (frame : FrameId) (depth : ℕ) → length births ≤ depth
    → times frame (walk births depth main_id) ≡ times frame (made_by births)
as_often _ Bare frame depth deep = ap (times frame) (bare main_id depth)
as_often _ (Grown births birth tree parent new) frame zero deep = let sum = length-append births (birth ∷ []) in absurd (omega (arith, sum, deep))
as_often _ (Grown births birth tree parent new) frame (suc depth) deep =
    let sum = length-append births (birth ∷ []) in
    let more = grows births birth frame (childless births tree birth.child new)
    (not_itself births birth parent new (same_frame birth.parent birth.child) refl) depth main_id in
    let old = as_often births tree frame (suc depth) (omega (arith, sum, deep)) in
    let gain = gained (same_frame frame birth.child) (times birth.parent (walk births depth main_id))
    (as_often births tree birth.parent depth (omega (arith, sum, deep)) ∙ parent) in
    let made = made_times frame births birth in
    omega (arith, more, old, gain, made)

pub each_once : (births : List Birth) → IsTree births → (depth : ℕ) → length births ≤ depth → IsPermutation (made_by births) (walk births depth main_id)
each_once births tree depth deep = permutation_of (made_by births) (walk births depth main_id) (λ frame. sym (as_often births tree frame depth deep))

at_most_on : (b : Bool) (count : ℕ) → count ≤ 1 → (b ≡ true → count ≡ 0) → count + one b ≤ 1
at_most_on true count few new = let none = new refl in omega (arith, none)
at_most_on false count few new = omega (arith, few)

-- no frame is made twice
pub at_most_once : (births : List Birth) → IsTree births → (frame : FrameId) → times frame (made_by births) ≤ 1
at_most_once _ Bare frame = on (same_frame frame main_id)
  where
    on : (b : Bool) → one b + 0 ≤ 1
    on true = omega arith
    on false = omega arith
at_most_once _ (Grown births birth tree parent new) frame =
    let made = made_times frame births birth in
    let few = at_most_on (same_frame frame birth.child) (times frame (made_by births)) (at_most_once births tree frame)
    (λ is. ap (λ it. times it (made_by births)) (same_name frame birth.child is) ∙ new) in
    omega (arith, made, few)
