-- The depth-first walk over the frames of a tree of births, and how often each frame stands in it.
use Rattle.std.proofs.Common.{◌≡◌, ℕ, zero, suc, ◌+◌, List, [], ◌∷◌, ◌++◌, Option, Some, None, Bool, true, false, cond, refl, sym, ◌∙◌, ap, append_assoc, arith}
use Rattle.std.proofs.lemmas.List.{append-nil}
use Rattle.std.proofs.lemmas.List.Elements.{filter_map-append}
use Rattle.std.specs.List.{filter_map, cons_option}
use Rattle.page_messages.specs.declared.closure.FrameId.{FrameId}
use Rattle.cluster_rules.specs.Lives.{same_frame}
use Rattle.cluster_rules.specs.Histories.{Birth}

abbrev pub one : Bool → ℕ
one b = cond b 1 0

-- how often the frame stands in the list
abbrev pub times : FrameId → List FrameId → ℕ
times frame [] = 0
times frame (first ∷ rest) = one (same_frame frame first) + times frame rest

pub times_append : (frame : FrameId) (front back : List FrameId) → times frame (front ++ back) ≡ times frame front + times frame back
times_append frame [] back = omega arith
times_append frame (first ∷ front) back =
    let rest = times_append frame front back in omega (arith, rest)

-- ---- the walk

abbrev pub child_of : FrameId → Birth → Option FrameId
child_of frame birth = cond (same_frame birth.parent frame) (Some birth.child) None

-- the children of a frame, in the order of their births
abbrev pub children : List Birth → FrameId → List FrameId
children births frame = filter_map (child_of frame) births

abbrev pub walk_all : (FrameId → List FrameId) → List FrameId → List FrameId
walk_all walked [] = []
walk_all walked (frame ∷ frames) = walked frame ++ walk_all walked frames

-- a frame and what is below it, so many levels deep
abbrev pub walk : List Birth → ℕ → FrameId → List FrameId
walk births zero frame = frame ∷ []
walk births (suc depth) frame = frame ∷ walk_all (walk births depth) (children births frame)

-- ---- one birth more

walk_none : (frames : List FrameId) → walk_all (λ frame. []) frames ≡ []
walk_none [] = refl
walk_none (frame ∷ frames) = walk_none frames

walk_both : (walked : FrameId → List FrameId) (front back : List FrameId) → walk_all walked (front ++ back) ≡ walk_all walked front ++ walk_all walked back
walk_both walked [] back = refl
walk_both walked (frame ∷ front) back =
    ap (λ list. walked frame ++ list) (walk_both walked front back) ∙ sym (append_assoc (walked frame) (walk_all walked front) (walk_all walked back))

abbrev gains : Bool → ℕ → ℕ
gains b count = cond b count 0

gains_sum : (b : Bool) (first second : ℕ) → gains b (first + second) ≡ gains b first + gains b second
gains_sum true first second = refl
gains_sum false first second = refl

gains_none : (b : Bool) → gains b 0 ≡ 0
gains_none true = refl
gains_none false = refl

module _ (births : List Birth) (birth : Birth) (frame : FrameId) where
  abbrev here : Bool
  here = same_frame frame birth.child

  walk_all_gains : (later earlier before : FrameId → List FrameId)
      → ((it : FrameId) → times frame (later it) ≡ times frame (earlier it) + gains here (times birth.parent (before it)))
      → (list : List FrameId) → times frame (walk_all later list) ≡ times frame (walk_all earlier list) + gains here (times birth.parent (walk_all before list))
  walk_all_gains later earlier before each [] = let none = gains_none here in omega (arith, none)
  walk_all_gains later earlier before each (it ∷ list) =
      let rest = walk_all_gains later earlier before each list in
      let first = each it in
      let left = times_append frame (later it) (walk_all later list) in
      let right = times_append frame (earlier it) (walk_all earlier list) in
      let more : gains here (times birth.parent (before it ++ walk_all before list)) ≡ gains here (times birth.parent (before it)) + gains here
      (times birth.parent (walk_all before list)) =
      ap (gains here) (times_append birth.parent (before it) (walk_all before list))
      ∙ gains_sum here (times birth.parent (before it)) (times birth.parent (walk_all before list)) in
      omega (arith, rest, first, left, right, more)

  -- the children now
  children_more : (it : FrameId) → children (births ++ birth ∷ []) it ≡ children births it ++ cond (same_frame birth.parent it) (birth.child ∷ []) []
  children_more it = filter_map-append (child_of it) births (birth ∷ []) ∙ ap (λ list. children births it ++ list) (on (same_frame birth.parent it))
    where
      on : (b : Bool) → cons_option (cond b (Some birth.child) None) [] ≡ cond b (birth.child ∷ []) []
      on true = refl
      on false = refl

  born_there : (later : FrameId → List FrameId) → times frame (later birth.child) ≡ one here → (b : Bool)
      → times frame (walk_all later (cond b (birth.child ∷ []) [])) ≡ gains here (one b)
  born_there later is true = ap (times frame) (append-nil (later birth.child)) ∙ is
  born_there later is false = sym (gains_none here)

  level : (later earlier before : FrameId → List FrameId)
      → ((it : FrameId) → times frame (later it) ≡ times frame (earlier it) + gains here (times birth.parent (before it)))
      → times frame (later birth.child) ≡ one here
      → (it : FrameId) → times frame (it ∷ walk_all later (children (births ++ birth ∷ []) it))
      ≡ times frame (it ∷ walk_all earlier (children births it)) + gains here (times birth.parent (it ∷ walk_all before (children births it)))
  level later earlier before each new it =
      let b = same_frame birth.parent it in
      let parts = ap (λ list. times frame (walk_all later list)) (children_more it)
      ∙ ap (times frame) (walk_both later (children births it) (cond b (birth.child ∷ []) []))
      ∙ times_append frame (walk_all later (children births it)) (walk_all later (cond b (birth.child ∷ []) [])) in
      let old = walk_all_gains later earlier before each (children births it) in
      let born = born_there later new b in
      let sum = gains_sum here (one b) (times birth.parent (walk_all before (children births it))) in
      omega (arith, parts, old, born, sum)

  module _ (childless : children births birth.child ≡ []) (other : same_frame birth.parent birth.child ≡ false) where
    childless_still : children (births ++ birth ∷ []) birth.child ≡ []
    childless_still = children_more birth.child ∙ ap (λ list. list ++ cond (same_frame birth.parent birth.child) (birth.child ∷ []) []) childless
        ∙ ap (λ b. cond b (birth.child ∷ []) []) other

    alone : (depth : ℕ) → times frame (walk (births ++ birth ∷ []) depth birth.child) ≡ one here
    alone zero = let it : one here + 0 ≡ one here = omega arith in it
    alone (suc depth) =
        ap (λ list. one here + times frame (walk_all (walk (births ++ birth ∷ []) depth) list)) childless_still
        ∙ (let it : one here + 0 ≡ one here = omega arith in it)

    -- The child stands in the walk as often as its parent does one level higher.
    pub grows : (depth : ℕ) (it : FrameId) → times frame (walk (births ++ birth ∷ []) (suc depth) it)
        ≡ times frame (walk births (suc depth) it) + gains here (times birth.parent (walk births depth it))
    grows zero it =
        level (walk (births ++ birth ∷ []) 0) (walk births 0) (λ frame. [])
        (λ any. let none = gains_none here in omega (arith, none)) (alone 0) it
        ∙ ap (λ list. times frame (walk births 1 it) + gains here (times birth.parent (it ∷ list))) (walk_none (children births it))
    grows (suc depth) it = level (walk (births ++ birth ∷ []) (suc depth)) (walk births (suc depth)) (walk births depth) (grows depth) (alone (suc depth)) it
