-- Numbers of rows where no frame has two, and the births of the frames.
use Rattle.std.proofs.Common.{◌≡◌, ◌⊎◌, inl, inr, ℕ, zero, suc, ◌+◌, ◌<◌, ◌≤◌, List, [], ◌∷◌, ◌++◌, Some, None, Bool, true, false, cond, length, map, refl, sym, ◌∙◌, ap, subst, append_assoc, length-append, arith}
use Rattle.std.specs.Prelude.{slice_get}
use Rattle.std.specs.List.{Contains, cons_option, range_with_len}
use Rattle.page_messages.specs.declared.closure.FrameId.{FrameId}
use Rattle.cluster_rules.specs.Lives.{same_frame}
use Rattle.cluster_rules.specs.Walking.{given, or_else}
use Rattle.cluster_rules.specs.Histories.{Birth, birth_of, row_number}
use Rattle.cluster_rules.proofs.Marks.{same_self, same_name}
use Rattle.run_history.proofs.Walk.{one, times, times_append, children}
use Rattle.run_history.proofs.Counts.{times_self}

abbrev pub children_in : List Birth → List FrameId
children_in births = map (λ (birth : Birth). birth.child) births

pub turned : (first second : FrameId) (b : Bool) → same_frame first second ≡ b → same_frame second first ≡ b
turned first second true is = subst (λ it. same_frame it first ≡ true) (same_name first second is) (same_self first)
turned first second false is = on (same_frame second first) refl
  where
    on : (b : Bool) → same_frame second first ≡ b → b ≡ false
    on true other =
        let same : same_frame first second ≡ true = subst (λ it. same_frame it second ≡ true) (same_name second first other) (same_self second) in absurd cc
    on false other = refl

-- ---- the number of a frame

pub number_within : (list : List FrameId) (frame : FrameId) → 1 ≤ times frame list → row_number list frame < length list
number_within [] frame some = absurd (omega (arith, some))
number_within (first ∷ list) frame some = on (same_frame first frame) refl some (number_within list frame)
  where
    on : (b : Bool) → same_frame first frame ≡ b → 1 ≤ one (same_frame frame first) + times frame list
        → (1 ≤ times frame list → row_number list frame < length list)
        → cond b 0 (suc (row_number list frame)) < suc (length list)
    on true is some rest = omega arith
    on false is some rest = let none = ap one (turned first frame false is) in let less = rest (omega (arith, some, none)) in omega (arith, less)

pub number_behind : (front back : List FrameId) (frame : FrameId) → times frame front ≡ 0 → row_number (front ++ frame ∷ back) frame ≡ length front
number_behind [] back frame none = ap (λ b. cond b 0 (suc (row_number back frame))) (same_self frame)
number_behind (first ∷ front) back frame none = on (same_frame frame first) refl none (number_behind front back frame)
  where
    on : (b : Bool) → same_frame frame first ≡ b → one b + times frame front ≡ 0
        → (times frame front ≡ 0 → row_number (front ++ frame ∷ back) frame ≡ length front)
        → cond (same_frame first frame) 0 (suc (row_number (front ++ frame ∷ back) frame)) ≡ suc (length front)
    on true is none rest = absurd (omega (arith, none))
    on false is none rest =
        ap (λ b. cond b 0 (suc (row_number (front ++ frame ∷ back) frame))) (turned frame first false is) ∙ ap suc (rest (omega (arith, none)))

-- The numbers of all rows are 0, 1, 2 and so on.
pub numbers_from : (front back : List FrameId) → ((frame : FrameId) → times frame (front ++ back) ≤ 1)
    → map (row_number (front ++ back)) back ≡ range_with_len (length front) (length back)
numbers_from front [] once = refl
numbers_from front (frame ∷ back) once =
    let both = times_append frame front (frame ∷ back) in
    let self = times_self frame back in
    let few = once frame in
    let here = number_behind front back frame (omega (arith, both, self, few)) in
    let longer : (front ++ frame ∷ []) ++ back ≡ front ++ frame ∷ back = append_assoc front (frame ∷ []) back in
    let rest = numbers_from (front ++ frame ∷ []) back (λ other. subst (λ list. times other list ≤ 1) (sym longer) (once other)) in
    let next : length (front ++ frame ∷ []) ≡ length front + 1 = length-append front (frame ∷ []) in
    ap (λ number. number ∷ map (row_number (front ++ frame ∷ back)) back) here
    ∙ ap (λ list. length front ∷ list) (ap (λ list. map (row_number list) back) (sym longer) ∙ rest ∙ ap (λ start. range_with_len start (length back)) next)

pub times_there : (list : List FrameId) (number : ℕ) (frame : FrameId) → slice_get list number ≡ Some frame → 1 ≤ times frame list
times_there [] number frame found = absurd cc
times_there (first ∷ list) zero frame found =
    let same : first ≡ frame = cc in let here = ap (λ it. one (same_frame frame it)) same ∙ ap one (same_self frame) in omega (arith, here)
times_there (first ∷ list) (suc number) frame found = let rest = times_there list number frame found in omega (arith, rest)

pub number_is : (list : List FrameId) → ((frame : FrameId) → times frame list ≤ 1) → (number : ℕ) (frame : FrameId) → slice_get list number ≡ Some frame
    → row_number list frame ≡ number
number_is [] once number frame found = absurd cc
number_is (first ∷ list) once zero frame found = let same : first ≡ frame = cc in
    ap (λ it. cond (same_frame it frame) 0 (suc (row_number list frame))) same ∙ ap (λ b. cond b 0 (suc (row_number list frame))) (same_self frame)
number_is (first ∷ list) once (suc number) frame found =
    on (same_frame frame first) refl (once frame) (number_is list (λ other. let few = once other in omega (arith, few)) number frame found)
  where
    on : (b : Bool) → same_frame frame first ≡ b → one b + times frame list ≤ 1 → row_number list frame ≡ number
        → cond (same_frame first frame) 0 (suc (row_number list frame)) ≡ suc number
    on true is few rest = let some = times_there list number frame found in absurd (omega (arith, few, some))
    on false is few rest = ap (λ b. cond b 0 (suc (row_number list frame))) (turned frame first false is) ∙ ap suc rest

-- ---- births

first_or_later : (first : Birth) (list : List Birth) (birth : Birth) → Contains (first ∷ list) birth → (first ≡ birth) ⊎ Contains list birth
first_or_later first list birth (zero, less, is) = inl is
first_or_later first list birth (suc place, less, is) = inr (place, omega (arith, less), is)

is_later : (first : Birth) (list : List Birth) (birth : Birth) → Contains list birth → Contains (first ∷ list) birth
is_later first list birth is = (suc is.0, (let less = is.1 in omega (arith, less)), is.2)

is_first : (first : Birth) (list : List Birth) → Contains (first ∷ list) first
is_first first list = (0, omega arith, refl)

pub child_counts : (births : List Birth) (birth : Birth) → Contains births birth → 1 ≤ times birth.child (children_in births)
child_counts [] birth is = let less = is.1 in absurd (omega (arith, less))
child_counts (first ∷ births) birth is = elim (first_or_later first births birth is) [
  | inl same ↦ let here = ap (λ (it : Birth). one (same_frame birth.child it.child)) same ∙ ap one (same_self birth.child) in omega (arith, here)
  | inr later ↦ let rest = child_counts births birth later in omega (arith, rest)
]

-- the birth of a frame that was born
pub record BornOf (births : List Birth) (frame : FrameId) : Type 0 where
  pub birth : Birth
  pub there : Contains births birth
  pub child : birth.child ≡ frame
  pub given_is : given (birth_of frame) births ≡ Some birth

pub born_of : (births : List Birth) (frame : FrameId) → 1 ≤ times frame (children_in births) → BornOf births frame
born_of [] frame some = absurd (omega (arith, some))
born_of (first ∷ births) frame some = on (same_frame first.child frame) refl (born_of births frame)
  where
    on : (b : Bool) → same_frame first.child frame ≡ b → (1 ≤ times frame (children_in births) → BornOf births frame) → BornOf (first ∷ births) frame
    on true is rest = record {
      birth = first;
      there = is_first first births;
      child = same_name first.child frame is;
      given_is = ap (λ b. or_else (cond b (Some first) None) (given (birth_of frame) births)) is;
    }
    on false is rest =
        let none = ap one (turned first.child frame false is) in
        let it = rest (omega (arith, some, none)) in
        record {
          birth = it.birth;
          there = is_later first births it.birth it.there;
          child = it.child;
          given_is = ap (λ b. or_else (cond b (Some first) None) (given (birth_of frame) births)) is ∙ it.given_is;
        }

pub given_none : (births : List Birth) (frame : FrameId) → times frame (children_in births) ≡ 0 → given (birth_of frame) births ≡ None
given_none [] frame none = refl
given_none (first ∷ births) frame none = on (same_frame frame first.child) refl none (given_none births frame)
  where
    on : (b : Bool) → same_frame frame first.child ≡ b → one b + times frame (children_in births) ≡ 0
        → (times frame (children_in births) ≡ 0 → given (birth_of frame) births ≡ None)
        → given (birth_of frame) (first ∷ births) ≡ None
    on true is none rest = absurd (omega (arith, none))
    on false is none rest =
        ap (λ b. or_else (cond b (Some first) None) (given (birth_of frame) births)) (turned frame first.child false is) ∙ rest (omega (arith, none))

-- a frame is born once
pub one_birth : (births : List Birth) → ((frame : FrameId) → times frame (children_in births) ≤ 1) → (birth other : Birth) → Contains births birth
    → Contains births other
    → birth.child ≡ other.child
    → birth ≡ other
one_birth [] once birth other is is' same = let less = is.1 in absurd (omega (arith, less))
one_birth (first ∷ births) once birth other is is' same = on (first_or_later first births birth is) (first_or_later first births other is')
    (λ later later'. one_birth births (λ frame. let few = once frame in omega (arith, few)) birth other later later' same)
  where
    twice : (one_of : Birth) → first.child ≡ one_of.child → Contains births one_of → ⊥
    twice one_of names later =
        let few = once one_of.child in
        let some = child_counts births one_of later in
        let here = ap (λ it. one (same_frame one_of.child it)) names ∙ ap one (same_self one_of.child) in
        omega (arith, few, some, here)

    on : (first ≡ birth) ⊎ Contains births birth → (first ≡ other) ⊎ Contains births other → (Contains births birth → Contains births other → birth ≡ other)
        → birth ≡ other
    on (inl here) (inl there) rest = sym here ∙ there
    on (inl here) (inr later) rest = absurd (twice other (ap (λ (it : Birth). it.child) here ∙ same) later)
    on (inr later) (inl there) rest = absurd (twice birth (ap (λ (it : Birth). it.child) there ∙ sym same) later)
    on (inr later) (inr later') rest = rest later later'

-- ---- children

pub record ChildOf (births : List Birth) (parent child : FrameId) : Type 0 where
  pub birth : Birth
  pub there : Contains births birth
  pub parent_is : birth.parent ≡ parent
  pub child_is : birth.child ≡ child

pub child_birth : (births : List Birth) (parent child : FrameId) → 1 ≤ times child (children births parent) → ChildOf births parent child
child_birth [] parent child some = absurd (omega (arith, some))
child_birth (first ∷ births) parent child some = on (same_frame first.parent parent) refl (λ rest. later (child_birth births parent child rest))
  where
    later : ChildOf births parent child → ChildOf (first ∷ births) parent child
    later it = record { birth = it.birth; there = is_later first births it.birth it.there; parent_is = it.parent_is; child_is = it.child_is }

    here : same_frame first.parent parent ≡ true → (b : Bool) → same_frame child first.child ≡ b → 1 ≤ one b + times child (children births parent)
        → (1 ≤ times child (children births parent) → ChildOf (first ∷ births) parent child) → ChildOf (first ∷ births) parent child
    here is true same some rest =
        record { birth = first; there = is_first first births; parent_is = same_name first.parent parent is; child_is = sym (same_name child first.child same) }
    here is false same some rest = rest (omega (arith, some))

    on : (b : Bool) → same_frame first.parent parent ≡ b → (1 ≤ times child (children births parent) → ChildOf (first ∷ births) parent child)
        → ChildOf (first ∷ births) parent child
    on true is rest = here is (same_frame child first.child) refl
        (subst (λ b. 1 ≤ times child (cons_option (cond b (Some first.child) None) (children births parent))) is some) rest
    on false is rest = rest (subst (λ b. 1 ≤ times child (cons_option (cond b (Some first.child) None) (children births parent))) is some)
