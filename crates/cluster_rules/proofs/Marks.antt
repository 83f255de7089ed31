-- The frames of a node as marks: their names, and how many acts each has made. What an event leaves of them.
use Rattle.std.proofs.Common.{◌≡◌, ◌≤◌, ◌+◌, ℕ, ℤ, List, [], ◌∷◌, ◌++◌, append_assoc, Option, Some, None, Bool, true, false, eqb, refl, sym, ◌∙◌, ap, subst, arith}
use Rattle.std.proofs.lemmas.Bool.Decides.{nat_tests}
use Rattle.cilk_meaning.specs.Wants as want
use Rattle.cilk_meaning.specs.Wants.{Asks, Deposit}
use Rattle.page_messages.specs.declared.closure.FrameId.{FrameId}
use Rattle.page_messages.specs.declared.closure.JoinId.{JoinId}
use Rattle.cluster_rules.specs.Walking.{first_of}
use Rattle.cluster_rules.specs.Turns.{Past}
use Rattle.cluster_rules.specs.Node.{Node}
use Rattle.cluster_rules.specs.Lives.{Life, same_frame, want_of, returned, with_kept, live_from, live, without_bottom, link_to}
use Rattle.cluster_rules.specs.Frames.{Frames, Parked, is_complete, all_joined, still_parked, with_joined}
use Rattle.cluster_rules.proofs.Testing.{both_true}
use Rattle.cluster_rules.proofs.Testing.{own_number}

-- ---- names

pub same_self : (frame : FrameId) → same_frame frame frame ≡ true
same_self frame = rw (own_number frame.node, own_number frame.number) refl

pub same_name : (a b : FrameId) → same_frame a b ≡ true → a ≡ b
same_name a b is =
    let both = both_true (eqb a.node b.node) (eqb a.number b.number) is in
    let nodes : a.node ≡ b.node = let test = both.0 in grind (arith, nat_tests) in
    let numbers : a.number ≡ b.number = let test = both.1 in grind (arith, nat_tests) in
    λ i. record { node = nodes i; number = numbers i }

-- ---- marks

pub record Mark : Type 0 where
  pub id : FrameId
  pub acts : ℕ

abbrev pub one : Bool → ℕ
one true = 1
one false = 0

-- how many of them are such
abbrev pub many : (Mark → Bool) → List Mark → ℕ
many such [] = 0
many such (mark ∷ marks) = one (such mark) + many such marks

abbrev pub named : FrameId → Mark → Bool
named frame mark = same_frame mark.id frame

pub many_append : (such : Mark → Bool) (front back : List Mark) → many such (front ++ back) ≡ many such front + many such back
many_append such [] back = omega arith
many_append such (mark ∷ front) back = let before = many_append such front back in omega (arith, before)

-- ---- marks within others

-- no marks of a kind are more among these
abbrev pub Within : List Mark → List Mark → Type 0
Within after before = (such : Mark → Bool) → many such after ≤ many such before

pub within_same : (marks : List Mark) → Within marks marks
within_same marks = λ such. omega arith

pub within_both : (first second third : List Mark) → Within first second → Within second third → Within first third
within_both first second third one_within other_within = λ such. let a = one_within such in let b = other_within such in omega (arith, a, b)

pub within_cons : (mark : Mark) (after before : List Mark) → Within after before → Within (mark ∷ after) (mark ∷ before)
within_cons mark after before within = λ such. let a = within such in omega (arith, a)

pub within_skip : (mark : Mark) (marks : List Mark) → Within marks (mark ∷ marks)
within_skip mark marks = λ such. omega arith

pub within_append : (front one_front back one_back : List Mark) → Within front one_front → Within back one_back → Within (front ++ back) (one_front ++ one_back)
within_append front one_front back one_back first second = λ such.
    let a = first such in let b = second such in let c = many_append such front back in let d = many_append such one_front one_back in omega (arith, a, b, c, d)

pub within_insert : (mark : Mark) (front back : List Mark) → Within (front ++ mark ∷ back) (mark ∷ (front ++ back))
within_insert mark front back = λ such. let a = many_append such front (mark ∷ back) in let b = many_append such front back in omega (arith, a, b)

-- ---- the marks of lives

abbrev pub mark_of : Life → Mark
mark_of life = record { id = life.id; acts = life.acts }

abbrev pub marks : List Life → List Mark
marks [] = []
marks (life ∷ lives) = mark_of life ∷ marks lives

abbrev pub parked_marks : List Parked → List Mark
parked_marks [] = []
parked_marks (first ∷ parked) = record { id = first.closure.id; acts = first.closure.acts } ∷ parked_marks parked

-- those beside the stack
abbrev pub other_marks : Frames → List Mark
other_marks frames = marks frames.ready ++ parked_marks frames.parked

abbrev pub marks_of : Frames → List Mark
marks_of frames = marks frames.stack ++ other_marks frames

pub marks_append : (front back : List Life) → marks (front ++ back) ≡ marks front ++ marks back
marks_append [] back = refl
marks_append (life ∷ front) back = ap (λ it. mark_of life ∷ it) (marks_append front back)

pub parked_append : (front back : List Parked) → parked_marks (front ++ back) ≡ parked_marks front ++ parked_marks back
parked_append [] back = refl
parked_append (first ∷ front) back = ap (λ it. record { id = first.closure.id; acts = first.closure.acts } ∷ it) (parked_append front back)

live_on : (deposits : List Deposit) (life : Life) (below : List Life) (value : Option ℤ)
    → ((given : List Deposit) → Within (marks (live_from given below)) (marks below))
    → Within (marks (elim value [ None ↦ with_kept deposits life ∷ below | Some it ↦ live_from ((life.spawned.target, it) ∷ []) below ])) (marks (life ∷ below))
live_on deposits life below None before = within_same (marks (life ∷ below))
live_on deposits life below (Some it) before =
    within_both (marks (live_from ((life.spawned.target, it) ∷ []) below)) (marks below) (marks (life ∷ below)) (before ((life.spawned.target, it) ∷ []))
    (within_skip (mark_of life) (marks below))

live_from_within : (deposits : List Deposit) (stack : List Life) → Within (marks (live_from deposits stack)) (marks stack)
live_from_within deposits [] = within_same []
live_from_within deposits (life ∷ below) = live_on deposits life below (returned life) (λ given. live_from_within given below)

pub live_within : (stack : List Life) → Within (marks (live stack)) (marks stack)
live_within stack = live_from_within [] stack

-- ---- complete joins

joined_on : (node : Node) (past : Past) (first : Parked) (parked : List Parked) (b : Bool) → is_complete past first ≡ b
    → Within (marks (all_joined node past parked) ++ parked_marks (still_parked past parked)) (parked_marks parked)
    → Within (marks (all_joined node past (first ∷ parked)) ++ parked_marks (still_parked past (first ∷ parked))) (parked_marks (first ∷ parked))
joined_on node past first parked true is before =
    rw is (within_cons (record { id = first.closure.id; acts = first.closure.acts })
    (marks (all_joined node past parked) ++ parked_marks (still_parked past parked)) (parked_marks parked) before)
joined_on node past first parked false is before =
    let mark : Mark = record { id = first.closure.id; acts = first.closure.acts } in
    rw is
    (within_both (marks (all_joined node past parked) ++ mark ∷ parked_marks (still_parked past parked))
    (mark ∷ (marks (all_joined node past parked) ++ parked_marks (still_parked past parked)))
    (mark ∷ parked_marks parked) (within_insert mark (marks (all_joined node past parked)) (parked_marks (still_parked past parked)))
    (within_cons mark (marks (all_joined node past parked) ++ parked_marks (still_parked past parked)) (parked_marks parked) before))

joined_within : (node : Node) (past : Past) (parked : List Parked)
    → Within (marks (all_joined node past parked) ++ parked_marks (still_parked past parked)) (parked_marks parked)
joined_within node past [] = within_same []
joined_within node past (first ∷ parked) = joined_on node past first parked (is_complete past first) refl (joined_within node past parked)

-- frames that come from their complete joins are among those that were there
pub with_joined_within : (node : Node) (past : Past) (frames : Frames) → Within (marks_of (with_joined node past frames)) (marks_of frames)
with_joined_within node past frames =
    let joined = marks (all_joined node past frames.parked) in
    let still = parked_marks (still_parked past frames.parked) in
    let regrouped : other_marks (with_joined node past frames) ≡ marks frames.ready ++ (joined ++ still) =
    ap (λ it. it ++ still) (marks_append frames.ready (all_joined node past frames.parked)) ∙ append_assoc (marks frames.ready) joined still in
    within_append (marks frames.stack) (marks frames.stack) (other_marks (with_joined node past frames)) (other_marks frames) (within_same (marks frames.stack))
    (subst (λ it. Within it (other_marks frames)) (sym regrouped)
    (within_append (marks frames.ready) (marks frames.ready) (joined ++ still) (parked_marks frames.parked) (within_same (marks frames.ready))
    (joined_within node past frames.parked)))

-- ---- Grants

not_empty : (above : List Life) (child parent : Life) (rest : List Life) → rest ≡ above ++ (child ∷ (parent ∷ []))
    → (second third : Life) × (below : List Life) × (rest ≡ second ∷ (third ∷ below))
not_empty [] child parent rest is = (child, parent, [], is)
not_empty (first ∷ []) child parent rest is = (first, child, parent ∷ [], is)
not_empty (first ∷ (second ∷ above)) child parent rest is = (first, second, above ++ (child ∷ (parent ∷ [])), is)

pub bottom_gone : (join : Option JoinId) (above : List Life) (child parent : Life)
    → without_bottom join (above ++ (child ∷ (parent ∷ []))) ≡ above ++ (record child { link = link_to join } ∷ [])
bottom_gone join [] child parent = refl
bottom_gone join (life ∷ above) child parent =
    let rest = not_empty above child parent (above ++ (child ∷ (parent ∷ []))) refl in
    ap (λ it. without_bottom join (life ∷ it)) rest.3 ∙ ap (λ it. life ∷ it) (ap (without_bottom join) (sym rest.3) ∙ bottom_gone join above child parent)

pub bottom_marks : (join : Option JoinId) (above : List Life) (child parent : Life)
    → marks (above ++ (child ∷ (parent ∷ []))) ≡ marks (above ++ (record child { link = link_to join } ∷ [])) ++ mark_of parent ∷ []
bottom_marks join above child parent =
    marks_append above (child ∷ (parent ∷ [])) ∙ sym (append_assoc (marks above) (mark_of child ∷ []) (mark_of parent ∷ []))
    ∙ ap (λ it. it ++ mark_of parent ∷ []) (sym (marks_append above (record child { link = link_to join } ∷ [])))

-- ---- a frame whose add is asked for

abbrev pub WantsAdd : Life → Type 0
WantsAdd life = (word : ℕ) × (addend : ℤ) × (want_of life ≡ Some (Asks (want.Add word addend)))

-- the first frame is this one, has made so many acts, and wants an add
abbrev pub AddsFirst : FrameId → ℕ → List Life → Type 0
AddsFirst frame acts [] = ⊥
AddsFirst frame acts (life ∷ below) = (life.id ≡ frame) × (life.acts ≡ acts) × WantsAdd life

live_first_on : (life : Life) (below : List Life) (value : Option ℤ) → value ≡ None
    → elim value [ None ↦ with_kept [] life ∷ below | Some it ↦ live_from ((life.spawned.target, it) ∷ []) below ] ≡ with_kept [] life ∷ below
live_first_on life below value is =
    ap (λ value. elim value [ None ↦ with_kept [] life ∷ below | Some it ↦ live_from ((life.spawned.target, it) ∷ []) below ]) is

-- it has not returned
pub live_first : (frame : FrameId) (acts : ℕ) (stack : List Life) → AddsFirst frame acts stack
    → (life : Life) × (below : List Life) × (live stack ≡ life ∷ below) × WantsAdd life
live_first frame acts [] first = absurd first
live_first frame acts (life ∷ below) first = (with_kept [] life, below, live_first_on life below (returned life) (rw first.2.2 refl), first.2)

pub first_is : (lives : List Life) (life : Life) → first_of lives ≡ Some life → (below : List Life) × (lives ≡ life ∷ below)
first_is [] life is = absurd (cc)
first_is (first ∷ below) life is = let one : first ≡ life = cc in (below, ap (λ it. it ∷ below) one)

pub kept_first : (frame : FrameId) (acts : ℕ) (join : Option JoinId) (above : List Life) (child parent : Life)
    → AddsFirst frame acts (above ++ (child ∷ (parent ∷ [])))
    → AddsFirst frame acts (above ++ (record child { link = link_to join } ∷ []))
kept_first frame acts join [] child parent first = first
kept_first frame acts join (life ∷ above) child parent first = first
