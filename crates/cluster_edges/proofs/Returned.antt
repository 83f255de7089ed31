-- A frame that has returned is returned wherever it is.
use Rattle.std.proofs.Common.{◌≡◌, ◌⊎◌, inl, inr, ℕ, zero, suc, ◌+◌, ◌<◌, ◌≤◌, List, [], ◌∷◌, ◌++◌, Bool, true, false, ◌||◌, is_some, refl, sym, ◌∙◌, ap, subst, arith}
use Rattle.std.specs.List.{list_any, range_with_len}
use Rattle.cilk_meaning.specs.Instance.{Meaning}
use Rattle.cilk_meaning.specs.Serve.{now}
use Rattle.cilk_meaning.specs.Wants as want
use Rattle.cilk_meaning.specs.Wants.{Want, Asks, Deposit, Answer}
use Rattle.page_messages.specs.declared.closure.FrameId.{FrameId}
use Rattle.page_messages.specs.declared.log.LoggedAct.{LoggedAct}
use Rattle.page_messages.specs.declared.log.LoggedAct.TheVariants as act
use Rattle.cluster_rules.specs.Turns.{Past}
use Rattle.cluster_rules.specs.Node.{Node}
use Rattle.cluster_rules.specs.Lives.{Life, same_frame, value_in, returned}
use Rattle.cluster_rules.specs.Frames.{frames_of, stack_of, next_frame}
use Rattle.cluster_rules.specs.Acting.{Wants, MayMake}
use Rattle.cluster_rules.specs.Runs.{Cluster, node_at}
use Rattle.cluster_rules.specs.Positions.{Moved, Course, own, before}
use Rattle.cluster_rules.proofs.Testing.{both_true}
use Rattle.cluster_rules.proofs.Stepping.{Stepped}
use Rattle.cluster_rules.proofs.Summing.{sum_one}
use Rattle.cluster_rules.proofs.Marks.{named, same_name}
use Rattle.cluster_rules.proofs.Holding.{at_node, held, held_known, Unknown, unknown_before}
use Rattle.cluster_order.specs.Standing.{first, is_returned, stands_returned, has_returned}
use Rattle.cluster_edges.proofs.Anywhere.{Saying, Everywhere, If, everywhere_both, everywhere_for, everywhere_always}
use Rattle.cluster_edges.proofs.Lone.{lone, at_least}

-- ---- where a frame stands returned

module _ {A : Type 0} (test : A → Bool) where
  any_out : (list : List A) → list_any test list ≡ true → (front : List A) × (item : A) × (back : List A) × (list ≡ front ++ item ∷ back) × (test item ≡ true)
  any_out [] any = absurd (cc)
  any_out (item ∷ list) any = on (test item) refl any (any_out list)
    where
      on : (b : Bool) → test item ≡ b → b || list_any test list ≡ true
          → (list_any test list ≡ true → (front : List A) × (one : A) × (back : List A) × (list ≡ front ++ one ∷ back) × (test one ≡ true))
          → (front : List A) × (one : A) × (back : List A) × (item ∷ list ≡ front ++ one ∷ back) × (test one ≡ true)
      on true is any rest = ([], item, list, refl, is)
      on false is any rest = let it = rest any in (item ∷ it.0, it.1, it.2, ap (λ more. item ∷ more) it.3, it.4)

range_out : (test : ℕ → Bool) (start count : ℕ) → list_any test (range_with_len start count) ≡ true
    → (number : ℕ) × (number < start + count) × (test number ≡ true)
range_out test start zero any = absurd (cc)
range_out test start (suc count) any = on (test start) refl any (range_out test (start + 1) count)
  where
    on : (b : Bool) → test start ≡ b → b || list_any test (range_with_len (start + 1) count) ≡ true
        → (list_any test (range_with_len (start + 1) count) ≡ true → (number : ℕ) × (number < (start + 1) + count) × (test number ≡ true))
        → (number : ℕ) × (number < start + suc count) × (test number ≡ true)
    on true is any rest = (start, omega (arith), is)
    on false is any rest = let it = rest any in let less = it.1 in (it.0, omega (arith, less), it.2)

-- A frame that has returned is on the stack of a node.
pub record StandsSo (cluster : Cluster) (frame : FrameId) (course : Course) : Type 0 where
  pub number : ℕ
  pub within : number < cluster.config.nodes
  pub front : List Life
  pub life : Life
  pub back : List Life
  pub parts : stack_of (node_at cluster number) (own number course) ≡ front ++ life ∷ back
  pub name : life.id ≡ frame
  pub is : is_some (returned life) ≡ true

pub stands_so : (cluster : Cluster) (frame : FrameId) (course : Course) → stands_returned cluster frame course ≡ true → StandsSo cluster frame course
stands_so cluster frame course stands =
    let here = range_out (λ number. list_any (is_returned frame) (stack_of (node_at cluster number) (own number course))) 0 cluster.config.nodes stands in
    let it = any_out (is_returned frame) (stack_of (node_at cluster here.0) (own here.0 course)) here.2 in
    let both = both_true (same_frame it.1.id frame) (is_some (returned it.1)) it.4 in
    let less = here.1 in
    record {
      number = here.0;
      within = omega (arith, less);
      front = it.0;
      life = it.1;
      back = it.2;
      parts = it.3;
      name = same_name it.1.id frame both.0;
      is = both.1;
    }

pub either : (first second : Bool) → first || second ≡ true → (first ≡ true) ⊎ (second ≡ true)
either true second is = inl refl
either false second is = inr is

-- it is held
pub held_there : (cluster : Cluster) (course : Course) (frame : FrameId) (number : ℕ) → number < cluster.config.nodes → (front back : List Life) (life : Life)
    → stack_of (node_at cluster number) (own number course) ≡ front ++ life ∷ back → life.id ≡ frame → 1 ≤ held cluster course frame
held_there cluster course frame number less front back life parts is =
    let here = at_least frame (λ goes. Unit {0}) front back life is tt (frames_of (node_at cluster number) (own number course)) parts in
    let sum = sum_one cluster.config.nodes (at_node cluster course (named frame)) number less in
    omega (arith, here, sum)

standing_known : (cluster : Cluster) (frame : FrameId) (course : Course) → Stepped cluster course → stands_returned cluster frame course ≡ true
    → Unknown cluster course frame → ⊥
standing_known cluster frame course stepped stands unknown =
    let it = stands_so cluster frame course stands in
    let some = held_there cluster course frame it.number it.within it.front it.back it.life it.parts it.name in
    let none = held_known cluster course stepped frame unknown in
    omega (arith, some, none)

-- A frame that has no name yet has not returned.
pub known_returned : (cluster : Cluster) (frame : FrameId) (course : Course) → Stepped cluster course → has_returned cluster frame course ≡ true
    → Unknown cluster course frame → ⊥
known_returned cluster frame [] stepped has unknown = standing_known cluster frame [] stepped has unknown
known_returned cluster frame (moved ∷ course) stepped has unknown =
    on (either (has_returned cluster frame course) (stands_returned cluster frame (moved ∷ course)) has) (known_returned cluster frame course stepped.0)
  where
    on : (has_returned cluster frame course ≡ true) ⊎ (stands_returned cluster frame (moved ∷ course) ≡ true)
        → (has_returned cluster frame course ≡ true → Unknown cluster course frame → ⊥) → ⊥
    on (inl before) rest = rest before (unknown_before cluster course moved frame unknown)
    on (inr stands) rest = standing_known cluster frame (moved ∷ course) stepped stands unknown

-- ---- wherever a returned frame is

abbrev pub IsReturned : Meaning → Type 0
IsReturned goes = is_some (value_in (now goes)) ≡ true

-- a frame that has returned in this course is returned
abbrev pub StaysReturned : Cluster → Course → Saying
StaysReturned cluster course id goes = has_returned cluster id course ≡ true → IsReturned goes

-- so is one that stands returned
pub standing_everywhere : (cluster : Cluster) (course : Course) → Stepped cluster course
    → Everywhere cluster course (λ id goes. stands_returned cluster id course ≡ true → IsReturned goes)
standing_everywhere cluster course stepped =
    everywhere_for (λ id goes. stands_returned cluster id course ≡ true → IsReturned goes) cluster course
    (λ frame. on frame (stands_returned cluster frame course) refl)
  where
    on : (frame : FrameId) (b : Bool) → stands_returned cluster frame course ≡ b
        → Everywhere cluster course (If frame (λ id goes. stands_returned cluster id course ≡ true → IsReturned goes))
    on frame true stands =
        let it = stands_so cluster frame course stands in
        let alone = lone frame IsReturned it.front it.back it.life it.name it.is cluster course stepped it.number it.within it.parts in
        everywhere_both (λ id goes. id ≡ frame → IsReturned goes) (λ id goes. Unit {0})
        (If frame (λ id goes. stands_returned cluster id course ≡ true → IsReturned goes))
        (λ id goes first second same here. first same) cluster course alone (everywhere_always (λ id goes. Unit {0}) (λ id goes. tt) cluster course)
    on frame false other =
        everywhere_always (If frame (λ id goes. stands_returned cluster id course ≡ true → IsReturned goes))
        (λ id goes same stands. (let not : stands_returned cluster id course ≡ false =
        ap (λ it. stands_returned cluster it course) same ∙ other in absurd (cc))) cluster course

-- one event more
pub grown : (cluster : Cluster) (course : Course) (moved : Moved) → Stepped cluster (moved ∷ course)
    → Everywhere cluster (moved ∷ course) (StaysReturned cluster course)
    → Everywhere cluster (moved ∷ course) (StaysReturned cluster (moved ∷ course))
grown cluster course moved stepped before =
    everywhere_both (StaysReturned cluster course) (λ id goes. stands_returned cluster id (moved ∷ course) ≡ true → IsReturned goes)
    (StaysReturned cluster (moved ∷ course))
    (λ id goes first second has. by first second (either (has_returned cluster id course) (stands_returned cluster id (moved ∷ course)) has))
    cluster (moved ∷ course) before (standing_everywhere cluster (moved ∷ course) stepped)
  where
    by : {A B C : Type 0} → (A → C) → (B → C) → A ⊎ B → C
    by first second (inl a) = first a
    by first second (inr b) = second b

-- a frame that wants something has not returned
pub wants_none : (life : Life) (request : want.Request) → Wants life request → IsReturned life.goes → ⊥
wants_none life request wanted is = let none : is_some (value_in (now life.goes)) ≡ false = ap (λ it. is_some (value_in it)) wanted in absurd (cc)

pub makes_none : (node : Node) (past : Past) (done : LoggedAct) (life : Life) → MayMake node past done life → IsReturned life.goes → ⊥
makes_none node past (act.Read word value) life makes is = wants_none life (want.Read word) makes.wanted is
makes_none node past (act.Write word value) life makes is = wants_none life (want.Write word value) makes.wanted is
makes_none node past (act.Print value) life makes is = wants_none life (want.Print value) makes is
makes_none node past (act.Spawn child procedure arguments) life makes is = wants_none life (want.Spawn makes.target procedure arguments) makes.wanted is
makes_none node past act.Sync life makes is = wants_none life want.Sync makes.wanted is

-- the name of a child is new
pub child_unknown : (cluster : Cluster) (course : Course) (number : ℕ) (child : FrameId)
    → child ≡ record { node = number; number = next_frame (node_at cluster number) (own number course) }
    → Unknown cluster course child
child_unknown cluster course number child name =
    subst (Unknown cluster course) (sym name) (omega (arith))
