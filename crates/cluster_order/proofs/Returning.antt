-- A frame has returned where it stands so on the stack of a node, and from then on.
use Rattle.std.proofs.Common.{◌≡◌, ℕ, zero, suc, ◌+◌, ◌<◌, ◌≤◌, List, [], ◌∷◌, ◌++◌, Option, Some, None, Bool, true, false, cond, ◌||◌, eqb, length, is_some, refl, sym, ◌∙◌, ap, subst, arith}
use Rattle.std.proofs.lemmas.Bool.Decides.{nat_tests}
use Rattle.std.specs.List.{list_any, range_with_len}
use Rattle.cilk_meaning.specs.declared.ends.NodeEnd.{NodeEnd}
use Rattle.page_messages.specs.declared.closure.FrameId.{FrameId}
use Rattle.page_messages.specs.declared.message.Msg.{Msg}
use Rattle.page_messages.specs.declared.log.Item.{Item}
use Rattle.page_messages.specs.declared.log.PostAt.{PostAt}
use Rattle.cluster_rules.specs.Turns.{WholeTurn, Did, Sent, posted_at}
use Rattle.cluster_rules.specs.Lives.{Life, returned}
use Rattle.cluster_rules.specs.Frames.{stack_of}
use Rattle.cluster_rules.specs.Positions.{Moved, Course, with_items, with_posts, with_taking, with_end, course_of, own, at, before}
use Rattle.cluster_rules.specs.Runs.{Cluster, IsLawful, node_at}
use Rattle.cluster_rules.proofs.Marks.{same_self}
use Rattle.cluster_order.specs.Standing.{first, is_returned, stands_returned, has_returned, returns_of}
use Rattle.cluster_order.proofs.Fronts.{first_next, first_same, first_at}

-- ---- only nodes of the cluster act

abbrev pub AllBelow : ℕ → Course → Type 0
AllBelow bound [] = Unit {0}
AllBelow bound (moved ∷ course) = (moved.node < bound) × AllBelow bound course

below_items : (bound number : ℕ) → number < bound → (items : List Item) (course : Course) → AllBelow bound course
    → AllBelow bound (with_items number items course)
below_items bound number less [] course all = all
below_items bound number less (item ∷ items) course all =
    below_items bound number less items (record { node = number; event = Did item; message = None } ∷ course) (less, all)

below_posts : (bound number : ℕ) → number < bound → (place : PostAt) (messages : List Msg) (course : Course) → AllBelow bound course
    → AllBelow bound (with_posts number place messages course)
below_posts bound number less place [] course all = all
below_posts bound number less place (message ∷ messages) course all =
    below_posts bound number less (record place { index = place.index + 1 }) messages
    (record { node = number; event = Sent message; message = Some place } ∷ course) (less, all)

below_taking : (bound number : ℕ) → number < bound → (place : Option PostAt) (message : Option Msg) (course : Course) → AllBelow bound course
    → AllBelow bound (with_taking number place message course)
below_taking bound number less place None course all = all
below_taking bound number less place (Some message) course all = (less, all)

below_end : (bound number : ℕ) → number < bound → (end : Option NodeEnd) (course : Course) → AllBelow bound course → AllBelow bound (with_end number end course)
below_end bound number less None course all = all
below_end bound number less (Some end) course all = (less, all)

all_below : (cluster : Cluster) (turns : List WholeTurn) → IsLawful cluster turns → AllBelow cluster.config.nodes (course_of turns)
unfolding course_of
all_below cluster [] lawful = tt
all_below cluster (turn ∷ older) lawful =
    let nodes = cluster.config.nodes in
    let less = lawful.1.node in
    let place : PostAt = record { turn = length older; index = 0 } in
    let items = with_items turn.node turn.items (course_of older) in
    let posts = with_posts turn.node place turn.posts items in
    let taking = with_taking turn.node turn.took (posted_at older turn.took) posts in
    below_end nodes turn.node less turn.end taking
    (below_taking nodes turn.node less turn.took (posted_at older turn.took) posts
    (below_posts nodes turn.node less place turn.posts items
    (below_items nodes turn.node less turn.items (course_of older) (all_below cluster older (lawful.0)))))

below_at : (bound : ℕ) (course : Course) (position : ℕ) (moved : Moved) → AllBelow bound course → at course position ≡ Some moved → moved.node < bound
below_at bound [] position moved all found = absurd (cc)
below_at bound (latest ∷ course) position moved all found = on (eqb position (length course)) found (below_at bound course position moved (all.1))
  where
    on : (b : Bool) → cond b (Some latest) (at course position) ≡ Some moved → (at course position ≡ Some moved → moved.node < bound) → moved.node < bound
    on true here rest = let same : latest ≡ moved = cc in subst (λ it. it.node < bound) same (all.0)
    on false here rest = rest here

-- A node that does something is one of the cluster.
pub node_below : (cluster : Cluster) (turns : List WholeTurn) → IsLawful cluster turns → (position : ℕ) (moved : Moved)
    → at (course_of turns) position ≡ Some moved → moved.node < cluster.config.nodes
node_below cluster turns lawful position moved found = below_at cluster.config.nodes (course_of turns) position moved (all_below cluster turns lawful) found

-- ---- returned frames

or_true : (b : Bool) → b || true ≡ true
or_true true = refl
or_true false = refl

any_at : {A : Type 0} (test : A → Bool) (front back : List A) (one : A) → test one ≡ true → list_any test (front ++ one ∷ back) ≡ true
any_at test [] back one is = rw is refl
any_at test (first ∷ front) back one is = rw (any_at test front back one is) (or_true (test first))

any_number : (test : ℕ → Bool) (start count number : ℕ) → start ≤ number → number < start + count → test number ≡ true
    → list_any test (range_with_len start count) ≡ true
any_number test start zero number above below is = absurd (omega (arith, above, below))
any_number test start (suc count) number above below is =
    on (eqb start number) refl (λ more. any_number test (start + 1) count number more (omega (arith, below)) is)
  where
    on : (b : Bool) → eqb start number ≡ b → (start + 1 ≤ number → list_any test (range_with_len (start + 1) count) ≡ true)
        → test start || list_any test (range_with_len (start + 1) count) ≡ true
    on true same rest = let here : start ≡ number = grind (arith, nat_tests) in let such : test start ≡ true = ap test here ∙ is in rw such refl
    on false other rest = let less : start + 1 ≤ number = grind (arith, nat_tests) in rw (rest less) (or_true (test start))

-- It stands on the stack of a node, and has returned.
pub stands_so : (cluster : Cluster) (number : ℕ) (course : Course) (front back : List Life) (life : Life) → number < cluster.config.nodes
    → stack_of (node_at cluster number) (own number course) ≡ front ++ life ∷ back → is_some (returned life) ≡ true
    → stands_returned cluster life.id course ≡ true
stands_so cluster number course front back life less parts is =
    let here : is_returned life.id life ≡ true = rw (same_self life.id, is) refl in
    any_number (λ number. list_any (is_returned life.id) (stack_of (node_at cluster number) (own number course))) 0 cluster.config.nodes number (omega (arith))
    (omega (arith, less))
    (ap (list_any (is_returned life.id)) parts ∙ any_at (is_returned life.id) front back life here)

pub returned_so : (cluster : Cluster) (frame : FrameId) (course : Course) → stands_returned cluster frame course ≡ true
    → has_returned cluster frame course ≡ true
returned_so cluster frame [] is = is
returned_so cluster frame (moved ∷ course) is = rw is (or_true (has_returned cluster frame course))

pub returned_more : (cluster : Cluster) (frame : FrameId) (moved : Moved) (course : Course) → has_returned cluster frame course ≡ true
    → has_returned cluster frame (moved ∷ course) ≡ true
returned_more cluster frame moved course is = rw is refl

-- What has returned stays so.
pub stays : (cluster : Cluster) (course : Course) (now : ℕ) (frame : FrameId) → returns_of cluster course now frame ≡ true
    → returns_of cluster course (suc now) frame ≡ true
stays cluster course now frame is = on (at course now) refl
  where
    on : (option : Option Moved) → at course now ≡ option → has_returned cluster frame (first (suc now) course) ≡ true
    on None none = ap (has_returned cluster frame) (first_same now course none) ∙ is
    on (Some moved) found =
        ap (has_returned cluster frame) (first_next now course moved found)
        ∙ returned_more cluster frame moved (before course now) (ap (has_returned cluster frame) (sym (first_at now course moved found)) ∙ is)
