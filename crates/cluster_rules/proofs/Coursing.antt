-- From the past of one node to positions among all events.
use Rattle.std.proofs.Common.{◌≡◌, ℕ, ◌+◌, List, [], ◌∷◌, ◌++◌, Option, Some, None, Bool, true, false, cond, eqb, length, refl, sym, ◌∙◌, ap, subst, arith}
use Rattle.std.proofs.lemmas.Bool.Decides.{nat_tests}
use Rattle.cilk_meaning.specs.declared.ends.NodeEnd.{NodeEnd}
use Rattle.page_messages.specs.declared.message.Msg.{Msg}
use Rattle.page_messages.specs.declared.log.Item.{Item}
use Rattle.page_messages.specs.declared.log.PostAt.{PostAt}
use Rattle.cluster_rules.specs.Turns.{WholeTurn, Did, Sent, Took, Ended, did, sent, took, ended, after_turn, posted_at, past_of}
use Rattle.cluster_rules.specs.Runs.{Cluster, node_at, IsLawful}
use Rattle.cluster_rules.specs.Allowed.{IsAllowed, AllAllowed}
use Rattle.cluster_rules.specs.Positions.{Moved, Course, with_items, with_posts, with_taking, with_end, with_turn, course_of, own, at, before}
use Rattle.cluster_rules.proofs.Lawful.{lawful_past, allowed_at}
use Rattle.cluster_rules.proofs.Testing.{own_number}

-- ---- the past of a node is its part of all events

own_items : (other number : ℕ) (b : Bool) → eqb other number ≡ b → (items : List Item) (course : Course)
    → own number (with_items other items course) ≡ cond b (did items (own number course)) (own number course)
own_items other number true is [] course = refl
own_items other number false is [] course = refl
own_items other number true is (item ∷ items) course =
    own_items other number true is items (record { node = other; event = Did item; message = None } ∷ course)
    ∙ ap (λ b. did items (cond b (Did item ∷ own number course) (own number course))) is
own_items other number false is (item ∷ items) course =
    own_items other number false is items (record { node = other; event = Did item; message = None } ∷ course)
    ∙ ap (λ b. cond b (Did item ∷ own number course) (own number course)) is

own_posts : (other number : ℕ) (b : Bool) → eqb other number ≡ b → (place : PostAt) (messages : List Msg) (course : Course)
    → own number (with_posts other place messages course) ≡ cond b (sent messages (own number course)) (own number course)
own_posts other number true is place [] course = refl
own_posts other number false is place [] course = refl
own_posts other number true is place (message ∷ messages) course =
    own_posts other number true is (record place { index = place.index + 1 }) messages
    (record { node = other; event = Sent message; message = Some place } ∷ course)
    ∙ ap (λ b. sent messages (cond b (Sent message ∷ own number course) (own number course))) is
own_posts other number false is place (message ∷ messages) course =
    own_posts other number false is (record place { index = place.index + 1 }) messages
    (record { node = other; event = Sent message; message = Some place } ∷ course)
    ∙ ap (λ b. cond b (Sent message ∷ own number course) (own number course)) is

own_taking : (other number : ℕ) (b : Bool) → eqb other number ≡ b → (place : Option PostAt) (message : Option Msg) (course : Course)
    → own number (with_taking other place message course) ≡ cond b (took message (own number course)) (own number course)
own_taking other number true is place None course = refl
own_taking other number false is place None course = refl
own_taking other number true is place (Some message) course = ap (λ b. cond b (Took message ∷ own number course) (own number course)) is
own_taking other number false is place (Some message) course = ap (λ b. cond b (Took message ∷ own number course) (own number course)) is

own_end : (other number : ℕ) (b : Bool) → eqb other number ≡ b → (end : Option NodeEnd) (course : Course)
    → own number (with_end other end course) ≡ cond b (ended end (own number course)) (own number course)
own_end other number true is None course = refl
own_end other number false is None course = refl
own_end other number true is (Some end) course = ap (λ b. cond b (Ended end ∷ own number course) (own number course)) is
own_end other number false is (Some end) course = ap (λ b. cond b (Ended end ∷ own number course) (own number course)) is

own_turn : (count number : ℕ) (turn : WholeTurn) (message : Option Msg) (course : Course) (b : Bool) → eqb turn.node number ≡ b
    → own number (with_turn count turn message course) ≡ cond b (after_turn turn message (own number course)) (own number course)
own_turn count number turn message course true is =
    let place : PostAt = record { turn = count; index = 0 } in
    let items = with_items turn.node turn.items course in
    let posts = with_posts turn.node place turn.posts items in
    own_end turn.node number true is turn.end (with_taking turn.node turn.took message posts)
    ∙ ap (ended turn.end) (own_taking turn.node number true is turn.took message posts
    ∙ ap (took message) (own_posts turn.node number true is place turn.posts items
    ∙ ap (sent turn.posts) (own_items turn.node number true is turn.items course)))
own_turn count number turn message course false is =
    let place : PostAt = record { turn = count; index = 0 } in
    let items = with_items turn.node turn.items course in
    let posts = with_posts turn.node place turn.posts items in
    own_end turn.node number false is turn.end (with_taking turn.node turn.took message posts)
    ∙ (own_taking turn.node number false is turn.took message posts
    ∙ (own_posts turn.node number false is place turn.posts items
    ∙ own_items turn.node number false is turn.items course))

pub own_course : (number : ℕ) (turns : List WholeTurn) → own number (course_of turns) ≡ past_of number turns
unfolding course_of past_of
own_course number [] = refl
own_course number (turn ∷ older) =
    own_turn (length older) number turn (posted_at older turn.took) (course_of older) (eqb turn.node number) refl
    ∙ ap (λ past. cond (eqb turn.node number) (after_turn turn (posted_at older turn.took) past) past) (own_course number older)

-- ---- what stands at a position

pub record Splits (course : Course) (position : ℕ) (moved : Moved) : Type 0 where
  pub later : Course
  pub parts : course ≡ later ++ moved ∷ before course position
  pub count : length (before course position) ≡ position

at_on : (first moved : Moved) (course : Course) (position : ℕ) (b : Bool) → eqb position (length course) ≡ b
    → cond b (Some first) (at course position) ≡ Some moved
    → (at course position ≡ Some moved → Splits course position moved)
    → (later : Course) × (first ∷ course ≡ later ++ moved ∷ cond b course (before course position))
    × (length (cond b course (before course position)) ≡ position)
at_on first moved course position true is found rest = let same : first ≡ moved = cc in ([], ap (λ it. it ∷ course) same, grind (arith, nat_tests))
at_on first moved course position false is found rest = let split = rest found in (first ∷ split.later, ap (λ it. first ∷ it) split.parts, split.count)

pub at_splits : (course : Course) (position : ℕ) (moved : Moved) → at course position ≡ Some moved → Splits course position moved
at_splits [] position moved found = absurd (cc)
at_splits (first ∷ course) position moved found =
    let split = at_on first moved course position (eqb position (length course)) refl found (at_splits course position moved) in
    record { later = split.0; parts = split.1; count = split.2 }

own_append_on : (number : ℕ) (first : Moved) (front back : Course) (b : Bool) → own number (front ++ back) ≡ own number front ++ own number back
    → cond b (first.event ∷ own number (front ++ back)) (own number (front ++ back))
    ≡ cond b (first.event ∷ own number front) (own number front) ++ own number back
own_append_on number first front back true same = ap (λ it. first.event ∷ it) same
own_append_on number first front back false same = same

own_append : (number : ℕ) (front back : Course) → own number (front ++ back) ≡ own number front ++ own number back
own_append number [] back = refl
own_append number (first ∷ front) back = own_append_on number first front back (eqb first.node number) (own_append number front back)

-- Each event of lawful turns is allowed, at its position, by what its node did and took before.
pub lawful_at : (cluster : Cluster) (turns : List WholeTurn) (position : ℕ) (moved : Moved) → IsLawful cluster turns
    → at (course_of turns) position ≡ Some moved
    → IsAllowed (node_at cluster moved.node) (own moved.node (before (course_of turns) position)) moved.event
lawful_at cluster turns position moved lawful found =
    let split = at_splits (course_of turns) position moved found in
    let older = before (course_of turns) position in
    let is : past_of moved.node turns ≡ own moved.node split.later ++ moved.event ∷ own moved.node older =
    sym (own_course moved.node turns) ∙ ap (own moved.node) split.parts ∙ own_append moved.node split.later (moved ∷ older)
    ∙ ap (λ b. own moved.node split.later ++ cond b (moved.event ∷ own moved.node older) (own moved.node older)) (own_number moved.node) in
    allowed_at (node_at cluster moved.node) (own moved.node split.later) moved.event (own moved.node older)
    (subst (AllAllowed (node_at cluster moved.node)) is (lawful_past cluster turns moved.node lawful))
