-- What stands at a position stays as more happens behind it.
use Rattle.std.proofs.Common.{◌≡◌, ℕ, ◌+◌, ◌<◌, List, [], ◌∷◌, ◌++◌, Option, Some, None, Bool, true, false, cond, eqb, length, refl, sym, ◌∙◌, ap, append_assoc, length-append, arith}
use Rattle.std.proofs.lemmas.Bool.Decides.{nat_tests}
use Rattle.cilk_meaning.specs.declared.ends.NodeEnd.{NodeEnd}
use Rattle.page_messages.specs.declared.message.Msg.{Msg}
use Rattle.page_messages.specs.declared.log.Item.{Item}
use Rattle.page_messages.specs.declared.log.PostAt.{PostAt}
use Rattle.cluster_rules.specs.Turns.{WholeTurn, Did, Sent, Took, Ended}
use Rattle.cluster_rules.specs.Positions.{Moved, Course, with_items, with_posts, with_taking, with_end, with_turn, at, before}

-- what is at hand, with more behind it
abbrev pub Grown : Course → Course → Type 0
Grown course more = (later : Course) × (more ≡ later ++ course)

pub by_one : (course : Course) (moved : Moved) (more : Course) → Grown (moved ∷ course) more → Grown course more
by_one course moved more grown = (grown.0 ++ moved ∷ [], grown.1 ∙ sym (append_assoc (grown.0) (moved ∷ []) course))

pub grown_items : (node : ℕ) (items : List Item) (course : Course) → Grown course (with_items node items course)
grown_items node [] course = ([], refl)
grown_items node (item ∷ items) course =
    let moved : Moved = record { node = node; event = Did item; message = None } in
    by_one course moved (with_items node items (moved ∷ course)) (grown_items node items (moved ∷ course))

pub grown_posts : (node : ℕ) (place : PostAt) (messages : List Msg) (course : Course) → Grown course (with_posts node place messages course)
grown_posts node place [] course = ([], refl)
grown_posts node place (message ∷ messages) course =
    let moved : Moved = record { node = node; event = Sent message; message = Some place } in
    let next : PostAt = record place { index = place.index + 1 } in
    by_one course moved (with_posts node next messages (moved ∷ course)) (grown_posts node next messages (moved ∷ course))

pub grown_taking : (node : ℕ) (place : Option PostAt) (message : Option Msg) (course : Course) → Grown course (with_taking node place message course)
grown_taking node place None course = ([], refl)
grown_taking node place (Some message) course = (record { node = node; event = Took message; message = place } ∷ [], refl)

pub grown_end : (node : ℕ) (end : Option NodeEnd) (course : Course) → Grown course (with_end node end course)
grown_end node None course = ([], refl)
grown_end node (Some end) course = (record { node = node; event = Ended end; message = None } ∷ [], refl)

pub grown_twice : (course more most : Course) → Grown course more → Grown more most → Grown course most
grown_twice course more most one two = (two.0 ++ one.0, two.1 ∙ ap (λ it. two.0 ++ it) (one.1) ∙ sym (append_assoc (two.0) (one.0) course))

pub grown_turn : (number : ℕ) (turn : WholeTurn) (message : Option Msg) (course : Course) → Grown course (with_turn number turn message course)
grown_turn number turn message course =
    let items = with_items turn.node turn.items course in
    let posts = with_posts turn.node (record { turn = number; index = 0 }) turn.posts items in
    let taking = with_taking turn.node turn.took message posts in
    grown_twice course items (with_turn number turn message course) (grown_items turn.node turn.items course)
    (grown_twice items posts (with_turn number turn message course) (grown_posts turn.node (record { turn = number; index = 0 }) turn.posts items)
    (grown_twice posts taking (with_turn number turn message course) (grown_taking turn.node turn.took message posts) (grown_end turn.node turn.end taking)))

-- ---- at a position

-- something stands only at positions below the length
pub within : (course : Course) (position : ℕ) (moved : Moved) → at course position ≡ Some moved → position < length course
within [] position moved found = absurd (cc)
within (first ∷ course) position moved found = on (eqb position (length course)) refl found (within course position moved)
  where
    on : (b : Bool) → eqb position (length course) ≡ b → cond b (Some first) (at course position) ≡ Some moved
        → (at course position ≡ Some moved → position < length course)
        → position < length (first ∷ course)
    on true is found rest = let same : position ≡ length course = grind (arith, nat_tests) in omega (arith, same)
    on false is found rest = let less = rest found in omega (arith, less)

pub at_behind : (later course : Course) (position : ℕ) → position < length course → at (later ++ course) position ≡ at course position
at_behind [] course position less = refl
at_behind (moved ∷ later) course position less =
    let not : eqb position (length (later ++ course)) ≡ false = let count = length-append later course in grind (arith, nat_tests) in
    rw not (at_behind later course position less)

pub before_behind : (later course : Course) (position : ℕ) → position < length course → before (later ++ course) position ≡ before course position
before_behind [] course position less = refl
before_behind (moved ∷ later) course position less =
    let not : eqb position (length (later ++ course)) ≡ false = let count = length-append later course in grind (arith, nat_tests) in
    rw not (before_behind later course position less)

pub at_grown : (course more : Course) → Grown course more → (position : ℕ) → position < length course → at more position ≡ at course position
at_grown course more grown position less = ap (λ it. at it position) (grown.1) ∙ at_behind (grown.0) course position less

pub before_grown : (course more : Course) → Grown course more → (position : ℕ) → position < length course → before more position ≡ before course position
before_grown course more grown position less = ap (λ it. before it position) (grown.1) ∙ before_behind (grown.0) course position less

-- what is last stands at the length of the rest
pub at_last : (moved : Moved) (course : Course) → at (moved ∷ course) (length course) ≡ Some moved
at_last moved course = let same : eqb (length course) (length course) ≡ true = grind (arith, nat_tests) in rw same refl

pub before_last : (moved : Moved) (course : Course) → before (moved ∷ course) (length course) ≡ course
before_last moved course = let same : eqb (length course) (length course) ≡ true = grind (arith, nat_tests) in rw same refl
