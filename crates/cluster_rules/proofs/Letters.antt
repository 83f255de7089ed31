-- The messages that were posted and not taken. What they amount to as one more is posted or taken.
use Rattle.std.proofs.Common.{◌≡◌, ◌⊎◌, inl, inr, ℕ, ◌+◌, List, [], ◌∷◌, Option, Some, None, Bool, true, false, cond, eqb, ◌||◌, refl, sym, ◌∙◌, ap, subst, arith}
use Rattle.std.proofs.lemmas.Bool.Decides.{nat_tests}
use Rattle.std.specs.List.{list_any}
use Rattle.page_messages.specs.declared.message.Msg.{Msg}
use Rattle.page_messages.specs.declared.log.PostAt.{PostAt}
use Rattle.cluster_rules.specs.Turns.{Event, Did, Sent, Took, Ended, same_place, takes_at}
use Rattle.cluster_rules.specs.Runs.{Cluster}
use Rattle.cluster_rules.specs.Positions.{Moved, Course}
use Rattle.cluster_rules.proofs.Testing.{both_true}
use Rattle.cluster_rules.proofs.Stepping.{IsPost, WasPosted, posts_place, takes_place, Posts, Takes, Carries, Stepped}
use Rattle.cluster_rules.proofs.Testing.{neither}

pub record Letter : Type 0 where
  pub place : PostAt
  pub message : Msg

-- the first letter of this place is taken away
abbrev pub without_letter : PostAt → List Letter → List Letter
without_letter place [] = []
without_letter place (letter ∷ letters) = cond (same_place letter.place place) letters (letter ∷ without_letter place letters)

abbrev pub with_letter : Option PostAt → Msg → List Letter → List Letter
with_letter None message letters = letters
with_letter (Some place) message letters = record { place = place; message = message } ∷ letters

abbrev pub without_some : Option PostAt → List Letter → List Letter
without_some None letters = letters
without_some (Some place) letters = without_letter place letters

abbrev pub letters_on : Event → Option PostAt → List Letter → List Letter
letters_on (Did item) here letters = letters
letters_on (Sent message) here letters = with_letter here message letters
letters_on (Took message) here letters = without_some here letters
letters_on (Ended end) here letters = letters

-- The letters that were posted and not taken.
abbrev pub letters_of : Course → List Letter
letters_of [] = []
letters_of (moved ∷ course) = letters_on moved.event moved.message (letters_of course)

-- what they amount to together
abbrev pub amount_of : (Msg → ℕ) → List Letter → ℕ
amount_of amount [] = 0
amount_of amount (letter ∷ letters) = amount letter.message + amount_of amount letters

-- ---- the first letter of a place

abbrev pub Holds : PostAt → Msg → List Letter → Type 0
Holds place message [] = ⊥
Holds place message (letter ∷ letters) =
    ((letter.place ≡ place) × (letter.message ≡ message)) ⊎ ((same_place letter.place place ≡ false) × Holds place message letters)

same_here : (place : PostAt) → same_place place place ≡ true
same_here place = grind (arith, nat_tests)

pub same_is : (place other : PostAt) → same_place place other ≡ true → place ≡ other
same_is place other same =
    let both = both_true (eqb place.turn other.turn) (eqb place.index other.index) same in
    let turns : place.turn ≡ other.turn = let test = both.0 in grind (arith, nat_tests) in
    let indices : place.index ≡ other.index = let test = both.1 in grind (arith, nat_tests) in
    λ i. record { turn = turns i; index = indices i }

holds_amount : (amount : Msg → ℕ) (place : PostAt) (message : Msg) (letters : List Letter) → Holds place message letters
    → amount_of amount letters ≡ amount message + amount_of amount (without_letter place letters)
holds_amount amount place message [] holds = absurd holds
holds_amount amount place message (letter ∷ letters) (inl both) =
    let here : same_place letter.place place ≡ true = ap (λ it. same_place it place) both.0 ∙ same_here place in
    let said : amount letter.message ≡ amount message = ap amount both.1 in
    rw here (ap (λ it. it + amount_of amount letters) said)
holds_amount amount place message (letter ∷ letters) (inr both) =
    let before = holds_amount amount place message letters both.1 in
    rw both.0 (let first = before in omega (arith, first))

-- letters of another place
holds_without_on : (place other : PostAt) (message : Msg) (letter : Letter) (letters : List Letter) (b : Bool) → same_place letter.place other ≡ b
    → same_place place other ≡ false
    → Holds place message (letter ∷ letters) → (Holds place message letters → Holds place message (without_letter other letters))
    → Holds place message (cond b letters (letter ∷ without_letter other letters))
holds_without_on place other message letter letters true is apart (inl both) rest =
    let same : same_place place other ≡ true = ap (λ it. same_place it other) (sym both.0) ∙ is in absurd (cc)
holds_without_on place other message letter letters true is apart (inr both) rest = both.1
holds_without_on place other message letter letters false is apart (inl both) rest = inl both
holds_without_on place other message letter letters false is apart (inr both) rest = inr (both.0, rest both.1)

holds_without : (place other : PostAt) (message : Msg) (letters : List Letter) → same_place place other ≡ false → Holds place message letters
    → Holds place message (without_letter other letters)
holds_without place other message [] apart holds = absurd holds
holds_without place other message (letter ∷ letters) apart holds =
    holds_without_on place other message letter letters (same_place letter.place other) refl apart holds (holds_without place other message letters apart)

-- ---- what was posted and not taken is among the letters

posted_any : (course : Course) (place : PostAt) (message : Msg) → WasPosted course place message → list_any (posts_place place) course ≡ true
posted_any [] place message was = absurd was
posted_any (moved ∷ course) place message (inl post) =
    let is : posts_place place moved ≡ true = rw (post.0, post.1, same_here place) refl in rw is refl
posted_any (moved ∷ course) place message (inr was) = on (posts_place place moved) (posted_any course place message was)
  where
    on : (b : Bool) → list_any (posts_place place) course ≡ true → b || list_any (posts_place place) course ≡ true
    on true any = refl
    on false any = any

apart_on : (place other : PostAt) (course : Course) (message : Msg) (b : Bool) → same_place other place ≡ b → WasPosted course place message
    → list_any (posts_place other) course ≡ false → b ≡ false
apart_on place other course message false is was fresh = refl
apart_on place other course message true is was fresh =
    let same = same_is other place is in
    let any = posted_any course place message was in
    let none : list_any (posts_place place) course ≡ false = subst (λ it. list_any (posts_place it) course ≡ false) same fresh in
    absurd (cc)

same_turned : (place other : PostAt) (b : Bool) → same_place other place ≡ b → same_place other place ≡ false → same_place place other ≡ false
same_turned place other b is apart = on (same_place place other) refl
  where
    on : (c : Bool) → same_place place other ≡ c → c ≡ false
    on false turned = refl
    on true turned =
        let one : same_place other place ≡ true = subst (λ it. same_place it place ≡ true) (same_is place other turned) (same_here place) in absurd (cc)

module _ (cluster : Cluster) where
  letters_hold_on : (first : Moved) (course : Course) (place : PostAt) (message : Msg) (event : Event) → first.event ≡ event
      → Carries course first.node first.message event
      → IsPost place message first ⊎ WasPosted course place message → takes_place place first ≡ false
      → (WasPosted course place message → Holds place message (letters_of course)) → Holds place message (letters_on event first.message (letters_of course))
  letters_hold_on first course place message (Did item) is carries (inl post) not rest = let other : Did item ≡ Sent message = sym is ∙ post.0 in absurd (cc)
  letters_hold_on first course place message (Did item) is carries (inr was) not rest = rest was
  letters_hold_on first course place message (Ended end) is carries (inl post) not rest = let other : Ended end ≡ Sent message = sym is ∙ post.0 in absurd (cc)
  letters_hold_on first course place message (Ended end) is carries (inr was) not rest = rest was
  letters_hold_on first course place message (Sent said) is carries (inl post) not rest =
      let same : Sent said ≡ Sent message = sym is ∙ post.0 in
      let one : said ≡ message = cc in
      subst (λ here. Holds place message (with_letter here said (letters_of course))) (sym post.1) (inl (refl, one))
  letters_hold_on first course place message (Sent said) is carries (inr was) not rest =
      subst (λ here. Holds place message (with_letter here said (letters_of course))) (sym carries.place_is)
      (inr (apart_on place carries.place course message (same_place carries.place place) refl was carries.fresh, rest was))
  letters_hold_on first course place message (Took said) is carries (inl post) not rest = let other : Took said ≡ Sent message = sym is ∙ post.0 in absurd (cc)
  letters_hold_on first course place message (Took said) is carries (inr was) not rest =
      let apart : same_place carries.place place ≡ false = subst (λ here. takes_at place here ≡ false) carries.place_is (took said is not) in
      subst (λ here. Holds place message (without_some here (letters_of course))) (sym carries.place_is)
      (holds_without place carries.place message (letters_of course) (same_turned place carries.place false apart apart) (rest was))
    where
      took : (said : Msg) → first.event ≡ Took said → takes_place place first ≡ false → takes_at place first.message ≡ false
      took said is not =
          subst (λ event. takes_at place first.message ≡ false) is
          (let taken : takes_place place first ≡ takes_at place first.message = rw is refl in sym taken ∙ not)

  pub letters_hold : (course : Course) → Stepped cluster course → (place : PostAt) (message : Msg) → WasPosted course place message
      → list_any (takes_place place) course ≡ false
      → Holds place message (letters_of course)
  letters_hold [] stepped place message was none = absurd was
  letters_hold (first ∷ course) stepped place message was none =
      let both = neither (takes_place place first) (list_any (takes_place place) course) none in
      letters_hold_on first course place message first.event refl stepped.1.carries was both.0
      (λ before. letters_hold course stepped.0 place message before both.1)

  -- A posted message is one letter more.
  pub letter_sent : (amount : Msg → ℕ) (course : Course) (node : ℕ) (here : Option PostAt) (message : Msg) → Posts course node here message
      → amount_of amount (with_letter here message (letters_of course)) ≡ amount message + amount_of amount (letters_of course)
  letter_sent amount course node here message posts = rw (posts.place_is) refl

  -- A taken one is one letter less.
  pub letter_taken : (amount : Msg → ℕ) (course : Course) (node : ℕ) (here : Option PostAt) (message : Msg) → Stepped cluster course
      → Takes course node here message
      → amount_of amount (letters_of course) ≡ amount message + amount_of amount (without_some here (letters_of course))
  letter_taken amount course node here message stepped takes =
      subst (λ it. amount_of amount (letters_of course) ≡ amount message + amount_of amount (without_some it (letters_of course))) (sym takes.place_is)
      (holds_amount amount takes.place message (letters_of course) (letters_hold course stepped takes.place message takes.was_posted takes.not_taken))
