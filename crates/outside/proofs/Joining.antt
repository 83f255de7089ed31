-- A text that grows by pieces: what was read so far, and the calls that read it.
use Rattle.std.proofs.Common.{◌≡◌, ℕ, ◌+◌, ◌<◌, ◌≤◌, ◌⊎◌, List, [], ◌∷◌, ◌++◌, Option, Some, None, IfSome, IsSomeAnd, length, take, drop, refl, sym, ap, ◌∙◌, subst, inl, inr, ⊎_elim, append_assoc, append-nil, length-append, arith}
use Rattle.std.proofs.lemmas.List.{take_all, length-take}
use Rattle.std.specs.FinMap as map
use Rattle.outside.specs.Shelf.{Texts, AreSome, GivesFrom, Reads, joined}

pub joined-append : (pieces : List (List ℕ)) (piece : List ℕ) → joined (pieces ++ piece ∷ []) ≡ joined pieces ++ piece
joined-append [] piece = append-nil piece
joined-append (first ∷ pieces) piece = ap (λ x. first ++ x) (joined-append pieces piece) ∙ sym (append_assoc first (joined pieces) piece)

pub Reads-append : {S : Type 0} (gave : S → List ℕ → ℕ → ℕ → List ℕ → S → Type 0) (name : List ℕ) (old : S) (at : ℕ) (pieces : List (List ℕ)) (mid : S) (piece : List ℕ) (new : S)
    → Reads gave name old at pieces mid → gave mid name (at + length (joined pieces)) 4096 piece new → Reads gave name old at (pieces ++ piece ∷ []) new
Reads-append {S} gave name old at [] mid piece new reads last =
    let P : S → ℕ → Type 0 = λ s k. gave s name k 4096 piece new in
    let at_old : P old (at + 0) = subst (λ s. P s (at + 0)) reads last in
    (new, subst (λ k. P old k) (omega arith) at_old, refl)
Reads-append {S} gave name old at (first ∷ pieces) mid piece new (next, given, reads) last =
    let place : at + length (first ++ joined pieces) ≡ at + length first + length (joined pieces) = omega (arith, length-append first (joined pieces)) in
    (next, given, Reads-append gave name next (at + length first) pieces mid piece new reads (subst (λ k. gave mid name k 4096 piece new) place last))

pub AreSome-append : (pieces : List (List ℕ)) (piece : List ℕ) → AreSome pieces → 0 < length piece → AreSome (pieces ++ piece ∷ [])
AreSome-append [] piece before some = (some, tt)
AreSome-append (first ∷ pieces) piece (first_some, before) some = (first_some, AreSome-append pieces piece before some)

-- each piece has a byte at least
few : (pieces : List (List ℕ)) → AreSome pieces → length pieces ≤ length (joined pieces)
few [] some = omega arith
few (piece ∷ pieces) (some, rest) = omega (arith, some, few pieces rest, length-append piece (joined pieces))

-- The calls that gave what was read so far.
abbrev pub CallsSoFar : {S : Type 0} → (S → List ℕ → ℕ → ℕ → List ℕ → S → Type 0) → List ℕ → S → List ℕ → S → Type 0
CallsSoFar gave name old items new = (pieces : List (List ℕ)) × (items ≡ joined pieces) × AreSome pieces × Reads gave name old 0 pieces new

pub CallsSoFar-fault : {S : Type 0} (gave : S → List ℕ → ℕ → ℕ → List ℕ → S → Type 0) (failed : S → List ℕ → ℕ → ℕ → S → Type 0) (name : List ℕ) (limit : ℕ) (old mid new : S) (items : List ℕ) (at room : ℕ)
    → at ≡ length items → room ≡ 4096 → failed mid name at room new → CallsSoFar gave name old items mid → length items ≤ limit
    → (pieces : List (List ℕ)) × (last : S) × AreSome pieces × (length (joined pieces) ≤ limit) × (length pieces ≤ limit)
    × Reads gave name old 0 pieces last × failed last name (length (joined pieces)) 4096 new
CallsSoFar-fault gave failed name limit old mid new items at room at_end full fails (pieces, is, some, reads) short =
    let at_full : failed mid name at 4096 new = subst (λ k. failed mid name at k new) full fails in
    (pieces, mid, some, omega (arith, ap length is), omega (arith, ap length is, few pieces some), reads, subst (λ k. failed mid name k 4096 new) (at_end ∙ ap length is) at_full)

-- A further call at the place reached, and what follows from it.
module _ {S : Type 0} (gave : S → List ℕ → ℕ → ℕ → List ℕ → S → Type 0) (name : List ℕ) (old mid new : S) (items given : List ℕ) (at room : ℕ)
    (at_end : at ≡ length items) (full : room ≡ 4096) (last : gave mid name at room given new) where
  pub Reads-next : (pieces : List (List ℕ)) → items ≡ joined pieces → Reads gave name old 0 pieces mid → Reads gave name old 0 (pieces ++ given ∷ []) new
  Reads-next pieces is reads =
      let at_full : gave mid name at 4096 given new = subst (λ k. gave mid name at k given new) full last in
      let place : at ≡ 0 + length (joined pieces) = omega (arith, ap length is) in
      Reads-append gave name old 0 pieces mid given new reads (subst (λ k. gave mid name k 4096 given new) place at_full)

  pub CallsSoFar-append : CallsSoFar gave name old items mid → 0 < length given → CallsSoFar gave name old (items ++ given) new
  CallsSoFar-append (pieces, is, before, reads) some =
      (pieces ++ given ∷ [], ap (λ x. x ++ given) is ∙ sym (joined-append pieces given), AreSome-append pieces given before some, Reads-next pieces is reads)

  -- all that was given, of which the bytes before the last piece are within a limit
  pub CallsSoFar-last : (limit : ℕ) → CallsSoFar gave name old items mid → length items ≤ limit → 0 < length given
      → (pieces : List (List ℕ)) × (last : List ℕ) × AreSome (pieces ++ last ∷ []) × (length (joined pieces) ≤ limit) × (length (joined (pieces ++ last ∷ [])) ≡ length items + length given) × (length pieces ≤ limit)
      × Reads gave name old 0 (pieces ++ last ∷ []) new
  CallsSoFar-last limit (pieces, is, before, reads) short some = (
    pieces,
    given,
    AreSome-append pieces given before some,
    omega (arith, ap length is),
    omega (arith, ap length is, ap length (joined-append pieces given), length-append (joined pieces) given),
    omega (arith, ap length is, few pieces before),
    Reads-next pieces is reads,
  )

  pub CallsSoFar-whole : (limit : ℕ) → CallsSoFar gave name old items mid → length items ≤ limit → given ≡ []
      → (pieces : List (List ℕ)) × (items ≡ joined pieces) × AreSome pieces × (length pieces ≤ limit) × Reads gave name old 0 (pieces ++ [] ∷ []) new
  CallsSoFar-whole limit (pieces, is, before, reads) short none =
      (pieces, is, before, omega (arith, ap length is, few pieces before), subst (λ x. Reads gave name old 0 (pieces ++ x ∷ []) new) none (Reads-next pieces is reads))

-- What was read so far is a front part of the told text.
abbrev pub ReadSoFar : Option Texts → List ℕ → List ℕ → Type 0
ReadSoFar texts name items = IfSome texts (λ held. (items ≡ []) ⊎ IsSomeAnd (map.get held name) (λ text. items ≡ take (length items) text))

-- What a call gives of the told text.
abbrev pub GivesTold : Option Texts → List ℕ → ℕ → ℕ → List ℕ → Type 0
GivesTold texts name at room given = IfSome texts (λ held. IsSomeAnd (map.get held name) (λ text. GivesFrom text at room given))

take-append : (items given text : List ℕ) → items ≡ take (length items) text → given ≡ take (length given) (drop (length items) text) → items ++ given ≡ take (length (items ++ given)) text
take-append [] given text front next = next
take-append (x ∷ items) given [] front next = absurd (cc)
take-append (x ∷ items) given (y ∷ text) front next =
    let heads : x ≡ y = cc in
    let tails : items ≡ take (length items) text = cc in
    let longer : items ++ given ≡ take (length (items ++ given)) text = take-append items given text tails next in
    cc

pub ReadSoFar-none : (texts : Option Texts) (name : List ℕ) → ReadSoFar texts name []
ReadSoFar-none None name = tt
ReadSoFar-none (Some held) name = inl refl

append-one : (text : Option (List ℕ)) (items : List ℕ) (room : ℕ) (given : List ℕ) → ((items ≡ []) ⊎ IsSomeAnd text (λ text. items ≡ take (length items) text))
    → IsSomeAnd text (λ text. GivesFrom text (length items) room given) → IsSomeAnd text (λ text. items ++ given ≡ take (length (items ++ given)) text)
append-one None items room given before gives = gives
append-one (Some text) items room given (inl none) gives = take-append items given text (rw none refl) gives.bytes
append-one (Some text) items room given (inr front) gives = take-append items given text front gives.bytes

pub ReadSoFar-append : (texts now : Option Texts) (name items : List ℕ) (at room : ℕ) (given : List ℕ) → ReadSoFar texts name items → now ≡ texts → at ≡ length items
    → GivesTold now name at room given → ReadSoFar texts name (items ++ given)
ReadSoFar-append None now name items at room given before same place gives = tt
ReadSoFar-append (Some held) now name items at room given before same place gives =
    let gives_old : GivesTold (Some held) name at room given = subst (λ t. GivesTold t name at room given) same gives in
    inr (append-one (map.get held name) items room given before (subst (λ k. GivesTold (Some held) name k room given) place gives_old))

front-whole : (text items : List ℕ) (room : ℕ) (given : List ℕ) → items ≡ take (length items) text → GivesFrom text (length items) room given → room ≡ 4096 → given ≡ [] → Some text ≡ Some items
front-whole text items room given front gives full none =
    let ended : length text ≤ length items = ⊎_elim (λ h. h) (λ h. absurd (omega arith)) (gives.none.0 none) in
    ap Some (sym (front ∙ take_all (length items) text ended))

whole-one : (text : Option (List ℕ)) (items : List ℕ) (room : ℕ) (given : List ℕ) → ((items ≡ []) ⊎ IsSomeAnd text (λ text. items ≡ take (length items) text))
    → IsSomeAnd text (λ text. GivesFrom text (length items) room given) → room ≡ 4096 → given ≡ [] → text ≡ Some items
whole-one None items room given before gives full none = absurd gives
whole-one (Some text) items room given (inl empty) gives full none = front-whole text items room given (rw empty refl) gives full none
whole-one (Some text) items room given (inr front) gives full none = front-whole text items room given front gives full none

pub ReadSoFar-whole : (texts now : Option Texts) (name items : List ℕ) (at room : ℕ) (given : List ℕ) → ReadSoFar texts name items → now ≡ texts → at ≡ length items
    → GivesTold now name at room given → room ≡ 4096 → given ≡ [] → IfSome texts (λ held. map.get held name ≡ Some items)
ReadSoFar-whole None now name items at room given before same place gives full none = tt
ReadSoFar-whole (Some held) now name items at room given before same place gives full none =
    let gives_old : GivesTold (Some held) name at room given = subst (λ t. GivesTold t name at room given) same gives in
    whole-one (map.get held name) items room given before (subst (λ k. GivesTold (Some held) name k room given) place gives_old) full none

longer-one : (text : Option (List ℕ)) (items : List ℕ) (limit : ℕ) → ((items ≡ []) ⊎ IsSomeAnd text (λ text. items ≡ take (length items) text)) → limit < length items
    → IsSomeAnd text (λ text. limit < length text)
longer-one text items limit (inl none) longer = absurd (omega (arith, ap length none))
longer-one None items limit (inr front) longer = front
longer-one (Some text) items limit (inr front) longer = omega (arith, ap length front, length-take (length items) text)

pub ReadSoFar-longer : (texts : Option Texts) (name items : List ℕ) (limit : ℕ) → ReadSoFar texts name items → limit < length items
    → IfSome texts (λ held. IsSomeAnd (map.get held name) (λ text. limit < length text))
ReadSoFar-longer None name items limit before longer = tt
ReadSoFar-longer (Some held) name items limit before longer = longer-one (map.get held name) items limit before longer
