-- The first of a queue is told by counting: as many were popped before its popping as were pushed before its pushing.
use Rattle.std.proofs.Common.{◌≡◌, ℕ, zero, suc, ◌+◌, ◌<◌, ◌≤◌, List, [], ◌∷◌, ◌++◌, Bool, true, false, cond, length, refl, sym, ◌∙◌, ap, subst, length-append, arith}
use Rattle.backer_order.specs.Moments.{rest_of, queue, Head}
use Rattle.backer_order.proofs.Search.{Less3, Same3, More3, compare}

-- how many positions before one are such
abbrev pub count : (ℕ → Bool) → ℕ → ℕ
count such zero = 0
count such (suc now) = cond (such now) (suc (count such now)) (count such now)

count_next : (such : ℕ → Bool) (now : ℕ) → count such now ≤ count such (suc now)
count_next such now = on (such now)
  where
    on : (b : Bool) → count such now ≤ cond b (suc (count such now)) (count such now)
    on true = omega (arith)
    on false = omega (arith)

count_here : (such : ℕ → Bool) (now : ℕ) → such now ≡ true → count such (suc now) ≡ suc (count such now)
count_here such now is = rw is refl

pub count_less : (such : ℕ → Bool) (one now : ℕ) → one < now → such one ≡ true → count such one < count such now
count_less such one zero less is = absurd (omega (arith, less))
count_less such one (suc now) less is = on (count_less such one now)
  where
    on : (one < now → such one ≡ true → count such one < count such now) → count such one < count such (suc now)
    on before = elim (compare one now) [
      | Less3 smaller ↦ (let rest = before smaller is in let next = count_next such now in omega (arith, rest, next))
      | Same3 same ↦ (let next = count_here such one is in subst (λ it. count such one < count such (suc it)) same (omega (arith, next)))
      | More3 more ↦ absurd (omega (arith, less, more))
    ]

-- two that are such, with as many before the one as before the other, are one
pub same_count : (such : ℕ → Bool) (one other : ℕ) → such one ≡ true → such other ≡ true → count such one ≡ count such other → one ≡ other
same_count such one other is is' same = elim (compare one other) [
  | Less3 less ↦ (let smaller = count_less such one other less is in absurd (omega (arith, smaller, same)))
  | Same3 equal ↦ equal
  | More3 more ↦ (let smaller = count_less such other one more is' in absurd (omega (arith, smaller, same)))
]

-- ---- the queue

-- before each of the list as many were pushed as before the one in front of it, and one more
abbrev Ranked : (ℕ → Bool) → ℕ → List ℕ → Type 0
Ranked push rank [] = Unit {0}
Ranked push rank (first ∷ rest) = (count push first ≡ rank) × Ranked push (suc rank) rest

ranked_push : (push : ℕ → Bool) (rank now : ℕ) (list : List ℕ) → Ranked push rank list → rank + length list ≡ count push now
    → Ranked push rank (list ++ now ∷ [])
ranked_push push rank now [] ranked total = (omega (arith, total), tt)
ranked_push push rank now (first ∷ list) ranked total = (ranked.0, ranked_push push (suc rank) now list (ranked.1) (omega (arith, total)))

ranked_pop : (push : ℕ → Bool) (rank oldest : ℕ) (list rest : List ℕ) → list ≡ oldest ∷ rest → Ranked push rank list → Ranked push (suc rank) (rest_of list)
ranked_pop push rank oldest [] rest is ranked = absurd (cc)
ranked_pop push rank oldest (first ∷ list) rest is ranked = ranked.1

total_pop : (rank oldest pushed : ℕ) (list rest : List ℕ) → list ≡ oldest ∷ rest → rank + length list ≡ pushed → suc rank + length (rest_of list) ≡ pushed
total_pop rank oldest pushed [] rest is total = absurd (cc)
total_pop rank oldest pushed (first ∷ list) rest is total = omega (arith, total)

total_push : (rank now pushed : ℕ) (list : List ℕ) → rank + length list ≡ pushed → rank + length (list ++ now ∷ []) ≡ suc pushed
total_push rank now pushed list total = let sum = length-append list (now ∷ []) in omega (arith, sum, total)

-- What is popped was owed, and nothing is pushed where something is popped.
module _ (push pop : ℕ → Bool) (apart : (at : ℕ) → pop at ≡ true → push at ≡ false)
    (owed : (at : ℕ) → pop at ≡ true → (oldest : ℕ) × Head push pop at oldest) where
  abbrev line : ℕ → List ℕ
  line now = queue push pop now

  abbrev Lined : ℕ → Type 0
  Lined now = Ranked push (count pop now) (line now) × (count pop now + length (line now) ≡ count push now)

  lined : (now : ℕ) → Lined now
  unfolding queue
  lined zero = (tt, refl)
  lined (suc now) = on (pop now) refl (push now) refl (lined now)
    where
      on : (b : Bool) → pop now ≡ b → (c : Bool) → push now ≡ c → Lined now → Lined (suc now)
      on true popped c pushed before =
          let head = owed now popped in
          let none = apart now popped in
          rw (popped, none) (
            ranked_pop push (count pop now) (head.0) (line now) (head.1.rest) (head.1.is) (before.0),
            total_pop (count pop now) (head.0) (count push now) (line now) (head.1.rest)
                (head.1.is) (before.1),
          )
      on false kept true pushed before =
          rw (kept, pushed) (
            ranked_push push (count pop now) now (line now) (before.0) (before.1),
            total_push (count pop now) now (count push now) (line now) (before.1),
          )
      on false kept false none before = rw (kept, none) before

  -- as many were popped before it is popped as were pushed before it was pushed
  pub head_count : (now oldest : ℕ) → Head push pop now oldest → count pop now ≡ count push oldest
  head_count now oldest head = on (line now) (head.is) ((lined now).0)
    where
      on : (list : List ℕ) → list ≡ oldest ∷ head.rest → Ranked push (count pop now) list → count pop now ≡ count push oldest
      on [] is ranked = absurd (cc)
      on (first ∷ list) is ranked = let same : first ≡ oldest = cc in sym (ranked.0) ∙ ap (count push) same
