-- A queue: what is pushed is popped in order, once each.
use Rattle.std.proofs.Common.{◌≡◌, ℕ, zero, suc, ◌<◌, ◌≤◌, Bool, true, false, cond, List, [], ◌∷◌, ◌++◌, refl, sym, ◌∙◌, subst, arith}
use Rattle.backer_order.specs.Moments.{rest_of, queue, Head}
use Rattle.backer_order.proofs.Search.{Less3, Same3, More3, compare}

-- strictly rising from lo, below n
abbrev pub Rising : ℕ → List ℕ → ℕ → Type 0
Rising lo [] n = lo ≤ n
Rising lo (x ∷ xs) n = (lo ≤ x) × Rising (suc x) xs n

rising-bound : (lo : ℕ) (l : List ℕ) (n : ℕ) → Rising lo l n → lo ≤ n
rising-bound lo [] n r = r
rising-bound lo (x ∷ xs) n r = let b = rising-bound (suc x) xs n r.1 in omega arith

rising-more : (lo : ℕ) (l : List ℕ) (n : ℕ) → Rising lo l n → Rising lo l (suc n)
rising-more lo [] n r = omega arith
rising-more lo (x ∷ xs) n r = (r.0, rising-more (suc x) xs n r.1)

rising-push : (lo : ℕ) (l : List ℕ) (n : ℕ) → Rising lo l n → Rising lo (l ++ n ∷ []) (suc n)
rising-push lo [] n r = (r, omega arith)
rising-push lo (x ∷ xs) n r = (r.0, rising-push (suc x) xs n r.1)

rising-low : (lo lo' : ℕ) (l : List ℕ) (n : ℕ) → lo ≤ lo' → Rising lo' l n → Rising lo l n
rising-low lo lo' [] n h r = omega arith
rising-low lo lo' (x ∷ xs) n h r = (omega (arith, r.0), r.1)

rising-rest : (lo : ℕ) (l : List ℕ) (n : ℕ) → Rising lo l n → Rising lo (rest_of l) n
rising-rest lo [] n r = r
rising-rest lo (x ∷ xs) n r = rising-low lo (suc x) xs n (omega (arith, r.0)) r.1

choose : (P : List ℕ → Type 0) (b : Bool) (x y : List ℕ) → P x → P y → P (cond b x y)
choose P true x y p q = p
choose P false x y p q = q

abbrev pub EachIn : (ℕ → Type 0) → List ℕ → Type 0
EachIn P [] = Unit {0}
EachIn P (x ∷ xs) = P x × EachIn P xs

each_push : (P : ℕ → Type 0) (l : List ℕ) (n : ℕ) → EachIn P l → P n → EachIn P (l ++ n ∷ [])
each_push P [] n e h = (h, tt)
each_push P (x ∷ xs) n e h = (e.0, each_push P xs n e.1 h)

each_rest : (P : ℕ → Type 0) (l : List ℕ) → EachIn P l → EachIn P (rest_of l)
each_rest P [] e = e
each_rest P (x ∷ xs) e = e.1

module _ (push pop : ℕ → Bool) where
  step : (lo n : ℕ) (l : List ℕ) → Rising lo l n → Rising lo (cond (pop n) (rest_of l) (cond (push n) (l ++ n ∷ []) l)) (suc n)
  step lo n l r =
      choose (λ x. Rising lo x (suc n)) (pop n) (rest_of l) (cond (push n) (l ++ n ∷ []) l)
      (rising-more lo (rest_of l) n (rising-rest lo l n r))
      (choose (λ x. Rising lo x (suc n)) (push n) (l ++ n ∷ []) l (rising-push lo l n r) (rising-more lo l n r))

  pub queue-rising : (n : ℕ) → Rising 0 (queue push pop n) n
  unfolding queue
  queue-rising zero = omega arith
  queue-rising (suc n) = step 0 n (queue push pop n) (queue-rising n)

  -- what is popped was pushed before
  pub head-before : (r t : ℕ) → Head push pop r t → t < r
  head-before r t a =
      let o : Rising 0 (t ∷ a.rest) r = subst (λ l. Rising 0 l r) a.is (queue-rising r) in
      let b = rising-bound (suc t) a.rest r o.1 in omega arith

  pushed_on : (n : ℕ) (b : Bool) (l : List ℕ) → push n ≡ b → EachIn (λ i. push i ≡ true) l →
      EachIn (λ i. push i ≡ true) (cond b (l ++ n ∷ []) l)
  pushed_on n true l is e = each_push (λ i. push i ≡ true) l n e is
  pushed_on n false l is e = e

  pushed : (n : ℕ) → EachIn (λ i. push i ≡ true) (queue push pop n)
  unfolding queue
  pushed zero = tt
  pushed (suc n) =
      let e = pushed n in
      choose (λ x. EachIn (λ i. push i ≡ true) x) (pop n) (rest_of (queue push pop n)) (cond (push n) (queue push pop n ++ n ∷ []) (queue push pop n))
      (each_rest (λ i. push i ≡ true) (queue push pop n) e) (pushed_on n (push n) (queue push pop n) refl e)

  pub head-pushed : (r t : ℕ) → Head push pop r t → push t ≡ true
  head-pushed r t a =
      let o : EachIn (λ i. push i ≡ true) (t ∷ a.rest) = subst (λ l. EachIn (λ i. push i ≡ true) l) a.is (pushed r) in
      o.0

  -- a later list has only later entries
  pub later : (r t n : ℕ) → pop r ≡ true → Head push pop r t → r < n → Rising (suc t) (queue push pop n) n
  unfolding queue
  later r t zero k a l = absurd (omega arith)
  later r t (suc n) k a l = elim (compare r n) [
    | Less3 l' ↦ step (suc t) n (queue push pop n) (later r t n k a l')
    | More3 l' ↦ absurd (omega arith)
    | Same3 same ↦
        let k' : pop n ≡ true = subst (λ x. pop x ≡ true) same k in
        let o' : queue push pop n ≡ t ∷ a.rest = subst (λ x. queue push pop x ≡ t ∷ a.rest) same a.is in
        let o : Rising 0 (t ∷ a.rest) n = subst (λ l. Rising 0 l n) o' (queue-rising n) in
        rw (k', o') (rising-more (suc t) a.rest n o.1)
  ]

  pub once : (r r' t : ℕ) → pop r ≡ true → pop r' ≡ true → Head push pop r t → Head push pop r' t → r ≡ r'
  once r r' t k k' a a' = elim (compare r r') [
    | Same3 same ↦ same
    | Less3 l ↦
        let o : Rising (suc t) (t ∷ a'.rest) r' = subst (λ l. Rising (suc t) l r') a'.is (later r t r' k a l) in
        absurd (omega (arith, o.0))
    | More3 l ↦
        let o : Rising (suc t) (t ∷ a.rest) r = subst (λ l. Rising (suc t) l r) a.is (later r' t r k' a' l) in
        absurd (omega (arith, o.0))
  ]

  pub head-same : (r t t' : ℕ) → Head push pop r t → Head push pop r t' → t ≡ t'
  head-same r t t' a a' = let e : (t ∷ a.rest) ≡ (t' ∷ a'.rest) = sym a.is ∙ a'.is in cc
