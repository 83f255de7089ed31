-- How the counts along the tokens of a source stay within their limits.
use Rattle.std.proofs.Common.{◌≡◌, ℕ, ◌+◌, ◌≤◌, Bool, true, false, if◌then◌else◌, List, [], ◌∷◌, ◌++◌, refl, sym, ap, ◌∙◌, subst, arith}
use Rattle.cilk_tree.specs.declared.count.Counted.{Counted}
use Rattle.cilk_tree.specs.declared.count.Count.{Count}
use Rattle.cilk_tree.specs.declared.count.Count.TheVariants.{Anew, OneMore}
use Rattle.cilk_tree.specs.Counts.{is_same, tally, limit}
use Rattle.cilk_tree.specs.Levels.{Spelled}

-- how many there are after these tokens
abbrev pub after : Counted → ℕ → List Spelled → ℕ
after counted before [] = before
after counted before (spelled ∷ more) = after counted (tally counted before spelled.counts) more

-- There are no more than the limit before each of these tokens and after the last.
abbrev pub Stays : Counted → ℕ → List Spelled → Type 0
Stays counted before [] = before ≤ limit counted
Stays counted before (spelled ∷ more) = (before ≤ limit counted) × Stays counted (tally counted before spelled.counts) more

pub tally-append : (c : Counted) (n : ℕ) (counts more : List Count) → tally c n (counts ++ more) ≡ tally c (tally c n counts) more
tally-append c n [] more = refl
tally-append c n (Anew other ∷ counts) more = tally-append c (tally c n (Anew other ∷ [])) counts more
tally-append c n (OneMore other ∷ counts) more = tally-append c (tally c n (OneMore other ∷ [])) counts more

-- One more of some kind adds to any count as much as to none.
pub tally-one : (c other : Counted) (n : ℕ) → tally c n (OneMore other ∷ []) ≡ n + tally c 0 (OneMore other ∷ [])
tally-one c other n = either (is_same c other)
  where
    either : (b : Bool) → (if b then n + 1 else n) ≡ n + (if b then 0 + 1 else 0)
    either true = refl
    either false = omega arith

pub after-append : (c : Counted) (n : ℕ) (xs ys : List Spelled) → after c n (xs ++ ys) ≡ after c (after c n xs) ys
after-append c n [] ys = refl
after-append c n (x ∷ xs) ys = after-append c (tally c n x.counts) xs ys

pub stays_begin : (c : Counted) (n : ℕ) (xs : List Spelled) → Stays c n xs → n ≤ limit c
stays_begin c n [] h = h
stays_begin c n (x ∷ xs) h = h.0

pub stays_end : (c : Counted) (n : ℕ) (xs : List Spelled) → Stays c n xs → after c n xs ≤ limit c
stays_end c n [] h = h
stays_end c n (x ∷ xs) h = stays_end c (tally c n x.counts) xs h.1

pub stays_first : (c : Counted) (n : ℕ) (xs ys : List Spelled) → Stays c n (xs ++ ys) → Stays c n xs
stays_first c n [] ys h = stays_begin c n ys h
stays_first c n (x ∷ xs) ys h = (h.0, stays_first c (tally c n x.counts) xs ys h.1)

pub stays_second : (c : Counted) (n : ℕ) (xs ys : List Spelled) → Stays c n (xs ++ ys) → Stays c (after c n xs) ys
stays_second c n [] ys h = h
stays_second c n (x ∷ xs) ys h = stays_second c (tally c n x.counts) xs ys h.1

pub stays_both : (c : Counted) (n : ℕ) (xs ys : List Spelled) → Stays c n xs → Stays c (after c n xs) ys → Stays c n (xs ++ ys)
stays_both c n [] ys h k = k
stays_both c n (x ∷ xs) ys h k = (h.0, stays_both c (tally c n x.counts) xs ys h.1 k)

tally_less : (c : Counted) (n m : ℕ) (counts : List Count) → n ≤ m → tally c n counts ≤ tally c m counts
tally_less c n m [] h = h
tally_less c n m (Anew other ∷ counts) h = tally_less c (tally c n (Anew other ∷ [])) (tally c m (Anew other ∷ [])) counts (anew (is_same c other))
  where
    anew : (b : Bool) → (if b then 0 else n) ≤ (if b then 0 else m)
    anew true = omega arith
    anew false = h
tally_less c n m (OneMore other ∷ counts) h = tally_less c (tally c n (OneMore other ∷ [])) (tally c m (OneMore other ∷ [])) counts (more (is_same c other))
  where
    more : (b : Bool) → (if b then n + 1 else n) ≤ (if b then m + 1 else m)
    more true = omega arith
    more false = h

-- What stays within its limit does so from a smaller number too.
pub stays_less : (c : Counted) (n m : ℕ) (xs : List Spelled) → n ≤ m → Stays c m xs → Stays c n xs
stays_less c n m [] less h = omega arith
stays_less c n m (x ∷ xs) less h = (omega arith, stays_less c (tally c n x.counts) (tally c m x.counts) xs (tally_less c n m x.counts less) h.1)

-- ---- tokens that only add to a count

pub record Adds (counted : Counted) (amount : ℕ) (xs : List Spelled) : Type 0 where
  pub stays : (before : ℕ) → before + amount ≤ limit counted → Stays counted before xs
  pub ends : (before : ℕ) → after counted before xs ≡ before + amount

pub adds_bound : (c : Counted) (amount before : ℕ) (xs : List Spelled) → Adds c amount xs → Stays c before xs → before + amount ≤ limit c
adds_bound c amount before xs adds h = omega (arith, stays_end c before xs h, adds.ends before)

pub adds_none : (c : Counted) → Adds c 0 []
adds_none c = record { stays = λ n h. omega arith; ends = λ n. omega arith }

pub adds_token : (c : Counted) (amount : ℕ) (spelled : Spelled) → ((n : ℕ) → tally c n spelled.counts ≡ n + amount) → Adds c amount (spelled ∷ [])
adds_token c amount spelled is = record {
  stays = λ n h. (omega arith, omega (arith, is n));
  ends = is;
}

pub adds_both : (c : Counted) (m n amount : ℕ) (xs ys : List Spelled) → m + n ≡ amount → Adds c m xs → Adds c n ys → Adds c amount (xs ++ ys)
adds_both c m n amount xs ys sum first second = record {
  stays = λ before h. stays_both c before xs ys (first.stays before (omega arith)) (second.stays (after c before xs) (omega (arith, first.ends before)));
  ends = λ before. after-append c before xs ys ∙ second.ends (after c before xs) ∙ omega (arith, first.ends before);
}

-- ---- tokens for which it does not matter how many there were before

abbrev pub Begun : Counted → List Spelled → Type 0
Begun counted xs = (n m : ℕ) → n ≤ limit counted → Stays counted m xs → Stays counted n xs

pub begun_adds : (c : Counted) (xs : List Spelled) → Adds c 0 xs → Begun c xs
begun_adds c xs adds n m h s = adds.stays n (omega arith)

pub begun_both : (c : Counted) (xs ys : List Spelled) → Begun c xs → Begun c ys → Begun c (xs ++ ys)
begun_both c xs ys first second n m h s =
    let one = first n m h (stays_first c m xs ys s) in
    stays_both c n xs ys one (second (after c n xs) (after c m xs) (stays_end c n xs one) (stays_second c m xs ys s))

-- ---- tokens that do the same to a count

pub record Matches (counted : Counted) (xs ys : List Spelled) : Type 0 where
  pub stays : (before : ℕ) → Stays counted before xs → Stays counted before ys
  pub same : (before : ℕ) → after counted before xs ≡ after counted before ys

pub matches_itself : (c : Counted) (xs : List Spelled) → Matches c xs xs
matches_itself c xs = record { stays = λ n h. h; same = λ n. refl }

pub matches_both : (c : Counted) (xs ys more others : List Spelled) → Matches c xs ys → Matches c more others → Matches c (xs ++ more) (ys ++ others)
matches_both c xs ys more others first second = record {
  stays = λ n h.
      stays_both c n ys others (first.stays n (stays_first c n xs more h))
      (subst (λ k. Stays c k others) (first.same n) (second.stays (after c n xs) (stays_second c n xs more h)));
  same = λ n. after-append c n xs more ∙ second.same (after c n xs) ∙ ap (λ k. after c k others) (first.same n) ∙ sym (after-append c n ys others);
}

pub matches_adds : (c : Counted) (amount : ℕ) (xs ys : List Spelled) → Matches c xs ys → Adds c amount xs → Adds c amount ys
matches_adds c amount xs ys matches adds = record {
  stays = λ n h. matches.stays n (adds.stays n h);
  ends = λ n. sym (matches.same n) ∙ adds.ends n;
}
