-- When other tokens pass no limit and have no bad name and no bad number because those of a source do not.
use Rattle.std.proofs.Common.{◌≡◌, ℕ, ◌+◌, ◌≤◌, Bool, true, false, not, ◌&&◌, IsTrue, IsFalse, List, [], ◌∷◌, ◌++◌, refl, sym, ◌∙◌, subst, arith}
use Rattle.std.specs.Prelude.{nat_le}
use Rattle.std.specs.List.{list_all}
use Rattle.std.proofs.lemmas.Bool.{and_parts, and_from, false≢true, leb-true, le-leb}
use Rattle.std.proofs.lemmas.List.Folds.{list_all-append}
use Rattle.cilk_tree.specs.declared.token.Token.{Token}
use Rattle.cilk_tree.specs.declared.token.Token.TheVariants.{Name, Number, Word, Mark}
use Rattle.cilk_tree.specs.declared.count.Counted.{Counted}
use Rattle.cilk_tree.specs.declared.count.Count.{Count}
use Rattle.cilk_tree.specs.Counts.{limit, tally, is_long}
use Rattle.cilk_tree.specs.Levels.{Spelled, counting, plain}
use Rattle.cilk_tree.specs.Spelling.{is_shallow}
use Rattle.cilk_tree.specs.Writable.{is_token}
use Rattle.cilk_reader.proofs.Bounds.Tallies.{Stays, after, stays_begin, stays_end, stays_first, stays_second, stays_both, stays_less, Adds, adds_none, adds_token, adds_both, Begun, begun_adds, begun_both}

-- a good name or number, no name that is too long, and no level that is too deep
abbrev pub is_fine : Spelled → Bool
is_fine spelled = is_token spelled.token && not (is_long spelled.token) && is_shallow spelled

abbrev pub Fine : List Spelled → Type 0
Fine xs = IsTrue (list_all is_fine xs)

pub fine_parts : (xs ys : List Spelled) → Fine (xs ++ ys) → Fine xs × Fine ys
fine_parts xs ys h = and_parts (list_all is_fine xs) (list_all is_fine ys) (sym (list_all-append is_fine xs ys) ∙ h)

pub fine_both : (xs ys : List Spelled) → Fine xs → Fine ys → Fine (xs ++ ys)
fine_both xs ys h k = list_all-append is_fine xs ys ∙ and_from (list_all is_fine xs) (list_all is_fine ys) h k

pub fine_first : (x : Spelled) (xs : List Spelled) → Fine (x ∷ xs) → IsTrue (is_fine x)
fine_first x xs h = (and_parts (is_fine x) (list_all is_fine xs) h).0

pub fine_rest : (x : Spelled) (xs : List Spelled) → Fine (x ∷ xs) → Fine xs
fine_rest x xs h = (and_parts (is_fine x) (list_all is_fine xs) h).1

pub fine_cons : (x : Spelled) (xs : List Spelled) → IsTrue (is_fine x) → Fine xs → Fine (x ∷ xs)
fine_cons x xs h k = and_from (is_fine x) (list_all is_fine xs) h k

pub level_of_fine : (x : Spelled) → IsTrue (is_fine x) → x.level ≤ 64
level_of_fine x h = leb-true x.level 64 (and_parts (is_token x.token && not (is_long x.token)) (is_shallow x) h).1

pub fine_each : (xs ys more others : List Spelled) → (Fine xs → Fine ys) → (Fine more → Fine others) → Fine (xs ++ more) → Fine (ys ++ others)
fine_each xs ys more others first second h = let parts = fine_parts xs more h in fine_both ys others (first parts.0) (second parts.1)

-- a token at a lower level
pub fine_lower : (low high : ℕ) (first other : List Count) (token : Token) → low ≤ high → Fine (counting high first token ∷ []) → Fine (counting low other token ∷ [])
fine_lower low high first other token less h =
    let parts = and_parts (is_token token && not (is_long token)) (nat_le high 64) (fine_first (counting high first token) [] h) in
    fine_cons (counting low other token) [] (and_from (is_token token && not (is_long token)) (nat_le low 64) parts.0 (le-leb low 64 (omega (arith, leb-true high 64 parts.1)))) refl

-- ---- words and signs that count as nothing

abbrev pub is_sign : Token → Bool
is_sign (Name name) = false
is_sign (Number value) = false
is_sign (Word word) = true
is_sign (Mark sign) = true

abbrev pub at_level : ℕ → List Token → List Spelled
at_level level [] = []
at_level level (token ∷ tokens) = plain level token ∷ at_level level tokens

pub signs_add : (c : Counted) (level : ℕ) (tokens : List Token) → Adds c 0 (at_level level tokens)
signs_add c level [] = adds_none c
signs_add c level (token ∷ tokens) = adds_both c 0 0 0 (plain level token ∷ []) (at_level level tokens) refl (adds_token c 0 (plain level token) (λ n. omega arith)) (signs_add c level tokens)

pub signs_fine : (level : ℕ) (tokens : List Token) → IsTrue (list_all is_sign tokens) → level ≤ 64 → Fine (at_level level tokens)
signs_fine level [] h less = refl
signs_fine level (Name name ∷ tokens) h less = absurd (false≢true h)
signs_fine level (Number value ∷ tokens) h less = absurd (false≢true h)
signs_fine level (Word word ∷ tokens) h less = and_from _ _ (le-leb level 64 less) (signs_fine level tokens h less)
signs_fine level (Mark sign ∷ tokens) h less = and_from _ _ (le-leb level 64 less) (signs_fine level tokens h less)

-- ---- covering

-- for a count that begins anew with the source's tokens
pub record Safe (counted : Counted) (xs ys : List Spelled) : Type 0 where
  pub begun : Begun counted xs
  pub keeps : Stays counted (limit counted) xs → Stays counted (limit counted) ys

-- for a count to which both add as many
pub record Agrees (counted : Counted) (xs ys : List Spelled) : Type 0 where
  pub amount : ℕ
  pub source : Adds counted amount xs
  pub other : Adds counted amount ys

-- Where `xs` are tokens of a source that keep the rules, `ys` keep them too. `local` are the counts that begin anew in `xs`.
pub record Covers (local : Counted → Bool) (xs ys : List Spelled) : Type 0 where
  pub fine : Fine xs → Fine ys
  pub safe : (counted : Counted) → IsTrue (local counted) → Safe counted xs ys
  pub agrees : (counted : Counted) → IsFalse (local counted) → Agrees counted xs ys

pub safe_both : (c : Counted) (xs ys more others : List Spelled) → Safe c xs ys → Safe c more others → Safe c (xs ++ more) (ys ++ others)
safe_both c xs ys more others first second = record {
  begun = begun_both c xs more first.begun second.begun;
  keeps = λ h.
      let one = first.keeps (stays_first c (limit c) xs more h) in
      let two = second.keeps (second.begun (limit c) (after c (limit c) xs) (omega arith) (stays_second c (limit c) xs more h)) in
      stays_both c (limit c) ys others one (stays_less c (after c (limit c) ys) (limit c) others (stays_end c (limit c) ys one) two);
}

-- the same in the other order
pub safe_swap : (c : Counted) (xs ys more others : List Spelled) → Safe c xs ys → Safe c more others → Safe c (xs ++ more) (others ++ ys)
safe_swap c xs ys more others first second = record {
  begun = begun_both c xs more first.begun second.begun;
  keeps = λ h.
      let one = first.keeps (stays_first c (limit c) xs more h) in
      let two = second.keeps (second.begun (limit c) (after c (limit c) xs) (omega arith) (stays_second c (limit c) xs more h)) in
      stays_both c (limit c) others ys two (stays_less c (after c (limit c) others) (limit c) ys (stays_end c (limit c) others two) one);
}

module _ (local : Counted → Bool) where
  pub covers_none : (level : ℕ) (signs : List Token) → Covers local (at_level level signs) []
  covers_none level signs = record {
    fine = λ h. refl;
    safe = λ c is. record { begun = begun_adds c (at_level level signs) (signs_add c level signs); keeps = λ h. omega arith };
    agrees = λ c is. record { amount = 0; source = signs_add c level signs; other = adds_none c };
  }

  pub covers_both : (xs ys more others : List Spelled) → Covers local xs ys → Covers local more others → Covers local (xs ++ more) (ys ++ others)
  covers_both xs ys more others first second = record {
    fine = λ h. let parts = fine_parts xs more h in fine_both ys others (first.fine parts.0) (second.fine parts.1);
    safe = λ c is. safe_both c xs ys more others (first.safe c is) (second.safe c is);
    agrees = λ c is.
        let one = first.agrees c is in
        let two = second.agrees c is in
        record { amount = one.amount + two.amount; source = adds_both c _ _ _ xs more refl one.source two.source; other = adds_both c _ _ _ ys others refl one.other two.other };
  }

  pub covers_swap : (xs ys more others : List Spelled) → Covers local xs ys → Covers local more others → Covers local (xs ++ more) (others ++ ys)
  covers_swap xs ys more others first second = record {
    fine = λ h. let parts = fine_parts xs more h in fine_both others ys (second.fine parts.1) (first.fine parts.0);
    safe = λ c is. safe_swap c xs ys more others (first.safe c is) (second.safe c is);
    agrees = λ c is.
        let one = first.agrees c is in
        let two = second.agrees c is in
        record { amount = one.amount + two.amount; source = adds_both c _ _ _ xs more refl one.source two.source; other = adds_both c two.amount one.amount _ others ys (omega arith) two.other one.other };
  }

  -- Signs may be put round the other tokens, where the source has a token at their level.
  pub covers_around : (level : ℕ) (before behind : List Token) (xs ys : List Spelled) → IsTrue (list_all is_sign before) → IsTrue (list_all is_sign behind) → (Fine xs → level ≤ 64) → Covers local xs ys → Covers local xs (at_level level before ++ ys ++ at_level level behind)
  covers_around level before behind xs ys first second less covers = record {
    fine = λ h. fine_both (at_level level before ++ ys) (at_level level behind) (fine_both (at_level level before) ys (signs_fine level before first (less h)) (covers.fine h)) (signs_fine level behind second (less h));
    safe = λ c is. record {
      begun = (covers.safe c is).begun;
      keeps = λ h.
          let front = (signs_add c level before).stays (limit c) (omega arith) in
          let inner = stays_less c (after c (limit c) (at_level level before)) (limit c) ys (stays_end c (limit c) (at_level level before) front) ((covers.safe c is).keeps h) in
          let most = stays_both c (limit c) (at_level level before) ys front inner in
          stays_both c (limit c) (at_level level before ++ ys) (at_level level behind) most ((signs_add c level behind).stays _ (omega (arith, stays_end c (limit c) (at_level level before ++ ys) most)));
    };
    agrees = λ c is.
        let one = covers.agrees c is in
        record {
          amount = one.amount;
          source = one.source;
          other = adds_both c one.amount 0 one.amount (at_level level before ++ ys) (at_level level behind) (omega arith)
              (adds_both c 0 one.amount one.amount (at_level level before) ys (omega arith) (signs_add c level before) one.other) (signs_add c level behind);
        };
  }

  pub covers_same : (xs xs' ys ys' : List Spelled) → xs ≡ xs' → ys ≡ ys' → Covers local xs ys → Covers local xs' ys'
  covers_same xs xs' ys ys' source other covers = subst (λ zs. Covers local zs ys') source (subst (Covers local xs) other covers)

  -- A source's signs may be left out.
  pub covers_without_front : (level : ℕ) (signs : List Token) (xs ys : List Spelled) → Covers local xs ys → Covers local (at_level level signs ++ xs) ys
  covers_without_front level signs xs ys covers = covers_both (at_level level signs) [] xs ys (covers_none level signs) covers

  pub covers_without_end : (level : ℕ) (signs : List Token) (xs ys : List Spelled) → Covers local xs ys → Covers local (xs ++ at_level level signs) ys
  covers_without_end level signs xs ys covers = covers_swap xs ys (at_level level signs) [] covers (covers_none level signs)

  -- A token that counts as nothing may be used twice.
  pub covers_once : (x : Spelled) (level : ℕ) (token : Token) (xs ys : List Spelled) → (Fine (x ∷ []) → Fine (plain level token ∷ [])) → Covers local (x ∷ plain level token ∷ xs) ys → Covers local (x ∷ xs) ys
  covers_once x level token xs ys also covers = record {
    fine = λ h.
        let parts = fine_parts (x ∷ []) xs h in
        covers.fine (fine_both (x ∷ []) (plain level token ∷ xs) parts.0 (fine_both (plain level token ∷ []) xs (also parts.0) parts.1));
    safe = λ c is. record {
      begun = λ n m h s.
          let t = (covers.safe c is).begun n m h (s.0, (stays_begin c (tally c m x.counts) xs s.1, s.1)) in
          (t.0, t.1.1);
      keeps = λ s. (covers.safe c is).keeps (s.0, (stays_begin c (tally c (limit c) x.counts) xs s.1, s.1));
    };
    agrees = λ c is.
        let one = covers.agrees c is in
        record { amount = one.amount; source = record { stays = λ n h. let t = one.source.stays n h in (t.0, t.1.1); ends = λ n. one.source.ends n }; other = one.other };
  }
