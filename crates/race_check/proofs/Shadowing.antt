-- A shadow stands for the accesses of its word while they are passed in serial order, and meets the first race.
use Rattle.std.proofs.Common.{◌≡◌, ◌≢◌, ◌⊎◌, ℕ, Option, Some, None, refl, sym, ap, ◌∙◌, subst, inl, inr}
use Rattle.std.proofs.lemmas.Bool.{cases_eq, eq-eqb, ne_eqb}
use Rattle.std.specs.Prelude.{Bool, ◌==◌, true, false, if◌then◌else◌, IfSome}
use Rattle.span_tree.specs.declared.act.Place.{Place}
use Rattle.span_tree.specs.Dag.{IsBefore, IsParallel, Precedes}
use Rattle.span_tree.specs.History.{History, IsNumbered, IsPlace, serial_order}
use Rattle.span_tree.specs.Memory.{IsRace, is_access, is_change}
use Rattle.span_tree.proofs.Deciding.{one_of_three, precedes_on}
use Rattle.span_tree.proofs.Orders.{not_before_itself, one_is_first, only_places, first_is_in}
use Rattle.span_tree.proofs.ThreePlaces.{not_parallel_in_row, parallel_is_symmetric, three_places}
use Rattle.race_check.specs.declared.shadow.Shadow.{Shadow}
use Rattle.race_check.specs.Shadow.{Before, IsBeside, IsShadowOf, IsShadowed, RacesBefore, StandsFor, Upto}
use Rattle.race_check.proofs.Accesses.{is_accessed, one_word}

-- what is passed, by another name
pub same_shadowed : (h : History) (P Q : Place → Type 0) (shadow : ℕ → Shadow) → ((x : Place) → P x → Q x) → ((x : Place) → Q x → P x) → IsShadowed h P shadow → IsShadowed h Q shadow
same_shadowed h P Q shadow to from all = record { shadows = λ word. same word (all.shadows word); free = λ word x y p q race. all.free word x y (from x p) (from y q) race }
  where
    same : (word : ℕ) → IsShadowOf h P word (shadow word) → IsShadowOf h Q word (shadow word)
    same word is = record {
      writer = λ x e. (let c = is.writer x e in (to x c.0, c.1));
      reader = λ x e. (let c = is.reader x e in (to x c.0, c.1));
      changes = λ x p c y is_y later beside. is.changes x (from x p) c y is_y (λ q. later (to y q)) beside;
      reads = λ x p a c y is_y later beside. is.reads x (from x p) a c y is_y (λ q. later (to y q)) beside;
    }

race_back : (h : History) (word : ℕ) (x y : Place) → IsRace h word x y → IsRace h word y x
race_back h word x y race = record { first = race.second; second = race.first; change = back race.change; parallel = parallel_is_symmetric h x y race.parallel }
  where
    back : (is_change h word x ≡ true) ⊎ (is_change h word y ≡ true) → (is_change h word y ≡ true) ⊎ (is_change h word x ≡ true)
    back (inl c) = inr c
    back (inr c) = inl c

true_or_false : (b : Bool) → (b ≡ true) ⊎ (b ≡ false)
true_or_false true = inl refl
true_or_false false = inr refl

-- the place that is kept
kept_beside : (h : History) (kept : Option Place) (y : Place) → IsBeside h kept y → (x : Place) × (kept ≡ Some x) × IsParallel h x y
kept_beside h None y beside = absurd beside
kept_beside h (Some x) y beside = (x, refl, beside)

is_beside : (h : History) (kept : Option Place) (x y : Place) → kept ≡ Some x → IsParallel h x y → IsBeside h kept y
is_beside h kept x y e parallel = subst (λ o. IsBeside h o y) (sym e) parallel

-- `p` is the place that is next
module _ (h : History) (numbered : IsNumbered h) (p : Place) (is_p : IsPlace h p) where
  coming : ¬ Before h p p
  coming itself = not_before_itself h numbered p itself

  -- what is not passed with p comes behind it
  behind : (y : Place) → IsPlace h y → ¬ Upto h p y → IsBefore h p y
  behind y is_y later = go (one_is_first h numbered p y is_p is_y)
    where
      go : (p ≡ y) ⊎ (IsBefore h p y ⊎ IsBefore h y p) → IsBefore h p y
      go (inl same) = absurd (later (inr same))
      go (inr (inl before)) = before
      go (inr (inr after)) = absurd (later (inl after))

  -- what precedes p and is parallel to a later place leaves p parallel to that
  beside_later : (x y : Place) → Before h p x → ¬ IsParallel h x p → IsPlace h y → ¬ Upto h p y → IsParallel h x y → IsParallel h p y
  beside_later x y before apart is_y later parallel = go (one_of_three h numbered p y is_p is_y (λ same. later (inr same)))
    where
      go : IsParallel h p y ⊎ (Precedes h p y ⊎ Precedes h y p) → IsParallel h p y
      go (inl beside) = beside
      go (inr (inl precedes)) = absurd ((precedes_on h numbered x p y (before, apart) precedes).1 parallel)
      go (inr (inr after)) = absurd (later (inl after.0))

  -- what is parallel to p, and p to a later place, is parallel to that
  beside_both : (x y : Place) → Before h p x → IsParallel h x p → IsPlace h y → ¬ Upto h p y → IsParallel h p y → IsParallel h x y
  beside_both x y before beside is_y later parallel = three_places h numbered x p y before (behind y is_y later) beside parallel

  -- p stands for what precedes it, and for itself
  p_stands : (x : Place) → Before h p x → ¬ IsParallel h x p → StandsFor h (Upto h p) (Some p) x
  p_stands x before apart y is_y later parallel = beside_later x y before apart is_y later parallel

  p_itself : (x : Place) → p ≡ x → StandsFor h (Upto h p) (Some p) x
  p_itself x same y is_y later parallel = subst (λ z. IsParallel h z y) (sym same) parallel

  -- what stood for x still does
  stands_on : (kept : Option Place) (x : Place) → StandsFor h (Before h p) kept x → StandsFor h (Upto h p) kept x
  stands_on kept x stands y is_y later parallel = stands y is_y (λ before. later (inl before)) parallel

  some_place : (kept : Option Place) → ((x : Place) → kept ≡ Some x → Before h p x) → IfSome kept (IsPlace h)
  some_place None is = tt
  some_place (Some x) is = only_places h numbered x (first_is_in (serial_order h) x p (is x refl))

  module _ (word : ℕ) (shadow : Shadow) (is : IsShadowOf h (Before h p) word shadow) where
    pub writer_is_place : IfSome shadow.writer (IsPlace h)
    writer_is_place = some_place shadow.writer (λ x e. (is.writer x e).0)

    pub reader_is_place : IfSome shadow.reader (IsPlace h)
    reader_is_place = some_place shadow.reader (λ x e. (is.reader x e).0)

    -- p is no access of the word
    passes_other : is_access h word p ≡ false → IsShadowOf h (Upto h p) word shadow
    passes_other other = record {
      writer = λ x e. (let c = is.writer x e in (inl c.0, c.1));
      reader = λ x e. (let c = is.reader x e in (inl c.0, c.1));
      changes = λ x passed c. stands_on shadow.writer x (is.changes x (before x passed (is_accessed h word x c)) c);
      reads = λ x passed a c. stands_on shadow.reader x (is.reads x (before x passed a) a c);
    }
      where
        before : (x : Place) → Upto h p x → is_access h word x ≡ true → Before h p x
        before x (inl b) a = b
        before x (inr same) a = absurd (let clash : false ≡ true = sym other ∙ ap (λ z. is_access h word z) same ∙ a in cc)

    -- p is one
    module _ (accesses : is_access h word p ≡ true) where
      -- a kept access with which p races, and none where it races with none that is passed
      pub writer_races : IsBeside h shadow.writer p → RacesBefore h word p
      writer_races beside =
          let k = kept_beside h shadow.writer p beside in
          let c = is.writer k.0 k.1 in
          (k.0, c.0, record { first = is_accessed h word k.0 c.1; second = accesses; change = inl c.1; parallel = k.2 })

      reader_races : is_change h word p ≡ true → IsBeside h shadow.reader p → RacesBefore h word p
      reader_races change beside =
          let k = kept_beside h shadow.reader p beside in
          let c = is.reader k.0 k.1 in
          (k.0, c.0, record { first = c.1; second = accesses; change = inr change; parallel = k.2 })

      race_is_met : RacesBefore h word p → IsBeside h shadow.writer p ⊎ ((is_change h word p ≡ true) × IsBeside h shadow.reader p)
      race_is_met (x, before, race) = go (true_or_false (is_change h word x)) race.change
        where
          go : (is_change h word x ≡ true) ⊎ (is_change h word x ≡ false) → (is_change h word x ≡ true) ⊎ (is_change h word p ≡ true) → IsBeside h shadow.writer p ⊎ ((is_change h word p ≡ true) × IsBeside h shadow.reader p)
          go (inl change) either = inl (is.changes x before change p is_p coming race.parallel)
          go (inr read) (inl change) = absurd (let clash : false ≡ true = sym read ∙ change in cc)
          go (inr read) (inr change) = inr (change, is.reads x before race.first read p is_p coming race.parallel)

      -- what the code answers where the writer is not parallel to p
      pub met_by_reader : (b : Bool) → ¬ IsBeside h shadow.writer p → is_change h word p ≡ true → (b ≡ true → IsBeside h shadow.reader p) × (IsBeside h shadow.reader p → b ≡ true) →
          (b ≡ true → RacesBefore h word p) × (RacesBefore h word p → b ≡ true)
      met_by_reader b apart change says = (λ e. reader_races change (says.0 e), λ before. go (race_is_met before))
        where
          go : IsBeside h shadow.writer p ⊎ ((is_change h word p ≡ true) × IsBeside h shadow.reader p) → b ≡ true
          go (inl beside) = absurd (apart beside)
          go (inr met) = says.1 met.1

      pub met_by_none : ¬ IsBeside h shadow.writer p → is_change h word p ≡ false → ¬ RacesBefore h word p
      met_by_none apart read before = go (race_is_met before)
        where
          go : IsBeside h shadow.writer p ⊎ ((is_change h word p ≡ true) × IsBeside h shadow.reader p) → ⊥
          go (inl beside) = apart beside
          go (inr met) = let clash : false ≡ true = sym read ∙ met.0 in cc

      -- a change is the writer, since all changes before it precede it
      pub passes_change : is_change h word p ≡ true → ¬ RacesBefore h word p → IsShadowOf h (Upto h p) word (record { writer = Some p; reader = shadow.reader })
      passes_change change free = record {
        writer = λ x e. (let same : p ≡ x = cc in (inr same, ap (λ z. is_change h word z) (sym same) ∙ change));
        reader = λ x e. (let c = is.reader x e in (inl c.0, c.1));
        changes = λ x passed c. changes_here x passed c;
        reads = λ x passed a c. reads_here x passed a c;
      }
        where
          changes_here : (x : Place) → Upto h p x → is_change h word x ≡ true → StandsFor h (Upto h p) (Some p) x
          changes_here x (inl before) c = p_stands x before (λ parallel. free (x, before, record { first = is_accessed h word x c; second = accesses; change = inl c; parallel = parallel }))
          changes_here x (inr same) c = p_itself x same

          reads_here : (x : Place) → Upto h p x → is_access h word x ≡ true → is_change h word x ≡ false → StandsFor h (Upto h p) shadow.reader x
          reads_here x (inl before) a read = stands_on shadow.reader x (is.reads x before a read)
          reads_here x (inr same) a read = absurd (let clash : false ≡ true = sym read ∙ ap (λ z. is_change h word z) (sym same) ∙ change in cc)

      module _ (read : is_change h word p ≡ false) where
        changes_on : (x : Place) → Upto h p x → is_change h word x ≡ true → StandsFor h (Upto h p) shadow.writer x
        changes_on x (inl before) c = stands_on shadow.writer x (is.changes x before c)
        changes_on x (inr same) c = absurd (let clash : false ≡ true = sym read ∙ ap (λ z. is_change h word z) same ∙ c in cc)

        -- a reader that is parallel to p is parallel to what p is parallel to
        pub passes_parallel_read : IsBeside h shadow.reader p → IsShadowOf h (Upto h p) word shadow
        passes_parallel_read beside = record {
          writer = λ x e. (let c = is.writer x e in (inl c.0, c.1));
          reader = λ x e. (let c = is.reader x e in (inl c.0, c.1));
          changes = changes_on;
          reads = λ x passed a c. reads_here x passed a c;
        }
          where
            reads_here : (x : Place) → Upto h p x → is_access h word x ≡ true → is_change h word x ≡ false → StandsFor h (Upto h p) shadow.reader x
            reads_here x (inl before) a c = stands_on shadow.reader x (is.reads x before a c)
            reads_here x (inr same) a c = λ y is_y later parallel.
                let k = kept_beside h shadow.reader p beside in
                is_beside h shadow.reader k.0 y k.1 (beside_both k.0 y (is.reader k.0 k.1).0 k.2 is_y later (subst (λ z. IsParallel h z y) (sym same) parallel))

        -- a reader that precedes p leaves p parallel to what it is parallel to
        pub passes_later_read : ¬ IsBeside h shadow.reader p → IsShadowOf h (Upto h p) word (record { writer = shadow.writer; reader = Some p })
        passes_later_read apart = record {
          writer = λ x e. (let c = is.writer x e in (inl c.0, c.1));
          reader = λ x e. (let same : p ≡ x = cc in (inr same, ap (λ z. is_access h word z) (sym same) ∙ accesses));
          changes = changes_on;
          reads = λ x passed a c. reads_here x passed a c;
        }
          where
            reads_here : (x : Place) → Upto h p x → is_access h word x ≡ true → is_change h word x ≡ false → StandsFor h (Upto h p) (Some p) x
            reads_here x (inl before) a c = λ y is_y later parallel.
                let k = kept_beside h shadow.reader y (is.reads x before a c y is_y (λ b. later (inl b)) parallel) in
                beside_later k.0 y (is.reader k.0 k.1).0 (λ beside. apart (is_beside h shadow.reader k.0 p k.1 beside)) is_y later k.2
            reads_here x (inr same) a c = p_itself x same

  -- ---- all words

  module _ (shadow : ℕ → Shadow) (all : IsShadowed h (Before h p) shadow) where
    -- no race with p, where none is passed
    free_upto : ((word : ℕ) → ¬ RacesBefore h word p) → (word : ℕ) (x y : Place) → Upto h p x → Upto h p y → ¬ IsRace h word x y
    free_upto free word x y (inl before) (inl before') race = all.free word x y before before' race
    free_upto free word x y (inl before) (inr same) race = free word (x, before, subst (λ z. IsRace h word x z) (sym same) race)
    free_upto free word x y (inr same) (inl before) race = free word (y, before, race_back h word p y (subst (λ z. IsRace h word z y) (sym same) race))
    free_upto free word x y (inr same) (inr same') race =
        not_parallel_in_row h numbered p p is_p is_p refl (subst (λ z. IsParallel h z p) (sym same) (subst (λ z. IsParallel h x z) (sym same') race.parallel))

    -- an act that is no access
    pub passes_none : ((word : ℕ) → is_access h word p ≡ false) → IsShadowed h (Upto h p) shadow
    passes_none none = record {
      shadows = λ word. passes_other word (shadow word) (all.shadows word) (none word);
      free = free_upto (λ word before. let clash : false ≡ true = sym (none word) ∙ before.2.second in cc);
    }

    -- an access that races with none before it, and the shadow of its word then
    pub passes_access : (word : ℕ) → is_access h word p ≡ true → ¬ RacesBefore h word p → (latest : Shadow) → IsShadowOf h (Upto h p) word latest →
        (new : ℕ → Shadow) → ((w : ℕ) → new w ≡ (if word == w then latest else shadow w)) → IsShadowed h (Upto h p) new
    passes_access word accesses free latest is new updated = record {
      shadows = λ w. at w (cases_eq word w);
      free = free_upto (λ w before. free (subst (λ v. RacesBefore h v p) (one_word h p w word before.2.second accesses) before));
    }
      where
        other : (w : ℕ) → word ≢ w → (is_access h w p ≡ true) ⊎ (is_access h w p ≡ false) → is_access h w p ≡ false
        other w ne (inl a) = absurd (ne (one_word h p word w accesses a))
        other w ne (inr none) = none

        at : (w : ℕ) → (word ≡ w) ⊎ (word ≢ w) → IsShadowOf h (Upto h p) w (new w)
        at w (inl same) = subst (λ v. IsShadowOf h (Upto h p) v (new v)) same (subst (λ s. IsShadowOf h (Upto h p) word s) (sym (updated word ∙ ap (λ b. if b then latest else shadow word) (eq-eqb word word refl))) is)
        at w (inr ne) =
            subst (λ s. IsShadowOf h (Upto h p) w s) (sym (updated w ∙ ap (λ b. if b then latest else shadow w) (ne_eqb word w ne)))
            (passes_other w (shadow w) (all.shadows w) (other w ne (true_or_false (is_access h w p))))
