-- What the limits that the machine judges say of the faults at the places so far.
use Rattle.std.proofs.Common.{◌≡◌, ◌⊎◌, inl, inr, ⊎_elim, ℕ, zero, suc, ◌<◌, ◌≤◌, Bool, true, false, ◌||◌, Some, option_map, List, [], ◌∷◌, ◌++◌, length, map, take, drop, slice_get, refl, ap, sym, ◌∙◌, subst, arith, append_assoc, length-append}
use Rattle.std.specs.Prelude.{nat_lt}
use Rattle.std.proofs.lemmas.Bool.{false≢true, or_cases, or_parts, ltb-true, lt-ltb, cases_lt, or_from, or_left, or_right}
use Rattle.std.proofs.lemmas.List.{take-append-drop, take-append-le, take_at, length-take-le}
use Rattle.std.proofs.lemmas.Option.{none-some, same_Some, slice_get-map, slice_get_within}
use Rattle.cilk_tree.specs.declared.kind.Kind.{Kind}
use Rattle.cilk_tree.specs.declared.kind.Kind.TheVariants.{BadByte, BadNumber, Unexpected, TooDeep, TooMany}
use Rattle.cilk_tree.specs.declared.token.Keyword.TheVariants as word
use Rattle.cilk_tree.specs.declared.token.Token.{Token}
use Rattle.cilk_tree.specs.declared.token.Token.TheVariants.{Name}
use Rattle.cilk_tree.specs.declared.count.Count.TheVariants.{Anew}
use Rattle.cilk_tree.specs.declared.count.Counted.TheVariants.{Operators}
use Rattle.cilk_tree.specs.Counts.{is_long, passes_limit}
use Rattle.cilk_tree.specs.Kind.{kind_number}
use Rattle.cilk_tree.specs.Levels.{Spelled, plain, word_at, spell_source, source_tokens}
use Rattle.cilk_tree.specs.Spelling.{BeginsWith, IsUnexpected, IsTooDeep, IsTooMany, IsTokenFault, passes}
use Rattle.cilk_tree.specs.Syntax.{Empty, Source}
use Rattle.cilk_parser.specs.declared.tallies.Tallies.{Tallies}
use Rattle.cilk_parser.specs.Contexts.{right_level}
use Rattle.cilk_parser.specs.Run.{walk}
use Rattle.cilk_parser.specs.Steps.{State, Items, AfterInt, AfterIntName, AfterRightName, Next, pending}
use Rattle.cilk_parser.specs.Tally.{all_counted_on, is_over, none_counted}
use Rattle.cilk_parser.proofs.Begun.{IsStuck, Made, all_spelled, begins_less, levels, made, same_size, same_tokens, source_level, spelled_behind, stuck_front}
use Rattle.cilk_parser.proofs.CanEnd.Ends.{Ends, state_ends}
use Rattle.cilk_parser.proofs.CanEnd.Harmless.{CanEndHarmless, can_end_harmless}
use Rattle.cilk_parser.proofs.JudgedLate.Judging.{AreKept, IsPassed, Keeps, is_too_many, kept_not_over, kept_there, tallies_behind}
use Rattle.cilk_parser.proofs.JudgedLate.Limits.{anew_passes, counted_append, counts_of, nothing_passes, passes_limit_over, passes_there}
use Rattle.cilk_parser.proofs.Answered.Places.{Stands, InFront, Behind, some_there, split_there, stands_where, there_behind, there_behind_front, there_in_front}

-- Nothing is wrong with the token at the place.
abbrev pub IsClean : List Token → ℕ → Type 0
IsClean tokens place = (kind : Kind) → IsTokenFault tokens place kind → ⊥

mapped_there : {T O : Type 0} (f : T → O) (items : List T) (place : ℕ) (image : O) → slice_get (map f items) place ≡ Some image → (item : T) × (slice_get items place ≡ Some item) × (f item ≡ image)
mapped_there f [] place image e = absurd (cc)
mapped_there f (item ∷ items) zero image e = (item, refl, same_Some (f item) image e)
mapped_there f (item ∷ items) (suc place) image e = mapped_there f items place image e

-- ---- what a source passes at a place

-- the token there, behind the first ones
passes_at : (source : Source) (place : ℕ) (there : Spelled) → slice_get (spell_source source) place ≡ Some there →
    (X : Bool) × (slice_get (passes [] (spell_source source)) place ≡ Some (X || is_long there.token)) × ((there.counts ≡ []) ⊎ (there.counts ≡ Anew Operators ∷ []) → X ≡ false)
passes_at source place there e =
    let h = split_there (spell_source source) place there e in
    let here = passes_limit (counts_of h.first) there.counts in (
      here,
      ap (λ s. slice_get (passes [] s) place) h.same
          ∙ subst (λ p. slice_get (passes [] (h.first ++ there ∷ h.last)) p ≡ Some (here || is_long there.token)) h.size (passes_there [] h.first there h.last),
      ⊎_elim (λ (none : there.counts ≡ []). ap (passes_limit (counts_of h.first)) none ∙ nothing_passes (counts_of h.first))
          (λ (anew : there.counts ≡ Anew Operators ∷ []). ap (passes_limit (counts_of h.first)) anew ∙ anew_passes (counts_of h.first)),
    )

passes_behind : (source : Source) (first : List Spelled) (there : Spelled) (last : List Spelled) → spell_source source ≡ first ++ there ∷ last → is_over (tallies_behind none_counted first) ≡ false →
    slice_get (passes [] (spell_source source)) (length first) ≡ Some (is_too_many (tallies_behind none_counted first) there)
passes_behind source first there last same within =
    ap (λ s. slice_get (passes [] s) (length first)) same ∙ passes_there [] first there last
    ∙ ap (λ b. Some (b || is_long there.token)) (passes_limit_over (counts_of first) there.counts within ∙ ap is_over (counted_append none_counted (counts_of first) there.counts))

pending_counts : (state : State) (place : ℕ) (there : Spelled) → slice_get (pending state) place ≡ Some there → there.counts ≡ []
pending_counts (AfterInt before) zero there e = sym (ap (λ s. s.counts) (same_Some (word_at 0 word.Int) there e))
pending_counts (AfterIntName before name) zero there e = sym (ap (λ s. s.counts) (same_Some (word_at 0 word.Int) there e))
pending_counts (AfterIntName before name) (suc zero) there e = sym (ap (λ s. s.counts) (same_Some (plain 0 (Name name)) there e))
pending_counts (AfterRightName outer name) zero there e = sym (ap (λ s. s.counts) (same_Some (plain (right_level outer) (Name name)) there e))
pending_counts state place there e = absurd (cc)

module _ (front left : List Token) (next : Next) (walked : walk (Items Empty) front ≡ Some next) where
  abbrev tokens : List Token
  tokens = front ++ left

  -- ---- sources that begin with the front

  begins_there : (source : Source) (seen : ℕ) → seen ≤ length front → BeginsWith source front → BeginsWith source (take seen tokens)
  begins_there source seen h begins = begins_less source tokens seen (length front) h (subst (BeginsWith source) (sym (take_at front left (length front) refl)) begins)

  begins_front : (source : Source) (seen : ℕ) → length front ≤ seen → BeginsWith source (take seen tokens) → BeginsWith source front
  begins_front source seen h begins = subst (BeginsWith source) (take_at front left (length front) refl) (begins_less source tokens (length front) seen h begins)

  abbrev ends : Ends next.state
  ends = state_ends next.state

  some_source : Made front next ends.source ends.emitted
  some_source = made front ends.tokens next ends.source ends.emitted walked ends.walked

  level_there : (source : Source) (place : ℕ) → place < length front → BeginsWith source (take (suc place) tokens) →
      slice_get (levels (spell_source source)) place ≡ slice_get (levels (all_spelled next)) place
  level_there source place less begins =
      let first = take (suc place) tokens in
      let joined = ap (λ t. t ++ drop (suc place) front) (take-append-le (suc place) front left less) ∙ take-append-drop (suc place) front in
      let size = length-take-le (suc place) tokens (omega (arith, length-append front left)) in
      source_level source first (drop (suc place) front) next begins (ap (walk (Items Empty)) joined ∙ walked) place (omega (arith, size))

  -- ---- faults that are not there

  expected : (place : ℕ) → place < length front → IsUnexpected tokens place → ⊥
  expected place less h = h.1 ends.source (begins_there ends.source (suc place) less some_source.begins)

  not_deep : (place : ℕ) (there : Spelled) → place < length front → slice_get (all_spelled next) place ≡ Some there → nat_lt 64 there.level ≡ false → IsTooDeep tokens place → ⊥
  not_deep place there less at shallow h =
      let same =
      sym (slice_get-map (λ s. s.level) (spell_source h.source) place ∙ ap (option_map (λ s. s.level)) h.there) ∙ level_there h.source place less h.begins
      ∙ slice_get-map (λ s. s.level) (all_spelled next) place ∙ ap (option_map (λ s. s.level)) at
      in
      false≢true (sym shallow ∙ ap (nat_lt 64) (sym (same_Some h.spelled.level there.level same)) ∙ lt-ltb 64 h.spelled.level h.deep)

  -- a source that begins with the front and with as many tokens as another does
  both_begin : (source : Source) (seen : ℕ) → BeginsWith source (take seen tokens) → (other : Source) × BeginsWith other front × BeginsWith other (take seen tokens)
  both_begin source seen begins =
      ⊎_elim (λ (more : length front < seen). (source, begins_front source seen (omega arith) begins, begins))
      (λ (less : seen ≤ length front). (ends.source, some_source.begins, begins_there ends.source seen less some_source.begins)) (cases_lt (length front) seen)

  -- no token waits, or the machine does not go on
  abbrev pub IsDone : Type 0
  IsDone = (pending next.state ≡ []) ⊎ IsStuck next.state left

  -- The token there, where those before it keep the limits.
  module _ (first : List Spelled) (there : Spelled) (last : List Spelled) (same : all_spelled next ≡ first ++ there ∷ last) (before : AreKept none_counted first) where
    abbrev old : Tallies
    old = tallies_behind none_counted first

    abbrev is_count_over : Bool
    is_count_over = is_over (all_counted_on old there.counts)

    within_before : is_over (tallies_behind none_counted first) ≡ false
    within_before = kept_not_over none_counted first refl before

    there_is : slice_get (all_spelled next) (length first) ≡ Some there
    there_is = ap (λ s. slice_get s (length first)) same ∙ there_behind first there last

    inside_front : length first < length front
    inside_front = omega (arith, slice_get_within (all_spelled next) (length first) there there_is, same_size front next walked)

    -- where its counts are known
    passes_emitted : (rest : List Spelled) → next.emitted ≡ first ++ there ∷ rest → (source : Source) → BeginsWith source front →
        slice_get (passes [] (spell_source source)) (length first) ≡ Some (is_too_many old there)
    passes_emitted rest emitted source begins =
        let behind = spelled_behind source front next begins walked in
        passes_behind source first there (rest ++ behind.0) (behind.1 ∙ ap (λ s. s ++ behind.0) emitted ∙ append_assoc first (there ∷ rest) behind.0) within_before

    not_many_emitted : (rest : List Spelled) → next.emitted ≡ first ++ there ∷ rest → is_too_many old there ≡ false →
        IsTooMany tokens (length first) → ⊥
    not_many_emitted rest emitted within h =
        let other = both_begin h.source h.seen h.begins in
        false≢true (sym within ∙ same_Some (is_too_many old there) true (sym (passes_emitted rest emitted other.0 other.1) ∙ h.passed other.0 other.2))

    -- where the token waits, and turns out to pass no limit
    there_harmless : (between : List Spelled) → first ≡ next.emitted ++ between → (harmless : CanEndHarmless next.state (length between) there) →
        slice_get (spell_source harmless.source) (length first) ≡ Some harmless.there
    there_harmless between first_is harmless =
        ap (λ s. slice_get s (length first)) (made front harmless.tokens next harmless.source harmless.emitted walked harmless.walked).same
        ∙ ap (slice_get (next.emitted ++ harmless.emitted)) (ap length first_is ∙ length-append next.emitted between)
        ∙ there_behind_front next.emitted harmless.emitted (length between) ∙ harmless.same

    passes_harmless : (between : List Spelled) → first ≡ next.emitted ++ between → is_long there.token ≡ false → (harmless : CanEndHarmless next.state (length between) there) →
        slice_get (passes [] (spell_source harmless.source)) (length first) ≡ Some false
    passes_harmless between first_is short harmless =
        let passed = passes_at harmless.source (length first) harmless.there (there_harmless between first_is harmless) in
        passed.1 ∙ ap Some (or_from passed.0 (is_long harmless.there.token) (passed.2 harmless.harmless) (ap is_long harmless.token ∙ short))

    not_many_pending : (between : List Spelled) → first ≡ next.emitted ++ between → pending next.state ≡ between ++ there ∷ last → IsStuck next.state left → is_long there.token ≡ false →
        IsTooMany tokens (length first) → ⊥
    not_many_pending between first_is waits stuck short h =
        let harmless = can_end_harmless next.state (length between) there (ap (λ s. slice_get s (length between)) waits ∙ there_behind between there last) in
        let begins = (made front harmless.tokens next harmless.source harmless.emitted walked harmless.walked).begins in
        let seen = stuck_front h.source front left next h.seen walked stuck h.inside h.begins in
        false≢true (same_Some false true (sym (passes_harmless between first_is short harmless) ∙ h.passed harmless.source (begins_there harmless.source h.seen seen begins)))

    -- ---- faults that are there

    deep : nat_lt 64 there.level ≡ true → IsTooDeep tokens (length first)
    deep h =
        let begins = begins_there ends.source (suc (length first)) inside_front some_source.begins in
        let level =
        level_there ends.source (length first) inside_front begins ∙ slice_get-map (λ s. s.level) (all_spelled next) (length first) ∙ ap (option_map (λ s. s.level)) there_is
        in
        let spelled = mapped_there (λ s. s.level) (spell_source ends.source) (length first) there.level level in
        record {
          inside = omega (arith, inside_front, length-append front left);
          source = ends.source;
          begins = begins;
          spelled = spelled.0;
          there = spelled.1;
          deep = ltb-true 64 spelled.0.level (ap (nat_lt 64) spelled.2 ∙ h);
        }

    -- which every source with the front passes
    many : ((source : Source) → BeginsWith source front → slice_get (passes [] (spell_source source)) (length first) ≡ Some true) → IsTooMany tokens (length first)
    many passed = record {
      seen = length front;
      behind = inside_front;
      inside = omega (arith, length-append front left);
      source = ends.source;
      begins = begins_there ends.source (length front) (omega arith) some_source.begins;
      passed = λ other begins. passed other (begins_front other (length front) (omega arith) begins);
    }

    token_there : (source : Source) → BeginsWith source front → slice_get (source_tokens source) (length first) ≡ Some there.token
    token_there source begins =
        ap (λ t. slice_get t (length first)) begins.same ∙ there_in_front front begins.rest (length first) inside_front ∙ ap (λ t. slice_get t (length first)) (sym (same_tokens front next walked))
        ∙ slice_get-map (λ s. s.token) (all_spelled next) (length first) ∙ ap (option_map (λ s. s.token)) there_is

    passes_long : is_long there.token ≡ true → (source : Source) (spelled : Spelled) → slice_get (spell_source source) (length first) ≡ Some spelled → spelled.token ≡ there.token →
        slice_get (passes [] (spell_source source)) (length first) ≡ Some true
    passes_long h source spelled at same_token =
        let passed = passes_at source (length first) spelled at in
        passed.1 ∙ ap Some (or_right passed.0 (is_long spelled.token) (ap is_long same_token ∙ h))

    long : is_long there.token ≡ true → IsTooMany tokens (length first)
    long h = many λ source begins.
        let spelled = mapped_there (λ s. s.token) (spell_source source) (length first) there.token (token_there source begins) in
        passes_long h source spelled.0 spelled.1 spelled.2

    over_emitted : (rest : List Spelled) → next.emitted ≡ first ++ there ∷ rest → is_too_many old there ≡ true →
        IsTooMany tokens (length first)
    over_emitted rest emitted over = many λ source begins. passes_emitted rest emitted source begins ∙ ap Some over

    -- ---- where the tokens before were judged

    not_many : Keeps old there → IsDone → Stands first there last next.emitted (pending next.state) → IsTooMany tokens (length first) → ⊥
    not_many keeps done (InFront rest emitted) h = not_many_emitted rest emitted keeps.counts h
    not_many keeps (inl settled) (Behind between first_is waits) h =
        none-some there (ap (λ s. slice_get s (length between)) (sym settled ∙ waits) ∙ there_behind between there last)
    not_many keeps (inr stuck) (Behind between first_is waits) h =
        not_many_pending between first_is waits stuck (or_parts is_count_over (is_long there.token) keeps.counts).1 h

    kept_clean : Keeps old there → IsDone → IsClean tokens (length first)
    kept_clean keeps done BadByte h = h
    kept_clean keeps done BadNumber h = h
    kept_clean keeps done Unexpected h = expected (length first) inside_front h
    kept_clean keeps done TooDeep h = not_deep (length first) there inside_front there_is keeps.level h
    kept_clean keeps done TooMany h = not_many keeps done (stands_where first there last next.emitted (pending next.state) (sym same)) h

    over_many : is_count_over ≡ true → Stands first there last next.emitted (pending next.state) → IsTooMany tokens (length first)
    over_many over (InFront rest emitted) =
        over_emitted rest emitted (or_left is_count_over (is_long there.token) over)
    over_many over (Behind between first_is waits) =
        let none = pending_counts next.state (length between) there (ap (λ s. slice_get s (length between)) waits ∙ there_behind between there last) in
        absurd (false≢true (sym within_before ∙ ap (λ c. is_over (all_counted_on old c)) (sym none) ∙ over))

    pub passed_fault : (kind : Kind) → IsPassed old there kind → IsTokenFault tokens (length first) kind
    passed_fault BadByte h = h
    passed_fault BadNumber h = h
    passed_fault Unexpected h = absurd h
    passed_fault TooDeep h = deep h
    passed_fault TooMany h =
        ⊎_elim (λ (over : is_count_over ≡ true). over_many over (stands_where first there last next.emitted (pending next.state) (sym same)))
        (λ (name : is_long there.token ≡ true). long name)
        (or_cases is_count_over (is_long there.token) h.1)

    -- the kinds of faults at one place come in the order in which they are judged
    pub passed_least : (kind : Kind) → IsPassed old there kind → (other : Kind) → IsTokenFault tokens (length first) other → kind_number kind ≤ kind_number other
    passed_least BadByte h other fault = absurd h
    passed_least BadNumber h other fault = absurd h
    passed_least Unexpected h other fault = absurd h
    passed_least kind h BadByte fault = absurd fault
    passed_least kind h BadNumber fault = absurd fault
    passed_least kind h Unexpected fault = absurd (expected (length first) inside_front fault)
    passed_least TooDeep h TooDeep fault = omega arith
    passed_least TooDeep h TooMany fault = omega arith
    passed_least TooMany h TooDeep fault = absurd (not_deep (length first) there inside_front there_is h.0 fault)
    passed_least TooMany h TooMany fault = omega arith

  pub front_clean : (kept rest : List Spelled) → all_spelled next ≡ kept ++ rest → AreKept none_counted kept → IsDone → (place : ℕ) → place < length kept → IsClean tokens place
  front_clean kept rest same keeps done place less =
      let there = some_there kept place less in
      let h = split_there kept place there.0 there.1 in
      let parts = kept_there none_counted h.first there.0 h.last (subst (AreKept none_counted) h.same keeps) in
      subst (IsClean tokens) h.size
      (kept_clean h.first there.0 (h.last ++ rest) (same ∙ ap (λ s. s ++ rest) h.same ∙ append_assoc h.first (there.0 ∷ h.last) rest) parts.0 parts.1 done)

  pub stuck_unexpected : (token : Token) (more : List Token) → left ≡ token ∷ more → IsStuck next.state left → IsUnexpected tokens (length front)
  stuck_unexpected token more e stuck =
      let inside : length front < length tokens = omega (arith, length-append front left, ap length e) in
      (inside, λ source begins. absurd (omega (arith, stuck_front source front left next (suc (length front)) walked stuck inside begins)))
