-- Sources that begin with some tokens, and where the machine stands behind these.
use Rattle.std.proofs.Common.{◌≡◌, ℕ, suc, ◌<◌, ◌≤◌, Option, Some, None, option_and_then, option_map, List, [], ◌∷◌, ◌++◌, length, map, take, drop, slice_get, refl, ap, sym, ◌∙◌, subst, arith, append_assoc, append-nil, length-append, ⊎_elim}
use Rattle.std.specs.Option.{IfSome}
use Rattle.std.proofs.lemmas.List.{map-append, length-map, take-append-drop, take-take, take_at, length_push}
use Rattle.std.proofs.lemmas.Option.{none-some, same_Some}
use Rattle.std.proofs.lemmas.Bool.{cases_lt}
use Rattle.cilk_tree.specs.declared.token.Token.{Token}
use Rattle.cilk_tree.specs.Levels.{Spelled, spell_source, source_tokens}
use Rattle.cilk_tree.specs.Spelling.{BeginsWith}
use Rattle.cilk_tree.specs.Syntax.{Empty, Source, IsWellFormed}
use Rattle.cilk_parser.specs.Run.{all_behind, reads, walk}
use Rattle.cilk_parser.specs.Steps.{State, Items, Next, pending, step}
use Rattle.cilk_parser.proofs.Answered.Places.{there_in_front}
use Rattle.cilk_parser.proofs.Emitted.ReadSound.{WalkSound, walk_sound, read_sound}
use Rattle.cilk_parser.proofs.LedThrough.SourcesRead.{reads_complete}
use Rattle.cilk_parser.proofs.Emitted.StepSound.{StepSound, step_sound}
use Rattle.cilk_parser.proofs.Emitted.Valid.{IsValid}
use Rattle.cilk_parser.proofs.Walks.{walk_append}

pub same_source : (source other : Source) → IsWellFormed source → IsWellFormed other → source_tokens source ≡ source_tokens other → source ≡ other
same_source source other formed other_formed e =
    same_Some source other (sym (reads_complete source formed) ∙ ap (reads (Items Empty)) e ∙ reads_complete other other_formed)

-- what was emitted and what waits
abbrev pub all_spelled : Next → List Spelled
all_spelled next = next.emitted ++ pending next.state

-- No token is left, or the machine does not go on with the first.
abbrev pub IsStuck : State → List Token → Type 0
IsStuck state [] = Unit {0}
IsStuck state (token ∷ tokens) = step state token ≡ None

-- ---- walks from the start

abbrev pub ended : Source → List Spelled → Next
ended source emitted = record { emitted = emitted; state = Items source }

pub source_walks : (source : Source) → IsWellFormed source → walk (Items Empty) (source_tokens source) ≡ Some (ended source (spell_source source))
source_walks source formed = (read_sound (source_tokens source) source (reads_complete source formed)).walked

pub walk_is_sound : (tokens : List Token) (next : Next) → walk (Items Empty) tokens ≡ Some next → WalkSound tokens next
walk_is_sound tokens next e = subst (λ n. IfSome n (WalkSound tokens)) e (walk_sound tokens)

-- A walk over tokens in two parts goes on where the first part ends.
record GoesOn (first last : List Token) (next : Next) : Type 0 where
  middle : Next
  walked : walk (Items Empty) first ≡ Some middle
  more : Next
  goes : walk middle.state last ≡ Some more
  same : next ≡ all_behind middle.emitted more

went_further : (first last : List Token) (next middle : Next) → walk (Items Empty) first ≡ Some middle → (more : Option Next) → walk middle.state last ≡ more →
    option_map (all_behind middle.emitted) more ≡ Some next → GoesOn first last next
went_further first last next middle walked None goes e = absurd (cc)
went_further first last next middle walked (Some more) goes e = record { middle = middle; walked = walked; more = more; goes = goes; same = sym (same_Some (all_behind middle.emitted more) next e) }

went_on : (first last : List Token) (next : Next) (walked : Option Next) → walk (Items Empty) first ≡ walked →
    option_and_then (λ n. option_map (all_behind n.emitted) (walk n.state last)) walked ≡ Some next → GoesOn first last next
went_on first last next None walked e = absurd (cc)
went_on first last next (Some middle) walked e = went_further first last next middle walked (walk middle.state last) refl e

goes_on : (first last : List Token) (next : Next) → walk (Items Empty) (first ++ last) ≡ Some next → GoesOn first last next
goes_on first last next e = went_on first last next (walk (Items Empty) first) refl (sym (walk_append (Items Empty) first last) ∙ e)

pub goes_behind : (first last : List Token) (next more : Next) → walk (Items Empty) first ≡ Some next → walk next.state last ≡ Some more → walk (Items Empty) (first ++ last) ≡ Some (all_behind next.emitted more)
goes_behind first last next more e g =
    walk_append (Items Empty) first last ∙ ap (option_and_then (λ n. option_map (all_behind n.emitted) (walk n.state last))) e ∙ ap (option_map (all_behind next.emitted)) g

pub same_tokens : (tokens : List Token) (next : Next) → walk (Items Empty) tokens ≡ Some next → map (λ s. s.token) (all_spelled next) ≡ tokens
same_tokens tokens next e = (walk_is_sound tokens next e).tokens

pub same_size : (tokens : List Token) (next : Next) → walk (Items Empty) tokens ≡ Some next → length (all_spelled next) ≡ length tokens
same_size tokens next e = sym (length-map (all_spelled next) (λ s. s.token)) ∙ ap length (same_tokens tokens next e)

pub same_next : (tokens : List Token) (next other : Next) → walk (Items Empty) tokens ≡ Some next → walk (Items Empty) tokens ≡ Some other → next ≡ other
same_next tokens next other e o = same_Some next other (sym e ∙ o)

-- ---- levels

abbrev pub levels : List Spelled → List ℕ
levels spelled = map (λ s. s.level) spelled

-- A walk keeps the levels of the tokens that waited.
record LevelsOn (state : State) (next : Next) : Type 0 where
  more : List ℕ
  same : levels (all_spelled next) ≡ levels (pending state) ++ more

levels_append : (first last : List Spelled) → levels (first ++ last) ≡ levels first ++ levels last
levels_append first last = map-append (λ s. s.level) first last

joined_levels : (first middle second end start : List Spelled) (level : ℕ) (more : List ℕ) → levels (first ++ middle) ≡ levels start ++ level ∷ [] → levels (second ++ end) ≡ levels middle ++ more →
    levels (first ++ second ++ end) ≡ levels start ++ level ∷ more
joined_levels first middle second end start level more one other =
    ap levels (append_assoc first second end) ∙ levels_append first (second ++ end) ∙ ap (λ l. levels first ++ l) other ∙ sym (append_assoc (levels first) (levels middle) more)
    ∙ ap (λ l. l ++ more) (sym (levels_append first middle) ∙ one) ∙ append_assoc (levels start) (level ∷ []) more

levels_joined : (state : State) (token : Token) (next : Next) → StepSound state token next → (last : Option Next) → IfSome last (LevelsOn next.state) →
    IfSome (option_map (all_behind next.emitted) last) (LevelsOn state)
levels_joined state token next s None h = tt
levels_joined state token next s (Some last) h = record {
  more = s.levels.0 ∷ h.more;
  same = joined_levels next.emitted (pending next.state) last.emitted (pending last.state) (pending state) s.levels.0 h.more s.levels.1 h.same;
}

levels_onward : (state : State) (token : Token) (tokens : List Token) (next : Option Next) → IfSome next (StepSound state token) →
    ((there : Next) → IsValid there.state → IfSome (walk there.state tokens) (LevelsOn there.state)) →
    IfSome (option_and_then (λ there. option_map (all_behind there.emitted) (walk there.state tokens)) next) (LevelsOn state)
levels_onward state token tokens None s on = tt
levels_onward state token tokens (Some next) s on = levels_joined state token next s (walk next.state tokens) (on next s.valid)

levels_on : (tokens : List Token) (state : State) → IsValid state → IfSome (walk state tokens) (LevelsOn state)
unfolding walk
levels_on [] state h = record { more = []; same = sym (append-nil (levels (pending state))) }
levels_on (token ∷ tokens) state h = levels_onward state token tokens (step state token) (step_sound state token h) (λ there valid. levels_on tokens there.state valid)

behind_levels : (middle more : Next) → LevelsOn middle.state more → (rest : List ℕ) × (levels (all_spelled (all_behind middle.emitted more)) ≡ levels (all_spelled middle) ++ rest)
behind_levels middle more h = (
  h.more,
  ap levels (append_assoc middle.emitted more.emitted (pending more.state)) ∙ levels_append middle.emitted (all_spelled more) ∙ ap (λ l. levels middle.emitted ++ l) h.same
      ∙ sym (append_assoc (levels middle.emitted) (levels (pending middle.state)) h.more) ∙ ap (λ l. l ++ h.more) (sym (levels_append middle.emitted (pending middle.state))),
)

middle_level : (first last : List Token) (next : Next) (h : GoesOn first last next) (place : ℕ) → place < length first → slice_get (levels (all_spelled next)) place ≡ slice_get (levels (all_spelled h.middle)) place
middle_level first last next h place less =
    let on : LevelsOn h.middle.state h.more = subst (λ n. IfSome n (LevelsOn h.middle.state)) h.goes (levels_on last h.middle.state (walk_is_sound first h.middle h.walked).valid) in
    let parts = behind_levels h.middle h.more on in
    let size : length (levels (all_spelled h.middle)) ≡ length first = length-map (all_spelled h.middle) (λ s. s.level) ∙ same_size first h.middle h.walked in
    ap (λ n. slice_get (levels (all_spelled n)) place) h.same ∙ ap (λ l. slice_get l place) parts.1 ∙ there_in_front (levels (all_spelled h.middle)) parts.0 place (omega (arith, size))

-- The tokens up to a place fix its level.
same_level : (first last other : List Token) (next others : Next) → walk (Items Empty) (first ++ last) ≡ Some next → walk (Items Empty) (first ++ other) ≡ Some others →
    (place : ℕ) → place < length first → slice_get (levels (all_spelled next)) place ≡ slice_get (levels (all_spelled others)) place
same_level first last other next others e o place less =
    let one = goes_on first last next e in
    let two = goes_on first other others o in
    middle_level first last next one place less ∙ ap (λ n. slice_get (levels (all_spelled n)) place) (same_next first one.middle two.middle one.walked two.walked)
    ∙ sym (middle_level first other others two place less)

-- ---- sources that begin so

begun_walks : (source : Source) (front : List Token) (begins : BeginsWith source front) → walk (Items Empty) (front ++ begins.rest) ≡ Some (ended source (spell_source source))
begun_walks source front begins = ap (walk (Items Empty)) (sym begins.same) ∙ source_walks source begins.formed

pub begins_walks : (source : Source) (front : List Token) → BeginsWith source front → (next : Next) × (walk (Items Empty) front ≡ Some next)
begins_walks source front begins =
    let h = goes_on front begins.rest (ended source (spell_source source)) (begun_walks source front begins) in
    (h.middle, h.walked)

-- What was emitted is the same in each.
pub spelled_behind : (source : Source) (front : List Token) (next : Next) → BeginsWith source front → walk (Items Empty) front ≡ Some next → (more : List Spelled) × (spell_source source ≡ next.emitted ++ more)
spelled_behind source front next begins e =
    let h = goes_on front begins.rest (ended source (spell_source source)) (begun_walks source front begins) in
    (h.more.emitted, ap (λ n. n.emitted) h.same ∙ ap (λ n. n.emitted ++ h.more.emitted) (same_next front h.middle next h.walked e))

-- So are the levels.
pub source_level : (source : Source) (first last : List Token) (next : Next) → BeginsWith source first → walk (Items Empty) (first ++ last) ≡ Some next →
    (place : ℕ) → place < length first → slice_get (levels (spell_source source)) place ≡ slice_get (levels (all_spelled next)) place
source_level source first last next begins e place less =
    ap (λ s. slice_get (levels s) place) (sym (append-nil (spell_source source)))
    ∙ same_level first begins.rest last (ended source (spell_source source)) next (begun_walks source first begins) e place less

-- Walking on to an end makes such a source.
pub record Made (front : List Token) (next : Next) (source : Source) (more : List Spelled) : Type 0 where
  pub begins : BeginsWith source front
  pub same : spell_source source ≡ next.emitted ++ more

pub made : (front rest : List Token) (next : Next) (source : Source) (more : List Spelled) → walk (Items Empty) front ≡ Some next → walk next.state rest ≡ Some (ended source more) → Made front next source more
made front rest next source more e g =
    let sound = walk_is_sound (front ++ rest) (ended source (next.emitted ++ more)) (goes_behind front rest next (ended source more) e g) in
    record {
      begins = record { formed = sound.valid; rest = rest; same = ap (map (λ s. s.token)) (sound.so_far ∙ sym (append-nil (next.emitted ++ more))) ∙ sound.tokens };
      same = sound.so_far;
    }

pub begins_less : (source : Source) (tokens : List Token) (less more : ℕ) → less ≤ more → BeginsWith source (take more tokens) → BeginsWith source (take less tokens)
begins_less source tokens less more h begins =
    let front = take more tokens in
    record {
      formed = begins.formed;
      rest = drop less front ++ begins.rest;
      same = begins.same ∙ ap (λ t. t ++ begins.rest) (sym (take-append-drop less front) ∙ ap (λ t. t ++ drop less front) (take-take less more tokens h)) ∙ append_assoc (take less tokens) (drop less front) begins.rest;
    }

not_taken : (state : State) (token : Token) → step state token ≡ None → walk state (token ∷ []) ≡ None
unfolding walk
not_taken state token e = ap (option_and_then (λ there. option_map (all_behind there.emitted) (walk there.state []))) e

one_more : (front left : List Token) (token : Token) → take (suc (length front)) (front ++ token ∷ left) ≡ front ++ token ∷ []
one_more front left token =
    ap (take (suc (length front))) (sym (append_assoc front (token ∷ []) left)) ∙ take_at (front ++ token ∷ []) left (suc (length front)) (omega (arith, length_push front token))

stuck_ends : (front : List Token) (token : Token) (next walked : Next) → walk (Items Empty) front ≡ Some next → step next.state token ≡ None → GoesOn front (token ∷ []) walked → ⊥
stuck_ends front token next walked e stuck h =
    none-some h.more (sym (not_taken next.state token stuck) ∙ ap (λ n. walk n.state (token ∷ [])) (same_next front next h.middle e h.walked) ∙ h.goes)

not_further : (source : Source) (front left : List Token) (token : Token) (next : Next) → walk (Items Empty) front ≡ Some next → step next.state token ≡ None →
    BeginsWith source (take (suc (length front)) (front ++ token ∷ left)) → ⊥
not_further source front left token next e stuck begins =
    let walks = begins_walks source (front ++ token ∷ []) (subst (BeginsWith source) (one_more front left token) begins) in
    stuck_ends front token next walks.0 e stuck (goes_on front (token ∷ []) walks.0 walks.1)

-- None begins with more tokens than the machine takes.
pub stuck_front : (source : Source) (front left : List Token) (next : Next) (seen : ℕ) → walk (Items Empty) front ≡ Some next → IsStuck next.state left →
    seen ≤ length (front ++ left) → BeginsWith source (take seen (front ++ left)) → seen ≤ length front
stuck_front source front [] next seen e stuck inside begins = omega (arith, length-append front [])
stuck_front source front (token ∷ left) next seen e stuck inside begins =
    ⊎_elim (λ (less : length front < seen). absurd (not_further source front left token next e stuck (begins_less source (front ++ token ∷ left) (suc (length front)) seen less begins))) (λ h. h)
    (cases_lt (length front) seen)
