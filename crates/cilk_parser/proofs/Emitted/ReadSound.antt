-- What the machine reads from its start on is a well-formed source with these tokens.
use Rattle.std.proofs.Common.{◌≡◌, Option, Some, None, option_and_then, option_map, List, [], ◌∷◌, ◌++◌, map, refl, ap, sym, ◌∙◌, subst, append_assoc, append-nil}
use Rattle.std.specs.Option.{IfSome}
use Rattle.std.proofs.lemmas.List.{map-append}
use Rattle.std.proofs.lemmas.Option.{same_Some}
use Rattle.cilk_tree.specs.declared.token.Token.{Token}
use Rattle.cilk_tree.specs.Levels.{Spelled, spell_source, source_tokens}
use Rattle.cilk_tree.specs.Syntax.{Empty, Source, IsWellFormed}
use Rattle.cilk_parser.specs.Run.{all_behind, reads, walk}
use Rattle.cilk_parser.specs.Steps.{State, Items, Next, finish, pending, step}
use Rattle.cilk_parser.proofs.Emitted.SoFar.{so_far}
use Rattle.cilk_parser.proofs.Emitted.StepSound.{StepSound, step_sound}
use Rattle.cilk_parser.proofs.Emitted.Valid.{IsValid}

abbrev tokens_of : List Spelled → List Token
tokens_of spelled = map (λ s. s.token) spelled

-- ---- from any valid state on

record WalksOn (state : State) (read : List Token) (next : Next) : Type 0 where
  valid : IsValid next.state
  same : so_far next.state ≡ so_far state ++ next.emitted
  tokens : tokens_of (next.emitted ++ pending next.state) ≡ tokens_of (pending state) ++ read

joined_tokens : (first middle second end start : List Spelled) (token : Token) (tokens : List Token) → tokens_of (first ++ middle) ≡ tokens_of start ++ token ∷ [] →
    tokens_of (second ++ end) ≡ tokens_of middle ++ tokens → tokens_of (first ++ second ++ end) ≡ tokens_of start ++ token ∷ tokens
joined_tokens first middle second end start token tokens one other =
    ap tokens_of (append_assoc first second end) ∙ map-append (λ s. s.token) first (second ++ end) ∙ ap (λ t. tokens_of first ++ t) other ∙ sym (append_assoc (tokens_of first) (tokens_of middle) tokens)
    ∙ ap (λ t. t ++ tokens) (sym (map-append (λ s. s.token) first middle) ∙ one) ∙ append_assoc (tokens_of start) (token ∷ []) tokens

joined : (state : State) (token : Token) (tokens : List Token) (next : Next) → StepSound state token next → (last : Option Next) → IfSome last (WalksOn next.state tokens) →
    IfSome (option_map (all_behind next.emitted) last) (WalksOn state (token ∷ tokens))
joined state token tokens next s None h = tt
joined state token tokens next s (Some last) h = record {
  valid = h.valid;
  same = h.same ∙ ap (λ e. e ++ last.emitted) s.so_far ∙ append_assoc (so_far state) next.emitted last.emitted;
  tokens = joined_tokens next.emitted (pending next.state) last.emitted (pending last.state) (pending state) token tokens s.tokens h.tokens;
}

onward : (state : State) (token : Token) (tokens : List Token) (next : Option Next) → IfSome next (StepSound state token) →
    ((there : Next) → IsValid there.state → IfSome (walk there.state tokens) (WalksOn there.state tokens)) →
    IfSome (option_and_then (λ there. option_map (all_behind there.emitted) (walk there.state tokens)) next) (WalksOn state (token ∷ tokens))
onward state token tokens None s on = tt
onward state token tokens (Some next) s on = joined state token tokens next s (walk next.state tokens) (on next s.valid)

walks_on : (tokens : List Token) (state : State) → IsValid state → IfSome (walk state tokens) (WalksOn state tokens)
unfolding walk
walks_on [] state h = record { valid = h; same = sym (append-nil (so_far state)); tokens = sym (append-nil (tokens_of (pending state))) }
walks_on (token ∷ tokens) state h = onward state token tokens (step state token) (step_sound state token h) (λ there valid. walks_on tokens there.state valid)

-- ---- from the start on

pub record WalkSound (read : List Token) (next : Next) : Type 0 where
  pub valid : IsValid next.state
  pub so_far : so_far next.state ≡ next.emitted
  pub tokens : map (λ s. s.token) (next.emitted ++ pending next.state) ≡ read

from_start : (tokens : List Token) (next : Option Next) → IfSome next (WalksOn (Items Empty) tokens) → IfSome next (WalkSound tokens)
from_start tokens None h = tt
from_start tokens (Some next) h = record { valid = h.valid; so_far = h.same; tokens = h.tokens }

pub walk_sound : (tokens : List Token) → IfSome (walk (Items Empty) tokens) (λ next. WalkSound tokens next)
walk_sound tokens = from_start tokens (walk (Items Empty) tokens) (walks_on tokens (Items Empty) refl)

-- ---- to the end

ended : (state : State) (source : Source) → finish state ≡ Some source → state ≡ Items source
ended (Items before) source e = ap Items (same_Some before source e)
ended _ source e = absurd (cc)

-- The walk ends behind the source.
abbrev WalksTo : Option Next → Source → Type 0
WalksTo next source = (emitted : List Spelled) × (next ≡ Some (record { emitted = emitted; state = Items source }))

behind_walks : (emitted : List Spelled) (last : Option Next) (source : Source) → WalksTo last source → WalksTo (option_map (all_behind emitted) last) source
behind_walks emitted last source h = (emitted ++ h.0, ap (option_map (all_behind emitted)) h.1)

reads_walk_on : (tokens : List Token) (source : Source) (next : Option Next) → ((there : Next) → reads there.state tokens ≡ Some source → WalksTo (walk there.state tokens) source) →
    option_and_then (λ there. reads there.state tokens) next ≡ Some source → WalksTo (option_and_then (λ there. option_map (all_behind there.emitted) (walk there.state tokens)) next) source
reads_walk_on tokens source None on e = absurd (cc)
reads_walk_on tokens source (Some next) on e = behind_walks next.emitted (walk next.state tokens) source (on next e)

reads_walks : (tokens : List Token) (state : State) (source : Source) → reads state tokens ≡ Some source → WalksTo (walk state tokens) source
unfolding reads walk
reads_walks [] state source e = ([], ap (λ s. Some (record { emitted = []; state = s })) (ended state source e))
reads_walks (token ∷ tokens) state source e = reads_walk_on tokens source (step state token) (λ there read. reads_walks tokens there.state source read) e

pub record ReadSound (read : List Token) (source : Source) : Type 0 where
  pub formed : IsWellFormed source
  pub tokens : source_tokens source ≡ read
  pub walked : walk (Items Empty) read ≡ Some (record { emitted = spell_source source; state = Items source })

pub read_sound : (tokens : List Token) (source : Source) → reads (Items Empty) tokens ≡ Some source → ReadSound tokens source
read_sound tokens source e =
    let walks = reads_walks tokens (Items Empty) source e in
    let sound : WalkSound tokens (record { emitted = walks.0; state = Items source }) = subst (λ next. IfSome next (WalkSound tokens)) walks.1 (walk_sound tokens) in
    record {
      formed = sound.valid;
      tokens = ap tokens_of (sound.so_far ∙ sym (append-nil walks.0)) ∙ sound.tokens;
      walked = walks.1 ∙ ap (λ emitted. Some (record { emitted = emitted; state = Items source })) (sym sound.so_far);
    }
