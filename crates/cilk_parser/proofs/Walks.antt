-- A walk over tokens in two parts.
use Rattle.std.proofs.Common.{◌≡◌, Option, Some, None, option_and_then, option_map, List, [], ◌∷◌, ◌++◌, refl, ap, sym, ◌∙◌, append_assoc}
use Rattle.cilk_tree.specs.declared.token.Token.{Token}
use Rattle.cilk_tree.specs.Syntax.{Source}
use Rattle.cilk_tree.specs.Levels.{Spelled}
use Rattle.cilk_parser.specs.Run.{all_behind, reads, walk}
use Rattle.cilk_parser.specs.Steps.{State, Next, step}

-- where the machine goes behind a walk with these tokens
abbrev on_walk : List Token → Option Next → Option Next
on_walk rest walked = option_and_then (λ next. option_map (all_behind next.emitted) (walk next.state rest)) walked

none_behind : (next : Option Next) → next ≡ option_map (all_behind []) next
none_behind None = refl
none_behind (Some next) = refl

behind_twice : (first second : List Spelled) (next : Option Next) → option_map (all_behind first) (option_map (all_behind second) next) ≡ option_map (all_behind (first ++ second)) next
behind_twice first second None = refl
behind_twice first second (Some next) = ap (λ emitted. Some (record { emitted = emitted; state = next.state })) (sym (append_assoc first second next.emitted))

behind_on : (emitted : List Spelled) (rest : List Token) (next : Option Next) → option_map (all_behind emitted) (on_walk rest next) ≡ on_walk rest (option_map (all_behind emitted) next)
behind_on emitted rest None = refl
behind_on emitted rest (Some next) = behind_twice emitted next.emitted (walk next.state rest)

step_append : (tokens rest : List Token) (next : Option Next) → ((there : Next) → walk there.state (tokens ++ rest) ≡ on_walk rest (walk there.state tokens)) →
    on_walk (tokens ++ rest) next ≡ on_walk rest (on_walk tokens next)
step_append tokens rest None h = refl
step_append tokens rest (Some next) h = ap (option_map (all_behind next.emitted)) (h next) ∙ behind_on next.emitted rest (walk next.state tokens)

pub walk_append : (state : State) (tokens rest : List Token) → walk state (tokens ++ rest) ≡ option_and_then (λ next. option_map (all_behind next.emitted) (walk next.state rest)) (walk state tokens)
unfolding walk
walk_append state [] rest = none_behind (walk state rest)
walk_append state (token ∷ tokens) rest = step_append tokens rest (step state token) (λ there. walk_append there.state tokens rest)

-- what the machine reads behind a walk
abbrev pub on_reads : List Token → Option Next → Option Source
on_reads rest walked = option_and_then (λ next. reads next.state rest) walked

behind_reads : (emitted : List Spelled) (rest : List Token) (next : Option Next) → on_reads rest next ≡ on_reads rest (option_map (all_behind emitted) next)
behind_reads emitted rest None = refl
behind_reads emitted rest (Some next) = refl

step_reads : (tokens rest : List Token) (next : Option Next) → ((there : Next) → reads there.state (tokens ++ rest) ≡ on_reads rest (walk there.state tokens)) →
    on_reads (tokens ++ rest) next ≡ on_reads rest (on_walk tokens next)
step_reads tokens rest None h = refl
step_reads tokens rest (Some next) h = h next ∙ behind_reads next.emitted rest (walk next.state tokens)

reads_append : (state : State) (tokens rest : List Token) → reads state (tokens ++ rest) ≡ on_reads rest (walk state tokens)
unfolding reads walk
reads_append state [] rest = refl
reads_append state (token ∷ tokens) rest = step_reads tokens rest (step state token) (λ there. reads_append there.state tokens rest)

-- at the first token
pub reads_step : (state : State) (token : Token) (rest : List Token) → reads state (token ∷ rest) ≡ on_reads rest (step state token)
unfolding reads
reads_step state token rest = refl

-- where two states do the same at it
pub reads_same : (state other : State) (token : Token) (rest : List Token) → step state token ≡ step other token → reads state (token ∷ rest) ≡ reads other (token ∷ rest)
unfolding reads
reads_same state other token rest e = ap (on_reads rest) e

pub reads_after_walk : (state : State) (tokens rest : List Token) (next : Next) → walk state tokens ≡ Some next → reads state (tokens ++ rest) ≡ reads next.state rest
reads_after_walk state tokens rest next e = reads_append state tokens rest ∙ ap (on_reads rest) e
