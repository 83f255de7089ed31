-- Behind `=` the machine judges a name with the token behind it: what it answers is what it answers where the name is judged at once.
use Rattle.std.proofs.Common.{◌≡◌, ℕ, Bool, true, false, ◌||◌, nat_lt, if◌then◌else◌, IsTrue, Option, Some, None, option_map, List, [], ◌∷◌, refl, ap, sym, ◌∙◌}
use Rattle.std.proofs.lemmas.Bool.{false≢true}
use Rattle.cilk_tree.specs.declared.count.Count.TheVariants.{Anew}
use Rattle.cilk_tree.specs.declared.count.Counted.TheVariants.{Operators, Arguments}
use Rattle.cilk_tree.specs.declared.kind.Kind.{Kind}
use Rattle.cilk_tree.specs.declared.kind.Kind.TheVariants.{Unexpected, TooDeep, TooMany}
use Rattle.cilk_tree.specs.declared.token.Placed.{Placed}
use Rattle.cilk_tree.specs.declared.token.Sign.TheVariants.{OpenParen}
use Rattle.cilk_tree.specs.declared.token.Token.{Token}
use Rattle.cilk_tree.specs.declared.token.Token.TheVariants.{Name, Mark}
use Rattle.cilk_tree.specs.Counts.{is_long}
use Rattle.cilk_tree.specs.Levels.{Spelled, counting, plain}
use Rattle.cilk_tree.specs.Syntax.{Variable}
use Rattle.cilk_parser.specs.declared.parser.End.{End}
use Rattle.cilk_parser.specs.declared.tallies.Tallies.{Tallies}
use Rattle.cilk_parser.specs.Contexts.{RightIn, right_level, ResultOf, ValueOf}
use Rattle.cilk_parser.specs.Spots.{is_sign}
use Rattle.cilk_parser.specs.Run.{Answer, Refused, Tallied, Within, Over, Reading, at_end, if_within, judge, judge_on, judge_token, run, run_judged, run_step}
use Rattle.cilk_parser.specs.Steps.{AtArguments, AtRight, AfterRightName, Awaits, CallOpen, Has, Wants, Next, behind, is_mark, step}
use Rattle.cilk_parser.specs.Tally.{is_over}
use Rattle.cilk_parser.proofs.Signs.{same_sign}

-- ---- one more token before those judged

-- What is judged behind a token that was within is judged as if it came alone.
judged_behind : (spelled : Spelled) (next : Next) (placed second : Placed) (on : Reading → Answer) (judged : Tallied) →
    run_judged (behind spelled next) (placed ∷ second ∷ []) on judged ≡ run_judged next (second ∷ []) on judged
judged_behind spelled next placed second on (Within t) = refl
judged_behind spelled next placed second on (Over kind offset) = refl

-- ---- a count anew

not_over : (a b c d e f : Bool) → (a || b || c || d || e || f) ≡ false → (false || b || c || d || e || f) ≡ false
not_over true b c d e f h = absurd (cc)
not_over false b c d e f h = h

anew_within : (t : Tallies) → is_over t ≡ false → is_over (record t { operators = 0 }) ≡ false
anew_within t within = not_over (nat_lt 256 t.operators) (nat_lt 16 t.parameters) (nat_lt 16 t.arguments) (nat_lt 256 t.variables) (nat_lt 1024 t.arrays) (nat_lt 1024 t.functions) within

same_test : (deep many : Bool) (one other : Tallies) (offset : ℕ) (answer : Answer) →
    if_within (judge_on (if deep then Over TooDeep offset else if many then Over TooMany offset else Within one) Within) answer
    ≡ if_within (if deep then Over TooDeep offset else if many then Over TooMany offset else Within other) answer
same_test true many one other offset answer = refl
same_test false true one other offset answer = refl
same_test false false one other offset answer = refl

-- A token that counts the operators anew is judged as one that counts as nothing.
harmless : (t : Tallies) (level : ℕ) (token : Token) (placed : Placed) (answer : Answer) → is_over t ≡ false →
    if_within (judge t (plain level token ∷ []) (placed ∷ [])) answer ≡ if_within (judge_token t (counting level (Anew Operators ∷ []) token) placed.offset) answer
harmless t level token placed answer within =
    ap (λ over. if_within (judge_on (if nat_lt 64 level then Over TooDeep placed.offset else if over || is_long token then Over TooMany placed.offset else Within t) Within) answer) within
    ∙ same_test (nat_lt 64 level) (is_long token) t (record t { operators = 0 }) placed.offset answer
    ∙ ap (λ over. if_within (if nat_lt 64 level then Over TooDeep placed.offset else if over || is_long token then Over TooMany placed.offset else Within (record t { operators = 0 })) answer) (sym (anew_within t within))

-- ---- behind the name

no_call : (outer : RightIn) (name : List ℕ) (token : Token) → is_mark OpenParen token ≡ false →
    step (AfterRightName outer name) token ≡ option_map (behind (counting (right_level outer) (Anew Operators ∷ []) (Name name))) (step (Has (ValueOf outer) (Variable name)) token)
unfolding step
no_call outer name (Mark OpenParen) other = absurd (cc)
no_call outer name _ other = refl

module _ (outer : RightIn) (name : List ℕ) (end : End) (t : Tallies) (placed : Placed) (within : is_over t ≡ false) where
  ends_behind : (judged : Tallied) → judge_token t (counting (right_level outer) (Anew Operators ∷ []) (Name name)) placed.offset ≡ judged →
      run end (record { state = AfterRightName outer name; tallies = t; waiting = placed ∷ [] }) []
      ≡ run_judged (record { emitted = counting (right_level outer) (Anew Operators ∷ []) (Name name) ∷ []; state = Has (ValueOf outer) (Variable name) }) (placed ∷ []) (λ r. run end r []) (judge_on judged Within)
  unfolding run
  ends_behind (Within later) is = harmless t (right_level outer) (Name name) placed (at_end end None) within ∙ ap (λ j. if_within j (at_end end None)) is
  ends_behind (Over kind offset) is = harmless t (right_level outer) (Name name) placed (at_end end None) within ∙ ap (λ j. if_within j (at_end end None)) is

  steps_behind : (second : Placed) (rest : List Placed) (next : Option Next) (judged : Tallied) → judge_token t (counting (right_level outer) (Anew Operators ∷ []) (Name name)) placed.offset ≡ judged →
      run_step (record { state = AfterRightName outer name; tallies = t; waiting = placed ∷ [] }) second (λ r. run end r rest) (option_map (behind (counting (right_level outer) (Anew Operators ∷ []) (Name name))) next)
      ≡ run_judged (record { emitted = counting (right_level outer) (Anew Operators ∷ []) (Name name) ∷ []; state = Has (ValueOf outer) (Variable name) }) (placed ∷ []) (λ r. run_step r second (λ r. run end r rest) next) (judge_on judged Within)
  steps_behind second rest None (Within later) is = harmless t (right_level outer) (Name name) placed (Refused Unexpected second.offset) within ∙ ap (λ j. if_within j (Refused Unexpected second.offset)) is
  steps_behind second rest None (Over kind offset) is = harmless t (right_level outer) (Name name) placed (Refused Unexpected second.offset) within ∙ ap (λ j. if_within j (Refused Unexpected second.offset)) is
  steps_behind second rest (Some next) (Within later) is =
      ap (λ j. run_judged (behind (counting (right_level outer) (Anew Operators ∷ []) (Name name)) next) (placed ∷ second ∷ []) (λ r. run end r rest) (judge_on j (λ n. judge n next.emitted (second ∷ [])))) is
      ∙ judged_behind (counting (right_level outer) (Anew Operators ∷ []) (Name name)) next placed second (λ r. run end r rest) (judge later next.emitted (second ∷ []))
  steps_behind second rest (Some next) (Over kind offset) is =
      ap (λ j. run_judged (behind (counting (right_level outer) (Anew Operators ∷ []) (Name name)) next) (placed ∷ second ∷ []) (λ r. run end r rest) (judge_on j (λ n. judge n next.emitted (second ∷ [])))) is

  -- where no parenthesis stands behind the name
  behind_name : (rest : List Placed) → is_sign OpenParen rest ≡ false →
      run end (record { state = AfterRightName outer name; tallies = t; waiting = placed ∷ [] }) rest
      ≡ run_judged (record { emitted = counting (right_level outer) (Anew Operators ∷ []) (Name name) ∷ []; state = Has (ValueOf outer) (Variable name) }) (placed ∷ []) (λ r. run end r rest)
      (judge_on (judge_token t (counting (right_level outer) (Anew Operators ∷ []) (Name name)) placed.offset) Within)
  unfolding run
  behind_name [] absent = ends_behind (judge_token t (counting (right_level outer) (Anew Operators ∷ []) (Name name)) placed.offset) refl
  behind_name (second ∷ rest) absent =
      ap (run_step (record { state = AfterRightName outer name; tallies = t; waiting = placed ∷ [] }) second (λ r. run end r rest)) (no_call outer name second.token absent)
      ∙ steps_behind second rest (step (Has (ValueOf outer) (Variable name)) second.token) (judge_token t (counting (right_level outer) (Anew Operators ∷ []) (Name name)) placed.offset) refl

-- At a name the machine waits.
waits : (outer : RightIn) (name : List ℕ) (end : End) (t : Tallies) (placed : Placed) (rest : List Placed) → placed.token ≡ Name name →
    run end (record { state = AtRight outer; tallies = t; waiting = [] }) (placed ∷ rest) ≡ run end (record { state = AfterRightName outer name; tallies = t; waiting = placed ∷ [] }) rest
unfolding run step
waits outer name end t placed rest is = ap (λ token. run_step (record { state = AtRight outer; tallies = t; waiting = [] }) placed (λ r. run end r rest) (step (AtRight outer) token)) is

wants_name : (outer : RightIn) (name : List ℕ) (end : End) (t : Tallies) (placed : Placed) (rest : List Placed) → placed.token ≡ Name name →
    run end (record { state = Wants (ValueOf outer); tallies = t; waiting = [] }) (placed ∷ rest)
    ≡ run_judged (record { emitted = counting (right_level outer) (Anew Operators ∷ []) (Name name) ∷ []; state = Has (ValueOf outer) (Variable name) }) (placed ∷ []) (λ r. run end r rest)
    (judge_on (judge_token t (counting (right_level outer) (Anew Operators ∷ []) (Name name)) placed.offset) Within)
unfolding run step
wants_name outer name end t placed rest is = ap (λ token. run_step (record { state = Wants (ValueOf outer); tallies = t; waiting = [] }) placed (λ r. run end r rest) (step (Wants (ValueOf outer)) token)) is

-- A name that begins no call is the first of a value.
pub name_of_value : (outer : RightIn) (name : List ℕ) (end : End) (t : Tallies) (placed : Placed) (rest : List Placed) → is_over t ≡ false → placed.token ≡ Name name → is_sign OpenParen rest ≡ false →
    run end (record { state = AtRight outer; tallies = t; waiting = [] }) (placed ∷ rest) ≡ run end (record { state = Wants (ValueOf outer); tallies = t; waiting = [] }) (placed ∷ rest)
name_of_value outer name end t placed rest within is absent =
    waits outer name end t placed rest is ∙ behind_name outer name end t placed within rest absent ∙ sym (wants_name outer name end t placed rest is)

-- ---- a call

paren_behind : (outer : RightIn) (name : List ℕ) (end : End) (t : Tallies) (placed second : Placed) (rest : List Placed) → second.token ≡ Mark OpenParen →
    run end (record { state = AfterRightName outer name; tallies = t; waiting = placed ∷ [] }) (second ∷ rest)
    ≡ run_judged (record { emitted = plain (right_level outer) (Name name) ∷ counting (right_level outer) (Anew Arguments ∷ []) (Mark OpenParen) ∷ []; state = AtArguments (ResultOf outer) false name }) (placed ∷ second ∷ []) (λ r. run end r rest)
    (judge_on (judge_token t (plain (right_level outer) (Name name)) placed.offset) (λ n. judge n (counting (right_level outer) (Anew Arguments ∷ []) (Mark OpenParen) ∷ []) (second ∷ [])))
unfolding run step
paren_behind outer name end t placed second rest is =
    ap (λ token. run_step (record { state = AfterRightName outer name; tallies = t; waiting = placed ∷ [] }) second (λ r. run end r rest) (step (AfterRightName outer name) token)) is

paren_awaited : (outer : RightIn) (name : List ℕ) (end : End) (t : Tallies) (second : Placed) (rest : List Placed) → second.token ≡ Mark OpenParen →
    run end (record { state = Awaits (CallOpen (ResultOf outer) false name); tallies = t; waiting = [] }) (second ∷ rest)
    ≡ run_judged (record { emitted = counting (right_level outer) (Anew Arguments ∷ []) (Mark OpenParen) ∷ []; state = AtArguments (ResultOf outer) false name }) (second ∷ []) (λ r. run end r rest)
    (judge t (counting (right_level outer) (Anew Arguments ∷ []) (Mark OpenParen) ∷ []) (second ∷ []))
unfolding run step
paren_awaited outer name end t second rest is =
    ap (λ token. run_step (record { state = Awaits (CallOpen (ResultOf outer) false name); tallies = t; waiting = [] }) second (λ r. run end r rest) (step (Awaits (CallOpen (ResultOf outer) false name)) token)) is

-- A name that was passed before a parenthesis begins a call.
pub name_of_call : (outer : RightIn) (name : List ℕ) (end : End) (t later : Tallies) (placed : Placed) (rest : List Placed) → placed.token ≡ Name name → IsTrue (is_sign OpenParen rest) →
    judge_token t (plain (right_level outer) (Name name)) placed.offset ≡ Within later →
    run end (record { state = AtRight outer; tallies = t; waiting = [] }) (placed ∷ rest) ≡ run end (record { state = Awaits (CallOpen (ResultOf outer) false name); tallies = later; waiting = [] }) rest
name_of_call outer name end t later placed [] is there judged = absurd (false≢true there)
name_of_call outer name end t later placed (second ∷ rest) is there judged =
    let paren = sym (same_sign (Mark OpenParen) second.token there) in
    waits outer name end t placed (second ∷ rest) is
    ∙ paren_behind outer name end t placed second rest paren
    ∙ ap (λ j. run_judged (record { emitted = plain (right_level outer) (Name name) ∷ counting (right_level outer) (Anew Arguments ∷ []) (Mark OpenParen) ∷ []; state = AtArguments (ResultOf outer) false name }) (placed ∷ second ∷ []) (λ r. run end r rest)
    (judge_on j (λ n. judge n (counting (right_level outer) (Anew Arguments ∷ []) (Mark OpenParen) ∷ []) (second ∷ [])))) judged
    ∙ judged_behind (plain (right_level outer) (Name name)) (record { emitted = counting (right_level outer) (Anew Arguments ∷ []) (Mark OpenParen) ∷ []; state = AtArguments (ResultOf outer) false name }) placed second (λ r. run end r rest)
    (judge later (counting (right_level outer) (Anew Arguments ∷ []) (Mark OpenParen) ∷ []) (second ∷ []))
    ∙ sym (paren_awaited outer name end later second rest paren)

-- One that was refused there is refused.
pub name_of_call_over : (outer : RightIn) (name : List ℕ) (end : End) (t : Tallies) (placed : Placed) (rest : List Placed) (kind : Kind) (offset : ℕ) → placed.token ≡ Name name → IsTrue (is_sign OpenParen rest) →
    judge_token t (plain (right_level outer) (Name name)) placed.offset ≡ Over kind offset → run end (record { state = AtRight outer; tallies = t; waiting = [] }) (placed ∷ rest) ≡ Refused kind offset
name_of_call_over outer name end t placed [] kind offset is there judged = absurd (false≢true there)
name_of_call_over outer name end t placed (second ∷ rest) kind offset is there judged =
    waits outer name end t placed (second ∷ rest) is
    ∙ paren_behind outer name end t placed second rest (sym (same_sign (Mark OpenParen) second.token there))
    ∙ ap (λ j. run_judged (record { emitted = plain (right_level outer) (Name name) ∷ counting (right_level outer) (Anew Arguments ∷ []) (Mark OpenParen) ∷ []; state = AtArguments (ResultOf outer) false name }) (placed ∷ second ∷ []) (λ r. run end r rest)
    (judge_on j (λ n. judge n (counting (right_level outer) (Anew Arguments ∷ []) (Mark OpenParen) ∷ []) (second ∷ [])))) judged
