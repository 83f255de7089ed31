-- What the machine answers on the tokens of a text.
use Rattle.std.specs.Prelude.{ℕ, ◌||◌, nat_lt, Option, Some, None, if◌then◌else◌, option_and_then, option_map, List, [], ◌∷◌, ◌++◌, length, drop}
use Rattle.cilk_tree.specs.declared.ending.Ending.TheVariants.{Reached, Stopped}
use Rattle.cilk_tree.specs.declared.kind.Kind.{Kind}
use Rattle.cilk_tree.specs.declared.kind.Kind.TheVariants.{Unexpected, TooDeep, TooMany}
use Rattle.cilk_tree.specs.declared.token.Placed.{Placed}
use Rattle.cilk_tree.specs.declared.token.Token.{Token}
use Rattle.cilk_tree.specs.Counts.{is_long}
use Rattle.cilk_tree.specs.Levels.{Spelled}
use Rattle.cilk_tree.specs.Syntax.{Source}
use Rattle.cilk_parser.specs.declared.parser.End.{End}
use Rattle.cilk_parser.specs.declared.tallies.Tallies.{Tallies}
use Rattle.cilk_parser.specs.Tally.{all_counted_on, is_over}
use Rattle.cilk_parser.specs.Steps.{State, Next, step, finish, pending}

-- ---- levels and counts judged

-- The tokens keep the limits, and these are the counts behind them; or one does not, for this reason and at this offset.
pub data Tallied : Type 0 where
  Within : (tallies : Tallies) → Tallied
  Over : (kind : Kind) (offset : ℕ) → Tallied

-- A level above 64 comes before a count above its limit.
abbrev pub judge_token : Tallies → Spelled → ℕ → Tallied
judge_token t spelled offset =
    if nat_lt 64 spelled.level then Over TooDeep offset
    else if is_over (all_counted_on t spelled.counts) || is_long spelled.token then Over TooMany offset
    else Within (all_counted_on t spelled.counts)

abbrev pub judge_on : Tallied → (Tallies → Tallied) → Tallied
judge_on (Within t) on = on t
judge_on (Over kind offset) on = Over kind offset

-- the tokens in order, each with its place
abbrev pub judge : Tallies → List Spelled → List Placed → Tallied
judge t [] places = Within t
judge t (spelled ∷ more) [] = Within t
judge t (spelled ∷ more) (placed ∷ places) = judge_on (judge_token t spelled placed.offset) (λ next. judge next more places)

-- ---- answers

pub data Answer : Type 0 where
  Accepted : (source : Source) → Answer
  Refused : (kind : Kind) (offset : ℕ) → Answer

-- the answer where the tokens end
abbrev pub at_end : End → Option Source → Answer
at_end end source = elim end.ending as (λ _. Answer) [ Reached ↦ elim source as (λ _. Answer) [ Some read ↦ Accepted read | None ↦ Refused Unexpected end.size ] | Stopped kind place ↦ Refused kind place ]

-- the answer, where the tokens that wait to be judged keep the limits
abbrev pub if_within : Tallied → Answer → Answer
if_within (Within t) answer = answer
if_within (Over kind offset) answer = Refused kind offset

-- Where the machine is in a text: its state, the counts, and the places of the tokens that wait to be judged.
pub record Reading : Type 0 where
  pub state : State
  pub tallies : Tallies
  pub waiting : List Placed

-- the reading after a step that judged these
abbrev pub read_on : State → Tallies → List Spelled → List Placed → Reading
read_on state t emitted waiting = record { state = state; tallies = t; waiting = drop (length emitted) waiting }

-- behind a token, with what was judged, and with how to go on from the next reading
abbrev pub run_judged : Next → List Placed → (Reading → Answer) → Tallied → Answer
run_judged next waiting on (Over kind offset) = Refused kind offset
run_judged next waiting on (Within t) = on (read_on next.state t next.emitted waiting)

-- with what `step` answered at the token
abbrev pub run_step : Reading → Placed → (Reading → Answer) → Option Next → Answer
run_step reading placed on None = if_within (judge reading.tallies (pending reading.state) reading.waiting) (Refused Unexpected placed.offset)
run_step reading placed on (Some next) =
    run_judged next (reading.waiting ++ placed ∷ []) on (judge reading.tallies next.emitted (reading.waiting ++ placed ∷ []))

-- with these tokens before
abbrev pub all_behind : List Spelled → Next → Next
all_behind emitted next = record { emitted = emitted ++ next.emitted; state = next.state }

-- the answer on the tokens from here to the end
unfoldable pub run : End → Reading → List Placed → Answer
run end reading [] = if_within (judge reading.tallies (pending reading.state) reading.waiting) (at_end end (finish reading.state))
run end reading (placed ∷ places) = run_step reading placed (λ next. run end next places) (step reading.state placed.token)

-- ---- the same without judging

-- the source that the tokens are from here on, where they are one
unfoldable pub reads : State → List Token → Option Source
reads state [] = finish state
reads state (token ∷ tokens) = option_and_then (λ next. reads next.state tokens) (step state token)

-- where the machine goes with the tokens, and what it emits on the way
unfoldable pub walk : State → List Token → Option Next
walk state [] = Some (record { emitted = []; state = state })
walk state (token ∷ tokens) = option_and_then (λ next. option_map (all_behind next.emitted) (walk next.state tokens)) (step state token)
