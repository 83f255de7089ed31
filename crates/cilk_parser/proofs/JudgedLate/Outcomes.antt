-- Where the machine's run stops, and what it answers there.
use Rattle.std.proofs.Common.{◌≡◌, ◌⊎◌, inl, inr, ℕ, ◌+◌, ◌≤◌, Option, Some, None, option_and_then, option_map, List, [], ◌∷◌, ◌++◌, length, drop, refl, ap, sym, ◌∙◌, subst, arith, append_assoc, append-nil, length-append, length-drop}
use Rattle.std.specs.Option.{IfSome}
use Rattle.std.proofs.lemmas.List.{map-append, length-map, length_push}
use Rattle.cilk_tree.specs.declared.kind.Kind.{Kind}
use Rattle.cilk_tree.specs.declared.kind.Kind.TheVariants.{Unexpected}
use Rattle.cilk_tree.specs.declared.token.Placed.{Placed}
use Rattle.cilk_tree.specs.declared.token.Token.{Token}
use Rattle.cilk_tree.specs.Lexeme.{tokens_of}
use Rattle.cilk_tree.specs.Levels.{Spelled}
use Rattle.cilk_tree.specs.Syntax.{Empty}
use Rattle.cilk_parser.specs.declared.parser.End.{End}
use Rattle.cilk_parser.specs.declared.tallies.Tallies.{Tallies}
use Rattle.cilk_parser.specs.Phrases.{answer_on}
use Rattle.cilk_parser.specs.Run.{Answer, Refused, Tallied, Within, Over, Reading, all_behind, at_end, if_within, judge, judge_on, read_on, run, run_judged, run_step, walk}
use Rattle.cilk_parser.specs.Steps.{State, Items, Next, finish, pending, step}
use Rattle.cilk_parser.specs.Tally.{none_counted}
use Rattle.cilk_parser.proofs.Begun.{IsStuck, all_spelled, goes_behind, same_size, walk_is_sound}
use Rattle.cilk_parser.proofs.JudgedLate.Judging.{judge_append}
use Rattle.cilk_parser.proofs.Emitted.StepSound.{StepSound, step_sound}

-- the answer there
abbrev pub last_answer : End → State → List Placed → Answer
last_answer end state [] = at_end end (finish state)
last_answer end state (placed ∷ places) = Refused Unexpected placed.offset

-- It walked so far, and either is stuck, or passed a limit with the last step, behind which no token waits.
pub data Outcome (end : End) (places : List Placed) (answer : Answer) : Type 0 where
  Stops : (front left : List Placed) (next : Next) (parts : places ≡ front ++ left) (walked : walk (Items Empty) (tokens_of front) ≡ Some next) (stuck : IsStuck next.state (tokens_of left))
      (same : answer ≡ if_within (judge none_counted (all_spelled next) front) (last_answer end next.state left)) → Outcome end places answer
  Passes : (front left : List Placed) (next : Next) (parts : places ≡ front ++ left) (walked : walk (Items Empty) (tokens_of front) ≡ Some next) (settled : pending next.state ≡ [])
      (kind : Kind) (offset : ℕ) (over : judge none_counted (all_spelled next) front ≡ Over kind offset) (same : answer ≡ Refused kind offset) → Outcome end places answer

-- The reading stands behind these places.
record Standing (front : List Placed) (reading : Reading) : Type 0 where
  emitted : List Spelled
  walked : walk (Items Empty) (tokens_of front) ≡ Some (record { emitted = emitted; state = reading.state })
  size : length emitted + length reading.waiting ≡ length front
  judged : (more : List Spelled) (further : List Placed) → judge none_counted (emitted ++ more) (front ++ further) ≡ judge reading.tallies more (reading.waiting ++ further)

walk_one : (state : State) (token : Token) (next : Next) → step state token ≡ Some next → walk state (token ∷ []) ≡ Some next
unfolding walk
walk_one state token next e =
    ap (option_and_then (λ there. option_map (all_behind there.emitted) (walk there.state []))) e ∙ ap (λ emitted. Some (record { emitted = emitted; state = next.state })) (append-nil next.emitted)

-- what was judged so far, and what waits
judged_here : (front : List Placed) (reading : Reading) (h : Standing front reading) → judge none_counted (h.emitted ++ pending reading.state) front ≡ judge reading.tallies (pending reading.state) reading.waiting
judged_here front reading h =
    ap (judge none_counted (h.emitted ++ pending reading.state)) (sym (append-nil front)) ∙ h.judged (pending reading.state) [] ∙ ap (judge reading.tallies (pending reading.state)) (append-nil reading.waiting)

-- Where nothing was emitted, nothing is judged.
settled_over : (t : Tallies) (next : Next) (places : List Placed) (kind : Kind) (offset : ℕ) → (next.emitted ≡ []) ⊎ (pending next.state ≡ []) → judge t next.emitted places ≡ Over kind offset → pending next.state ≡ []
settled_over t next places kind offset (inl none) j = let k : Within t ≡ Over kind offset = ap (λ e. judge t e places) (sym none) ∙ j in absurd (cc)
settled_over t next places kind offset (inr settled) j = settled

-- ---- behind a step

module _ (end : End) (front : List Placed) (placed : Placed) (places : List Placed) (reading : Reading) (h : Standing front reading) where
  abbrev now : List Placed
  now = front ++ placed ∷ []

  abbrev waits : List Placed
  waits = reading.waiting ++ placed ∷ []

  abbrev behind : Next → Next
  behind next = all_behind h.emitted next

  walked_on : (next : Next) → step reading.state placed.token ≡ Some next → walk (Items Empty) (tokens_of now) ≡ Some (behind next)
  walked_on next e =
      ap (walk (Items Empty)) (map-append (λ p. p.token) front (placed ∷ []))
      ∙ goes_behind (tokens_of front) (placed.token ∷ []) (record { emitted = h.emitted; state = reading.state }) next h.walked (walk_one reading.state placed.token next e)

  sizes : (next : Next) → step reading.state placed.token ≡ Some next → length h.emitted + length next.emitted + length (pending next.state) ≡ length front + 1
  sizes next e =
      sym (ap (λ n. n + length (pending next.state)) (length-append h.emitted next.emitted)) ∙ sym (length-append (h.emitted ++ next.emitted) (pending next.state))
      ∙ same_size (tokens_of now) (behind next) (walked_on next e) ∙ length-map now (λ p. p.token) ∙ length_push front placed

  -- no more is emitted than waited
  emitted_fits : (next : Next) → step reading.state placed.token ≡ Some next → length next.emitted ≤ length waits
  emitted_fits next e = omega (arith, sizes next e, h.size, length_push reading.waiting placed)

  judged_on : (next : Next) → step reading.state placed.token ≡ Some next → (more : List Spelled) (further : List Placed) →
      judge none_counted ((h.emitted ++ next.emitted) ++ more) (now ++ further)
      ≡ judge_on (judge reading.tallies next.emitted waits) (λ t. judge t more (drop (length next.emitted) waits ++ further))
  judged_on next e more further =
      ap (λ s. judge none_counted s (now ++ further)) (append_assoc h.emitted next.emitted more) ∙ ap (judge none_counted (h.emitted ++ (next.emitted ++ more))) (append_assoc front (placed ∷ []) further)
      ∙ h.judged (next.emitted ++ more) (placed ∷ further) ∙ ap (judge reading.tallies (next.emitted ++ more)) (sym (append_assoc reading.waiting (placed ∷ []) further))
      ∙ judge_append reading.tallies next.emitted more waits further (emitted_fits next e)

  stands_on : (next : Next) (t : Tallies) → step reading.state placed.token ≡ Some next → judge reading.tallies next.emitted waits ≡ Within t →
      Standing now (read_on next.state t next.emitted waits)
  stands_on next t e j = record {
    emitted = h.emitted ++ next.emitted;
    walked = walked_on next e;
    size =
        omega (
          arith,
          h.size,
          emitted_fits next e,
          length_push reading.waiting placed,
          length_push front placed,
          length-append h.emitted next.emitted,
          length-drop (length next.emitted) waits,
        );
    judged = λ more further. judged_on next e more further ∙ ap (λ judged. judge_on judged (λ t. judge t more (drop (length next.emitted) waits ++ further))) j;
  }

  step_is_sound : (next : Next) → step reading.state placed.token ≡ Some next → StepSound reading.state placed.token next
  step_is_sound next e =
      subst (λ n. IfSome n (StepSound reading.state placed.token)) e
      (step_sound reading.state placed.token (walk_is_sound (tokens_of front) (record { emitted = h.emitted; state = reading.state }) h.walked).valid)

  passed_over : (next : Next) (kind : Kind) (offset : ℕ) → step reading.state placed.token ≡ Some next → judge reading.tallies next.emitted waits ≡ Over kind offset →
      judge none_counted (all_spelled (behind next)) now ≡ Over kind offset
  passed_over next kind offset e j =
      ap (judge none_counted (all_spelled (behind next))) (sym (append-nil now)) ∙ judged_on next e (pending next.state) []
      ∙ ap (λ judged. judge_on judged (λ t. judge t (pending next.state) (drop (length next.emitted) waits ++ []))) j

  outcome_judged : (next : Next) → step reading.state placed.token ≡ Some next → (on : Reading → Answer) → ((there : Reading) → Standing now there → Outcome end (now ++ places) (on there)) →
      (judged : Tallied) → judge reading.tallies next.emitted waits ≡ judged → Outcome end (front ++ placed ∷ places) (run_judged next waits on judged)
  outcome_judged next e on outcome (Within t) j =
      subst (λ p. Outcome end p (on (read_on next.state t next.emitted waits))) (append_assoc front (placed ∷ []) places) (outcome (read_on next.state t next.emitted waits) (stands_on next t e j))
  outcome_judged next e on outcome (Over kind offset) j =
      Passes now places (behind next) (sym (append_assoc front (placed ∷ []) places)) (walked_on next e) (settled_over reading.tallies next waits kind offset (step_is_sound next e).waits j) kind offset (passed_over next kind offset e j) refl

  outcome_step : (on : Reading → Answer) → ((there : Reading) → Standing now there → Outcome end (now ++ places) (on there)) → (next : Option Next) → step reading.state placed.token ≡ next →
      Outcome end (front ++ placed ∷ places) (run_step reading placed on next)
  outcome_step on outcome None e = Stops front (placed ∷ places) (record { emitted = h.emitted; state = reading.state }) refl h.walked e (ap (λ j. if_within j (Refused Unexpected placed.offset)) (sym (judged_here front reading h)))
  outcome_step on outcome (Some next) e = outcome_judged next e on outcome (judge reading.tallies next.emitted waits) refl

outcome_from : (end : End) (left front : List Placed) (reading : Reading) → Standing front reading → Outcome end (front ++ left) (run end reading left)
unfolding run
outcome_from end [] front reading h =
    Stops front [] (record { emitted = h.emitted; state = reading.state }) refl h.walked tt (ap (λ j. if_within j (at_end end (finish reading.state))) (sym (judged_here front reading h)))
outcome_from end (placed ∷ places) front reading h =
    outcome_step end front placed places reading h (λ there. run end there places) (λ there stands. outcome_from end places (front ++ placed ∷ []) there stands) (step reading.state placed.token) refl

pub outcome : (end : End) (places : List Placed) → Outcome end places (answer_on end places)
unfolding walk
outcome end places =
    outcome_from end places [] (record { state = Items Empty; tallies = none_counted; waiting = [] }) (record { emitted = []; walked = refl; size = refl; judged = λ more further. refl })
