-- How the machine goes on where the code passes a token, reads a sign or a name, or refuses.
use Rattle.std.proofs.Common.{◌≡◌, ℕ, ◌<◌, true, false, if◌then◌else◌, IsTrue, Option, Some, None, List, [], ◌∷◌, length, refl, ap, sym, ◌∙◌, subst, inl, inr, ⊎_elim, arith}
use Rattle.std.specs.Str.{bytes_eq}
use Rattle.std.proofs.lemmas.Bool.{false≢true}
use Rattle.std.proofs.lemmas.Slice.Eq.{bytes_eq-Decides}
use Rattle.cilk_tree.specs.declared.count.Count.{Count}
use Rattle.cilk_tree.specs.declared.ending.Ending.{Ending}
use Rattle.cilk_tree.specs.declared.ending.Ending.TheVariants.{Reached, Stopped}
use Rattle.cilk_tree.specs.declared.kind.Kind.{Kind}
use Rattle.cilk_tree.specs.declared.token.Keyword.{Keyword}
use Rattle.cilk_tree.specs.declared.token.Placed.{Placed}
use Rattle.cilk_tree.specs.declared.token.Sign.{Sign}
use Rattle.cilk_tree.specs.declared.token.Token.{Token}
use Rattle.cilk_tree.specs.declared.token.Token.TheVariants.{Name, Number, Word, Mark}
use Rattle.cilk_tree.specs.Levels.{Spelled, counting, mark}
use Rattle.cilk_tree.specs.Syntax.{Empty}
use Rattle.cilk_tree.specs.Token.{sign_text}
use Rattle.cilk_parser.proofs.Signs.{same_sign}
use Rattle.cilk_parser.specs.declared.parser.End.{End}
use Rattle.cilk_parser.specs.declared.refusal.ParseRefusal.{ParseRefusal}
use Rattle.cilk_parser.specs.Spots.{Spot, from, Refuses, end_refusal, unexpected_of, is_sign, is_keyword, is_keyword_token, HasPassed, IsOver, HasRead, LacksSign, HasNamed, LacksName, is_named, is_name_token, stepping}
use Rattle.cilk_parser.specs.Run.{Answer, Refused, Within, Over, at_end, if_within, judge, judge_token, judge_on, run, run_step, run_judged}
use Rattle.cilk_parser.specs.Steps.{State, Items, Awaited, Awaits, NameAwaited, AwaitsName, Next, step, finish, pending, goes_on, is_mark, step_only, step_name, awaited_token, awaited_state, named_token, named_state}
use Rattle.cilk_parser.specs.declared.tallies.Tallies.{Tallies}

-- with no token waiting, none is judged at a refusal
nothing_waits : (t : Tallies) (more : List Spelled) (answer : Answer) → if_within (judge t more []) answer ≡ answer
nothing_waits t [] answer = refl
nothing_waits t (spelled ∷ more) answer = refl

-- ---- from a state, the first token decides

module _ (state : State) (unfinished : finish state ≡ None) where
  same_step : (end : End) (t : Tallies) (placed : Placed) (places : List Placed) (other : State) (next : Option Next) →
      run_step (record { state = state; tallies = t; waiting = [] }) placed (λ r. run end r places) next ≡ run_step (record { state = other; tallies = t; waiting = [] }) placed (λ r. run end r places) next
  same_step end t placed places other None = nothing_waits t (pending state) _ ∙ sym (nothing_waits t (pending other) _)
  same_step end t placed places other (Some next) = refl

  steps_at : (end : End) (t : Tallies) (left : List Placed) → from state (record { end = end; tallies = t; left = left }) ≡ stepping (step state) (record { end = end; tallies = t; left = left })
  unfolding run
  steps_at end t [] = nothing_waits t (pending state) _ ∙ ap (at_end end) unfinished
  steps_at end t (placed ∷ places) = same_step end t placed places (Items Empty) (step state placed.token)

  -- From a state where the source cannot end, the machine steps.
  pub from_steps : (spot : Spot) → from state spot ≡ stepping (step state) spot
  from_steps spot = steps_at spot.end spot.tallies spot.left

-- an answer is refused as the one that it equals
pub refuses_as : (refusal : ParseRefusal) (one other : Answer) → one ≡ other → Refuses other refusal → Refuses one refusal
refuses_as refusal one other same refused = subst (λ answer. Refuses answer refusal) (sym same) refused

-- ---- where the first token alone decides

same_at : (steps others : Token → Option Next) (end : End) (t : Tallies) (left : List Placed) → ((placed : Placed) (places : List Placed) → left ≡ placed ∷ places → steps placed.token ≡ others placed.token) →
    stepping steps (record { end = end; tallies = t; left = left }) ≡ stepping others (record { end = end; tallies = t; left = left })
same_at steps others end t [] same = refl
same_at steps others end t (placed ∷ places) same = ap (run_step (record { state = Items Empty; tallies = t; waiting = [] }) placed (λ r. run end r places)) (same placed places refl)

-- Two ways to step that agree on what stands first.
pub stepping_same : (steps others : Token → Option Next) (spot : Spot) → ((placed : Placed) (places : List Placed) → spot.left ≡ placed ∷ places → steps placed.token ≡ others placed.token) → stepping steps spot ≡ stepping others spot
stepping_same steps others spot same = same_at steps others spot.end spot.tallies spot.left same

at_the_end : (size : ℕ) (ending : Ending) → Refuses (at_end (record { size = size; ending = ending }) None) (end_refusal size ending)
at_the_end size Reached = refl
at_the_end size (Stopped kind place) = refl

refuses_at : (steps : Token → Option Next) (end : End) (t : Tallies) (left : List Placed) → ((placed : Placed) (places : List Placed) → left ≡ placed ∷ places → steps placed.token ≡ None) →
    Refuses (stepping steps (record { end = end; tallies = t; left = left })) (unexpected_of end left)
refuses_at steps end t [] none = at_the_end end.size end.ending
refuses_at steps end t (placed ∷ places) none = ap (run_step (record { state = Items Empty; tallies = t; waiting = [] }) placed (λ r. run end r places)) (none placed places refl) ∙ nothing_waits t [] _

-- With a token that leads nowhere, or with none, it is refused.
pub unexpected_refuses : (steps : Token → Option Next) (spot : Spot) → ((placed : Placed) (places : List Placed) → spot.left ≡ placed ∷ places → steps placed.token ≡ None) → Refuses (stepping steps spot) (unexpected_of spot.end spot.left)
unexpected_refuses steps spot none = refuses_at steps spot.end spot.tallies spot.left none

-- ---- a token is passed

module _ (steps : Token → Option Next) (next : State) (level : ℕ) (counts : List Count) where
  passes_at : (end : End) (t later : Tallies) (left rest : List Placed) (placed : Placed) → left ≡ placed ∷ rest → judge_token t (counting level counts placed.token) placed.offset ≡ Within later →
      steps placed.token ≡ goes_on (counting level counts placed.token) next → stepping steps (record { end = end; tallies = t; left = left }) ≡ from next (record { end = end; tallies = later; left = rest })
  passes_at end t later left rest placed first judged goes =
      ap (λ places. stepping steps (record { end = end; tallies = t; left = places })) first
      ∙ ap (run_step (record { state = Items Empty; tallies = t; waiting = [] }) placed (λ r. run end r rest)) goes
      ∙ ap (λ j. run_judged (record { emitted = counting level counts placed.token ∷ []; state = next }) (placed ∷ []) (λ r. run end r rest) (judge_on j Within)) judged

  over_at : (end : End) (t : Tallies) (left rest : List Placed) (placed : Placed) (kind : Kind) (offset : ℕ) → left ≡ placed ∷ rest → judge_token t (counting level counts placed.token) placed.offset ≡ Over kind offset →
      steps placed.token ≡ goes_on (counting level counts placed.token) next → stepping steps (record { end = end; tallies = t; left = left }) ≡ Refused kind offset
  over_at end t left rest placed kind offset first judged goes =
      ap (λ places. stepping steps (record { end = end; tallies = t; left = places })) first
      ∙ ap (run_step (record { state = Items Empty; tallies = t; waiting = [] }) placed (λ r. run end r rest)) goes
      ∙ ap (λ j. run_judged (record { emitted = counting level counts placed.token ∷ []; state = next }) (placed ∷ []) (λ r. run end r rest) (judge_on j Within)) judged

  -- The code passed the token with which the machine goes on.
  pub passes_on : (old new : Spot) (passed : HasPassed level counts old new) → steps passed.placed.token ≡ goes_on (counting level counts passed.placed.token) next → stepping steps old ≡ from next new
  passes_on old new passed goes =
      passes_at old.end old.tallies new.tallies old.left new.left passed.placed passed.first passed.judged goes
      ∙ ap (λ end. from next (record { end = end; tallies = new.tallies; left = new.left })) (sym passed.end)

  -- The token with which the machine goes on was refused.
  pub over_refuses : (old : Spot) (refusal : ParseRefusal) (over : IsOver level counts old refusal) → steps over.placed.token ≡ goes_on (counting level counts over.placed.token) next → Refuses (stepping steps old) refusal
  over_refuses old refusal over goes =
      subst (Refuses (stepping steps old)) (sym over.same)
      (over_at old.end old.tallies old.left over.rest over.placed over.kind over.offset over.first over.judged goes)

-- what is left is shorter by the token
pub passed_shorter : (level : ℕ) (counts : List Count) (old new : Spot) → HasPassed level counts old new → length new.left < length old.left
passed_shorter level counts old new passed = rw (ap length passed.first) (omega arith)

-- ---- what stands first

pub sign_there : (sign : Sign) (left places : List Placed) (placed : Placed) → left ≡ placed ∷ places → IsTrue (is_sign sign left) → placed.token ≡ Mark sign
sign_there sign left places placed first there = sym (same_sign (Mark sign) placed.token (subst (λ l. IsTrue (is_sign sign l)) first there))

pub sign_absent : (sign : Sign) (left places : List Placed) (placed : Placed) → left ≡ placed ∷ places → is_sign sign left ≡ false → is_mark sign placed.token ≡ false
sign_absent sign left places placed first absent = subst (λ l. is_sign sign l ≡ false) first absent

pub keyword_absent : (word : Keyword) (left places : List Placed) (placed : Placed) → left ≡ placed ∷ places → is_keyword word left ≡ false → is_keyword_token word placed.token ≡ false
keyword_absent word left places placed first absent = subst (λ l. is_keyword word l ≡ false) first absent

pub name_absent : (left places : List Placed) (placed : Placed) → left ≡ placed ∷ places → is_named left ≡ false → is_name_token placed.token ≡ false
name_absent left places placed first absent = subst (λ l. is_named l ≡ false) first absent

pub name_there : (token : Token) → IsTrue (is_name_token token) → (name : List ℕ) × (token ≡ Name name)
name_there (Name name) there = (name, refl)
name_there (Number value) there = absurd (false≢true there)
name_there (Word word) there = absurd (false≢true there)
name_there (Mark sign) there = absurd (false≢true there)

bytes_same : (bytes : List ℕ) → bytes_eq bytes bytes ≡ true
bytes_same bytes = (bytes_eq-Decides bytes bytes).1 refl

only_named : (awaited : NameAwaited) (token : Token) → is_name_token token ≡ false → step_name awaited token ≡ None
only_named awaited (Name name) other = absurd (false≢true (sym other))
only_named awaited (Number value) other = refl
only_named awaited (Word word) other = refl
only_named awaited (Mark sign) other = refl

-- ---- a sign alone

-- The machine goes on with this sign alone, which has this level.
pub record Expects (steps : Token → Option Next) (sign : Sign) (level : ℕ) (next : State) : Type 0 where
  pub here : steps (Mark sign) ≡ goes_on (mark level sign) next
  pub only : (token : Token) → is_mark sign token ≡ false → steps token ≡ None

pub expects_only : (sign : Sign) (level : ℕ) (next : State) → Expects (step_only (mark level sign) next) sign level next
expects_only sign level next = record {
  here = ap (λ b. if b then goes_on (mark level sign) next else None) (bytes_same (sign_text sign));
  only = λ token other. ap (λ b. if b then goes_on (mark level sign) next else None) other;
}

pub expects_awaited : (awaited : Awaited) (sign : Sign) (level : ℕ) → awaited_token awaited ≡ mark level sign → Expects (step (Awaits awaited)) sign level (awaited_state awaited)
unfolding step
expects_awaited awaited sign level is = subst (λ spelled. Expects (step_only spelled (awaited_state awaited)) sign level (awaited_state awaited)) (sym is) (expects_only sign level (awaited_state awaited))

module _ (steps : Token → Option Next) (sign : Sign) (level : ℕ) (next : State) (expects : Expects steps sign level next) where
  goes_with : (placed : Placed) → placed.token ≡ Mark sign → steps placed.token ≡ goes_on (counting level [] placed.token) next
  goes_with placed is = ap steps is ∙ expects.here ∙ ap (λ token. goes_on (counting level [] token) next) (sym is)

  pub reads_sign : (old new : Spot) → HasRead sign level old new → stepping steps old ≡ from next new
  reads_sign old new read = passes_on steps next level [] old new read.passed (goes_with read.passed.placed (sign_there sign old.left new.left read.passed.placed read.passed.first read.there))

  pub lacks_sign : (old : Spot) (refusal : ParseRefusal) → LacksSign sign level old refusal → Refuses (stepping steps old) refusal
  lacks_sign old refusal lacks =
      ⊎_elim
      (λ absent. subst (Refuses (stepping steps old)) (sym absent.1) (unexpected_refuses steps old (λ placed places first. expects.only placed.token (sign_absent sign old.left places placed first absent.0))))
      (λ over. over_refuses steps next level [] old refusal over.1 (goes_with over.1.placed (sign_there sign old.left over.1.rest over.1.placed over.1.first over.0)))
      lacks

-- the same where the machine awaits the sign
module _ (awaited : Awaited) (sign : Sign) (level : ℕ) (is : awaited_token awaited ≡ mark level sign) where
  pub awaits_sign : (old new : Spot) → HasRead sign level old new → from (Awaits awaited) old ≡ from (awaited_state awaited) new
  awaits_sign old new read = from_steps (Awaits awaited) refl old ∙ reads_sign (step (Awaits awaited)) sign level (awaited_state awaited) (expects_awaited awaited sign level is) old new read

  pub awaits_lacks : (old : Spot) (refusal : ParseRefusal) → LacksSign sign level old refusal → Refuses (from (Awaits awaited) old) refusal
  awaits_lacks old refusal lacks =
      subst (λ answer. Refuses answer refusal) (sym (from_steps (Awaits awaited) refl old))
      (lacks_sign (step (Awaits awaited)) sign level (awaited_state awaited) (expects_awaited awaited sign level is) old refusal lacks)

-- ---- a name alone

-- The machine goes on with a name alone, which has this level and counts as this.
pub record ExpectsName (steps : Token → Option Next) (level : ℕ) (counts : List Count) (next : List ℕ → State) : Type 0 where
  pub here : (name : List ℕ) → steps (Name name) ≡ goes_on (counting level counts (Name name)) (next name)
  pub only : (token : Token) → is_name_token token ≡ false → steps token ≡ None

pub expects_named : (awaited : NameAwaited) (level : ℕ) (counts : List Count) → ((name : List ℕ) → named_token awaited name ≡ counting level counts (Name name)) → ExpectsName (step (AwaitsName awaited)) level counts (named_state awaited)
unfolding step
expects_named awaited level counts is = record {
  here = λ name. ap (λ spelled. goes_on spelled (named_state awaited name)) (is name);
  only = only_named awaited;
}

module _ (steps : Token → Option Next) (level : ℕ) (counts : List Count) (next : List ℕ → State) (expects : ExpectsName steps level counts next) where
  goes_named : (placed : Placed) (name : List ℕ) → placed.token ≡ Name name → steps placed.token ≡ goes_on (counting level counts placed.token) (next name)
  goes_named placed name is = ap steps is ∙ expects.here name ∙ ap (λ token. goes_on (counting level counts token) (next name)) (sym is)

  pub reads_name : (name : List ℕ) (old new : Spot) → HasNamed level counts name old new → stepping steps old ≡ from (next name) new
  reads_name name old new read = passes_on steps (next name) level counts old new read.passed (goes_named read.passed.placed name read.named)

  pub lacks_name : (old : Spot) (refusal : ParseRefusal) → LacksName level counts old refusal → Refuses (stepping steps old) refusal
  lacks_name old refusal lacks = elim lacks [
    | inl memory ↦ subst (Refuses (stepping steps old)) (sym memory) tt
    | inr other ↦ elim other [
      | inl absent ↦ subst (Refuses (stepping steps old)) (sym absent.1) (unexpected_refuses steps old (λ placed places first. expects.only placed.token (name_absent old.left places placed first absent.0)))
      | inr over ↦
          let is = name_there over.1.placed.token (subst (λ l. IsTrue (is_named l)) over.1.first over.0) in
          over_refuses steps (next is.0) level counts old refusal over.1 (goes_named over.1.placed is.0 is.1)
    ]
  ]

-- the same where the machine awaits a name
module _ (awaited : NameAwaited) (level : ℕ) (counts : List Count) (is : (name : List ℕ) → named_token awaited name ≡ counting level counts (Name name)) where
  pub awaits_name : (name : List ℕ) (old new : Spot) → HasNamed level counts name old new → from (AwaitsName awaited) old ≡ from (named_state awaited name) new
  awaits_name name old new read = from_steps (AwaitsName awaited) refl old ∙ reads_name (step (AwaitsName awaited)) level counts (named_state awaited) (expects_named awaited level counts is) name old new read

  pub awaits_no_name : (old : Spot) (refusal : ParseRefusal) → LacksName level counts old refusal → Refuses (from (AwaitsName awaited) old) refusal
  awaits_no_name old refusal lacks =
      subst (λ answer. Refuses answer refusal) (sym (from_steps (AwaitsName awaited) refl old))
      (lacks_name (step (AwaitsName awaited)) level counts (named_state awaited) (expects_named awaited level counts is) old refusal lacks)
