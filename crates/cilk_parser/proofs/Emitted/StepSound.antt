-- A step emits the token that it takes with those that waited, or it lets the token wait, and the state says what was emitted.
use Rattle.std.proofs.Common.{◌≡◌, ℕ, ◌⊎◌, inl, inr, Option, Some, None, option_map, List, [], ◌∷◌, ◌++◌, map, refl, ap, sym, ◌∙◌, append_assoc, append-nil}
use Rattle.std.specs.Option.{IfSome}
use Rattle.cilk_tree.specs.declared.token.Keyword.TheVariants as word
use Rattle.cilk_tree.specs.declared.token.Sign.TheVariants as sign
use Rattle.cilk_tree.specs.declared.token.Token.{Token}
use Rattle.cilk_tree.specs.declared.token.Token.TheVariants.{Name, Word, Mark}
use Rattle.cilk_tree.specs.declared.count.Counted.TheVariants.{Operators, Arguments}
use Rattle.cilk_tree.specs.declared.count.Count.TheVariants.{Anew}
use Rattle.cilk_tree.specs.Levels.{Spelled, counting, plain, spell_source}
use Rattle.cilk_tree.specs.Syntax.{Source, Variable, IsWellFormed}
use Rattle.cilk_parser.specs.Contexts.{RightIn, right_level, ValueOf}
use Rattle.cilk_parser.specs.Steps.{State, Items, AfterCilk, AfterInt, AfterIntName, ArraySize, AfterArray, ParametersStart, AfterParameter, NextParameter, AtInner, AtBody, HasBody, AfterDeclarator, HasDeclarators, AtRight, AfterRightName, AtArguments, AfterName, AtForStart, AtForCondition, AtForLast, AfterReturn, Wants, Has, Awaits, AwaitsName, Next, behind, pending, step, step_has, step_at_right, step_int, step_int_name, step_items, step_right_name, step_wants}
use Rattle.cilk_parser.proofs.Emitted.Advancing.{Advances, on_here}
use Rattle.cilk_parser.proofs.Emitted.AwaitedSteps.{awaited_moves, name_moves, declarators_move}
use Rattle.cilk_parser.proofs.Emitted.ExpressionSteps.{wants_moves, has_moves, variable_there}
use Rattle.cilk_parser.proofs.Emitted.ItemSteps.{cilk_moves, size_moves, array_moves, parameters_move, parameter_moves, next_parameter_moves}
use Rattle.cilk_parser.proofs.Emitted.SoFar.{so_far, right_so_far}
use Rattle.cilk_parser.proofs.Emitted.StatementSteps.{arguments_move, declarator_moves, after_name_moves, inner_moves, body_moves, after_body_moves, for_start_moves, for_condition_moves, for_last_moves, return_moves}
use Rattle.cilk_parser.proofs.Emitted.Valid.{IsValid, IsRightOpen}

pub record StepSound (state : State) (token : Token) (next : Next) : Type 0 where
  pub so_far : so_far next.state ≡ so_far state ++ next.emitted
  pub tokens : map (λ s. s.token) (next.emitted ++ pending next.state) ≡ map (λ s. s.token) (pending state) ++ token ∷ []
  pub levels : (l : ℕ) × (map (λ s. s.level) (next.emitted ++ pending next.state) ≡ map (λ s. s.level) (pending state) ++ l ∷ [])
  pub valid : IsValid next.state
  pub waits : (next.emitted ≡ []) ⊎ (pending next.state ≡ [])

advance_sound : (state : State) (token : Token) (next : Next) → pending state ≡ [] → Advances (so_far state) token next → StepSound state token next
advance_sound state token next settled h = record {
  so_far = h.stands.same ∙ ap (λ e. so_far state ++ e) (sym h.emitted);
  tokens = rw (h.emitted, h.stands.settled, settled) (ap (λ t. t ∷ []) h.same);
  levels = (h.spelled.level, rw (h.emitted, h.stands.settled, settled) refl);
  valid = h.stands.valid;
  waits = inr h.stands.settled;
}

-- where none waits
sound_here : (state : State) (token : Token) (next : Option Next) → pending state ≡ [] → IfSome next (Advances (so_far state) token) → IfSome next (StepSound state token)
sound_here state token None settled h = tt
sound_here state token (Some next) settled h = advance_sound state token next settled h

items_sound : (before : Source) (token : Token) → IsWellFormed before → IfSome (step_items before token) (StepSound (Items before) token)
items_sound before (Word word.Cilk) formed = advance_sound (Items before) (Word word.Cilk) _ refl (on_here _ _ _ formed refl refl)
items_sound before (Word word.Void) formed = advance_sound (Items before) (Word word.Void) _ refl (on_here _ _ _ formed refl refl)
items_sound before (Word word.Int) formed = record { so_far = sym (append-nil (spell_source before)); tokens = refl; levels = (0, refl); valid = formed; waits = inl refl }
items_sound before _ formed = tt

int_sound : (before : Source) (token : Token) → IsWellFormed before → IfSome (step_int before token) (StepSound (AfterInt before) token)
int_sound before (Name name) formed = record { so_far = sym (append-nil (spell_source before)); tokens = refl; levels = (0, refl); valid = formed; waits = inl refl }
int_sound before _ formed = tt

int_name_sound : (before : Source) (name : List ℕ) (token : Token) → IsWellFormed before → IfSome (step_int_name before name token) (StepSound (AfterIntName before name) token)
int_name_sound before name (Mark sign.OpenParen) formed = record { so_far = simp append_assoc; tokens = refl; levels = (0, refl); valid = formed; waits = inr refl }
int_name_sound before name (Mark sign.OpenBracket) formed = record { so_far = simp append_assoc; tokens = refl; levels = (0, refl); valid = formed; waits = inr refl }
int_name_sound before name _ formed = tt

at_right_sound : (outer : RightIn) (token : Token) → IsRightOpen outer → IfSome (step_at_right outer token) (StepSound (AtRight outer) token)
at_right_sound outer (Word word.Spawn) opened = advance_sound (AtRight outer) (Word word.Spawn) _ refl (on_here _ _ _ opened refl refl)
at_right_sound outer (Word word.FetchAdd) opened = advance_sound (AtRight outer) (Word word.FetchAdd) _ refl (on_here _ _ _ opened refl refl)
at_right_sound outer (Name name) opened = record { so_far = sym (append-nil (right_so_far outer)); tokens = refl; levels = (right_level outer, refl); valid = opened; waits = inl refl }
at_right_sound outer token opened = sound_here (AtRight outer) token (step_wants (ValueOf outer) token) refl (wants_moves (ValueOf outer) token opened)

module _ (outer : RightIn) (name : List ℕ) where
  abbrev value_name : Spelled
  value_name = counting (right_level outer) (Anew Operators ∷ []) (Name name)

  behind_sound : (token : Token) (next : Option Next) → IfSome next (Advances (right_so_far outer ++ value_name ∷ []) token) →
      IfSome (option_map (behind value_name) next) (StepSound (AfterRightName outer name) token)
  behind_sound token None h = tt
  behind_sound token (Some next) h = record {
    so_far = h.stands.same ∙ append_assoc (right_so_far outer) (value_name ∷ []) (h.spelled ∷ []) ∙ ap (λ e. right_so_far outer ++ value_name ∷ e) (sym h.emitted);
    tokens = rw (h.emitted, h.stands.settled) (ap (λ t. Name name ∷ t ∷ []) h.same);
    levels = (h.spelled.level, rw (h.emitted, h.stands.settled) refl);
    valid = h.stands.valid;
    waits = inr h.stands.settled;
  }

  right_name_sound : (token : Token) → IsRightOpen outer → IfSome (step_right_name outer name token) (StepSound (AfterRightName outer name) token)
  right_name_sound (Mark sign.OpenParen) opened = record { so_far = ap (λ s. s ++ plain (right_level outer) (Name name) ∷ counting (right_level outer) (Anew Arguments ∷ []) (Mark sign.OpenParen) ∷ []) (append-nil (right_so_far outer)); tokens = refl; levels = (right_level outer, refl); valid = opened; waits = inr refl }
  right_name_sound token opened = behind_sound token (step_has (ValueOf outer) (Variable name) token) (let there = variable_there (ValueOf outer) name opened in has_moves (ValueOf outer) (Variable name) token there.0 there.1)

pub step_sound : (state : State) (token : Token) → IsValid state → IfSome (step state token) (λ next. StepSound state token next)
unfolding step
step_sound (Items before) token h = items_sound before token h
step_sound (AfterCilk before) token h = sound_here (AfterCilk before) token _ refl (cilk_moves before token h)
step_sound (AfterInt before) token h = int_sound before token h
step_sound (AfterIntName before name) token h = int_name_sound before name token h
step_sound (ArraySize before arrays name) token h = sound_here (ArraySize before arrays name) token _ refl (size_moves before arrays name token h)
step_sound (AfterArray before arrays) token h = sound_here (AfterArray before arrays) token _ refl (array_moves before arrays token h)
step_sound (ParametersStart heading) token h = sound_here (ParametersStart heading) token _ refl (parameters_move heading token h)
step_sound (AfterParameter heading names) token h = sound_here (AfterParameter heading names) token _ refl (parameter_moves heading names token h)
step_sound (NextParameter heading names) token h = sound_here (NextParameter heading names) token _ refl (next_parameter_moves heading names token h)
step_sound (AtInner outer before) token h = sound_here (AtInner outer before) token _ refl (inner_moves outer before token h.0 h.1)
step_sound (AtBody owner) token h = sound_here (AtBody owner) token _ refl (body_moves owner token h)
step_sound (HasBody owner body) token h = sound_here (HasBody owner body) token _ refl (after_body_moves owner body token h)
step_sound (AfterDeclarator outer before name) token h = sound_here (AfterDeclarator outer before name) token _ refl (declarator_moves outer before name token h.0 h.1)
step_sound (HasDeclarators outer declarators) token h = sound_here (HasDeclarators outer declarators) token _ refl (declarators_move outer declarators token h.0 h.1)
step_sound (AtRight outer) token h = at_right_sound outer token h
step_sound (AfterRightName outer name) token h = right_name_sound outer name token h
step_sound (AtArguments outer spawned name) token h = sound_here (AtArguments outer spawned name) token _ refl (arguments_move outer spawned name token h)
step_sound (AfterName outer name) token h = sound_here (AfterName outer name) token _ refl (after_name_moves outer name token h)
step_sound (AtForStart outer) token h = sound_here (AtForStart outer) token _ refl (for_start_moves outer token h)
step_sound (AtForCondition outer start) token h = sound_here (AtForCondition outer start) token _ refl (for_condition_moves outer start token h.0 h.1)
step_sound (AtForLast outer start condition) token h = sound_here (AtForLast outer start condition) token _ refl (for_last_moves outer start condition token h.0 h.1 h.2)
step_sound (AfterReturn outer) token h = sound_here (AfterReturn outer) token _ refl (return_moves outer token h)
step_sound (Wants around) token h = sound_here (Wants around) token _ refl (wants_moves around token h)
step_sound (Has around operand) token h = sound_here (Has around operand) token _ refl (has_moves around operand token h.0 h.1)
step_sound (Awaits awaited) token h = sound_here (Awaits awaited) token _ refl (awaited_moves awaited token h)
step_sound (AwaitsName awaited) token h = sound_here (AwaitsName awaited) token _ refl (name_moves awaited token h)
