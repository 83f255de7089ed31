-- A step that emits the token that it takes, with none that waits before it or behind it.
use Rattle.std.proofs.Common.{◌≡◌, ℕ, Bool, true, false, ◌&&◌, IsTrue, if◌then◌else◌, Option, Some, None, List, [], ◌∷◌, ◌++◌, refl, ◌∙◌, subst, append_assoc}
use Rattle.std.proofs.lemmas.Bool.{and_from}
use Rattle.std.specs.Option.{IfSome}
use Rattle.cilk_tree.specs.declared.token.Token.{Token}
use Rattle.cilk_tree.specs.Levels.{Spelled, spell_commas}
use Rattle.cilk_tree.specs.Syntax.{Commas, each_of, if_any}
use Rattle.cilk_parser.specs.Contexts.{with_last}
use Rattle.cilk_parser.specs.Steps.{State, Next, goes_on, pending, is_same_sign, step_only}
use Rattle.cilk_parser.proofs.Signs.{same_sign}
use Rattle.cilk_parser.proofs.Emitted.SoFar.{commas_before, so_far}
use Rattle.cilk_parser.proofs.Emitted.Valid.{IsValid}

-- The state is valid, and these were emitted up to it.
pub record Stands (state : State) (seen : List Spelled) : Type 0 where
  pub valid : IsValid state
  pub same : so_far state ≡ seen
  pub settled : pending state ≡ []

-- From where these were emitted the machine goes on with the token, which it emits.
pub record Advances (seen : List Spelled) (token : Token) (next : Next) : Type 0 where
  pub spelled : Spelled
  pub emitted : next.emitted ≡ spelled ∷ []
  pub same : spelled.token ≡ token
  pub stands : Stands next.state (seen ++ spelled ∷ [])

pub stands_here : (state : State) → IsValid state → pending state ≡ [] → Stands state (so_far state)
stands_here state valid settled = record { valid = valid; same = refl; settled = settled }

pub stands_as : (state : State) (seen other : List Spelled) → Stands state seen → seen ≡ other → Stands state other
stands_as state seen other stands e = record { valid = stands.valid; same = stands.same ∙ e; settled = stands.settled }

-- to a state that was found to stand at these
pub on : (seen : List Spelled) (spelled : Spelled) (state : State) (there : List Spelled) → Stands state there → there ≡ seen ++ spelled ∷ [] →
    Advances seen spelled.token (record { emitted = spelled ∷ []; state = state })
on seen spelled state there stands e = record { spelled = spelled; emitted = refl; same = refl; stands = stands_as state there (seen ++ spelled ∷ []) stands e }

pub on_here : (seen : List Spelled) (spelled : Spelled) (state : State) → IsValid state → pending state ≡ [] → so_far state ≡ seen ++ spelled ∷ [] →
    Advances seen spelled.token (record { emitted = spelled ∷ []; state = state })
on_here seen spelled state valid settled e = on seen spelled state (so_far state) (stands_here state valid settled) e

pub advances_as : (seen other : List Spelled) (token : Token) (next : Option Next) → seen ≡ other → IfSome next (Advances seen token) → IfSome next (Advances other token)
advances_as seen other token next e h = subst (λ s. IfSome next (Advances s token)) e h

if_moves : (seen : List Spelled) (token : Token) (spelled : Spelled) (state : State) (test : Bool) → (test ≡ true → spelled.token ≡ token) → Stands state (seen ++ spelled ∷ []) →
    IfSome (if test then goes_on spelled state else None) (Advances seen token)
if_moves seen token spelled state true same stands = record { spelled = spelled; emitted = refl; same = same refl; stands = stands }
if_moves seen token spelled state false same stands = tt

-- with one sign alone
pub only_moves : (seen : List Spelled) (spelled : Spelled) (state : State) (token : Token) → Stands state (seen ++ spelled ∷ []) → IfSome (step_only spelled state token) (Advances seen token)
only_moves seen spelled state token stands = if_moves seen token spelled state (is_same_sign spelled.token token) (same_sign spelled.token token) stands

pub both : {a b : Bool} → a ≡ true → b ≡ true → (a && b) ≡ true
both {a} {b} p q = and_from a b p q

-- ---- lists with commas

pub spell_with_last : {T : Type 0} (level : ℕ) (spell : T → List Spelled) (before : Option (Commas T)) (last : T) → spell_commas level spell (with_last before last) ≡ commas_before level spell before ++ spell last
spell_with_last level spell None last = refl
spell_with_last level spell (Some before) last = simp append_assoc

pub each_with_last : {T : Type 0} (test : T → Bool) (before : Option (Commas T)) (last : T) → IsTrue (if_any (each_of test) before) → IsTrue (test last) → IsTrue (each_of test (with_last before last))
each_with_last test None last h here = here
each_with_last test (Some before) last h here = both h here
