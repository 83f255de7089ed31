-- Where the machine goes on in a list with a comma or a sign, or goes on with no token.
use Rattle.std.proofs.Common.{◌≡◌, ℕ, false, IsTrue, Option, Some, None, List, [], ◌∷◌, ◌++◌, refl, sym, ◌∙◌, subst}
use Rattle.cilk_tree.specs.declared.token.Placed.{Placed}
use Rattle.cilk_tree.specs.declared.token.Sign.{Sign}
use Rattle.cilk_tree.specs.declared.token.Sign.TheVariants.{Comma}
use Rattle.cilk_tree.specs.declared.token.Token.{Token}
use Rattle.cilk_tree.specs.declared.token.Token.TheVariants.{Mark}
use Rattle.cilk_tree.specs.Levels.{mark}
use Rattle.cilk_tree.specs.Sugar.{commas_list, if_there}
use Rattle.cilk_tree.specs.Syntax.{Commas}
use Rattle.cilk_parser.specs.declared.refusal.ParseRefusal.{ParseRefusal}
use Rattle.cilk_parser.specs.Contexts.{with_last}
use Rattle.cilk_parser.specs.Spots.{Spot, from, Refuses, unexpected_of, is_sign, HasPassed, IsOver, HasRead, LacksSign, stepping}
use Rattle.cilk_parser.specs.Steps.{State, Next, finish, goes_on, is_mark, step, step_only}
use Rattle.cilk_parser.proofs.Bricks.Beginnings.{sign_begins, token_over, token_passed}
use Rattle.cilk_parser.proofs.Bricks.Stepping.{expects_only, from_steps, lacks_sign, reads_sign, sign_absent, stepping_same, unexpected_refuses}

-- From a state where the first token leads nowhere it is refused.
pub state_refuses : (state : State) (unfinished : finish state ≡ None) (spot : Spot) (refusal : ParseRefusal) → refusal ≡ unexpected_of spot.end spot.left →
    ((placed : Placed) (places : List Placed) → spot.left ≡ placed ∷ places → step state placed.token ≡ None) → Refuses (from state spot) refusal
state_refuses state unfinished spot refusal same none =
    subst (Refuses (from state spot)) (sym same)
    (subst (λ answer. Refuses answer (unexpected_of spot.end spot.left)) (sym (from_steps state unfinished spot)) (unexpected_refuses (step state) spot none))

-- ---- lists with commas

-- The machine goes on with a comma, or with the sign that closes the list.
pub record IsListed (steps : Token → Option Next) (level : ℕ) (more : State) (closing : Sign) (closed : State) : Type 0 where
  pub comma : steps (Mark Comma) ≡ goes_on (mark level Comma) more
  pub others : (token : Token) → is_mark Comma token ≡ false → steps token ≡ step_only (mark level closing) closed token

module _ (steps : Token → Option Next) (level : ℕ) (more : State) (closing : Sign) (closed : State) (listed : IsListed steps level more closing closed) where
  pub more_passed : (old new : Spot) → IsTrue (is_sign Comma old.left) → HasPassed level [] old new → stepping steps old ≡ from more new
  more_passed old new there passed = token_passed steps more level [] (Mark Comma) listed.comma old (sign_begins Comma old.left there) new passed

  pub more_over : (old : Spot) (refusal : ParseRefusal) → IsTrue (is_sign Comma old.left) → IsOver level [] old refusal → Refuses (stepping steps old) refusal
  more_over old refusal there over = token_over steps more level [] (Mark Comma) listed.comma old (sign_begins Comma old.left there) refusal over

  only_closes : (old : Spot) → is_sign Comma old.left ≡ false → stepping steps old ≡ stepping (step_only (mark level closing) closed) old
  only_closes old absent = stepping_same steps (step_only (mark level closing) closed) old (λ placed places first. listed.others placed.token (sign_absent Comma old.left places placed first absent))

  pub list_closed : (old new : Spot) → is_sign Comma old.left ≡ false → HasRead closing level old new → stepping steps old ≡ from closed new
  list_closed old new absent read = only_closes old absent ∙ reads_sign (step_only (mark level closing) closed) closing level closed (expects_only closing level closed) old new read

  pub list_open : (old : Spot) (refusal : ParseRefusal) → is_sign Comma old.left ≡ false → LacksSign closing level old refusal → Refuses (stepping steps old) refusal
  list_open old refusal absent lacks =
      subst (λ answer. Refuses answer refusal) (sym (only_closes old absent)) (lacks_sign (step_only (mark level closing) closed) closing level closed (expects_only closing level closed) old refusal lacks)

-- what one more gives stands behind what those before gave
pub gives_with_last : {T U : Type 0} (give : T → List U) (before : Option (Commas T)) (last : T) → if_there (commas_list give) before ++ give last ≡ commas_list give (with_last before last)
gives_with_last give None last = refl
gives_with_last give (Some before) last = refl
