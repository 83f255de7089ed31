-- What is read and refused where an operand begins.
use Rattle.std.proofs.Common.{◌≡◌, ℕ, ℤ, ◌+◌, false, IsTrue, None, List, [], ◌∷◌, ◌++◌, Result, Ok, Err, MatchResult, refl, ap, sym, ◌∙◌, subst, inl, inr, arith}
use Rattle.std.proofs.lemmas.Bool.{false≢true}
use Rattle.cilk_tree.specs.declared.count.Count.{Count}
use Rattle.cilk_tree.specs.declared.count.Count.TheVariants.{OneMore}
use Rattle.cilk_tree.specs.declared.count.Counted.TheVariants.{Operators}
use Rattle.cilk_tree.specs.declared.token.Placed.{Placed}
use Rattle.cilk_tree.specs.declared.token.Sign.TheVariants as sign
use Rattle.cilk_tree.specs.declared.token.Token.{Token}
use Rattle.cilk_tree.specs.declared.token.Token.TheVariants.{Name, Number, Mark}
use Rattle.cilk_tree.specs.declared.tree.Expr.{Expr}
use Rattle.cilk_tree.specs.declared.tree.Expr.TheVariants as expr
use Rattle.cilk_tree.specs.declared.tree.UnaryOp.{UnaryOp}
use Rattle.cilk_tree.specs.Levels.{counting, mark}
use Rattle.cilk_tree.specs.Syntax.{Numeral, Variable, Element, Group, Prefix}
use Rattle.cilk_parser.specs.declared.opening.Opening.{Opening}
use Rattle.cilk_parser.specs.declared.opening.Opening.TheVariants.{Inside}
use Rattle.cilk_parser.specs.declared.refusal.ParseRefusal.{ParseRefusal}
use Rattle.cilk_parser.specs.declared.starts.OperandStart.{OperandStart}
use Rattle.cilk_parser.specs.declared.starts.OperandStart.TheVariants as operand
use Rattle.cilk_parser.specs.Contexts.{ExpressionIn, Under, InIndex, InGroup, level_of, first_counts}
use Rattle.cilk_parser.specs.Spots.{Spot, from, Refuses, unexpected_of, is_sign, is_named, is_name_token, HasPassed, IsOver, HasNamed, LacksName}
use Rattle.cilk_parser.specs.Phrases.{Encloses, Fits, HasVariable, Lacks, LacksVariable, Parses, enclosed_phrase, expression_phrase, opening_counts}
use Rattle.cilk_parser.specs.Starts.{operand_start, starts_operand}
use Rattle.cilk_parser.specs.Steps.{Wants, Has, goes_on, step, step_has, step_only, step_wants}
use Rattle.cilk_parser.proofs.Bricks.BehindOperand.{name_is_whole, operand_is_whole}
use Rattle.cilk_parser.proofs.Bricks.Stepping.{from_steps, name_there, over_refuses, passed_shorter, passes_on, refuses_as, sign_there, unexpected_refuses}

-- ---- how an operand begins

-- how the machine goes on with a token that begins one
abbrev StartsAs : ExpressionIn → ℕ → List Count → Token → OperandStart → Type 0
StartsAs around level counts token (operand.Number value) = step_wants around token ≡ goes_on (counting level counts token) (Has around (Numeral value))
StartsAs around level counts token operand.Name = IsTrue (is_name_token token)
StartsAs around level counts token operand.Group = step_wants around token ≡ goes_on (counting level counts token) (Wants (InGroup around))
StartsAs around level counts token (operand.Prefix operator) = step_wants around token ≡ goes_on (counting level (counts ++ OneMore Operators ∷ []) token) (Wants (Under around operator))
StartsAs around level counts token operand.Other = step_wants around token ≡ None

wants_starts : (around : ExpressionIn) (token : Token) → StartsAs around (level_of around) (first_counts around) token (operand_start token)
wants_starts around (Number value) = refl
wants_starts around (Name name) = refl
wants_starts around (Mark sign.OpenParen) = refl
wants_starts around (Mark sign.Minus) = refl
wants_starts around (Mark sign.Bang) = refl
wants_starts around _ = refl

named_start : (around : ExpressionIn) (left : List Placed) → starts_operand left ≡ operand.Name → IsTrue (is_named left)
named_start around [] starts = absurd (cc)
named_start around (placed ∷ places) starts = subst (StartsAs around (level_of around) (first_counts around) placed.token) starts (wants_starts around placed.token)

module _ (least level : ℕ) (opening : Opening) (counts : List Count) (counted : counts ≡ opening_counts opening) (old : Spot) where
  module _ (around : ExpressionIn) (fits : Fits least level opening around) where
    starts_as : (placed : Placed) (rest : List Placed) (start : OperandStart) → old.left ≡ placed ∷ rest → starts_operand old.left ≡ start → StartsAs around level counts placed.token start
    starts_as placed rest start first starts =
        subst (StartsAs around level counts placed.token) (sym (ap starts_operand first) ∙ starts)
        (subst (λ l. StartsAs around l counts placed.token (operand_start placed.token)) fits.same_level
        (subst (λ cs. StartsAs around (level_of around) cs placed.token (operand_start placed.token)) (fits.counted ∙ sym counted) (wants_starts around placed.token)))

    starts_named : (placed : Placed) (name : List ℕ) → placed.token ≡ Name name → step_wants around placed.token ≡ goes_on (counting level counts placed.token) (Has around (Variable name))
    starts_named placed name named =
        ap (step_wants around) named ∙ ap (λ token. goes_on (counting (level_of around) (first_counts around) token) (Has around (Variable name))) (sym named) ∙
        ap (λ l. goes_on (counting l (first_counts around) placed.token) (Has around (Variable name))) fits.same_level ∙
        ap (λ cs. goes_on (counting level cs placed.token) (Has around (Variable name))) (fits.counted ∙ sym counted)

  -- a number
  module _ (value : ℤ) (starts : starts_operand old.left ≡ operand.Number value) where
    pub number_reads : (new : Spot) → HasPassed level counts old new → Parses (expression_phrase least level opening) old new (expr.Number value)
    unfolding step
    number_reads new passed = record {
      syntax = Numeral value;
      same = refl;
      shorter = passed_shorter level counts old new passed;
      leads = λ around fits.
          from_steps (Wants around) refl old ∙
          passes_on (step_wants around) (Has around (Numeral value)) level counts old new passed (starts_as around fits passed.placed new.left (operand.Number value) passed.first starts) ∙
          from_steps (Has around (Numeral value)) refl new;
    }

    pub number_lacks : (refusal : ParseRefusal) → IsOver level counts old refusal → Lacks (expression_phrase least level opening) old refusal
    unfolding step
    number_lacks refusal over around fits =
        refuses_as refusal _ _ (from_steps (Wants around) refl old)
        (over_refuses (step_wants around) (Has around (Numeral value)) level counts old refusal over (starts_as around fits over.placed over.rest (operand.Number value) over.first starts))

  -- a name
  module _ (name : List ℕ) (middle : Spot) (read : HasNamed level counts name old middle) where
    to_name : (around : ExpressionIn) → Fits least level opening around → from (Wants around) old ≡ from (Has around (Variable name)) middle
    unfolding step
    to_name around fits =
        from_steps (Wants around) refl old ∙
        passes_on (step_wants around) (Has around (Variable name)) level counts old middle read.passed (starts_named around fits read.passed.placed name read.named)

    name_reads : (new : Spot) (tree : Expr) → HasVariable level name middle new tree → Parses (expression_phrase least level opening) old new tree
    name_reads new tree then = record {
      syntax = then.syntax;
      same = then.same;
      shorter = let a = then.no_longer in let b = passed_shorter level counts old middle read.passed in omega arith;
      leads = λ around fits. to_name around fits ∙ then.leads around fits.same_level;
    }

    name_then_lacks : (refusal : ParseRefusal) → LacksVariable level name middle refusal → Lacks (expression_phrase least level opening) old refusal
    name_then_lacks refusal lacks around fits = refuses_as refusal _ _ (to_name around fits) (lacks around fits.same_level)

    -- what was read or refused behind the name
    pub name_answers : (new : Spot) (result : Result Expr ParseRefusal) → MatchResult result (λ tree. HasVariable level name middle new tree) (λ refusal. LacksVariable level name middle refusal) →
        MatchResult result (λ tree. Parses (expression_phrase least level opening) old new tree) (λ refusal. Lacks (expression_phrase least level opening) old refusal)
    name_answers new (Ok tree) answer = name_reads new tree answer
    name_answers new (Err refusal) answer = name_then_lacks refusal answer

  pub name_lacks : starts_operand old.left ≡ operand.Name → (refusal : ParseRefusal) → LacksName level counts old refusal → Lacks (expression_phrase least level opening) old refusal
  unfolding step
  name_lacks starts refusal lacks around fits = elim lacks [
    | inl memory ↦ subst (Refuses (from (Wants around) old)) (sym memory) tt
    | inr other ↦ elim other [
      | inl absent ↦ absurd (false≢true (sym absent.0 ∙ named_start around old.left starts))
      | inr over ↦
          let is = name_there over.1.placed.token (subst (λ l. IsTrue (is_named l)) over.1.first over.0) in
          refuses_as refusal _ _ (from_steps (Wants around) refl old)
          (over_refuses (step_wants around) (Has around (Variable is.0)) level counts old refusal over.1 (starts_named around fits over.1.placed is.0 is.1))
    ]
  ]

  -- an expression in parentheses
  module _ (starts : starts_operand old.left ≡ operand.Group) where
    pub group_over : (refusal : ParseRefusal) → IsOver level counts old refusal → Lacks (expression_phrase least level opening) old refusal
    unfolding step
    group_over refusal over around fits =
        refuses_as refusal _ _ (from_steps (Wants around) refl old)
        (over_refuses (step_wants around) (Wants (InGroup around)) level counts old refusal over (starts_as around fits over.placed over.rest operand.Group over.first starts))

    module _ (start : Spot) (passed : HasPassed level counts old start) where
      to_group : (around : ExpressionIn) → Fits least level opening around → from (Wants around) old ≡ from (Wants (InGroup around)) start
      unfolding step
      to_group around fits =
          from_steps (Wants around) refl old ∙
          passes_on (step_wants around) (Wants (InGroup around)) level counts old start passed (starts_as around fits passed.placed start.left operand.Group passed.first starts)

      in_group : (around : ExpressionIn) → Fits least level opening around → Encloses (level + 1) Inside (InGroup around) level sign.CloseParen (λ syntax. Has around (Group syntax))
      in_group around fits = record {
        fits = record { strong = refl; same_level = ap (λ l. l + 1) fits.same_level; counted = refl };
        closes = λ syntax token. ap (λ l. step_only (mark l sign.CloseParen) (Has around (Group syntax)) token) fits.same_level;
      }

      pub inner_lacks : (refusal : ParseRefusal) → Lacks (enclosed_phrase (level + 1) Inside sign.CloseParen level) start refusal → Lacks (expression_phrase least level opening) old refusal
      inner_lacks refusal lacks around fits = refuses_as refusal _ _ (to_group around fits) (lacks (InGroup around, _) (in_group around fits))

      pub group_reads : (new : Spot) (tree : Expr) → Parses (enclosed_phrase (level + 1) Inside sign.CloseParen level) start new tree → Parses (expression_phrase least level opening) old new tree
      unfolding step
      group_reads new tree read = record {
        syntax = Group read.syntax;
        same = read.same;
        shorter = let a = passed_shorter level counts old start passed in let b = read.shorter in omega arith;
        leads = λ around fits. to_group around fits ∙ read.leads (InGroup around, _) (in_group around fits) ∙ from_steps (Has around (Group read.syntax)) refl new;
      }

  -- nothing that begins one
  pub other_lacks : starts_operand old.left ≡ operand.Other → Lacks (expression_phrase least level opening) old (unexpected_of old.end old.left)
  unfolding step
  other_lacks starts around fits =
      refuses_as (unexpected_of old.end old.left) _ _ (from_steps (Wants around) refl old)
      (unexpected_refuses (step_wants around) old (λ placed places first. starts_as around fits placed places operand.Other first starts))

-- a unary operator and its operand
module _ (least level : ℕ) (opening : Opening) (operator : UnaryOp) (old : Spot) (counts : List Count) (counted : counts ≡ opening_counts opening ++ OneMore Operators ∷ []) (starts : starts_operand old.left ≡ operand.Prefix operator) where
  goes_prefix : (around : ExpressionIn) → Fits least level opening around → (placed : Placed) (rest : List Placed) → old.left ≡ placed ∷ rest → step_wants around placed.token ≡ goes_on (counting level counts placed.token) (Wants (Under around operator))
  goes_prefix around fits placed rest first =
      starts_as least level opening (opening_counts opening) refl old around fits placed rest (operand.Prefix operator) first starts ∙
      ap (λ cs. goes_on (counting level cs placed.token) (Wants (Under around operator))) (sym counted)

  pub prefix_over : (refusal : ParseRefusal) → IsOver level counts old refusal → Lacks (expression_phrase least level opening) old refusal
  unfolding step
  prefix_over refusal over around fits =
      refuses_as refusal _ _ (from_steps (Wants around) refl old)
      (over_refuses (step_wants around) (Wants (Under around operator)) level counts old refusal over (goes_prefix around fits over.placed over.rest over.first))

  module _ (start : Spot) (passed : HasPassed level counts old start) where
    to_under : (around : ExpressionIn) → Fits least level opening around → from (Wants around) old ≡ from (Wants (Under around operator)) start
    unfolding step
    to_under around fits =
        from_steps (Wants around) refl old ∙ passes_on (step_wants around) (Wants (Under around operator)) level counts old start passed (goes_prefix around fits passed.placed start.left passed.first)

    under_fits : (around : ExpressionIn) → Fits least level opening around → Fits 7 (level + 1) Inside (Under around operator)
    under_fits around fits = record { strong = refl; same_level = ap (λ l. l + 1) fits.same_level; counted = refl }

    pub prefix_lacks : (refusal : ParseRefusal) → Lacks (expression_phrase 7 (level + 1) Inside) start refusal → Lacks (expression_phrase least level opening) old refusal
    prefix_lacks refusal lacks around fits = refuses_as refusal _ _ (to_under around fits) (lacks (Under around operator) (under_fits around fits))

    pub prefix_reads : (new : Spot) (inner tree : Expr) → Parses (expression_phrase 7 (level + 1) Inside) start new inner → tree ≡ expr.Unary operator inner → Parses (expression_phrase least level opening) old new tree
    prefix_reads new inner tree read same = record {
      syntax = Prefix operator read.syntax;
      same = same ∙ ap (expr.Unary operator) read.same;
      shorter = let a = passed_shorter level counts old start passed in let b = read.shorter in omega arith;
      leads = λ around fits. to_under around fits ∙ read.leads (Under around operator) (under_fits around fits) ∙ operand_is_whole around operator read.syntax new;
    }

-- ---- behind a name

pub variable_reads : (level : ℕ) (name : List ℕ) (spot : Spot) → is_sign sign.OpenBracket spot.left ≡ false → HasVariable level name spot spot (expr.Local name)
variable_reads level name spot absent = record { syntax = Variable name; same = refl; no_longer = omega arith; leads = λ around same. name_is_whole around name spot absent }

module _ (level : ℕ) (name : List ℕ) (old : Spot) (there : IsTrue (is_sign sign.OpenBracket old.left)) where
  goes_index : (around : ExpressionIn) → level_of around ≡ level → (placed : Placed) (rest : List Placed) → old.left ≡ placed ∷ rest → step_has around (Variable name) placed.token ≡ goes_on (counting level [] placed.token) (Wants (InIndex around name))
  goes_index around same placed rest first =
      let is = sign_there sign.OpenBracket old.left rest placed first there in
      ap (step_has around (Variable name)) is ∙ ap (λ l. goes_on (mark l sign.OpenBracket) (Wants (InIndex around name))) same ∙
      ap (λ token. goes_on (counting level [] token) (Wants (InIndex around name))) (sym is)

  pub bracket_over : (refusal : ParseRefusal) → IsOver level [] old refusal → LacksVariable level name old refusal
  unfolding step
  bracket_over refusal over around same =
      refuses_as refusal _ _ (from_steps (Has around (Variable name)) refl old)
      (over_refuses (step_has around (Variable name)) (Wants (InIndex around name)) level [] old refusal over (goes_index around same over.placed over.rest over.first))

  module _ (start : Spot) (passed : HasPassed level [] old start) where
    to_index : (around : ExpressionIn) → level_of around ≡ level → from (Has around (Variable name)) old ≡ from (Wants (InIndex around name)) start
    unfolding step
    to_index around same =
        from_steps (Has around (Variable name)) refl old ∙
        passes_on (step_has around (Variable name)) (Wants (InIndex around name)) level [] old start passed (goes_index around same passed.placed start.left passed.first)

    in_index : (around : ExpressionIn) → level_of around ≡ level → Encloses (level + 1) Inside (InIndex around name) level sign.CloseBracket (λ syntax. Has around (Element name syntax))
    in_index around same = record {
      fits = record { strong = refl; same_level = ap (λ l. l + 1) same; counted = refl };
      closes = λ syntax token. ap (λ l. step_only (mark l sign.CloseBracket) (Has around (Element name syntax)) token) same;
    }

    pub index_lacks : (refusal : ParseRefusal) → Lacks (enclosed_phrase (level + 1) Inside sign.CloseBracket level) start refusal → LacksVariable level name old refusal
    index_lacks refusal lacks around same = refuses_as refusal _ _ (to_index around same) (lacks (InIndex around name, _) (in_index around same))

    pub index_reads : (new : Spot) (index tree : Expr) → Parses (enclosed_phrase (level + 1) Inside sign.CloseBracket level) start new index → tree ≡ expr.Get name index → HasVariable level name old new tree
    unfolding step
    index_reads new index tree read same_tree = record {
      syntax = Element name read.syntax;
      same = same_tree ∙ ap (expr.Get name) read.same;
      no_longer = let a = passed_shorter level [] old start passed in let b = read.shorter in omega arith;
      leads = λ around same. to_index around same ∙ read.leads (InIndex around name, _) (in_index around same) ∙ from_steps (Has around (Element name read.syntax)) refl new;
    }
