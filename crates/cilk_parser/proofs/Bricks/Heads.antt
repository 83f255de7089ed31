-- The parts between the parentheses of a `for`, and an assignment, a step or a store with the sign behind it.
use Rattle.std.proofs.Common.{◌≡◌, ℕ, pos, ◌+◌, false, IsTrue, Option, Some, None, List, [], ◌∷◌, ◌++◌, refl, ap, sym, ◌∙◌, arith}
use Rattle.std.proofs.lemmas.List.{append-nil}
use Rattle.cilk_tree.specs.declared.token.Keyword.TheVariants as word
use Rattle.cilk_tree.specs.declared.token.Sign.{Sign}
use Rattle.cilk_tree.specs.declared.token.Sign.TheVariants as sign
use Rattle.cilk_tree.specs.declared.token.Token.{Token}
use Rattle.cilk_tree.specs.declared.token.Token.TheVariants.{Name, Word, Mark}
use Rattle.cilk_tree.specs.declared.tree.Expr.{Expr}
use Rattle.cilk_tree.specs.declared.tree.Expr.TheVariants as expr
use Rattle.cilk_tree.specs.declared.tree.Stmt.{Stmt}
use Rattle.cilk_tree.specs.Levels.{plain, mark}
use Rattle.cilk_tree.specs.Syntax.{Expression, Simple, Start, NoStart, SimpleStart, DeclaringStart}
use Rattle.cilk_parser.specs.declared.opening.Opening.TheVariants.{Whole}
use Rattle.cilk_parser.specs.declared.refusal.ParseRefusal.{ParseRefusal}
use Rattle.cilk_parser.specs.Contexts.{StatementIn, SimpleIn, AsForStart, AsForLast, AsForDeclaration, ForBody, ForCondition, simple_level, statement_level}
use Rattle.cilk_parser.specs.Spots.{Spot, from, Refuses, HasPassed, IsOver, HasRead, LacksSign, HasNamed, LacksName, is_sign, is_keyword, is_keyword_token, stepping}
use Rattle.cilk_parser.specs.Phrases.{Encloses, Lacks, LacksSimple, Parses, declaration_phrase, enclosed_phrase, for_condition_phrase, for_last_phrase, for_start_phrase, simple_phrase}
use Rattle.cilk_parser.specs.Steps.{Wants, AwaitsName, AfterName, AtBody, AtForStart, AtForCondition, AtForLast, DeclaratorName, SimpleEnd, awaited_state, awaited_token, goes_on, is_mark, step, step_for_condition, step_for_last, step_for_start, step_only, step_wants}
use Rattle.cilk_parser.proofs.Bricks.Beginnings.{expects_step_named, keyword_begins, sign_begins, step_named, known_passed, known_over}
use Rattle.cilk_parser.proofs.Bricks.Stepping.{awaits_lacks, awaits_sign, from_steps, keyword_absent, lacks_name, passed_shorter, reads_name, refuses_as, sign_absent, stepping_same}

-- ---- an assignment, a step or a store, and the sign behind it

module _ (outer : SimpleIn) (closing : Sign) (own : ℕ) (closes : (simple : Simple) → awaited_token (SimpleEnd outer simple) ≡ mark own closing) (level : ℕ) (same : simple_level outer ≡ level)
    (name : List ℕ) (old middle : Spot) (tree : Stmt) (read : Parses (simple_phrase level name) old middle tree) where
  pub simple_ends : (new : Spot) → HasRead closing own middle new → from (AfterName outer name) old ≡ from (awaited_state (SimpleEnd outer read.syntax)) new
  simple_ends new closed = read.leads outer same ∙ awaits_sign (SimpleEnd outer read.syntax) closing own (closes read.syntax) middle new closed

  pub simple_open : (refusal : ParseRefusal) → LacksSign closing own middle refusal → Refuses (from (AfterName outer name) old) refusal
  simple_open refusal lacks = refuses_as refusal _ _ (read.leads outer same) (awaits_lacks (SimpleEnd outer read.syntax) closing own (closes read.syntax) middle refusal lacks)

-- ---- the first part

start_named : (outer : StatementIn) (token : Token) → is_mark sign.Semicolon token ≡ false → is_keyword_token word.Int token ≡ false → step_for_start outer token ≡ step_named (statement_level outer + 1) (AfterName (AsForStart outer)) token
start_named outer (Mark sign.Semicolon) no_end no_int = absurd (cc)
start_named outer (Word word.Int) no_end no_int = absurd (cc)
start_named outer (Name name) no_end no_int = refl
start_named outer _ no_end no_int = refl

module _ (level : ℕ) (old : Spot) (there : IsTrue (is_sign sign.Semicolon old.left)) where
  goes_past : (outer : StatementIn) → statement_level outer + 1 ≡ level → step (AtForStart outer) (Mark sign.Semicolon) ≡ goes_on (mark level sign.Semicolon) (AtForCondition outer NoStart)
  unfolding step
  goes_past outer same = ap (λ l. goes_on (mark l sign.Semicolon) (AtForCondition outer NoStart)) same

  pub no_start_reads : (new : Spot) (before : List Stmt) → HasPassed level [] old new → Parses (for_start_phrase level) old new (before, before)
  no_start_reads new before passed = record {
    syntax = NoStart;
    same = sym (append-nil before);
    shorter = passed_shorter level [] old new passed;
    leads = λ outer same. known_passed (AtForStart outer) refl (Mark sign.Semicolon) level level [] (AtForCondition outer NoStart) refl (goes_past outer same) old (sign_begins sign.Semicolon old.left there) new passed;
  }

  pub no_start_over : (refusal : ParseRefusal) → IsOver level [] old refusal → Lacks (for_start_phrase level) old refusal
  no_start_over refusal over outer same = known_over (AtForStart outer) refl (Mark sign.Semicolon) level level [] (AtForCondition outer NoStart) refl (goes_past outer same) old (sign_begins sign.Semicolon old.left there) refusal over

module _ (level : ℕ) (old : Spot) (there : IsTrue (is_keyword word.Int old.left)) where
  goes_declaring : (outer : StatementIn) → statement_level outer + 1 ≡ level → step (AtForStart outer) (Word word.Int) ≡ goes_on (plain level (Word word.Int)) (AwaitsName (DeclaratorName (AsForDeclaration outer) None))
  unfolding step
  goes_declaring outer same = ap (λ l. goes_on (plain l (Word word.Int)) (AwaitsName (DeclaratorName (AsForDeclaration outer) None))) same

  pub declaring_over : (refusal : ParseRefusal) → IsOver level [] old refusal → Lacks (for_start_phrase level) old refusal
  declaring_over refusal over outer same =
      known_over (AtForStart outer) refl (Word word.Int) level level [] (AwaitsName (DeclaratorName (AsForDeclaration outer) None)) refl (goes_declaring outer same) old (keyword_begins word.Int old.left there) refusal over

  module _ (middle : Spot) (passed : HasPassed level [] old middle) where
    to_declaration : (outer : StatementIn) → statement_level outer + 1 ≡ level → from (AtForStart outer) old ≡ from (AwaitsName (DeclaratorName (AsForDeclaration outer) None)) middle
    to_declaration outer same =
        known_passed (AtForStart outer) refl (Word word.Int) level level [] (AwaitsName (DeclaratorName (AsForDeclaration outer) None)) refl (goes_declaring outer same) old (keyword_begins word.Int old.left there) middle passed

    pub declaring_reads : (new : Spot) (before now : List Stmt) → Parses (declaration_phrase level) middle new (before, now) → Parses (for_start_phrase level) old new (before, now)
    declaring_reads new before now read = record {
      syntax = DeclaringStart read.syntax;
      same = read.same;
      shorter = let a = passed_shorter level [] old middle passed in let b = read.shorter in omega arith;
      leads = λ outer same. to_declaration outer same ∙ read.leads (AsForDeclaration outer) same;
    }

    pub declaring_lacks : (refusal : ParseRefusal) → Lacks (declaration_phrase level) middle refusal → Lacks (for_start_phrase level) old refusal
    declaring_lacks refusal lacks outer same = refuses_as refusal _ _ (to_declaration outer same) (lacks (AsForDeclaration outer) same)

module _ (level : ℕ) (old : Spot) (no_end : is_sign sign.Semicolon old.left ≡ false) (no_int : is_keyword word.Int old.left ≡ false) where
  at_start_name : (outer : StatementIn) → from (AtForStart outer) old ≡ stepping (step_named (statement_level outer + 1) (AfterName (AsForStart outer))) old
  unfolding step
  at_start_name outer =
      from_steps (AtForStart outer) refl old ∙
      stepping_same (step_for_start outer) (step_named (statement_level outer + 1) (AfterName (AsForStart outer))) old
      (λ placed places first. start_named outer placed.token (sign_absent sign.Semicolon old.left places placed first no_end) (keyword_absent word.Int old.left places placed first no_int))

  pub start_unnamed : (refusal : ParseRefusal) → LacksName level [] old refusal → Lacks (for_start_phrase level) old refusal
  start_unnamed refusal lacks outer same =
      refuses_as refusal _ _ (at_start_name outer) (lacks_name (step_named (statement_level outer + 1) (AfterName (AsForStart outer))) level [] (AfterName (AsForStart outer)) (expects_step_named (statement_level outer + 1) level (AfterName (AsForStart outer)) same) old refusal lacks)

  module _ (name : List ℕ) (middle : Spot) (named : HasNamed level [] name old middle) where
    to_start_simple : (outer : StatementIn) → statement_level outer + 1 ≡ level → from (AtForStart outer) old ≡ from (AfterName (AsForStart outer) name) middle
    to_start_simple outer same =
        at_start_name outer ∙ reads_name (step_named (statement_level outer + 1) (AfterName (AsForStart outer))) level [] (AfterName (AsForStart outer)) (expects_step_named (statement_level outer + 1) level (AfterName (AsForStart outer)) same) name old middle named

    pub start_lacks : (refusal : ParseRefusal) → LacksSimple level name middle refusal → Lacks (for_start_phrase level) old refusal
    start_lacks refusal lacks outer same = refuses_as refusal _ _ (to_start_simple outer same) (lacks (AsForStart outer) same refl)

    module _ (later : Spot) (tree : Stmt) (read : Parses (simple_phrase level name) middle later tree) where
      pub start_unended : (refusal : ParseRefusal) → LacksSign sign.Semicolon level later refusal → Lacks (for_start_phrase level) old refusal
      start_unended refusal lacks outer same =
          refuses_as refusal _ _ (to_start_simple outer same)
          (simple_open (AsForStart outer) sign.Semicolon level (λ simple. ap (λ l. mark l sign.Semicolon) same) level same name middle later tree read refusal lacks)

      pub start_reads : (new : Spot) (before now : List Stmt) → HasRead sign.Semicolon level later new → now ≡ before ++ tree ∷ [] → Parses (for_start_phrase level) old new (before, now)
      start_reads new before now ended added = record {
        syntax = SimpleStart read.syntax;
        same = added ∙ ap (λ t. before ++ t ∷ []) read.same;
        shorter = let a = passed_shorter level [] old middle named.passed in let b = passed_shorter level [] later new ended.passed in let d = read.shorter in omega arith;
        leads = λ outer same.
            to_start_simple outer same ∙ simple_ends (AsForStart outer) sign.Semicolon level (λ simple. ap (λ l. mark l sign.Semicolon) same) level same name middle later tree read new ended;
      }

-- ---- the condition

condition_wanted : (outer : StatementIn) (start : Start) (token : Token) → is_mark sign.Semicolon token ≡ false → step_for_condition outer start token ≡ step_wants (ForCondition outer start) token
condition_wanted outer start (Mark sign.Semicolon) absent = absurd (cc)
condition_wanted outer start _ absent = refl

module _ (level : ℕ) (old : Spot) (there : IsTrue (is_sign sign.Semicolon old.left)) where
  goes_without : (outer : StatementIn) (start : Start) → statement_level outer + 1 ≡ level → step (AtForCondition outer start) (Mark sign.Semicolon) ≡ goes_on (mark level sign.Semicolon) (AtForLast outer start None)
  unfolding step
  goes_without outer start same = ap (λ l. goes_on (mark l sign.Semicolon) (AtForLast outer start None)) same

  pub no_condition_reads : (new : Spot) → HasPassed level [] old new → Parses (for_condition_phrase level) old new (expr.Number (pos 1))
  no_condition_reads new passed = record {
    syntax = None;
    same = refl;
    shorter = passed_shorter level [] old new passed;
    leads = λ (outer, start) same. known_passed (AtForCondition outer start) refl (Mark sign.Semicolon) level level [] (AtForLast outer start None) refl (goes_without outer start same) old (sign_begins sign.Semicolon old.left there) new passed;
  }

  pub no_condition_over : (refusal : ParseRefusal) → IsOver level [] old refusal → Lacks (for_condition_phrase level) old refusal
  no_condition_over refusal over (outer, start) same =
      known_over (AtForCondition outer start) refl (Mark sign.Semicolon) level level [] (AtForLast outer start None) refl (goes_without outer start same) old (sign_begins sign.Semicolon old.left there) refusal over

for_encloses : (level : ℕ) (outer : StatementIn) (start : Start) → statement_level outer + 1 ≡ level → Encloses level Whole (ForCondition outer start) level sign.Semicolon (λ syntax. AtForLast outer start (Some syntax))
for_encloses level outer start same = record {
  fits = record { strong = refl; same_level = same; counted = refl };
  closes = λ syntax token. ap (λ l. step_only (mark l sign.Semicolon) (AtForLast outer start (Some syntax)) token) same;
}

module _ (level : ℕ) (old : Spot) (absent : is_sign sign.Semicolon old.left ≡ false) where
  at_condition : (outer : StatementIn) (start : Start) → from (AtForCondition outer start) old ≡ from (Wants (ForCondition outer start)) old
  unfolding step
  at_condition outer start =
      from_steps (AtForCondition outer start) refl old
      ∙ stepping_same (step_for_condition outer start) (step_wants (ForCondition outer start)) old (λ placed places first. condition_wanted outer start placed.token (sign_absent sign.Semicolon old.left places placed first absent))
      ∙ sym (from_steps (Wants (ForCondition outer start)) refl old)

  pub for_condition_lacks : (refusal : ParseRefusal) → Lacks (enclosed_phrase level Whole sign.Semicolon level) old refusal → Lacks (for_condition_phrase level) old refusal
  for_condition_lacks refusal lacks (outer, start) same = refuses_as refusal _ _ (at_condition outer start) (lacks (ForCondition outer start, _) (for_encloses level outer start same))

  pub for_condition_reads : (new : Spot) (tree : Expr) → Parses (enclosed_phrase level Whole sign.Semicolon level) old new tree → Parses (for_condition_phrase level) old new tree
  for_condition_reads new tree read = record {
    syntax = Some read.syntax;
    same = read.same;
    shorter = read.shorter;
    leads = λ (outer, start) same. at_condition outer start ∙ read.leads (ForCondition outer start, _) (for_encloses level outer start same);
  }

-- ---- the last part

last_named : (outer : StatementIn) (start : Start) (condition : Option Expression) (token : Token) → is_mark sign.CloseParen token ≡ false →
    step_for_last outer start condition token ≡ step_named (statement_level outer + 2) (AfterName (AsForLast outer start condition)) token
last_named outer start condition (Mark sign.CloseParen) absent = absurd (cc)
last_named outer start condition (Name name) absent = refl
last_named outer start condition _ absent = refl

module _ (level own : ℕ) (old : Spot) (there : IsTrue (is_sign sign.CloseParen old.left)) where
  goes_inside : (outer : StatementIn) (start : Start) (condition : Option Expression) → statement_level outer ≡ own → step (AtForLast outer start condition) (Mark sign.CloseParen) ≡ goes_on (mark own sign.CloseParen) (AtBody (ForBody outer start condition None))
  unfolding step
  goes_inside outer start condition same = ap (λ l. goes_on (mark l sign.CloseParen) (AtBody (ForBody outer start condition None))) same

  pub no_last_reads : (new : Spot) (before : List Stmt) → HasPassed own [] old new → Parses (for_last_phrase level own) old new (before, before)
  no_last_reads new before passed = record {
    syntax = None;
    same = sym (append-nil before);
    shorter = passed_shorter own [] old new passed;
    leads = λ (outer, start, condition) (same, same_own).
        known_passed (AtForLast outer start condition) refl (Mark sign.CloseParen) own own [] (AtBody (ForBody outer start condition None)) refl (goes_inside outer start condition same_own) old (sign_begins sign.CloseParen old.left there) new passed;
  }

  pub no_last_over : (refusal : ParseRefusal) → IsOver own [] old refusal → Lacks (for_last_phrase level own) old refusal
  no_last_over refusal over (outer, start, condition) (same, same_own) =
      known_over (AtForLast outer start condition) refl (Mark sign.CloseParen) own own [] (AtBody (ForBody outer start condition None)) refl (goes_inside outer start condition same_own) old (sign_begins sign.CloseParen old.left there) refusal over

module _ (level own : ℕ) (old : Spot) (absent : is_sign sign.CloseParen old.left ≡ false) where
  at_last_name : (outer : StatementIn) (start : Start) (condition : Option Expression) → from (AtForLast outer start condition) old ≡ stepping (step_named (statement_level outer + 2) (AfterName (AsForLast outer start condition))) old
  unfolding step
  at_last_name outer start condition =
      from_steps (AtForLast outer start condition) refl old ∙
      stepping_same (step_for_last outer start condition) (step_named (statement_level outer + 2) (AfterName (AsForLast outer start condition))) old
      (λ placed places first. last_named outer start condition placed.token (sign_absent sign.CloseParen old.left places placed first absent))

  pub last_unnamed : (refusal : ParseRefusal) → LacksName level [] old refusal → Lacks (for_last_phrase level own) old refusal
  last_unnamed refusal lacks (outer, start, condition) (same, same_own) =
      refuses_as refusal _ _ (at_last_name outer start condition)
      (lacks_name (step_named (statement_level outer + 2) (AfterName (AsForLast outer start condition))) level [] (AfterName (AsForLast outer start condition)) (expects_step_named (statement_level outer + 2) level (AfterName (AsForLast outer start condition)) same) old refusal lacks)

  module _ (name : List ℕ) (middle : Spot) (named : HasNamed level [] name old middle) where
    to_last_simple : (outer : StatementIn) (start : Start) (condition : Option Expression) → statement_level outer + 2 ≡ level → from (AtForLast outer start condition) old ≡ from (AfterName (AsForLast outer start condition) name) middle
    to_last_simple outer start condition same =
        at_last_name outer start condition ∙
        reads_name (step_named (statement_level outer + 2) (AfterName (AsForLast outer start condition))) level [] (AfterName (AsForLast outer start condition)) (expects_step_named (statement_level outer + 2) level (AfterName (AsForLast outer start condition)) same) name old middle named

    pub last_lacks : (refusal : ParseRefusal) → LacksSimple level name middle refusal → Lacks (for_last_phrase level own) old refusal
    last_lacks refusal lacks (outer, start, condition) (same, same_own) = refuses_as refusal _ _ (to_last_simple outer start condition same) (lacks (AsForLast outer start condition) same refl)

    module _ (later : Spot) (tree : Stmt) (read : Parses (simple_phrase level name) middle later tree) where
      pub last_unended : (refusal : ParseRefusal) → LacksSign sign.CloseParen own later refusal → Lacks (for_last_phrase level own) old refusal
      last_unended refusal lacks (outer, start, condition) (same, same_own) =
          refuses_as refusal _ _ (to_last_simple outer start condition same)
          (simple_open (AsForLast outer start condition) sign.CloseParen own (λ simple. ap (λ l. mark l sign.CloseParen) same_own) level same name middle later tree read refusal lacks)

      pub last_reads : (new : Spot) (before now : List Stmt) → HasRead sign.CloseParen own later new → now ≡ before ++ tree ∷ [] → Parses (for_last_phrase level own) old new (before, now)
      last_reads new before now ended added = record {
        syntax = Some read.syntax;
        same = added ∙ ap (λ t. before ++ t ∷ []) read.same;
        shorter = let a = passed_shorter level [] old middle named.passed in let b = passed_shorter own [] later new ended.passed in let d = read.shorter in omega arith;
        leads = λ (outer, start, condition) (same, same_own).
            to_last_simple outer start condition same ∙
            simple_ends (AsForLast outer start condition) sign.CloseParen own (λ simple. ap (λ l. mark l sign.CloseParen) same_own) level same name middle later tree read new ended;
      }
