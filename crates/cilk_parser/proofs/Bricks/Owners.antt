-- `if` and the loops, which hold bodies.
use Rattle.std.proofs.Common.{◌≡◌, ℕ, ◌+◌, false, IsTrue, Option, Some, None, List, [], ◌∷◌, ◌++◌, refl, ap, ◌∙◌, arith}
use Rattle.cilk_tree.specs.declared.token.Keyword.TheVariants as word
use Rattle.cilk_tree.specs.declared.token.Sign.TheVariants as sign
use Rattle.cilk_tree.specs.declared.token.Token.{Token}
use Rattle.cilk_tree.specs.declared.token.Token.TheVariants.{Word}
use Rattle.cilk_tree.specs.declared.tree.Expr.{Expr}
use Rattle.cilk_tree.specs.declared.tree.Stmt.{Stmt}
use Rattle.cilk_tree.specs.declared.tree.Stmt.TheVariants as stmt
use Rattle.cilk_tree.specs.Levels.{plain, mark}
use Rattle.cilk_tree.specs.Sugar.{body_trees, expression_tree, if_there, statement_trees}
use Rattle.cilk_tree.specs.Syntax.{Expression, Body, WhileLoop, ForLoop}
use Rattle.cilk_parser.specs.declared.refusal.ParseRefusal.{ParseRefusal}
use Rattle.cilk_parser.specs.declared.statement.ForHead.{ForHead}
use Rattle.cilk_parser.specs.declared.starts.StatementStart.{StatementStart}
use Rattle.cilk_parser.specs.declared.starts.StatementStart.TheVariants as statement
use Rattle.cilk_parser.specs.Contexts.{ExpressionIn, BodyIn, IfTaken, IfOtherwise, WhileBody, ForBody, IfCondition, WhileCondition, StatementIn, body_level, owner_level, statement_level}
use Rattle.cilk_parser.specs.Spots.{Spot, from, HasPassed, IsOver, HasRead, LacksSign, is_keyword, stepping}
use Rattle.cilk_parser.specs.Phrases.{HasElse, LacksElse, if_statement, IsCondition, Lacks, Parses, body_phrase, condition_phrase, for_condition_phrase, for_head_phrase, for_last_phrase, for_start_phrase, statement_phrase}
use Rattle.cilk_parser.specs.Starts.{starts_statement}
use Rattle.cilk_parser.specs.Steps.{Awaited, Awaits, AtBody, AtForCondition, AtForLast, AtForStart, ForOpen, HasBody, IfOpen, WhileOpen, goes_on, step, step_statement}
use Rattle.cilk_parser.proofs.Bricks.Beginnings.{IsBegun, begun_for, begun_if, begun_over, begun_passed, begun_while, keyword_begins, known_passed, known_over}
use Rattle.cilk_parser.proofs.Bricks.Bodies.{else_ends, for_ends, if_ends, while_ends}
use Rattle.cilk_parser.proofs.Bricks.Conditions.{condition_of_if, condition_of_while}
use Rattle.cilk_parser.proofs.Bricks.Stepping.{awaits_lacks, awaits_sign, passed_shorter, refuses_as}

-- ---- a condition and a body

-- A statement that begins so has a condition in parentheses and a body.
pub record HasHead (start : StatementStart) (token : Token) (opening : StatementIn → Awaited) (around : StatementIn → ExpressionIn) (owner : StatementIn → Expression → BodyIn) : Type 0 where
  pub begun : IsBegun start token (λ outer. Awaits (opening outer))
  pub condition : (level : ℕ) (outer : StatementIn) → statement_level outer ≡ level → IsCondition level (around outer) (Awaits (opening outer)) (λ syntax. AtBody (owner outer syntax))
  pub inner : (outer : StatementIn) (condition : Expression) → body_level (owner outer condition) ≡ statement_level outer + 1
  pub own : (outer : StatementIn) (condition : Expression) → owner_level (owner outer condition) ≡ statement_level outer

pub head_of_if : HasHead statement.If (Word word.If) IfOpen IfCondition IfTaken
head_of_if = record { begun = begun_if; condition = condition_of_if; inner = λ outer condition. refl; own = λ outer condition. refl }

pub head_of_while : HasHead statement.While (Word word.While) WhileOpen WhileCondition WhileBody
head_of_while = record { begun = begun_while; condition = condition_of_while; inner = λ outer condition. refl; own = λ outer condition. refl }

module _ (start : StatementStart) (token : Token) (opening : StatementIn → Awaited) (around : StatementIn → ExpressionIn) (owner : StatementIn → Expression → BodyIn) (head : HasHead start token opening around owner)
    (level : ℕ) (old : Spot) (there : starts_statement old.left ≡ start) where
  pub head_over : (refusal : ParseRefusal) → IsOver level [] old refusal → Lacks (statement_phrase level) old refusal
  head_over refusal over = begun_over start token (λ outer. Awaits (opening outer)) head.begun level old there refusal over

  module _ (middle : Spot) (passed : HasPassed level [] old middle) where
    to_condition : (outer : StatementIn) → statement_level outer ≡ level → stepping (step_statement outer) old ≡ from (Awaits (opening outer)) middle
    to_condition = begun_passed start token (λ outer. Awaits (opening outer)) head.begun level old there middle passed

    pub head_lacks : (refusal : ParseRefusal) → Lacks (condition_phrase level) middle refusal → Lacks (statement_phrase level) old refusal
    head_lacks refusal lacks outer same = refuses_as refusal _ _ (to_condition outer same) (lacks (around outer, Awaits (opening outer), λ syntax. AtBody (owner outer syntax)) (head.condition level outer same))

    module _ (later : Spot) (tree : Expr) (condition : Parses (condition_phrase level) middle later tree) where
      to_body : (outer : StatementIn) → statement_level outer ≡ level → stepping (step_statement outer) old ≡ from (AtBody (owner outer condition.syntax)) later
      to_body outer same = to_condition outer same ∙ condition.leads (around outer, Awaits (opening outer), λ syntax. AtBody (owner outer syntax)) (head.condition level outer same)

      pub head_without : (refusal : ParseRefusal) → Lacks (body_phrase (level + 1) level) later refusal → Lacks (statement_phrase level) old refusal
      head_without refusal lacks outer same =
          refuses_as refusal _ _ (to_body outer same) (lacks (owner outer condition.syntax) (head.inner outer condition.syntax ∙ ap (λ l. l + 1) same, head.own outer condition.syntax ∙ same))

      module _ (new : Spot) (trees : List Stmt) (body : Parses (body_phrase (level + 1) level) later new trees) where
        pub behind_head : (outer : StatementIn) → statement_level outer ≡ level → stepping (step_statement outer) old ≡ from (HasBody (owner outer condition.syntax) body.syntax) new
        behind_head outer same = to_body outer same ∙ body.leads (owner outer condition.syntax) (head.inner outer condition.syntax ∙ ap (λ l. l + 1) same, head.own outer condition.syntax ∙ same)

-- ---- `while`

module _ (level : ℕ) (old : Spot) (there : starts_statement old.left ≡ statement.While) (middle : Spot) (passed : HasPassed level [] old middle) (later : Spot) (tree : Expr) (condition : Parses (condition_phrase level) middle later tree)
    (new : Spot) (trees : List Stmt) (body : Parses (body_phrase (level + 1) level) later new trees) where
  pub while_reads : (before now : List Stmt) → now ≡ before ++ stmt.While tree trees ∷ [] → Parses (statement_phrase level) old new (before, now)
  while_reads before now added = record {
    syntax = WhileLoop condition.syntax body.syntax;
    same = added ∙ rw (condition.same, body.same) refl;
    shorter = let a = passed_shorter level [] old middle passed in let b = condition.shorter in let d = body.shorter in omega arith;
    leads = λ outer same.
        behind_head statement.While (Word word.While) WhileOpen WhileCondition WhileBody head_of_while level old there middle passed later tree condition new trees body outer same ∙ while_ends outer condition.syntax body.syntax new;
  }

-- ---- `else`

pub no_else : (level : ℕ) (old : Spot) → is_keyword word.Else old.left ≡ false → HasElse level old old []
no_else level old absent = record { otherwise = None; same = refl; no_longer = omega arith; leads = λ outer condition taken same. if_ends outer condition taken old absent }

module _ (level : ℕ) (old : Spot) (there : IsTrue (is_keyword word.Else old.left)) where
  goes_otherwise : (outer : StatementIn) (condition : Expression) (taken : Body) → statement_level outer ≡ level →
      step (HasBody (IfTaken outer condition) taken) (Word word.Else) ≡ goes_on (plain level (Word word.Else)) (AtBody (IfOtherwise outer condition taken))
  unfolding step
  goes_otherwise outer condition taken same = ap (λ l. goes_on (plain l (Word word.Else)) (AtBody (IfOtherwise outer condition taken))) same

  pub else_over : (refusal : ParseRefusal) → IsOver level [] old refusal → LacksElse level old refusal
  else_over refusal over outer condition taken same =
      known_over (HasBody (IfTaken outer condition) taken) refl (Word word.Else) level level [] (AtBody (IfOtherwise outer condition taken)) refl (goes_otherwise outer condition taken same) old (keyword_begins word.Else old.left there) refusal over

  module _ (middle : Spot) (passed : HasPassed level [] old middle) where
    to_otherwise : (outer : StatementIn) (condition : Expression) (taken : Body) → statement_level outer ≡ level → from (HasBody (IfTaken outer condition) taken) old ≡ from (AtBody (IfOtherwise outer condition taken)) middle
    to_otherwise outer condition taken same =
        known_passed (HasBody (IfTaken outer condition) taken) refl (Word word.Else) level level [] (AtBody (IfOtherwise outer condition taken)) refl (goes_otherwise outer condition taken same) old (keyword_begins word.Else old.left there) middle passed

    pub else_lacks : (refusal : ParseRefusal) → Lacks (body_phrase (level + 1) level) middle refusal → LacksElse level old refusal
    else_lacks refusal lacks outer condition taken same = refuses_as refusal _ _ (to_otherwise outer condition taken same) (lacks (IfOtherwise outer condition taken) (ap (λ l. l + 1) same, same))

    pub else_reads : (new : Spot) (trees : List Stmt) → Parses (body_phrase (level + 1) level) middle new trees → HasElse level old new trees
    else_reads new trees body = record {
      otherwise = Some body.syntax;
      same = body.same;
      no_longer = let a = passed_shorter level [] old middle passed in let b = body.shorter in omega arith;
      leads = λ outer condition taken same.
          to_otherwise outer condition taken same ∙ body.leads (IfOtherwise outer condition taken) (ap (λ l. l + 1) same, same) ∙ else_ends outer condition taken body.syntax new;
    }

-- ---- `if`

if_trees : (condition : Expression) (taken : Body) (otherwise : Option Body) → stmt.If (expression_tree condition) (body_trees taken) (if_there body_trees otherwise) ∷ [] ≡ statement_trees (if_statement condition taken otherwise)
if_trees condition taken None = refl
if_trees condition taken (Some body) = refl

module _ (level : ℕ) (old : Spot) (there : starts_statement old.left ≡ statement.If) (middle : Spot) (passed : HasPassed level [] old middle) (later : Spot) (tree : Expr) (condition : Parses (condition_phrase level) middle later tree)
    (third : Spot) (trees : List Stmt) (taken : Parses (body_phrase (level + 1) level) later third trees) where
  behind_taken : (outer : StatementIn) → statement_level outer ≡ level → stepping (step_statement outer) old ≡ from (HasBody (IfTaken outer condition.syntax) taken.syntax) third
  behind_taken = behind_head statement.If (Word word.If) IfOpen IfCondition IfTaken head_of_if level old there middle passed later tree condition third trees taken

  pub if_lacks : (refusal : ParseRefusal) → LacksElse level third refusal → Lacks (statement_phrase level) old refusal
  if_lacks refusal lacks outer same = refuses_as refusal _ _ (behind_taken outer same) (lacks outer condition.syntax taken.syntax same)

  pub if_reads : (new : Spot) (others : List Stmt) → HasElse level third new others → (before now : List Stmt) → now ≡ before ++ stmt.If tree trees others ∷ [] → Parses (statement_phrase level) old new (before, now)
  if_reads new others read before now added = record {
    syntax = if_statement condition.syntax taken.syntax read.otherwise;
    same = added ∙ rw (condition.same, taken.same, read.same) (ap (λ one. before ++ one) (if_trees condition.syntax taken.syntax read.otherwise));
    shorter = let a = passed_shorter level [] old middle passed in let b = condition.shorter in let d = taken.shorter in let e = read.no_longer in omega arith;
    leads = λ outer same. behind_taken outer same ∙ read.leads outer condition.syntax taken.syntax same;
  }

-- ---- `for`

pub for_over : (level : ℕ) (old : Spot) (refusal : ParseRefusal) → starts_statement old.left ≡ statement.For → IsOver level [] old refusal → Lacks (statement_phrase level) old refusal
for_over level old refusal there over = begun_over statement.For (Word word.For) (λ outer. Awaits (ForOpen outer)) begun_for level old there refusal over

module _ (level : ℕ) (old : Spot) (there : starts_statement old.left ≡ statement.For) (middle : Spot) (passed : HasPassed level [] old middle) where
  to_open : (outer : StatementIn) → statement_level outer ≡ level → stepping (step_statement outer) old ≡ from (Awaits (ForOpen outer)) middle
  to_open = begun_passed statement.For (Word word.For) (λ outer. Awaits (ForOpen outer)) begun_for level old there middle passed

  opens : (outer : StatementIn) → statement_level outer ≡ level → mark (statement_level outer) sign.OpenParen ≡ mark level sign.OpenParen
  opens outer same = ap (λ l. mark l sign.OpenParen) same

  pub for_unopened : (refusal : ParseRefusal) → LacksSign sign.OpenParen level middle refusal → Lacks (statement_phrase level) old refusal
  for_unopened refusal lacks outer same = refuses_as refusal _ _ (to_open outer same) (awaits_lacks (ForOpen outer) sign.OpenParen level (opens outer same) middle refusal lacks)

  module _ (second : Spot) (opened : HasRead sign.OpenParen level middle second) where
    to_start : (outer : StatementIn) → statement_level outer ≡ level → stepping (step_statement outer) old ≡ from (AtForStart outer) second
    to_start outer same = to_open outer same ∙ awaits_sign (ForOpen outer) sign.OpenParen level (opens outer same) middle second opened

    pub for_lacks_start : (refusal : ParseRefusal) → Lacks (for_start_phrase (level + 1)) second refusal → Lacks (statement_phrase level) old refusal
    for_lacks_start refusal lacks outer same = refuses_as refusal _ _ (to_start outer same) (lacks outer (ap (λ l. l + 1) same))

    module _ (third : Spot) (starts : List Stmt) (start : Parses (for_start_phrase (level + 1)) second third ([], starts)) where
      to_for_condition : (outer : StatementIn) → statement_level outer ≡ level → stepping (step_statement outer) old ≡ from (AtForCondition outer start.syntax) third
      to_for_condition outer same = to_start outer same ∙ start.leads outer (ap (λ l. l + 1) same)

      pub for_lacks_condition : (refusal : ParseRefusal) → Lacks (for_condition_phrase (level + 1)) third refusal → Lacks (statement_phrase level) old refusal
      for_lacks_condition refusal lacks outer same = refuses_as refusal _ _ (to_for_condition outer same) (lacks (outer, start.syntax) (ap (λ l. l + 1) same))

      module _ (fourth : Spot) (tree : Expr) (condition : Parses (for_condition_phrase (level + 1)) third fourth tree) where
        to_for_last : (outer : StatementIn) → statement_level outer ≡ level → stepping (step_statement outer) old ≡ from (AtForLast outer start.syntax condition.syntax) fourth
        to_for_last outer same = to_for_condition outer same ∙ condition.leads (outer, start.syntax) (ap (λ l. l + 1) same)

        pub for_lacks_last : (refusal : ParseRefusal) → Lacks (for_last_phrase (level + 2) level) fourth refusal → Lacks (statement_phrase level) old refusal
        for_lacks_last refusal lacks outer same = refuses_as refusal _ _ (to_for_last outer same) (lacks (outer, start.syntax, condition.syntax) (ap (λ l. l + 2) same, same))

        pub for_head_reads : (new : Spot) (lasts : List Stmt) → Parses (for_last_phrase (level + 2) level) fourth new ([], lasts) → Parses (for_head_phrase level) old new (record { start = starts; condition = tree; last = lasts })
        for_head_reads new lasts last = record {
          syntax = (start.syntax, condition.syntax, last.syntax);
          same = (rw (start.same, condition.same, last.same) refl, passed.shallow);
          shorter =
              let a = passed_shorter level [] old middle passed in
              let b = passed_shorter level [] middle second opened.passed in
              let d = start.shorter in
              let e = condition.shorter in
              let f = last.shorter in
              omega arith;
          leads = λ outer same. to_for_last outer same ∙ last.leads (outer, start.syntax, condition.syntax) (ap (λ l. l + 2) same, same);
        }

module _ (level : ℕ) (old middle : Spot) (head : ForHead) (read : Parses (for_head_phrase level) old middle head) where
  pub for_lacks_body : (refusal : ParseRefusal) → Lacks (body_phrase (level + 2) level) middle refusal → Lacks (statement_phrase level) old refusal
  for_lacks_body refusal lacks outer same = refuses_as refusal _ _ (read.leads outer same) (lacks (ForBody outer read.syntax.0 read.syntax.1 read.syntax.2) (ap (λ l. l + 2) same, same))

  pub for_reads : (new : Spot) (trees : List Stmt) → Parses (body_phrase (level + 2) level) middle new trees → (before now : List Stmt) →
      now ≡ before ++ stmt.Block (head.start ++ stmt.While head.condition (trees ++ head.last) ∷ []) ∷ [] → Parses (statement_phrase level) old new (before, now)
  for_reads new trees body before now added = record {
    syntax = ForLoop read.syntax.0 read.syntax.1 read.syntax.2 body.syntax;
    same = added ∙ rw (read.same.0, body.same) refl;
    shorter = let a = read.shorter in let b = body.shorter in omega arith;
    leads = λ outer same.
        read.leads outer same
        ∙ body.leads (ForBody outer read.syntax.0 read.syntax.1 read.syntax.2) (ap (λ l. l + 2) same, same)
        ∙ for_ends outer read.syntax.0 read.syntax.1 read.syntax.2 body.syntax new;
  }
