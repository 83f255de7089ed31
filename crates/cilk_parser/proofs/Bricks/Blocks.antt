-- Lists of statements, what stands in them, and bodies.
use Rattle.std.proofs.Common.{◌≡◌, ℕ, ◌+◌, ◌≤◌, false, IsTrue, None, List, [], ◌∷◌, ◌++◌, length, refl, ap, ◌∙◌, arith}
use Rattle.cilk_tree.specs.declared.token.Keyword.TheVariants as word
use Rattle.cilk_tree.specs.declared.token.Sign.TheVariants as sign
use Rattle.cilk_tree.specs.declared.token.Token.{Token}
use Rattle.cilk_tree.specs.declared.token.Token.TheVariants.{Word, Mark}
use Rattle.cilk_tree.specs.declared.tree.Stmt.{Stmt}
use Rattle.cilk_tree.specs.declared.tree.Stmt.TheVariants as stmt
use Rattle.cilk_tree.specs.Levels.{plain, mark}
use Rattle.cilk_tree.specs.Sugar.{inner_trees, inners_trees}
use Rattle.cilk_tree.specs.Syntax.{Declaration, Block, Stated, Inners, NoInners, ThenInner, Braced, Single}
use Rattle.cilk_parser.specs.declared.refusal.ParseRefusal.{ParseRefusal}
use Rattle.cilk_parser.specs.Contexts.{AsBody, AsDeclaration, BodyIn, InBlock, InBody, InInners, InnersIn, closing_level, inners_level, owner_level}
use Rattle.cilk_parser.specs.Spots.{Spot, from, HasPassed, IsOver, is_keyword, is_sign, is_keyword_token, stepping}
use Rattle.cilk_parser.specs.Phrases.{Lacks, Parses, body_phrase, declaration_phrase, inner_phrase, inners_phrase, statement_phrase}
use Rattle.cilk_parser.specs.Steps.{AtBody, AtInner, AwaitsName, DeclaratorName, after_inners, goes_on, is_mark, step, step_body, step_inner, step_statement}
use Rattle.cilk_parser.proofs.Bricks.Beginnings.{keyword_begins, sign_begins, known_passed, known_over}
use Rattle.cilk_parser.proofs.Bricks.Stepping.{from_steps, keyword_absent, passed_shorter, refuses_as, sign_absent, stepping_same}

-- ---- what stands in a list

module _ (level : ℕ) (old : Spot) (there : IsTrue (is_keyword word.Int old.left)) where
  goes_declaring : (outer : InnersIn) (others : Inners) → inners_level outer ≡ level → step (AtInner outer others) (Word word.Int) ≡ goes_on (plain level (Word word.Int)) (AwaitsName (DeclaratorName (AsDeclaration outer others) None))
  unfolding step
  goes_declaring outer others same = ap (λ l. goes_on (plain l (Word word.Int)) (AwaitsName (DeclaratorName (AsDeclaration outer others) None))) same

  pub declaration_over : (refusal : ParseRefusal) → IsOver level [] old refusal → Lacks (inner_phrase level) old refusal
  declaration_over refusal over (outer, others) same =
      known_over (AtInner outer others) refl (Word word.Int) level level [] (AwaitsName (DeclaratorName (AsDeclaration outer others) None)) refl (goes_declaring outer others same) old (keyword_begins word.Int old.left there) refusal over

  module _ (middle : Spot) (passed : HasPassed level [] old middle) where
    to_names : (outer : InnersIn) (others : Inners) → inners_level outer ≡ level → from (AtInner outer others) old ≡ from (AwaitsName (DeclaratorName (AsDeclaration outer others) None)) middle
    to_names outer others same =
        known_passed (AtInner outer others) refl (Word word.Int) level level [] (AwaitsName (DeclaratorName (AsDeclaration outer others) None)) refl (goes_declaring outer others same) old (keyword_begins word.Int old.left there) middle passed

    pub declaration_lacks : (refusal : ParseRefusal) → Lacks (declaration_phrase level) middle refusal → Lacks (inner_phrase level) old refusal
    declaration_lacks refusal lacks (outer, others) same = refuses_as refusal _ _ (to_names outer others same) (lacks (AsDeclaration outer others) same)

    pub declaration_reads : (new : Spot) (before now : List Stmt) → Parses (declaration_phrase level) middle new (before, now) → Parses (inner_phrase level) old new (before, now)
    declaration_reads new before now read = record {
      syntax = Declaration read.syntax;
      same = read.same;
      shorter = let a = passed_shorter level [] old middle passed in let b = read.shorter in omega arith;
      leads = λ (outer, others) same. to_names outer others same ∙ read.leads (AsDeclaration outer others) same;
    }

module _ (level : ℕ) (old : Spot) (there : IsTrue (is_sign sign.OpenBrace old.left)) where
  goes_deeper : (outer : InnersIn) (others : Inners) → inners_level outer ≡ level → step (AtInner outer others) (Mark sign.OpenBrace) ≡ goes_on (mark level sign.OpenBrace) (AtInner (InBlock outer others) NoInners)
  unfolding step
  goes_deeper outer others same = ap (λ l. goes_on (mark l sign.OpenBrace) (AtInner (InBlock outer others) NoInners)) same

  pub block_over : (refusal : ParseRefusal) → IsOver level [] old refusal → Lacks (inner_phrase level) old refusal
  block_over refusal over (outer, others) same =
      known_over (AtInner outer others) refl (Mark sign.OpenBrace) level level [] (AtInner (InBlock outer others) NoInners) refl (goes_deeper outer others same) old (sign_begins sign.OpenBrace old.left there) refusal over

  module _ (middle : Spot) (passed : HasPassed level [] old middle) where
    to_block : (outer : InnersIn) (others : Inners) → inners_level outer ≡ level → from (AtInner outer others) old ≡ from (AtInner (InBlock outer others) NoInners) middle
    to_block outer others same =
        known_passed (AtInner outer others) refl (Mark sign.OpenBrace) level level [] (AtInner (InBlock outer others) NoInners) refl (goes_deeper outer others same) old (sign_begins sign.OpenBrace old.left there) middle passed

    pub block_lacks : (refusal : ParseRefusal) → Lacks (inners_phrase (level + 1) level) middle refusal → Lacks (inner_phrase level) old refusal
    block_lacks refusal lacks (outer, others) same = refuses_as refusal _ _ (to_block outer others same) (lacks (InBlock outer others) (ap (λ l. l + 1) same, same))

    pub block_reads : (new : Spot) (trees : List Stmt) → Parses (inners_phrase (level + 1) level) middle new trees → (before now : List Stmt) → now ≡ before ++ stmt.Block trees ∷ [] → Parses (inner_phrase level) old new (before, now)
    block_reads new trees read before now added = record {
      syntax = Block read.syntax;
      same = added ∙ ap (λ ts. before ++ stmt.Block ts ∷ []) read.same;
      shorter = let a = passed_shorter level [] old middle passed in let b = read.shorter in omega arith;
      leads = λ (outer, others) same. to_block outer others same ∙ read.leads (InBlock outer others) (ap (λ l. l + 1) same, same);
    }

inner_stated : (outer : InnersIn) (others : Inners) (token : Token) → is_mark sign.CloseBrace token ≡ false → is_keyword_token word.Int token ≡ false → is_mark sign.OpenBrace token ≡ false →
    step_inner outer others token ≡ step_statement (InInners outer others) token
inner_stated outer others (Mark sign.CloseBrace) no_end no_int no_block = absurd (cc)
inner_stated outer others (Mark sign.OpenBrace) no_end no_int no_block = absurd (cc)
inner_stated outer others (Word word.Int) no_end no_int no_block = absurd (cc)
inner_stated outer others _ no_end no_int no_block = refl

module _ (level : ℕ) (old : Spot) (no_end : is_sign sign.CloseBrace old.left ≡ false) (no_int : is_keyword word.Int old.left ≡ false) (no_block : is_sign sign.OpenBrace old.left ≡ false) where
  at_statement : (outer : InnersIn) (others : Inners) → from (AtInner outer others) old ≡ stepping (step_statement (InInners outer others)) old
  unfolding step
  at_statement outer others =
      from_steps (AtInner outer others) refl old ∙
      stepping_same (step_inner outer others) (step_statement (InInners outer others)) old
      (λ placed places first.
      inner_stated outer others placed.token (sign_absent sign.CloseBrace old.left places placed first no_end) (keyword_absent word.Int old.left places placed first no_int) (sign_absent sign.OpenBrace old.left places placed first no_block))

  pub stated_lacks : (refusal : ParseRefusal) → Lacks (statement_phrase level) old refusal → Lacks (inner_phrase level) old refusal
  stated_lacks refusal lacks (outer, others) same = refuses_as refusal _ _ (at_statement outer others) (lacks (InInners outer others) same)

  pub stated_reads : (new : Spot) (before now : List Stmt) → Parses (statement_phrase level) old new (before, now) → Parses (inner_phrase level) old new (before, now)
  stated_reads new before now read = record {
    syntax = Stated read.syntax;
    same = read.same;
    shorter = read.shorter;
    leads = λ (outer, others) same. at_statement outer others ∙ read.leads (InInners outer others) same;
  }

-- ---- a list

-- These statements of a list were read, and no brace behind them.
pub record HasBegun (level : ℕ) (old now : Spot) (trees : List Stmt) : Type 0 where
  pub inners : Inners
  pub same : trees ≡ inners_trees inners
  pub no_longer : length now.left ≤ length old.left
  pub leads : (outer : InnersIn) → inners_level outer ≡ level → from (AtInner outer NoInners) old ≡ from (AtInner outer inners) now

pub begins_list : (level : ℕ) (old : Spot) → HasBegun level old old []
begins_list level old = record { inners = NoInners; same = refl; no_longer = omega arith; leads = λ outer same. refl }

module _ (level : ℕ) (old middle : Spot) (trees : List Stmt) (begun : HasBegun level old middle trees) where
  pub goes_on_list : (new : Spot) (now : List Stmt) → Parses (inner_phrase level) middle new (trees, now) → HasBegun level old new now
  goes_on_list new now read = record {
    inners = ThenInner begun.inners read.syntax;
    same = read.same ∙ ap (λ ts. ts ++ inner_trees read.syntax) begun.same;
    no_longer = let a = begun.no_longer in let b = read.shorter in omega arith;
    leads = λ outer same. begun.leads outer same ∙ read.leads (outer, begun.inners) same;
  }

  pub list_lacks : (closing : ℕ) (refusal : ParseRefusal) → Lacks (inner_phrase level) middle refusal → Lacks (inners_phrase level closing) old refusal
  list_lacks closing refusal lacks outer (same, same_closing) = refuses_as refusal _ _ (begun.leads outer same) (lacks (outer, begun.inners) same)

  module _ (closing : ℕ) (ends : IsTrue (is_sign sign.CloseBrace middle.left)) where
    goes_out : (outer : InnersIn) → closing_level outer ≡ closing → step (AtInner outer begun.inners) (Mark sign.CloseBrace) ≡ goes_on (mark closing sign.CloseBrace) (after_inners outer begun.inners)
    unfolding step
    goes_out outer same = ap (λ l. goes_on (mark l sign.CloseBrace) (after_inners outer begun.inners)) same

    pub list_over : (refusal : ParseRefusal) → IsOver closing [] middle refusal → Lacks (inners_phrase level closing) old refusal
    list_over refusal over outer (same, same_closing) =
        refuses_as refusal _ _ (begun.leads outer same)
        (known_over (AtInner outer begun.inners) refl (Mark sign.CloseBrace) closing closing [] (after_inners outer begun.inners) refl (goes_out outer same_closing) middle (sign_begins sign.CloseBrace middle.left ends) refusal over)

    pub list_reads : (new : Spot) → HasPassed closing [] middle new → Parses (inners_phrase level closing) old new trees
    list_reads new passed = record {
      syntax = begun.inners;
      same = begun.same;
      shorter = let a = begun.no_longer in let b = passed_shorter closing [] middle new passed in omega arith;
      leads = λ outer (same, same_closing).
          begun.leads outer same ∙
          known_passed (AtInner outer begun.inners) refl (Mark sign.CloseBrace) closing closing [] (after_inners outer begun.inners) refl (goes_out outer same_closing) middle (sign_begins sign.CloseBrace middle.left ends) new passed;
    }

-- ---- a body

module _ (level own : ℕ) (old : Spot) (there : IsTrue (is_sign sign.OpenBrace old.left)) where
  goes_braced : (owner : BodyIn) → owner_level owner ≡ own → step (AtBody owner) (Mark sign.OpenBrace) ≡ goes_on (mark own sign.OpenBrace) (AtInner (InBody owner) NoInners)
  unfolding step
  goes_braced owner same = ap (λ l. goes_on (mark l sign.OpenBrace) (AtInner (InBody owner) NoInners)) same

  pub braced_over : (refusal : ParseRefusal) → IsOver own [] old refusal → Lacks (body_phrase level own) old refusal
  braced_over refusal over owner (same, same_own) =
      known_over (AtBody owner) refl (Mark sign.OpenBrace) own own [] (AtInner (InBody owner) NoInners) refl (goes_braced owner same_own) old (sign_begins sign.OpenBrace old.left there) refusal over

  module _ (middle : Spot) (passed : HasPassed own [] old middle) where
    to_braced : (owner : BodyIn) → owner_level owner ≡ own → from (AtBody owner) old ≡ from (AtInner (InBody owner) NoInners) middle
    to_braced owner same_own = known_passed (AtBody owner) refl (Mark sign.OpenBrace) own own [] (AtInner (InBody owner) NoInners) refl (goes_braced owner same_own) old (sign_begins sign.OpenBrace old.left there) middle passed

    pub braced_lacks : (refusal : ParseRefusal) → Lacks (inners_phrase level own) middle refusal → Lacks (body_phrase level own) old refusal
    braced_lacks refusal lacks owner (same, same_own) = refuses_as refusal _ _ (to_braced owner same_own) (lacks (InBody owner) (same, same_own))

    pub braced_reads : (new : Spot) (trees : List Stmt) → Parses (inners_phrase level own) middle new trees → Parses (body_phrase level own) old new trees
    braced_reads new trees read = record {
      syntax = Braced read.syntax;
      same = read.same;
      shorter = let a = passed_shorter own [] old middle passed in let b = read.shorter in omega arith;
      leads = λ owner (same, same_own). to_braced owner same_own ∙ read.leads (InBody owner) (same, same_own);
    }

body_stated : (owner : BodyIn) (token : Token) → is_mark sign.OpenBrace token ≡ false → step_body owner token ≡ step_statement (AsBody owner) token
body_stated owner (Mark sign.OpenBrace) absent = absurd (cc)
body_stated owner _ absent = refl

module _ (level own : ℕ) (old : Spot) (absent : is_sign sign.OpenBrace old.left ≡ false) where
  at_single : (owner : BodyIn) → from (AtBody owner) old ≡ stepping (step_statement (AsBody owner)) old
  unfolding step
  at_single owner =
      from_steps (AtBody owner) refl old ∙
      stepping_same (step_body owner) (step_statement (AsBody owner)) old (λ placed places first. body_stated owner placed.token (sign_absent sign.OpenBrace old.left places placed first absent))

  pub single_lacks : (refusal : ParseRefusal) → Lacks (statement_phrase level) old refusal → Lacks (body_phrase level own) old refusal
  single_lacks refusal lacks owner (same, same_own) = refuses_as refusal _ _ (at_single owner) (lacks (AsBody owner) same)

  pub single_reads : (new : Spot) (trees : List Stmt) → Parses (statement_phrase level) old new ([], trees) → Parses (body_phrase level own) old new trees
  single_reads new trees read = record {
    syntax = Single read.syntax;
    same = read.same;
    shorter = read.shorter;
    leads = λ owner (same, same_own). at_single owner ∙ read.leads (AsBody owner) same;
  }
