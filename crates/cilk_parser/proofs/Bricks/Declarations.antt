-- How the machine reads names that are declared.
use Rattle.std.proofs.Common.{◌≡◌, ℕ, ◌≤◌, false, IsTrue, Option, Some, None, Result, Ok, Err, MatchResult, List, [], ◌∷◌, ◌++◌, length, refl, ap, sym, ◌∙◌, append_assoc, append-nil, arith}
use Rattle.cilk_tree.specs.declared.count.Count.TheVariants.{OneMore}
use Rattle.cilk_tree.specs.declared.count.Counted.TheVariants.{Variables}
use Rattle.cilk_tree.specs.declared.token.Sign.TheVariants.{Assign, Comma, Semicolon}
use Rattle.cilk_tree.specs.declared.token.Token.{Token}
use Rattle.cilk_tree.specs.declared.token.Token.TheVariants.{Name, Mark}
use Rattle.cilk_tree.specs.declared.tree.Stmt.{Stmt}
use Rattle.cilk_tree.specs.declared.tree.Stmt.TheVariants as stmt
use Rattle.cilk_tree.specs.Levels.{counting, mark}
use Rattle.cilk_tree.specs.Sugar.{commas_list, declarator_trees, if_there}
use Rattle.cilk_tree.specs.Syntax.{Commas, Declarator, Bare, Valued}
use Rattle.cilk_parser.specs.declared.refusal.ParseRefusal.{ParseRefusal}
use Rattle.cilk_parser.specs.Contexts.{with_last, DeclareIn, AsDeclaration, AsForDeclaration, Declared, declare_level}
use Rattle.cilk_parser.specs.Spots.{Spot, from, is_sign, HasPassed, IsOver, HasRead, LacksSign, HasNamed, LacksName}
use Rattle.cilk_parser.specs.Phrases.{Lacks, Parses, after_declaration, declaration_phrase, declarator_phrase, right_phrase}
use Rattle.cilk_parser.specs.Steps.{AfterDeclarator, AtRight, AwaitsName, DeclaratorName, HasDeclarators, goes_on, is_mark, step, step_declarator, step_declarators, step_only}
use Rattle.cilk_parser.proofs.Bricks.Stepping.{awaits_name, awaits_no_name, from_steps, passed_shorter, refuses_as, sign_absent, stepping_same}
use Rattle.cilk_parser.proofs.Bricks.Lists.{IsListed, gives_with_last, list_closed, list_open, more_over, more_passed}
use Rattle.cilk_parser.proofs.Bricks.Beginnings.{sign_begins, known_passed}

-- ---- one name

pub declares_nothing : (level : ℕ) (old : Spot) (refusal : ParseRefusal) → LacksName level (OneMore Variables ∷ []) old refusal → Lacks (declarator_phrase level) old refusal
declares_nothing level old refusal lacks (outer, others) same = awaits_no_name (DeclaratorName outer others) level (OneMore Variables ∷ []) (λ n. ap (λ l. counting l (OneMore Variables ∷ []) (Name n)) same) old refusal lacks

bare : (outer : DeclareIn) (others : Option (Commas Declarator)) (name : List ℕ) (token : Token) → is_mark Assign token ≡ false → step_declarator outer others name token ≡ step_declarators outer (with_last others (Bare name)) token
bare outer others name (Mark Assign) other = absurd (cc)
bare outer others name _ other = refl

bare_name : (outer : DeclareIn) (others : Option (Commas Declarator)) (name : List ℕ) (spot : Spot) → is_sign Assign spot.left ≡ false → from (AfterDeclarator outer others name) spot ≡ from (HasDeclarators outer (with_last others (Bare name))) spot
unfolding step
bare_name outer others name spot absent =
    from_steps (AfterDeclarator outer others name) refl spot
    ∙ stepping_same (step_declarator outer others name) (step_declarators outer (with_last others (Bare name))) spot (λ placed places first. bare outer others name placed.token (sign_absent Assign spot.left places placed first absent))
    ∙ sym (from_steps (HasDeclarators outer (with_last others (Bare name))) refl spot)

gives_value : (outer : DeclareIn) (others : Option (Commas Declarator)) (name : List ℕ) → step (AfterDeclarator outer others name) (Mark Assign) ≡ goes_on (mark (declare_level outer) Assign) (AtRight (Declared outer others name))
unfolding step
gives_value outer others name = refl

module _ (level : ℕ) (name : List ℕ) (old mid : Spot) (named : HasNamed level (OneMore Variables ∷ []) name old mid) where
  declared_name : (outer : DeclareIn) (others : Option (Commas Declarator)) → declare_level outer ≡ level → from (AwaitsName (DeclaratorName outer others)) old ≡ from (AfterDeclarator outer others name) mid
  declared_name outer others same = awaits_name (DeclaratorName outer others) level (OneMore Variables ∷ []) (λ n. ap (λ l. counting l (OneMore Variables ∷ []) (Name n)) same) name old mid named

  pub declares_bare : (before : List Stmt) → is_sign Assign mid.left ≡ false → Parses (declarator_phrase level) old mid (before, (before ++ stmt.Declare name ∷ []))
  declares_bare before absent = record {
    syntax = Bare name;
    same = refl;
    shorter = passed_shorter level (OneMore Variables ∷ []) old mid named.passed;
    leads = λ (outer, others) same. declared_name outer others same ∙ bare_name outer others name mid absent;
  }

  module _ (far : Spot) (there : IsTrue (is_sign Assign mid.left)) (passed : HasPassed level [] mid far) where
    valued_leads : (outer : DeclareIn) (others : Option (Commas Declarator)) → declare_level outer ≡ level → from (AwaitsName (DeclaratorName outer others)) old ≡ from (AtRight (Declared outer others name)) far
    valued_leads outer others same =
        declared_name outer others same
        ∙ known_passed (AfterDeclarator outer others name) refl (Mark Assign) (declare_level outer) level [] (AtRight (Declared outer others name)) same (gives_value outer others name) mid (sign_begins Assign mid.left there) far passed

    pub declares_valued : (new : Spot) (before : List Stmt) (set : Stmt) → Parses (right_phrase level) far new (name, set) → Parses (declarator_phrase level) old new (before, (before ++ stmt.Declare name ∷ [] ++ set ∷ []))
    declares_valued new before set has = record {
      syntax = Valued name has.syntax;
      same = ap (λ s. before ++ stmt.Declare name ∷ [] ++ s ∷ []) has.same ∙ append_assoc before (stmt.Declare name ∷ []) _;
      shorter = let a = has.shorter in let b = passed_shorter level [] mid far passed in let d = passed_shorter level (OneMore Variables ∷ []) old mid named.passed in omega arith;
      leads = λ (outer, others) same. valued_leads outer others same ∙ has.leads (Declared outer others name) same;
    }

    pub lacks_set : (refusal : ParseRefusal) → Lacks (right_phrase level) far refusal → Lacks (declarator_phrase level) old refusal
    lacks_set refusal lacks (outer, others) same =
        refuses_as refusal (from (AwaitsName (DeclaratorName outer others)) old) (from (AtRight (Declared outer others name)) far) (valued_leads outer others same) (lacks (Declared outer others name) same)

-- ---- names with commas

-- Some names were read, and another is awaited.
pub record DeclaratorsSoFar (level : ℕ) (old now : Spot) (before trees : List Stmt) : Type 0 where
  pub others : Option (Commas Declarator)
  pub same : trees ≡ before ++ if_there (commas_list declarator_trees) others
  pub no_longer : length now.left ≤ length old.left
  pub leads : (outer : DeclareIn) → declare_level outer ≡ level → from (AwaitsName (DeclaratorName outer None)) old ≡ from (AwaitsName (DeclaratorName outer others)) now

pub declaration_begins : (level : ℕ) (old : Spot) (before : List Stmt) → DeclaratorsSoFar level old old before before
declaration_begins level old before = record { others = None; same = sym (append-nil before); no_longer = omega arith; leads = λ outer same. refl }

ends_names : (outer : DeclareIn) (declarators : Commas Declarator) (level : ℕ) → declare_level outer ≡ level → (token : Token) → is_mark Comma token ≡ false →
    step_declarators outer declarators token ≡ step_only (mark level Semicolon) (after_declaration outer declarators) token
ends_names outer declarators level same (Mark Comma) other = absurd (cc)
ends_names (AsDeclaration outer before) declarators level same (Mark Semicolon) other = ap (λ l. goes_on (mark l Semicolon) (after_declaration (AsDeclaration outer before) declarators)) same
ends_names (AsForDeclaration outer) declarators level same (Mark Semicolon) other = ap (λ l. goes_on (mark l Semicolon) (after_declaration (AsForDeclaration outer) declarators)) same
ends_names (AsDeclaration outer before) declarators level same _ other = refl
ends_names (AsForDeclaration outer) declarators level same _ other = refl

names_listed : (outer : DeclareIn) (declarators : Commas Declarator) (level : ℕ) → declare_level outer ≡ level →
    IsListed (step_declarators outer declarators) level (AwaitsName (DeclaratorName outer (Some declarators))) Semicolon (after_declaration outer declarators)
names_listed outer declarators level same = record {
  comma = ap (λ l. goes_on (mark l Comma) (AwaitsName (DeclaratorName outer (Some declarators)))) same;
  others = ends_names outer declarators level same;
}

pub lacks_declarator : (level : ℕ) (old now : Spot) (before trees : List Stmt) (refusal : ParseRefusal) → DeclaratorsSoFar level old now before trees → Lacks (declarator_phrase level) now refusal → Lacks (declaration_phrase level) old refusal
lacks_declarator level old now before trees refusal far lacks outer same =
    refuses_as refusal (from (AwaitsName (DeclaratorName outer None)) old) (from (AwaitsName (DeclaratorName outer far.others)) now) (far.leads outer same) (lacks (outer, far.others) same)

module _ (level : ℕ) (old now mid : Spot) (before trees more : List Stmt) (far : DeclaratorsSoFar level old now before trees) (has : Parses (declarator_phrase level) now mid (trees, more)) where
  more_names : (outer : DeclareIn) → declare_level outer ≡ level → from (AwaitsName (DeclaratorName outer None)) old ≡ from (HasDeclarators outer (with_last far.others has.syntax)) mid
  more_names outer same = far.leads outer same ∙ has.leads (outer, far.others) same

  more_declared : more ≡ before ++ commas_list declarator_trees (with_last far.others has.syntax)
  more_declared =
      has.same ∙ ap (λ t. t ++ declarator_trees has.syntax) far.same ∙ append_assoc before (if_there (commas_list declarator_trees) far.others) (declarator_trees has.syntax)
      ∙ ap (λ t. before ++ t) (gives_with_last declarator_trees far.others has.syntax)

  pub declaration_goes_on : (new : Spot) → IsTrue (is_sign Comma mid.left) → HasPassed level [] mid new → DeclaratorsSoFar level old new before more
  unfolding step
  declaration_goes_on new there passed = record {
    others = Some (with_last far.others has.syntax);
    same = more_declared;
    no_longer = let a = far.no_longer in let b = has.shorter in let d = passed_shorter level [] mid new passed in omega arith;
    leads = λ outer same.
        more_names outer same ∙ from_steps (HasDeclarators outer (with_last far.others has.syntax)) refl mid
        ∙ more_passed (step_declarators outer (with_last far.others has.syntax)) level (AwaitsName (DeclaratorName outer (Some (with_last far.others has.syntax)))) Semicolon
        (after_declaration outer (with_last far.others has.syntax)) (names_listed outer (with_last far.others has.syntax) level same) mid new there passed;
  }

  pub comma_over : (refusal : ParseRefusal) → IsTrue (is_sign Comma mid.left) → IsOver level [] mid refusal → Lacks (declaration_phrase level) old refusal
  unfolding step
  comma_over refusal there over outer same =
      refuses_as refusal (from (AwaitsName (DeclaratorName outer None)) old) (from (HasDeclarators outer (with_last far.others has.syntax)) mid) (more_names outer same)
      (refuses_as refusal (from (HasDeclarators outer (with_last far.others has.syntax)) mid) _ (from_steps (HasDeclarators outer (with_last far.others has.syntax)) refl mid)
      (more_over (step_declarators outer (with_last far.others has.syntax)) level (AwaitsName (DeclaratorName outer (Some (with_last far.others has.syntax)))) Semicolon
      (after_declaration outer (with_last far.others has.syntax)) (names_listed outer (with_last far.others has.syntax) level same) mid refusal there over))

  declaration_ends : (new : Spot) → is_sign Comma mid.left ≡ false → HasRead Semicolon level mid new → Parses (declaration_phrase level) old new (before, more)
  unfolding step
  declaration_ends new absent read = record {
    syntax = with_last far.others has.syntax;
    same = more_declared;
    shorter = let a = far.no_longer in let b = has.shorter in let d = passed_shorter level [] mid new read.passed in omega arith;
    leads = λ outer same.
        more_names outer same ∙ from_steps (HasDeclarators outer (with_last far.others has.syntax)) refl mid
        ∙ list_closed (step_declarators outer (with_last far.others has.syntax)) level (AwaitsName (DeclaratorName outer (Some (with_last far.others has.syntax)))) Semicolon
        (after_declaration outer (with_last far.others has.syntax)) (names_listed outer (with_last far.others has.syntax) level same) mid new absent read;
  }

  declaration_unended : (refusal : ParseRefusal) → is_sign Comma mid.left ≡ false → LacksSign Semicolon level mid refusal → Lacks (declaration_phrase level) old refusal
  unfolding step
  declaration_unended refusal absent lacks outer same =
      refuses_as refusal (from (AwaitsName (DeclaratorName outer None)) old) (from (HasDeclarators outer (with_last far.others has.syntax)) mid) (more_names outer same)
      (refuses_as refusal (from (HasDeclarators outer (with_last far.others has.syntax)) mid) _ (from_steps (HasDeclarators outer (with_last far.others has.syntax)) refl mid)
      (list_open (step_declarators outer (with_last far.others has.syntax)) level (AwaitsName (DeclaratorName outer (Some (with_last far.others has.syntax)))) Semicolon
      (after_declaration outer (with_last far.others has.syntax)) (names_listed outer (with_last far.others has.syntax) level same) mid refusal absent lacks))

  pub ends_or_refused : (new : Spot) (result : Result (Unit {0}) ParseRefusal) → is_sign Comma mid.left ≡ false → MatchResult result (λ _. HasRead Semicolon level mid new) (LacksSign Semicolon level mid) →
      MatchResult result (λ _. Parses (declaration_phrase level) old new (before, more)) (Lacks (declaration_phrase level) old)
  ends_or_refused new (Ok read) absent has = declaration_ends new absent has
  ends_or_refused new (Err refusal) absent lacks = declaration_unended refusal absent lacks
