-- Where the machine stands behind what is complete.
use Rattle.std.proofs.Common.{◌≡◌, ◌+◌, not, IsTrue, Option, List, [], ◌∷◌, ◌++◌, refl, ap, ◌∙◌, subst, append_assoc}
use Rattle.std.specs.Option.{IfSome}
use Rattle.cilk_tree.specs.declared.token.Keyword.TheVariants as word
use Rattle.cilk_tree.specs.declared.token.Sign.TheVariants as sign
use Rattle.cilk_tree.specs.Levels.{Spelled, mark, word_at, spell_call, spell_addition, spell_right, spell_declarator, spell_any, spell_whole, spell_simple, spell_start, spell_statement, spell_inners, spell_body}
use Rattle.cilk_tree.specs.Syntax.{Expression, Right, Result, Fetched, Call, Addition, Valued, Start, Simple, Statement, IfAlone, IfElse, WhileLoop, ForLoop, Inners, Body, Single, is_right, is_call, is_addition, is_declarator, is_statement, are_inners, is_body, dangles, statement_dangles}
use Rattle.cilk_parser.specs.Contexts.{InnersIn, FunctionBody, InBlock, InBody, BodyIn, IfTaken, IfOtherwise, WhileBody, ForBody, StatementIn, InInners, AsBody, inners_level, body_level, statement_level, owner_level, closing_level, RightIn, Assigned, Declared, right_level, declare_level, CallIn, ResultOf, Called, call_level}
use Rattle.cilk_parser.specs.Steps.{Place, after_statement, after_inners, after_right, after_call, after_addition, ended_body, ended_statement, otherwise_of_body, otherwise_of_statement}
use Rattle.cilk_parser.proofs.Emitted.Advancing.{Stands, both, spell_with_last, each_with_last}
use Rattle.cilk_parser.proofs.Emitted.SoFar.{if_so_far, inners_so_far, body_so_far, statement_so_far, right_so_far, call_so_far, declare_so_far}
use Rattle.cilk_parser.proofs.Emitted.Valid.{AreInnersOpen, IsBodyOpen, IsStatementOpen, IsRightOpen, IsCallOpen}

-- ---- a call, an addition and what stands behind a `=`

pub after_right_stands : (outer : RightIn) (right : Right) → IsRightOpen outer → IsTrue (is_right right) → Stands (after_right outer right) (right_so_far outer ++ spell_right (right_level outer) right)
after_right_stands (Assigned outer name) right opened formed = record { valid = (opened, formed); same = simp append_assoc; settled = refl }
after_right_stands (Declared outer before name) right opened formed = record {
  valid = (opened.0, each_with_last is_declarator before (Valued name right) opened.1 formed);
  same = ap (λ s. declare_so_far outer ++ s) (spell_with_last (declare_level outer) (spell_declarator (declare_level outer)) before (Valued name right)) ∙ simp append_assoc;
  settled = refl;
}

pub after_call_stands : (outer : CallIn) (call : Call) → IsCallOpen outer → IsTrue (is_call call) → Stands (after_call outer call) (call_so_far outer ++ spell_call (call_level outer) call)
after_call_stands (ResultOf outer) call opened formed = after_right_stands outer (Result call) opened formed
after_call_stands (Called outer) call opened formed = record { valid = (opened, formed); same = refl; settled = refl }

pub after_addition_stands : (outer : CallIn) (addition : Addition) → IsCallOpen outer → IsTrue (is_addition addition) →
    Stands (after_addition outer addition) (call_so_far outer ++ spell_addition (call_level outer) addition)
after_addition_stands (ResultOf outer) addition opened formed = after_right_stands outer (Fetched addition) opened formed
after_addition_stands (Called outer) addition opened formed = record { valid = (opened, formed); same = refl; settled = refl }

-- ---- a statement and a list of statements

pub after_statement_stands : (outer : StatementIn) (statement : Statement) → IsStatementOpen outer → IsTrue (is_statement statement) → IsTrue (not (statement_dangles statement)) →
    Stands (after_statement outer statement) (statement_so_far outer ++ spell_statement (statement_level outer) statement)
after_statement_stands (InInners outer before) statement opened formed closed = record { valid = (opened.0, both opened.1 formed); same = simp append_assoc; settled = refl }
after_statement_stands (AsBody owner) statement opened formed closed = record { valid = record { opened = opened; formed = formed; closed = closed }; same = refl; settled = refl }

pub after_inners_stands : (outer : InnersIn) (inners : Inners) → AreInnersOpen outer → IsTrue (are_inners inners) →
    Stands (after_inners outer inners) (inners_so_far outer ++ spell_inners (inners_level outer) inners ++ mark (closing_level outer) sign.CloseBrace ∷ [])
after_inners_stands (FunctionBody heading formals) inside opened formed = record { valid = both opened formed; same = simp append_assoc; settled = refl }
after_inners_stands (InBlock outer before) inside opened formed = record { valid = (opened.0, both opened.1 formed); same = simp append_assoc; settled = refl }
after_inners_stands (InBody owner) inside opened formed = record { valid = record { opened = opened; formed = formed; closed = refl }; same = simp append_assoc; settled = refl }

-- ---- where no `else` follows a body

-- The list of statements stands at these.
pub record Lists (place : Place) (seen : List Spelled) : Type 0 where
  pub opened : AreInnersOpen place.outer
  pub formed : IsTrue (are_inners place.inners)
  pub same : inners_so_far place.outer ++ spell_inners (inners_level place.outer) place.inners ≡ seen

lists_as : (place : Place) (seen other : List Spelled) → seen ≡ other → Lists place seen → Lists place other
lists_as place seen other e h = subst (λ s. Lists place s) e h

regrouped : (a b c d e : List Spelled) → a ++ (b ++ c ++ (d ++ e)) ≡ a ++ b ++ c ++ d ++ e
regrouped a b c d e = simp append_assoc

if_else_spelled : (outer : StatementIn) (condition : Expression) (taken body : Body) →
    statement_so_far outer ++ spell_statement (statement_level outer) (IfElse condition taken body) ≡ body_so_far (IfOtherwise outer condition taken) ++ spell_body (statement_level outer) (statement_level outer + 1) body
if_else_spelled outer condition taken body =
    regrouped (statement_so_far outer) (if_so_far (statement_level outer) condition) (spell_body (statement_level outer) (statement_level outer + 1) taken) (word_at (statement_level outer) word.Else ∷ [])
    (spell_body (statement_level outer) (statement_level outer + 1) body)

regrouped_for : (a b mark c d e f : List Spelled) → a ++ (b ++ (mark ++ c) ++ (mark ++ d) ++ (e ++ f)) ≡ a ++ (b ++ mark ++ c ++ mark) ++ d ++ e ++ f
regrouped_for a b mark c d e f = simp append_assoc

for_spelled : (outer : StatementIn) (start : Start) (condition : Option Expression) (last : Option Simple) (body : Body) →
    statement_so_far outer ++ spell_statement (statement_level outer) (ForLoop start condition last body)
    ≡ body_so_far (ForBody outer start condition last) ++ spell_body (statement_level outer) (statement_level outer + 2) body
for_spelled outer start condition last body =
    let level = statement_level outer in
    regrouped_for (statement_so_far outer) (word_at level word.For ∷ mark level sign.OpenParen ∷ spell_start (level + 1) start) (mark (level + 1) sign.Semicolon ∷ [])
    (spell_any (spell_whole (level + 1)) condition) (spell_any (spell_simple (level + 2)) last) (mark level sign.CloseParen ∷ []) (spell_body level (level + 2) body)

mutual
  pub ended_body_lists : (owner : BodyIn) (body : Body) → IsBodyOpen owner → IsTrue (is_body body) → Lists (ended_body owner body) (body_so_far owner ++ spell_body (owner_level owner) (body_level owner) body)
  ended_body_lists (IfTaken outer condition) body opened formed =
      lists_as (ended_statement outer (IfAlone condition body)) _ _ (simp append_assoc) (ended_statement_lists outer (IfAlone condition body) opened.0 (both opened.1 formed))
  ended_body_lists (IfOtherwise outer condition taken) body opened formed =
      lists_as (ended_statement outer (IfElse condition taken body)) _ _ (if_else_spelled outer condition taken body) (ended_statement_lists outer (IfElse condition taken body) opened.0 (both (both (both opened.1 opened.2) opened.3) formed))
  ended_body_lists (WhileBody outer condition) body opened formed =
      lists_as (ended_statement outer (WhileLoop condition body)) _ _ (simp append_assoc) (ended_statement_lists outer (WhileLoop condition body) opened.0 (both opened.1 formed))
  ended_body_lists (ForBody outer start condition last) body opened formed =
      lists_as (ended_statement outer (ForLoop start condition last body)) _ _ (for_spelled outer start condition last body) (ended_statement_lists outer (ForLoop start condition last body) opened.0 (both (both (both opened.1 opened.2) opened.3) formed))

  pub ended_statement_lists : (outer : StatementIn) (statement : Statement) → IsStatementOpen outer → IsTrue (is_statement statement) →
      Lists (ended_statement outer statement) (statement_so_far outer ++ spell_statement (statement_level outer) statement)
  ended_statement_lists (InInners outer before) statement opened formed = record { opened = opened.0; formed = both opened.1 formed; same = simp append_assoc }
  ended_statement_lists (AsBody owner) statement opened formed = ended_body_lists owner (Single statement) opened formed

-- ---- where an `else` follows a body

-- The body that the `else` begins may stand there, behind these.
pub record Otherwise (seen : List Spelled) (owner : BodyIn) : Type 0 where
  pub opened : IsBodyOpen owner
  pub same : body_so_far owner ≡ seen ++ word_at (owner_level owner) word.Else ∷ []

otherwise_as : (seen other : List Spelled) (owner : Option BodyIn) → seen ≡ other → IfSome owner (Otherwise seen) → IfSome owner (Otherwise other)
otherwise_as seen other owner e h = subst (λ s. IfSome owner (Otherwise s)) e h

mutual
  pub otherwise_of_body_opens : (owner : BodyIn) (body : Body) → IsBodyOpen owner → IsTrue (is_body body) → IsTrue (not (dangles body)) →
      IfSome (otherwise_of_body owner body) (Otherwise (body_so_far owner ++ spell_body (owner_level owner) (body_level owner) body))
  otherwise_of_body_opens (IfTaken outer condition) body opened formed closed = record { opened = (opened.0, opened.1, formed, closed); same = simp append_assoc }
  otherwise_of_body_opens (IfOtherwise outer condition taken) body opened formed closed =
      otherwise_as _ _ (otherwise_of_statement outer (IfElse condition taken body)) (if_else_spelled outer condition taken body)
      (otherwise_of_statement_opens outer (IfElse condition taken body) opened.0 (both (both (both opened.1 opened.2) opened.3) formed) closed)
  otherwise_of_body_opens (WhileBody outer condition) body opened formed closed =
      otherwise_as _ _ (otherwise_of_statement outer (WhileLoop condition body)) (simp append_assoc) (otherwise_of_statement_opens outer (WhileLoop condition body) opened.0 (both opened.1 formed) closed)
  otherwise_of_body_opens (ForBody outer start condition last) body opened formed closed =
      otherwise_as _ _ (otherwise_of_statement outer (ForLoop start condition last body)) (for_spelled outer start condition last body)
      (otherwise_of_statement_opens outer (ForLoop start condition last body) opened.0 (both (both (both opened.1 opened.2) opened.3) formed) closed)

  pub otherwise_of_statement_opens : (outer : StatementIn) (statement : Statement) → IsStatementOpen outer → IsTrue (is_statement statement) → IsTrue (not (statement_dangles statement)) →
      IfSome (otherwise_of_statement outer statement) (Otherwise (statement_so_far outer ++ spell_statement (statement_level outer) statement))
  otherwise_of_statement_opens (InInners outer before) statement opened formed closed = tt
  otherwise_of_statement_opens (AsBody owner) statement opened formed closed = otherwise_of_body_opens owner (Single statement) opened formed closed
