-- What the steps of a statement add together.
use Rattle.std.proofs.Common.{◌≡◌, ℕ, suc, ◌+◌, max, List, ◌∷◌, ◌++◌, length, map, sym, ap, ◌∙◌, arith, append_assoc, length-append}
use Rattle.cilk_tree.specs.declared.tree.Expr as source_expr
use Rattle.cilk_tree.specs.declared.tree.Stmt as source_stmt
use Rattle.cilk_tree.specs.Lawful.Flow.{after_list}
use Rattle.cilk_meaning.specs.Resolved as tree
use Rattle.cilk_meaning.specs.Resolved.{Expr}
use Rattle.cilk_meaning.specs.Resolving.{Resolving, part_in, in_order, resolved_expr}
use Rattle.compiled_code.specs.Emitted.{expr_code, exprs_code, expr_operands, exprs_operands, stmt_code, stmt_operands}
use Rattle.machine_code.specs.declared.instr.Instr.{Instr}
use Rattle.machine_code.specs.declared.instr.Instr.TheVariants.{Turn}
use Rattle.cilk_compiler.specs.declared.emitter.Emitter.{Emitter}
use Rattle.cilk_compiler.specs.Jumps.{forked, met, parted, turned}
use Rattle.cilk_compiler.specs.Emitting.{expr_in, exprs_in, statements_in, with_instrs, with_code, with_instr, with_expr, with_exprs, valued, with_stmt, at_point, behind_list}
use Rattle.cilk_compiler.proofs.Patching.{loop_patched, choice_patched}

-- room for one part after another
max_assoc : (a b c : ℕ) → max (max a b) c ≡ max a (max b c)
max_assoc a b c = omega arith

max_of_three : (a b c d : ℕ) → max (max (max a b) c) d ≡ max a (max b (max c d))
max_of_three a b c d = omega arith

-- one part behind another
parts_join : (e : Emitter) (first second : ℕ → List Instr) → with_code second (with_code first e) ≡ with_code (λ at. first at ++ second (at + length (first at))) e
parts_join e first second =
    let at = length e.instrs in
    ap (λ instrs. with_instrs instrs e)
    (ap (λ n. (e.instrs ++ first at) ++ second n) (length-append e.instrs (first at)) ∙ append_assoc e.instrs (first at) (second (at + length (first at))))

-- ---- arguments, one after another

module _ (old now new : Emitter) (argument : source_expr.Expr) (left rest : List source_expr.Expr) (whole : List Expr)
    (split : left ≡ argument ∷ rest) (left_is : with_exprs (exprs_in old left) now ≡ with_exprs whole old) where
  -- the argument stands for the same as before the first
  argument_same : expr_in now argument ≡ expr_in old argument
  argument_same = λ i. resolved_expr (left_is i).globals.now argument (left_is i).locals.scope

  pub argument_added : new ≡ with_expr (expr_in now argument) now → with_exprs (exprs_in old rest) new ≡ with_exprs whole old
  argument_added new_is =
      ap (with_exprs (exprs_in old rest)) (new_is ∙ ap (λ x. with_expr x now) argument_same)
      ∙ parts_join now (λ at. expr_code at (expr_in old argument)) (λ at. exprs_code at (exprs_in old rest))
      ∙ ap (λ l. with_exprs (exprs_in old l) now) (sym split)
      ∙ left_is

  pub operands_added : (most before above more next total : ℕ) → above ≡ expr_operands (expr_in now argument) → more ≡ max most (before + above) → next ≡ suc before
      → max most (exprs_operands before (exprs_in old left)) ≡ total → max more (exprs_operands next (exprs_in old rest)) ≡ total
  operands_added most before above more next total above_is more_is next_is total_is =
      let one : above ≡ expr_operands (expr_in old argument) = above_is ∙ ap expr_operands argument_same in
      (λ i. max ((more_is ∙ ap (λ n. max most (before + n)) one) i) (exprs_operands (next_is i) (exprs_in old rest)))
      ∙ max_assoc most (before + expr_operands (expr_in old argument)) (exprs_operands (suc before) (exprs_in old rest))
      ∙ ap (λ l. max most (exprs_operands before (exprs_in old l))) (sym split)
      ∙ total_is

-- ---- loops and choices, whose jumps are set when the place is known where they lead

-- behind an `if`
abbrev pub with_choice : Expr → List Resolving → List Resolving → Emitter → Emitter
with_choice condition met unmet e =
    let between = after_list (map part_in met) e.locals in
    at_point (after_list (map part_in unmet) between) (with_stmt (tree.If condition (in_order met e.locals) (in_order unmet between)) e)

-- behind a `while`
abbrev pub with_loop : Expr → List Resolving → Emitter → Emitter
with_loop condition body e = at_point (after_list (map part_in body) e.locals) (with_stmt (tree.While condition (in_order body e.locals)) e)

module _ (old : Emitter) (condition : source_expr.Expr) where
  abbrev asked : Emitter → Emitter
  asked e = valued (expr_in e condition) e

  abbrev forked_on : Emitter → Emitter
  forked_on e = forked (expr_in e condition) e

  module _ (body : List source_stmt.Stmt) where
    abbrev run : Emitter → Emitter
    run e = behind_list (statements_in e body) e

    pub loop_made : (begun after once : Emitter) (start fork : ℕ)
        → start ≡ length old.instrs → begun ≡ with_instr Turn old → fork ≡ length (asked begun).instrs → after ≡ forked_on begun → once ≡ run after
        → turned start fork once ≡ with_loop (expr_in old condition) (statements_in old body) old
    loop_made begun after once start fork start_is begun_is fork_is after_is once_is =
        let test = expr_in old condition in
        let inside = in_order (statements_in old body) old.locals in
        let all : once ≡ run (forked_on (with_instr Turn old)) = once_is ∙ ap run (after_is ∙ ap forked_on begun_is) in
        let at : fork ≡ length (asked (with_instr Turn old)).instrs = fork_is ∙ ap (λ (e : Emitter). length (asked e).instrs) begun_is in
        (λ i. turned (start_is i) (at i) (all i))
        ∙ (λ i. record old {
          locals = after_list (map part_in (statements_in old body)) old.locals;
          instrs = loop_patched old.instrs (λ n. expr_code n test) (λ n. stmt_code old.«cilk» n inside) i;
          operands = max_assoc old.operands (expr_operands test) (stmt_operands inside) i;
        })

  module _ (met_list unmet_list : List source_stmt.Stmt) where
    abbrev take_met : Emitter → Emitter
    take_met e = behind_list (statements_in e met_list) e

    abbrev take_unmet : Emitter → Emitter
    take_unmet e = behind_list (statements_in e unmet_list) e

    pub choice_made : (after first parting both : Emitter) (fork met_end : ℕ)
        → fork ≡ length (asked old).instrs → after ≡ forked_on old → first ≡ take_met after → met_end ≡ length first.instrs
        → parting ≡ parted fork first → both ≡ take_unmet parting
        → met met_end both ≡ with_choice (expr_in old condition) (statements_in old met_list) (statements_in old unmet_list) old
    choice_made after first parting both fork met_end fork_is after_is first_is met_is parting_is both_is =
        let test = expr_in old condition in
        let between = after_list (map part_in (statements_in old met_list)) old.locals in
        let yes = in_order (statements_in old met_list) old.locals in
        let no = in_order (statements_in old unmet_list) between in
        let first_all : first ≡ take_met (forked_on old) = first_is ∙ ap take_met after_is in
        let parting_all : parting ≡ parted (length (asked old).instrs) (take_met (forked_on old)) = parting_is ∙ (λ i. parted (fork_is i) (first_all i)) in
        let all : both ≡ take_unmet (parted (length (asked old).instrs) (take_met (forked_on old))) = both_is ∙ ap take_unmet parting_all in
        let at : met_end ≡ length (take_met (forked_on old)).instrs = met_is ∙ ap (λ (e : Emitter). length e.instrs) first_all in
        (λ i. met (at i) (all i))
        ∙ (λ i. record old {
          locals = after_list (map part_in (statements_in old unmet_list)) between;
          instrs = choice_patched old.instrs (expr_code (length old.instrs) test) (λ n. stmt_code old.«cilk» n yes) (λ n. stmt_code old.«cilk» n no) i;
          operands = max_of_three old.operands (expr_operands test) (stmt_operands yes) (stmt_operands no) i;
        })
