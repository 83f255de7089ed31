-- How the machine reads an assignment, a step or a store behind its name.
use Rattle.std.proofs.Common.{◌≡◌, ℕ, pos, false, ◌&&◌, ◌+◌, IsTrue, None, Result, Ok, Err, MatchResult, List, [], ◌∷◌, refl, ap, sym, ◌∙◌, subst, arith}
use Rattle.std.proofs.lemmas.Bool.{false≢true}
use Rattle.cilk_tree.specs.declared.count.Count.{Count}
use Rattle.cilk_tree.specs.declared.count.Count.TheVariants.{Anew, OneMore}
use Rattle.cilk_tree.specs.declared.count.Counted.TheVariants.{Operators}
use Rattle.cilk_tree.specs.declared.token.Placed.{Placed}
use Rattle.cilk_tree.specs.declared.token.Sign.TheVariants.{Assign, PlusAssign, MinusAssign, PlusPlus, MinusMinus, OpenParen, OpenBracket, CloseBracket}
use Rattle.cilk_tree.specs.declared.token.Token.{Token}
use Rattle.cilk_tree.specs.declared.token.Token.TheVariants.{Mark}
use Rattle.cilk_tree.specs.declared.tree.BinaryOp.{BinaryOp}
use Rattle.cilk_tree.specs.declared.tree.Expr.{Expr}
use Rattle.cilk_tree.specs.declared.tree.Expr.TheVariants as expr
use Rattle.cilk_tree.specs.declared.tree.Stmt.{Stmt}
use Rattle.cilk_tree.specs.declared.tree.Stmt.TheVariants as stmt
use Rattle.cilk_tree.specs.Levels.{change_sign, counting, mark, step_sign}
use Rattle.cilk_tree.specs.Sugar.{direction_operator, expression_tree}
use Rattle.cilk_tree.specs.Syntax.{Direction, Up, Down, Simple, Assignment, Change, Step, Storing}
use Rattle.cilk_parser.specs.declared.opening.Opening.TheVariants.{Inside, Whole}
use Rattle.cilk_parser.specs.declared.refusal.ParseRefusal.{ParseRefusal}
use Rattle.cilk_parser.specs.declared.starts.SimpleStart.{SimpleStart}
use Rattle.cilk_parser.specs.declared.starts.SimpleStart.TheVariants as start
use Rattle.cilk_parser.specs.Contexts.{SimpleIn, AsStatement, AsForStart, AsForLast, simple_level, Assigned, ChangedBy, StoredAt, StoredIn}
use Rattle.cilk_parser.specs.Spots.{Spot, StartsAt, from, unexpected_of, is_sign, HasPassed, IsOver, HasRead, LacksSign, stepping}
use Rattle.cilk_parser.specs.Phrases.{Encloses, Lacks, LacksSimple, Parses, enclosed_phrase, expression_phrase, is_statement, right_phrase, simple_phrase, stops_below}
use Rattle.cilk_parser.specs.Starts.{simple_start, starts_simple}
use Rattle.cilk_parser.specs.Steps.{AfterName, AtRight, Awaits, SimpleEnd, StoreAssign, Wants, goes_on, is_mark, step, step_awaited, step_only}
use Rattle.cilk_parser.proofs.Bricks.BehindOperand.{expression_ends}
use Rattle.cilk_parser.proofs.Bricks.Stepping.{awaits_lacks, awaits_sign, from_steps, passed_shorter, refuses_as}
use Rattle.cilk_parser.proofs.Bricks.Lists.{state_refuses}
use Rattle.cilk_parser.proofs.Bricks.Firsts.{first_there}
use Rattle.cilk_parser.proofs.Bricks.Beginnings.{known_passed, known_over}

-- ---- what stands behind the name

-- the sign that begins so
abbrev IsStart : SimpleStart → Token → Type 0
IsStart start.Assign token = token ≡ Mark Assign
IsStart (start.Change operator) token = (direction : Direction) × (token ≡ Mark (change_sign direction)) × (operator ≡ direction_operator direction)
IsStart (start.Step operator) token = (direction : Direction) × (token ≡ Mark (step_sign direction)) × (operator ≡ direction_operator direction)
IsStart start.Index token = token ≡ Mark OpenBracket
IsStart start.Other token = (outer : SimpleIn) (name : List ℕ) → (is_statement outer && is_mark OpenParen token) ≡ false → step (AfterName outer name) token ≡ None

no_start : (outer : SimpleIn) (name : List ℕ) (token : Token) → simple_start token ≡ start.Other → (is_statement outer && is_mark OpenParen token) ≡ false → step (AfterName outer name) token ≡ None
unfolding step
no_start outer name (Mark Assign) other none = absurd (cc)
no_start outer name (Mark PlusAssign) other none = absurd (cc)
no_start outer name (Mark MinusAssign) other none = absurd (cc)
no_start outer name (Mark PlusPlus) other none = absurd (cc)
no_start outer name (Mark MinusMinus) other none = absurd (cc)
no_start outer name (Mark OpenBracket) other none = absurd (cc)
no_start (AsStatement outer) name (Mark OpenParen) other none = absurd (false≢true (sym none))
no_start (AsForStart outer) name (Mark OpenParen) other none = refl
no_start (AsForLast outer start condition) name (Mark OpenParen) other none = refl
no_start outer name _ other none = refl

start_of : (token : Token) → IsStart (simple_start token) token
start_of (Mark Assign) = refl
start_of (Mark PlusAssign) = (Up, refl, refl)
start_of (Mark MinusAssign) = (Down, refl, refl)
start_of (Mark PlusPlus) = (Up, refl, refl)
start_of (Mark MinusMinus) = (Down, refl, refl)
start_of (Mark OpenBracket) = refl
start_of _ = λ outer name none. no_start outer name _ refl none

starts_at : (known : SimpleStart) (left places : List Placed) (placed : Placed) → starts_simple left ≡ known → left ≡ placed ∷ places → IsStart known placed.token
starts_at known left places placed starts first = subst (λ s. IsStart s placed.token) (sym (ap starts_simple first) ∙ starts) (start_of placed.token)

-- the same token stands first
same_first : (left rest other : List Placed) (placed one : Placed) (known : Token) → left ≡ one ∷ other → one.token ≡ known → left ≡ placed ∷ rest → placed.token ≡ known
same_first left rest other placed one known there is first = first_there known left rest placed (subst (StartsAt known) (sym there) is) first

pub lacks_simple : (level : ℕ) (name : List ℕ) (old : Spot) (refusal : ParseRefusal) → starts_simple old.left ≡ start.Other → refusal ≡ unexpected_of old.end old.left → LacksSimple level name old refusal
lacks_simple level name old refusal starts same outer _ none =
    state_refuses (AfterName outer name) refl old refusal same
    (λ placed places first. starts_at start.Other old.left places placed starts first outer name (subst (λ l. (is_statement outer && is_sign OpenParen l) ≡ false) first none))

-- ---- `x = r`

assigns_step : (outer : SimpleIn) (name : List ℕ) → step (AfterName outer name) (Mark Assign) ≡ goes_on (mark (simple_level outer) Assign) (AtRight (Assigned outer name))
unfolding step
assigns_step outer name = refl

pub assign_over : (level : ℕ) (name : List ℕ) (old : Spot) (refusal : ParseRefusal) → starts_simple old.left ≡ start.Assign → IsOver level [] old refusal → LacksSimple level name old refusal
assign_over level name old refusal starts over outer same _ =
    known_over (AfterName outer name) refl (Mark Assign) (simple_level outer) level [] (AtRight (Assigned outer name)) same (assigns_step outer name) old (λ placed rest first. starts_at start.Assign old.left rest placed starts first) refusal over

module _ (level : ℕ) (name : List ℕ) (old mid : Spot) (starts : starts_simple old.left ≡ start.Assign) (passed : HasPassed level [] old mid) where
  assign_leads : (outer : SimpleIn) → simple_level outer ≡ level → from (AfterName outer name) old ≡ from (AtRight (Assigned outer name)) mid
  assign_leads outer same =
      known_passed (AfterName outer name) refl (Mark Assign) (simple_level outer) level [] (AtRight (Assigned outer name)) same (assigns_step outer name) old (λ placed rest first. starts_at start.Assign old.left rest placed starts first) mid passed

  pub assigns_or_refused : (new : Spot) (result : Result Stmt ParseRefusal) → MatchResult result (λ tree. Parses (right_phrase level) mid new (name, tree)) (Lacks (right_phrase level) mid) → MatchResult result (Parses (simple_phrase level name) old new) (LacksSimple level name old)
  assigns_or_refused new (Ok tree) has = record {
    syntax = Assignment name has.syntax;
    same = has.same;
    shorter = let a = has.shorter in let b = passed_shorter level [] old mid passed in omega arith;
    leads = λ outer same. assign_leads outer same ∙ has.leads (Assigned outer name) same;
  }
  assigns_or_refused new (Err refusal) lacks =
      λ outer same none. refuses_as refusal (from (AfterName outer name) old) (from (AtRight (Assigned outer name)) mid) (assign_leads outer same) (lacks (Assigned outer name) same)

-- ---- `x++` and `x--`

steps_step : (outer : SimpleIn) (name : List ℕ) (direction : Direction) → step (AfterName outer name) (Mark (step_sign direction)) ≡ goes_on (mark (simple_level outer) (step_sign direction)) (Awaits (SimpleEnd outer (Step name direction)))
unfolding step
steps_step outer name Up = refl
steps_step outer name Down = refl

pub step_over : (level : ℕ) (name : List ℕ) (operator : BinaryOp) (old : Spot) (refusal : ParseRefusal) → starts_simple old.left ≡ start.Step operator → IsOver level [] old refusal → LacksSimple level name old refusal
step_over level name operator old refusal starts over outer same _ =
    let is = starts_at (start.Step operator) old.left over.rest over.placed starts over.first in
    known_over (AfterName outer name) refl (Mark (step_sign is.0)) (simple_level outer) level [] (Awaits (SimpleEnd outer (Step name is.0))) same (steps_step outer name is.0) old
    (λ placed rest first. same_first old.left rest over.rest placed over.placed (Mark (step_sign is.0)) over.first is.1 first) refusal over

-- the assignment that a change or a step stands for
abbrev changed : List ℕ → Expr → BinaryOp → Stmt
changed name value operator = stmt.Assign name (expr.Binary operator (expr.Local name) value)

pub step_read : (level : ℕ) (name : List ℕ) (operator : BinaryOp) (old new : Spot) → starts_simple old.left ≡ start.Step operator → HasPassed level [] old new → Parses (simple_phrase level name) old new (stmt.Assign name (expr.Binary operator (expr.Local name) (expr.Number (pos 1))))
step_read level name operator old new starts passed =
    let is = starts_at (start.Step operator) old.left new.left passed.placed starts passed.first in
    record {
      syntax = Step name is.0;
      same = ap (changed name (expr.Number (pos 1))) is.2;
      shorter = passed_shorter level [] old new passed;
      leads = λ outer same.
          known_passed (AfterName outer name) refl (Mark (step_sign is.0)) (simple_level outer) level [] (Awaits (SimpleEnd outer (Step name is.0))) same (steps_step outer name is.0) old
          (λ placed rest first. same_first old.left rest new.left placed passed.placed (Mark (step_sign is.0)) passed.first is.1 first) new passed;
    }

-- ---- `x += e` and `x -= e`

-- what the sign counts as
abbrev change_counts : List Count
change_counts = Anew Operators ∷ OneMore Operators ∷ []

changes_step : (outer : SimpleIn) (name : List ℕ) (direction : Direction) →
    step (AfterName outer name) (Mark (change_sign direction)) ≡ goes_on (counting (simple_level outer) change_counts (Mark (change_sign direction))) (Wants (ChangedBy outer name direction))
unfolding step
changes_step outer name Up = refl
changes_step outer name Down = refl

pub change_over : (level : ℕ) (name : List ℕ) (operator : BinaryOp) (old : Spot) (refusal : ParseRefusal) → starts_simple old.left ≡ start.Change operator → IsOver level (Anew Operators ∷ OneMore Operators ∷ []) old refusal → LacksSimple level name old refusal
change_over level name operator old refusal starts over outer same _ =
    let is = starts_at (start.Change operator) old.left over.rest over.placed starts over.first in
    known_over (AfterName outer name) refl (Mark (change_sign is.0)) (simple_level outer) level change_counts (Wants (ChangedBy outer name is.0)) same (changes_step outer name is.0) old
    (λ placed rest first. same_first old.left rest over.rest placed over.placed (Mark (change_sign is.0)) over.first is.1 first) refusal over

simple_ends : (outer : SimpleIn) (simple : Simple) (spot : Spot) → stepping (step_awaited (SimpleEnd outer simple)) spot ≡ from (Awaits (SimpleEnd outer simple)) spot
unfolding step
simple_ends outer simple spot = sym (from_steps (Awaits (SimpleEnd outer simple)) refl spot)

module _ (level : ℕ) (name : List ℕ) (operator : BinaryOp) (old mid : Spot) (starts : starts_simple old.left ≡ start.Change operator) (passed : HasPassed level (Anew Operators ∷ OneMore Operators ∷ []) old mid) where
  change_of : IsStart (start.Change operator) passed.placed.token
  change_of = starts_at (start.Change operator) old.left mid.left passed.placed starts passed.first

  change_leads : (outer : SimpleIn) → simple_level outer ≡ level → from (AfterName outer name) old ≡ from (Wants (ChangedBy outer name change_of.0)) mid
  change_leads outer same =
      known_passed (AfterName outer name) refl (Mark (change_sign change_of.0)) (simple_level outer) level change_counts (Wants (ChangedBy outer name change_of.0)) same (changes_step outer name change_of.0) old
      (λ placed rest first. same_first old.left rest mid.left placed passed.placed (Mark (change_sign change_of.0)) passed.first change_of.1 first) mid passed

  pub change_lacks : (refusal : ParseRefusal) → Lacks (expression_phrase 0 (level + 1) Inside) mid refusal → LacksSimple level name old refusal
  change_lacks refusal lacks outer same _ =
      refuses_as refusal (from (AfterName outer name) old) (from (Wants (ChangedBy outer name change_of.0)) mid) (change_leads outer same)
      (lacks (ChangedBy outer name change_of.0) (record { strong = refl; same_level = ap (λ l. l + 1) same; counted = refl }))

  pub change_read : (new : Spot) (tree : Expr) → Parses (expression_phrase 0 (level + 1) Inside) mid new tree → IsTrue (stops_below 0 new.left) → Parses (simple_phrase level name) old new (stmt.Assign name (expr.Binary operator (expr.Local name) tree))
  change_read new tree has stops = record {
    syntax = Change name change_of.0 has.syntax;
    same = ap (changed name tree) change_of.2 ∙ ap (λ t. changed name t (direction_operator change_of.0)) has.same;
    shorter = let a = has.shorter in let b = passed_shorter level change_counts old mid passed in omega arith;
    leads = λ outer same.
        change_leads outer same
        ∙ has.leads (ChangedBy outer name change_of.0) (record { strong = refl; same_level = ap (λ l. l + 1) same; counted = refl })
        ∙ expression_ends (ChangedBy outer name change_of.0) has.syntax new stops
        ∙ simple_ends outer (Change name change_of.0 has.syntax) new;
  }

-- ---- `a[i] = e`

index_step : (outer : SimpleIn) (name : List ℕ) → step (AfterName outer name) (Mark OpenBracket) ≡ goes_on (mark (simple_level outer) OpenBracket) (Wants (StoredAt outer name))
unfolding step
index_step outer name = refl

pub index_over : (level : ℕ) (name : List ℕ) (old : Spot) (refusal : ParseRefusal) → starts_simple old.left ≡ start.Index → IsOver level [] old refusal → LacksSimple level name old refusal
index_over level name old refusal starts over outer same _ =
    known_over (AfterName outer name) refl (Mark OpenBracket) (simple_level outer) level [] (Wants (StoredAt outer name)) same (index_step outer name) old (λ placed rest first. starts_at start.Index old.left rest placed starts first) refusal over

module _ (level : ℕ) (name : List ℕ) (old mid : Spot) (starts : starts_simple old.left ≡ start.Index) (passed : HasPassed level [] old mid) where
  index_leads : (outer : SimpleIn) → simple_level outer ≡ level → from (AfterName outer name) old ≡ from (Wants (StoredAt outer name)) mid
  index_leads outer same =
      known_passed (AfterName outer name) refl (Mark OpenBracket) (simple_level outer) level [] (Wants (StoredAt outer name)) same (index_step outer name) old (λ placed rest first. starts_at start.Index old.left rest placed starts first) mid passed

  index_encloses : (outer : SimpleIn) → simple_level outer ≡ level → Encloses (level + 1) Whole (StoredAt outer name) level CloseBracket (λ index. Awaits (StoreAssign outer name index))
  index_encloses outer same = record {
    fits = record { strong = refl; same_level = ap (λ l. l + 1) same; counted = refl };
    closes = λ index token. ap (λ l. step_only (mark l CloseBracket) (Awaits (StoreAssign outer name index)) token) same;
  }

  pub lacks_index : (refusal : ParseRefusal) → Lacks (enclosed_phrase (level + 1) Whole CloseBracket level) mid refusal → LacksSimple level name old refusal
  lacks_index refusal lacks outer same _ = refuses_as refusal (from (AfterName outer name) old) (from (Wants (StoredAt outer name)) mid) (index_leads outer same) (lacks (StoredAt outer name, _) (index_encloses outer same))

  module _ (near : Spot) (index : Expr) (has : Parses (enclosed_phrase (level + 1) Whole CloseBracket level) mid near index) where
    bracket_read : (outer : SimpleIn) → simple_level outer ≡ level → from (AfterName outer name) old ≡ from (Awaits (StoreAssign outer name has.syntax)) near
    bracket_read outer same = index_leads outer same ∙ has.leads (StoredAt outer name, _) (index_encloses outer same)

    pub lacks_equals : (refusal : ParseRefusal) → LacksSign Assign level near refusal → LacksSimple level name old refusal
    lacks_equals refusal lacks outer same _ =
        refuses_as refusal (from (AfterName outer name) old) (from (Awaits (StoreAssign outer name has.syntax)) near) (bracket_read outer same)
        (awaits_lacks (StoreAssign outer name has.syntax) Assign level (ap (λ l. mark l Assign) same) near refusal lacks)

    module _ (behind : Spot) (equals : HasRead Assign level near behind) where
      equals_read : (outer : SimpleIn) → simple_level outer ≡ level → from (AfterName outer name) old ≡ from (Wants (StoredIn outer name has.syntax)) behind
      equals_read outer same = bracket_read outer same ∙ awaits_sign (StoreAssign outer name has.syntax) Assign level (ap (λ l. mark l Assign) same) near behind equals

      pub lacks_stored : (refusal : ParseRefusal) → Lacks (expression_phrase 0 level Whole) behind refusal → LacksSimple level name old refusal
      lacks_stored refusal lacks outer same _ =
          refuses_as refusal (from (AfterName outer name) old) (from (Wants (StoredIn outer name has.syntax)) behind) (equals_read outer same)
          (lacks (StoredIn outer name has.syntax) (record { strong = refl; same_level = same; counted = refl }))

      pub stores : (new : Spot) (value : Expr) → Parses (expression_phrase 0 level Whole) behind new value → IsTrue (stops_below 0 new.left) → Parses (simple_phrase level name) old new (stmt.Put name index value)
      stores new value given ends = record {
        syntax = Storing name has.syntax given.syntax;
        same = ap (λ i. stmt.Put name i value) has.same ∙ ap (stmt.Put name (expression_tree has.syntax)) given.same;
        shorter =
            let a = has.shorter in let b = given.shorter in let d = passed_shorter level [] old mid passed in let e = passed_shorter level [] near behind equals.passed in omega arith;
        leads = λ outer same.
            equals_read outer same
            ∙ given.leads (StoredIn outer name has.syntax) (record { strong = refl; same_level = same; counted = refl })
            ∙ expression_ends (StoredIn outer name has.syntax) given.syntax new ends
            ∙ simple_ends outer (Storing name has.syntax given.syntax) new;
      }
