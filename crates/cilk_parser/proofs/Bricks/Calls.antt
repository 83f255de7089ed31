-- How the machine reads the arguments of a call, and the call behind its name.
use Rattle.std.proofs.Common.{◌≡◌, ℕ, ◌≤◌, Bool, true, false, IsTrue, Option, Some, None, Result, Ok, Err, MatchResult, List, [], ◌∷◌, ◌++◌, length, refl, ap, sym, ◌∙◌, arith}
use Rattle.cilk_tree.specs.declared.count.Count.TheVariants.{Anew}
use Rattle.cilk_tree.specs.declared.count.Counted.TheVariants.{Arguments}
use Rattle.cilk_tree.specs.declared.token.Sign.TheVariants.{OpenParen, CloseParen, Comma}
use Rattle.cilk_tree.specs.declared.token.Token.{Token}
use Rattle.cilk_tree.specs.declared.token.Token.TheVariants.{Name, Mark}
use Rattle.cilk_tree.specs.declared.tree.Expr.{Expr}
use Rattle.cilk_tree.specs.Levels.{mark, plain}
use Rattle.cilk_tree.specs.Sugar.{argument_trees, expression_tree, one_expression}
use Rattle.cilk_tree.specs.Syntax.{Commas, Expression}
use Rattle.cilk_parser.specs.declared.opening.Opening.TheVariants.{Argument}
use Rattle.cilk_parser.specs.declared.refusal.ParseRefusal.{ParseRefusal}
use Rattle.cilk_parser.specs.Contexts.{with_last, CallIn, call_level, ArgumentOf}
use Rattle.cilk_parser.specs.Spots.{Spot, from, Refuses, unexpected_of, is_sign, HasPassed, IsOver, HasRead, HasNamed, LacksName, stepping}
use Rattle.cilk_parser.specs.Phrases.{Lacks, Parses, arguments_phrase, expression_phrase, opened_phrase, spawn_phrase, stops_below}
use Rattle.cilk_parser.specs.Steps.{AtArguments, Wants, Awaits, AwaitsName, CallOpen, SpawnedName, after_call, call_of, goes_on, is_mark, step, step_argument, step_arguments, step_only, step_wants}
use Rattle.cilk_parser.proofs.Bricks.BehindOperand.{expression_ends}
use Rattle.cilk_parser.proofs.Bricks.Stepping.{awaits_name, awaits_no_name, from_steps, passed_shorter, refuses_as, sign_absent, stepping_same}
use Rattle.cilk_parser.proofs.Bricks.Lists.{IsListed, gives_with_last, list_closed, more_passed, state_refuses}
use Rattle.cilk_parser.proofs.Bricks.Beginnings.{sign_begins, known_passed, known_over}

-- ---- arguments

-- Some arguments were read, and another is wanted.
pub record ArgumentsSoFar (level : ℕ) (old now : Spot) (trees : List Expr) : Type 0 where
  pub before : Option (Commas Expression)
  pub same : trees ≡ argument_trees before
  pub no_longer : length now.left ≤ length old.left
  pub leads : (outer : CallIn) (spawned : Bool) (name : List ℕ) → call_level outer ≡ level → from (AtArguments outer spawned name) old ≡ from (Wants (ArgumentOf outer spawned name before)) now

first_argument : (outer : CallIn) (spawned : Bool) (name : List ℕ) (token : Token) → is_mark CloseParen token ≡ false → step_arguments outer spawned name token ≡ step_wants (ArgumentOf outer spawned name None) token
first_argument outer spawned name (Mark CloseParen) other = absurd (cc)
first_argument outer spawned name _ other = refl

begins_with : (old : Spot) → is_sign CloseParen old.left ≡ false → (outer : CallIn) (spawned : Bool) (name : List ℕ) → from (AtArguments outer spawned name) old ≡ from (Wants (ArgumentOf outer spawned name None)) old
unfolding step
begins_with old absent outer spawned name =
    from_steps (AtArguments outer spawned name) refl old
    ∙ stepping_same (step_arguments outer spawned name) (step_wants (ArgumentOf outer spawned name None)) old (λ placed places first. first_argument outer spawned name placed.token (sign_absent CloseParen old.left places placed first absent))
    ∙ sym (from_steps (Wants (ArgumentOf outer spawned name None)) refl old)

pub arguments_begin : (level : ℕ) (old : Spot) → is_sign CloseParen old.left ≡ false → ArgumentsSoFar level old old []
arguments_begin level old absent = record { before = None; same = refl; no_longer = omega arith; leads = λ outer spawned name same. begins_with old absent outer spawned name }

closes_none : (outer : CallIn) (spawned : Bool) (name : List ℕ) → step (AtArguments outer spawned name) (Mark CloseParen) ≡ goes_on (mark (call_level outer) CloseParen) (after_call outer (call_of spawned name None))
unfolding step
closes_none outer spawned name = refl

-- `()`
pub no_arguments : (level : ℕ) (old new : Spot) → IsTrue (is_sign CloseParen old.left) → HasPassed level [] old new → Parses (arguments_phrase level) old new []
no_arguments level old new there passed = record {
  syntax = None;
  same = refl;
  shorter = passed_shorter level [] old new passed;
  leads = λ (outer, spawned, name) same.
      known_passed (AtArguments outer spawned name) refl (Mark CloseParen) (call_level outer) level [] (after_call outer (call_of spawned name None)) same (closes_none outer spawned name) old (sign_begins CloseParen old.left there) new passed;
}

pub no_arguments_over : (level : ℕ) (old : Spot) (refusal : ParseRefusal) → IsTrue (is_sign CloseParen old.left) → IsOver level [] old refusal → Lacks (arguments_phrase level) old refusal
no_arguments_over level old refusal there over (outer, spawned, name) same =
    known_over (AtArguments outer spawned name) refl (Mark CloseParen) (call_level outer) level [] (after_call outer (call_of spawned name None)) same (closes_none outer spawned name) old (sign_begins CloseParen old.left there) refusal over

closes_list : (outer : CallIn) (spawned : Bool) (name : List ℕ) (arguments : Commas Expression) (level : ℕ) → call_level outer ≡ level → (token : Token) → is_mark Comma token ≡ false →
    step_argument outer spawned name arguments token ≡ step_only (mark level CloseParen) (after_call outer (call_of spawned name (Some arguments))) token
closes_list outer spawned name arguments level same (Mark Comma) other = absurd (cc)
closes_list outer spawned name arguments level same (Mark CloseParen) other = ap (λ l. goes_on (mark l CloseParen) (after_call outer (call_of spawned name (Some arguments)))) same
closes_list outer spawned name arguments level same _ other = refl

arguments_listed : (outer : CallIn) (spawned : Bool) (name : List ℕ) (arguments : Commas Expression) (level : ℕ) → call_level outer ≡ level →
    IsListed (step_argument outer spawned name arguments) level (Wants (ArgumentOf outer spawned name (Some arguments))) CloseParen (after_call outer (call_of spawned name (Some arguments)))
arguments_listed outer spawned name arguments level same = record {
  comma = ap (λ l. goes_on (mark l Comma) (Wants (ArgumentOf outer spawned name (Some arguments)))) same;
  others = closes_list outer spawned name arguments level same;
}

module _ (level : ℕ) (old now mid : Spot) (trees : List Expr) (tree : Expr) (far : ArgumentsSoFar level old now trees) (has : Parses (expression_phrase 0 level Argument) now mid tree) (stops : IsTrue (stops_below 0 mid.left)) where
  argument_read : (outer : CallIn) (spawned : Bool) (name : List ℕ) → call_level outer ≡ level → from (AtArguments outer spawned name) old ≡ stepping (step_argument outer spawned name (with_last far.before has.syntax)) mid
  argument_read outer spawned name same =
      far.leads outer spawned name same
      ∙ has.leads (ArgumentOf outer spawned name far.before) (record { strong = refl; same_level = same; counted = refl })
      ∙ expression_ends (ArgumentOf outer spawned name far.before) has.syntax mid stops

  more_trees : trees ++ tree ∷ [] ≡ argument_trees (Some (with_last far.before has.syntax))
  more_trees = ap (λ t. trees ++ t ∷ []) has.same ∙ ap (λ t. t ++ expression_tree has.syntax ∷ []) far.same ∙ gives_with_last one_expression far.before has.syntax

  -- behind a comma another is wanted
  pub arguments_go_on : (new : Spot) → IsTrue (is_sign Comma mid.left) → HasPassed level [] mid new → ArgumentsSoFar level old new (trees ++ tree ∷ [])
  arguments_go_on new there passed = record {
    before = Some (with_last far.before has.syntax);
    same = more_trees;
    no_longer = let a = far.no_longer in let b = has.shorter in let c = passed_shorter level [] mid new passed in omega arith;
    leads = λ outer spawned name same.
        argument_read outer spawned name same
        ∙ more_passed (step_argument outer spawned name (with_last far.before has.syntax)) level (Wants (ArgumentOf outer spawned name (Some (with_last far.before has.syntax)))) CloseParen
        (after_call outer (call_of spawned name (Some (with_last far.before has.syntax)))) (arguments_listed outer spawned name (with_last far.before has.syntax) level same) mid new there passed;
  }

  -- the parenthesis ends them
  pub arguments_end : (new : Spot) → is_sign Comma mid.left ≡ false → HasRead CloseParen level mid new → Parses (arguments_phrase level) old new (trees ++ tree ∷ [])
  arguments_end new absent read = record {
    syntax = Some (with_last far.before has.syntax);
    same = more_trees;
    shorter = let a = far.no_longer in let b = has.shorter in let c = passed_shorter level [] mid new read.passed in omega arith;
    leads = λ (outer, spawned, name) same.
        argument_read outer spawned name same
        ∙ list_closed (step_argument outer spawned name (with_last far.before has.syntax)) level (Wants (ArgumentOf outer spawned name (Some (with_last far.before has.syntax)))) CloseParen
        (after_call outer (call_of spawned name (Some (with_last far.before has.syntax)))) (arguments_listed outer spawned name (with_last far.before has.syntax) level same) mid new absent read;
  }

-- ---- the parenthesis before them

opens : (outer : CallIn) (spawned : Bool) (name : List ℕ) → step (Awaits (CallOpen outer spawned name)) (Mark OpenParen) ≡ goes_on (record { level = call_level outer; counts = Anew Arguments ∷ []; token = Mark OpenParen }) (AtArguments outer spawned name)
unfolding step
opens outer spawned name = refl

opens_only : (outer : CallIn) (spawned : Bool) (name : List ℕ) (token : Token) → is_mark OpenParen token ≡ false → step (Awaits (CallOpen outer spawned name)) token ≡ None
unfolding step
opens_only outer spawned name (Mark OpenParen) other = absurd (cc)
opens_only outer spawned name _ other = refl

pub lacks_opening : (level : ℕ) (old : Spot) (refusal : ParseRefusal) → is_sign OpenParen old.left ≡ false → refusal ≡ unexpected_of old.end old.left → Lacks (opened_phrase level) old refusal
lacks_opening level old refusal absent same (outer, spawned, name) _ =
    state_refuses (Awaits (CallOpen outer spawned name)) refl old refusal same (λ placed places first. opens_only outer spawned name placed.token (sign_absent OpenParen old.left places placed first absent))

pub opening_over : (level : ℕ) (old : Spot) (refusal : ParseRefusal) → IsTrue (is_sign OpenParen old.left) → IsOver level (Anew Arguments ∷ []) old refusal → Lacks (opened_phrase level) old refusal
opening_over level old refusal there over (outer, spawned, name) same =
    known_over (Awaits (CallOpen outer spawned name)) refl (Mark OpenParen) (call_level outer) level (Anew Arguments ∷ []) (AtArguments outer spawned name) same (opens outer spawned name) old (sign_begins OpenParen old.left there) refusal over

module _ (level : ℕ) (old mid : Spot) (there : IsTrue (is_sign OpenParen old.left)) (passed : HasPassed level (Anew Arguments ∷ []) old mid) where
  opened_leads : (outer : CallIn) (spawned : Bool) (name : List ℕ) → call_level outer ≡ level → from (Awaits (CallOpen outer spawned name)) old ≡ from (AtArguments outer spawned name) mid
  opened_leads outer spawned name same =
      known_passed (Awaits (CallOpen outer spawned name)) refl (Mark OpenParen) (call_level outer) level (Anew Arguments ∷ []) (AtArguments outer spawned name) same (opens outer spawned name) old (sign_begins OpenParen old.left there) mid passed

  opened_arguments : (new : Spot) (trees : List Expr) → Parses (arguments_phrase level) mid new trees → Parses (opened_phrase level) old new trees
  opened_arguments new trees has = record {
    syntax = has.syntax;
    same = has.same;
    shorter = let a = has.shorter in let b = passed_shorter level (Anew Arguments ∷ []) old mid passed in omega arith;
    leads = λ (outer, spawned, name) same. opened_leads outer spawned name same ∙ has.leads (outer, spawned, name) same;
  }

  opened_lacks : (refusal : ParseRefusal) → Lacks (arguments_phrase level) mid refusal → Lacks (opened_phrase level) old refusal
  opened_lacks refusal lacks (outer, spawned, name) same =
      refuses_as refusal (from (Awaits (CallOpen outer spawned name)) old) (from (AtArguments outer spawned name) mid) (opened_leads outer spawned name same) (lacks (outer, spawned, name) same)

  pub opened_or_refused : (new : Spot) (result : Result (List Expr) ParseRefusal) → MatchResult result (Parses (arguments_phrase level) mid new) (Lacks (arguments_phrase level) mid) → MatchResult result (Parses (opened_phrase level) old new) (Lacks (opened_phrase level) old)
  opened_or_refused new (Ok trees) has = opened_arguments new trees has
  opened_or_refused new (Err refusal) lacks = opened_lacks refusal lacks

-- ---- behind `spawn`

pub spawns_nothing : (level : ℕ) (old : Spot) (refusal : ParseRefusal) → LacksName level [] old refusal → (outer : CallIn) → call_level outer ≡ level → Refuses (from (AwaitsName (SpawnedName outer)) old) refusal
spawns_nothing level old refusal lacks outer same = awaits_no_name (SpawnedName outer) level [] (λ name. ap (λ l. plain l (Name name)) same) old refusal lacks

module _ (level : ℕ) (name : List ℕ) (old mid : Spot) (named : HasNamed level [] name old mid) where
  spawned_name : (outer : CallIn) → call_level outer ≡ level → from (AwaitsName (SpawnedName outer)) old ≡ from (Awaits (CallOpen outer true name)) mid
  spawned_name outer same = awaits_name (SpawnedName outer) level [] (λ n. ap (λ l. plain l (Name n)) same) name old mid named

  pub spawns : (new : Spot) (trees : List Expr) → Parses (opened_phrase level) mid new trees → Parses (spawn_phrase level) old new (record { name = name; arguments = trees })
  spawns new trees has = record {
    syntax = (name, has.syntax);
    same = ap (λ trees. record { name = name; arguments = trees }) has.same;
    shorter = let a = has.shorter in let b = passed_shorter level [] old mid named.passed in omega arith;
    leads = λ outer same. spawned_name outer same ∙ has.leads (outer, true, name) same;
  }

  pub spawn_lacks : (refusal : ParseRefusal) → Lacks (opened_phrase level) mid refusal → (outer : CallIn) → call_level outer ≡ level → Refuses (from (AwaitsName (SpawnedName outer)) old) refusal
  spawn_lacks refusal lacks outer same = refuses_as refusal (from (AwaitsName (SpawnedName outer)) old) (from (Awaits (CallOpen outer true name)) mid) (spawned_name outer same) (lacks (outer, true, name) same)
