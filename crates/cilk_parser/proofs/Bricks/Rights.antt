-- How the machine reads what stands behind `=`.
use Rattle.std.proofs.Common.{◌≡◌, ℕ, Bool, true, false, ◌&&◌, IsTrue, Some, List, [], ◌∷◌, refl, ap, sym, ◌∙◌, subst, inl, inr, arith}
use Rattle.std.proofs.lemmas.Bool.{false≢true}
use Rattle.cilk_tree.specs.declared.token.Keyword.TheVariants.{FetchAdd, Spawn}
use Rattle.cilk_tree.specs.declared.token.Placed.{Placed}
use Rattle.cilk_tree.specs.declared.token.Sign.TheVariants.{OpenParen}
use Rattle.cilk_tree.specs.declared.token.Token.{Token}
use Rattle.cilk_tree.specs.declared.token.Token.TheVariants.{Name, Word}
use Rattle.cilk_tree.specs.declared.tree.Expr.{Expr}
use Rattle.cilk_tree.specs.declared.tree.Stmt.TheVariants as stmt
use Rattle.cilk_tree.specs.Levels.{counting, plain, word_at}
use Rattle.cilk_tree.specs.Syntax.{Right, Value, Result, Fetched}
use Rattle.cilk_parser.specs.declared.addition.Addition.{Addition}
use Rattle.cilk_parser.specs.declared.call.Call.{Call}
use Rattle.cilk_parser.specs.declared.opening.Opening.TheVariants.{Whole}
use Rattle.cilk_parser.specs.declared.refusal.ParseRefusal.{ParseRefusal}
use Rattle.cilk_parser.specs.declared.tallies.Tallies.{Tallies}
use Rattle.cilk_parser.specs.Contexts.{RightIn, Assigned, Declared, right_level, ResultOf, ValueOf}
use Rattle.cilk_parser.specs.Spots.{Spot, from, Refuses, is_sign, is_keyword, is_keyword_token, is_name_before, is_name_token, is_named, HasPassed, IsOver, HasNamed, LacksName, stepping}
use Rattle.cilk_parser.specs.Phrases.{Lacks, Parses, addition_phrase, call_phrase, expression_phrase, opened_phrase, right_phrase, spawn_phrase, stops_below}
use Rattle.cilk_parser.specs.Run.{Tallied, Within, Over, judge_token, run}
use Rattle.cilk_parser.specs.Steps.{AtRight, Awaits, AwaitsName, AddOpen, CallOpen, SpawnedName, Wants, after_right, call_of, goes_on, step, step_at_right, step_right, step_wants}
use Rattle.cilk_parser.specs.Tally.{is_over}
use Rattle.cilk_parser.proofs.Bricks.BehindOperand.{expression_ends}
use Rattle.cilk_parser.proofs.Bricks.Stepping.{from_steps, keyword_absent, name_absent, name_there, passed_shorter, refuses_as, stepping_same}
use Rattle.cilk_parser.proofs.Bricks.RightNames.{name_of_call, name_of_call_over, name_of_value}
use Rattle.cilk_parser.proofs.Bricks.Beginnings.{keyword_begins, known_passed, known_over}

-- ---- a call

second_true : (a b : Bool) → (a && b) ≡ true → b ≡ true
second_true true b both = both
second_true false b both = absurd (false≢true both)

second_false : (a b : Bool) → a ≡ true → (a && b) ≡ false → b ≡ false
second_false true b first neither = neither
second_false false b first neither = absurd (false≢true first)

first_true : (a b : Bool) → (a && b) ≡ true → a ≡ true
first_true true b both = refl
first_true false b both = both

named_before : (left : List Placed) → IsTrue (is_name_before OpenParen left) → IsTrue (is_named left)
named_before [] call = call
named_before (placed ∷ rest) call = first_true (is_name_token placed.token) (is_sign OpenParen rest) call

judged_as : (level own : ℕ) (t : Tallies) (offset : ℕ) (token known : Token) (judged : Tallied) → own ≡ level → token ≡ known → judge_token t (counting level [] token) offset ≡ judged → judge_token t (plain own known) offset ≡ judged
judged_as level own t offset token known judged same is judges = ap (λ l. judge_token t (plain l known) offset) same ∙ ap (λ k. judge_token t (plain level k) offset) (sym is) ∙ judges

module _ (level : ℕ) (name : List ℕ) (old mid : Spot) (call : IsTrue (is_name_before OpenParen old.left)) (named : HasNamed level [] name old mid) where
  paren_left : IsTrue (is_sign OpenParen mid.left)
  paren_left = second_true (is_name_token named.passed.placed.token) (is_sign OpenParen mid.left) (subst (λ l. IsTrue (is_name_before OpenParen l)) named.passed.first call)

  called_name : (outer : RightIn) → right_level outer ≡ level → from (AtRight outer) old ≡ from (Awaits (CallOpen (ResultOf outer) false name)) mid
  called_name outer same =
      ap (λ l. run old.end (record { state = AtRight outer; tallies = old.tallies; waiting = [] }) l) named.passed.first
      ∙ name_of_call outer name old.end old.tallies mid.tallies named.passed.placed mid.left named.named paren_left (judged_as level (right_level outer) old.tallies named.passed.placed.offset named.passed.placed.token (Name name) (Within mid.tallies) same named.named named.passed.judged)
      ∙ ap (λ end. run end (record { state = Awaits (CallOpen (ResultOf outer) false name); tallies = mid.tallies; waiting = [] }) mid.left) (sym named.passed.end)

  pub calls : (new : Spot) (trees : List Expr) → Parses (opened_phrase level) mid new trees → Parses (call_phrase level) old new (record { name = name; arguments = trees })
  calls new trees has = record {
    syntax = (name, has.syntax);
    same = ap (λ trees. record { name = name; arguments = trees }) has.same;
    shorter = let a = has.shorter in let b = passed_shorter level [] old mid named.passed in omega arith;
    leads = λ outer same. called_name outer same ∙ has.leads (ResultOf outer, false, name) same;
  }

  pub call_lacks : (refusal : ParseRefusal) → Lacks (opened_phrase level) mid refusal → Lacks (call_phrase level) old refusal
  call_lacks refusal lacks outer same = refuses_as refusal (from (AtRight outer) old) (from (Awaits (CallOpen (ResultOf outer) false name)) mid) (called_name outer same) (lacks (ResultOf outer, false, name) same)

pub calls_nothing : (level : ℕ) (old : Spot) (refusal : ParseRefusal) → IsTrue (is_name_before OpenParen old.left) → LacksName level [] old refusal → Lacks (call_phrase level) old refusal
calls_nothing level old refusal call lacks outer same = elim lacks [
  | inl memory ↦ subst (Refuses (from (AtRight outer) old)) (sym memory) tt
  | inr other ↦ elim other [
    | inl absent ↦ absurd (false≢true (sym absent.0 ∙ named_before old.left call))
    | inr over ↦
        let is = name_there over.1.placed.token (subst (λ l. IsTrue (is_named l)) over.1.first over.0) in
        subst (Refuses (from (AtRight outer) old)) (sym over.1.same)
        (ap (λ l. run old.end (record { state = AtRight outer; tallies = old.tallies; waiting = [] }) l) over.1.first
        ∙ name_of_call_over outer is.0 old.end old.tallies over.1.placed over.1.rest over.1.kind over.1.offset is.1
        (second_true (is_name_token over.1.placed.token) (is_sign OpenParen over.1.rest) (subst (λ l. IsTrue (is_name_before OpenParen l)) over.1.first call))
        (judged_as level (right_level outer) old.tallies over.1.placed.offset over.1.placed.token (Name is.0) (Over over.1.kind over.1.offset) same is.1 over.1.judged))
  ]
]

-- ---- a value

-- no call by `spawn`, no addition and no call stands first
pub record BeginsNone (left : List Placed) : Type 0 where
  pub spawn : is_keyword Spawn left ≡ false
  pub add : is_keyword FetchAdd left ≡ false
  pub call : is_name_before OpenParen left ≡ false

pub begins_none : (left : List Placed) → is_keyword Spawn left ≡ false → is_keyword FetchAdd left ≡ false → is_name_before OpenParen left ≡ false → BeginsNone left
begins_none left spawn add call = record { spawn = spawn; add = add; call = call }

first_of_value : (outer : RightIn) (token : Token) → is_keyword_token Spawn token ≡ false → is_keyword_token FetchAdd token ≡ false → is_name_token token ≡ false → step_at_right outer token ≡ step_wants (ValueOf outer) token
first_of_value outer (Name name) spawn add other = absurd (false≢true (sym other))
first_of_value outer (Word Spawn) spawn add other = absurd (cc)
first_of_value outer (Word FetchAdd) spawn add other = absurd (cc)
first_of_value outer _ spawn add other = refl

named_value : (outer : RightIn) (old : Spot) (left : List Placed) → IsTrue (is_named left) → is_name_before OpenParen left ≡ false → is_over old.tallies ≡ false →
    run old.end (record { state = AtRight outer; tallies = old.tallies; waiting = [] }) left ≡ run old.end (record { state = Wants (ValueOf outer); tallies = old.tallies; waiting = [] }) left
named_value outer old [] named other within = absurd (false≢true named)
named_value outer old (placed ∷ rest) named other within =
    let is = name_there placed.token named in
    name_of_value outer is.0 old.end old.tallies placed rest within is.1 (second_false (is_name_token placed.token) (is_sign OpenParen rest) named other)

value_where : (outer : RightIn) (old : Spot) (named : Bool) → is_named old.left ≡ named → BeginsNone old.left → is_over old.tallies ≡ false → from (AtRight outer) old ≡ from (Wants (ValueOf outer)) old
unfolding step
value_where outer old true is none within = named_value outer old old.left is none.call within
value_where outer old false is none within =
    from_steps (AtRight outer) refl old
    ∙ stepping_same (step_at_right outer) (step_wants (ValueOf outer)) old (λ placed places first. first_of_value outer placed.token (keyword_absent Spawn old.left places placed first none.spawn) (keyword_absent FetchAdd old.left places placed first none.add) (name_absent old.left places placed first is))
    ∙ sym (from_steps (Wants (ValueOf outer)) refl old)

-- Where neither a call nor an addition begins, a value is wanted.
value_begins : (old : Spot) → BeginsNone old.left → is_over old.tallies ≡ false → (outer : RightIn) → from (AtRight outer) old ≡ from (Wants (ValueOf outer)) old
value_begins old none within outer = value_where outer old (is_named old.left) refl none within

pub right_lacks_value : (level : ℕ) (old : Spot) (refusal : ParseRefusal) → BeginsNone old.left → is_over old.tallies ≡ false →
    Lacks (expression_phrase 0 level Whole) old refusal → Lacks (right_phrase level) old refusal
right_lacks_value level old refusal none within lacks outer same =
    refuses_as refusal (from (AtRight outer) old) (from (Wants (ValueOf outer)) old) (value_begins old none within outer) (lacks (ValueOf outer) (record { strong = refl; same_level = same; counted = refl }))

right_ends : (outer : RightIn) (spot : Spot) (right : Right) → stepping (step_right outer right) spot ≡ from (after_right outer right) spot
unfolding step
right_ends (Assigned outer name) spot right = sym (from_steps (after_right (Assigned outer name) right) refl spot)
right_ends (Declared outer before name) spot right = sym (from_steps (after_right (Declared outer before name) right) refl spot)

pub right_value : (level : ℕ) (target : List ℕ) (old new : Spot) (tree : Expr) → BeginsNone old.left → is_over old.tallies ≡ false →
    Parses (expression_phrase 0 level Whole) old new tree → IsTrue (stops_below 0 new.left) → Parses (right_phrase level) old new (target, (stmt.Assign target tree))
right_value level target old new tree none within has stops = record {
  syntax = Value has.syntax;
  same = ap (stmt.Assign target) has.same;
  shorter = has.shorter;
  leads = λ outer same.
      value_begins old none within outer
      ∙ has.leads (ValueOf outer) (record { strong = refl; same_level = same; counted = refl })
      ∙ expression_ends (ValueOf outer) has.syntax new stops
      ∙ right_ends outer new (Value has.syntax);
}

-- ---- a call behind `=`

pub right_calls : (level : ℕ) (target : List ℕ) (old new : Spot) (call : Call) → Parses (call_phrase level) old new call → Parses (right_phrase level) old new (target, (stmt.Call (Some target) call.name call.arguments))
right_calls level target old new call has = record {
  syntax = Result (call_of false has.syntax.0 has.syntax.1);
  same = ap (λ c. stmt.Call (Some target) c.name c.arguments) has.same;
  shorter = has.shorter;
  leads = has.leads;
}

spawn_word : (outer : RightIn) → step (AtRight outer) (Word Spawn) ≡ goes_on (word_at (right_level outer) Spawn) (AwaitsName (SpawnedName (ResultOf outer)))
unfolding step
spawn_word outer = refl

pub right_spawn_over : (level : ℕ) (old : Spot) (refusal : ParseRefusal) → IsTrue (is_keyword Spawn old.left) → IsOver level [] old refusal → Lacks (right_phrase level) old refusal
right_spawn_over level old refusal there over outer same =
    known_over (AtRight outer) refl (Word Spawn) (right_level outer) level [] (AwaitsName (SpawnedName (ResultOf outer))) same (spawn_word outer) old (keyword_begins Spawn old.left there) refusal over

module _ (level : ℕ) (old mid : Spot) (there : IsTrue (is_keyword Spawn old.left)) (passed : HasPassed level [] old mid) where
  spawn_leads : (outer : RightIn) → right_level outer ≡ level → from (AtRight outer) old ≡ from (AwaitsName (SpawnedName (ResultOf outer))) mid
  spawn_leads outer same =
      known_passed (AtRight outer) refl (Word Spawn) (right_level outer) level [] (AwaitsName (SpawnedName (ResultOf outer))) same (spawn_word outer) old (keyword_begins Spawn old.left there) mid passed

  pub right_spawns : (target : List ℕ) (new : Spot) (call : Call) → Parses (spawn_phrase level) mid new call → Parses (right_phrase level) old new (target, (stmt.Spawn (Some target) call.name call.arguments))
  right_spawns target new call has = record {
    syntax = Result (call_of true has.syntax.0 has.syntax.1);
    same = ap (λ c. stmt.Spawn (Some target) c.name c.arguments) has.same;
    shorter = let a = has.shorter in let b = passed_shorter level [] old mid passed in omega arith;
    leads = λ outer same. spawn_leads outer same ∙ has.leads (ResultOf outer) same;
  }

  pub right_spawn_lacks : (refusal : ParseRefusal) → Lacks (spawn_phrase level) mid refusal → Lacks (right_phrase level) old refusal
  right_spawn_lacks refusal lacks outer same = refuses_as refusal (from (AtRight outer) old) (from (AwaitsName (SpawnedName (ResultOf outer))) mid) (spawn_leads outer same) (lacks (ResultOf outer) same)

-- ---- an addition behind `=`

add_word : (outer : RightIn) → step (AtRight outer) (Word FetchAdd) ≡ goes_on (word_at (right_level outer) FetchAdd) (Awaits (AddOpen (ResultOf outer)))
unfolding step
add_word outer = refl

pub right_add_over : (level : ℕ) (old : Spot) (refusal : ParseRefusal) → IsTrue (is_keyword FetchAdd old.left) → IsOver level [] old refusal → Lacks (right_phrase level) old refusal
right_add_over level old refusal there over outer same =
    known_over (AtRight outer) refl (Word FetchAdd) (right_level outer) level [] (Awaits (AddOpen (ResultOf outer))) same (add_word outer) old (keyword_begins FetchAdd old.left there) refusal over

module _ (level : ℕ) (old mid : Spot) (there : IsTrue (is_keyword FetchAdd old.left)) (passed : HasPassed level [] old mid) where
  add_leads : (outer : RightIn) → right_level outer ≡ level → from (AtRight outer) old ≡ from (Awaits (AddOpen (ResultOf outer))) mid
  add_leads outer same =
      known_passed (AtRight outer) refl (Word FetchAdd) (right_level outer) level [] (Awaits (AddOpen (ResultOf outer))) same (add_word outer) old (keyword_begins FetchAdd old.left there) mid passed

  pub right_adds : (target : List ℕ) (new : Spot) (addition : Addition) → Parses (addition_phrase level) mid new addition → Parses (right_phrase level) old new (target, (stmt.Add (Some target) addition.name addition.index addition.addend))
  right_adds target new addition has = record {
    syntax = Fetched has.syntax;
    same = ap (λ a. stmt.Add (Some target) a.name a.index a.addend) has.same;
    shorter = let a = has.shorter in let b = passed_shorter level [] old mid passed in omega arith;
    leads = λ outer same. add_leads outer same ∙ has.leads (ResultOf outer) same;
  }

  pub right_add_lacks : (refusal : ParseRefusal) → Lacks (addition_phrase level) mid refusal → Lacks (right_phrase level) old refusal
  right_add_lacks refusal lacks outer same = refuses_as refusal (from (AtRight outer) old) (from (Awaits (AddOpen (ResultOf outer))) mid) (add_leads outer same) (lacks (ResultOf outer) same)
