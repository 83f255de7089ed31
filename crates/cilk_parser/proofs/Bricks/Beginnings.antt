-- How the machine goes on where the token that stands first is known, and how statements begin.
use Rattle.std.proofs.Common.{◌≡◌, ℕ, false, IsTrue, List, [], ◌∷◌, Option, None, refl, ap, sym, ◌∙◌, subst}
use Rattle.std.proofs.lemmas.Bool.{false≢true}
use Rattle.std.proofs.lemmas.List.{append-nil}
use Rattle.cilk_tree.specs.declared.count.Count.{Count}
use Rattle.cilk_tree.specs.declared.token.Keyword.{Keyword}
use Rattle.cilk_tree.specs.declared.token.Keyword.TheVariants as word
use Rattle.cilk_tree.specs.declared.token.Placed.{Placed}
use Rattle.cilk_tree.specs.declared.token.Sign.{Sign}
use Rattle.cilk_tree.specs.declared.token.Sign.TheVariants as sign
use Rattle.cilk_tree.specs.declared.token.Token.{Token}
use Rattle.cilk_tree.specs.declared.token.Token.TheVariants.{Name, Number, Word, Mark}
use Rattle.cilk_tree.specs.declared.tree.Stmt.{Stmt}
use Rattle.cilk_tree.specs.Levels.{counting, plain}
use Rattle.cilk_tree.specs.Syntax.{Nothing}
use Rattle.cilk_parser.specs.declared.refusal.ParseRefusal.{ParseRefusal}
use Rattle.cilk_parser.specs.declared.starts.StatementStart.{StatementStart}
use Rattle.cilk_parser.specs.declared.starts.StatementStart.TheVariants as statement
use Rattle.cilk_parser.specs.Contexts.{StatementIn, AsStatement, statement_level}
use Rattle.cilk_parser.specs.Spots.{Spot, from, Refuses, HasPassed, IsOver, is_sign, is_keyword, is_name_token, stepping, unexpected_of}
use Rattle.cilk_parser.specs.Phrases.{Lacks, Parses, statement_phrase}
use Rattle.cilk_parser.specs.Starts.{statement_start, starts_statement}
use Rattle.cilk_parser.specs.Steps.{State, Next, Awaits, AwaitsName, AfterName, AfterReturn, AddOpen, SyncEnd, IfOpen, WhileOpen, ForOpen, PrintOpen, SpawnedName, after_statement, goes_on, step, step_statement, finish}
use Rattle.cilk_parser.specs.Contexts.{Called}
use Rattle.cilk_parser.proofs.Bricks.Firsts.{keyword_there}
use Rattle.cilk_parser.proofs.Bricks.Stepping.{ExpectsName, over_refuses, passed_shorter, passes_on, sign_there, unexpected_refuses, from_steps, refuses_as}

-- the token stands first, where any does
abbrev pub Begins : Token → List Placed → Type 0
Begins token left = (placed : Placed) (places : List Placed) → left ≡ placed ∷ places → placed.token ≡ token

pub sign_begins : (sign : Sign) (left : List Placed) → IsTrue (is_sign sign left) → Begins (Mark sign) left
sign_begins sign left there placed places first = sign_there sign left places placed first there

pub keyword_begins : (word : Keyword) (left : List Placed) → IsTrue (is_keyword word left) → Begins (Word word) left
keyword_begins word left there placed places first = keyword_there word left places placed first there

-- ---- a known token

module _ (steps : Token → Option Next) (next : State) (level : ℕ) (counts : List Count) (token : Token) (goes : steps token ≡ goes_on (counting level counts token) next) (old : Spot) (there : Begins token old.left) where
  goes_with : (placed : Placed) (rest : List Placed) → old.left ≡ placed ∷ rest → steps placed.token ≡ goes_on (counting level counts placed.token) next
  goes_with placed rest first = let is = there placed rest first in ap steps is ∙ goes ∙ ap (λ t. goes_on (counting level counts t) next) (sym is)

  -- The token was passed with which the machine goes on.
  pub token_passed : (new : Spot) → HasPassed level counts old new → stepping steps old ≡ from next new
  token_passed new passed = passes_on steps next level counts old new passed (goes_with passed.placed new.left passed.first)

  pub token_over : (refusal : ParseRefusal) → IsOver level counts old refusal → Refuses (stepping steps old) refusal
  token_over refusal over = over_refuses steps next level counts old refusal over (goes_with over.placed over.rest over.first)

-- the same from a state
module _ (state : State) (unfinished : finish state ≡ None) (known : Token) (own level : ℕ) (counts : List Count) (next : State) (same : own ≡ level) (goes : step state known ≡ goes_on (counting own counts known) next) (old : Spot) (there : Begins known old.left) where
  goes_on_known : step state known ≡ goes_on (counting level counts known) next
  goes_on_known = goes ∙ ap (λ l. goes_on (counting l counts known) next) same

  pub known_passed : (new : Spot) → HasPassed level counts old new → from state old ≡ from next new
  known_passed new passed = from_steps state unfinished old ∙ token_passed (step state) next level counts known goes_on_known old there new passed

  pub known_over : (refusal : ParseRefusal) → IsOver level counts old refusal → Refuses (from state old) refusal
  known_over refusal over = refuses_as refusal _ _ (from_steps state unfinished old) (token_over (step state) next level counts known goes_on_known old there refusal over)

-- ---- a name

-- The machine goes on with a name alone.
abbrev pub step_named : ℕ → (List ℕ → State) → Token → Option Next
step_named level next (Name name) = goes_on (plain level (Name name)) (next name)
step_named level next _ = None

named_only : (level : ℕ) (next : List ℕ → State) (token : Token) → is_name_token token ≡ false → step_named level next token ≡ None
named_only level next (Name name) other = absurd (cc)
named_only level next (Number value) other = refl
named_only level next (Word word) other = refl
named_only level next (Mark sign) other = refl

pub expects_step_named : (own level : ℕ) (next : List ℕ → State) → own ≡ level → ExpectsName (step_named own next) level [] next
expects_step_named own level next same = record { here = λ name. ap (λ l. goes_on (plain l (Name name)) (next name)) same; only = named_only own next }

-- ---- statements

-- the token that begins a statement so
abbrev IsBeginning : StatementStart → Token → Type 0
IsBeginning statement.Empty token = token ≡ Mark sign.Semicolon
IsBeginning statement.Name token = IsTrue (is_name_token token)
IsBeginning statement.Spawn token = token ≡ Word word.Spawn
IsBeginning statement.Add token = token ≡ Word word.FetchAdd
IsBeginning statement.Sync token = token ≡ Word word.Sync
IsBeginning statement.If token = token ≡ Word word.If
IsBeginning statement.While token = token ≡ Word word.While
IsBeginning statement.For token = token ≡ Word word.For
IsBeginning statement.Print token = token ≡ Word word.Print
IsBeginning statement.Return token = token ≡ Word word.Return
IsBeginning statement.Other token = Unit {0}

beginning : (token : Token) → IsBeginning (statement_start token) token
beginning (Name name) = refl
beginning (Mark sign.Semicolon) = refl
beginning (Word word.Spawn) = refl
beginning (Word word.FetchAdd) = refl
beginning (Word word.Sync) = refl
beginning (Word word.If) = refl
beginning (Word word.While) = refl
beginning (Word word.For) = refl
beginning (Word word.Print) = refl
beginning (Word word.Return) = refl
beginning _ = tt

begins_so : (start : StatementStart) (token : Token) → statement_start token ≡ start → IsBeginning start token
begins_so start token same = subst (λ s. IsBeginning s token) same (beginning token)

-- A statement that begins so begins with this token, with which the machine goes there.
pub record IsBegun (start : StatementStart) (token : Token) (next : StatementIn → State) : Type 0 where
  pub only : (other : Token) → statement_start other ≡ start → other ≡ token
  pub goes : (outer : StatementIn) → step_statement outer token ≡ goes_on (plain (statement_level outer) token) (next outer)

pub begun_empty : IsBegun statement.Empty (Mark sign.Semicolon) (λ outer. after_statement outer Nothing)
begun_empty = record { only = begins_so statement.Empty; goes = λ outer. refl }

pub begun_spawn : IsBegun statement.Spawn (Word word.Spawn) (λ outer. AwaitsName (SpawnedName (Called outer)))
begun_spawn = record { only = begins_so statement.Spawn; goes = λ outer. refl }

pub begun_add : IsBegun statement.Add (Word word.FetchAdd) (λ outer. Awaits (AddOpen (Called outer)))
begun_add = record { only = begins_so statement.Add; goes = λ outer. refl }

pub begun_sync : IsBegun statement.Sync (Word word.Sync) (λ outer. Awaits (SyncEnd outer))
begun_sync = record { only = begins_so statement.Sync; goes = λ outer. refl }

pub begun_if : IsBegun statement.If (Word word.If) (λ outer. Awaits (IfOpen outer))
begun_if = record { only = begins_so statement.If; goes = λ outer. refl }

pub begun_while : IsBegun statement.While (Word word.While) (λ outer. Awaits (WhileOpen outer))
begun_while = record { only = begins_so statement.While; goes = λ outer. refl }

pub begun_for : IsBegun statement.For (Word word.For) (λ outer. Awaits (ForOpen outer))
begun_for = record { only = begins_so statement.For; goes = λ outer. refl }

pub begun_print : IsBegun statement.Print (Word word.Print) (λ outer. Awaits (PrintOpen outer))
begun_print = record { only = begins_so statement.Print; goes = λ outer. refl }

pub begun_return : IsBegun statement.Return (Word word.Return) (λ outer. AfterReturn outer)
begun_return = record { only = begins_so statement.Return; goes = λ outer. refl }

module _ (start : StatementStart) (token : Token) (next : StatementIn → State) (begun : IsBegun start token next) (level : ℕ) (old : Spot) (there : starts_statement old.left ≡ start) where
  stands : Begins token old.left
  stands placed places first = begun.only placed.token (subst (λ left. starts_statement left ≡ start) first there)

  goes_there : (outer : StatementIn) → statement_level outer ≡ level → step_statement outer token ≡ goes_on (plain level token) (next outer)
  goes_there outer same = begun.goes outer ∙ ap (λ l. goes_on (plain l token) (next outer)) same

  -- The first token of the statement was passed.
  pub begun_passed : (new : Spot) → HasPassed level [] old new → (outer : StatementIn) → statement_level outer ≡ level → stepping (step_statement outer) old ≡ from (next outer) new
  begun_passed new passed outer same = token_passed (step_statement outer) (next outer) level [] token (goes_there outer same) old stands new passed

  pub begun_over : (refusal : ParseRefusal) → IsOver level [] old refusal → Lacks (statement_phrase level) old refusal
  begun_over refusal over outer same = token_over (step_statement outer) (next outer) level [] token (goes_there outer same) old stands refusal over

-- `;` is a statement.
pub empty_reads : (level : ℕ) (old new : Spot) (before : List Stmt) → starts_statement old.left ≡ statement.Empty → HasPassed level [] old new → Parses (statement_phrase level) old new (before, before)
empty_reads level old new before there passed = record {
  syntax = Nothing;
  same = sym (append-nil before);
  shorter = passed_shorter level [] old new passed;
  leads = begun_passed statement.Empty (Mark sign.Semicolon) (λ outer. after_statement outer Nothing) begun_empty level old there new passed;
}

pub empty_over : (level : ℕ) (old : Spot) (refusal : ParseRefusal) → starts_statement old.left ≡ statement.Empty → IsOver level [] old refusal → Lacks (statement_phrase level) old refusal
empty_over level old refusal there over = begun_over statement.Empty (Mark sign.Semicolon) (λ outer. after_statement outer Nothing) begun_empty level old there refusal over

nowhere : (outer : StatementIn) (token : Token) → statement_start token ≡ statement.Other → step_statement outer token ≡ None
nowhere outer (Name name) other = absurd (cc)
nowhere outer (Mark sign.Semicolon) other = absurd (cc)
nowhere outer (Word word.Spawn) other = absurd (cc)
nowhere outer (Word word.FetchAdd) other = absurd (cc)
nowhere outer (Word word.Sync) other = absurd (cc)
nowhere outer (Word word.If) other = absurd (cc)
nowhere outer (Word word.While) other = absurd (cc)
nowhere outer (Word word.For) other = absurd (cc)
nowhere outer (Word word.Print) other = absurd (cc)
nowhere outer (Word word.Return) other = absurd (cc)
nowhere outer _ other = refl

-- No statement begins here.
pub other_refuses : (level : ℕ) (old : Spot) → starts_statement old.left ≡ statement.Other → Lacks (statement_phrase level) old (unexpected_of old.end old.left)
other_refuses level old there outer same =
    unexpected_refuses (step_statement outer) old (λ placed places first. nowhere outer placed.token (subst (λ left. starts_statement left ≡ statement.Other) first there))

goes_named : (outer : StatementIn) (token : Token) → IsTrue (is_name_token token) → step_statement outer token ≡ step_named (statement_level outer) (AfterName (AsStatement outer)) token
goes_named outer (Name name) there = refl
goes_named outer (Number value) there = absurd (false≢true there)
goes_named outer (Word word) there = absurd (false≢true there)
goes_named outer (Mark sign) there = absurd (false≢true there)

-- A statement that begins with a name goes on with the name alone.
pub statement_named : (outer : StatementIn) (token : Token) → statement_start token ≡ statement.Name → step_statement outer token ≡ step_named (statement_level outer) (AfterName (AsStatement outer)) token
statement_named outer token there = goes_named outer token (begins_so statement.Name token there)
