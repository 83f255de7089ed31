-- Statements that hold no others.
use Rattle.std.proofs.Common.{◌≡◌, ℕ, true, false, IsTrue, Some, None, List, [], ◌∷◌, ◌++◌, refl, ap, sym, ◌∙◌, subst, arith}
use Rattle.cilk_tree.specs.declared.count.Count.TheVariants.{Anew}
use Rattle.cilk_tree.specs.declared.count.Counted.TheVariants.{Arguments}
use Rattle.cilk_tree.specs.declared.token.Keyword.TheVariants as word
use Rattle.cilk_tree.specs.declared.token.Sign.TheVariants as sign
use Rattle.cilk_tree.specs.declared.token.Token.{Token}
use Rattle.cilk_tree.specs.declared.token.Token.TheVariants.{Mark, Word}
use Rattle.cilk_tree.specs.declared.tree.Expr.{Expr}
use Rattle.cilk_tree.specs.declared.tree.Stmt.{Stmt}
use Rattle.cilk_tree.specs.declared.tree.Stmt.TheVariants as stmt
use Rattle.cilk_tree.specs.Levels.{counting, mark}
use Rattle.cilk_tree.specs.Syntax.{Simply, Calling, Adding, Syncing, Printing, Returning}
use Rattle.cilk_parser.specs.declared.addition.Addition.{Addition}
use Rattle.cilk_parser.specs.declared.call.Call.{Call}
use Rattle.cilk_parser.specs.declared.opening.Opening.TheVariants.{Whole}
use Rattle.cilk_parser.specs.declared.refusal.ParseRefusal.{ParseRefusal}
use Rattle.cilk_parser.specs.declared.starts.StatementStart.TheVariants as statement
use Rattle.cilk_parser.specs.Contexts.{StatementIn, AsStatement, Called, Printed, Returned, statement_level}
use Rattle.cilk_parser.specs.Spots.{Spot, from, HasPassed, IsOver, HasRead, LacksSign, HasNamed, LacksName, is_sign, stepping}
use Rattle.cilk_parser.specs.Phrases.{Encloses, Lacks, LacksSimple, Parses, addition_phrase, arguments_phrase, condition_phrase, enclosed_phrase, simple_phrase, spawn_phrase, statement_phrase}
use Rattle.cilk_parser.specs.Starts.{starts_statement}
use Rattle.cilk_parser.specs.Steps.{Wants, Awaits, AwaitsName, AfterName, AfterReturn, AtArguments, AddOpen, AddedEnd, CalledEnd, PrintEnd, PrintOpen, SpawnedName, SyncEnd, after_statement, call_of, goes_on, is_mark, step, step_only, step_return, step_statement, step_wants}
use Rattle.cilk_parser.proofs.Bricks.Beginnings.{begun_add, begun_over, begun_passed, begun_print, begun_return, begun_spawn, begun_sync, expects_step_named, sign_begins, statement_named, step_named, token_over, token_passed, known_passed, known_over}
use Rattle.cilk_parser.proofs.Bricks.Conditions.{value_of_print}
use Rattle.cilk_parser.proofs.Bricks.Stepping.{awaits_lacks, awaits_sign, from_steps, lacks_name, passed_shorter, reads_name, refuses_as, sign_absent, stepping_same}
use Rattle.cilk_parser.proofs.Bricks.Heads.{simple_ends, simple_open}

semicolon : (outer : StatementIn) (level : ℕ) → statement_level outer ≡ level → mark (statement_level outer) sign.Semicolon ≡ mark level sign.Semicolon
semicolon outer level same = ap (λ l. mark l sign.Semicolon) same

-- ---- `sync`

module _ (level : ℕ) (old middle : Spot) (there : starts_statement old.left ≡ statement.Sync) (passed : HasPassed level [] old middle) where
  to_sync_end : (outer : StatementIn) → statement_level outer ≡ level → stepping (step_statement outer) old ≡ from (Awaits (SyncEnd outer)) middle
  to_sync_end = begun_passed statement.Sync (Word word.Sync) (λ outer. Awaits (SyncEnd outer)) begun_sync level old there middle passed

  pub sync_unended : (refusal : ParseRefusal) → LacksSign sign.Semicolon level middle refusal → Lacks (statement_phrase level) old refusal
  sync_unended refusal lacks outer same = refuses_as refusal _ _ (to_sync_end outer same) (awaits_lacks (SyncEnd outer) sign.Semicolon level (semicolon outer level same) middle refusal lacks)

  pub sync_reads : (new : Spot) (before now : List Stmt) → HasRead sign.Semicolon level middle new → now ≡ before ++ stmt.Sync ∷ [] → Parses (statement_phrase level) old new (before, now)
  sync_reads new before now ended added = record {
    syntax = Syncing;
    same = added;
    shorter = let a = passed_shorter level [] old middle passed in let b = passed_shorter level [] middle new ended.passed in omega arith;
    leads = λ outer same. to_sync_end outer same ∙ awaits_sign (SyncEnd outer) sign.Semicolon level (semicolon outer level same) middle new ended;
  }

pub sync_over : (level : ℕ) (old : Spot) (refusal : ParseRefusal) → starts_statement old.left ≡ statement.Sync → IsOver level [] old refusal → Lacks (statement_phrase level) old refusal
sync_over level old refusal there over = begun_over statement.Sync (Word word.Sync) (λ outer. Awaits (SyncEnd outer)) begun_sync level old there refusal over

-- ---- `spawn`

pub spawn_over : (level : ℕ) (old : Spot) (refusal : ParseRefusal) → starts_statement old.left ≡ statement.Spawn → IsOver level [] old refusal → Lacks (statement_phrase level) old refusal
spawn_over level old refusal there over = begun_over statement.Spawn (Word word.Spawn) (λ outer. AwaitsName (SpawnedName (Called outer))) begun_spawn level old there refusal over

module _ (level : ℕ) (old middle : Spot) (there : starts_statement old.left ≡ statement.Spawn) (passed : HasPassed level [] old middle) where
  to_spawned : (outer : StatementIn) → statement_level outer ≡ level → stepping (step_statement outer) old ≡ from (AwaitsName (SpawnedName (Called outer))) middle
  to_spawned = begun_passed statement.Spawn (Word word.Spawn) (λ outer. AwaitsName (SpawnedName (Called outer))) begun_spawn level old there middle passed

  pub spawn_lacks : (refusal : ParseRefusal) → Lacks (spawn_phrase level) middle refusal → Lacks (statement_phrase level) old refusal
  spawn_lacks refusal lacks outer same = refuses_as refusal _ _ (to_spawned outer same) (lacks (Called outer) same)

  module _ (later : Spot) (call : Call) (read : Parses (spawn_phrase level) middle later call) where
    to_spawn_end : (outer : StatementIn) → statement_level outer ≡ level → stepping (step_statement outer) old ≡ from (Awaits (CalledEnd outer (call_of true read.syntax.0 read.syntax.1))) later
    to_spawn_end outer same = to_spawned outer same ∙ read.leads (Called outer) same

    pub spawn_unended : (refusal : ParseRefusal) → LacksSign sign.Semicolon level later refusal → Lacks (statement_phrase level) old refusal
    spawn_unended refusal lacks outer same =
        refuses_as refusal _ _ (to_spawn_end outer same) (awaits_lacks (CalledEnd outer (call_of true read.syntax.0 read.syntax.1)) sign.Semicolon level (semicolon outer level same) later refusal lacks)

    pub spawn_reads : (new : Spot) (before now : List Stmt) → HasRead sign.Semicolon level later new → now ≡ before ++ stmt.Spawn None call.name call.arguments ∷ [] → Parses (statement_phrase level) old new (before, now)
    spawn_reads new before now ended added = record {
      syntax = Calling (call_of true read.syntax.0 read.syntax.1);
      same = added ∙ ap (λ c. before ++ stmt.Spawn None c.name c.arguments ∷ []) read.same;
      shorter = let a = passed_shorter level [] old middle passed in let b = passed_shorter level [] later new ended.passed in let d = read.shorter in omega arith;
      leads = λ outer same. to_spawn_end outer same ∙ awaits_sign (CalledEnd outer (call_of true read.syntax.0 read.syntax.1)) sign.Semicolon level (semicolon outer level same) later new ended;
    }

-- ---- `fetch_add`

pub add_over : (level : ℕ) (old : Spot) (refusal : ParseRefusal) → starts_statement old.left ≡ statement.Add → IsOver level [] old refusal → Lacks (statement_phrase level) old refusal
add_over level old refusal there over = begun_over statement.Add (Word word.FetchAdd) (λ outer. Awaits (AddOpen (Called outer))) begun_add level old there refusal over

module _ (level : ℕ) (old middle : Spot) (there : starts_statement old.left ≡ statement.Add) (passed : HasPassed level [] old middle) where
  to_added : (outer : StatementIn) → statement_level outer ≡ level → stepping (step_statement outer) old ≡ from (Awaits (AddOpen (Called outer))) middle
  to_added = begun_passed statement.Add (Word word.FetchAdd) (λ outer. Awaits (AddOpen (Called outer))) begun_add level old there middle passed

  pub add_lacks : (refusal : ParseRefusal) → Lacks (addition_phrase level) middle refusal → Lacks (statement_phrase level) old refusal
  add_lacks refusal lacks outer same = refuses_as refusal _ _ (to_added outer same) (lacks (Called outer) same)

  module _ (later : Spot) (addition : Addition) (read : Parses (addition_phrase level) middle later addition) where
    to_add_end : (outer : StatementIn) → statement_level outer ≡ level → stepping (step_statement outer) old ≡ from (Awaits (AddedEnd outer read.syntax)) later
    to_add_end outer same = to_added outer same ∙ read.leads (Called outer) same

    pub add_unended : (refusal : ParseRefusal) → LacksSign sign.Semicolon level later refusal → Lacks (statement_phrase level) old refusal
    add_unended refusal lacks outer same =
        refuses_as refusal _ _ (to_add_end outer same) (awaits_lacks (AddedEnd outer read.syntax) sign.Semicolon level (semicolon outer level same) later refusal lacks)

    pub add_reads : (new : Spot) (before now : List Stmt) → HasRead sign.Semicolon level later new → now ≡ before ++ stmt.Add None addition.name addition.index addition.addend ∷ [] → Parses (statement_phrase level) old new (before, now)
    add_reads new before now ended added = record {
      syntax = Adding read.syntax;
      same = added ∙ ap (λ a. before ++ stmt.Add None a.name a.index a.addend ∷ []) read.same;
      shorter = let a = passed_shorter level [] old middle passed in let b = passed_shorter level [] later new ended.passed in let d = read.shorter in omega arith;
      leads = λ outer same. to_add_end outer same ∙ awaits_sign (AddedEnd outer read.syntax) sign.Semicolon level (semicolon outer level same) later new ended;
    }

-- ---- `print`

pub print_over : (level : ℕ) (old : Spot) (refusal : ParseRefusal) → starts_statement old.left ≡ statement.Print → IsOver level [] old refusal → Lacks (statement_phrase level) old refusal
print_over level old refusal there over = begun_over statement.Print (Word word.Print) (λ outer. Awaits (PrintOpen outer)) begun_print level old there refusal over

module _ (level : ℕ) (old middle : Spot) (there : starts_statement old.left ≡ statement.Print) (passed : HasPassed level [] old middle) where
  to_print_open : (outer : StatementIn) → statement_level outer ≡ level → stepping (step_statement outer) old ≡ from (Awaits (PrintOpen outer)) middle
  to_print_open = begun_passed statement.Print (Word word.Print) (λ outer. Awaits (PrintOpen outer)) begun_print level old there middle passed

  pub print_lacks : (refusal : ParseRefusal) → Lacks (condition_phrase level) middle refusal → Lacks (statement_phrase level) old refusal
  print_lacks refusal lacks outer same =
      refuses_as refusal _ _ (to_print_open outer same) (lacks (Printed outer, Awaits (PrintOpen outer), λ syntax. Awaits (PrintEnd outer syntax)) (value_of_print level outer same))

  module _ (later : Spot) (tree : Expr) (read : Parses (condition_phrase level) middle later tree) where
    to_print_end : (outer : StatementIn) → statement_level outer ≡ level → stepping (step_statement outer) old ≡ from (Awaits (PrintEnd outer read.syntax)) later
    to_print_end outer same = to_print_open outer same ∙ read.leads (Printed outer, Awaits (PrintOpen outer), λ syntax. Awaits (PrintEnd outer syntax)) (value_of_print level outer same)

    pub print_unended : (refusal : ParseRefusal) → LacksSign sign.Semicolon level later refusal → Lacks (statement_phrase level) old refusal
    print_unended refusal lacks outer same =
        refuses_as refusal _ _ (to_print_end outer same) (awaits_lacks (PrintEnd outer read.syntax) sign.Semicolon level (semicolon outer level same) later refusal lacks)

    pub print_reads : (new : Spot) (before now : List Stmt) → HasRead sign.Semicolon level later new → now ≡ before ++ stmt.Print tree ∷ [] → Parses (statement_phrase level) old new (before, now)
    print_reads new before now ended added = record {
      syntax = Printing read.syntax;
      same = added ∙ ap (λ t. before ++ stmt.Print t ∷ []) read.same;
      shorter = let a = passed_shorter level [] old middle passed in let b = passed_shorter level [] later new ended.passed in let d = read.shorter in omega arith;
      leads = λ outer same. to_print_end outer same ∙ awaits_sign (PrintEnd outer read.syntax) sign.Semicolon level (semicolon outer level same) later new ended;
    }

-- ---- `return`

pub return_over : (level : ℕ) (old : Spot) (refusal : ParseRefusal) → starts_statement old.left ≡ statement.Return → IsOver level [] old refusal → Lacks (statement_phrase level) old refusal
return_over level old refusal there over = begun_over statement.Return (Word word.Return) (λ outer. AfterReturn outer) begun_return level old there refusal over

value_wanted : (outer : StatementIn) (token : Token) → is_mark sign.Semicolon token ≡ false → step_return outer token ≡ step_wants (Returned outer) token
value_wanted outer (Mark sign.Semicolon) absent = absurd (cc)
value_wanted outer _ absent = refl

module _ (level : ℕ) (old middle : Spot) (there : starts_statement old.left ≡ statement.Return) (passed : HasPassed level [] old middle) where
  to_value : (outer : StatementIn) → statement_level outer ≡ level → stepping (step_statement outer) old ≡ from (AfterReturn outer) middle
  to_value = begun_passed statement.Return (Word word.Return) (λ outer. AfterReturn outer) begun_return level old there middle passed

  module _ (ends : IsTrue (is_sign sign.Semicolon middle.left)) where
    goes_back : (outer : StatementIn) → statement_level outer ≡ level → step (AfterReturn outer) (Mark sign.Semicolon) ≡ goes_on (mark level sign.Semicolon) (after_statement outer (Returning None))
    unfolding step
    goes_back outer same = ap (λ l. goes_on (mark l sign.Semicolon) (after_statement outer (Returning None))) same

    pub return_end_over : (refusal : ParseRefusal) → IsOver level [] middle refusal → Lacks (statement_phrase level) old refusal
    return_end_over refusal over outer same =
        refuses_as refusal _ _ (to_value outer same) (known_over (AfterReturn outer) refl (Mark sign.Semicolon) level level [] (after_statement outer (Returning None)) refl (goes_back outer same) middle (sign_begins sign.Semicolon middle.left ends) refusal over)

    pub return_reads : (new : Spot) (before now : List Stmt) → HasPassed level [] middle new → now ≡ before ++ stmt.Return None ∷ [] → Parses (statement_phrase level) old new (before, now)
    return_reads new before now ended added = record {
      syntax = Returning None;
      same = added;
      shorter = let a = passed_shorter level [] old middle passed in let b = passed_shorter level [] middle new ended in omega arith;
      leads = λ outer same.
          to_value outer same ∙ known_passed (AfterReturn outer) refl (Mark sign.Semicolon) level level [] (after_statement outer (Returning None)) refl (goes_back outer same) middle (sign_begins sign.Semicolon middle.left ends) new ended;
    }

  module _ (absent : is_sign sign.Semicolon middle.left ≡ false) where
    at_value : (outer : StatementIn) → statement_level outer ≡ level → stepping (step_statement outer) old ≡ from (Wants (Returned outer)) middle
    unfolding step
    at_value outer same =
        to_value outer same
        ∙ from_steps (AfterReturn outer) refl middle
        ∙ stepping_same (step_return outer) (step_wants (Returned outer)) middle (λ placed places first. value_wanted outer placed.token (sign_absent sign.Semicolon middle.left places placed first absent))
        ∙ sym (from_steps (Wants (Returned outer)) refl middle)

    return_encloses : (outer : StatementIn) → statement_level outer ≡ level → Encloses level Whole (Returned outer) level sign.Semicolon (λ syntax. after_statement outer (Returning (Some syntax)))
    return_encloses outer same = record {
      fits = record { strong = refl; same_level = same; counted = refl };
      closes = λ syntax token. ap (λ l. step_only (mark l sign.Semicolon) (after_statement outer (Returning (Some syntax))) token) same;
    }

    pub value_lacks : (refusal : ParseRefusal) → Lacks (enclosed_phrase level Whole sign.Semicolon level) middle refusal → Lacks (statement_phrase level) old refusal
    value_lacks refusal lacks outer same = refuses_as refusal _ _ (at_value outer same) (lacks (Returned outer, _) (return_encloses outer same))

    pub value_reads : (new : Spot) (tree : Expr) → Parses (enclosed_phrase level Whole sign.Semicolon level) middle new tree → (before now : List Stmt) → now ≡ before ++ stmt.Return (Some tree) ∷ [] → Parses (statement_phrase level) old new (before, now)
    value_reads new tree read before now added = record {
      syntax = Returning (Some read.syntax);
      same = added ∙ ap (λ t. before ++ stmt.Return (Some t) ∷ []) read.same;
      shorter = let a = passed_shorter level [] old middle passed in let b = read.shorter in omega arith;
      leads = λ outer same. at_value outer same ∙ read.leads (Returned outer, _) (return_encloses outer same);
    }

-- ---- a statement that begins with a name

module _ (level : ℕ) (old : Spot) (there : starts_statement old.left ≡ statement.Name) where
  at_name : (outer : StatementIn) → stepping (step_statement outer) old ≡ stepping (step_named (statement_level outer) (AfterName (AsStatement outer))) old
  at_name outer =
      stepping_same (step_statement outer) (step_named (statement_level outer) (AfterName (AsStatement outer))) old
      (λ placed places first. statement_named outer placed.token (subst (λ left. starts_statement left ≡ statement.Name) first there))

  pub statement_unnamed : (refusal : ParseRefusal) → LacksName level [] old refusal → Lacks (statement_phrase level) old refusal
  statement_unnamed refusal lacks outer same =
      refuses_as refusal _ _ (at_name outer) (lacks_name (step_named (statement_level outer) (AfterName (AsStatement outer))) level [] (AfterName (AsStatement outer)) (expects_step_named (statement_level outer) level (AfterName (AsStatement outer)) same) old refusal lacks)

  module _ (name : List ℕ) (middle : Spot) (named : HasNamed level [] name old middle) where
    behind_name : (outer : StatementIn) → statement_level outer ≡ level → stepping (step_statement outer) old ≡ from (AfterName (AsStatement outer) name) middle
    behind_name outer same =
        at_name outer ∙ reads_name (step_named (statement_level outer) (AfterName (AsStatement outer))) level [] (AfterName (AsStatement outer)) (expects_step_named (statement_level outer) level (AfterName (AsStatement outer)) same) name old middle named

    pub named_lacks : (refusal : ParseRefusal) → is_sign sign.OpenParen middle.left ≡ false → LacksSimple level name middle refusal → Lacks (statement_phrase level) old refusal
    named_lacks refusal no_call lacks outer same = refuses_as refusal _ _ (behind_name outer same) (lacks (AsStatement outer) same no_call)

    module _ (later : Spot) (tree : Stmt) (read : Parses (simple_phrase level name) middle later tree) where
      pub named_unended : (refusal : ParseRefusal) → LacksSign sign.Semicolon level later refusal → Lacks (statement_phrase level) old refusal
      named_unended refusal lacks outer same =
          refuses_as refusal _ _ (behind_name outer same) (simple_open (AsStatement outer) sign.Semicolon level (λ simple. semicolon outer level same) level same name middle later tree read refusal lacks)

      pub named_reads : (new : Spot) (before now : List Stmt) → HasRead sign.Semicolon level later new → now ≡ before ++ tree ∷ [] → Parses (statement_phrase level) old new (before, now)
      named_reads new before now ended added = record {
        syntax = Simply read.syntax;
        same = added ∙ ap (λ t. before ++ t ∷ []) read.same;
        shorter = let a = passed_shorter level [] old middle named.passed in let b = passed_shorter level [] later new ended.passed in let d = read.shorter in omega arith;
        leads = λ outer same. behind_name outer same ∙ simple_ends (AsStatement outer) sign.Semicolon level (λ simple. semicolon outer level same) level same name middle later tree read new ended;
      }

    module _ (calls : IsTrue (is_sign sign.OpenParen middle.left)) where
      goes_calling : (outer : StatementIn) → statement_level outer ≡ level →
          step (AfterName (AsStatement outer) name) (Mark sign.OpenParen) ≡ goes_on (counting level (Anew Arguments ∷ []) (Mark sign.OpenParen)) (AtArguments (Called outer) false name)
      unfolding step
      goes_calling outer same = ap (λ l. goes_on (counting l (Anew Arguments ∷ []) (Mark sign.OpenParen)) (AtArguments (Called outer) false name)) same

      pub call_over : (refusal : ParseRefusal) → IsOver level (Anew Arguments ∷ []) middle refusal → Lacks (statement_phrase level) old refusal
      call_over refusal over outer same =
          refuses_as refusal _ _ (behind_name outer same ∙ from_steps (AfterName (AsStatement outer) name) refl middle)
          (token_over (step (AfterName (AsStatement outer) name)) (AtArguments (Called outer) false name) level (Anew Arguments ∷ []) (Mark sign.OpenParen) (goes_calling outer same) middle (sign_begins sign.OpenParen middle.left calls) refusal over)

      module _ (inside : Spot) (opened : HasPassed level (Anew Arguments ∷ []) middle inside) where
        to_arguments : (outer : StatementIn) → statement_level outer ≡ level → stepping (step_statement outer) old ≡ from (AtArguments (Called outer) false name) inside
        to_arguments outer same =
            behind_name outer same ∙ from_steps (AfterName (AsStatement outer) name) refl middle ∙
            token_passed (step (AfterName (AsStatement outer) name)) (AtArguments (Called outer) false name) level (Anew Arguments ∷ []) (Mark sign.OpenParen) (goes_calling outer same) middle (sign_begins sign.OpenParen middle.left calls) inside opened

        pub call_lacks : (refusal : ParseRefusal) → Lacks (arguments_phrase level) inside refusal → Lacks (statement_phrase level) old refusal
        call_lacks refusal lacks outer same = refuses_as refusal _ _ (to_arguments outer same) (lacks (Called outer, false, name) same)

        module _ (later : Spot) (trees : List Expr) (read : Parses (arguments_phrase level) inside later trees) where
          to_call_end : (outer : StatementIn) → statement_level outer ≡ level → stepping (step_statement outer) old ≡ from (Awaits (CalledEnd outer (call_of false name read.syntax))) later
          to_call_end outer same = to_arguments outer same ∙ read.leads (Called outer, false, name) same

          pub call_unended : (refusal : ParseRefusal) → LacksSign sign.Semicolon level later refusal → Lacks (statement_phrase level) old refusal
          call_unended refusal lacks outer same =
              refuses_as refusal _ _ (to_call_end outer same) (awaits_lacks (CalledEnd outer (call_of false name read.syntax)) sign.Semicolon level (semicolon outer level same) later refusal lacks)

          pub call_reads : (new : Spot) (before now : List Stmt) → HasRead sign.Semicolon level later new → now ≡ before ++ stmt.Call None name trees ∷ [] → Parses (statement_phrase level) old new (before, now)
          call_reads new before now ended added = record {
            syntax = Calling (call_of false name read.syntax);
            same = added ∙ ap (λ arguments. before ++ stmt.Call None name arguments ∷ []) read.same;
            shorter =
                let a = passed_shorter level [] old middle named.passed in
                let b = passed_shorter level (Anew Arguments ∷ []) middle inside opened in
                let d = passed_shorter level [] later new ended.passed in
                let e = read.shorter in
                omega arith;
            leads = λ outer same. to_call_end outer same ∙ awaits_sign (CalledEnd outer (call_of false name read.syntax)) sign.Semicolon level (semicolon outer level same) later new ended;
          }
