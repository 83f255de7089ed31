-- What is read and refused of an item, and of a program.
use Rattle.std.proofs.Common.{◌≡◌, ◌≢◌, ℕ, Some, List, [], ◌∷◌, ◌++◌, Result, Ok, Err, MatchResult, refl, ap, sym, ◌∙◌, append-nil}
use Rattle.cilk_tree.specs.declared.ending.Ending.{Ending}
use Rattle.cilk_tree.specs.declared.ending.Ending.TheVariants.{Reached, Stopped}
use Rattle.cilk_tree.specs.declared.token.Placed.{Placed}
use Rattle.cilk_tree.specs.declared.tree.Function.{Function}
use Rattle.cilk_tree.specs.declared.tree.Program.{Program}
use Rattle.cilk_tree.specs.declared.tree.Shared.{Shared}
use Rattle.cilk_tree.specs.Sugar.{item_arrays, item_functions, source_tree}
use Rattle.cilk_tree.specs.Syntax as syntax
use Rattle.cilk_tree.specs.Syntax.{Empty, Then, Defined, Source}
use Rattle.cilk_parser.specs.declared.parser.End.{End}
use Rattle.cilk_parser.specs.declared.refusal.ParseRefusal.{ParseRefusal}
use Rattle.cilk_parser.specs.Spots.{Spot, from, Refuses, end_refusal}
use Rattle.cilk_parser.specs.Phrases.{HasProgram, Lacks, Parses, answer_on, arrays_phrase, function_phrase, item_phrase}
use Rattle.cilk_parser.specs.Run.{at_end, run}
use Rattle.cilk_parser.specs.Steps.{Items}
use Rattle.cilk_parser.specs.Tally.{none_counted}
use Rattle.cilk_parser.proofs.Bricks.Stepping.{refuses_as}

-- ---- an item

-- arrays
pub arrays_item : (old new : Spot) (before : Program) (shared : List Shared) (result : Result (Unit {0}) ParseRefusal) →
    MatchResult result (λ _. Parses arrays_phrase old new (before.shared, shared)) (λ refusal. Lacks arrays_phrase old refusal) →
    MatchResult result (λ _. Parses item_phrase old new (before, (record { shared = shared; functions = before.functions }))) (λ refusal. Lacks item_phrase old refusal)
arrays_item old new before shared (Ok done) read = record {
  syntax = syntax.Arrays read.syntax;
  same = (read.same, sym (append-nil before.functions));
  shorter = read.shorter;
  leads = read.leads;
}
arrays_item old new before shared (Err refusal) lacks = lacks

-- a function
pub function_item : (old new : Spot) (before : Program) (function : Function) (functions : List Function) → Parses function_phrase old new function → functions ≡ before.functions ++ function ∷ [] →
    Parses item_phrase old new (before, (record { shared = before.shared; functions = functions }))
function_item old new before function functions read push = record {
  syntax = Defined read.syntax;
  same = (sym (append-nil before.shared), push ∙ ap (λ one. before.functions ++ one ∷ []) read.same);
  shorter = read.shorter;
  leads = read.leads;
}

-- ---- the items of a program

same_program : (one other : Program) → one.shared ≡ other.shared → one.functions ≡ other.functions → one ≡ other
same_program one other shared functions =
    ap (λ s. record { shared = s; functions = one.functions }) shared ∙ ap (λ f. record { shared = other.shared; functions = f }) functions

-- These items were read.
pub record HasItems (end : End) (places : List Placed) (now : Spot) (program : Program) : Type 0 where
  pub source : Source
  pub same : program ≡ source_tree source
  pub leads : answer_on end places ≡ from (Items source) now

pub no_items : (end : End) (places : List Placed) (program : Program) → program.shared ≡ [] → program.functions ≡ [] → HasItems end places (record { end = end; tallies = none_counted; left = places }) program
no_items end places program no_arrays no_functions = record { source = Empty; same = same_program program (source_tree Empty) no_arrays no_functions; leads = refl }

module _ (end : End) (places : List Placed) (now : Spot) (program : Program) (read : HasItems end places now program) where
  pub item_lacks : (refusal : ParseRefusal) → Lacks item_phrase now refusal → Refuses (answer_on end places) refusal
  item_lacks refusal lacks = refuses_as refusal _ _ read.leads (lacks read.source tt)

  pub more_items : (new : Spot) (then : Program) → Parses item_phrase now new (program, then) → HasItems end places new then
  more_items new then item = record {
    source = Then read.source item.syntax;
    same =
        same_program then (source_tree (Then read.source item.syntax))
        (item.same.0 ∙ ap (λ p. p.shared ++ item_arrays item.syntax) read.same) (item.same.1 ∙ ap (λ p. p.functions ++ item_functions item.syntax) read.same);
    leads = read.leads ∙ item.leads read.source tt;
  }

  module _ (done : now.left ≡ []) where
    to_end : answer_on end places ≡ at_end now.end (Some read.source)
    unfolding run
    to_end = read.leads ∙ ap (λ l. from (Items read.source) (record { end = now.end; tallies = now.tallies; left = l })) done

    pub whole_program : now.end.ending ≡ Reached → HasProgram end places program
    whole_program reached = record { source = read.source; same = read.same; answer = to_end ∙ ap (λ ending. at_end (record { size = now.end.size; ending = ending }) (Some read.source)) reached }

    stopped_at : (size : ℕ) (ending : Ending) → ending ≢ Reached → Refuses (at_end (record { size = size; ending = ending }) (Some read.source)) (end_refusal size ending)
    stopped_at size Reached other = absurd (other refl)
    stopped_at size (Stopped kind place) other = refl

    pub text_stopped : now.end.ending ≢ Reached → Refuses (answer_on end places) (end_refusal now.end.size now.end.ending)
    text_stopped other = refuses_as (end_refusal now.end.size now.end.ending) _ _ to_end (stopped_at now.end.size now.end.ending other)
