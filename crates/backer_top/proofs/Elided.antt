-- What is made of a program, by how its elision ended.
use Rattle.std.proofs.Common.{◌≡◌, ℕ, List, [], sym, ap, ◌∙◌, subst}
use Rattle.cilk_meaning.specs.declared.ends.NodeEnd.{NodeEnd}
use Rattle.cilk_meaning.specs.declared.ends.NodeEnd.TheVariants.{Finished, Trapped, Budget}
use Rattle.cilk_meaning.specs.Instance.{limits}
use Rattle.cilk_meaning.specs.Resolving.{resolved}
use Rattle.cilk_meaning.specs.World as world
use Rattle.cilk_meaning.specs.World.{start_words}
use Rattle.cilk_tree.specs.declared.tree.Program.{Program}
use Rattle.command_words.specs.declared.command.Offline.TheVariants as offline
use Rattle.compiled_code.specs.Emitted.{compiled}
use Rattle.elision_history.proofs.Elisions.{acts_in_order}
use Rattle.machine_code.specs.Machine.{Code}
use Rattle.serial_run.specs.Elision.{IsElision}
use Rattle.serial_run.specs.declared.serial_end.SerialEnd.{SerialEnd}
use Rattle.span_tree.specs.Memory.{output_of}
use Rattle.backer_top.specs.Due.{Makes, Reply, Tells, TellsRace, done, elided, elided_history}
use Rattle.backer_top.specs.Outcome.{IsElided}
use Rattle.backer_top.specs.Output.{lines}

-- what the code of a program runs is its elision
pub elided_by : (program : Program) (budget : ℕ) (code : Code) (ended : SerialEnd) → code ≡ compiled (resolved program) → IsElision code (resolved program) budget ended → IsElided program budget ended
elided_by program budget code ended is elision =
    let e = subst (λ code. IsElision code (resolved program) budget ended) is elision in record { end = e.end; history = e.history }

-- what is told of a run that did not finish is told whatever is said of those that do
unfinished : (end : NodeEnd) (finished : Reply → Type 0) (reply : Reply) → Tells end (λ _. ⊥) reply → Tells end finished reply
unfinished Finished finished reply told = absurd told
unfinished (Trapped kind) finished reply told = told
unfinished Budget finished reply told = told

module _ (program : Program) (budget : ℕ) (ended : SerialEnd) (elision : IsElided program budget ended) (finished : Reply → Type 0) (reply : Reply) where
  told_unfinished : Tells ended.end (λ _. ⊥) reply → Tells (elided program budget).end finished reply
  told_unfinished told = subst (λ end. Tells end finished reply) elision.end (unfinished ended.end finished reply told)

  told_finished : ended.end ≡ Finished → finished reply → Tells (elided program budget).end finished reply
  told_finished is told = subst (λ end. Tells end finished reply) (sym is ∙ elision.end) told

module _ (program : Program) (budget : ℕ) (ended : SerialEnd) (elision : IsElided program budget ended) (reply : Reply) where
  pub serial_unfinished : Tells ended.end (λ _. ⊥) reply → (file : List ℕ) → Makes (offline.Serial file budget) program reply
  serial_unfinished told file = told_unfinished program budget ended elision (λ reply. reply ≡ done (lines (world.output_of (elided program budget)))) reply told

  pub serial_finished : ended.end ≡ Finished → reply ≡ done (lines (output_of ended.history)) → (file : List ℕ) → Makes (offline.Serial file budget) program reply
  serial_finished finished is file =
      told_finished program budget ended elision (λ reply. reply ≡ done (lines (world.output_of (elided program budget)))) reply finished
      (is ∙ ap (λ history. done (lines (output_of history))) elision.history ∙ ap (λ values. done (lines values)) (acts_in_order limits (resolved program) (start_words 0 []) budget).2)

  pub race_unfinished : Tells ended.end (λ _. ⊥) reply → (file : List ℕ) → Makes (offline.Race file budget) program reply
  race_unfinished told file = told_unfinished program budget ended elision (TellsRace program (elided_history program budget)) reply told

  pub race_finished : ended.end ≡ Finished → TellsRace program ended.history reply → (file : List ℕ) → Makes (offline.Race file budget) program reply
  race_finished finished told file =
      told_finished program budget ended elision (TellsRace program (elided_history program budget)) reply finished
      (subst (λ history. TellsRace program history reply) elision.history told)
