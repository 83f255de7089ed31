use Rattle.std.proofs.Common.{◌≡◌, Err, ◌∷◌, map, string_bytes, sym, ap, ◌∙◌}
use Rattle.std.proofs.lemmas.Result.{err_from_is_err_and}
use Rattle.command_words.specs.declared.command.Command.TheVariants.{Offline}
use Rattle.command_words.specs.declared.refusal.WordRefusal.TheVariants.{Memory, Words}
use Rattle.command_words.proofs.Commands.{other_refusal, is_command, none_gathered, no_command, only_command}
use Rattle.command_words.proofs.reading.read_words.Goals as goal

pub returns-in_default-of_words-clause-only : goal.returns-in_default-of_words-clause-only
returns-in_default-of_words-clause-only c command is =
    absurd (none_gathered (map string_bytes c.args.words.now) (string_bytes c.in-Some.name.now) (map string_bytes c.in-Some.others.now) (ap (map string_bytes) c.in-Some.ensures.cases.0) (sym c.in_default-of_words.ensures) command is)

pub returns-in_default-of_words-clause-words : goal.returns-in_default-of_words-clause-words
returns-in_default-of_words-clause-words c none command is =
    none_gathered (map string_bytes c.args.words.now) (string_bytes c.in-Some.name.now) (map string_bytes c.in-Some.others.now) (ap (map string_bytes) c.in-Some.ensures.cases.0) (sym c.in_default-of_words.ensures) command is

pub returns-in_err-command-clause-only : goal.returns-in_err-command-clause-only
returns-in_err-command-clause-only c command is =
    let from = err_from_is_err_and c.from_residual.result c.from_residual.ensures.1 in
    let none = λ (refused : c.in_err-command.field-0.0 ≡ Words). no_command (map string_bytes c.args.words.now) c.as_str.result.now (map string_bytes c.in-Some.others.now) (ap (map string_bytes) c.in-Some.ensures.cases.0 ∙ ap (λ name. name ∷ map string_bytes c.in-Some.others.now) (sym c.as_str.ensures.value)) c.in-Some-of_words.gathered (sym c.in-Some-of_words.ensures) ((c.in_err-command.ensures {u = tt}).words (ap Err refused)) command is in
    rw (from.1, from.2) (other_refusal c.in_err-command.field-0.0 none)

pub returns-in_err-command-clause-words : goal.returns-in_err-command-clause-words
returns-in_err-command-clause-words c none command is =
    let from = err_from_is_err_and c.from_residual.result c.from_residual.ensures.1 in
    let refused : c.in_err-command.field-0.0 ≡ Words = cc in
    no_command (map string_bytes c.args.words.now) c.as_str.result.now (map string_bytes c.in-Some.others.now) (ap (map string_bytes) c.in-Some.ensures.cases.0 ∙ ap (λ name. name ∷ map string_bytes c.in-Some.others.now) (sym c.as_str.ensures.value)) c.in-Some-of_words.gathered (sym c.in-Some-of_words.ensures) ((c.in_err-command.ensures {u = tt}).words (ap Err refused)) command is

pub returns-clause-command : goal.returns-clause-command
returns-clause-command c = is_command (map string_bytes c.args.words.now) c.as_str.result.now (map string_bytes c.in-Some.others.now) (ap (map string_bytes) c.in-Some.ensures.cases.0 ∙ ap (λ name. name ∷ map string_bytes c.in-Some.others.now) (sym c.as_str.ensures.value)) c.in-Some-of_words.gathered c.in_ok-command.command (sym c.in-Some-of_words.ensures) c.in_ok-command.ensures.command

pub returns-clause-only : goal.returns-clause-only
returns-clause-only c command is = only_command (map string_bytes c.args.words.now) c.as_str.result.now (map string_bytes c.in-Some.others.now) (ap (map string_bytes) c.in-Some.ensures.cases.0 ∙ ap (λ name. name ∷ map string_bytes c.in-Some.others.now) (sym c.as_str.ensures.value)) c.in-Some-of_words.gathered c.in_ok-command.command (sym c.in-Some-of_words.ensures) c.in_ok-command.ensures.command command is

pub returns-in_err-command-clause-memory : goal.returns-in_err-command-clause-memory
returns-in_err-command-clause-memory c memory =
    let from = err_from_is_err_and c.from_residual.result c.from_residual.ensures.1 in
    let wanted : c.in_err-command.field-0.0 ≡ Memory = cc in
    let command = (c.in_err-command.ensures {u = tt}).memory (ap Err wanted) in
    (Offline command.0, is_command (map string_bytes c.args.words.now) c.as_str.result.now (map string_bytes c.in-Some.others.now) (ap (map string_bytes) c.in-Some.ensures.cases.0 ∙ ap (λ name. name ∷ map string_bytes c.in-Some.others.now) (sym c.as_str.ensures.value)) c.in-Some-of_words.gathered command.0 (sym c.in-Some-of_words.ensures) command.1)
