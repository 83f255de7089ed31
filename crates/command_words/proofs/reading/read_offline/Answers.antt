use Rattle.std.proofs.Common.{rules}
use Rattle.command_words.specs.declared.command.Offline.TheVariants.{Check, Serial, Race}
use Rattle.command_words.proofs.reading.read_offline.Goals as goal

pub returns-in_err-new-in-check-clause-memory : goal.returns-in_err-new-in-check-clause-memory
returns-in_err-new-in-check-clause-memory c = λ _. (Check c.in_ok-file.file.now, search rules)

pub returns-in_err-new-in-serial-clause-memory : goal.returns-in_err-new-in-serial-clause-memory
returns-in_err-new-in-serial-clause-memory c = λ _. (Serial c.in_ok-file.file.now c.in_ok-ok_or-in-serial.field-0, search rules)

pub returns-in_err-new-in-race-clause-memory : goal.returns-in_err-new-in-race-clause-memory
returns-in_err-new-in-race-clause-memory c = λ _. (Race c.in_ok-file.file.now c.in_ok-ok_or-in-race.field-0, search rules)
