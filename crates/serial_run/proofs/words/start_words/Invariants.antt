use Rattle.machine_code.specs.StandsFor.{start_words_of}
use Rattle.serial_run.specs.Elision.{AreWords}
use Rattle.serial_run.proofs.words.start_words.Given as goal

abbrev pub invariant-loop-word : goal.invariant-loop-word
invariant-loop-word l = AreWords l.word (start_words_of l.code) l.words.items
