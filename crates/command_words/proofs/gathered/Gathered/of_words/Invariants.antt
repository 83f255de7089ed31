use Rattle.std.proofs.Common.{◌≡◌, map, drop, string_bytes}
use Rattle.command_words.specs.Gathering.{nothing, with_words}
use Rattle.command_words.proofs.gathered.Gathered.of_words.Given as goal

abbrev pub invariant-loop-word : goal.invariant-loop-word
invariant-loop-word l = with_words l.gathered (map string_bytes (drop l.word-index l.words)) ≡ with_words nothing (map string_bytes l.words)
