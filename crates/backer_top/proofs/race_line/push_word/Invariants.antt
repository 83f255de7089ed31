use Rattle.std.proofs.Common.{◌≡◌, drop}
use Rattle.backer_top.specs.RaceLine.{word_words}
use Rattle.backer_top.proofs.race_line.push_word.Given as goal

-- nothing has been added, and the words of the arrays passed have been taken off the word's number
abbrev pub invariant-loop-array : goal.invariant-loop-array
invariant-loop-array l = record {
  same : l.line.items ≡ l.fn.line.items;
  left : word_words (drop l.array-index l.arrays) l.index ≡ word_words l.arrays l.word;
}
