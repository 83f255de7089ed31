use Rattle.page_words.proofs.Merging.{IsMergedBelow}
use Rattle.page_words.proofs.page.merge_words.Given as goal

abbrev pub invariant-loop-k : goal.invariant-loop-k
invariant-loop-k l = IsMergedBelow l.k l.mask l.given l.initial.words l.words
