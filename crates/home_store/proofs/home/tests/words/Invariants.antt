use Rattle.std.proofs.Common.{◌≡◌, take}
use Rattle.home_store.proofs.home.tests.words.Given as goal

abbrev pub invariant-loop-number : goal.invariant-loop-number
invariant-loop-number l = l.words ≡ take l.number-index l.numbers
