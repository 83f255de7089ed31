use Rattle.std.proofs.Common.{◌≡◌, take}
use Rattle.page_messages.proofs.post.copied.Given as goal

abbrev pub invariant-loop-value : goal.invariant-loop-value
invariant-loop-value l = l.words ≡ take l.value-index l.values
