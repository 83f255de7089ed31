use Rattle.std.proofs.Common.{◌≡◌}
use Rattle.std.specs.List.{find}
use Rattle.page_cache.specs.Cache.{is_dirty}
use Rattle.page_cache.proofs.cache.Cache.next_dirty.Given as goal

abbrev pub invariant-loop-number : goal.invariant-loop-number
invariant-loop-number l = find (is_dirty l.self.pages) l.number-iterator ≡ find (is_dirty l.self.pages) l.initial.number-iterator
