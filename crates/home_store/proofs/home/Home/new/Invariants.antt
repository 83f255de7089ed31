use Rattle.std.proofs.Common.{◌≡◌}
use Rattle.machine_code.specs.StandsFor.{start_words_of}
use Rattle.home_store.proofs.First.{first_list}
use Rattle.home_store.proofs.home.Home.new.Given as goal

abbrev pub invariant-loop-place : goal.invariant-loop-place
invariant-loop-place l = l.words.items ≡ first_list l.config l.node (start_words_of l.code) l.place
