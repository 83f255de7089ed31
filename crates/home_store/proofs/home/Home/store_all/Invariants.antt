use Rattle.std.proofs.Common.{drop}
use Rattle.home_store.proofs.Parting.{IsMerging}
use Rattle.home_store.proofs.home.Home.store_all.Given as goal

abbrev pub invariant-loop-part : goal.invariant-loop-part
invariant-loop-part l = IsMerging l.parts (drop l.part-index l.parts) l.fn.self l.self
