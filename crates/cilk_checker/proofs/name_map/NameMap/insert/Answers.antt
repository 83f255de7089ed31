use Rattle.std.proofs.lemmas.Map.Text.{btree_map_updates_str}
use Rattle.cilk_checker.proofs.name_map.NameMap.insert.Goals as goal

pub returns-clause-ok : goal.returns-clause-ok
returns-clause-ok g c = btree_map_updates_str c.args.name.now c.args.self.now.values c.insert.new.self _ c.in_ok-insert.ensures.updates
