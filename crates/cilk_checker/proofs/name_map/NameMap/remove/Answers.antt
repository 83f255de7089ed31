use Rattle.std.proofs.lemmas.Map.Text.{btree_map_updates_str}
use Rattle.cilk_checker.proofs.name_map.NameMap.remove.Goals as goal

pub returns : goal.returns
returns g c = btree_map_updates_str c.args.name.now c.args.self.now.values c.remove.new.self _ c.remove.ensures.updates
