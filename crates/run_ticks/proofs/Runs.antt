-- The laws of this crate, for the log of a run.
use Rattle.std.proofs.Common.{◌≤◌, ℕ, ◌∷◌, reverse, sym, ◌∙◌, ap, subst, arith}
use Rattle.cilk_meaning.specs.declared.ends.NodeEnd.TheVariants.{Budget}
use Rattle.cluster_rules.specs.Positions.{Course}
use Rattle.cluster_rules.specs.Runs.{Cluster}
use Rattle.cluster_rules.proofs.Stepping.{Stepped, lawful_stepped}
use Rattle.cluster_trace.proofs.Logs.{ended_at, ends_last, log_is}
use Rattle.run_ticks.specs.Laws.{items_in, ticks_counted, RunTicks, ReturnedTicks, SpentTicks}
use Rattle.run_ticks.proofs.Logs.{counts_sum}
use Rattle.run_ticks.proofs.Quiet.{quiet_node}
use Rattle.run_ticks.proofs.Returned.{asked_none}
use Rattle.run_ticks.proofs.Ticking.{items_more}

-- The ticks of a run's nodes are together the items of its trace and the Adds under way.
pub run_ticks : RunTicks
run_ticks cluster log run = ap (ticks_counted cluster) (log_is cluster log run) ∙ counts_sum cluster (reverse run.turns) run.lawful

-- Where `main` has returned, they are as many as the items.
pub returned_ticks : ReturnedTicks
returned_ticks cluster program log stands parted run value returned =
    let all = run_ticks cluster log run in
    let none = asked_none cluster (reverse run.turns) run.lawful program stands parted value returned in omega (arith, all, none)

spent : (cluster : Cluster) (node : ℕ) (earlier : Course) → Stepped cluster (ended_at node Budget ∷ earlier)
    → cluster.config.budget ≤ items_in cluster (ended_at node Budget ∷ earlier)
spent cluster node earlier stepped =
    let ticks = stepped.1.allowed.1.ticks in
    let quiet = quiet_node node cluster earlier stepped.0 stepped.1.within stepped.1.allowed.0 in
    let more = items_more cluster (ended_at node Budget) earlier in omega (arith, ticks, quiet, more)

-- Where a node ends with a spent budget, its ticks are items.
pub spent_ticks : SpentTicks
spent_ticks cluster log run has =
    let last = ends_last cluster log run Budget has in
    subst (λ course. cluster.config.budget ≤ items_in cluster course) (sym last.is)
    (spent cluster last.node last.earlier (subst (Stepped cluster) last.is (lawful_stepped cluster (reverse run.turns) run.lawful)))
