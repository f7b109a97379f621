use Rattle.std.proofs.Common.{length, ap, arith}
use Rattle.plan_core.specs.declared.plan.Plan.{Plan}
use Rattle.pegasus_commands.proofs.PlanLemmas.{site_is_place}
use Rattle.pegasus_commands.proofs.commands.plan.peaks_of.Goals as goal

pub peak-requires : goal.peak-requires
peak-requires c =
    let sites = ap length c.as_slice-site-end.ensures in
    let plan = ap (λ (p : Plan). length p.sites) c.plan.ensures in
    let below = c.loop-site-test.true in
    site_is_place c.args.ordered.now.plan c.loop-site.site (omega (arith, sites, plan, below))
