use Rattle.std.proofs.Common.{List, length, sym, ap, ◌∙◌}
use Rattle.std.specs.Prelude.{slice_get}
use Rattle.plan_core.specs.declared.plan.Plan.{Plan}
use Rattle.plan_core.specs.declared.plan.PlanSite.{PlanSite}
use Rattle.pegasus_commands.proofs.RehearseLemmas.{bound_is, some_site}
use Rattle.pegasus_commands.proofs.commands.rehearse.figures_of.Goals as goal

pub peak-requires : goal.peak-requires
peak-requires c =
    let sites = c.as_slice.ensures ∙ ap (λ (p : Plan). p.sites) c.plan-plan.ensures in
    some_site c.args.ordered.now.plan c.in-Some.site.now (sym (c.in-Some.ensures.value ∙ ap (λ (xs : List PlanSite). slice_get xs 0) sites))

pub returns : goal.returns
returns c =
    let sites = c.as_slice.ensures ∙ ap (λ (p : Plan). p.sites) c.plan-plan.ensures in
    record {
      jobs = ap length c.as_slice-2.ensures;
      tasks = ap length c.as_slice-3.ensures ∙ ap (λ (p : Plan). length p.tasks) c.plan-plan.ensures;
      bound = bound_is c.args.ordered.now.plan c.in-Some.site.now (sym (c.in-Some.ensures.value ∙ ap (λ (xs : List PlanSite). slice_get xs 0) sites));
      peak = c.peak.ensures;
    }
