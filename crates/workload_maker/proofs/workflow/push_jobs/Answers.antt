use Rattle.std.proofs.Common.{◌++◌, ◌-◌, List, ℕ, ap, sym, ◌∙◌}
use Rattle.std.specs.List.{flat_map}
use Rattle.workload_maker.specs.Jobs.{each, followed, job_text}
use Rattle.workload_maker.specs.Workflow.{add, background, bg_model, concat_fit, diff_fit, project}
use Rattle.workload_maker.proofs.TextLemmas.{jobs_are, six}
use Rattle.workload_maker.proofs.workflow.push_jobs.Goals as goal

pub returns : goal.returns
returns c =
    six c.args.text.now.items
    (flat_map followed (each c.args.images.count project)) (flat_map followed (each (c.args.images.count - 1) diff_fit)) (followed (concat_fit c.args.images.count)) (followed (bg_model c.args.images.count)) (flat_map followed (each c.args.images.count background)) (job_text (add c.args.images.count))
    c.push_projects.new.text.items c.push_diff_fits.new.text.items c.push_concat_fit.new.text.items c.push_bg_model.new.text.items c.push_backgrounds.new.text.items c.push_add.new.text.items
    c.in_ok-push_projects.ensures c.in_ok-push_diff_fits.ensures c.in_ok-push_concat_fit.ensures c.in_ok-push_bg_model.ensures c.in_ok-push_backgrounds.ensures c.in_ok-push_add.ensures
    ∙ ap (λ (t : List ℕ). c.args.text.now.items ++ t) (sym (jobs_are c.args.images.count))
