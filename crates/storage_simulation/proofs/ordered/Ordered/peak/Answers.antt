use Rattle.std.proofs.Common.{ℕ, List, get_or, sym, ap, subst, ◌∙◌}
use Rattle.std.proofs.Math.Logic.{∥∥₁_map}
use Rattle.plan_core.specs.Words.{task_numbers}
use Rattle.storage_simulation.specs.Ordering.{at_start}
use Rattle.storage_simulation.specs.code.Ordering.{IsPeak}
use Rattle.storage_simulation.proofs.ordered.Ordered.peak.Goals as goal

pub returns : goal.returns
returns c =
    let at = c.peak_at.ensures ∙ ap (λ (xs : List ℕ). get_or xs c.args.site.0 0) c.deref.ensures.value in
    ∥∥₁_map c.args.self.now.peaks_are (λ all. subst (IsPeak c.args.self.now.plan at_start (task_numbers c.args.self.now.tasks.items) c.args.site.0) (sym at) (all c.args.site.0 c.requires))
