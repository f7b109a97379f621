use Rattle.std.proofs.Common.{◌≡◌, true, sym, subst}
use Rattle.plan_core.specs.code.Kinds.{kind_carries}
use Rattle.plan_core.specs.Words.{kind}
use Rattle.lease_rules.specs.code.Storing.{IsFirstPast}
use Rattle.task_work.proofs.OverlongLemmas.{past_carried}
use Rattle.task_work.proofs.overlong.find_overlong.Goals as goal

pub maker-requires-clause-made : goal.maker-requires-clause-made
maker-requires-clause-made c =
    let p = c.args.plan.now in
    subst (λ f. kind_carries p.jobs (kind p c.args.task.0) f ≡ true) (sym c.pair_file-file.ensures)
    (past_carried p (c.files_are_listed_by_pair.ensures.writes p c.requires.proper) (c.files_are_listed_by_pair.ensures.in_range p c.requires.proper) c.args.task.0 c.args.outputs.now c.in-Some.past.pair.0 c.in-Some.past.length c.requires.kind
    (subst (λ qs. IsFirstPast p qs c.args.outputs.now c.in-Some.past.pair.0 c.in-Some.past.length) c.writes.ensures c.in-Some.ensures))
