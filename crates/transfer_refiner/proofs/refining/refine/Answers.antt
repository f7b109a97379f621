use Rattle.std.proofs.Common.{subst}
use Rattle.transfer_refiner.specs.Draft.{Draft, planned}
use Rattle.transfer_refiner.specs.code.Refined.{Refines}
use Rattle.transfer_refiner.proofs.ProperLemmas.{proper_of}
use Rattle.transfer_refiner.proofs.refining.refine.Goals as goal

pub returns-clause-proper : goal.returns-clause-proper
returns-clause-proper c =
    proper_of (planned c.args.workflow.now c.args.clusters.now c.args.sites.now c.args.replicas.now c.args.request.now) c.args.limit _ c.requires.draft c.requires.few
    (subst (λ (d : Draft). Refines d c.args.limit c.refined-plan.result)
    (λ j. record { workflow = c.args.workflow.now; parts = c.as_slice.ensures j; sites = c.args.sites.now; replicas = c.in_ok-new.ensures j; request = c.args.request.now }) c.refined-plan.ensures)
