use Rattle.std.proofs.Common.{◌∙◌, refl}
use Rattle.ensemble.proofs.MembersLemmas.{joint_formed}
use Rattle.ensemble.proofs.workflows.joint_workflow.Goals as goal

pub returns-clause-well_formed : goal.returns-clause-well_formed
returns-clause-well_formed c = joint_formed c.args.members.now _ c.requires.members c.requires.few_jobs c.requires.few_files (record {
  jobs = c.in_ok-jobs.ensures;
  pairs = c.in_ok-pairs.ensures;
  files = c.in_ok-files.ensures;
  sizes = c.in_ok-sizes.ensures;
  name = c.in_ok-name.ensures;
  sites = refl;
  replicas = refl;
  transformations = refl;
  ignored = c.new-2.ensures ∙ c.new.ensures.items;
})
