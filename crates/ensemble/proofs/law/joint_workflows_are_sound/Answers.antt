use Rattle.ensemble.proofs.SoundLemmas.{joint_sound}
use Rattle.ensemble.proofs.law.joint_workflows_are_sound.Goals as goal

pub returns : goal.returns
returns c = joint_sound
