-- What an ensemble by several workers comes to that ended Done: what a run does, with the joint in the place of a request.
use Rattle.std.specs.Prelude.{◌≡◌, ℕ, List, Some, None}
use Rattle.ensemble.specs.declared.member.Member.{Member}
use Rattle.command_words.specs.Words.{EnsembleBy, threaded_command}
use Rattle.pegasus_commands.specs.code.Commands.EnsembleRun.{DeliversMembers}
use Rattle.pegasus_commands.specs.code.Ensembles.{GoesOn, joined}
use Rattle.pegasus_commands.specs.PlanRun.{ShownBy}
use Rattle.pegasus_cli.specs.Headline.{EndsSo}
use Rattle.pegasus_cli.specs.Moments.{Call}
use Rattle.pegasus_cli.specs.declared.outcome.Outcome.{Outcome}
use Rattle.pegasus_cli.specs.declared.outcome.Outcome.TheVariants.{Done}

-- All that holds of a run holds of that of the members' joint, and each member has what it asked for.
pub record JointEndsSo (c : Call) (name : List ℕ) (workers : ℕ) : Type 0 where
  pub members : List Member
  pub ends : EndsSo c (λ before after s. GoesOn name before after (joined members s)) workers
  pub delivers : ShownBy c.work (DeliversMembers c.work members)

abbrev pub JointHoldsOf : Call → Outcome → Type 0
JointHoldsOf c outcome = (workers : ℕ) (name : List ℕ)
    → threaded_command c.asked.words ≡ Some (EnsembleBy name workers) → outcome ≡ Done None
    → ∥ JointEndsSo c name workers ∥₁
