-- What a plan keeps of what the documents say: the policy, the names of the files, and which files are requested.
use Rattle.std.specs.Prelude.{◌≡◌, ℕ, ◌<◌, true, length}
use Rattle.workflow_core.specs.Requested.{is_requested}
use Rattle.planner.specs.declared.inputs.Survey.{Survey}

-- a file of the workflow that is requested
pub record IsRequested (s : Survey) (f : ℕ) : Type 0 where
  pub in_range : f < length s.workflow.files
  pub requested : is_requested s.workflow f ≡ true
