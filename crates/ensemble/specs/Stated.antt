-- What the joint request states for a member: the size of each file, the tool of each job's transformation.
use Rattle.std.specs.Prelude.{ℕ, List, [], ◌∷◌, ◌++◌, map, Option, Some, None}
use Rattle.workflow_core.specs.declared.workflow.Job.{Job}
use Rattle.plan_request.specs.JobTools.{tool_of}
use Rattle.plan_request.specs.declared.request.SizeOf.{SizeOf}
use Rattle.plan_request.specs.declared.request.ToolOf.{ToolOf}
use Rattle.ensemble.specs.Prefix.{prefixed}

-- the size of a file, if it has one
abbrev pub stated_size : List ℕ → List ℕ → Option ℕ → List SizeOf
stated_size member file None = []
stated_size member file (Some n) = record { lfn = prefixed member file; size = n } ∷ []

-- those of files with the size beside each
abbrev pub stated_sizes : List ℕ → List (List ℕ) → List (Option ℕ) → List SizeOf
stated_sizes member [] sizes = []
stated_sizes member (f ∷ fs) [] = []
stated_sizes member (f ∷ fs) (s ∷ ss) = stated_size member f s ++ stated_sizes member fs ss

-- the tool of a job's transformation, among the tools that the member's own request states
abbrev pub stated_tool : List ℕ → List ToolOf → Job → ToolOf
stated_tool member tools j = record {
  transformation = prefixed member j.transformation.name;
  tool = tool_of tools j.transformation.name;
}

abbrev pub stated_tools : List ℕ → List ToolOf → List Job → List ToolOf
stated_tools member tools js = map (stated_tool member tools) js
