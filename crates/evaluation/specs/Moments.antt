-- What is evaluated, and what the evaluation meets.
use Rattle.std.specs.Prelude.{ℕ, Bool, List, Option}
use Rattle.values.specs.Apply.{Apply}
use Rattle.values.specs.declared.numbers.JobId.{JobId}
use Rattle.outside.specs.declared.counts.Counts.{Counts}
use Rattle.outside.specs.declared.host.Host as host
use Rattle.outside.specs.declared.store.Store.{Store}
use Rattle.outside.specs.declared.tool.Tool as tool
use Rattle.workflow_core.specs.declared.workflow.Workflow.{Workflow}
use Rattle.replica_catalog.specs.declared.catalog.Replica.{Replica}
use Rattle.plan_request.specs.declared.request.ToolOf.{ToolOf}

-- a workflow, an order of its jobs, the replicas that are registered, the tools that are stated
pub record Subject : Type 0 where
  pub workflow : Workflow
  pub order : List JobId
  pub replicas : List Replica
  pub tools : List ToolOf

abbrev pub subject : Workflow → List JobId → List Replica → List ToolOf → Subject
subject workflow order replicas tools =
    record { workflow = workflow; order = order; replicas = replicas; tools = tools }

-- what the host holds, where it is told, its counts, and how often the tool has failed
pub record Moment : Type 0 where
  pub told : Option Store
  pub counts : Counts
  pub tool : ℕ

-- what the tool makes and knows, and the host and the tool before and after
pub record Meeting : Type 0 where
  pub apply : Apply
  pub known : List ℕ → Bool
  pub before : Moment
  pub after : Moment

abbrev pub moment : {H Reading Draft T : Type 0} → host.Ghosts H Reading Draft → tool.Ghosts T → H → T
    → Moment
moment h t host tool = record { told = h.told host; counts = h.counts host; tool = t.faults tool }

-- by the ghost members of a host's and a tool's bounds: what they are before, and after
abbrev pub meeting : {H Reading Draft T : Type 0} → host.Ghosts H Reading Draft → tool.Ghosts T → H → T → H
    → T → Meeting
meeting h t host tool new_host new_tool =
    record {
      apply = t.apply;
      known = t.known;
      before = moment h t host tool;
      after = moment h t new_host new_tool;
    }
