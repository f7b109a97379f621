-- What every reader of an ensemble gives.
use Rattle.std.specs.Prelude.{◌≡◌, ◌^◌, ◌≤◌, true, false, Ok}
use Rattle.std.specs.List.{AllByRecursion}
use Rattle.std.specs.Str.{bytes_eq}
use Rattle.workflow_core.specs.code.WellFormed.{are_distinct}
use Rattle.plan_request.specs.code.RunPolicy.{IsPolicyInRange}
use Rattle.plan_request.specs.Request.{execute_checked}
use Rattle.plan_request.specs.declared.request.Execution.{Execution}
use Rattle.ensemble.specs.declared.document.Ensemble.{Ensemble}
use Rattle.ensemble.specs.declared.document.MemberEntry.{MemberEntry}
use Rattle.ensemble.specs.MemberEntry.{has_slash}
use Rattle.ensemble.specs.Reader.{names_of}

-- Members have distinct names without `/`. Execution sites are few and distinct, with bounds of at most 2^60, and the policy is in range.
pub record IsFit (e : Ensemble) : Type 0 where
  pub distinct : are_distinct bytes_eq (names_of e.members) ≡ true
  pub plain_names : AllByRecursion (λ (m : MemberEntry). has_slash m.name ≡ false) e.members
  pub sites : execute_checked e.execute ≡ Ok tt
  pub bounds : AllByRecursion (λ (x : Execution). x.bound ≤ 2 ^ 60) e.execute
  pub policy : IsPolicyInRange e.policy
