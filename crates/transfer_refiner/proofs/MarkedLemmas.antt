-- The files of marked outputs.
use Rattle.std.proofs.Common.{◌≡◌, ℕ, ◌<◌, Bool, true, false, cond, ◌||◌, ◌&&◌, List, [], ◌∷◌, length, map, refl, sym, ap, ◌∙◌, nat_eq, arith}
use Rattle.std.specs.List.{list_any, flat_map, AllByRecursion}
use Rattle.workflow_core.specs.declared.workflow.Job.{Job}
use Rattle.workflow_core.specs.declared.workflow.Output.{Output}
use Rattle.workflow_core.specs.declared.workflow.Workflow.{Workflow}
use Rattle.workflow_core.specs.Requested.{requests, is_requested}
use Rattle.workflow_core.specs.code.WellFormed.{IsJobOver, IsWellFormed}
use Rattle.plan_core.specs.Numbers.{has, below}
use Rattle.plan_core.specs.code.Numbers.{RisesFrom}
use Rattle.transfer_refiner.specs.code.Marked.{requested_by, flagged_by, all_requested, all_flagged}
use Rattle.transfer_refiner.specs.Tasks.{flags, is_flagged}
use Rattle.plan_core.proofs.TestLemmas.{same_number, both, by_bool}
use Rattle.plan_core.proofs.RisingLemmas.{rising_is_below}
use Rattle.transfer_refiner.proofs.JobsLemmas.{any_same}
use Rattle.transfer_refiner.proofs.EdgesLemmas.{any_flat}

one : (b : Bool) (x f : ℕ) → has (cond b (x ∷ []) []) f ≡ (b && nat_eq x f)
one true x f = no (nat_eq x f)
  where
    no : (b : Bool) → (b || false) ≡ b
    no true = refl
    no false = refl
one false x f = refl

marked : (g : Output → Bool) (os : List Output) (f : ℕ) → has (flat_map (λ (o : Output). cond (g o) (o.file.0 ∷ []) []) os) f ≡ list_any (λ (o : Output). g o && nat_eq o.file.0 f) os
marked g os f =
    any_flat (λ y. nat_eq y f) (λ (o : Output). cond (g o) (o.file.0 ∷ []) []) os
    ∙ any_same (λ (o : Output). has (cond (g o) (o.file.0 ∷ []) []) f) (λ (o : Output). g o && nat_eq o.file.0 f) os (λ o. one (g o) o.file.0 f)

pub requested_all : (js : List Job) (f : ℕ) → has (all_requested js) f ≡ list_any (requests f) js
requested_all js f = any_flat (λ y. nat_eq y f) (λ (j : Job). requested_by j.outputs) js ∙ any_same (λ (j : Job). has (requested_by j.outputs) f) (requests f) js (λ j. marked (λ (o : Output). o.stage_out) j.outputs f)

pub flagged_all : (js : List Job) (f : ℕ) → has (all_flagged js) f ≡ list_any (flags f) js
flagged_all js f = any_flat (λ y. nat_eq y f) (λ (j : Job). flagged_by j.outputs) js ∙ any_same (λ (j : Job). has (flagged_by j.outputs) f) (flags f) js (λ j. marked (λ (o : Output). o.register) j.outputs f)

output_below : (n f : ℕ) (os : List Output) → AllByRecursion (λ g. g < n) (map (λ (o : Output). o.file.0) os) → list_any (λ (o : Output). o.stage_out && nat_eq o.file.0 f) os ≡ true → f < n
output_below n f [] all h = absurd cc
output_below n f (o ∷ os) all h = by_bool (o.stage_out && nat_eq o.file.0 f)
    (λ e. let same : o.file.0 ≡ f = same_number o.file.0 f (both o.stage_out (nat_eq o.file.0 f) e).1 in let low : o.file.0 < n = all.0 in omega (arith, same, low))
    (λ e. output_below n f os all.1 (sym (ap (λ (b : Bool). b || list_any (λ (o : Output). o.stage_out && nat_eq o.file.0 f) os) e) ∙ h))

job_below : (n f : ℕ) (js : List Job) → AllByRecursion (IsJobOver n) js → list_any (requests f) js ≡ true → f < n
job_below n f [] all h = absurd cc
job_below n f (j ∷ js) all h = by_bool (requests f j) (λ e. output_below n f j.outputs all.0.outputs e) (λ e. job_below n f js all.1 (sym (ap (λ (b : Bool). b || list_any (requests f) js) e) ∙ h))

pub requested_is : (w : Workflow) (list sorted : List ℕ) → IsWellFormed w → list ≡ all_requested w.jobs → RisesFrom 0 sorted → ((x : ℕ) → has sorted x ≡ has list x) → sorted ≡ below (length w.files) (is_requested w)
requested_is w list sorted formed is rises same = rising_is_below (length w.files) (is_requested w) sorted rises
    (λ x h. let k : is_requested w x ≡ true = sym (are x) ∙ h in (job_below (length w.files) x w.jobs formed.jobs k, k))
    (λ x l h. are x ∙ h)
  where
    are : (x : ℕ) → has sorted x ≡ is_requested w x
    are x = same x ∙ ap (λ (xs : List ℕ). has xs x) is ∙ requested_all w.jobs x

pub flagged_is : (w : Workflow) (list sorted : List ℕ) → list ≡ all_flagged w.jobs → ((x : ℕ) → has sorted x ≡ has list x) → (f : ℕ) → has sorted f ≡ is_flagged w f
flagged_is w list sorted is same f = same f ∙ ap (λ (xs : List ℕ). has xs f) is ∙ flagged_all w.jobs f
