-- One job more with its site.
use Rattle.std.proofs.Common.{List, [], ◌∷◌, ◌++◌, ◌≡◌, ℕ, zero, suc, ◌+◌, ◌<◌, length, take, get_or, refl, sym, ap, ◌∙◌, arith, add-one}
use Rattle.std.specs.Prelude.{Option}
use Rattle.values.specs.declared.numbers.SiteId.{SiteId}
use Rattle.workflow_core.specs.declared.workflow.Job.{Job}
use Rattle.plan_core.specs.declared.plan.PlanJob.{PlanJob}
use Rattle.plan_request.specs.declared.request.ToolOf.{ToolOf}
use Rattle.transfer_refiner.specs.Tasks.{jobs_of, planned_job}

jobs_suc : (tools : List ToolOf) (xs : List Job) (ys : List (Option SiteId)) (i : ℕ) (d : Job) (e : Option SiteId) → i < length xs → i < length ys → jobs_of tools (take (suc i) xs) (take (suc i) ys) ≡ jobs_of tools (take i xs) (take i ys) ++ planned_job tools (get_or xs i d) (get_or ys i e) ∷ []
jobs_suc tools [] ys i d e l m = absurd (omega arith)
jobs_suc tools (x ∷ xs) [] i d e l m = absurd (omega arith)
jobs_suc tools (x ∷ xs) (y ∷ ys) zero d e l m = refl
jobs_suc tools (x ∷ xs) (y ∷ ys) (suc i) d e l m = ap (λ zs. planned_job tools x y ∷ zs) (jobs_suc tools xs ys i d e (omega arith) (omega arith))

jobs_more : (tools : List ToolOf) (xs : List Job) (ys : List (Option SiteId)) (i : ℕ) (d : Job) (e : Option SiteId) → i < length xs → i < length ys → jobs_of tools (take (i + 1) xs) (take (i + 1) ys) ≡ jobs_of tools (take i xs) (take i ys) ++ planned_job tools (get_or xs i d) (get_or ys i e) ∷ []
jobs_more tools xs ys i d e l m = rw add-one (jobs_suc tools xs ys i d e l m)

pub jobs_push : (tools : List ToolOf) (xs : List Job) (ys : List (Option SiteId)) (i : ℕ) (x : Job) (e : Option SiteId) (old new : List PlanJob) (z : PlanJob) → i < length xs → length ys ≡ length xs → x ≡ get_or xs i x → z ≡ planned_job tools x (get_or ys i e) → old ≡ jobs_of tools (take i xs) (take i ys) → new ≡ old ++ z ∷ [] → new ≡ jobs_of tools (take (i + 1) xs) (take (i + 1) ys)
jobs_push tools xs ys i x e old new z l long at is was now =
    now ∙ ap (λ zs. zs ++ z ∷ []) was ∙ ap (λ w. jobs_of tools (take i xs) (take i ys) ++ w ∷ []) (is ∙ ap (λ a. planned_job tools a (get_or ys i e)) at) ∙ sym (jobs_more tools xs ys i x e l (omega arith))

pub jobs_none : (tools : List ToolOf) (xs : List Job) (ys : List (Option SiteId)) → jobs_of tools (take 0 xs) (take 0 ys) ≡ []
jobs_none tools xs ys = refl

take_all : {A : Type 0} (xs : List A) (n : ℕ) → n ≡ length xs → take n xs ≡ xs
take_all [] zero e = refl
take_all [] (suc n) e = refl
take_all (x ∷ xs) zero e = absurd (omega arith)
take_all (x ∷ xs) (suc n) e = ap (λ zs. x ∷ zs) (take_all xs n (omega arith))

pub jobs_all : (tools : List ToolOf) (xs : List Job) (ys : List (Option SiteId)) (n : ℕ) → n ≡ length xs → n ≡ length ys → jobs_of tools (take n xs) (take n ys) ≡ jobs_of tools xs ys
jobs_all tools xs ys n e f = ap (λ zs. jobs_of tools zs (take n ys)) (take_all xs n e) ∙ ap (jobs_of tools xs) (take_all ys n f)
