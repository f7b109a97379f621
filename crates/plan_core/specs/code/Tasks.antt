-- The tests of each task by itself.
use Rattle.std.specs.Prelude.{◌≡◌, ℕ, ◌&&◌, ◌++◌, Bool, true, not, List, [], ◌∷◌, cond, nat_eq, Option, is_some, slice_get}
use Rattle.std.specs.List.{list_any, list_all}
use Rattle.values.specs.declared.numbers.JobId.{JobId}
use Rattle.plan_core.specs.declared.plan.Plan.{Plan}
use Rattle.plan_core.specs.declared.plan.PlanJob.{PlanJob}
use Rattle.plan_core.specs.declared.plan.Task.{Task}
use Rattle.plan_core.specs.declared.plan.TaskKind.{TaskKind}
use Rattle.plan_core.specs.declared.plan.TaskKind.TheVariants.{Transfer, Run, Clean}
use Rattle.plan_core.specs.Words.{declared, inputs, outputs, reads_in, writes_in, kind_in, count_pairs}
use Rattle.plan_core.specs.Kinds.{kind_reads, kind_writes, on_pair}
use Rattle.plan_core.specs.Numbers.{below}
use Rattle.plan_core.specs.code.Proper.{stands}

-- each of the files has a declared size
abbrev pub have_sizes : Plan → List ℕ → Bool
have_sizes p fs = list_all (λ f. is_some (declared p f)) fs

abbrev pub are_jobs_sized : Plan → List JobId → Bool
are_jobs_sized p js = list_all (λ (j : JobId). have_sizes p (outputs p.jobs j.0)) js

abbrev pub is_kind_sized : Plan → TaskKind → Bool
is_kind_sized p (Transfer f from to) = is_some (declared p f.0)
is_kind_sized p (Run s js) = are_jobs_sized p js
is_kind_sized p (Clean q) = true

-- the known files with some more, each once
abbrev pub with_one : List ℕ → ℕ → List ℕ
with_one known f = cond (list_any (nat_eq f) known) known (known ++ f ∷ [])

abbrev pub with_all : List ℕ → List ℕ → List ℕ
with_all known [] = known
with_all known (f ∷ fs) = with_all (with_one known f) fs

-- none of these files is known, and none comes twice
abbrev pub are_fresh : List ℕ → List ℕ → Bool
are_fresh known [] = true
are_fresh known (f ∷ fs) = not (list_any (nat_eq f) known) && are_fresh (known ++ f ∷ []) fs

abbrev pub in_sequence : List PlanJob → List ℕ → List JobId → Bool
in_sequence jobs known [] = true
in_sequence jobs known (j ∷ js) = are_fresh (with_all known (inputs jobs j.0)) (outputs jobs j.0)
    && in_sequence jobs (with_all known (inputs jobs j.0) ++ outputs jobs j.0) js

abbrev pub kind_in_sequence : List PlanJob → TaskKind → Bool
kind_in_sequence jobs (Run s js) = in_sequence jobs [] js
kind_in_sequence jobs (Transfer f from to) = true
kind_in_sequence jobs (Clean q) = true

-- a task's reads, and its writes, are those of its kind
pub record HasReads (p : Plan) (t : Option Task) : Type 0 where
  pub listed : reads_in t ≡ below (count_pairs p)
      (λ q. on_pair (kind_reads p.jobs (kind_in t)) (slice_get p.pairs q))
  pub stand : (s f : ℕ) → kind_reads p.jobs (kind_in t) s f ≡ true → stands p s f ≡ true

-- its writes are the pairs that its kind writes, in rising order, and each of these is a pair of the plan
pub record HasWrites (p : Plan) (t : Option Task) : Type 0 where
  pub listed : writes_in t ≡ below (count_pairs p)
      (λ q. on_pair (kind_writes p.jobs (kind_in t)) (slice_get p.pairs q))
  pub stand : (s f : ℕ) → kind_writes p.jobs (kind_in t) s f ≡ true → stands p s f ≡ true
