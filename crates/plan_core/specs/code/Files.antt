-- The files that tasks read and write, listed.
use Rattle.std.specs.Prelude.{◌≡◌, ℕ, ◌==◌, ◌&&◌, Bool, true, false, List, [], ◌∷◌, slice_get}
use Rattle.std.specs.List.{flat_map}
use Rattle.values.specs.declared.numbers.JobId.{JobId}
use Rattle.plan_core.specs.declared.files.SiteFiles.{SiteFiles}
use Rattle.plan_core.specs.declared.plan.Pair.{Pair}
use Rattle.plan_core.specs.declared.plan.PlanJob.{PlanJob}
use Rattle.plan_core.specs.Numbers.{has}
use Rattle.plan_core.specs.code.Numbers.{RisesFrom}
use Rattle.plan_core.specs.Words.{inputs, outputs}
use Rattle.plan_core.specs.code.Words.{pair_at}

-- the inputs, and the outputs, of some jobs, one job after the other
abbrev pub all_inputs : List PlanJob → List JobId → List ℕ
all_inputs jobs js = flat_map (λ (j : JobId). inputs jobs j.0) js

abbrev pub all_outputs : List PlanJob → List JobId → List ℕ
all_outputs jobs js = flat_map (λ (j : JobId). outputs jobs j.0) js

-- the files, in rising order, are exactly those that pass at the site, and none passes at another site
pub record AreFilesOf (test : ℕ → ℕ → Bool) (found : SiteFiles) : Type 0 where
  pub rises : RisesFrom 0 found.files.items
  pub same : (s f : ℕ) → test s f ≡ ((found.site.0 == s) && has found.files.items f)

-- the pairs with these numbers are these files at the site, one by one
abbrev pub are_pairs : List Pair → ℕ → List ℕ → List ℕ → Bool
are_pairs pairs s [] [] = true
are_pairs pairs s [] (f ∷ fs) = false
are_pairs pairs s (q ∷ qs) [] = false
are_pairs pairs s (q ∷ qs) (f ∷ fs) = pair_at (slice_get pairs q) s f && are_pairs pairs s qs fs
