-- The files of a task, listed.
use Rattle.std.proofs.Common.{◌≡◌, ℕ, zero, suc, ◌<◌, Bool, false, not, ◌&&◌, ◌||◌, List, [], ◌∷◌, length, drop, refl, sym, ap, ◌∙◌, nat_eq, arith}
use Rattle.std.specs.Prelude.{Some}
use Rattle.std.specs.List.{list_any, flat_map}
use Rattle.std.proofs.lemmas.List.Folds.{list_any-append}
use Rattle.values.specs.declared.numbers.JobId.{JobId}
use Rattle.values.specs.declared.numbers.PairId.{PairId}
use Rattle.plan_core.specs.declared.files.SiteFiles.{SiteFiles}
use Rattle.plan_core.specs.declared.plan.Pair.{Pair}
use Rattle.plan_core.specs.declared.plan.PlanJob.{PlanJob}
use Rattle.plan_core.specs.declared.plan.TaskKind.TheVariants.{Run}
use Rattle.plan_core.specs.Numbers.{has}
use Rattle.plan_core.specs.code.Numbers.{RisesFrom}
use Rattle.plan_core.specs.Words.{inputs, outputs, pair_numbers}
use Rattle.plan_core.specs.Kinds.{jobs_use, jobs_make, kind_reads, kind_writes}
use Rattle.plan_core.specs.code.Files.{AreFilesOf, all_inputs, all_outputs, are_pairs}

any_flat : {A : Type 0} (test : ℕ → Bool) (g : A → List ℕ) (xs : List A) → list_any test (flat_map g xs) ≡ list_any (λ x. list_any test (g x)) xs
any_flat test g [] = refl
any_flat test g (x ∷ xs) = list_any-append test (g x) (flat_map g xs) ∙ ap (λ (b : Bool). list_any test (g x) || b) (any_flat test g xs)

pub used_listed : (jobs : List PlanJob) (js : List JobId) (f : ℕ) → has (all_inputs jobs js) f ≡ jobs_use jobs js f
used_listed jobs js f = any_flat (λ y. nat_eq y f) (λ (j : JobId). inputs jobs j.0) js

pub made_listed : (jobs : List PlanJob) (js : List JobId) (f : ℕ) → has (all_outputs jobs js) f ≡ jobs_make jobs js f
made_listed jobs js f = any_flat (λ y. nat_eq y f) (λ (j : JobId). outputs jobs j.0) js

pub run_writes_are : (jobs : List PlanJob) (js : List JobId) (found : SiteFiles) (list : List ℕ) → list ≡ all_outputs jobs js → RisesFrom 0 found.files.items → ((x : ℕ) → has found.files.items x ≡ has list x) → AreFilesOf (kind_writes jobs (Some (Run found.site js))) found
run_writes_are jobs js found list is rises same = record {
  rises = rises;
  same = λ s f. ap (λ (b : Bool). nat_eq found.site.0 s && b) (sym (same f ∙ ap (λ (xs : List ℕ). has xs f) is ∙ made_listed jobs js f));
}

pub run_reads_are : (jobs : List PlanJob) (js : List JobId) (found : SiteFiles) (ins outs used made : List ℕ) → ins ≡ all_inputs jobs js → outs ≡ all_outputs jobs js
    → ((x : ℕ) → has used x ≡ has ins x) → ((x : ℕ) → has made x ≡ has outs x) → RisesFrom 0 found.files.items
    → ((x : ℕ) → has found.files.items x ≡ (has used x && not (has made x))) → AreFilesOf (kind_reads jobs (Some (Run found.site js))) found
run_reads_are jobs js found ins outs used made is os su sm rises same = record {
  rises = rises;
  same = λ s f. ap (λ (b : Bool). nat_eq found.site.0 s && b) (sym (same f
      ∙ ap (λ (b : Bool). b && not (has made f)) (su f ∙ ap (λ (xs : List ℕ). has xs f) is ∙ used_listed jobs js f)
      ∙ ap (λ (b : Bool). jobs_use jobs js f && not b) (sm f ∙ ap (λ (xs : List ℕ). has xs f) os ∙ made_listed jobs js f)));
}

-- more pairs than files
pub more_pairs : (pairs : List Pair) (s : ℕ) (qs : List PairId) (i : ℕ) (left : List ℕ) → i < length qs → length left < 1 → are_pairs pairs s (pair_numbers (drop i qs)) left ≡ false
more_pairs pairs s [] i left l none = absurd (omega arith)
more_pairs pairs s (q ∷ qs) zero [] l none = refl
more_pairs pairs s (q ∷ qs) zero (f ∷ fs) l none = absurd (omega arith)
more_pairs pairs s (q ∷ qs) (suc i) left l none = more_pairs pairs s qs i left (omega arith) none
