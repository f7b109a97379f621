-- Plans with their Cleans are proper and within the limits of storage.
use Rattle.std.proofs.Common.{◌≡◌, ℕ, ◌+◌, ◌*◌, ◌<◌, ◌≤◌, ◌^◌, true, length, refl, sym, ap, ◌∙◌, arith}
use Rattle.std.specs.Prelude.{Option, Some, None}
use Rattle.std.proofs.lemmas.List.{length-append, length-map}
use Rattle.plan_request.specs.declared.request.Cleanup.{Cleanup}
use Rattle.plan_request.specs.declared.request.Cleanup.TheVariants as cleanup
use Rattle.plan_core.specs.declared.plan.Plan.{Plan}
use Rattle.plan_core.specs.Numbers.{below}
use Rattle.plan_core.specs.code.Proper.{IsProper}
use Rattle.plan_core.specs.Words.{count_pairs, count_tasks, declared}
use Rattle.cleanup_refiner.specs.code.Cleans.{HasNoClean}
use Rattle.cleanup_refiner.specs.Cleans.{clean_of, with_cleanup, cleans_of, with_cleans}
use Rattle.storage_simulation.specs.code.Goods.{IsWithinLimits}
use Rattle.storage_simulation.specs.Goods.{count_sites, or_zero}
use Rattle.transfer_refiner.specs.code.Tasks.{count_cleans}
use Rattle.transfer_refiner.proofs.TogetherLemmas.{below_short}

pub cleaned_proper : (strategy : Cleanup) (bare : Plan) → IsProper bare → HasNoClean bare → count_tasks bare + count_cleans strategy (count_pairs bare) ≤ 120000
    → ((p : Plan) → IsProper p → HasNoClean p → count_tasks p + count_pairs p < 2 ^ 32 → IsProper (with_cleans p)) → IsProper (with_cleanup strategy bare)
cleaned_proper cleanup.None bare h none few law = h
cleaned_proper cleanup.Inplace bare h none few law = law bare h none (omega (arith, few))
cleaned_proper cleanup.Constraint bare h none few law = law bare h none (omega (arith, few))

with_cleans_long : (bare : Plan) → count_tasks (with_cleans bare) ≤ count_tasks bare + count_pairs bare
with_cleans_long bare =
    let all : count_tasks (with_cleans bare) ≡ count_tasks bare + length (cleans_of bare) = length-append bare.tasks (cleans_of bare) in
    let cleans : length (cleans_of bare) ≡ length (below (count_pairs bare) (λ q. true)) = length-map (below (count_pairs bare) (λ q. true)) (clean_of bare) in
    let short = below_short (count_pairs bare) (λ q. true) in
    omega (arith, all, cleans, short)

cleaned_long : (strategy : Cleanup) (bare : Plan) → count_tasks (with_cleanup strategy bare) ≤ count_tasks bare + count_cleans strategy (count_pairs bare)
cleaned_long cleanup.None bare = omega arith
cleaned_long cleanup.Inplace bare = with_cleans_long bare
cleaned_long cleanup.Constraint bare = with_cleans_long bare

same_sites : (strategy : Cleanup) (bare : Plan) → (with_cleanup strategy bare).sites ≡ bare.sites
same_sites cleanup.None bare = refl
same_sites cleanup.Inplace bare = refl
same_sites cleanup.Constraint bare = refl

same_files : (strategy : Cleanup) (bare : Plan) → (with_cleanup strategy bare).files ≡ bare.files
same_files cleanup.None bare = refl
same_files cleanup.Inplace bare = refl
same_files cleanup.Constraint bare = refl

same_declared : (strategy : Cleanup) (bare : Plan) (f : ℕ) → declared (with_cleanup strategy bare) f ≡ declared bare f
unfolding declared
same_declared cleanup.None bare f = refl
same_declared cleanup.Inplace bare f = refl
same_declared cleanup.Constraint bare f = refl

small_or_zero : (o : Option ℕ) → ((n : ℕ) → o ≡ Some n → n ≤ 2 ^ 40) → or_zero o ≤ 2 ^ 40
small_or_zero None h = omega arith
small_or_zero (Some n) h = h n refl

-- what is small of a plan without Cleans
pub record IsSmall (p : Plan) : Type 0 where
  pub sites : length p.sites ≤ 64
  pub files : length p.files ≤ 50000
  pub sizes : (f n : ℕ) → declared p f ≡ Some n → n ≤ 2 ^ 40

pub cleaned_limits : (strategy : Cleanup) (bare : Plan) → IsSmall bare → IsProper (with_cleanup strategy bare) → count_tasks bare + count_cleans strategy (count_pairs bare) ≤ 120000
    → ((p : Plan) → IsProper p → count_sites p ≤ 64 → length p.files ≤ 50000 → count_pairs p ≤ 64 * 50000) → IsWithinLimits (with_cleanup strategy bare)
cleaned_limits strategy bare small proper few law = record {
  sites = sites;
  pairs = law (with_cleanup strategy bare) proper sites files;
  tasks = let long = cleaned_long strategy bare in omega (arith, long, few);
  sizes = λ f. small_or_zero (declared (with_cleanup strategy bare) f) (λ n e. small.sizes f n (sym (same_declared strategy bare f) ∙ e));
}
  where
    sites : count_sites (with_cleanup strategy bare) ≤ 64
    sites = let same = ap length (same_sites strategy bare) in let most = small.sites in omega (arith, same, most)

    files : length (with_cleanup strategy bare).files ≤ 50000
    files = let same = ap length (same_files strategy bare) in let most = small.files in omega (arith, same, most)
