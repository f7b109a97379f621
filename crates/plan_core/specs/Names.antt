-- The names of a plan's sites, files and pairs, by number; nothing where there is no such number.
use Rattle.std.specs.Prelude.{ℕ, List, [], Option, Some, None, slice_get, unwrap_or, option_map}
use Rattle.plan_core.specs.declared.plan.Plan.{Plan}
use Rattle.plan_core.specs.declared.plan.PlanFile.{PlanFile}
use Rattle.plan_core.specs.declared.plan.PlanSite.{PlanSite}
use Rattle.plan_core.specs.declared.plan.Pair.{Pair}
use Rattle.plan_core.specs.Words.{pair}

unfoldable pub site_name : Plan → ℕ → List ℕ
site_name p s = unwrap_or (option_map (λ (x : PlanSite). x.name) (slice_get p.sites s)) []

abbrev pub lfn_in : Option PlanFile → List ℕ
lfn_in None = []
lfn_in (Some f) = f.lfn

unfoldable pub file_name : Plan → ℕ → List ℕ
file_name p f = lfn_in (slice_get p.files f)

-- the site and the file of a pair
abbrev pub site_in : Option Pair → ℕ
site_in None = 0
site_in (Some q) = q.site.0

unfoldable pub pair_site : Plan → ℕ → ℕ
pair_site p q = site_in (pair p q)

abbrev pub file_in : Option Pair → ℕ
file_in None = 0
file_in (Some q) = q.file.0

unfoldable pub pair_file : Plan → ℕ → ℕ
pair_file p q = file_in (pair p q)

-- where a pair is kept: the names of its site and of its file
abbrev pub pair_site_name : Plan → ℕ → List ℕ
pair_site_name p q = site_name p (pair_site p q)

abbrev pub pair_file_name : Plan → ℕ → List ℕ
pair_file_name p q = file_name p (pair_file p q)
