-- The tests of a plan's tables.
use Rattle.std.specs.Prelude.{ℕ, ◌^◌, ◌&&◌, ◌++◌, Bool, true, not, List, [], ◌∷◌, length, map, nat_lt}
use Rattle.std.specs.List.{list_any, list_all}
use Rattle.std.specs.Str.{bytes_eq}
use Rattle.plan_core.specs.declared.plan.Plan.{Plan}
use Rattle.plan_core.specs.declared.plan.PlanFile.{PlanFile}
use Rattle.plan_core.specs.declared.plan.PlanSite.{PlanSite}
use Rattle.plan_core.specs.declared.plan.Task.{Task}
use Rattle.plan_core.specs.code.Proper.{is_pair_in_range, is_job_in_range, is_kind_in_range, are_rising}

abbrev pub are_few : Plan → Bool
are_few p = nat_lt (length p.sites) (2 ^ 32)
    && (nat_lt (length p.files) (2 ^ 32) && (nat_lt (length p.jobs) (2 ^ 32)
    && (nat_lt (length p.pairs) (2 ^ 32) && nat_lt (length p.tasks) (2 ^ 32))))

abbrev pub are_in_range : Plan → Bool
are_in_range p = list_all (is_pair_in_range p) p.pairs
    && (list_all (is_job_in_range p) p.jobs && list_all (λ (t : Task). is_kind_in_range p t.kind) p.tasks)

-- none of these texts is known, and none comes twice
abbrev pub are_unknown : List (List ℕ) → List (List ℕ) → Bool
are_unknown known [] = true
are_unknown known (n ∷ ns) = not (list_any (bytes_eq n) known) && are_unknown (known ++ n ∷ []) ns

abbrev pub tables_pass : Plan → Bool
tables_pass p = are_few p && (are_in_range p
    && (are_rising p.pairs && (are_unknown [] (map (λ (s : PlanSite). s.name) p.sites)
    && are_unknown [] (map (λ (f : PlanFile). f.lfn) p.files))))
