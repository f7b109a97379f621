-- A proper plan: its tables, each task by itself, and the tasks among each other.
use Rattle.std.specs.Prelude.{◌≡◌, ℕ, ◌<◌, ◌==◌, ◌&&◌, ◌||◌, ◌^◌, ◌++◌, Bool, true, not, List, [], ◌∷◌, length, map, nat_lt, Option, Some, None, slice_get, is_some}
use Rattle.std.specs.List.{list_any, list_all, IsDistinct}
use Rattle.std.specs.Str.{bytes_eq}
use Rattle.std.proofs.Props.{props}
use Rattle.std.proofs.lemmas.Map.Keys.{IsDistinct-prop}
use Rattle.values.specs.declared.numbers.FileId.{FileId}
use Rattle.values.specs.declared.numbers.JobId.{JobId}
use Rattle.values.specs.declared.numbers.SiteId.{SiteId}
use Rattle.digraph.specs.Cycle.{Returns}
use Rattle.plan_core.specs.declared.plan.Plan.{Plan}
use Rattle.plan_core.specs.declared.plan.Pair.{Pair}
use Rattle.plan_core.specs.declared.plan.PlanFile.{PlanFile}
use Rattle.plan_core.specs.declared.plan.PlanSite.{PlanSite}
use Rattle.plan_core.specs.declared.plan.PlanJob.{PlanJob}
use Rattle.plan_core.specs.declared.plan.Task.{Task}
use Rattle.plan_core.specs.declared.plan.TaskKind.{TaskKind}
use Rattle.plan_core.specs.declared.plan.TaskKind.TheVariants.{Transfer, Run, Clean}
use Rattle.plan_core.specs.declared.plan.Source.{Source}
use Rattle.plan_core.specs.declared.plan.Source.TheVariants.{Pfn, Site}
use Rattle.plan_core.specs.declared.plan.Target.{Target}
use Rattle.plan_core.specs.declared.plan.Target.TheVariants.{Site as Into, Delivery}
use Rattle.plan_core.specs.Numbers.{has, below}
use Rattle.plan_core.specs.Words.{reads_in, writes_in, kind_in, writes, parents, cleans, delivers, inputs, outputs, is_run, declared, count_tasks, count_pairs, pair_numbers}
use Rattle.plan_core.specs.code.Words.{pair_at}
use Rattle.plan_core.specs.Kinds.{kind_reads, kind_writes, on_pair, waits_for}
use Rattle.plan_core.specs.code.Kinds.{kind_carries}

-- sites and files are among so many
abbrev pub is_site_below : ℕ → Option SiteId → Bool
is_site_below sites None = true
is_site_below sites (Some s) = nat_lt s.0 sites

abbrev pub are_files_below : ℕ → List FileId → Bool
are_files_below files fs = list_all (λ (f : FileId). nat_lt f.0 files) fs

abbrev pub are_jobs_below : ℕ → List JobId → Bool
are_jobs_below jobs js = list_all (λ (j : JobId). nat_lt j.0 jobs) js

abbrev pub is_source_below : ℕ → Source → Bool
is_source_below sites (Pfn x) = true
is_source_below sites (Site a) = nat_lt a.0 sites

abbrev pub is_target_below : ℕ → Target → Bool
is_target_below sites (Into a) = nat_lt a.0 sites
is_target_below sites Delivery = true

abbrev pub is_pair_in_range : Plan → Pair → Bool
is_pair_in_range p q = nat_lt q.site.0 (length p.sites) && nat_lt q.file.0 (length p.files)

abbrev pub is_job_in_range : Plan → PlanJob → Bool
is_job_in_range p j = is_site_below (length p.sites) j.site
    && (are_files_below (length p.files) j.inputs && are_files_below (length p.files) j.outputs)

abbrev pub is_kind_in_range : Plan → TaskKind → Bool
is_kind_in_range p (Transfer f from to) = nat_lt f.0 (length p.files)
    && (is_source_below (length p.sites) from && is_target_below (length p.sites) to)
is_kind_in_range p (Run a js) = nat_lt a.0 (length p.sites) && are_jobs_below (length p.jobs) js
is_kind_in_range p (Clean q) = nat_lt q.0 (count_pairs p)

-- Each part has a number of 32 bits, and each number stands for a part. What tasks read, write and wait for is in
-- range by the fields below.
pub record IsInRange (p : Plan) : Type 0 where
  pub few_sites : length p.sites < 2 ^ 32
  pub few_files : length p.files < 2 ^ 32
  pub few_jobs : length p.jobs < 2 ^ 32
  pub few_pairs : length p.pairs < 2 ^ 32
  pub few_tasks : length p.tasks < 2 ^ 32
  pub pairs : list_all (is_pair_in_range p) p.pairs ≡ true
  pub jobs : list_all (is_job_in_range p) p.jobs ≡ true
  pub kinds : list_all (λ (t : Task). is_kind_in_range p t.kind) p.tasks ≡ true

-- (site, file) comes before (site, file)
abbrev pub is_before : Pair → Pair → Bool
is_before q r = nat_lt q.site.0 r.site.0 || ((q.site.0 == r.site.0) && nat_lt q.file.0 r.file.0)

-- each pair comes before the next one
abbrev pub rise_after : Pair → List Pair → Bool
rise_after last [] = true
rise_after last (q ∷ qs) = is_before last q && rise_after q qs

abbrev pub are_rising : List Pair → Bool
are_rising [] = true
are_rising (q ∷ qs) = rise_after q qs

-- numbers in range, names of which none stands twice, pairs in rising order
pub record HasTables (p : Plan) : Type 0 where
  pub in_range : IsInRange p
  pub site_names : IsDistinct bytes_eq (map (λ (s : PlanSite). s.name) p.sites)
  pub file_names : IsDistinct bytes_eq (map (λ (f : PlanFile). f.lfn) p.files)
  pub pairs_rise : are_rising p.pairs ≡ true

-- none of these is among those that were seen, or comes twice
abbrev pub are_new : List ℕ → List ℕ → Bool
are_new seen [] = true
are_new seen (f ∷ fs) = not (has seen f) && are_new (seen ++ f ∷ []) fs

-- Each job makes files that neither it nor a job before it reads, that no job before it makes, and each once.
abbrev pub is_sequence : List PlanJob → List ℕ → List JobId → Bool
is_sequence jobs seen [] = true
is_sequence jobs seen (j ∷ js) = are_new (seen ++ inputs jobs j.0) (outputs jobs j.0)
    && is_sequence jobs (seen ++ inputs jobs j.0 ++ outputs jobs j.0) js

abbrev pub is_sequence_kind : List PlanJob → Option TaskKind → Bool
is_sequence_kind jobs (Some (Run s js)) = is_sequence jobs [] js
is_sequence_kind jobs _ = true

-- there is a pair of this file at this site
abbrev pub stands : Plan → ℕ → ℕ → Bool
stands p s f = list_any (λ (q : Pair). pair_at (Some q) s f) p.pairs

-- A task reads and writes the pairs that its kind says, all of which stand; its jobs are in sequence; what it carries has a declared size.
pub record IsTask (p : Plan) (t : Option Task) : Type 0 where
  pub reads : reads_in t ≡ below (count_pairs p)
      (λ q. on_pair (kind_reads p.jobs (kind_in t)) (slice_get p.pairs q))
  pub writes : writes_in t ≡ below (count_pairs p)
      (λ q. on_pair (kind_writes p.jobs (kind_in t)) (slice_get p.pairs q))
  pub read_stands : (s f : ℕ) → kind_reads p.jobs (kind_in t) s f ≡ true → stands p s f ≡ true
  pub written_stands : (s f : ℕ) → kind_writes p.jobs (kind_in t) s f ≡ true → stands p s f ≡ true
  pub sequence : is_sequence_kind p.jobs (kind_in t) ≡ true
  pub sized : (f : ℕ) → kind_carries p.jobs (kind_in t) f ≡ true → is_some (declared p f) ≡ true

-- u is a parent of t
abbrev pub is_parent : Plan → ℕ → ℕ → Bool
is_parent p u t = has (parents p t) u

-- Parents are listed in rising order, each once. A task waits for those that it has to wait for, and a Run besides for other Runs.
pub record AreParents (p : Plan) (t : ℕ) : Type 0 where
  pub listed : parents p t ≡ below (count_tasks p) (has (parents p t))
  pub needed : (u : ℕ) → waits_for p t u ≡ true → is_parent p u t ≡ true
  pub allowed : (u : ℕ) → is_parent p u t ≡ true → (waits_for p t u || (is_run p t && is_run p u)) ≡ true

-- a task writes the pair
abbrev pub is_written : Plan → ℕ → Bool
is_written p q = list_any (λ (t : Task). has (pair_numbers t.writes) q) p.tasks

-- Each pair has one writer and at most one Clean, each file at most one delivery, and no way along parents leads back.
pub record HasFlow (p : Plan) : Type 0 where
  pub written : (q : ℕ) → q < count_pairs p → is_written p q ≡ true
  pub one_writer : (t u q : ℕ) → has (writes p t) q ≡ true → has (writes p u) q ≡ true → t ≡ u
  pub one_clean : (t u q : ℕ) → cleans p t q ≡ true → cleans p u q ≡ true → t ≡ u
  pub one_delivery : (t u f : ℕ) → delivers p t f ≡ true → delivers p u f ≡ true → t ≡ u
  pub parents : (t : ℕ) → AreParents p t
  pub acyclic : (t : ℕ) → Returns (is_parent p) t → ⊥

-- What `check` decides of a plan.
pub record IsProper (p : Plan) : Type 0 where
  pub tables : HasTables p
  pub tasks : (t : ℕ) → IsTask p (slice_get p.tasks t)
  pub flow : HasFlow p

pub IsProper-prop : (p : Plan) → IsProp (IsProper p)
IsProper-prop p = Prim.hlevel (props, IsDistinct-prop)
