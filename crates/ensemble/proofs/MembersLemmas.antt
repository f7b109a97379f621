-- The joint of some members is well formed, its catalogue is joined, and its request is within the limits.
use Rattle.std.proofs.Common.{◌≡◌, ℕ, ◌+◌, ◌≤◌, Bool, true, false, cond, List, [], ◌∷◌, ◌++◌, length, map, refl, sym, ap, subst, ◌∙◌, arith}
use Rattle.std.specs.Prelude.{◌^◌, Option, Some, None}
use Rattle.std.specs.List.{AllByRecursion}
use Rattle.std.specs.Map.{lookup}
use Rattle.std.specs.Option.{option_or}
use Rattle.std.specs.Str.{bytes_eq}
use Rattle.std.proofs.lemmas.List.{length-append, length-map, map-append}
use Rattle.std.proofs.lemmas.List.Elements.{recursion_from_All}
use Rattle.values.specs.declared.numbers.JobId.{JobId}
use Rattle.workflow_core.specs.declared.workflow.Job.{Job}
use Rattle.workflow_core.specs.declared.workflow.Workflow.{Workflow}
use Rattle.workflow_core.specs.code.Law.{NumbersNames}
use Rattle.workflow_core.specs.code.WellFormed.{IsJobOver, IsSmallSize, IsWellFormed, are_distinct}
use Rattle.replica_catalog.specs.declared.catalog.Replica.{Replica}
use Rattle.replica_catalog.specs.Lookup.{lfns_of}
use Rattle.replica_catalog.specs.Catalog.{CatalogEntry}
use Rattle.plan_request.specs.declared.request.Execution.{Execution}
use Rattle.plan_request.specs.declared.request.PlanRequest.{PlanRequest}
use Rattle.plan_request.specs.declared.request.SizeOf.{SizeOf}
use Rattle.plan_request.specs.FileSizes.{declared_sizes, named_size}
use Rattle.plan_request.specs.code.Limits.{IsRuntimeInRange, IsSmallDefault, IsWithinLimits}
use Rattle.plan_request.specs.declared.request.Runtime.{Runtime}
use Rattle.plan_request.specs.code.RunPolicy.{IsPolicyInRange}
use Rattle.ensemble.specs.declared.member.Member.{Member}
use Rattle.ensemble.specs.Catalogues.{joint_replicas}
use Rattle.ensemble.specs.Entries.{replica_of}
use Rattle.ensemble.specs.Jobs.{job_of, pair_after}
use Rattle.ensemble.specs.Member.{AreMembers, IsJoined, IsMember, count_files, count_jobs, files_of, jobs_of}
use Rattle.ensemble.specs.MemberEntry.{has_slash}
use Rattle.ensemble.specs.Prefix.{prefixed}
use Rattle.ensemble.specs.Requests.{joint_sizes, sizes_of}
use Rattle.ensemble.specs.Stated.{stated_size, stated_sizes}
use Rattle.ensemble.specs.Workflows.{IsJointWorkflow, joint_files, joint_jobs, joint_pairs, joint_stated}
use Rattle.ensemble.proofs.DistinctLemmas.{Group, IsDistinctGroup, IsPlainGroup, all_joined, all_mapped, all_weaker, gathered, gathered_distinct}
use Rattle.ensemble.proofs.JobsLemmas.{IsPairBelow, job_over_after, pair_below_after}
use Rattle.ensemble.proofs.JoinedLemmas as replicas

pub each_member : (ms : List Member) → AreMembers ms → AllByRecursion IsMember ms
each_member ms are = recursion_from_All IsMember ms are.each

-- ---- how many there are

pub count_jobs_in : (k : ℕ) (ms : List Member) → length (joint_jobs k ms) ≡ count_jobs ms
count_jobs_in k [] = refl
count_jobs_in k (m ∷ ms) =
    length-append (map (job_of m.name k) m.survey.workflow.jobs) (joint_jobs (k + files_of m) ms)
    ∙ ap (λ (n : ℕ). n + length (joint_jobs (k + files_of m) ms)) (length-map m.survey.workflow.jobs (job_of m.name k))
    ∙ ap (λ (n : ℕ). jobs_of m + n) (count_jobs_in (k + files_of m) ms)

pub count_files_in : (ms : List Member) → length (joint_files ms) ≡ count_files ms
count_files_in [] = refl
count_files_in (m ∷ ms) =
    length-append (map (prefixed m.name) m.survey.workflow.files) (joint_files ms)
    ∙ ap (λ (n : ℕ). n + length (joint_files ms)) (length-map m.survey.workflow.files (prefixed m.name))
    ∙ ap (λ (n : ℕ). files_of m + n) (count_files_in ms)

pub count_stated_in : (ms : List Member) → AllByRecursion IsMember ms → length (joint_stated ms) ≡ count_files ms
count_stated_in [] all = refl
count_stated_in (m ∷ ms) all =
    length-append m.survey.workflow.sizes (joint_stated ms)
    ∙ ap (λ (n : ℕ). n + length (joint_stated ms)) all.0.well_formed.sizes
    ∙ ap (λ (n : ℕ). files_of m + n) (count_stated_in ms all.1)

-- ---- names

-- each member's name, with names of its own
abbrev grouped : (Member → List (List ℕ)) → List Member → List Group
grouped own ms = map (λ (m : Member). (m.name, own m)) ms

group_names : (own : Member → List (List ℕ)) (ms : List Member) → map (λ (g : Group). g.0) (grouped own ms) ≡ map (λ (m : Member). m.name) ms
group_names own [] = refl
group_names own (m ∷ ms) = ap (λ (ns : List (List ℕ)). m.name ∷ ns) (group_names own ms)

under_names : (own : Member → List (List ℕ)) (ms : List Member) → AreMembers ms → AllByRecursion (λ (m : Member). are_distinct bytes_eq (own m) ≡ true) ms → are_distinct bytes_eq (gathered (grouped own ms)) ≡ true
under_names own ms are each =
    gathered_distinct (grouped own ms)
    (all_mapped IsPlainGroup (λ (m : Member). (m.name, own m)) ms (all_weaker IsMember (λ (m : Member). has_slash m.name ≡ false) ms (λ m is. is.plain_name) (each_member ms are)))
    (ap (are_distinct bytes_eq) (group_names own ms) ∙ are.distinct)
    (all_mapped IsDistinctGroup (λ (m : Member). (m.name, own m)) ms each)

abbrev own_ids : Member → List (List ℕ)
own_ids m = map (λ (j : Job). j.id) m.survey.workflow.jobs

abbrev own_files : Member → List (List ℕ)
own_files m = m.survey.workflow.files

abbrev own_lfns : Member → List (List ℕ)
own_lfns m = lfns_of m.survey.replicas.entries

ids_after : (m : List ℕ) (k : ℕ) (js : List Job) → map (λ (j : Job). j.id) (map (job_of m k) js) ≡ map (prefixed m) (map (λ (j : Job). j.id) js)
ids_after m k [] = refl
ids_after m k (j ∷ js) = ap (λ (ns : List (List ℕ)). prefixed m j.id ∷ ns) (ids_after m k js)

ids_gathered : (k : ℕ) (ms : List Member) → map (λ (j : Job). j.id) (joint_jobs k ms) ≡ gathered (grouped own_ids ms)
ids_gathered k [] = refl
ids_gathered k (m ∷ ms) =
    map-append (λ (j : Job). j.id) (map (job_of m.name k) m.survey.workflow.jobs) (joint_jobs (k + files_of m) ms)
    ∙ ap (λ (ns : List (List ℕ)). ns ++ map (λ (j : Job). j.id) (joint_jobs (k + files_of m) ms)) (ids_after m.name k m.survey.workflow.jobs)
    ∙ ap (λ (ns : List (List ℕ)). map (prefixed m.name) (own_ids m) ++ ns) (ids_gathered (k + files_of m) ms)

files_gathered : (ms : List Member) → joint_files ms ≡ gathered (grouped own_files ms)
files_gathered [] = refl
files_gathered (m ∷ ms) = ap (λ (ns : List (List ℕ)). map (prefixed m.name) m.survey.workflow.files ++ ns) (files_gathered ms)

lfns_after : (m : List ℕ) (es : List Replica) → lfns_of (map (replica_of m) es) ≡ map (prefixed m) (lfns_of es)
lfns_after m [] = refl
lfns_after m (e ∷ es) = ap (λ (ns : List (List ℕ)). prefixed m e.lfn ∷ ns) (lfns_after m es)

lfns_gathered : (ms : List Member) → lfns_of (joint_replicas ms) ≡ gathered (grouped own_lfns ms)
lfns_gathered [] = refl
lfns_gathered (m ∷ ms) =
    map-append (λ (e : Replica). e.lfn) (map (replica_of m.name) m.survey.replicas.entries) (joint_replicas ms)
    ∙ ap (λ (ns : List (List ℕ)). ns ++ lfns_of (joint_replicas ms)) (lfns_after m.name m.survey.replicas.entries)
    ∙ ap (λ (ns : List (List ℕ)). map (prefixed m.name) (own_lfns m) ++ ns) (lfns_gathered ms)

-- ---- numbers

stated_small : (ms : List Member) → AllByRecursion IsMember ms → AllByRecursion IsSmallSize (joint_stated ms)
stated_small [] all = tt
stated_small (m ∷ ms) all = all_joined IsSmallSize m.survey.workflow.sizes (joint_stated ms) all.0.well_formed.small_sizes (stated_small ms all.1)

jobs_over : (k most : ℕ) (ms : List Member) → k + count_files ms ≤ most → AllByRecursion IsMember ms → AllByRecursion (IsJobOver most) (joint_jobs k ms)
jobs_over k most [] h all = tt
jobs_over k most (m ∷ ms) h all =
    all_joined (IsJobOver most) (map (job_of m.name k) m.survey.workflow.jobs) (joint_jobs (k + files_of m) ms)
    (all_mapped (IsJobOver most) (job_of m.name k) m.survey.workflow.jobs (all_weaker (IsJobOver (files_of m)) (λ (j : Job). IsJobOver most (job_of m.name k j)) m.survey.workflow.jobs (λ j over. job_over_after m.name k (files_of m) most j (omega (arith, h)) over) all.0.well_formed.jobs))
    (jobs_over (k + files_of m) most ms (omega (arith, h)) all.1)

pairs_below : (k most : ℕ) (ms : List Member) → k + count_jobs ms ≤ most → AllByRecursion IsMember ms → AllByRecursion (IsPairBelow most) (joint_pairs k ms)
pairs_below k most [] h all = tt
pairs_below k most (m ∷ ms) h all =
    all_joined (IsPairBelow most) (map (pair_after k) m.survey.workflow.pairs) (joint_pairs (k + jobs_of m) ms)
    (all_mapped (IsPairBelow most) (pair_after k) m.survey.workflow.pairs (all_weaker (IsPairBelow (jobs_of m)) (λ (p : JobId × JobId). IsPairBelow most (pair_after k p)) m.survey.workflow.pairs (λ p low. pair_below_after k (jobs_of m) most p (omega (arith, h)) low) all.0.well_formed.pairs))
    (pairs_below (k + jobs_of m) most ms (omega (arith, h)) all.1)

-- ---- the workflow

pub joint_formed : (ms : List Member) (w : Workflow) → AreMembers ms → count_jobs ms ≤ 10000 → count_files ms ≤ 50000 → IsJointWorkflow ms w → IsWellFormed w
joint_formed ms w are few_jobs few_files is = record {
  few_jobs = omega (arith, jobs, few_jobs);
  few_files = omega (arith, files, few_files);
  sizes = ap length is.sizes ∙ count_stated_in ms all ∙ sym files;
  small_sizes = subst (λ (ss : List (Option ℕ)). AllByRecursion IsSmallSize ss) (sym is.sizes) (stated_small ms all);
  ids =
      ap (λ (js : List Job). are_distinct bytes_eq (map (λ (j : Job). j.id) js)) is.jobs
      ∙ ap (are_distinct bytes_eq) (ids_gathered 0 ms)
      ∙ under_names own_ids ms are (all_weaker IsMember (λ (m : Member). are_distinct bytes_eq (own_ids m) ≡ true) ms (λ m i. i.well_formed.ids) all);
  names =
      ap (are_distinct bytes_eq) (is.files ∙ files_gathered ms)
      ∙ under_names own_files ms are (all_weaker IsMember (λ (m : Member). are_distinct bytes_eq (own_files m) ≡ true) ms (λ m i. i.well_formed.names) all);
  jobs = subst (λ (js : List Job). AllByRecursion (IsJobOver (length w.files)) js) (sym is.jobs) (jobs_over 0 (length w.files) ms (omega (arith, files)) all);
  pairs = subst (λ (ps : List (JobId × JobId)). AllByRecursion (IsPairBelow (length w.jobs)) ps) (sym is.pairs) (pairs_below 0 (length w.jobs) ms (omega (arith, jobs)) all);
}
  where
    all : AllByRecursion IsMember ms
    all = each_member ms are

    jobs : length w.jobs ≡ count_jobs ms
    jobs = ap length is.jobs ∙ count_jobs_in 0 ms

    files : length w.files ≡ count_files ms
    files = ap length is.files ∙ count_files_in ms

-- ---- the replicas

pub joint_joined : NumbersNames → (ms : List Member) (c : CatalogEntry) → AreMembers ms → c.entries ≡ joint_replicas ms → IsJoined c
joint_joined law ms c are is = record {
  entries = joint_replicas ms;
  joined_is = is ∙ replicas.distinct_joined (joint_replicas ms) (
      ap (are_distinct bytes_eq) (lfns_gathered ms)
      ∙ under_names own_lfns ms are (all_weaker IsMember (λ (m : Member). are_distinct bytes_eq (own_lfns m) ≡ true) ms (λ m i. replicas.joined_distinct law m.survey.replicas.entries i.joined.entries i.joined.joined_is) (each_member ms are))
      );
}

-- ---- the request

abbrev IsSmallEntry : SizeOf → Type 0
IsSmallEntry s = s.size ≤ 2 ^ 40

found_small : (test : List ℕ → Bool) (ss : List SizeOf) → AllByRecursion IsSmallEntry ss → IsSmallSize (lookup test (map named_size ss))
found_small test [] all = tt
found_small test (s ∷ ss) all = by (test s.lfn) all.0 (found_small test ss all.1)
  where
    by : (t : Bool) → s.size ≤ 2 ^ 40 → IsSmallSize (lookup test (map named_size ss)) → IsSmallSize (cond t (Some s.size) (lookup test (map named_size ss)))
    by true h rest = h
    by false h rest = rest

or_small : (a b : Option ℕ) → IsSmallSize a → IsSmallSize b → IsSmallSize (option_or a b)
or_small None b h k = k
or_small (Some n) b h k = h

default_small : (o : Option ℕ) → IsSmallDefault o → IsSmallSize o
default_small None h = tt
default_small (Some n) h = h

declared_small : (r : PlanRequest) → IsWithinLimits r → (fs : List (List ℕ)) (ss : List (Option ℕ)) → AllByRecursion IsSmallSize ss → AllByRecursion IsSmallSize (declared_sizes r fs ss)
declared_small r limits [] ss all = tt
declared_small r limits (f ∷ fs) [] all = tt
declared_small r limits (f ∷ fs) (s ∷ ss) all =
    (or_small _ (option_or s r.default_size) (found_small (bytes_eq f) r.sizes limits.sizes) (or_small s r.default_size all.0 (default_small r.default_size limits.default_size)), declared_small r limits fs ss all.1)

entry_small : (m f : List ℕ) (s : Option ℕ) → IsSmallSize s → AllByRecursion IsSmallEntry (stated_size m f s)
entry_small m f None h = tt
entry_small m f (Some n) h = (h, tt)

entries_small : (m : List ℕ) (fs : List (List ℕ)) (ss : List (Option ℕ)) → AllByRecursion IsSmallSize ss → AllByRecursion IsSmallEntry (stated_sizes m fs ss)
entries_small m [] ss all = tt
entries_small m (f ∷ fs) [] all = tt
entries_small m (f ∷ fs) (s ∷ ss) all = all_joined IsSmallEntry (stated_size m f s) (stated_sizes m fs ss) (entry_small m f s all.0) (entries_small m fs ss all.1)

sizes_small : (ms : List Member) → AllByRecursion IsMember ms → AllByRecursion IsSmallEntry (joint_sizes ms)
sizes_small [] all = tt
sizes_small (m ∷ ms) all =
    all_joined IsSmallEntry (sizes_of m) (joint_sizes ms)
    (entries_small m.name m.survey.workflow.files (declared_sizes m.request m.survey.workflow.files m.survey.workflow.sizes) (declared_small m.request all.0.limits m.survey.workflow.files m.survey.workflow.sizes all.0.well_formed.small_sizes))
    (sizes_small ms all.1)

pub joint_small : (ms : List Member) (r q : PlanRequest) → AreMembers ms → IsWithinLimits r → q.execute ≡ r.execute → q.sizes ≡ joint_sizes ms → q.default_size ≡ None → q.policy ≡ r.policy → q.rate ≡ 1 → q.runtimes ≡ [] → IsWithinLimits q
joint_small ms r q are limits same sizes none policy rate times = record {
  bounds = subst (λ (es : List Execution). AllByRecursion (λ (e : Execution). e.bound ≤ 2 ^ 60) es) (sym same) limits.bounds;
  sizes = subst (λ (ss : List SizeOf). AllByRecursion IsSmallEntry ss) (sym sizes) (sizes_small ms (each_member ms are));
  default_size = subst IsSmallDefault (sym none) tt;
  policy = subst IsPolicyInRange (sym policy) limits.policy;
  rate = omega (arith, rate);
  runtimes = subst (λ (ts : List Runtime). AllByRecursion IsRuntimeInRange ts) (sym times) tt;
}
