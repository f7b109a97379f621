-- The numbers of each member's files and jobs, and of those of the members after it, are within ranges of their own.
use Rattle.std.proofs.Common.{ℕ, ◌+◌, ◌<◌, ◌≤◌, List, [], ◌∷◌, map, arith}
use Rattle.std.specs.List.{AllByRecursion}
use Rattle.values.specs.declared.numbers.JobId.{JobId}
use Rattle.workflow_core.specs.declared.workflow.Job.{Job}
use Rattle.workflow_core.specs.code.WellFormed.{IsJobOver}
use Rattle.workflow_core.specs.WellFormed.{child_of, parent_of, inputs_of, outputs_of}
use Rattle.ensemble.specs.declared.member.Member.{Member}
use Rattle.ensemble.specs.Jobs.{job_of, pair_after}
use Rattle.ensemble.specs.Member.{IsMember, count_files, count_jobs, files_of, jobs_of}
use Rattle.ensemble.specs.Workflows.{joint_jobs, joint_pairs}
use Rattle.ensemble.proofs.DistinctLemmas.{all_joined, all_mapped, all_weaker}
use Rattle.ensemble.proofs.JobsLemmas.{AreWithin, IsPairBelow, made_within, read_within}
use Rattle.ensemble.proofs.ProducerLemmas.{MakeWithin}

-- ---- files that are made

pub own_within : (low k high : ℕ) (m : Member) → IsMember m → low ≤ k → k + files_of m ≤ high → MakeWithin low high (map (job_of m.name k) m.survey.workflow.jobs)
own_within low k high m is l h =
    all_mapped (λ (j : Job). AreWithin low high (outputs_of j)) (job_of m.name k) m.survey.workflow.jobs
    (all_weaker (IsJobOver (files_of m)) (λ (j : Job). AreWithin low high (outputs_of (job_of m.name k j))) m.survey.workflow.jobs (λ j over. made_within m.name k (files_of m) low high j l h over) is.well_formed.jobs)

pub rest_within : (low k high : ℕ) (ms : List Member) → AllByRecursion IsMember ms → low ≤ k → k + count_files ms ≤ high → MakeWithin low high (joint_jobs k ms)
rest_within low k high [] all l h = tt
rest_within low k high (m ∷ ms) all l h =
    all_joined (λ (j : Job). AreWithin low high (outputs_of j)) (map (job_of m.name k) m.survey.workflow.jobs) (joint_jobs (k + files_of m) ms)
    (own_within low k high m all.0 l (omega (arith, h)))
    (rest_within low (k + files_of m) high ms all.1 (omega (arith, l)) (omega (arith, h)))

-- ---- files that are read

abbrev pub ReadWithin : ℕ → ℕ → List Job → Type 0
ReadWithin low high js = AllByRecursion (λ (j : Job). AreWithin low high (inputs_of j)) js

pub own_reads : (low k high : ℕ) (m : Member) → IsMember m → low ≤ k → k + files_of m ≤ high → ReadWithin low high (map (job_of m.name k) m.survey.workflow.jobs)
own_reads low k high m is l h =
    all_mapped (λ (j : Job). AreWithin low high (inputs_of j)) (job_of m.name k) m.survey.workflow.jobs
    (all_weaker (IsJobOver (files_of m)) (λ (j : Job). AreWithin low high (inputs_of (job_of m.name k j))) m.survey.workflow.jobs (λ j over. read_within m.name k (files_of m) low high j l h over) is.well_formed.jobs)

pub rest_reads : (low k high : ℕ) (ms : List Member) → AllByRecursion IsMember ms → low ≤ k → k + count_files ms ≤ high → ReadWithin low high (joint_jobs k ms)
rest_reads low k high [] all l h = tt
rest_reads low k high (m ∷ ms) all l h =
    all_joined (λ (j : Job). AreWithin low high (inputs_of j)) (map (job_of m.name k) m.survey.workflow.jobs) (joint_jobs (k + files_of m) ms)
    (own_reads low k high m all.0 l (omega (arith, h)))
    (rest_reads low (k + files_of m) high ms all.1 (omega (arith, l)) (omega (arith, h)))

-- ---- pairs

abbrev pub IsPairWithin : ℕ → ℕ → JobId × JobId → Type 0
IsPairWithin low high p = ((low ≤ parent_of p) × (parent_of p < high)) × ((low ≤ child_of p) × (child_of p < high))

pair_after_within : (q n low high : ℕ) (p : JobId × JobId) → low ≤ q → q + n ≤ high → IsPairBelow n p → IsPairWithin low high (pair_after q p)
pair_after_within q n low high p l h low_pair =
    let one : parent_of p < n = low_pair.0 in
    let two : child_of p < n = low_pair.1 in
    ((omega (arith, l), omega (arith, one, h)), (omega (arith, l), omega (arith, two, h)))

pub own_pairs : (low q high : ℕ) (m : Member) → IsMember m → low ≤ q → q + jobs_of m ≤ high → AllByRecursion (IsPairWithin low high) (map (pair_after q) m.survey.workflow.pairs)
own_pairs low q high m is l h =
    all_mapped (IsPairWithin low high) (pair_after q) m.survey.workflow.pairs
    (all_weaker (IsPairBelow (jobs_of m)) (λ (p : JobId × JobId). IsPairWithin low high (pair_after q p)) m.survey.workflow.pairs (λ p below. pair_after_within q (jobs_of m) low high p l h below) is.well_formed.pairs)

pub rest_pairs : (low q high : ℕ) (ms : List Member) → AllByRecursion IsMember ms → low ≤ q → q + count_jobs ms ≤ high → AllByRecursion (IsPairWithin low high) (joint_pairs q ms)
rest_pairs low q high [] all l h = tt
rest_pairs low q high (m ∷ ms) all l h =
    all_joined (IsPairWithin low high) (map (pair_after q) m.survey.workflow.pairs) (joint_pairs (q + jobs_of m) ms)
    (own_pairs low q high m all.0 l (omega (arith, h)))
    (rest_pairs low (q + jobs_of m) high ms all.1 (omega (arith, l)) (omega (arith, h)))
