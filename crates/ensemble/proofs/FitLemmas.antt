-- The numbers of a member's files and jobs fit behind those of the members before it.
use Rattle.std.proofs.Common.{◌≡◌, ℕ, zero, suc, ◌+◌, ◌<◌, ◌≤◌, List, [], ◌∷◌, length, drop, get_or, sym, arith}
use Rattle.std.specs.List.{All}
use Rattle.std.proofs.lemmas.List.Elements.{All-from_recursion}
use Rattle.workflow_core.specs.code.WellFormed.{IsJobOver}
use Rattle.ensemble.specs.declared.member.Member.{Member}
use Rattle.ensemble.specs.Jobs.{FitsAfter, PairFitsAfter}
use Rattle.ensemble.specs.Member.{IsMember, count_files, count_jobs, files_of, jobs_of}
use Rattle.ensemble.proofs.DistinctLemmas.{all_weaker}
use Rattle.ensemble.proofs.JobsLemmas.{IsPairBelow, fits_after, pair_fits_after}

pub jobs_fit : (k : ℕ) (m : Member) → IsMember m → k + files_of m ≤ 50000 → All (FitsAfter k) m.survey.workflow.jobs
jobs_fit k m is h = All-from_recursion (FitsAfter k) m.survey.workflow.jobs (all_weaker (IsJobOver (files_of m)) (FitsAfter k) m.survey.workflow.jobs (λ j over. fits_after k (files_of m) j h over) is.well_formed.jobs)

pub pairs_fit : (k : ℕ) (m : Member) → IsMember m → k + jobs_of m ≤ 10000 → All (PairFitsAfter k) m.survey.workflow.pairs
pairs_fit k m is h = All-from_recursion (PairFitsAfter k) m.survey.workflow.pairs (all_weaker (IsPairBelow (jobs_of m)) (PairFitsAfter k) m.survey.workflow.pairs (λ p low. pair_fits_after k (jobs_of m) p h low) is.well_formed.pairs)

pub one_size_each : (m : Member) → IsMember m → length m.survey.workflow.files ≡ length m.survey.workflow.sizes
one_size_each m is = sym is.well_formed.sizes

-- the files of a member are among those of the members from there on
pub files_at_most : (ms : List Member) (i : ℕ) (d : Member) → i < length ms → files_of (get_or ms i d) ≤ count_files (drop i ms)
files_at_most [] i d h = absurd (omega arith)
files_at_most (m ∷ ms) zero d h = omega arith
files_at_most (m ∷ ms) (suc i) d h = files_at_most ms i d (omega arith)

-- and its jobs
pub jobs_at_most : (ms : List Member) (i : ℕ) (d : Member) → i < length ms → jobs_of (get_or ms i d) ≤ count_jobs (drop i ms)
jobs_at_most [] i d h = absurd (omega arith)
jobs_at_most (m ∷ ms) zero d h = omega arith
jobs_at_most (m ∷ ms) (suc i) d h = jobs_at_most ms i d (omega arith)
