-- Jobs with later numbers: what they read and make, and what a workflow asks of them.
use Rattle.std.proofs.Common.{◌≡◌, ℕ, ◌+◌, ◌<◌, ◌≤◌, Bool, true, false, ◌&&◌, ◌||◌, List, [], ◌∷◌, map, refl, sym, ap, subst, ◌∙◌, nat_eq, arith, ◌⊎◌, inl, inr}
use Rattle.std.specs.Prelude.{◌^◌}
use Rattle.std.specs.List.{AllByRecursion, list_any}
use Rattle.std.proofs.lemmas.Bool.{and_right, or_parts}
use Rattle.std.proofs.lemmas.List.Elements.{All-from_recursion}
use Rattle.values.specs.declared.numbers.FileId.{FileId}
use Rattle.values.specs.declared.numbers.JobId.{JobId}
use Rattle.workflow_core.specs.declared.workflow.Job.{Job}
use Rattle.workflow_core.specs.declared.workflow.Output.{Output}
use Rattle.workflow_core.specs.Requested.{requests}
use Rattle.workflow_core.specs.code.WellFormed.{IsJobOver, are_distinct}
use Rattle.workflow_core.specs.WellFormed.{child_of as after, parent_of as before, inputs_of, outputs_of}
use Rattle.dependency_graph.specs.Edges.{has_output, is_among}
use Rattle.ensemble.specs.Jobs.{FitsAfter, PairFitsAfter, file_after, job_of, output_after, pair_after}
use Rattle.ensemble.proofs.DistinctLemmas.{all_mapped, all_unmapped, all_weaker, any_mapped, distinct_mapped}

pub same_after : (k a b : ℕ) → nat_eq (k + a) (k + b) ≡ nat_eq a b
same_after k a b = grind arith

files_after : (k : ℕ) (fs : List FileId) → map (λ (f : FileId). f.0) (map (file_after k) fs) ≡ map (λ n. k + n) (map (λ (f : FileId). f.0) fs)
files_after k [] = refl
files_after k (f ∷ fs) = ap (λ (ns : List ℕ). (k + f.0) ∷ ns) (files_after k fs)

made_after : (k : ℕ) (os : List Output) → map (λ (o : Output). o.file.0) (map (output_after k) os) ≡ map (λ n. k + n) (map (λ (o : Output). o.file.0) os)
made_after k [] = refl
made_after k (o ∷ os) = ap (λ (ns : List ℕ). (k + o.file.0) ∷ ns) (made_after k os)

pub inputs_after : (m : List ℕ) (k : ℕ) (j : Job) → inputs_of (job_of m k j) ≡ map (λ n. k + n) (inputs_of j)
inputs_after m k j = files_after k j.inputs

pub outputs_after : (m : List ℕ) (k : ℕ) (j : Job) → outputs_of (job_of m k j) ≡ map (λ n. k + n) (outputs_of j)
outputs_after m k j = made_after k j.outputs

-- ---- among more files

below_after : (k n most : ℕ) → k + n ≤ most → (fs : List ℕ) → AllByRecursion (λ f. f < n) fs → AllByRecursion (λ f. f < most) (map (λ f. k + f) fs)
below_after k n most h fs all = all_mapped (λ f. f < most) (λ f. k + f) fs (all_weaker (λ f. f < n) (λ f. k + f < most) fs (λ f l. omega (arith, l, h)) all)

once_after : (k : ℕ) (fs : List ℕ) → are_distinct nat_eq fs ≡ true → are_distinct nat_eq (map (λ f. k + f) fs) ≡ true
once_after k fs h = distinct_mapped nat_eq nat_eq (λ f. k + f) (same_after k) fs ∙ h

pub job_over_after : (m : List ℕ) (k n most : ℕ) (j : Job) → k + n ≤ most → IsJobOver n j → IsJobOver most (job_of m k j)
job_over_after m k n most j h over = record {
  inputs = subst (λ (fs : List ℕ). AllByRecursion (λ f. f < most) fs) (sym (inputs_after m k j)) (below_after k n most h (inputs_of j) over.inputs);
  outputs = subst (λ (fs : List ℕ). AllByRecursion (λ f. f < most) fs) (sym (outputs_after m k j)) (below_after k n most h (outputs_of j) over.outputs);
  inputs_once = ap (are_distinct nat_eq) (inputs_after m k j) ∙ once_after k (inputs_of j) over.inputs_once;
  outputs_once = ap (are_distinct nat_eq) (outputs_after m k j) ∙ once_after k (outputs_of j) over.outputs_once;
}

abbrev pub IsPairBelow : ℕ → JobId × JobId → Type 0
IsPairBelow n p = (before p < n) × (after p < n)

pub pair_below_after : (k n most : ℕ) (p : JobId × JobId) → k + n ≤ most → IsPairBelow n p → IsPairBelow most (pair_after k p)
pair_below_after k n most p h low = let one : before p < n = low.0 in let two : after p < n = low.1 in (omega (arith, one, h), omega (arith, two, h))

-- ---- the later numbers are numbers of 32 bits

pub fits_after : (k n : ℕ) (j : Job) → k + n ≤ 50000 → IsJobOver n j → FitsAfter k j
fits_after k n j h over = record {
  inputs = All-from_recursion _ j.inputs (all_weaker (λ (f : FileId). f.0 < n) (λ (f : FileId). k + f.0 < 2 ^ 32) j.inputs (λ f l. omega (arith, l, h)) (all_unmapped (λ f. f < n) (λ (f : FileId). f.0) j.inputs over.inputs));
  outputs = All-from_recursion _ j.outputs (all_weaker (λ (o : Output). o.file.0 < n) (λ (o : Output). k + o.file.0 < 2 ^ 32) j.outputs (λ o l. omega (arith, l, h)) (all_unmapped (λ f. f < n) (λ (o : Output). o.file.0) j.outputs over.outputs));
}

pub pair_fits_after : (k n : ℕ) (p : JobId × JobId) → k + n ≤ 10000 → IsPairBelow n p → PairFitsAfter k p
pair_fits_after k n p h low = let one : before p < n = low.0 in let two : after p < n = low.1 in record { before = omega (arith, one, h); after = omega (arith, two, h) }

-- ---- which files they make

pub among_after : (k f : ℕ) (fs : List ℕ) → is_among (k + f) (map (λ n. k + n) fs) ≡ is_among f fs
among_after k f fs = any_mapped (λ n. nat_eq n (k + f)) (λ n. nat_eq n f) (λ n. k + n) (λ n. same_after k n f) fs

pub makes_after : (m : List ℕ) (k f : ℕ) (j : Job) → has_output (k + f) (job_of m k j) ≡ has_output f j
makes_after m k f j = ap (is_among (k + f)) (outputs_after m k j) ∙ among_after k f (outputs_of j)

-- numbers from one on and below another
abbrev pub AreWithin : ℕ → ℕ → List ℕ → Type 0
AreWithin low high fs = AllByRecursion (λ f. (low ≤ f) × (f < high)) fs

other_number : (a b : ℕ) → (a < b) ⊎ (b < a) → nat_eq a b ≡ false
other_number a b (inl h) = grind arith
other_number a b (inr h) = grind arith

-- a number that isn't within the bounds is none of them
pub not_among : (low high f : ℕ) (fs : List ℕ) → AreWithin low high fs → (f < low) ⊎ (high ≤ f) → is_among f fs ≡ false
not_among low high f [] all out = refl
not_among low high f (n ∷ fs) all out = ap (λ (t : Bool). t || is_among f fs) (other_number n f (by out)) ∙ not_among low high f fs all.1 out
  where
    from : low ≤ n
    from = all.0.0

    to : n < high
    to = all.0.1

    by : (f < low) ⊎ (high ≤ f) → (n < f) ⊎ (f < n)
    by (inl h) = inr (omega (arith, from, h))
    by (inr h) = inl (omega (arith, to, h))

pub within_after : (k n low high : ℕ) (fs : List ℕ) → low ≤ k → k + n ≤ high → AllByRecursion (λ f. f < n) fs → AreWithin low high (map (λ f. k + f) fs)
within_after k n low high fs l h all = all_mapped (λ f. (low ≤ f) × (f < high)) (λ f. k + f) fs (all_weaker (λ f. f < n) (λ f. (low ≤ k + f) × (k + f < high)) fs (λ f i. (omega (arith, l), omega (arith, i, h))) all)

pub made_within : (m : List ℕ) (k n low high : ℕ) (j : Job) → low ≤ k → k + n ≤ high → IsJobOver n j → AreWithin low high (outputs_of (job_of m k j))
made_within m k n low high j l h over = subst (λ (fs : List ℕ). AreWithin low high fs) (sym (outputs_after m k j)) (within_after k n low high (outputs_of j) l h over.outputs)

pub read_within : (m : List ℕ) (k n low high : ℕ) (j : Job) → low ≤ k → k + n ≤ high → IsJobOver n j → AreWithin low high (inputs_of (job_of m k j))
read_within m k n low high j l h over = subst (λ (fs : List ℕ). AreWithin low high fs) (sym (inputs_after m k j)) (within_after k n low high (inputs_of j) l h over.inputs)

-- ---- which files they are asked for

pub requests_after : (m : List ℕ) (k f : ℕ) (j : Job) → requests (k + f) (job_of m k j) ≡ requests f j
requests_after m k f j = any_mapped (λ (o : Output). o.stage_out && nat_eq o.file.0 (k + f)) (λ (o : Output). o.stage_out && nat_eq o.file.0 f) (output_after k) (λ o. ap (λ (t : Bool). o.stage_out && t) (same_after k o.file.0 f)) j.outputs

-- what isn't made isn't asked for
pub not_requested : (f : ℕ) (j : Job) → has_output f j ≡ false → requests f j ≡ false
not_requested f j h = by j.outputs h
  where
    by : (os : List Output) → is_among f (map (λ (o : Output). o.file.0) os) ≡ false → list_any (λ (o : Output). o.stage_out && nat_eq o.file.0 f) os ≡ false
    by [] e = refl
    by (o ∷ os) e =
        let parts = or_parts (nat_eq o.file.0 f) (is_among f (map (λ (p : Output). p.file.0) os)) e in
        ap (λ (t : Bool). t || list_any (λ (p : Output). p.stage_out && nat_eq p.file.0 f) os) (and_right o.stage_out (nat_eq o.file.0 f) parts.0) ∙ by os parts.1
