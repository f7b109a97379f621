-- The joint workflow is sound where each member's is: an edge never leads from one member to another.
use Rattle.std.proofs.Common.{◌≡◌, ℕ, zero, suc, ◌+◌, ◌-◌, ◌<◌, ◌≤◌, Bool, true, false, cond, ◌&&◌, ◌||◌, List, [], ◌∷◌, ◌++◌, length, map, get_or, refl, sym, ap, subst, ◌∙◌, nat_eq, ◌⊎◌, inl, inr, arith}
use Rattle.std.specs.Prelude.{Err}
use Rattle.std.specs.List.{AllByRecursion, list_any}
use Rattle.std.proofs.Math.Bool.{or-false}
use Rattle.std.proofs.Math.ListN.{get_or-append}
use Rattle.std.proofs.Math.Path.{fun_ext}
use Rattle.std.proofs.lemmas.Bool.{and_left, and_right, cases_lt}
use Rattle.std.proofs.lemmas.List.{get_or-append-add, length-map, map-append}
use Rattle.std.proofs.lemmas.List.Folds.{list_any-append}
use Rattle.values.specs.declared.numbers.JobId.{JobId}
use Rattle.workflow_core.specs.declared.workflow.Job.{Job}
use Rattle.workflow_core.specs.declared.workflow.Workflow.{Workflow}
use Rattle.workflow_core.specs.WellFormed.{child_of, parent_of, inputs_of, outputs_of}
use Rattle.digraph.specs.Cycle.{Returns}
use Rattle.digraph.specs.Distances.{Walk}
use Rattle.dependency_graph.specs.code.Built.{AreCycle, AreTwoProducers, Builds}
use Rattle.dependency_graph.specs.declared.fault.GraphFault.{GraphFault}
use Rattle.dependency_graph.specs.declared.fault.GraphFault.TheVariants as graph
use Rattle.dependency_graph.specs.Edges.{edge, has_output, is_among, is_paired, makers, makers_from}
use Rattle.dependency_graph.specs.Graph.{IsSound}
use Rattle.ensemble.specs.declared.member.Member.{Member}
use Rattle.ensemble.specs.Jobs.{job_of, pair_after}
use Rattle.ensemble.specs.Member.{AreMembers, IsMember, count_files, count_jobs, files_of, jobs_of}
use Rattle.ensemble.specs.Workflows.{IsJointWorkflow, joint_jobs, joint_pairs}
use Rattle.ensemble.proofs.DistinctLemmas.{any_mapped}
use Rattle.ensemble.proofs.JobsLemmas.{AreWithin, among_after, inputs_after, makes_after, not_among, outputs_after, same_after}
use Rattle.ensemble.proofs.MembersLemmas.{each_member}
use Rattle.ensemble.proofs.ProducerLemmas.{MakeWithin}
use Rattle.ensemble.proofs.WithinLemmas.{IsPairWithin, own_pairs, own_reads, own_within, rest_pairs, rest_reads, rest_within}

-- ---- one producer at most

-- how many of the jobs make a file
abbrev times : ℕ → List Job → ℕ
times f [] = 0
times f (j ∷ js) = cond (has_output f j) 1 0 + times f js

makers_counted : (f i : ℕ) (js : List Job) → length (makers_from f i js) ≡ times f js
makers_counted f i [] = refl
makers_counted f i (j ∷ js) = by (has_output f j) (makers_counted f (suc i) js)
  where
    by : (t : Bool) → length (makers_from f (suc i) js) ≡ times f js → length (cond t (i ∷ makers_from f (suc i) js) (makers_from f (suc i) js)) ≡ cond t 1 0 + times f js
    by true h = omega (arith, h)
    by false h = omega (arith, h)

times_joined : (f : ℕ) (xs ys : List Job) → times f (xs ++ ys) ≡ times f xs + times f ys
times_joined f [] ys = omega arith
times_joined f (x ∷ xs) ys = let rest = times_joined f xs ys in omega (arith, rest)

times_after : (m : List ℕ) (k f : ℕ) (js : List Job) → times (k + f) (map (job_of m k) js) ≡ times f js
times_after m k f [] = refl
times_after m k f (j ∷ js) =
    ap (λ (t : Bool). cond t 1 0 + times (k + f) (map (job_of m k) js)) (makes_after m k f j)
    ∙ ap (λ (n : ℕ). cond (has_output f j) 1 0 + n) (times_after m k f js)

times_none : (low high f : ℕ) (js : List Job) → MakeWithin low high js → (f < low) ⊎ (high ≤ f) → times f js ≡ 0
times_none low high f [] all out = refl
times_none low high f (j ∷ js) all out =
    ap (λ (t : Bool). cond t 1 0 + times f js) (not_among low high f (outputs_of j) all.0 out)
    ∙ (let rest = times_none low high f js all.1 out in omega (arith, rest))

own_once : (m : Member) → IsMember m → (f : ℕ) → f < files_of m → times f m.survey.workflow.jobs ≤ 1
unfolding makers
own_once m is f h = let most = is.graph.sound.one_producer f h in let same = makers_counted f 0 m.survey.workflow.jobs in omega (arith, most, same)

once_made : (k : ℕ) (ms : List Member) → AllByRecursion IsMember ms → (f : ℕ) → times f (joint_jobs k ms) ≤ 1
once_made k [] all f = omega arith
once_made k (m ∷ ms) all f = by (cases_lt f (k + files_of m)) (cases_lt f k) (once_made (k + files_of m) ms all.1 f)
  where
    both : times f (joint_jobs k (m ∷ ms)) ≡ times f (map (job_of m.name k) m.survey.workflow.jobs) + times f (joint_jobs (k + files_of m) ms)
    both = times_joined f (map (job_of m.name k) m.survey.workflow.jobs) (joint_jobs (k + files_of m) ms)

    by : (f < k + files_of m) ⊎ (k + files_of m ≤ f) → (f < k) ⊎ (k ≤ f) → times f (joint_jobs (k + files_of m) ms) ≤ 1 → times f (joint_jobs k (m ∷ ms)) ≤ 1
    by (inr late) low rest =
        let none = times_none k (k + files_of m) f (map (job_of m.name k) m.survey.workflow.jobs) (own_within k k (k + files_of m) m all.0 (omega arith) (omega arith)) (inr late) in
        omega (arith, both, none, rest)
    by (inl early) (inl low) rest =
        let none = times_none k (k + files_of m) f (map (job_of m.name k) m.survey.workflow.jobs) (own_within k k (k + files_of m) m all.0 (omega arith) (omega arith)) (inl low) in
        omega (arith, both, none, rest)
    by (inl early) (inr high) rest =
        let none = times_none (k + files_of m) (k + files_of m + count_files ms) f (joint_jobs (k + files_of m) ms) (rest_within (k + files_of m) (k + files_of m) (k + files_of m + count_files ms) ms all.1 (omega arith) (omega arith)) (inl early) in
        let here : f ≡ k + (f - k) = omega (arith, high) in
        let own : times f (map (job_of m.name k) m.survey.workflow.jobs) ≡ times (f - k) m.survey.workflow.jobs = ap (λ (n : ℕ). times n (map (job_of m.name k) m.survey.workflow.jobs)) here ∙ times_after m.name k (f - k) m.survey.workflow.jobs in
        let once = own_once m all.0 (f - k) (omega (arith, early, high)) in
        omega (arith, both, none, own, once)

-- ---- edges

-- an edge among jobs, by their places and by pairs whose numbers begin behind those of so many jobs
abbrev passes_in : List Job → ℕ → ℕ → Bool
passes_in js a b = list_any (λ f. is_among f (get_or (map outputs_of js) a [])) (get_or (map inputs_of js) b [])

abbrev pairs_in : List (JobId × JobId) → ℕ → ℕ → Bool
pairs_in ps a b = list_any (λ (p : JobId × JobId). nat_eq (parent_of p) a && nat_eq (child_of p) b) ps

abbrev edge_in : ℕ → List Job → List (JobId × JobId) → ℕ → ℕ → Bool
edge_in q js ps a b = passes_in js a b || pairs_in ps (q + a) (q + b)

list_first : (g : Job → List ℕ) (xs ys : List Job) (a : ℕ) → a < length xs → get_or (map g (xs ++ ys)) a [] ≡ get_or (map g xs) a []
list_first g xs ys a h =
    let long = length-map xs g in
    ap (λ (ls : List (List ℕ)). get_or ls a []) (map-append g xs ys) ∙ get_or-append (map g xs) (map g ys) [] a (omega (arith, h, long))

list_rest : (g : Job → List ℕ) (xs ys : List Job) (n a : ℕ) → n ≡ length xs → get_or (map g (xs ++ ys)) (n + a) [] ≡ get_or (map g ys) a []
list_rest g xs ys n a h =
    let long : n ≡ length (map g xs) = h ∙ sym (length-map xs g) in
    ap (λ (ls : List (List ℕ)). get_or ls (n + a) []) (map-append g xs ys)
    ∙ ap (λ (t : ℕ). get_or (map g xs ++ map g ys) (t + a) []) long
    ∙ get_or-append-add (map g xs) (map g ys) a []

own_outputs : (m : List ℕ) (k : ℕ) (js : List Job) (a : ℕ) → get_or (map outputs_of (map (job_of m k) js)) a [] ≡ map (λ n. k + n) (get_or (map outputs_of js) a [])
own_outputs m k [] a = refl
own_outputs m k (j ∷ js) zero = outputs_after m k j
own_outputs m k (j ∷ js) (suc a) = own_outputs m k js a

own_inputs : (m : List ℕ) (k : ℕ) (js : List Job) (a : ℕ) → get_or (map inputs_of (map (job_of m k) js)) a [] ≡ map (λ n. k + n) (get_or (map inputs_of js) a [])
own_inputs m k [] a = refl
own_inputs m k (j ∷ js) zero = inputs_after m k j
own_inputs m k (j ∷ js) (suc a) = own_inputs m k js a

-- ---- what never meets

list_within : (g : Job → List ℕ) (low high : ℕ) (js : List Job) → AllByRecursion (λ (j : Job). AreWithin low high (g j)) js → (a : ℕ) → AreWithin low high (get_or (map g js) a [])
list_within g low high [] all a = tt
list_within g low high (j ∷ js) all zero = all.0
list_within g low high (j ∷ js) all (suc a) = list_within g low high js all.1 a

-- files of two ranges are never the same
nothing_passes : (low high from to : ℕ) (os is : List ℕ) → AreWithin low high os → AreWithin from to is → (high ≤ from) ⊎ (to ≤ low) → list_any (λ f. is_among f os) is ≡ false
nothing_passes low high from to os [] made read apart = refl
nothing_passes low high from to os (f ∷ is) made read apart =
    ap (λ (t : Bool). t || list_any (λ g. is_among g os) is) (not_among low high f os made (by apart)) ∙ nothing_passes low high from to os is made read.1 apart
  where
    at_least : from ≤ f
    at_least = read.0.0

    below : f < to
    below = read.0.1

    by : (high ≤ from) ⊎ (to ≤ low) → (f < low) ⊎ (high ≤ f)
    by (inl h) = inr (omega (arith, at_least, h))
    by (inr h) = inl (omega (arith, below, h))

abbrev IsOutside : ℕ → ℕ → ℕ → Type 0
IsOutside low high n = (n < low) ⊎ (high ≤ n)

other : (low high n x : ℕ) → (low ≤ n) × (n < high) → IsOutside low high x → nat_eq n x ≡ false
other low high n x h (inl out) = let l : low ≤ n = h.0 in grind arith
other low high n x h (inr out) = let l : n < high = h.1 in grind arith

no_pair : (low high a b : ℕ) (ps : List (JobId × JobId)) → AllByRecursion (IsPairWithin low high) ps → IsOutside low high a ⊎ IsOutside low high b → pairs_in ps a b ≡ false
no_pair low high a b [] all out = refl
no_pair low high a b (p ∷ ps) all out = ap (λ (t : Bool). t || pairs_in ps a b) (by out) ∙ no_pair low high a b ps all.1 out
  where
    by : IsOutside low high a ⊎ IsOutside low high b → (nat_eq (parent_of p) a && nat_eq (child_of p) b) ≡ false
    by (inl h) = and_left (nat_eq (parent_of p) a) (nat_eq (child_of p) b) (other low high (parent_of p) a all.0.0 h)
    by (inr h) = and_right (nat_eq (parent_of p) a) (nat_eq (child_of p) b) (other low high (child_of p) b all.0.1 h)

pairs_after : (q a b : ℕ) (ps : List (JobId × JobId)) → pairs_in (map (pair_after q) ps) (q + a) (q + b) ≡ pairs_in ps a b
pairs_after q a b ps =
    any_mapped (λ (p : JobId × JobId). nat_eq (parent_of p) (q + a) && nat_eq (child_of p) (q + b)) (λ (p : JobId × JobId). nat_eq (parent_of p) a && nat_eq (child_of p) b) (pair_after q)
    (λ p. ap (λ (t : Bool). t && nat_eq (q + child_of p) (q + b)) (same_after q (parent_of p) a) ∙ ap (λ (t : Bool). nat_eq (parent_of p) a && t) (same_after q (child_of p) b)) ps

-- ---- edges of the first member, and of those after it

abbrev joint_edge : ℕ → ℕ → List Member → ℕ → ℕ → Bool
joint_edge k q ms = edge_in q (joint_jobs k ms) (joint_pairs q ms)

or_both : (a b c d : Bool) → a ≡ c → b ≡ d → (a || b) ≡ (c || d)
or_both a b c d e f = ap (λ (t : Bool). t || b) e ∙ ap (λ (t : Bool). c || t) f

among_first : (k q : ℕ) (m : Member) (ms : List Member) → AllByRecursion IsMember (m ∷ ms) → (a b : ℕ) → a < jobs_of m → b < jobs_of m → joint_edge k q (m ∷ ms) a b ≡ edge m.survey.workflow a b
unfolding edge
among_first k q m ms all a b ha hb = or_both _ _ _ _ passes pairs
  where
    long : length (map (job_of m.name k) m.survey.workflow.jobs) ≡ jobs_of m
    long = length-map m.survey.workflow.jobs (job_of m.name k)

    passes : passes_in (joint_jobs k (m ∷ ms)) a b ≡ passes_in m.survey.workflow.jobs a b
    passes =
        ap (λ (os : List ℕ). list_any (λ f. is_among f os) (get_or (map inputs_of (joint_jobs k (m ∷ ms))) b [])) (list_first outputs_of (map (job_of m.name k) m.survey.workflow.jobs) (joint_jobs (k + files_of m) ms) a (omega (arith, ha, long)) ∙ own_outputs m.name k m.survey.workflow.jobs a)
        ∙ ap (λ (is : List ℕ). list_any (λ f. is_among f (map (λ n. k + n) (get_or (map outputs_of m.survey.workflow.jobs) a []))) is) (list_first inputs_of (map (job_of m.name k) m.survey.workflow.jobs) (joint_jobs (k + files_of m) ms) b (omega (arith, hb, long)) ∙ own_inputs m.name k m.survey.workflow.jobs b)
        ∙ any_mapped (λ f. is_among f (map (λ n. k + n) (get_or (map outputs_of m.survey.workflow.jobs) a []))) (λ f. is_among f (get_or (map outputs_of m.survey.workflow.jobs) a [])) (λ n. k + n) (λ f. among_after k f (get_or (map outputs_of m.survey.workflow.jobs) a [])) (get_or (map inputs_of m.survey.workflow.jobs) b [])

    pairs : pairs_in (joint_pairs q (m ∷ ms)) (q + a) (q + b) ≡ is_paired m.survey.workflow a b
    pairs =
        list_any-append (λ (p : JobId × JobId). nat_eq (parent_of p) (q + a) && nat_eq (child_of p) (q + b)) (map (pair_after q) m.survey.workflow.pairs) (joint_pairs (q + jobs_of m) ms)
        ∙ ap (λ (t : Bool). t || pairs_in (joint_pairs (q + jobs_of m) ms) (q + a) (q + b)) (pairs_after q a b m.survey.workflow.pairs)
        ∙ ap (λ (t : Bool). pairs_in m.survey.workflow.pairs a b || t) (no_pair (q + jobs_of m) (q + jobs_of m + count_jobs ms) (q + a) (q + b) (joint_pairs (q + jobs_of m) ms) (rest_pairs (q + jobs_of m) (q + jobs_of m) (q + jobs_of m + count_jobs ms) ms all.1 (omega arith) (omega arith)) (inl (inl (omega (arith, ha)))))
        ∙ or-false (pairs_in m.survey.workflow.pairs a b)

-- pairs never lead from the first member to others, nor back
pairs_apart : (k q : ℕ) (m : Member) (ms : List Member) → AllByRecursion IsMember (m ∷ ms) → (a b : ℕ) → ((a < jobs_of m) × (jobs_of m ≤ b)) ⊎ ((jobs_of m ≤ a) × (b < jobs_of m)) → pairs_in (joint_pairs q (m ∷ ms)) (q + a) (q + b) ≡ false
pairs_apart k q m ms all a b way =
    list_any-append (λ (p : JobId × JobId). nat_eq (parent_of p) (q + a) && nat_eq (child_of p) (q + b)) (map (pair_after q) m.survey.workflow.pairs) (joint_pairs (q + jobs_of m) ms)
    ∙ or_both _ _ false false
    (no_pair q (q + jobs_of m) (q + a) (q + b) (map (pair_after q) m.survey.workflow.pairs) (own_pairs q q (q + jobs_of m) m all.0 (omega arith) (omega arith)) (late way))
    (no_pair (q + jobs_of m) (q + jobs_of m + count_jobs ms) (q + a) (q + b) (joint_pairs (q + jobs_of m) ms) (rest_pairs (q + jobs_of m) (q + jobs_of m) (q + jobs_of m + count_jobs ms) ms all.1 (omega arith) (omega arith)) (early way))
  where
    late : ((a < jobs_of m) × (jobs_of m ≤ b)) ⊎ ((jobs_of m ≤ a) × (b < jobs_of m)) → IsOutside q (q + jobs_of m) (q + a) ⊎ IsOutside q (q + jobs_of m) (q + b)
    late (inl h) = let l : jobs_of m ≤ b = h.1 in inr (inr (omega (arith, l)))
    late (inr h) = let l : jobs_of m ≤ a = h.0 in inl (inr (omega (arith, l)))

    early : ((a < jobs_of m) × (jobs_of m ≤ b)) ⊎ ((jobs_of m ≤ a) × (b < jobs_of m)) → IsOutside (q + jobs_of m) (q + jobs_of m + count_jobs ms) (q + a) ⊎ IsOutside (q + jobs_of m) (q + jobs_of m + count_jobs ms) (q + b)
    early (inl h) = let l : a < jobs_of m = h.0 in inl (inl (omega (arith, l)))
    early (inr h) = let l : b < jobs_of m = h.1 in inr (inl (omega (arith, l)))

first_to_rest : (k q : ℕ) (m : Member) (ms : List Member) → AllByRecursion IsMember (m ∷ ms) → (a b : ℕ) → a < jobs_of m → jobs_of m ≤ b → joint_edge k q (m ∷ ms) a b ≡ false
first_to_rest k q m ms all a b ha hb = or_both _ _ false false passes (pairs_apart k q m ms all a b (inl (ha, hb)))
  where
    long : length (map (job_of m.name k) m.survey.workflow.jobs) ≡ jobs_of m
    long = length-map m.survey.workflow.jobs (job_of m.name k)

    place : b ≡ jobs_of m + (b - jobs_of m)
    place = omega (arith, hb)

    passes : passes_in (joint_jobs k (m ∷ ms)) a b ≡ false
    passes =
        ap (λ (os : List ℕ). list_any (λ f. is_among f os) (get_or (map inputs_of (joint_jobs k (m ∷ ms))) b [])) (list_first outputs_of (map (job_of m.name k) m.survey.workflow.jobs) (joint_jobs (k + files_of m) ms) a (omega (arith, ha, long)))
        ∙ ap (λ (is : List ℕ). list_any (λ f. is_among f (get_or (map outputs_of (map (job_of m.name k) m.survey.workflow.jobs)) a [])) is) (ap (λ (n : ℕ). get_or (map inputs_of (joint_jobs k (m ∷ ms))) n []) place ∙ list_rest inputs_of (map (job_of m.name k) m.survey.workflow.jobs) (joint_jobs (k + files_of m) ms) (jobs_of m) (b - jobs_of m) (sym long))
        ∙ nothing_passes k (k + files_of m) (k + files_of m) (k + files_of m + count_files ms) (get_or (map outputs_of (map (job_of m.name k) m.survey.workflow.jobs)) a []) (get_or (map inputs_of (joint_jobs (k + files_of m) ms)) (b - jobs_of m) [])
        (list_within outputs_of k (k + files_of m) (map (job_of m.name k) m.survey.workflow.jobs) (own_within k k (k + files_of m) m all.0 (omega arith) (omega arith)) a)
        (list_within inputs_of (k + files_of m) (k + files_of m + count_files ms) (joint_jobs (k + files_of m) ms) (rest_reads (k + files_of m) (k + files_of m) (k + files_of m + count_files ms) ms all.1 (omega arith) (omega arith)) (b - jobs_of m))
        (inl (omega arith))

rest_to_first : (k q : ℕ) (m : Member) (ms : List Member) → AllByRecursion IsMember (m ∷ ms) → (a b : ℕ) → b < jobs_of m → joint_edge k q (m ∷ ms) (jobs_of m + a) b ≡ false
rest_to_first k q m ms all a b hb = or_both _ _ false false passes (pairs_apart k q m ms all (jobs_of m + a) b (inr (omega arith, hb)))
  where
    long : length (map (job_of m.name k) m.survey.workflow.jobs) ≡ jobs_of m
    long = length-map m.survey.workflow.jobs (job_of m.name k)

    passes : passes_in (joint_jobs k (m ∷ ms)) (jobs_of m + a) b ≡ false
    passes =
        ap (λ (os : List ℕ). list_any (λ f. is_among f os) (get_or (map inputs_of (joint_jobs k (m ∷ ms))) b [])) (list_rest outputs_of (map (job_of m.name k) m.survey.workflow.jobs) (joint_jobs (k + files_of m) ms) (jobs_of m) a (sym long))
        ∙ ap (λ (is : List ℕ). list_any (λ f. is_among f (get_or (map outputs_of (joint_jobs (k + files_of m) ms)) a [])) is) (list_first inputs_of (map (job_of m.name k) m.survey.workflow.jobs) (joint_jobs (k + files_of m) ms) b (omega (arith, hb, long)))
        ∙ nothing_passes (k + files_of m) (k + files_of m + count_files ms) k (k + files_of m) (get_or (map outputs_of (joint_jobs (k + files_of m) ms)) a []) (get_or (map inputs_of (map (job_of m.name k) m.survey.workflow.jobs)) b [])
        (list_within outputs_of (k + files_of m) (k + files_of m + count_files ms) (joint_jobs (k + files_of m) ms) (rest_within (k + files_of m) (k + files_of m) (k + files_of m + count_files ms) ms all.1 (omega arith) (omega arith)) a)
        (list_within inputs_of k (k + files_of m) (map (job_of m.name k) m.survey.workflow.jobs) (own_reads k k (k + files_of m) m all.0 (omega arith) (omega arith)) b)
        (inr (omega arith))

among_rest : (k q : ℕ) (m : Member) (ms : List Member) → AllByRecursion IsMember (m ∷ ms) → (a b : ℕ) → joint_edge k q (m ∷ ms) (jobs_of m + a) (jobs_of m + b) ≡ joint_edge (k + files_of m) (q + jobs_of m) ms a b
among_rest k q m ms all a b = or_both _ _ _ _ passes pairs
  where
    long : jobs_of m ≡ length (map (job_of m.name k) m.survey.workflow.jobs)
    long = sym (length-map m.survey.workflow.jobs (job_of m.name k))

    passes : passes_in (joint_jobs k (m ∷ ms)) (jobs_of m + a) (jobs_of m + b) ≡ passes_in (joint_jobs (k + files_of m) ms) a b
    passes =
        ap (λ (os : List ℕ). list_any (λ f. is_among f os) (get_or (map inputs_of (joint_jobs k (m ∷ ms))) (jobs_of m + b) [])) (list_rest outputs_of (map (job_of m.name k) m.survey.workflow.jobs) (joint_jobs (k + files_of m) ms) (jobs_of m) a long)
        ∙ ap (λ (is : List ℕ). list_any (λ f. is_among f (get_or (map outputs_of (joint_jobs (k + files_of m) ms)) a [])) is) (list_rest inputs_of (map (job_of m.name k) m.survey.workflow.jobs) (joint_jobs (k + files_of m) ms) (jobs_of m) b long)

    one : q + (jobs_of m + a) ≡ q + jobs_of m + a
    one = omega arith

    two : q + (jobs_of m + b) ≡ q + jobs_of m + b
    two = omega arith

    pairs : pairs_in (joint_pairs q (m ∷ ms)) (q + (jobs_of m + a)) (q + (jobs_of m + b)) ≡ pairs_in (joint_pairs (q + jobs_of m) ms) (q + jobs_of m + a) (q + jobs_of m + b)
    pairs =
        ap (λ (x : ℕ). pairs_in (joint_pairs q (m ∷ ms)) x (q + (jobs_of m + b))) one
        ∙ ap (λ (x : ℕ). pairs_in (joint_pairs q (m ∷ ms)) (q + jobs_of m + a) x) two
        ∙ list_any-append (λ (p : JobId × JobId). nat_eq (parent_of p) (q + jobs_of m + a) && nat_eq (child_of p) (q + jobs_of m + b)) (map (pair_after q) m.survey.workflow.pairs) (joint_pairs (q + jobs_of m) ms)
        ∙ ap (λ (t : Bool). t || pairs_in (joint_pairs (q + jobs_of m) ms) (q + jobs_of m + a) (q + jobs_of m + b)) (no_pair q (q + jobs_of m) (q + jobs_of m + a) (q + jobs_of m + b) (map (pair_after q) m.survey.workflow.pairs) (own_pairs q q (q + jobs_of m) m all.0 (omega arith) (omega arith)) (inl (inr (omega arith))))

-- ---- walks

walk_first : (k q : ℕ) (m : Member) (ms : List Member) → AllByRecursion IsMember (m ∷ ms) → (n a b : ℕ) → a < jobs_of m → Walk (joint_edge k q (m ∷ ms)) n a b → Walk (edge m.survey.workflow) n a b
walk_first k q m ms all zero a b h w = w
walk_first k q m ms all (suc n) a b h w = by (cases_lt w.0 (jobs_of m)) (λ l. walk_first k q m ms all n w.0 b l w.2)
  where
    by : (w.0 < jobs_of m) ⊎ (jobs_of m ≤ w.0) → (w.0 < jobs_of m → Walk (edge m.survey.workflow) n w.0 b) → Walk (edge m.survey.workflow) (suc n) a b
    by (inl l) rest = (w.0, sym (among_first k q m ms all a w.0 h l) ∙ w.1, rest l)
    by (inr g) rest = absurd (let no : false ≡ true = sym (first_to_rest k q m ms all a w.0 h g) ∙ w.1 in cc)

walk_rest : (k q : ℕ) (m : Member) (ms : List Member) → AllByRecursion IsMember (m ∷ ms) → (n a b : ℕ) → Walk (joint_edge k q (m ∷ ms)) n (jobs_of m + a) b → (d : ℕ) × (b ≡ jobs_of m + d) × Walk (joint_edge (k + files_of m) (q + jobs_of m) ms) n a d
walk_rest k q m ms all zero a b w = (a, sym w, refl)
walk_rest k q m ms all (suc n) a b w = by (cases_lt w.0 (jobs_of m)) (λ e. walk_rest k q m ms all n (w.0 - jobs_of m) b (subst (λ (x : ℕ). Walk (joint_edge k q (m ∷ ms)) n x b) e w.2))
  where
    by : (w.0 < jobs_of m) ⊎ (jobs_of m ≤ w.0)
        → (w.0 ≡ jobs_of m + (w.0 - jobs_of m) → (d : ℕ) × (b ≡ jobs_of m + d) × Walk (joint_edge (k + files_of m) (q + jobs_of m) ms) n (w.0 - jobs_of m) d)
        → (d : ℕ) × (b ≡ jobs_of m + d) × Walk (joint_edge (k + files_of m) (q + jobs_of m) ms) (suc n) a d
    by (inl l) rest = absurd (let no : false ≡ true = sym (rest_to_first k q m ms all a w.0 l) ∙ w.1 in cc)
    by (inr g) rest =
        let place : w.0 ≡ jobs_of m + (w.0 - jobs_of m) = omega (arith, g) in
        let on = rest place in
        let step : joint_edge (k + files_of m) (q + jobs_of m) ms a (w.0 - jobs_of m) ≡ true =
        sym (among_rest k q m ms all a (w.0 - jobs_of m)) ∙ (ap (joint_edge k q (m ∷ ms) (jobs_of m + a)) (sym place) ∙ w.1) in
        (on.0, on.1, (w.0 - jobs_of m, step, on.2))

no_return : (k q : ℕ) (ms : List Member) → AllByRecursion IsMember ms → (a : ℕ) → Returns (joint_edge k q ms) a → ⊥
no_return k q [] all a r = let no : false ≡ true = r.1.1 in absurd cc
no_return k q (m ∷ ms) all a r = by (cases_lt a (jobs_of m)) (λ d back. no_return (k + files_of m) (q + jobs_of m) ms all.1 d back)
  where
    by : (a < jobs_of m) ⊎ (jobs_of m ≤ a) → ((d : ℕ) → Returns (joint_edge (k + files_of m) (q + jobs_of m) ms) d → ⊥) → ⊥
    by (inl l) rest = all.0.graph.sound.no_return a (r.0, walk_first k q m ms all (suc r.0) a a l r.1)
    by (inr g) rest =
        let place : a ≡ jobs_of m + (a - jobs_of m) = omega (arith, g) in
        let on = walk_rest k q m ms all (suc r.0) (a - jobs_of m) a (subst (λ (x : ℕ). Walk (joint_edge k q (m ∷ ms)) (suc r.0) x a) place r.1) in
        let again : a ≡ jobs_of m + on.0 = on.1 in
        let same : on.0 ≡ a - jobs_of m = omega (arith, again) in
        rest (a - jobs_of m) (r.0, subst (λ (x : ℕ). Walk (joint_edge (k + files_of m) (q + jobs_of m) ms) (suc r.0) (a - jobs_of m) x) same on.2)

-- ---- the whole

edges_are : (ms : List Member) (w : Workflow) → IsJointWorkflow ms w → (a b : ℕ) → edge w a b ≡ joint_edge 0 0 ms a b
unfolding edge
edges_are ms w is a b =
    let one : a ≡ 0 + a = omega arith in
    let two : b ≡ 0 + b = omega arith in
    or_both _ _ _ _
    (ap (λ (js : List Job). passes_in js a b) is.jobs)
    (ap (λ (ps : List (JobId × JobId)). pairs_in ps a b) is.pairs ∙ ap (λ (x : ℕ). pairs_in (joint_pairs 0 ms) x b) one ∙ ap (λ (x : ℕ). pairs_in (joint_pairs 0 ms) (0 + a) x) two)

pub joint_sound : (ms : List Member) (w : Workflow) → AreMembers ms → IsJointWorkflow ms w → IsSound w
unfolding makers
joint_sound ms w are is = record {
  one_producer = λ f h.
      let all = each_member ms are in
      let same = makers_counted f 0 w.jobs ∙ ap (times f) is.jobs in
      let once = once_made 0 ms all f in
      omega (arith, same, once);
  no_return = λ a r. no_return 0 0 ms (each_member ms are) a (subst (λ (e : ℕ → ℕ → Bool). Returns e a) (fun_ext (λ x. fun_ext (λ y. edges_are ms w is x y))) r);
}

-- so no graph is refused
not_contested : (w : Workflow) (lfn one two : List ℕ) → IsSound w → AreTwoProducers w lfn one two → ⊥
not_contested w lfn one two sound two_make =
    let most = sound.one_producer two_make.file two_make.contested.in_range in
    let long = ap length two_make.contested.is in
    absurd (omega (arith, most, long))

not_cyclic : (w : Workflow) (ids : List (List ℕ)) → IsSound w → AreCycle w ids → ⊥
not_cyclic w ids sound cycle = sound.no_return cycle.cycle.start cycle.cycle.returns

-- the joint workflow has a graph
pub never_refused : (ms : List Member) (w : Workflow) (fault : GraphFault) → AreMembers ms → IsJointWorkflow ms w → Builds w (Err fault) → fault ≡ graph.Memory
never_refused ms w (graph.TwoProducers lfn one two) are is h = absurd (not_contested w lfn one two (joint_sound ms w are is) h)
never_refused ms w (graph.Cycle ids) are is h = absurd (not_cyclic w ids (joint_sound ms w are is) h)
never_refused ms w graph.Memory are is h = refl
