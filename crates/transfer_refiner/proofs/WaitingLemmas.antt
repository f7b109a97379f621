-- For whom a task of a draft's plan waits.
use Rattle.std.proofs.Common.{◌≡◌, ℕ, zero, suc, ◌<◌, ◌≤◌, Bool, true, false, cond, not, ◌||◌, ◌&&◌, List, [], ◌∷◌, ◌++◌, refl, sym, ap, ◌∙◌, nat_eq, ◌⊎◌, inl, inr}
use Rattle.std.specs.Prelude.{Option, Some, None, slice_get}
use Rattle.std.specs.List.{list_any}
use Rattle.std.specs.Option.{unwrap_or}
use Rattle.std.proofs.lemmas.Option.{slice_get_past, unwrap_or-slice_get}
use Rattle.std.proofs.lemmas.Bool.{cases_lt}
use Rattle.values.specs.declared.numbers.JobId.{JobId}
use Rattle.workflow_core.specs.WellFormed.{parent_of, child_of}
use Rattle.plan_core.specs.declared.plan.Plan.{Plan}
use Rattle.plan_core.specs.declared.plan.Pair.{Pair}
use Rattle.plan_core.specs.declared.plan.Task.{Task}
use Rattle.plan_core.specs.declared.plan.TaskKind.{TaskKind}
use Rattle.plan_core.specs.declared.plan.TaskKind.TheVariants.{Transfer, Run, Clean}
use Rattle.plan_core.specs.Numbers.{has, below}
use Rattle.plan_core.specs.Words.{reads, writes, parents, reads_in, writes_in, parents_in, kind_in, kind, job_numbers, is_run, is_run_kind, count_tasks, count_pairs}
use Rattle.plan_core.specs.Kinds.{on_pair, kind_reads, kind_writes, reads_file, writes_file, reads_pair, writes_pair, sweeps, task_waits, waits_for}
use Rattle.plan_core.specs.code.Proper.{AreParents, is_parent}
use Rattle.plan_core.proofs.TestLemmas.{is_itself, both, either, or_left, or_right}
use Rattle.plan_core.proofs.NumbersLemmas.{below_has, has_below, same_below}
use Rattle.transfer_refiner.specs.Draft.{Draft}
use Rattle.transfer_refiner.specs.Tasks.{comes_after, part_of}
use Rattle.transfer_refiner.specs.Refined.{IsRefined}
use Rattle.transfer_refiner.proofs.SortLemmas.{Sort, a_run, a_transfer, a_delivery, sorted, the_run}
use Rattle.transfer_refiner.proofs.SliceLemmas.{place_of_any}

-- an element of a list of numbers that passes
pub member_of_any : (test : ℕ → Bool) (xs : List ℕ) → list_any test xs ≡ true → (x : ℕ) × (has xs x ≡ true) × (test x ≡ true)
member_of_any test [] h = absurd cc
member_of_any test (y ∷ xs) h = by (test y) refl h (λ k. member_of_any test xs k)
  where
    by : (b : Bool) → test y ≡ b → (b || list_any test xs) ≡ true → (list_any test xs ≡ true → (x : ℕ) × (has xs x ≡ true) × (test x ≡ true)) → (x : ℕ) × (has (y ∷ xs) x ≡ true) × (test x ≡ true)
    by true e k rest = (y, or_left (nat_eq y y) (has xs y) (is_itself y), e)
    by false e k rest = let found = rest k in (found.0, or_right (nat_eq y found.0) (has xs found.0) found.1, found.2)

pub any_none : (test : ℕ → Bool) → ((x : ℕ) → test x ≡ false) → (xs : List ℕ) → list_any test xs ≡ false
any_none test none [] = refl
any_none test none (x ∷ xs) = ap (λ (b : Bool). b || list_any test xs) (none x) ∙ any_none test none xs

pub nothing_below : (n : ℕ) (test : ℕ → Bool) → ((x : ℕ) → test x ≡ false) → below n test ≡ []
unfolding below
nothing_below zero test none = refl
nothing_below (suc n) test none = ap (λ (b : Bool). below n test ++ cond b (n ∷ []) []) (none n) ∙ ap (λ (xs : List ℕ). xs ++ []) (nothing_below n test none)

-- a list of the numbers below n that pass is that of its own elements
pub listed_is : (n : ℕ) (test : ℕ → Bool) (xs : List ℕ) → xs ≡ below n test → xs ≡ below n (has xs)
listed_is n test xs e = e ∙ same_below n test (has xs) (λ x l. by x l (test x) refl)
  where
    other : (x : ℕ) → test x ≡ false → (c : Bool) → has xs x ≡ c → false ≡ c
    other x k true h = absurd (let t : test x ≡ true = (below_has n test x (ap (λ (ys : List ℕ). has ys x) (sym e) ∙ h)).1 in cc)
    other x k false h = refl

    by : (x : ℕ) → x < n → (b : Bool) → test x ≡ b → test x ≡ has xs x
    by x l true k = k ∙ sym (ap (λ (ys : List ℕ). has ys x) e ∙ has_below n test x l k)
    by x l false k = k ∙ other x k (has xs x) refl

off_pair : (test : ℕ → ℕ → Bool) → ((s f : ℕ) → test s f ≡ false) → (o : Option Pair) → on_pair test o ≡ false
off_pair test none None = refl
off_pair test none (Some q) = none q.site.0 q.file.0

no_kind : (p : Plan) (t : ℕ) → count_tasks p ≤ t → kind p t ≡ None
unfolding kind
no_kind p t l = ap kind_in (slice_get_past p.tasks t l)

pub all_reads : (d : Draft) (p : Plan) → IsRefined d p → (t : ℕ) → reads p t ≡ below (count_pairs p) (reads_pair p t)
unfolding reads
all_reads d p refined t = by (cases_lt t (count_tasks p))
  where
    by : (t < count_tasks p) ⊎ (count_tasks p ≤ t) → reads p t ≡ below (count_pairs p) (reads_pair p t)
    by (inl l) = refined.reads t l
    by (inr l) = ap reads_in (slice_get_past p.tasks t l) ∙ sym (nothing_below (count_pairs p) (reads_pair p t) (λ q. off_pair (reads_file p t) (λ s f. ap (λ (o : Option TaskKind). kind_reads p.jobs o s f) (no_kind p t l)) (slice_get p.pairs q)))

pub all_writes : (d : Draft) (p : Plan) → IsRefined d p → (t : ℕ) → writes p t ≡ below (count_pairs p) (writes_pair p t)
unfolding writes
all_writes d p refined t = by (cases_lt t (count_tasks p))
  where
    by : (t < count_tasks p) ⊎ (count_tasks p ≤ t) → writes p t ≡ below (count_pairs p) (writes_pair p t)
    by (inl l) = refined.writes t l
    by (inr l) = ap writes_in (slice_get_past p.tasks t l) ∙ sym (nothing_below (count_pairs p) (writes_pair p t) (λ q. off_pair (writes_file p t) (λ s f. ap (λ (o : Option TaskKind). kind_writes p.jobs o s f) (no_kind p t l)) (slice_get p.pairs q)))

-- nobody waits for what is no task, and no task waits
sweeps_none : (o : Option TaskKind) → sweeps o [] ≡ false
sweeps_none None = refl
sweeps_none (Some (Transfer g from to)) = refl
sweeps_none (Some (Run s js)) = refl
sweeps_none (Some (Clean q)) = refl

pub waits_below : (p : Plan) (t u : ℕ) → waits_for p t u ≡ true → u < count_tasks p
unfolding waits_for
waits_below p t u h = by (cases_lt u (count_tasks p))
  where
    none : (o : Option Task) → task_waits o None ≡ false
    none o = ap (λ (b : Bool). b || (sweeps (kind_in o) [] || sweeps (kind_in o) [])) (any_none (λ q. has [] q) (λ q. refl) (reads_in o)) ∙ ap (λ (b : Bool). b || b) (sweeps_none (kind_in o))

    by : (u < count_tasks p) ⊎ (count_tasks p ≤ u) → u < count_tasks p
    by (inl l) = l
    by (inr l) = absurd (let x : false ≡ true = sym (none (slice_get p.tasks t)) ∙ sym (ap (task_waits (slice_get p.tasks t)) (slice_get_past p.tasks u l)) ∙ h in cc)

waiter_below : (p : Plan) (t u : ℕ) → count_tasks p ≤ t → waits_for p t u ≡ false
unfolding waits_for
waiter_below p t u l = ap (λ (o : Option Task). task_waits o (slice_get p.tasks u)) (slice_get_past p.tasks t l)

-- a part with a job
pub part_there : (d : Draft) (c j : ℕ) → has (part_of d c) j ≡ true → (js : List JobId) × (slice_get d.parts c ≡ Some js)
part_there d c j h = by (slice_get d.parts c) refl
  where
    by : (o : Option (List JobId)) → slice_get d.parts c ≡ o → (js : List JobId) × (slice_get d.parts c ≡ Some js)
    by None e = absurd (let x : false ≡ true = ap (λ (js : List JobId). has (job_numbers js) j) (ap (λ (o : Option (List JobId)). unwrap_or o []) (sym e) ∙ unwrap_or-slice_get d.parts c []) ∙ h in cc)
    by (Some js) e = (js, e)

-- the pair of dependent jobs by which a Run comes after another one
pub record After (d : Draft) (t u : ℕ) : Type 0 where
  pub apart : nat_eq t u ≡ false
  pub i : ℕ
  pub pair : JobId × JobId
  pub at : slice_get d.workflow.pairs i ≡ Some pair
  pub first : has (part_of d u) (parent_of pair) ≡ true
  pub second : has (part_of d t) (child_of pair) ≡ true

pub after_pair : (d : Draft) (t u : ℕ) → comes_after d t u ≡ true → After d t u
unfolding comes_after
after_pair d t u h =
    let split = both (not (nat_eq t u)) (list_any (λ (pair : JobId × JobId). has (part_of d u) (parent_of pair) && has (part_of d t) (child_of pair)) d.workflow.pairs) h in
    let found = place_of_any (λ (pair : JobId × JobId). has (part_of d u) (parent_of pair) && has (part_of d t) (child_of pair)) d.workflow.pairs split.1 in
    let ends = both (has (part_of d u) (parent_of found.1)) (has (part_of d t) (child_of found.1)) found.3 in
    record { apart = not_true_is (nat_eq t u) split.0; i = found.0; pair = found.1; at = found.2; first = ends.0; second = ends.1 }
  where
    not_true_is : (b : Bool) → not b ≡ true → b ≡ false
    not_true_is true h = absurd cc
    not_true_is false h = refl

part_runs : (d : Draft) (p : Plan) → IsRefined d p → (c j : ℕ) → has (part_of d c) j ≡ true → is_run p c ≡ true
part_runs d p refined c j h = let there = part_there d c j h in ap is_run_kind (the_run d p refined c there.0 there.1)

pub parent_is : (d : Draft) (p : Plan) → IsRefined d p → (t u : ℕ) → t < count_tasks p → is_parent p u t ≡ true → (waits_for p t u || comes_after d t u) ≡ true
parent_is d p refined t u l h = (below_has (count_tasks p) (λ u. waits_for p t u || comes_after d t u) u (ap (λ (xs : List ℕ). has xs u) (sym (refined.parents t l)) ∙ h)).1

pub no_parents : (p : Plan) (t : ℕ) → count_tasks p ≤ t → parents p t ≡ []
unfolding parents
no_parents p t l = ap parents_in (slice_get_past p.tasks t l)

pub are_parents : (d : Draft) (p : Plan) → IsRefined d p → (t : ℕ) → AreParents p t
are_parents d p refined t = by (cases_lt t (count_tasks p))
  where
    allowed : (u : ℕ) → (waits_for p t u ≡ true) ⊎ (comes_after d t u ≡ true) → (waits_for p t u || (is_run p t && is_run p u)) ≡ true
    allowed u (inl h) = or_left (waits_for p t u) (is_run p t && is_run p u) h
    allowed u (inr h) = let is = after_pair d t u h in or_right (waits_for p t u) (is_run p t && is_run p u) (ap (λ (b : Bool). b && is_run p u) (part_runs d p refined t (child_of is.pair) is.second) ∙ part_runs d p refined u (parent_of is.pair) is.first)

    none : (u : ℕ) → count_tasks p ≤ t → has (parents p t) u ≡ false
    none u l = ap (λ (xs : List ℕ). has xs u) (no_parents p t l)

    by : (t < count_tasks p) ⊎ (count_tasks p ≤ t) → AreParents p t
    by (inl l) = record {
      listed = listed_is (count_tasks p) (λ u. waits_for p t u || comes_after d t u) (parents p t) (refined.parents t l);
      needed = λ u h. ap (λ (xs : List ℕ). has xs u) (refined.parents t l) ∙ has_below (count_tasks p) (λ u. waits_for p t u || comes_after d t u) u (waits_below p t u h) (or_left (waits_for p t u) (comes_after d t u) h);
      allowed = λ u h. allowed u (either (waits_for p t u) (comes_after d t u) (parent_is d p refined t u l h));
    }
    by (inr l) = record {
      listed = no_parents p t l ∙ sym (nothing_below (count_tasks p) (has (parents p t)) (λ u. none u l));
      needed = λ u h. absurd (let x : false ≡ true = sym (waiter_below p t u l) ∙ h in cc);
      allowed = λ u h. absurd (let x : false ≡ true = sym (none u l) ∙ h in cc);
    }

-- what is written by the one and read by the other
pub record Passes (p : Plan) (t u : ℕ) : Type 0 where
  pub site : ℕ
  pub file : ℕ
  pub read : reads_file p t site file ≡ true
  pub written : writes_file p u site file ≡ true

on_both : (p : Plan) (t u : ℕ) (o : Option Pair) → on_pair (reads_file p t) o ≡ true → on_pair (writes_file p u) o ≡ true → Passes p t u
on_both p t u None h k = absurd cc
on_both p t u (Some q) h k = record { site = q.site.0; file = q.file.0; read = h; written = k }

never_sweeps : (d : Draft) (t : ℕ) (k : TaskKind) → Sort d t k → (qs : List ℕ) → sweeps (Some k) qs ≡ false
never_sweeps d t k (a_run js at is) qs = ap (λ (x : TaskKind). sweeps (Some x) qs) (sym is)
never_sweeps d t k (a_transfer f s i l m moved is at place) qs = ap (λ (x : TaskKind). sweeps (Some x) qs) (sym is)
never_sweeps d t k (a_delivery f n l asked is at placed) qs = ap (λ (x : TaskKind). sweeps (Some x) qs) (sym is)

pub waits_on : (d : Draft) (p : Plan) → IsRefined d p → (t u : ℕ) (k : TaskKind) → kind p t ≡ Some k → waits_for p t u ≡ true → Passes p t u
unfolding waits_for reads writes kind
waits_on d p refined t u k is h = by (list_any (λ q. has (writes p u) q) (reads p t)) refl h
  where
    no_sweep : (qs : List ℕ) → sweeps (kind p t) qs ≡ false
    no_sweep qs = ap (λ (o : Option TaskKind). sweeps o qs) is ∙ never_sweeps d t k (sorted d p refined t k is) qs

    by : (b : Bool) → list_any (λ q. has (writes p u) q) (reads p t) ≡ b → (b || (sweeps (kind p t) (writes p u) || sweeps (kind p t) (reads p u))) ≡ true → Passes p t u
    by true e g =
        let found = member_of_any (λ q. has (writes p u) q) (reads p t) e in
        let one = below_has (count_pairs p) (reads_pair p t) found.0 (ap (λ (xs : List ℕ). has xs found.0) (sym (all_reads d p refined t)) ∙ found.1) in
        let two = below_has (count_pairs p) (writes_pair p u) found.0 (ap (λ (xs : List ℕ). has xs found.0) (sym (all_writes d p refined u)) ∙ found.2) in
        on_both p t u (slice_get p.pairs found.0) one.1 two.1
    by false e g = absurd (let x : false ≡ true = sym (ap (λ (b : Bool). b || sweeps (kind p t) (reads p u)) (no_sweep (writes p u)) ∙ no_sweep (reads p u)) ∙ g in cc)
