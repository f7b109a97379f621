-- The plan of a draft is one.
use Rattle.std.proofs.Common.{◌≡◌, ◌⊎◌, inl, inr, ℕ, ◌<◌, ◌≤◌, ◌||◌, Bool, List, [], ◌∷◌, zero, suc, length, map, refl, sym, ap, subst, ◌∙◌}
use Rattle.std.specs.Prelude.{Option, Some, None, slice_get}
use Rattle.std.specs.List.{list_any}
use Rattle.std.proofs.lemmas.Bool.{cases_lt}
use Rattle.std.proofs.lemmas.List.{length-map}
use Rattle.std.proofs.lemmas.Option.{none-some, same_Some, slice_get_past}
use Rattle.values.specs.declared.numbers.PairId.{PairId}
use Rattle.values.specs.declared.numbers.TaskId.{TaskId}
use Rattle.values.specs.declared.policy.Policy.{Policy}
use Rattle.plan_core.specs.declared.plan.Plan.{Plan}
use Rattle.plan_core.specs.declared.plan.Pair.{Pair}
use Rattle.plan_core.specs.declared.plan.PlanFile.{PlanFile}
use Rattle.plan_core.specs.declared.plan.PlanJob.{PlanJob}
use Rattle.plan_core.specs.declared.plan.PlanSite.{PlanSite}
use Rattle.plan_core.specs.declared.plan.Task.{Task}
use Rattle.plan_core.specs.declared.plan.TaskKind.{TaskKind}
use Rattle.plan_core.specs.Kinds.{kind_reads, kind_writes, on_pair, sweeps, waits_for}
use Rattle.plan_core.specs.Numbers.{below, has}
use Rattle.plan_core.specs.Words.{count_tasks, kind, kind_in, pair_numbers, parents, parents_in, reads, reads_in, task_numbers, writes, writes_in}
use Rattle.plan_core.proofs.NumbersLemmas.{same_below}
use Rattle.transfer_refiner.specs.Draft.{Draft}
use Rattle.transfer_refiner.specs.Tasks.{comes_after}
use Rattle.transfer_refiner.specs.Refined.{IsRefined}
use Rattle.planning_law.proofs.ListsLemmas.{one_by_map, one_by_place}

-- ---- a task by its parts

abbrev pair_id : ℕ → PairId
pair_id n = record { 0 = n }

one_pair : (x y : PairId) → x.0 ≡ y.0 → x ≡ y
one_pair x y same = ap pair_id same

one_pairs : (xs ys : List PairId) → pair_numbers xs ≡ pair_numbers ys → xs ≡ ys
one_pairs xs ys same = one_by_map (λ (q : PairId). q.0) one_pair xs ys same

abbrev task_id : ℕ → TaskId
task_id n = record { 0 = n }

one_task_id : (x y : TaskId) → x.0 ≡ y.0 → x ≡ y
one_task_id x y same = ap task_id same

one_tasks : (xs ys : List TaskId) → task_numbers xs ≡ task_numbers ys → xs ≡ ys
one_tasks xs ys same = one_by_map (λ (t : TaskId). t.0) one_task_id xs ys same

abbrev task_of : TaskKind → List PairId → List PairId → List TaskId → Task
task_of k rs ws ps = record { kind = k; reads = rs; writes = ws; parents = ps }

one_task : (a b : Task) → a.kind ≡ b.kind → a.reads ≡ b.reads → a.writes ≡ b.writes → a.parents ≡ b.parents → a ≡ b
one_task a b k r w p =
    ap (λ (x : TaskKind). task_of x a.reads a.writes a.parents) k ∙ ap (λ (x : List PairId). task_of b.kind x a.writes a.parents) r
    ∙ ap (λ (x : List PairId). task_of b.kind b.reads x a.parents) w ∙ ap (λ (x : List TaskId). task_of b.kind b.reads b.writes x) p

one_place : (x y : Option Task) → kind_in x ≡ kind_in y → reads_in x ≡ reads_in y → writes_in x ≡ writes_in y → parents_in x ≡ parents_in y → x ≡ y
one_place None None k r w p = refl
one_place None (Some b) k r w p = absurd (none-some b.kind k)
one_place (Some a) None k r w p = absurd (none-some a.kind (sym k))
one_place (Some a) (Some b) k r w p = ap Some (one_task a b (same_Some a.kind b.kind k) (one_pairs a.reads b.reads r) (one_pairs a.writes b.writes w) (one_tasks a.parents b.parents p))

at_place : (p q : Plan) (t : ℕ) → kind p t ≡ kind q t → reads p t ≡ reads q t → writes p t ≡ writes q t → parents p t ≡ parents q t → slice_get p.tasks t ≡ slice_get q.tasks t
unfolding kind reads writes parents
at_place p q t k r w ps = one_place (slice_get p.tasks t) (slice_get q.tasks t) k r w ps

-- ---- what tasks do, read and write, and for whom they wait

abbrev kinds : List Task → List TaskKind
kinds ts = map (λ (t : Task). t.kind) ts

kind_there : (ts : List Task) (t : ℕ) → kind_in (slice_get ts t) ≡ slice_get (kinds ts) t
kind_there [] t = refl
kind_there (x ∷ ts) zero = refl
kind_there (x ∷ ts) (suc t) = kind_there ts t

kind_same : (p q : Plan) → kinds p.tasks ≡ kinds q.tasks → (t : ℕ) → kind p t ≡ kind q t
unfolding kind
kind_same p q same t = kind_there p.tasks t ∙ ap (λ (ks : List TaskKind). slice_get ks t) same ∙ sym (kind_there q.tasks t)

as_many : (p q : Plan) → kinds p.tasks ≡ kinds q.tasks → count_tasks p ≡ count_tasks q
as_many p q same = sym (length-map p.tasks (λ (t : Task). t.kind)) ∙ ap (λ (ks : List TaskKind). length ks) same ∙ length-map q.tasks (λ (t : Task). t.kind)

-- the pairs that a task of a kind reads, and those that it writes
abbrev reads_by : List PlanJob → List Pair → Option TaskKind → List ℕ
reads_by jobs pairs k = below (length pairs) (λ x. on_pair (kind_reads jobs k) (slice_get pairs x))

abbrev writes_by : List PlanJob → List Pair → Option TaskKind → List ℕ
writes_by jobs pairs k = below (length pairs) (λ x. on_pair (kind_writes jobs k) (slice_get pairs x))

-- a task waits for another, by what they read and write
abbrev waits_by : List ℕ → Option TaskKind → List ℕ → List ℕ → Bool
waits_by rs k other_writes other_reads = list_any (λ q. has other_writes q) rs || (sweeps k other_writes || sweeps k other_reads)

waits_is : (p : Plan) (t u : ℕ) → waits_for p t u ≡ waits_by (reads p t) (kind p t) (writes p u) (reads p u)
unfolding waits_for reads writes kind
waits_is p t u = refl

-- ---- the plan

abbrev plan_of : List ℕ → List PlanSite → List PlanFile → List PlanJob → List Pair → List Task → Policy → Plan
plan_of name sites files jobs pairs tasks policy =
    record { workflow = name; sites = sites; files = files; jobs = jobs; pairs = pairs; tasks = tasks; policy = policy }

-- its tables and its tasks are the same
record IsSame (p q : Plan) : Type 0 where
  workflow : p.workflow ≡ q.workflow
  sites : p.sites ≡ q.sites
  files : p.files ≡ q.files
  jobs : p.jobs ≡ q.jobs
  pairs : p.pairs ≡ q.pairs
  tasks : p.tasks ≡ q.tasks
  policy : p.policy ≡ q.policy

by_tables : (p q : Plan) → IsSame p q → p ≡ q
by_tables p q same =
    ap (λ (x : List ℕ). plan_of x p.sites p.files p.jobs p.pairs p.tasks p.policy) same.workflow
    ∙ ap (λ (x : List PlanSite). plan_of q.workflow x p.files p.jobs p.pairs p.tasks p.policy) same.sites
    ∙ ap (λ (x : List PlanFile). plan_of q.workflow q.sites x p.jobs p.pairs p.tasks p.policy) same.files
    ∙ ap (λ (x : List PlanJob). plan_of q.workflow q.sites q.files x p.pairs p.tasks p.policy) same.jobs
    ∙ ap (λ (x : List Pair). plan_of q.workflow q.sites q.files q.jobs x p.tasks p.policy) same.pairs
    ∙ ap (λ (x : List Task). plan_of q.workflow q.sites q.files q.jobs q.pairs x p.policy) same.tasks
    ∙ ap (λ (x : Policy). plan_of q.workflow q.sites q.files q.jobs q.pairs q.tasks x) same.policy

pub one_refinement : (d : Draft) (p q : Plan) → IsRefined d p → IsRefined d q → p ≡ q
one_refinement d p q one two = by_tables p q (record {
  workflow = one.workflow ∙ sym two.workflow;
  sites = one.sites ∙ sym two.sites;
  files = one.files ∙ sym two.files;
  jobs = jobs;
  pairs = pairs;
  tasks = one_by_place p.tasks q.tasks (λ t. at t (cases_lt t (count_tasks p)));
  policy = one.policy ∙ sym two.policy;
})
  where
    jobs : p.jobs ≡ q.jobs
    jobs = one.jobs ∙ sym two.jobs

    pairs : p.pairs ≡ q.pairs
    pairs = one.pairs ∙ sym two.pairs

    all_kinds : kinds p.tasks ≡ kinds q.tasks
    all_kinds = one.kinds ∙ sym two.kinds

    many : count_tasks p ≡ count_tasks q
    many = as_many p q all_kinds

    inside : (t : ℕ) → t < count_tasks p → t < count_tasks q
    inside t low = subst (λ (n : ℕ). t < n) many low

    same_kind : (t : ℕ) → kind p t ≡ kind q t
    same_kind t = kind_same p q all_kinds t

    same_reads : (t : ℕ) → t < count_tasks p → reads p t ≡ reads q t
    same_reads t low =
        one.reads t low ∙ ap (λ (js : List PlanJob). reads_by js p.pairs (kind p t)) jobs ∙ ap (λ (ps : List Pair). reads_by q.jobs ps (kind p t)) pairs
        ∙ ap (λ (k : Option TaskKind). reads_by q.jobs q.pairs k) (same_kind t) ∙ sym (two.reads t (inside t low))

    same_writes : (t : ℕ) → t < count_tasks p → writes p t ≡ writes q t
    same_writes t low =
        one.writes t low ∙ ap (λ (js : List PlanJob). writes_by js p.pairs (kind p t)) jobs ∙ ap (λ (ps : List Pair). writes_by q.jobs ps (kind p t)) pairs
        ∙ ap (λ (k : Option TaskKind). writes_by q.jobs q.pairs k) (same_kind t) ∙ sym (two.writes t (inside t low))

    same_waits : (t u : ℕ) → t < count_tasks p → u < count_tasks p → waits_for p t u ≡ waits_for q t u
    same_waits t u low other =
        waits_is p t u
        ∙ ap (λ (rs : List ℕ). waits_by rs (kind p t) (writes p u) (reads p u)) (same_reads t low)
        ∙ ap (λ (k : Option TaskKind). waits_by (reads q t) k (writes p u) (reads p u)) (same_kind t)
        ∙ ap (λ (ws : List ℕ). waits_by (reads q t) (kind q t) ws (reads p u)) (same_writes u other)
        ∙ ap (λ (rs : List ℕ). waits_by (reads q t) (kind q t) (writes q u) rs) (same_reads u other)
        ∙ sym (waits_is q t u)

    same_parents : (t : ℕ) → t < count_tasks p → parents p t ≡ parents q t
    same_parents t low =
        one.parents t low
        ∙ same_below (count_tasks p) (λ u. waits_for p t u || comes_after d t u) (λ u. waits_for q t u || comes_after d t u) (λ u other. ap (λ (b : Bool). b || comes_after d t u) (same_waits t u low other))
        ∙ ap (λ (n : ℕ). below n (λ u. waits_for q t u || comes_after d t u)) many
        ∙ sym (two.parents t (inside t low))

    at : (t : ℕ) → (t < count_tasks p) ⊎ (count_tasks p ≤ t) → slice_get p.tasks t ≡ slice_get q.tasks t
    at t (inl low) = at_place p q t (same_kind t) (same_reads t low) (same_writes t low) (same_parents t low)
    at t (inr past) = slice_get_past p.tasks t past ∙ sym (slice_get_past q.tasks t (subst (λ (n : ℕ). n ≤ t) many past))
