-- No task of a draft's plan waits for itself.
use Rattle.std.proofs.Common.{◌≡◌, ℕ, ◌+◌, ◌<◌, ◌≤◌, Bool, true, false, not, ◌&&◌, List, length, refl, sym, ap, ◌∙◌, nat_eq, arith, ◌⊎◌, inl, inr}
use Rattle.std.specs.Prelude.{Option, Some, None, slice_get}
use Rattle.std.specs.List.{list_any}
use Rattle.std.proofs.lemmas.Option.{slice_get_within}
use Rattle.std.proofs.lemmas.Bool.{cases_lt}
use Rattle.values.specs.declared.numbers.JobId.{JobId}
use Rattle.workflow_core.specs.WellFormed.{parent_of, child_of as after}
use Rattle.dependency_graph.specs.Edges.{read_by, written_by, is_among, passes_file, is_paired, edge}
use Rattle.plan_core.specs.declared.plan.Plan.{Plan}
use Rattle.plan_core.specs.declared.plan.Task.{Task}
use Rattle.plan_core.specs.declared.plan.TaskKind.{TaskKind}
use Rattle.plan_core.specs.Numbers.{has}
use Rattle.plan_core.specs.Words.{kind_in, kind, count_tasks}
use Rattle.plan_core.specs.Kinds as kinds
use Rattle.plan_core.specs.Kinds.{kind_reads, kind_writes, reads_file, writes_file, waits_for}
use Rattle.plan_core.specs.code.Proper.{is_parent}
use Rattle.plan_core.proofs.TestLemmas.{same_number, is_itself, both, and_both, either, or_left, or_right, not_true}
use Rattle.plan_core.proofs.NumbersLemmas.{any_has}
use Rattle.plan_core.specs.code.Grounded.{Grounded, ground}
use Rattle.plan_core.proofs.GroundedLemmas.{all_grounded}
use Rattle.transfer_refiner.specs.Draft.{Draft, part_uses, part_makes, part_needs, site_of, made_at, moves, home, chosen, first_pfn, pfns_of}
use Rattle.transfer_refiner.specs.Tasks.{run, transfer, delivery, comes_after, part_of}
use Rattle.transfer_refiner.specs.code.Conditions.{IsDraft, leads}
use Rattle.transfer_refiner.specs.Refined.{IsRefined}
use Rattle.transfer_refiner.proofs.SliceLemmas.{any_at_place, slice_get_there}
use Rattle.transfer_refiner.proofs.SortLemmas.{Sort, a_run, a_transfer, a_delivery, sorted, the_run}
use Rattle.transfer_refiner.proofs.PlanJobsLemmas.{needs_are}
use Rattle.transfer_refiner.proofs.PlanPairsLemmas.{has_kind, moved_from}
use Rattle.transfer_refiner.proofs.StandingLemmas.{moved_needed, home_made}
use Rattle.transfer_refiner.proofs.MakersLemmas.{in_part, job_of_any}
use Rattle.transfer_refiner.proofs.OneWriterLemmas.{run_makes, moves_it, delivers_none}
use Rattle.transfer_refiner.proofs.WaitingLemmas.{member_of_any, part_there, After, after_pair, parent_is, no_parents, waits_on}

-- a part leads to another one by a file or by a stated pair
leads_by : (d : Draft) (a b i j : ℕ) → nat_eq a b ≡ false → has (part_of d a) i ≡ true → has (part_of d b) j ≡ true → edge d.workflow i j ≡ true → leads d a b ≡ true
unfolding leads
leads_by d a b i j apart one two h =
    and_both (not (nat_eq a b)) (list_any (λ i. list_any (λ j. edge d.workflow i j) (part_of d b)) (part_of d a)) (ap not apart)
    (any_has (λ i. list_any (λ j. edge d.workflow i j) (part_of d b)) i (part_of d a) one (any_has (λ j. edge d.workflow i j) j (part_of d b) two h))

file_leads : (d : Draft) (a b f : ℕ) (js ks : List JobId) → slice_get d.parts a ≡ Some js → slice_get d.parts b ≡ Some ks → part_makes d js f ≡ true → part_needs d ks f ≡ true → leads d a b ≡ true
unfolding edge
file_leads d a b f js ks at bt makes_it needs_it =
    let parts = both (part_uses d ks f) (not (part_makes d ks f)) needs_it in
    let one = job_of_any (λ j. has (written_by d.workflow j) f) js makes_it in
    let two = job_of_any (λ j. has (read_by d.workflow j) f) ks parts.0 in
    leads_by d a b one.0 two.0 (other (nat_eq a b) refl parts.1)
    (ap (λ (ns : List ℕ). has ns one.0) (in_part d a js at) ∙ one.1) (ap (λ (ns : List ℕ). has ns two.0) (in_part d b ks bt) ∙ two.1)
    (or_left (passes_file d.workflow one.0 two.0) (is_paired d.workflow one.0 two.0) (any_has (λ g. is_among g (written_by d.workflow one.0)) f (read_by d.workflow two.0) two.2 one.2))
  where
    same : a ≡ b → part_makes d ks f ≡ true
    same e = let x : Some js ≡ Some ks = sym at ∙ ap (slice_get d.parts) e ∙ bt in let y : js ≡ ks = cc in ap (λ (xs : List JobId). part_makes d xs f) (sym y) ∙ makes_it

    other : (t : Bool) → nat_eq a b ≡ t → not (part_makes d ks f) ≡ true → nat_eq a b ≡ false
    other true e k = absurd (let x : true ≡ false = sym (same (same_number a b e)) ∙ not_true (part_makes d ks f) k in cc)
    other false e k = e

pair_leads : (d : Draft) (t u : ℕ) → comes_after d t u ≡ true → leads d u t ≡ true
unfolding edge
pair_leads d t u h =
    let is = after_pair d t u h in
    leads_by d u t (parent_of is.pair) (after is.pair) (flip is.apart) is.first is.second
    (or_right (passes_file d.workflow (parent_of is.pair) (after is.pair)) (is_paired d.workflow (parent_of is.pair) (after is.pair))
    (any_at_place (λ (p : JobId × JobId). nat_eq (parent_of p) (parent_of is.pair) && nat_eq (after p) (after is.pair)) d.workflow.pairs is.i is.pair is.at
    (and_both (nat_eq (parent_of is.pair) (parent_of is.pair)) (nat_eq (after is.pair) (after is.pair)) (is_itself (parent_of is.pair)) (is_itself (after is.pair)))))
  where
    flip : nat_eq t u ≡ false → nat_eq u t ≡ false
    flip e = grind arith

-- the part of a task's parent that makes the file which the task needs, directly or through a Transfer
leads_low : (d : Draft) (a b : ℕ) → leads d a b ≡ true → (js : List JobId) × (slice_get d.parts a ≡ Some js)
unfolding leads
leads_low d a b h =
    let split = both (not (nat_eq a b)) (list_any (λ i. list_any (λ j. edge d.workflow i j) (part_of d b)) (part_of d a)) h in
    let found = member_of_any (λ i. list_any (λ j. edge d.workflow i j) (part_of d b)) (part_of d a) split.1 in
    part_there d a found.0 found.1

-- who writes what a Transfer or a delivery reads is a Run that makes its file
pub home_writer : (d : Draft) (p : Plan) → IsDraft d → IsRefined d p → (u s f : ℕ) → made_at d s f ≡ true → writes_file p u s f ≡ true → (js : List JobId) × (slice_get d.parts u ≡ Some js) × (part_makes d js f ≡ true)
home_writer d p draft refined u s f made writes_it =
    let is = has_kind p u (λ o. kind_writes p.jobs o s f) writes_it refl in
    by is.0 (sorted d p refined u is.0 is.1) is.2
  where
    by : (k : TaskKind) → Sort d u k → kind_writes p.jobs (Some k) s f ≡ true → (js : List JobId) × (slice_get d.parts u ≡ Some js) × (part_makes d js f ≡ true)
    by k (a_run js at is) h = (js, at, (run_makes d p draft refined js k s f is h).1)
    by k (a_transfer g a i l m moved is at place) h =
        let same = moves_it d p g a k s f is h in
        let there : moves d f s ≡ true = ap (moves d f) (sym same.0) ∙ ap (λ (n : ℕ). moves d n a) (sym same.1) ∙ moved in
        absurd (let x : false ≡ true = sym (moved_needed d f s there).1 ∙ made in cc)
    by k (a_delivery g n l asked is at placed) h = absurd (delivers_none d p g k s f is h)

-- the parents of a Transfer or delivery are Runs that make its file
move_parent : (d : Draft) (p : Plan) → IsDraft d → IsRefined d p → (t u : ℕ) (k : TaskKind) (f : ℕ) → t < count_tasks p → kind p t ≡ Some k → ((c : ℕ) (js : List JobId) → slice_get d.parts t ≡ Some js → ⊥) → ((s g : ℕ) → kind_reads p.jobs (Some k) s g ≡ true → (f ≡ g) × (home d g ≡ Some s)) → is_parent p u t ≡ true
    → (js : List JobId) × (slice_get d.parts u ≡ Some js) × (part_makes d js f ≡ true)
move_parent d p draft refined t u k f l is no_part from h = by (either (waits_for p t u) (comes_after d t u) (parent_is d p refined t u l h))
  where
    by : (waits_for p t u ≡ true) ⊎ (comes_after d t u ≡ true) → (js : List JobId) × (slice_get d.parts u ≡ Some js) × (part_makes d js f ≡ true)
    by (inl w) =
        let pass = waits_on d p refined t u k is w in
        let source = from pass.site pass.file (ap (λ (o : Option TaskKind). kind_reads p.jobs o pass.site pass.file) (sym is) ∙ pass.read) in
        let found = home_writer d p draft refined u pass.site pass.file (home_made d pass.file pass.site source.1) pass.written in
        (found.0, found.1, ap (part_makes d found.0) source.0 ∙ found.2)
    by (inr w) = absurd (let after = after_pair d t u w in let there = part_there d t (after_job after) (second_of after) in no_part t there.0 there.1)
      where
        after_job : After d t u → ℕ
        after_job a = a.pair.1.0

        second_of : (a : After d t u) → has (part_of d t) (after_job a) ≡ true
        second_of a = a.second

no_run_there : (d : Draft) (t i : ℕ) → t ≡ length d.parts + i → (c : ℕ) (js : List JobId) → slice_get d.parts t ≡ Some js → ⊥
no_run_there d t i at c js h = let l : t < length d.parts = slice_get_within d.parts t js h in omega arith

child_below : (p : Plan) (t u : ℕ) → is_parent p u t ≡ true → t < count_tasks p
child_below p t u h = by (cases_lt t (count_tasks p))
  where
    by : (t < count_tasks p) ⊎ (count_tasks p ≤ t) → t < count_tasks p
    by (inl l) = l
    by (inr l) = absurd (let x : false ≡ true = ap (λ (xs : List ℕ). has xs u) (sym (no_parents p t l)) ∙ h in cc)

-- the files that a Transfer or a delivery reads
transfer_from : (d : Draft) (p : Plan) (g a : ℕ) (k : TaskKind) → transfer d (g, a) ≡ k → (s f : ℕ) → kind_reads p.jobs (Some k) s f ≡ true → (g ≡ f) × (home d f ≡ Some s)
transfer_from d p g a k is s f h = moved_from d p.jobs g (chosen d g a) _ s f (ap (λ (x : TaskKind). kind_reads p.jobs (Some x) s f) is ∙ h)

delivery_from : (d : Draft) (p : Plan) (g : ℕ) (k : TaskKind) → delivery d g ≡ k → (s f : ℕ) → kind_reads p.jobs (Some k) s f ≡ true → (g ≡ f) × (home d f ≡ Some s)
delivery_from d p g k is s f h = moved_from d p.jobs g (first_pfn (pfns_of d g)) _ s f (ap (λ (x : TaskKind). kind_reads p.jobs (Some x) s f) is ∙ h)

run_needs : (d : Draft) (p : Plan) → IsDraft d → IsRefined d p → (c : ℕ) (js : List JobId) (s f : ℕ) → slice_get d.parts c ≡ Some js → reads_file p c s f ≡ true → (site_of d js ≡ s) × (part_needs d js f ≡ true)
run_needs d p draft refined c js s f at h =
    let parts = both (nat_eq (site_of d js) s) (kinds.jobs_use p.jobs js f && not (kinds.jobs_make p.jobs js f)) (sym (ap (λ (o : Option TaskKind). kind_reads p.jobs o s f) (the_run d p refined c js at)) ∙ h) in
    (same_number (site_of d js) s parts.0, sym (needs_are d p draft refined js f) ∙ parts.1)

-- the parents of a Run are grounded where those that its part comes after are
run_parent : (d : Draft) (p : Plan) → IsDraft d → IsRefined d p → (c : ℕ) (js : List JobId) → slice_get d.parts c ≡ Some js → ((v : ℕ) (ks : List JobId) → slice_get d.parts v ≡ Some ks → leads d v c ≡ true → Grounded (is_parent p) v) → (u : ℕ) → is_parent p u c ≡ true → Grounded (is_parent p) u
run_parent d p draft refined c js at earlier u h = by (either (waits_for p c u) (comes_after d c u) (parent_is d p refined c u (child_below p c u h) h))
  where
    through : (f : ℕ) → part_needs d js f ≡ true → (s : ℕ) (k : TaskKind) → kind p u ≡ Some k → Sort d u k → kind_writes p.jobs (Some k) s f ≡ true → Grounded (is_parent p) u
    through f needed s k e (a_run ks bt is) w = earlier u ks bt (file_leads d u c f ks js bt at (run_makes d p draft refined ks k s f is w).1 needed)
    through f needed s k e (a_transfer g a i l m moved is there place) w = ground u (λ v q.
        let found = move_parent d p draft refined u v k g (child_below p u v q) e (no_run_there d u i there) (transfer_from d p g a k is) q in
        earlier v found.0 found.1 (file_leads d v c f found.0 js found.1 at (ap (part_makes d found.0) (sym (moves_it d p g a k s f is w).1) ∙ found.2) needed))
    through f needed s k e (a_delivery g i l asked is there placed) w = absurd (delivers_none d p g k s f is w)

    by : (waits_for p c u ≡ true) ⊎ (comes_after d c u ≡ true) → Grounded (is_parent p) u
    by (inl w) =
        let pass = waits_on d p refined c u (run d js) (the_run d p refined c js at) w in
        let needed = run_needs d p draft refined c js pass.site pass.file at pass.read in
        let is = has_kind p u (λ o. kind_writes p.jobs o pass.site pass.file) pass.written refl in
        through pass.file needed.1 pass.site is.0 is.1 (sorted d p refined u is.0 is.1) is.2
    by (inr w) = let into = pair_leads d c u w in let there = leads_low d u c into in earlier u there.0 there.1 into

run_grounded : (d : Draft) (p : Plan) → IsDraft d → IsRefined d p → (c : ℕ) → Grounded (leads d) c → (js : List JobId) → slice_get d.parts c ≡ Some js → Grounded (is_parent p) c
run_grounded d p draft refined c (ground a back) js at = ground a (λ u h. run_parent d p draft refined a js at (λ v ks vt into. run_grounded d p draft refined v (back v into) ks vt) u h)

parts_grounded : (d : Draft) → IsDraft d → (c : ℕ) → Grounded (leads d) c
parts_grounded d draft c = all_grounded (leads d) (length d.parts) (λ a b into. let there = leads_low d a b into in slice_get_within d.parts a there.0 there.1) draft.acyclic c

kind_there : (p : Plan) (t : ℕ) → t < count_tasks p → (k : TaskKind) × (kind p t ≡ Some k)
unfolding kind
kind_there p t l = by (slice_get p.tasks t) refl
  where
    by : (o : Option Task) → slice_get p.tasks t ≡ o → (k : TaskKind) × (kind_in (slice_get p.tasks t) ≡ Some k)
    by None e = absurd (slice_get_there p.tasks t l e)
    by (Some x) e = (x.kind, ap kind_in e)

pub task_grounded : (d : Draft) (p : Plan) → IsDraft d → IsRefined d p → (t : ℕ) → Grounded (is_parent p) t
task_grounded d p draft refined t = by (cases_lt t (count_tasks p))
  where
    run_there : (v : ℕ) (ks : List JobId) → slice_get d.parts v ≡ Some ks → Grounded (is_parent p) v
    run_there v ks vt = run_grounded d p draft refined v (parts_grounded d draft v) ks vt

    of_sort : t < count_tasks p → (k : TaskKind) → kind p t ≡ Some k → Sort d t k → Grounded (is_parent p) t
    of_sort l k e (a_run js at is) = run_there t js at
    of_sort l k e (a_transfer g a i m n moved is there place) = ground t (λ u h. let found = move_parent d p draft refined t u k g l e (no_run_there d t i there) (transfer_from d p g a k is) h in run_there u found.0 found.1)
    of_sort l k e (a_delivery g i m asked is there placed) = ground t (λ u h. let found = move_parent d p draft refined t u k g l e (no_run_there d t i there) (delivery_from d p g k is) h in run_there u found.0 found.1)

    by : (t < count_tasks p) ⊎ (count_tasks p ≤ t) → Grounded (is_parent p) t
    by (inl l) = let is = kind_there p t l in of_sort l is.0 is.1 (sorted d p refined t is.0 is.1)
    by (inr l) = ground t (λ u h. absurd (let x : t < count_tasks p = child_below p t u h in omega arith))
