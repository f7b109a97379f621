-- The plan of a draft without a fault is proper.
use Rattle.std.proofs.Common.{◌≡◌, ℕ, zero, suc, ◌+◌, ◌-◌, ◌<◌, ◌≤◌, ◌^◌, true, false, not, ◌||◌, List, [], ◌∷◌, length, map, refl, sym, ap, subst, ◌∙◌, ◌++◌, nat_eq, arith, ◌⊎◌, inl, inr}
use Rattle.std.proofs.lemmas.Bool.{cases_lt}
use Rattle.std.specs.Prelude.{Option, Some, None, Result, Ok, Err, IfOk, is_some, slice_get}
use Rattle.values.specs.declared.numbers.JobId.{JobId}
use Rattle.workflow_core.specs.Requested.{is_requested}
use Rattle.plan_core.specs.declared.plan.Pair.{Pair}
use Rattle.plan_core.specs.declared.plan.Plan.{Plan}
use Rattle.plan_core.specs.declared.plan.PlanFile.{PlanFile}
use Rattle.plan_core.specs.declared.plan.Task.{Task}
use Rattle.plan_core.specs.declared.plan.TaskKind.{TaskKind}
use Rattle.plan_core.specs.Numbers.{has, below}
use Rattle.plan_core.specs.Words.{kind, reads, writes, writes_in, pair_numbers, kind_cleans, delivers, kind_delivers, declared, declared_in, count_pairs}
use Rattle.plan_core.specs.code.Words.{is_pair, pair_at}
use Rattle.plan_core.specs.Kinds.{kind_reads, kind_writes, on_pair, writes_file, writes_pair}
use Rattle.plan_core.specs.code.Kinds.{kind_carries}
use Rattle.plan_core.specs.code.Proper.{is_written, is_parent, is_sequence_kind, IsProper, IsTask, HasFlow}
use Rattle.plan_core.specs.code.Proper as proper
use Rattle.transfer_refiner.specs.Draft.{Draft, part_makes, part_needs, part_uses, needed_at, moves, declared_of}
use Rattle.transfer_refiner.specs.Tasks.{count_files, count_execution_sites, grid, planned_file}
use Rattle.transfer_refiner.specs.code.Tasks.{used, is_made, first_fault}
use Rattle.transfer_refiner.specs.code.Conditions.{IsDraft}
use Rattle.transfer_refiner.specs.Refined.{IsRefined}
use Rattle.transfer_refiner.specs.code.Refined.{Refines}
use Rattle.transfer_refiner.specs.declared.fault.RefineFault.{RefineFault}
use Rattle.plan_core.proofs.TestLemmas.{same_number, is_itself, both, and_both, or_left, or_right}
use Rattle.plan_core.proofs.NumbersLemmas.{below_has, has_below}
use Rattle.transfer_refiner.proofs.SliceLemmas.{any_at_place, place_left, place_right, slice_get_there}
use Rattle.transfer_refiner.proofs.OnceLemmas.{below_once}
use Rattle.transfer_refiner.proofs.SortLemmas.{Sort, a_run, a_transfer, a_delivery, DeliveredAt, sorted}
use Rattle.transfer_refiner.proofs.JobsLemmas.{made_below}
use Rattle.transfer_refiner.proofs.StandingLemmas.{part_at, moved_needed}
use Rattle.transfer_refiner.proofs.PlanJobsLemmas.{makes_are}
use Rattle.transfer_refiner.proofs.PlanPairsLemmas.{has_kind, pair_stands, stands_pair, read_is, written_is, has_writer}
use Rattle.transfer_refiner.proofs.OneWriterLemmas.{one_writer}
use Rattle.transfer_refiner.proofs.WaitingLemmas.{all_reads, all_writes, are_parents}
use Rattle.transfer_refiner.proofs.GroundingLemmas.{task_grounded}
use Rattle.plan_core.proofs.GroundedLemmas.{never_returns}
use Rattle.transfer_refiner.proofs.SequenceLemmas.{sequence}
use Rattle.transfer_refiner.proofs.TableLemmas.{has_tables, all_long}
use Rattle.transfer_refiner.proofs.TogetherLemmas.{no_size}

stands_of : (p : Plan) (q s f : ℕ) → is_pair p q s f ≡ true → proper.stands p s f ≡ true
unfolding is_pair
stands_of p q s f h = by (slice_get p.pairs q) refl h
  where
    by : (o : Option Pair) → slice_get p.pairs q ≡ o → pair_at o s f ≡ true → proper.stands p s f ≡ true
    by None e k = absurd cc
    by (Some x) e k = any_at_place (λ (y : Pair). pair_at (Some y) s f) p.pairs q x e k

pub needed_used : (d : Draft) (s f : ℕ) → needed_at d s f ≡ true → used d f ≡ true
needed_used d s f h = let part = part_at d s (λ js. part_needs d js f) h in any_at_place (λ (js : List JobId). part_uses d js f) d.parts part.c part.js part.at (both (part_uses d part.js f) (not (part_makes d part.js f)) part.passes).0

-- the declared size of a file of the plan
size_at : (d : Draft) (ns : List ℕ) (f i : ℕ) → slice_get ns i ≡ Some f → declared_in (slice_get (map (planned_file d) ns) i) ≡ declared_of d f
size_at d [] f i e = absurd cc
size_at d (n ∷ ns) f zero e = let same : n ≡ f = cc in ap (declared_of d) same
size_at d (n ∷ ns) f (suc i) e = size_at d ns f i e

own_place : (n f : ℕ) → f < n → slice_get (below n (λ g. true)) f ≡ Some f
unfolding below
own_place zero f l = absurd (omega arith)
own_place (suc n) f l = by (cases_lt f n) (λ k. own_place n f k)
  where
    by : (f < n) ⊎ (n ≤ f) → (f < n → slice_get (below n (λ g. true)) f ≡ Some f) → slice_get (below n (λ g. true) ++ n ∷ []) f ≡ Some f
    by (inl k) less = place_left (below n (λ g. true)) (n ∷ []) f f (less k)
    by (inr k) less =
        let same : n ≡ f = omega arith in
        let long : length (below n (λ g. true)) + 0 ≡ f = omega (arith, all_long n) in
        ap (slice_get (below n (λ g. true) ++ n ∷ [])) (sym long) ∙ place_right (below n (λ g. true)) (n ∷ []) 0 n refl ∙ ap Some same

sized : (d : Draft) (limit : ℕ) (p : Plan) → IsDraft d → first_fault d limit ≡ None → IsRefined d p → (t f : ℕ) → kind_carries p.jobs (kind p t) f ≡ true → is_some (declared p f) ≡ true
unfolding declared
sized d limit p draft none refined t f h =
    let is = has_kind p t (λ o. kind_carries p.jobs o f) h refl in
    let found = touched is.0 (sorted d p refined t is.0 is.1) is.2 in
    ap is_some (ap (λ (fs : List PlanFile). declared_in (slice_get fs f)) refined.files ∙ size_at d (below (count_files d) (λ g. true)) f f (own_place (count_files d) f found.0)) ∙ no_size d limit none f found.0 found.1
  where
    touched : (k : TaskKind) → Sort d t k → kind_carries p.jobs (Some k) f ≡ true → (f < count_files d) × ((used d f || (is_made d f || is_requested d.workflow f)) ≡ true)
    touched k (a_run js at is) c =
        let makes_it : part_makes d js f ≡ true = sym (makes_are d p draft refined js f) ∙ ap (λ (x : TaskKind). kind_carries p.jobs (Some x) f) is ∙ c in
        (made_below d draft js f makes_it, or_right (used d f) (is_made d f || is_requested d.workflow f) (or_left (is_made d f) (is_requested d.workflow f) (any_at_place (λ (js : List JobId). part_makes d js f) d.parts t js at makes_it)))
    touched k (a_transfer g s i l m moved is there place) c =
        let same : g ≡ f = same_number g f (ap (λ (x : TaskKind). kind_carries p.jobs (Some x) f) is ∙ c) in
        (omega (arith, same, l), or_left (used d f) (is_made d f || is_requested d.workflow f) (ap (used d) (sym same) ∙ needed_used d s g (moved_needed d g s moved).0))
    touched k (a_delivery g i l asked is there placed) c =
        let same : g ≡ f = same_number g f (ap (λ (x : TaskKind). kind_carries p.jobs (Some x) f) is ∙ c) in
        (omega (arith, same, l), or_right (used d f) (is_made d f || is_requested d.workflow f) (or_right (is_made d f) (is_requested d.workflow f) (ap (is_requested d.workflow) (sym same) ∙ asked)))

in_sequence : (d : Draft) (p : Plan) → IsDraft d → IsRefined d p → (t : ℕ) → is_sequence_kind p.jobs (kind p t) ≡ true
in_sequence d p draft refined t = by (kind p t) refl
  where
    of_sort : (k : TaskKind) → Sort d t k → is_sequence_kind p.jobs (Some k) ≡ true
    of_sort k (a_run js at is) = ap (λ (x : TaskKind). is_sequence_kind p.jobs (Some x)) (sym is) ∙ sequence d p draft refined t js [] js [] at refl (λ f h. absurd (let z : false ≡ true = h in cc))
    of_sort k (a_transfer g s i l m moved is there place) = ap (λ (x : TaskKind). is_sequence_kind p.jobs (Some x)) (sym is)
    of_sort k (a_delivery g i l asked is there placed) = ap (λ (x : TaskKind). is_sequence_kind p.jobs (Some x)) (sym is)

    by : (o : Option TaskKind) → kind p t ≡ o → is_sequence_kind p.jobs (kind p t) ≡ true
    by None e = ap (is_sequence_kind p.jobs) e
    by (Some k) e = ap (is_sequence_kind p.jobs) e ∙ of_sort k (sorted d p refined t k e)

is_task : (d : Draft) (limit : ℕ) (p : Plan) → IsDraft d → first_fault d limit ≡ None → IsRefined d p → (t : ℕ) → IsTask p (slice_get p.tasks t)
unfolding kind reads writes
is_task d limit p draft none refined t = record {
  reads = all_reads d p refined t;
  writes = all_writes d p refined t;
  read_stands = λ s f h. let is = has_kind p t (λ o. kind_reads p.jobs o s f) h refl in let pair = pair_stands d p draft refined s f (read_is d p draft refined t is.0 (sorted d p refined t is.0 is.1) s f is.2) in stands_of p pair.0 s f pair.1;
  written_stands = λ s f h. let is = has_kind p t (λ o. kind_writes p.jobs o s f) h refl in let pair = pair_stands d p draft refined s f (written_is d p draft refined t is.0 (sorted d p refined t is.0 is.1) s f is.2) in stands_of p pair.0 s f pair.1;
  sequence = in_sequence d p draft refined t;
  sized = λ f h. sized d limit p draft none refined t f h;
}

-- ---- tasks among each other

no_clean : (d : Draft) (t q : ℕ) (k : TaskKind) → Sort d t k → kind_cleans (Some k) q ≡ false
no_clean d t q k (a_run js at is) = ap (λ (x : TaskKind). kind_cleans (Some x) q) (sym is)
no_clean d t q k (a_transfer g s i l m moved is there place) = ap (λ (x : TaskKind). kind_cleans (Some x) q) (sym is)
no_clean d t q k (a_delivery g i l asked is there placed) = ap (λ (x : TaskKind). kind_cleans (Some x) q) (sym is)

delivered_at : (d : Draft) (t f : ℕ) (k : TaskKind) → Sort d t k → kind_delivers (Some k) f ≡ true → (i : ℕ) × (t ≡ length d.parts + i) × DeliveredAt d i f
delivered_at d t f k (a_run js at is) h = absurd (let x : false ≡ true = ap (λ (x : TaskKind). kind_delivers (Some x) f) is ∙ h in cc)
delivered_at d t f k (a_transfer g s i l m moved is there place) h = absurd (let x : false ≡ true = ap (λ (x : TaskKind). kind_delivers (Some x) f) is ∙ h in cc)
delivered_at d t f k (a_delivery g i l asked is there placed) h =
    let same : g ≡ f = same_number g f (ap (λ (x : TaskKind). kind_delivers (Some x) f) is ∙ h) in
    (i, there, subst (DeliveredAt d i) same placed)

one_delivery : (d : Draft) (p : Plan) → IsRefined d p → (t u f : ℕ) → delivers p t f ≡ true → delivers p u f ≡ true → t ≡ u
one_delivery d p refined t u f h k =
    let one = has_kind p t (λ o. kind_delivers o f) h refl in
    let two = has_kind p u (λ o. kind_delivers o f) k refl in
    let a = delivered_at d t f one.0 (sorted d p refined t one.0 one.1) one.2 in
    let b = delivered_at d u f two.0 (sorted d p refined u two.0 two.1) two.2 in
    let same = below_once (count_files d) (is_requested d.workflow) (a.0 - length (grid (count_files d) (count_execution_sites d) (moves d))) (b.0 - length (grid (count_files d) (count_execution_sites d) (moves d))) f a.2.at b.2.at in
    omega (arith, same, a.1, b.1, a.2.after, b.2.after)

written_at : (d : Draft) (p : Plan) → IsRefined d p → (t q : ℕ) → has (writes p t) q ≡ true → on_pair (writes_file p t) (slice_get p.pairs q) ≡ true
written_at d p refined t q h = (below_has (count_pairs p) (writes_pair p t) q (ap (λ (xs : List ℕ). has xs q) (sym (all_writes d p refined t)) ∙ h)).1

one_of_pair : (d : Draft) (p : Plan) → IsDraft d → IsRefined d p → (t u q : ℕ) → has (writes p t) q ≡ true → has (writes p u) q ≡ true → t ≡ u
one_of_pair d p draft refined t u q h k = by (slice_get p.pairs q) (written_at d p refined t q h) (written_at d p refined u q k)
  where
    by : (o : Option Pair) → on_pair (writes_file p t) o ≡ true → on_pair (writes_file p u) o ≡ true → t ≡ u
    by None g i = absurd cc
    by (Some x) g i = one_writer d p draft refined t u x.site.0 x.file.0 g i

is_written_by : (p : Plan) (t q : ℕ) → has (writes p t) q ≡ true → is_written p q ≡ true
unfolding writes
is_written_by p t q h = by (slice_get p.tasks t) refl h
  where
    by : (o : Option Task) → slice_get p.tasks t ≡ o → has (writes_in o) q ≡ true → is_written p q ≡ true
    by None e k = absurd cc
    by (Some x) e k = any_at_place (λ (y : Task). has (pair_numbers y.writes) q) p.tasks t x e k

each_written : (d : Draft) (p : Plan) → IsDraft d → IsRefined d p → (q : ℕ) → q < count_pairs p → is_written p q ≡ true
unfolding is_pair
each_written d p draft refined q l = by (slice_get p.pairs q) refl
  where
    by : (o : Option Pair) → slice_get p.pairs q ≡ o → is_written p q ≡ true
    by None e = absurd (slice_get_there p.pairs q l e)
    by (Some x) e =
        let here : pair_at (slice_get p.pairs q) x.site.0 x.file.0 ≡ true = ap (λ (o : Option Pair). pair_at o x.site.0 x.file.0) e ∙ and_both (nat_eq x.site.0 x.site.0) (nat_eq x.file.0 x.file.0) (is_itself x.site.0) (is_itself x.file.0) in
        let found = has_writer d p draft refined x.site.0 x.file.0 (stands_pair d p refined q x.site.0 x.file.0 here) in
        let test : writes_pair p found.0 q ≡ true = ap (on_pair (writes_file p found.0)) e ∙ found.1 in
        is_written_by p found.0 q (ap (λ (xs : List ℕ). has xs q) (all_writes d p refined found.0) ∙ has_below (count_pairs p) (writes_pair p found.0) q l test)

pub is_proper : (d : Draft) (limit : ℕ) (p : Plan) → IsDraft d → limit < 2 ^ 32 → first_fault d limit ≡ None → IsRefined d p → IsProper p
is_proper d limit p draft few none refined = record {
  tables = has_tables d limit p draft few none refined;
  tasks = is_task d limit p draft none refined;
  flow = record {
    written = each_written d p draft refined;
    one_writer = one_of_pair d p draft refined;
    one_clean = λ t u q h k. let is = has_kind p t (λ o. kind_cleans o q) h refl in absurd (let x : false ≡ true = sym (no_clean d t q is.0 (sorted d p refined t is.0 is.1)) ∙ is.2 in cc);
    one_delivery = one_delivery d p refined;
    parents = are_parents d p refined;
    acyclic = λ t r. never_returns (is_parent p) t (task_grounded d p draft refined t) r;
  };
}

pub proper_of : (d : Draft) (limit : ℕ) (r : Result Plan RefineFault) → IsDraft d → limit < 2 ^ 32 → Refines d limit r → IfOk r (λ p. IsProper p)
proper_of d limit (Ok p) draft few h = is_proper d limit p draft few h.0 h.1
proper_of d limit (Err e) draft few h = tt
