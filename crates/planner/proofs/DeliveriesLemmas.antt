-- Plans deliver the requested files, under their names.
use Rattle.std.proofs.Common.{◌≡◌, ℕ, zero, suc, ◌<◌, ◌≤◌, ◌+◌, true, false, List, [], ◌∷◌, ◌++◌, length, map, refl, sym, ap, subst, ◌∙◌, nat_eq, ◌⊎◌, inl, inr, arith}
use Rattle.std.specs.Prelude.{Option, Some, None, slice_get, slice_index_or}
use Rattle.std.proofs.lemmas.Bool.{cases_lt}
use Rattle.std.proofs.lemmas.Option.{slice_get_within}
use Rattle.workflow_core.specs.Requested.{is_requested}
use Rattle.workflow_core.specs.declared.workflow.Workflow.{Workflow}
use Rattle.plan_request.specs.declared.request.PlanRequest.{PlanRequest}
use Rattle.plan_core.specs.declared.plan.Plan.{Plan}
use Rattle.plan_core.specs.declared.plan.PlanFile.{PlanFile}
use Rattle.plan_core.specs.declared.plan.Task.{Task}
use Rattle.plan_core.specs.declared.plan.TaskKind.{TaskKind}
use Rattle.plan_core.specs.Numbers.{below}
use Rattle.plan_core.specs.Words.{count_tasks, delivers, kind, kind_delivers, kind_in}
use Rattle.plan_core.proofs.TestLemmas.{is_itself}
use Rattle.transfer_refiner.specs.Draft.{Draft, moves}
use Rattle.transfer_refiner.specs.Tasks.{count_files, count_execution_sites, delivery, grid, kinds_of, planned_file, run, transfer}
use Rattle.transfer_refiner.specs.Refined.{IsRefined}
use Rattle.transfer_refiner.proofs.SliceLemmas.{map_place, place_below, place_left, place_right}
use Rattle.transfer_refiner.proofs.SortLemmas.{Sort, a_delivery, a_run, a_transfer, kind_is, sorted}
use Rattle.transfer_refiner.proofs.TableLemmas.{all_long}
use Rattle.cleanup_refiner.specs.Cleans.{clean_of, with_cleans}
use Rattle.cleanup_refiner.proofs.CleanTaskLemmas.{New, Old, Past, Standing, old_kind, standing}
use Rattle.planner.specs.declared.inputs.Survey.{Survey}
use Rattle.planner.specs.code.Deliveries.{DeliversRequests, IsDelivered}
use Rattle.planner.specs.code.Planning.{IsPlanOf, draft}
use Rattle.planner.proofs.MeaningLemmas.{with_strategy}

-- ---- names

place_all : (n f : ℕ) → f < n → slice_get (below n (λ x. true)) f ≡ Some f
unfolding below
place_all zero f l = absurd (omega arith)
place_all (suc n) f l = by (cases_lt f n) (λ m. place_all n f m)
  where
    by : (f < n) ⊎ (n ≤ f) → (f < n → slice_get (below n (λ x. true)) f ≡ Some f) → slice_get (below n (λ x. true) ++ n ∷ []) f ≡ Some f
    by (inl m) rest = place_left (below n (λ x. true)) (n ∷ []) f f (rest m)
    by (inr m) rest =
        let same : f ≡ length (below n (λ x. true)) + 0 = omega (arith, all_long n, m, l) in
        let last : n ≡ f = omega (arith, m, l) in
        ap (slice_get (below n (λ x. true) ++ n ∷ [])) same ∙ place_right (below n (λ x. true)) (n ∷ []) 0 n refl ∙ ap Some last

named : (d : Draft) (p : Plan) → IsRefined d p → (f : ℕ) → f < count_files d → slice_get p.files f ≡ Some (planned_file d f)
named d p refined f l = ap (λ (xs : List PlanFile). slice_get xs f) refined.files ∙ map_place (planned_file d) (below (count_files d) (λ x. true)) f f (place_all (count_files d) f l)

-- ---- deliveries

kind_known : (p : Plan) (t f : ℕ) → kind_delivers (kind p t) f ≡ true → (k : TaskKind) × (kind p t ≡ Some k)
kind_known p t f h = by (kind p t) refl h
  where
    by : (o : Option TaskKind) → kind p t ≡ o → kind_delivers o f ≡ true → (k : TaskKind) × (kind p t ≡ Some k)
    by None e k = absurd cc
    by (Some x) e k = (x, e)

same_number : (a b : ℕ) → nat_eq a b ≡ true → a ≡ b
same_number a b e = grind (arith, e)

delivered_is_requested : (d : Draft) (p : Plan) → IsRefined d p → (t f : ℕ) → delivers p t f ≡ true → (f < count_files d) × (is_requested d.workflow f ≡ true)
delivered_is_requested d p refined t f h =
    let known = kind_known p t f h in
    by known.0 (ap (λ (o : Option TaskKind). kind_delivers o f) (sym known.1) ∙ h) (sorted d p refined t known.0 known.1)
  where
    by : (k : TaskKind) → kind_delivers (Some k) f ≡ true → Sort d t k → (f < count_files d) × (is_requested d.workflow f ≡ true)
    by k e (a_run js there is) = absurd (let x : false ≡ true = ap (λ (k : TaskKind). kind_delivers (Some k) f) is ∙ e in cc)
    by k e (a_transfer g s i l m moved is at there) = absurd (let x : false ≡ true = ap (λ (k : TaskKind). kind_delivers (Some k) f) is ∙ e in cc)
    by k e (a_delivery g i l asked is at there) =
        let test : nat_eq g f ≡ true = ap (λ (k : TaskKind). kind_delivers (Some k) f) is ∙ e in
        let same : g ≡ f = same_number g f test in
        (subst (λ (x : ℕ). x < count_files d) same l, subst (λ (x : ℕ). is_requested d.workflow x ≡ true) same asked)

the_delivery : (d : Draft) (p : Plan) → IsRefined d p → (f : ℕ) → f < count_files d → is_requested d.workflow f ≡ true → (t : ℕ) × (kind p t ≡ Some (delivery d f))
unfolding kinds_of
the_delivery d p refined f l asked =
    let found = place_below (count_files d) (is_requested d.workflow) f l asked in
    let runs : List TaskKind = map (run d) d.parts in
    let transfers : List TaskKind = map (transfer d) (grid (count_files d) (count_execution_sites d) (moves d)) in
    let deliveries : List TaskKind = map (delivery d) (below (count_files d) (is_requested d.workflow)) in (
      length runs + (length transfers + found.0),
      kind_is d p refined (length runs + (length transfers + found.0))
          ∙ place_right runs (transfers ++ deliveries) (length transfers + found.0) (delivery d f)
          (place_right transfers deliveries found.0 (delivery d f) (map_place (delivery d) (below (count_files d) (is_requested d.workflow)) found.0 f found.1)),
    )

requested_is_delivered : (d : Draft) (p : Plan) → IsRefined d p → (f : ℕ) → f < count_files d → is_requested d.workflow f ≡ true → IsDelivered p f
requested_is_delivered d p refined f l asked =
    let task = the_delivery d p refined f l asked in
    (task.0, ap (λ (o : Option TaskKind). kind_delivers o f) task.1 ∙ is_itself f)

-- ---- with Cleans

kind_in_cleaned : (p : Plan) (t : ℕ) (o : Option Task) → slice_get (with_cleans p).tasks t ≡ o → kind (with_cleans p) t ≡ kind_in o
unfolding kind
kind_in_cleaned p t o e = ap kind_in e

cleaned_delivers : (p : Plan) (t f : ℕ) → delivers (with_cleans p) t f ≡ true → delivers p t f ≡ true
cleaned_delivers p t f h = by (standing p t)
  where
    by : Standing p t → delivers p t f ≡ true
    by (Old l e) = ap (λ (o : Option TaskKind). kind_delivers o f) (sym (old_kind p t l)) ∙ h
    by (New n m i e) = absurd (let x : false ≡ true = ap (λ (o : Option TaskKind). kind_delivers o f) (sym (kind_in_cleaned p t (Some (clean_of p n)) e)) ∙ h in cc)
    by (Past l e) = absurd (let x : false ≡ true = ap (λ (o : Option TaskKind). kind_delivers o f) (sym (kind_in_cleaned p t None e)) ∙ h in cc)

in_range : (p : Plan) (t f : ℕ) → delivers p t f ≡ true → t < count_tasks p
unfolding kind
in_range p t f h = by (slice_get p.tasks t) refl h
  where
    by : (o : Option Task) → slice_get p.tasks t ≡ o → kind_delivers (kind_in o) f ≡ true → t < count_tasks p
    by None e k = absurd cc
    by (Some x) e k = slice_get_within p.tasks t x e

delivers_cleaned : (p : Plan) (t f : ℕ) → delivers p t f ≡ true → delivers (with_cleans p) t f ≡ true
delivers_cleaned p t f h = ap (λ (o : Option TaskKind). kind_delivers o f) (old_kind p t (in_range p t f h)) ∙ h

-- ---- the law

bare_delivers : (r : PlanRequest) (s : Survey) (d : Draft) (p : Plan) → d.workflow ≡ s.workflow → d.request ≡ r → IsRefined d p → DeliversRequests r s p
bare_delivers r s d p workflow request refined = record {
  policy = refined.policy ∙ ap (λ (x : PlanRequest). x.policy) request;
  named = λ f l. let m = subst (λ (w : Workflow). f < length w.files) (sym workflow) l in record {
    file = planned_file d f;
    is = named d p refined f m;
    named = ap (λ (w : Workflow). slice_index_or w.files f []) workflow;
  };
  requested = λ f h. let found = delivered_is_requested d p refined h.0 f h.1 in record {
    in_range = subst (λ (w : Workflow). f < length w.files) workflow found.0;
    requested = subst (λ (w : Workflow). is_requested w f ≡ true) workflow found.1;
  };
  delivered = λ f asked. requested_is_delivered d p refined f (subst (λ (w : Workflow). f < length w.files) (sym workflow) asked.in_range) (subst (λ (w : Workflow). is_requested w f ≡ true) (sym workflow) asked.requested);
}

with_cleans_delivers : (r : PlanRequest) (s : Survey) (p : Plan) → DeliversRequests r s p → DeliversRequests r s (with_cleans p)
with_cleans_delivers r s p bare = record {
  policy = bare.policy;
  named = λ f l. let known = bare.named f l in record { file = known.file; is = known.is; named = known.named };
  requested = λ f h. bare.requested f (h.0, cleaned_delivers p h.0 f h.1);
  delivered = λ f asked. let found = bare.delivered f asked in (found.0, delivers_cleaned p found.0 f found.1);
}

pub plan_delivers : (r : PlanRequest) (s : Survey) (limit : ℕ) (p : Plan) → IsPlanOf r s limit p → DeliversRequests r s p
plan_delivers r s limit p planned =
    let bare = bare_delivers r s (draft r s planned.sites planned.clusters) planned.bare refl refl planned.fine.refined in
    subst (DeliversRequests r s) (sym planned.cleaned_is) (with_strategy (DeliversRequests r s) r.cleanup planned.bare bare (with_cleans_delivers r s planned.bare bare))
