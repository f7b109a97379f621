-- Each task of a draft's plan is a Run, a Transfer to a site or a delivery, and each of these is a task.
use Rattle.std.proofs.Common.{◌≡◌, ℕ, ◌+◌, ◌-◌, ◌<◌, ◌≤◌, true, List, ◌++◌, length, map, refl, sym, ap, ◌∙◌, arith, ◌⊎◌, inl, inr}
use Rattle.std.specs.Prelude.{Option, Some, None, option_map, slice_get}
use Rattle.std.proofs.lemmas.Option.{slice_get-map}
use Rattle.std.proofs.lemmas.List.{length-map}
use Rattle.values.specs.declared.numbers.JobId.{JobId}
use Rattle.workflow_core.specs.Requested.{is_requested}
use Rattle.plan_core.specs.declared.plan.Plan.{Plan}
use Rattle.plan_core.specs.declared.plan.Task.{Task}
use Rattle.plan_core.specs.declared.plan.TaskKind.{TaskKind}
use Rattle.plan_core.specs.Numbers.{below}
use Rattle.transfer_refiner.specs.Tasks.{grid}
use Rattle.plan_core.specs.Words.{kind, kind_in}
use Rattle.transfer_refiner.specs.Draft.{Draft, moves}
use Rattle.transfer_refiner.specs.Tasks.{kinds_of, count_files, count_execution_sites, run, transfer, delivery}
use Rattle.transfer_refiner.specs.Refined.{IsRefined}
use Rattle.transfer_refiner.proofs.SliceLemmas.{place_in, place_left, place_right, place_map, map_place, below_place, grid_place, place_grid}

-- the delivery of f is task i after the Runs
pub record DeliveredAt (d : Draft) (i f : ℕ) : Type 0 where
  pub after : length (grid (count_files d) (count_execution_sites d) (moves d)) ≤ i
  pub at : slice_get (below (count_files d) (is_requested d.workflow)) (i - length (grid (count_files d) (count_execution_sites d) (moves d))) ≡ Some f

pub data Sort (d : Draft) (t : ℕ) (k : TaskKind) : Type 0 where
  a_run : (js : List JobId) → slice_get d.parts t ≡ Some js → run d js ≡ k → Sort d t k
  a_transfer : (f s i : ℕ) → f < count_files d → s < count_execution_sites d → moves d f s ≡ true → transfer d (f, s) ≡ k → t ≡ length d.parts + i → slice_get (grid (count_files d) (count_execution_sites d) (moves d)) i ≡ Some (f, s) → Sort d t k
  a_delivery : (f i : ℕ) → f < count_files d → is_requested d.workflow f ≡ true → delivery d f ≡ k → t ≡ length d.parts + i → DeliveredAt d i f → Sort d t k

pub sort_of : (d : Draft) (t : ℕ) (k : TaskKind) → slice_get (kinds_of d) t ≡ Some k → Sort d t k
unfolding kinds_of
sort_of d t k h = by (place_in runs (transfers ++ deliveries) t k h)
  where
    runs : List TaskKind
    runs = map (run d) d.parts

    transfers : List TaskKind
    transfers = map (transfer d) (grid (count_files d) (count_execution_sites d) (moves d))

    deliveries : List TaskKind
    deliveries = map (delivery d) (below (count_files d) (is_requested d.workflow))

    long : length transfers ≡ length (grid (count_files d) (count_execution_sites d) (moves d))
    long = length-map (grid (count_files d) (count_execution_sites d) (moves d)) (transfer d)

    by : (slice_get runs t ≡ Some k) ⊎ ((length runs ≤ t) × (slice_get (transfers ++ deliveries) (t - length runs) ≡ Some k)) → Sort d t k
    by (inl e) = let found = place_map (run d) d.parts t k e in a_run found.0 found.1 found.2
    by (inr e) = on (t - length runs) (let n : length runs ≡ length d.parts = length-map d.parts (run d) in let l : length runs ≤ t = e.0 in omega arith) (place_in transfers deliveries (t - length runs) k e.1)
      where
        on : (i : ℕ) → t ≡ length d.parts + i → (slice_get transfers i ≡ Some k) ⊎ ((length transfers ≤ i) × (slice_get deliveries (i - length transfers) ≡ Some k)) → Sort d t k
        on i at (inl g) =
            let found = place_map (transfer d) (grid (count_files d) (count_execution_sites d) (moves d)) i k g in
            let is = grid_place (count_files d) (count_execution_sites d) (moves d) i found.0 found.1 in
            a_transfer found.0.0 found.0.1 i is.0 is.1 is.2 found.2 at found.1
        on i at (inr g) =
            let found = place_map (delivery d) (below (count_files d) (is_requested d.workflow)) (i - length transfers) k g.1 in
            let is = below_place (count_files d) (is_requested d.workflow) (i - length transfers) found.0 found.1 in
            a_delivery found.0 i is.0 is.1 found.2 at (record { after = (let l : length transfers ≤ i = g.0 in omega (arith, l, long)); at = ap (λ (n : ℕ). slice_get (below (count_files d) (is_requested d.workflow)) (i - n)) (sym long) ∙ found.1 })

pub kind_is : (d : Draft) (p : Plan) → IsRefined d p → (t : ℕ) → kind p t ≡ slice_get (kinds_of d) t
unfolding kind
kind_is d p refined t = by (slice_get p.tasks t) ∙ sym (slice_get-map (λ (x : Task). x.kind) p.tasks t) ∙ ap (λ (ks : List TaskKind). slice_get ks t) refined.kinds
  where
    by : (o : Option Task) → kind_in o ≡ option_map (λ (x : Task). x.kind) o
    by None = refl
    by (Some x) = refl

pub sorted : (d : Draft) (p : Plan) → IsRefined d p → (t : ℕ) (k : TaskKind) → kind p t ≡ Some k → Sort d t k
sorted d p refined t k e = sort_of d t k (sym (kind_is d p refined t) ∙ e)

pub the_run : (d : Draft) (p : Plan) → IsRefined d p → (c : ℕ) (js : List JobId) → slice_get d.parts c ≡ Some js → kind p c ≡ Some (run d js)
unfolding kinds_of
the_run d p refined c js h =
    kind_is d p refined c
    ∙ place_left (map (run d) d.parts) (map (transfer d) (grid (count_files d) (count_execution_sites d) (moves d)) ++ map (delivery d) (below (count_files d) (is_requested d.workflow))) c (run d js) (map_place (run d) d.parts c js h)

pub the_transfer : (d : Draft) (p : Plan) → IsRefined d p → (f s : ℕ) → f < count_files d → s < count_execution_sites d → moves d f s ≡ true → (t : ℕ) × (kind p t ≡ Some (transfer d (f, s)))
unfolding kinds_of
the_transfer d p refined f s l m h =
    let found = place_grid (count_files d) (count_execution_sites d) (moves d) f s l m h in (
      length (map (run d) d.parts) + found.0,
      kind_is d p refined (length (map (run d) d.parts) + found.0)
          ∙ place_right (map (run d) d.parts) (map (transfer d) (grid (count_files d) (count_execution_sites d) (moves d)) ++ map (delivery d) (below (count_files d) (is_requested d.workflow))) found.0 (transfer d (f, s))
          (place_left (map (transfer d) (grid (count_files d) (count_execution_sites d) (moves d))) (map (delivery d) (below (count_files d) (is_requested d.workflow))) found.0 (transfer d (f, s))
          (map_place (transfer d) (grid (count_files d) (count_execution_sites d) (moves d)) found.0 (f, s) found.1)),
    )
