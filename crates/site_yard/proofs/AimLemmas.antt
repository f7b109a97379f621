-- The one place of a Transfer, and what is published by a failure.
use Rattle.std.proofs.Common.{◌≡◌, ℕ, zero, suc, ◌≤◌, Bool, true, false, List, [], ◌∷◌, map, length, take, refl, sym, ap, ◌∙◌, arith}
use Rattle.std.specs.Prelude.{Option, Some, None}
use Rattle.outside.specs.declared.operation.Operation.{Operation}
use Rattle.outside.specs.declared.operation.Operation.TheVariants.{Publish}
use Rattle.outside.specs.declared.store.Store.{Store}
use Rattle.outside.specs.code.Store.{Change, Publishes}
use Rattle.values.specs.Apply.{Apply}
use Rattle.outside.specs.code.Lending.{placing}
use Rattle.plan_core.specs.declared.plan.Plan.{Plan}
use Rattle.plan_core.specs.declared.plan.TaskKind.{TaskKind}
use Rattle.plan_core.specs.declared.plan.TaskKind.TheVariants.{Transfer, Run, Clean as CleanTask}
use Rattle.plan_core.specs.declared.plan.Target.TheVariants.{Site as Into, Delivery}
use Rattle.plan_core.specs.code.Proper.{IsProper}
use Rattle.plan_core.specs.Words.{declared, is_transfer_kind, kind, writes}
use Rattle.storage_simulation.specs.Goods.{or_zero}
use Rattle.run_record.specs.declared.entry.Cause.{Cause}
use Rattle.run_record.specs.declared.entry.Cause.TheVariants.{HostFailed, Memory}
use Rattle.site_yard.specs.code.Changes.{arrival, changes_of, moved, publishes}
use Rattle.site_yard.specs.code.Law.{HasPlanLaws}
use Rattle.site_yard.specs.code.Loan.{Aim, delivery_target, pair_target, targets, targets_in}
use Rattle.plan_core.specs.Names.{file_name, pair_file, site_name}
use Rattle.site_yard.specs.Trace.{arrived_at, operations_of, published_at}
use Rattle.site_yard.specs.code.Truthful.{AreSizes, IsCause, IsTrue}
use Rattle.site_yard.specs.code.Yard.{IsStop, IsTold}
use Rattle.site_yard.proofs.KeptLemmas.{failed}
use Rattle.site_yard.proofs.PlacedLemmas.{operation_at}
use Rattle.site_yard.proofs.PlanLemmas.{transfer_writes}

-- the declared size of the file that a Transfer moves
abbrev pub moved_limit : Plan → Option TaskKind → ℕ
moved_limit p (Some (Transfer f from to)) = or_zero (declared p f.0)
moved_limit p _ = 0

-- the place to which a Transfer moves: what arrives there is what it carries
pub record IsAimOf (p : Plan) (t : ℕ) (k : Option TaskKind) (x : Aim) : Type 0 where
  pub are : targets p t ≡ x ∷ []
  pub operation_is : (n : ℕ) → operation_at x.place n ∷ [] ≡ arrived_at p k n
  pub change_is : (bytes : List ℕ) → placing x.place bytes ∷ [] ≡ arrival p k bytes
  pub moved_is : (v : ℕ → Option (List ℕ)) → moved v k ≡ v x.file
  pub limit_is : moved_limit p k ≡ x.limit

pub aim_of : (p : Plan) → IsProper p → HasPlanLaws p → (t : ℕ) (k : Option TaskKind) → kind p t ≡ k → is_transfer_kind k ≡ true → (x : Aim) × IsAimOf p t k x
aim_of p proper laws t None e h = absurd cc
aim_of p proper laws t (Some (Run a js)) e h = absurd cc
aim_of p proper laws t (Some (CleanTask q)) e h = absurd cc
aim_of p proper laws t (Some (Transfer f from Delivery)) e h = (
  delivery_target p f.0,
  record {
    are = ap (λ z. targets_in p z (writes p t)) e;
    operation_is = λ n. refl;
    change_is = λ bytes. refl;
    moved_is = λ v. refl;
    limit_is = refl;
  },
)
aim_of p proper laws t (Some (Transfer f from (Into a))) e h =
    let found = transfer_writes p proper laws t f from a e in
    let g : ℕ = found.0 in (
      pair_target p g,
      record {
        are = ap (λ z. targets_in p z (writes p t)) e ∙ ap (map (pair_target p)) found.3;
        operation_is = λ n. ap (λ x. Publish (site_name p x) (file_name p (pair_file p g)) n ∷ []) found.1 ∙ ap (λ y. Publish (site_name p a.0) (file_name p y) n ∷ []) found.2;
        change_is = λ bytes. ap (λ x. Publishes (site_name p x) (file_name p (pair_file p g)) bytes ∷ []) found.1 ∙ ap (λ y. Publishes (site_name p a.0) (file_name p y) bytes ∷ []) found.2;
        moved_is = λ v. ap v (sym found.2);
        limit_is = ap (λ y. or_zero (declared p y)) (sym found.2);
      },
    )

pub length_take : (xs : List ℕ) (k : ℕ) → k ≤ length xs → length (take k xs) ≡ k
length_take xs zero l = refl
length_take [] (suc k) l = absurd (omega (arith, l))
length_take (x ∷ xs) (suc k) l = ap suc (length_take xs k (omega (arith, l)))

-- a failure of the host, or want of memory, after the first drafts were published
stop_so : (apply : Apply) (told : List ℕ → Option (List ℕ)) (p : Plan) (c : ℕ → ℕ → Option (List ℕ)) (t : ℕ) (cause : Cause) → IsStop cause → IsCause apply told p c t cause
stop_so apply told p c t HostFailed h = tt
stop_so apply told p c t Memory h = tt
stop_so apply told p c t cause h = absurd h

pub stop_told : (apply : Apply) (p : Plan) (m : Store) (o : Option Store) (t : ℕ) (cause : Cause) → IsStop cause → IsTold apply p m o t cause
stop_told apply p m None t cause h = tt
stop_told apply p m (Some s) t cause h = stop_so apply _ p _ t cause h

pub stop_true : (apply : Apply) (told : List ℕ → Option (List ℕ)) (p : Plan) (c : ℕ → ℕ → Option (List ℕ)) (b : Bool) (w t : ℕ) (cause : Cause) (ns : List ℕ) → AreSizes p c t ns → IsStop cause → IsTrue apply told p c (failed b w t cause ns)
stop_true apply told p c true w t cause ns sizes h = sizes
stop_true apply told p c false w t cause ns sizes h = (sizes, stop_so apply told p c t cause h)

pub failed_publishes : (p : Plan) (c : ℕ → ℕ → Option (List ℕ)) (b : Bool) (w t : ℕ) (cause : Cause) (ns : List ℕ) (cs : List Change) → cs ≡ map (publishes p c t) (take (length ns) (writes p t)) → cs ≡ changes_of p c (failed b w t cause ns)
failed_publishes p c true w t cause ns cs is = is
failed_publishes p c false w t cause ns cs is = is

pub failed_at : (p : Plan) (b : Bool) (w t : ℕ) (cause : Cause) (ns : List ℕ) (os : List Operation) → os ≡ published_at p (writes p t) ns → os ≡ operations_of p (failed b w t cause ns)
failed_at p true w t cause ns os is = is
failed_at p false w t cause ns os is = is
