-- What a yard's calls come to for a task.
use Rattle.std.proofs.Common.{◌≡◌, ℕ, List, [], ◌∷◌, ◌++◌, refl, sym, subst}
use Rattle.std.specs.Prelude.{Option}
use Rattle.outside.specs.declared.counts.Counts.{Counts}
use Rattle.outside.specs.declared.store.Store.{Store}
use Rattle.plan_core.specs.declared.plan.Plan.{Plan}
use Rattle.run_record.specs.declared.entry.Cause.{Cause}
use Rattle.run_record.specs.Events.{Event}
use Rattle.lease_book.specs.Book.{failure, is_tried_again}
use Rattle.lease_rules.specs.State.{State}
use Rattle.site_yard.specs.code.Failures.{RoseBy, tool_fault_in}
use Rattle.site_yard.specs.code.Yard.{Adds, IsFailure, IsSettled}
use Rattle.worker_gate.specs.code.Stepping.{DoesTask}
use Rattle.worker_gate.specs.code.Tending.{EndsTask, Finishes}
use Rattle.worker_gate.proofs.TurningLemmas.{done_last}
use Rattle.worker_gate.proofs.WorkLemmas.{failed_done, failed_faults, failure_done, rose_zero, settled_done}

pub failure_ends : {Takes : Event → ℕ → Type 0} (w t : ℕ) (r new : List Event) (o : Option Store) (before now_ : Counts) → Adds r new (IsFailure w t) Takes o before now_ → EndsTask w t 0 r new
failure_ends w t r new o before now_ adds = let d = failure_done w t adds.entry adds.kind in record { entry = adds.entry; is = adds.is; done = d.0; failures = d.1 }

pub settled_ends : {Takes : Event → ℕ → Type 0} (p : Plan) (w t : ℕ) (sizes : List ℕ) (r new : List Event) (o : Option Store) (before now_ : Counts) → Adds r new (IsSettled p w t sizes) Takes o before now_ → EndsTask w t 0 r new
settled_ends p w t sizes r new o before now_ adds = let d = settled_done p w t sizes adds.entry adds.kind in record { entry = adds.entry; is = adds.is; done = d.0; failures = d.1 }

pub abandoned_ends : (p : Plan) (s : State) (w t : ℕ) (c : Cause) (r new : List Event) → new ≡ r ++ failure p s w t c [] ∷ [] → EndsTask w t (tool_fault_in c) r new
abandoned_ends p s w t c r new is = record {
  entry = failure p s w t c [];
  is = is;
  done = failed_done (is_tried_again p s t c) w t c;
  failures = failed_faults (is_tried_again p s t c) w t c;
}

pub ends_finishes : (w t n : ℕ) (r new : List Event) → EndsTask w t n r new → Finishes w t n r new
ends_finishes w t n r new ends = record { entry = ends.entry; is = ends.is; last = done_last w t ends.entry ends.done; failures = ends.failures }

pub ends_does : (w t n a b : ℕ) (r new : List Event) → EndsTask w t n r new → RoseBy n a b → DoesTask w r new t a b
ends_does w t n a b r new ends rose = record { entry = ends.entry; is = ends.is; done = ends.done; counted = subst (λ k. RoseBy k a b) (sym ends.failures) rose }

pub none_does : {Takes : Event → ℕ → Type 0} (w t a : ℕ) (r new : List Event) (o : Option Store) (before now_ : Counts) → Adds r new (IsFailure w t) Takes o before now_ → DoesTask w r new t a a
none_does w t a r new o before now_ adds = ends_does w t 0 a a r new (failure_ends w t r new o before now_ adds) (rose_zero 0 a refl)
