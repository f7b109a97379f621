-- The first Fail of a record.
use Rattle.std.proofs.Common.{◌≡◌, ℕ, zero, suc, ◌+◌, ◌⊎◌, inl, inr, true, false, List, [], ◌∷◌, drop, refl, sym, ap, ◌∙◌, arith}
use Rattle.std.specs.Prelude.{Option, Some, None, option_map, slice_get, Err}
use Rattle.std.specs.List.{list_any}
use Rattle.std.proofs.Math.Logic.{∥∥₁_elim}
use Rattle.plan_core.specs.declared.plan.Plan.{Plan}
use Rattle.plan_core.specs.Numbers.{or_else}
use Rattle.run_record.specs.Events.{Event, Grant, Arrive, End, Clean, Fail, Again, Regrant}
use Rattle.lease_book.specs.declared.book.Book.{Book}
use Rattle.lease_book.specs.Book.{state_at}
use Rattle.lease_rules.specs.code.Reading.{is_fail}
use Rattle.site_yard.specs.code.Ending.{Ends, failed_in, fault_of, first_failed, first_fault}
use Rattle.site_yard.specs.declared.ending.Failed.{Failed}
use Rattle.run_record.specs.declared.run_fault.RunFault.{RunFault}
use Rattle.run_record.specs.declared.run_fault.RunFault.TheVariants.{Memory}
use Rattle.site_yard.proofs.LoanLemmas.{HasBookLaws}
use Rattle.site_yard.proofs.StoredLemmas.{no_prop}

next_is : (k : ℕ) → suc k ≡ k + 1
next_is k = omega arith

drop_at : (r : List Event) (k : ℕ) (e : Event) → slice_get r k ≡ Some e → first_failed (drop k r) ≡ or_else (failed_in e) (first_failed (drop (suc k) r))
drop_at [] k e h = absurd cc
drop_at (x ∷ r) zero e h = let same : x ≡ e = cc in ap (λ z. or_else (failed_in z) (first_failed r)) same
drop_at (x ∷ r) (suc k) e h = drop_at r k e h

-- an entry that is no Fail; the first that is
pub none_here : (r : List Event) (k : ℕ) (e : Event) (o : Option Failed) → slice_get r k ≡ Some e → o ≡ failed_in e → o ≡ None → first_failed (drop k r) ≡ first_failed r → first_failed (drop (k + 1) r) ≡ first_failed r
none_here r k e o h is none before =
    ap (λ i. first_failed (drop i r)) (sym (next_is k)) ∙ ap (λ z. or_else z (first_failed (drop (suc k) r))) (sym none ∙ is) ∙ sym (drop_at r k e h) ∙ before

pub found_here : (r : List Event) (k : ℕ) (e : Event) (o : Option Failed) (f : Failed) → slice_get r k ≡ Some e → o ≡ failed_in e → o ≡ Some f → first_failed (drop k r) ≡ first_failed r → Some f ≡ first_failed r
found_here r k e o f h is some before =
    ap (λ z. or_else z (first_failed (drop (suc k) r))) (sym some ∙ is) ∙ sym (drop_at r k e h) ∙ before

pub ends_at : (p : Plan) (r : List Event) (fault : RunFault) → first_fault p r ≡ Some fault → Ends p r (Err fault)
ends_at p r Memory h = tt
ends_at p r fault h = h

-- without one the run isn't failing
none_failed : (r : List Event) → first_failed r ≡ None → list_any is_fail r ≡ false
none_failed [] h = refl
none_failed (Grant w t ∷ r) h = none_failed r h
none_failed (Arrive w t n ∷ r) h = none_failed r h
none_failed (End w t ns ∷ r) h = none_failed r h
none_failed (Clean w t ∷ r) h = none_failed r h
none_failed (Fail w t c ns ∷ r) h = absurd cc
none_failed (Again w t c ns ∷ r) h = none_failed r h
none_failed (Regrant w t ∷ r) h = none_failed r h

pub not_failing : (b : Book) → HasBookLaws b → first_failed b.history.events ≡ None → (state_at b).failing ≡ true → ⊥
not_failing b laws none failing =
    ∥∥₁_elim b.kept.legal no_prop (λ l. absurd (let x : true ≡ false = sym failing ∙ (laws.records.reads_so b.history.events l).failing ∙ none_failed b.history.events none in cc))

pub none_ends : (p : Plan) (r : List Event) (o : Option Failed) → o ≡ first_failed r → o ≡ None → first_fault p r ≡ None
none_ends p r o is none = ap (option_map (λ (f : Failed). fault_of p f.task f.cause)) (sym is ∙ none)

pub some_ends : (p : Plan) (r : List Event) (o : Option Failed) (f : Failed) (fault : RunFault) → o ≡ first_failed r → o ≡ Some f → fault ≡ fault_of p f.task f.cause → Ends p r (Err fault)
some_ends p r o f fault is some named = ends_at p r fault (ap (option_map (λ (f : Failed). fault_of p f.task f.cause)) (sym is ∙ some) ∙ ap Some (sym named))

pub ends_complete : (b : Book) (P : Type 0) → HasBookLaws b → (o : Option Failed) → o ≡ first_failed b.history.events → o ≡ None → P ⊎ ((state_at b).failing ≡ true) → P
ends_complete b P laws o is none (inl done) = done
ends_complete b P laws o is none (inr failing) = absurd (not_failing b laws (sym is ∙ none) failing)
