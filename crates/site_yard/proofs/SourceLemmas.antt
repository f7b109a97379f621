-- A pair that was published and not swept holds what its writer carries.
use Rattle.std.proofs.Common.{◌≡◌, ℕ, true, false, List, length, refl, sym, ap, ◌∙◌}
use Rattle.std.specs.Prelude.{Option, Some, None, option_map}
use Rattle.std.specs.FinMap as files
use Rattle.values.specs.code.SiteMap.{pair_at}
use Rattle.values.specs.Apply.{Apply}
use Rattle.outside.specs.code.Store.{changed_by}
use Rattle.outside.specs.declared.store.Store.{Store}
use Rattle.plan_core.specs.declared.plan.Plan.{Plan}
use Rattle.plan_core.specs.Numbers.{has}
use Rattle.plan_core.specs.code.Proper.{IsProper}
use Rattle.plan_core.specs.Words.{writes}
use Rattle.run_record.specs.Events.{Event}
use Rattle.site_yard.specs.Changes.{carries}
use Rattle.site_yard.specs.code.Changes.{changes, or_nil}
use Rattle.site_yard.specs.code.Kept.{IsTruthful}
use Rattle.site_yard.specs.code.Law.{HasPlanLaws}
use Rattle.plan_core.specs.Names.{pair_file, pair_file_name, pair_site_name}
use Rattle.site_yard.specs.code.Places.{is_published, is_swept}
use Rattle.site_yard.proofs.HoldsLemmas.{IsSized, record_sets, record_sized}
use Rattle.site_yard.proofs.PlaceLemmas.{pair_changed}
use Rattle.site_yard.proofs.SuitsLemmas.{AllSuit}

pub known : (o : Option (List ℕ)) (n : ℕ) → option_map length o ≡ Some n → o ≡ Some (or_nil o)
known None n e = absurd cc
known (Some b) n e = refl

-- the pair holds what its writer carries, which is no longer than declared
abbrev pub IsHeld : Plan → (ℕ → ℕ → Option (List ℕ)) → Store → ℕ → ℕ → Type 0
IsHeld p c s q t = (has (writes p t) q ≡ true) × (pair_at s.scratch (pair_site_name p q) (pair_file_name p q) ≡ c t (pair_file p q)) × IsSized p (c t (pair_file p q)) (pair_file p q)

-- a pair that was published and not swept; the entries are Truthful, and the store is the marked one with their changes
pub published_kept : (p : Plan) → IsProper p → HasPlanLaws p → (apply : Apply) (r : List Event) (s m : Store) → AllSuit p r → s ≡ changed_by m (changes p (carries apply p m) r) → IsTruthful apply p m r → (q : ℕ) → is_published p r q ≡ true → is_swept p r q ≡ false → (t : ℕ) × IsHeld p (carries apply p m) s q t
published_kept p proper plan_laws apply r s m suits changed truthful q put free =
    let c : ℕ → ℕ → Option (List ℕ) = carries apply p m in
    let written = record_sized apply (λ pfn. files.get m.replicas pfn) p proper plan_laws c q r suits truthful put in
    let t : ℕ = written.0 in
    let is = known (c t (pair_file p q)) written.2.0 written.2.1 in
    let stands : pair_at s.scratch (pair_site_name p q) (pair_file_name p q) ≡ c t (pair_file p q) =
    ap (λ z. pair_at z.scratch (pair_site_name p q) (pair_file_name p q)) changed
    ∙ pair_changed m (changes p c r) (pair_site_name p q) (pair_file_name p q)
    ∙ record_sets p proper plan_laws c q t (or_nil (c t (pair_file p q))) written.1 is r _ suits free put
    ∙ sym is in
    (t, (written.1, stands, written.2))
