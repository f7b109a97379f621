-- Tasks that wait again stand at the front, and the start of the first of them changes no value.
use Rattle.std.proofs.Common.{◌≡◌, ℕ, Bool, false, List, ◌∷◌, ◌++◌, take, sym, ◌∙◌}
use Rattle.std.specs.Prelude.{filter}
use Rattle.plan_core.specs.declared.plan.Plan.{Plan}
use Rattle.plan_core.specs.Numbers.{has}
use Rattle.plan_core.specs.Words.{cleans}
use Rattle.storage_simulation.specs.Goods.{makes}
use Rattle.place_peaks.specs.Places.{held_by, started, swept, there}
use Rattle.place_peaks.specs.Values.{values}
use Rattle.place_peaks.proofs.PlacesLemmas.{AreUnmade}
use Rattle.place_peaks.proofs.SettleLemmas.{front_last}
use Rattle.place_peaks.proofs.UsageLemmas.{start_usage, sweep_usage}
use Rattle.place_peaks.proofs.ValuesLemmas.{OnFronts, values_kept}

-- The start of the task at the front changes no value of the line.
pub front_started : (p : Plan) (size : ℕ → ℕ) (left : ℕ → Bool) (front xs : List ℕ) (t s : ℕ) → ((g : ℕ) → cleans p t g ≡ false)
    → values (there p s) left (held_by p (started p t size) s) front xs ≡ values (there p s) left (held_by p size s) (t ∷ front) xs
front_started p size left front xs t s off = values_kept (there p s) left (held_by p size s) (held_by p (started p t size) s) (t ∷ front) front xs
    (λ k. start_usage p size (front ++ take k (filter left xs)) t s off ∙ sym (front_last p size (front ++ take k (filter left xs)) t s))

-- Nor does that of a Clean at the front.
pub front_swept : (p : Plan) (size : ℕ → ℕ) (left : ℕ → Bool) (front xs : List ℕ) (t s : ℕ) → ((g : ℕ) → has (makes p t) g ≡ false) → OnFronts (λ zs. AreUnmade p t (front ++ zs)) (filter left xs)
    → values (there p s) left (held_by p (swept p t size) s) front xs ≡ values (there p s) left (held_by p size s) (t ∷ front) xs
front_swept p size left front xs t s off unmade = values_kept (there p s) left (held_by p size s) (held_by p (swept p t size) s) (t ∷ front) front xs
    (λ k. sweep_usage p size (front ++ take k (filter left xs)) t s off (unmade k) ∙ sym (front_last p size (front ++ take k (filter left xs)) t s))
