-- What is held of each pair, and what it comes to at each site.
use Rattle.std.specs.Prelude.{◌≡◌, ℕ, ◌<◌, ◌≤◌, ◌==◌, ◌^◌, Bool, false, cond, get_or, List, [], ◌∷◌, length, Option, Some, None}
use Rattle.values.specs.Numbers.{total}
use Rattle.plan_core.specs.declared.plan.Plan.{Plan}
use Rattle.plan_core.specs.Words.{count_pairs, writes}
use Rattle.storage_simulation.specs.declared.standing.Held.{Held}
use Rattle.storage_simulation.specs.Goods.{count_sites, goods, is_delivery, lies_at}
use Rattle.storage_simulation.specs.code.Standings.{at_in}
use Rattle.storage_simulation.specs.Standings.{held_size}
use Rattle.run_record.specs.Events.{Event, Arrive, End}
use Rattle.record_audit.specs.declared.holdings.Holdings.{Holdings}

-- what goods of these sizes come to at a place
abbrev pub load : Plan → (ℕ → ℕ) → ℕ → ℕ
load p w q = total (goods p) (λ g. cond (lies_at p g q) (w g) 0)

-- one number for each pair and for each site; those of the sites are sums of the others
pub record AddsUp (p : Plan) (h : Holdings) : Type 0 where
  pub pairs : length h.sizes.items ≡ count_pairs p
  pub sites : length h.sums.items ≡ count_sites p
  pub small : (g : ℕ) → at_in 0 h.sizes.items g ≤ 2 ^ 40
  pub sums : (q : ℕ) → q < count_sites p → at_in 0 h.sums.items q ≡ load p (at_in 0 h.sizes.items) q

-- these numbers are the sizes of what is held of the pairs
abbrev pub AreSizes : Plan → (ℕ → ℕ) → (ℕ → Held) → Type 0
AreSizes p w held = (g : ℕ) → g < count_pairs p → w g ≡ held_size (held g)

abbrev pub Shows : Plan → Holdings → (ℕ → Held) → Type 0
Shows p h held = AreSizes p (at_in 0 h.sizes.items) held

-- a site by its number
abbrev pub is_this : Option ℕ → ℕ → Bool
is_this None q = false
is_this (Some s) q = s == q

-- the size of a good among those that an End lists
abbrev pub size_among : List ℕ → List ℕ → ℕ → ℕ → ℕ
size_among [] ns g n = n
size_among (x ∷ xs) [] g n = n
size_among (x ∷ xs) (m ∷ ms) g n = cond (x == g) m (size_among xs ms g n)

-- an entry's sizes are small, and an End has one for each file that its task writes
abbrev pub IsSized : Plan → Event → Type 0
IsSized p (Arrive w t n) = n ≤ 2 ^ 40
IsSized p (End w t ns) = (is_delivery p t ≡ false) × (length ns ≡ length (writes p t))
    × ((k : ℕ) → get_or ns k 0 ≤ 2 ^ 40)
IsSized p _ = Unit {0}
