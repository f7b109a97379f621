-- Beside `specs/Names.antt`: what the code's own contracts say.
use Rattle.std.specs.Prelude.{ℕ, ◌==◌, Bool, List, Option}
use Rattle.std.specs.List.{list_any}
use Rattle.plan_core.specs.declared.plan.Plan.{Plan}
use Rattle.plan_core.specs.declared.plan.Pair.{Pair}
use Rattle.plan_core.specs.Carried.{stored}
use Rattle.plan_core.specs.Names.{pair_site, pair_file}

-- a site that has a pair
unfoldable pub is_used : Plan → ℕ → Bool
is_used p s = list_any (λ (q : Pair). q.site.0 == s) p.pairs

-- what the writer of a pair carries for its file
abbrev pub content : Plan → (ℕ → ℕ → Option (List ℕ)) → ℕ → Option (List ℕ)
content p c q = stored p c (pair_site p q) (pair_file p q)
