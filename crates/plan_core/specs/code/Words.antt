-- Beside `specs/Words.antt`: what the code's own contracts say.
use Rattle.std.specs.Prelude.{ℕ, ◌==◌, ◌&&◌, Bool, false, Option, Some, None, slice_get}
use Rattle.plan_core.specs.declared.plan.Plan.{Plan}
use Rattle.plan_core.specs.declared.plan.Pair.{Pair}

abbrev pub pair_at : Option Pair → ℕ → ℕ → Bool
pair_at None s f = false
pair_at (Some q) s f = (q.site.0 == s) && (q.file.0 == f)

-- pair q is this file at this site
unfoldable pub is_pair : Plan → ℕ → ℕ → ℕ → Bool
is_pair p q s f = pair_at (slice_get p.pairs q) s f
