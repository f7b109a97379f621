-- Numbers of things, and sums over numbers.
use Rattle.std.specs.Prelude.{ℕ, zero, suc, ◌+◌}
use Rattle.values.specs.declared.numbers.SiteId.{SiteId}

-- the site of a number
abbrev pub site_id : ℕ → SiteId
site_id s = record { 0 = s }

-- the sum of w at the numbers below n
unfoldable pub total : ℕ → (ℕ → ℕ) → ℕ
total zero w = 0
total (suc n) w = total n w + w n
