-- What a schedule is estimated by.
use Rattle.std.specs.Prelude.{ℕ, ◌/◌, List, length, map, sum}

-- of a job the sites where it can run, how long it runs at a site, and how long it takes from one
-- job to another at another site
pub record Estimates : Type 0 where
  pub candidates : ℕ → List ℕ
  pub time : ℕ → ℕ → ℕ
  pub move : ℕ → ℕ → ℕ

-- the mean of a job's times at its candidates, rounded down
abbrev pub cost : Estimates → ℕ → ℕ
cost e a = sum (map (e.time a) (e.candidates a)) / length (e.candidates a)
