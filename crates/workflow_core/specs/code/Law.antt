-- What numbering comes to.
use Rattle.std.specs.Prelude.{◌≡◌, ℕ, ◌<◌, true, false, List, [], length, nat_eq}
use Rattle.std.specs.List.{list_any, list_all}
use Rattle.std.specs.Str.{bytes_eq}
use Rattle.values.specs.Distinct.{distinct}
use Rattle.workflow_core.specs.Names.{number}
use Rattle.workflow_core.specs.code.Names.{with_names}
use Rattle.workflow_core.specs.code.WellFormed.{are_distinct}

-- Each distinct name has one number, and each number one name.
pub record NumbersNames : Type 0 where
  pub gathered : (ns : List (List ℕ)) → with_names [] ns ≡ distinct ns
  pub once : (ns : List (List ℕ)) → are_distinct bytes_eq (distinct ns) ≡ true
  pub known : (ns : List (List ℕ)) → list_all (λ n. list_any (bytes_eq n) (distinct ns)) ns ≡ true
  pub within : (names : List (List ℕ)) (n : List ℕ) → list_any (bytes_eq n) names ≡ true
      → number names n < length names
  pub apart : (names : List (List ℕ)) (m n : List ℕ) → list_any (bytes_eq m) names ≡ true
      → bytes_eq m n ≡ false → nat_eq (number names m) (number names n) ≡ false
