-- Pairs by site and file.
use Rattle.std.specs.Prelude.{◌≡◌, ℕ, ◌==◌, ◌&&◌, Bool, true, List, position, slice_get, option_to_list}
use Rattle.std.specs.List.{flat_map}
use Rattle.plan_core.specs.declared.plan.Pair.{Pair}
use Rattle.plan_core.specs.code.Words.{pair_at}

abbrev pub is_place : ℕ → ℕ → ℕ × ℕ → Bool
is_place s f k = (s == k.0) && (f == k.1)

abbrev pub is_pair_of : ℕ → ℕ → Pair → Bool
is_pair_of s f q = (s == q.site.0) && (f == q.file.0)

-- no pair stands twice
abbrev pub AreOnce : List Pair → Type 0
AreOnce pairs = (q r s f : ℕ) → pair_at (slice_get pairs q) s f ≡ true
    → pair_at (slice_get pairs r) s f ≡ true → q ≡ r

-- the number of a file, and the numbers of some files, at a site
abbrev pub place_of : List Pair → ℕ → ℕ → List ℕ
place_of pairs s f = option_to_list (position (is_pair_of s f) pairs)

abbrev pub places_at : List Pair → ℕ → List ℕ → List ℕ
places_at pairs s fs = flat_map (place_of pairs s) fs
