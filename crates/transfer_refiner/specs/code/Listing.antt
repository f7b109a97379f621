-- What has to move, listed by file.
use Rattle.std.specs.Prelude.{ℕ, ◌==◌, Bool, false, not, cond, List, [], ◌∷◌, ◌++◌, Option, Some, None, slice_index_or}
use Rattle.transfer_refiner.specs.Draft.{Draft, site_of}

-- the file is made at this site
abbrev pub is_at : Option ℕ → ℕ → Bool
is_at None s = false
is_at (Some a) s = a == s

-- to each of these sites but the one at which the file is made
abbrev pub moved_from : Option ℕ → ℕ → List ℕ → List (ℕ × ℕ)
moved_from home f [] = []
moved_from home f (s ∷ ss) = cond (not (is_at home s)) ((f, s) ∷ []) [] ++ moved_from home f ss

-- the site of the first of some parts
abbrev pub first_site_of : Draft → List ℕ → Option ℕ
first_site_of d [] = None
first_site_of d (c ∷ cs) = Some (site_of d (slice_index_or d.parts c []))
