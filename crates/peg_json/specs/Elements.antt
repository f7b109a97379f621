-- How many elements a document lists, that none comes twice, and names that nothing has.
use Rattle.std.specs.Prelude.{ℕ, nat_lt, if◌then◌else◌, Result, Ok, Err, List, [], ◌∷◌, ◌++◌, Bool, not, Option, Some, None, length}
use Rattle.std.specs.List.{list_any, find}
use Rattle.std.specs.Str.{bytes_eq}
use Rattle.peg_json.specs.declared.read_fault.Counted.{Counted}
use Rattle.peg_json.specs.declared.read_fault.ReadFault.{ReadFault}
use Rattle.peg_json.specs.declared.read_fault.ReadFault.TheVariants.{TooMany, DuplicateSite}
use Rattle.peg_json.specs.Tree.{◌>>=◌}
use Rattle.peg_json.specs.declared.read_fault.Counted.TheVariants.{Sites}

-- no more of them than the limit
abbrev pub few : Counted → ℕ → ℕ → Result (Unit {0}) ReadFault
few counted limit count = if nat_lt limit count then Err (TooMany counted count limit) else Ok tt

-- the first that is the same as one before it, or as one that is known
abbrev pub first_repeat : {A : Type 0} → (A → A → Bool) → List A → List A → Option A
first_repeat same known [] = None
first_repeat same known (x ∷ xs) = if list_any (same x) known then Some x
    else first_repeat same (known ++ x ∷ []) xs

-- the first name that is none of the known ones
abbrev pub first_unknown : List (List ℕ) → List (List ℕ) → Option (List ℕ)
first_unknown known names = find (λ n. not (list_any (bytes_eq n) known)) names

-- a fault where there is what is at fault
abbrev pub refused : {A : Type 0} → (A → ReadFault) → Option A → Result (Unit {0}) ReadFault
refused fault None = Ok tt
refused fault (Some x) = Err (fault x)

-- the check of their names
abbrev pub sites_checked : List (List ℕ) → Result (Unit {0}) ReadFault
sites_checked names = few Sites 64 (length names) >>= λ _. refused DuplicateSite
    (first_repeat bytes_eq [] names)
