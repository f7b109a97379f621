-- The declared size of a file.
use Rattle.std.specs.Prelude.{ℕ, List, map, Option}
use Rattle.std.specs.List.{zip}
use Rattle.std.specs.Map.{lookup}
use Rattle.std.specs.Option.{option_or}
use Rattle.std.specs.Str.{bytes_eq}
use Rattle.plan_request.specs.declared.request.PlanRequest.{PlanRequest}
use Rattle.plan_request.specs.declared.request.SizeOf.{SizeOf}

abbrev pub named_size : SizeOf → List ℕ × ℕ
named_size s = (s.lfn, s.size)

-- the size of the file's entry, else the one that a use of it states, else the default
abbrev pub size_by : List (List ℕ × ℕ) → Option ℕ → List ℕ → Option ℕ → Option ℕ
size_by entries default lfn stated = option_or (lookup (bytes_eq lfn) entries) (option_or stated default)

-- the size by the entries and the default of a request
abbrev pub declared_size : PlanRequest → List ℕ → Option ℕ → Option ℕ
declared_size r lfn stated = size_by (map named_size r.sizes) r.default_size lfn stated

-- the size of each file, of which one stands beside each
abbrev pub declared_sizes : PlanRequest → List (List ℕ) → List (Option ℕ) → List (Option ℕ)
declared_sizes r files stated = map (λ f. declared_size r f.0 f.1) (zip files stated)
