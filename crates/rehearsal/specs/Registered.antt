-- What a catalogue of replicas registers: images of a workload, and no file that a job makes.
use Rattle.std.specs.Prelude.{◌≡◌, ℕ, ◌<◌, ◌&&◌, Bool, true, false, not, List, [], ◌∷◌, find, length, is_some, slice_index_or}
use Rattle.std.specs.Str.{bytes_eq}
use Rattle.workflow_core.specs.declared.workflow.Workflow.{Workflow}
use Rattle.replica_catalog.specs.Lookup.{is_of}
use Rattle.replica_catalog.specs.declared.catalog.Pfn.{Pfn}
use Rattle.replica_catalog.specs.declared.catalog.Replica.{Replica}
use Rattle.dependency_graph.specs.Edges.{producer}

-- there is one pfn, this one
abbrev pub is_only : List ℕ → List Pfn → Bool
is_only pfn (x ∷ []) = bytes_eq x.pfn pfn
is_only pfn _ = false

-- an entry with this pfn alone, and no checksum
abbrev pub is_at : List ℕ → Replica → Bool
is_at pfn e = is_only pfn e.pfns && not (is_some e.checksum)

-- each of some entries is at the pfn that stands at its place
abbrev pub are_at : List (List ℕ × List ℕ) → List Replica → Bool
are_at xs [] = true
are_at [] (e ∷ es) = false
are_at (x ∷ xs) (e ∷ es) = is_at x.0 e && are_at xs es

-- a file with this name has no entry, if a job makes it
abbrev pub is_free : Workflow → List Replica → ℕ → List ℕ → Bool
is_free w es f lfn = not (is_some (producer w.jobs f) && is_some (find (is_of lfn) es))

-- The entries are at the pfns of images, and none is of a file that a job makes.
pub record RegistersImages (w : Workflow) (es : List Replica) (xs : List (List ℕ × List ℕ)) : Type 0 where
  pub entries : are_at xs es ≡ true
  pub made : (f : ℕ) → f < length w.files → is_free w es f (slice_index_or w.files f []) ≡ true
