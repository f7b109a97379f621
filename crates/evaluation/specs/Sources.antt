-- Where the bytes of the files that no job makes come from.
use Rattle.std.specs.Prelude.{ℕ, suc, List, [], ◌∷◌, find, if◌then◌else◌, is_some, Option, Some, None, Result, Ok, Err}
use Rattle.peg_json.specs.Tree.{◌>>=◌}
use Rattle.workflow_core.specs.declared.workflow.Workflow.{Workflow}
use Rattle.replica_catalog.specs.Lookup.{is_of}
use Rattle.replica_catalog.specs.declared.catalog.Pfn.{Pfn}
use Rattle.replica_catalog.specs.declared.catalog.Replica.{Replica}
use Rattle.dependency_graph.specs.Edges.{producer}
use Rattle.evaluation.specs.declared.fault.EvaluationFault.{EvaluationFault}
use Rattle.evaluation.specs.declared.fault.EvaluationFault.TheVariants.{NoReplica}
use Rattle.evaluation.specs.declared.sources.Source.{Source}

-- the first place of a file, with the checksum that is registered for it
abbrev pub first_place : List ℕ → List Pfn → Option (List ℕ) → Option Source
first_place lfn [] checksum = None
first_place lfn (p ∷ ps) checksum = Some (record { lfn = lfn; pfn = p.pfn; checksum = checksum })

abbrev pub source_in : List ℕ → Option Replica → Option Source
source_in lfn None = None
source_in lfn (Some e) = first_place lfn e.pfns e.checksum

-- the source that a catalogue registers
abbrev pub source_of : List Replica → List ℕ → Option Source
source_of es lfn = source_in lfn (find (is_of lfn) es)

abbrev pub registered : List ℕ → Option Source → Result (Option Source) EvaluationFault
registered lfn None = Err (NoReplica lfn)
registered lfn (Some s) = Ok (Some s)

-- the source of a file, if no job makes it
abbrev pub source_if_base : Workflow → List Replica → ℕ → List ℕ
    → Result (Option Source) EvaluationFault
source_if_base w es f lfn =
    if is_some (producer w.jobs f) then Ok None else registered lfn (source_of es lfn)

-- those of the files from number f on, or the first file without one
abbrev pub sources_from : Workflow → List Replica → ℕ → List (List ℕ)
    → Result (List (Option Source)) EvaluationFault
sources_from w es f [] = Ok []
sources_from w es f (lfn ∷ lfns) = do
  source ← source_if_base w es f lfn
  rest ← sources_from w es (suc f) lfns
  Ok (source ∷ rest)

unfoldable pub sources_of : Workflow → List Replica → Result (List (Option Source)) EvaluationFault
sources_of w es = sources_from w es 0 w.files
