-- Which catalogue holds, and what it says.
use Rattle.std.specs.Prelude.{ℕ, List, [], Option, Some, None, Result, Ok, Err}
use Rattle.std.specs.List.Sorted.{IsPermutation, IsSorted}
use Rattle.std.specs.Ordering.{nat_cmp}
use Rattle.std.specs.Cmp.Lexicographic.{slice_cmp}
use Rattle.serde_json.specs.Data.{Data}
use Rattle.peg_json.specs.Path.{key_path}
use Rattle.peg_json.specs.declared.read_fault.ReadFault.{ReadFault}
use Rattle.planner.specs.declared.document.Document.{Document}
use Rattle.planner.specs.declared.plan_fault.PlanFault.{PlanFault}
use Rattle.planner.specs.code.PlanFault.{answered}

-- The paths, in byte order.
pub record IsListing (paths ignored : List (List ℕ)) : Type 0 where
  pub all : IsPermutation paths ignored
  pub sorted : IsSorted (slice_cmp nat_cmp) ignored

-- there is one, and it says this
abbrev pub found : {A : Type 0} → Result A PlanFault → Result (Option A) PlanFault
found (Ok x) = Ok (Some x)
found (Err fault) = Err fault

-- what the named document says, else the tree at a key of the workflow, if there is one of them
abbrev pub held : {A : Type 0} → Document → (List ℕ → Result A ReadFault)
    → (List ℕ → Data → Result A ReadFault) → List ℕ → Option (List ℕ) → Option Data
    → Result (Option A) PlanFault
held which read from_tree key (Some bytes) tree = found (answered which (read bytes))
held which read from_tree key None (Some tree) = found (answered which (from_tree (key_path [] key) tree))
held which read from_tree key None None = Ok None

-- the paths of its keys that are in no table
abbrev pub held_unknown : (List ℕ → List (List ℕ)) → (List ℕ → Data → List (List ℕ)) → List ℕ
    → Option (List ℕ) → Option Data → List (List ℕ)
held_unknown in_text in_tree key (Some bytes) tree = in_text bytes
held_unknown in_text in_tree key None (Some tree) = in_tree (key_path [] key) tree
held_unknown in_text in_tree key None None = []
