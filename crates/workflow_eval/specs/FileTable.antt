-- A table with a place for each file, and what stands there so far.
use Rattle.std.specs.Prelude.{◌≡◌, ℕ, List, [], ◌∷◌, map, Option, Some, None, slice_set, slice_index_or, Vec}
use Rattle.std.specs.declared.alloc.Global.{Global}
use Rattle.values.specs.Apply.{all_of}
use Rattle.workflow_eval.specs.declared.fault.EvalFault.{EvalFault}
use Rattle.workflow_eval.specs.declared.fault.EvalFault.TheVariants.{Declined, ToolFailed, Memory}

-- what stands at a file's place
abbrev pub at : List (Option (List ℕ)) → ℕ → Option (List ℕ)
at table f = slice_index_or table f None

-- what stands at the files' places, if each holds something
abbrev pub looked_up : List (Option (List ℕ)) → List ℕ → Option (List (List ℕ))
looked_up table fs = all_of (map (at table) fs)

-- the table, with each output at its file's place
abbrev pub placed : List ℕ → List (List ℕ) → List (Option (List ℕ)) → List (Option (List ℕ))
placed [] vs table = table
placed (o ∷ os) [] table = table
placed (o ∷ os) (v ∷ vs) table = slice_set (placed os vs table) o (Some v)

-- what a look-up gives
abbrev pub IsLookedUp : Option (List (List ℕ)) → Option (Vec (List ℕ) Global) → Type 0
IsLookedUp found None = found ≡ None
IsLookedUp found (Some v) = found ≡ Some v.items

-- Why the job with this number gave nothing. `made` is what its tool makes; `rose` says that the tool's count rose.
abbrev pub IsFaultOf : Option (List (List ℕ)) → ℕ → Type 0 → EvalFault → Type 0
IsFaultOf made number rose (Declined j) = (made ≡ None) × (j.0 ≡ number)
IsFaultOf made number rose (ToolFailed j) = rose × (j.0 ≡ number)
IsFaultOf made number rose Memory = Unit {0}
