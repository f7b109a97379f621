-- The names of what is a member's, in the joint of all members.
use Rattle.std.specs.Prelude.{ℕ, List, ◌∷◌, ◌++◌}
use Rattle.workflow_core.specs.declared.workflow.Transformation.{Transformation}

-- the member's name, `/` and the name
abbrev pub prefixed : List ℕ → List ℕ → List ℕ
prefixed member name = member ++ 47 ∷ name

abbrev pub transformation_of : List ℕ → Transformation → Transformation
transformation_of member t = record t { name = prefixed member t.name }
