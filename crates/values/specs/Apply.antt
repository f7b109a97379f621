-- What a tool makes of a job.
use Rattle.std.specs.Prelude.{ℕ, ◌==◌, List, [], ◌∷◌, if◌then◌else◌, Option, Some, None, option_map, option_and_then}

-- of a name, arguments, inputs and a number of outputs, the outputs, where they are defined
abbrev pub Apply : Type 0
Apply = List ℕ → List (List ℕ) → List (List ℕ) → ℕ → Option (List (List ℕ))

-- the output that belongs to a file
abbrev pub part : ℕ → List ℕ → List (List ℕ) → Option (List ℕ)
part f [] vs = None
part f (o ∷ os) [] = None
part f (o ∷ os) (v ∷ vs) = if o == f then Some v else part f os vs

-- all of them, if each is there
abbrev pub all_of : List (Option (List ℕ)) → Option (List (List ℕ))
all_of [] = Some []
all_of (x ∷ xs) = option_and_then (λ v. option_map (λ vs. v ∷ vs) (all_of xs)) x
