-- Beside `specs/Requested.antt`: what the code's own contracts say.
use Rattle.std.specs.Prelude.{ℕ, suc, List, [], ◌∷◌, if◌then◌else◌}
use Rattle.workflow_core.specs.declared.workflow.Workflow.{Workflow}
use Rattle.workflow_core.specs.Requested.{is_requested}

-- of the files with these names, the first of which has number f, the requested ones
abbrev pub requested_from : Workflow → ℕ → List (List ℕ) → List ℕ
requested_from w f [] = []
requested_from w f (name ∷ names) = if is_requested w f then f ∷ requested_from w (suc f) names
    else requested_from w (suc f) names

-- the numbers of the requested files, rising
abbrev pub requested : Workflow → List ℕ
requested w = requested_from w 0 w.files
