-- One job more with its tool, and one file more with its source, or the fault that ends it.
use Rattle.std.proofs.Common.{◌≡◌, ◌<◌, ◌+◌, ℕ, suc, List, [], ◌∷◌, ◌++◌, drop, get_or, length, sym, ap, ◌∙◌, arith}
use Rattle.std.specs.Prelude.{Bool, Option, Ok, Err}
use Rattle.std.proofs.lemmas.List.{drop_more}
use Rattle.peg_json.specs.Tree.{◌>>=◌}
use Rattle.plan_request.specs.JobTools.{tool_of}
use Rattle.plan_request.specs.declared.request.ToolOf.{ToolOf}
use Rattle.replica_catalog.specs.declared.catalog.Replica.{Replica}
use Rattle.workflow_core.specs.declared.workflow.Job.{Job}
use Rattle.workflow_core.specs.declared.workflow.Workflow.{Workflow}
use Rattle.evaluation.specs.JobTools.{known_tool, tools_of}
use Rattle.evaluation.specs.Sources.{source_if_base, sources_from}
use Rattle.evaluation.specs.declared.fault.EvaluationFault.{EvaluationFault}
use Rattle.evaluation.specs.declared.sources.Source.{Source}
use Rattle.evaluation.proofs.RestLemmas.{ends_here, front_then, one_more}

cut_at : {X : Type 0} (xs : List X) (i : ℕ) (x : X) → i < length xs → x ≡ get_or xs i x → drop i xs ≡ x ∷ drop (i + 1) xs
cut_at xs i x low is = drop_more xs i x low ∙ ap (λ y. y ∷ drop (i + 1) xs) (sym is)

pub tools_more : (known : List ℕ → Bool) (stated : List ToolOf) (jobs : List Job) (i : ℕ) (j : Job) (front after : List (List ℕ)) (name : List ℕ) → i < length jobs → j ≡ get_or jobs i j
    → front_then front (tools_of known stated (drop i jobs)) ≡ tools_of known stated jobs → Ok name ≡ known_tool known j (tool_of stated j.transformation.name) → after ≡ front ++ name ∷ []
    → front_then after (tools_of known stated (drop (i + 1) jobs)) ≡ tools_of known stated jobs
tools_more known stated jobs i j front after name low is so_far came more =
    ap (λ (names : List (List ℕ)). front_then names (tools_of known stated (drop (i + 1) jobs))) more
    ∙ sym (one_more front name (known_tool known j (tool_of stated j.transformation.name)) (tools_of known stated (drop (i + 1) jobs)) (sym came))
    ∙ ap (λ (js : List Job). front_then front (tools_of known stated js)) (sym (cut_at jobs i j low is))
    ∙ so_far

pub tools_end : (known : List ℕ → Bool) (stated : List ToolOf) (jobs : List Job) (i : ℕ) (j : Job) (front : List (List ℕ)) (fault : EvaluationFault) → i < length jobs → j ≡ get_or jobs i j
    → front_then front (tools_of known stated (drop i jobs)) ≡ tools_of known stated jobs → Err fault ≡ known_tool known j (tool_of stated j.transformation.name) → Err fault ≡ tools_of known stated jobs
tools_end known stated jobs i j front fault low is so_far came =
    sym (ends_here front fault (known_tool known j (tool_of stated j.transformation.name)) (λ tool. tools_of known stated (drop (i + 1) jobs) >>= (λ rest. Ok (tool ∷ rest))) came)
    ∙ ap (λ (js : List Job). front_then front (tools_of known stated js)) (sym (cut_at jobs i j low is))
    ∙ so_far

pub sources_more : (w : Workflow) (es : List Replica) (i : ℕ) (lfn : List ℕ) (front after : List (Option Source)) (source : Option Source) → i < length w.files → lfn ≡ get_or w.files i lfn
    → front_then front (sources_from w es i (drop i w.files)) ≡ sources_from w es 0 w.files → Ok source ≡ source_if_base w es i lfn → after ≡ front ++ source ∷ []
    → front_then after (sources_from w es (i + 1) (drop (i + 1) w.files)) ≡ sources_from w es 0 w.files
sources_more w es i lfn front after source low is so_far came more =
    let next : i + 1 ≡ suc i = omega arith in
    ap (λ (found : List (Option Source)). front_then found (sources_from w es (i + 1) (drop (i + 1) w.files))) more
    ∙ ap (λ (n : ℕ). front_then (front ++ source ∷ []) (sources_from w es n (drop (i + 1) w.files))) next
    ∙ sym (one_more front source (source_if_base w es i lfn) (sources_from w es (suc i) (drop (i + 1) w.files)) (sym came))
    ∙ ap (λ (names : List (List ℕ)). front_then front (sources_from w es i names)) (sym (cut_at w.files i lfn low is))
    ∙ so_far

pub sources_end : (w : Workflow) (es : List Replica) (i : ℕ) (lfn : List ℕ) (front : List (Option Source)) (fault : EvaluationFault) → i < length w.files → lfn ≡ get_or w.files i lfn
    → front_then front (sources_from w es i (drop i w.files)) ≡ sources_from w es 0 w.files → Err fault ≡ source_if_base w es i lfn → Err fault ≡ sources_from w es 0 w.files
sources_end w es i lfn front fault low is so_far came =
    sym (ends_here front fault (source_if_base w es i lfn) (λ source. sources_from w es (suc i) (drop (i + 1) w.files) >>= (λ rest. Ok (source ∷ rest))) came)
    ∙ ap (λ (names : List (List ℕ)). front_then front (sources_from w es i names)) (sym (cut_at w.files i lfn low is))
    ∙ so_far
