use Rattle.std.proofs.Common.{◌≡◌, ◌++◌, ◌∷◌, [], false, List, ℕ, ap, append_assoc, codes, ◌∙◌}
use Rattle.workload_maker.specs.declared.names.File.{File}
use Rattle.workload_maker.specs.declared.pieces.Piece.TheVariants as piece
use Rattle.workload_maker.specs.Jobs.{Job, job_text}
use Rattle.workload_maker.specs.Jobs.{job}
use Rattle.workload_maker.specs.Workflow.{background, model, proj}
use Rattle.workload_maker.specs.Pieces.{piece_text}
use Rattle.workload_maker.proofs.workflow.push_background.Goals as goal

pub returns : goal.returns
returns c =
    let is : job (codes "mBackground") c.args.number c.background_inputs-inputs.result c.bg.result false ≡ background c.args.number
    = ap (λ (xs : List File). job (codes "mBackground") c.args.number xs c.bg.result false) c.background_inputs-inputs.ensures
    ∙ ap (λ (f : File). job (codes "mBackground") c.args.number (proj c.args.number ∷ model ∷ []) f false) c.bg.ensures in
    c.in_ok-push_piece.ensures
    ∙ ap (λ (t : List ℕ). t ++ piece_text piece.Comma) c.in_ok-push_job.ensures
    ∙ append_assoc c.args.text.now.items (job_text (job (codes "mBackground") c.args.number c.background_inputs-inputs.result c.bg.result false)) (piece_text piece.Comma)
    ∙ ap (λ (j : Job). c.args.text.now.items ++ (job_text j ++ piece_text piece.Comma)) is
