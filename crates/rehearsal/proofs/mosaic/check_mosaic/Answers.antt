use Rattle.std.proofs.Common.{◌≡◌, ℕ, ◌<◌, ◌∙◌, List, [], length, get_or, ap, subst, sym}
use Rattle.std.specs.Prelude.{codes}
use Rattle.std.specs.List.{list_any}
use Rattle.workflow_core.specs.declared.workflow.Job.{Job}
use Rattle.workflow_core.specs.Requested.{requests}
use Rattle.rehearsal.specs.Mosaic.{requests_other}
use Rattle.rehearsal.proofs.MosaicLemmas.{has_mosaic}
use Rattle.rehearsal.proofs.mosaic.check_mosaic.Goals as goal

pub returns : goal.returns
returns c =
    let jobs = c.as_slice-jobs.ensures in
    let files = c.as_slice.ensures in
    let f = c.in-Some.mosaic.0 in
    has_mosaic c.args.surveyed.now f
    (subst (λ (l : List (List ℕ)). f < length l) files c.in-Some.ensures.0)
    (subst (λ (l : List (List ℕ)). get_or l f [] ≡ codes "mosaic.txt") files c.in-Some.ensures.1)
    (ap (λ (l : List Job). list_any (requests f) l) (sym jobs) ∙ sym c.is_requested.ensures ∙ c.if-not-is_requested.false)
    (ap (λ (l : List Job). list_any (requests_other f) l) (sym jobs) ∙ sym c.is_other_requested.ensures ∙ c.if-is_other_requested.false)
