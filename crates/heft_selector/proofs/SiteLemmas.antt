-- The sites of a schedule of a request.
use Rattle.std.proofs.Common.{◌≡◌, ◌<◌, length, sym, ap, subst, ◌∙◌, arith}
use Rattle.std.specs.Prelude.{Option, Some, None}
use Rattle.std.proofs.lemmas.Option.{slice_get-get_or, get_or_from_slice_get}
use Rattle.values.specs.declared.numbers.SiteId.{SiteId}
use Rattle.dependency_graph.specs.Levels.{is_kept}
use Rattle.list_schedule.specs.code.Law.{RunsAtCandidate}
use Rattle.list_schedule.specs.Schedule.{site}
use Rattle.heft_selector.specs.Selecting.{offering_of, estimates}
use Rattle.heft_selector.specs.code.Selecting.{SitesAreBelow, KeptJobsHaveSites}
use Rattle.list_schedule.proofs.GraphLemmas.{by_bool, all_low}
use Rattle.heft_selector.proofs.SelectLemmas.{kept_low, candidates_low}

pub sites_below : RunsAtCandidate → SitesAreBelow
sites_below law w g kept r t h heft a s at = by_bool (is_kept kept a)
    (λ on. let found = law g kept (estimates w kept r t) h heft a on in
    let both : Some s ≡ Some found.0 = sym here ∙ found.1 in
    let same : s ≡ found.0 = cc in
    subst (λ (x : SiteId). x.0 < length r.execute) (sym same) (all_low (length r.execute) ((estimates w kept r t).candidates a) (candidates_low (offering_of w kept r t) a) found.0.0 found.2))
    (λ off. absurd (let none = heft.no_site a off in let clash = sym here ∙ none in cc))
  where
    here : site h a ≡ Some s
    here = get_or_from_slice_get h.sites a (Some s) None at

pub kept_sites : RunsAtCandidate → KeptJobsHaveSites
kept_sites law w g kept r t h heft a on =
    let found = law g kept (estimates w kept r t) h heft a on in
    (found.0, slice_get-get_or h.sites a None (let low = kept_low kept a on in let long = heft.sites in omega (arith, low, long)) ∙ ap (λ (o : Option SiteId). Some o) found.1)
