use Rattle.std.proofs.Common.{◌∙◌, ap}
use Rattle.site_selector.specs.Offers.{sites_of}
use Rattle.site_selector.specs.code.Candidates.{listed_from}
use Rattle.site_selector.proofs.CandidateLemmas.{listed_are, none_are}
use Rattle.site_selector.proofs.candidates.candidates.Goals as goal

pub returns-in_ok-sites-in-Some : goal.returns-in_ok-sites-in-Some
returns-in_ok-sites-in-Some c =
    let sites = sites_of c.args.offers.now.entries c.args.job.now.transformation in
    let pinned = c.args.job.now.pinned in
    c.in_ok-sites-in-Some.ensures
    ∙ ap (listed_from c.in-Some.flags.now pinned 0) c.execute.ensures
    ∙ listed_are sites pinned c.args.offers.now.execute c.in-Some.flags.now c.in-Some.ensures

pub returns-in-None : goal.returns-in-None
returns-in-None c =
    c.new.ensures.items
    ∙ none_are (sites_of c.args.offers.now.entries c.args.job.now.transformation) c.args.job.now.pinned c.args.offers.now.execute c.in-None.ensures
