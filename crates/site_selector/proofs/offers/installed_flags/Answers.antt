use Rattle.std.proofs.Common.{◌≡◌, ◌∙◌, ◌+◌, ◌++◌, ◌∷◌, [], take, sym, ap}
use Rattle.std.proofs.lemmas.List.{take_more}
use Rattle.transformation_catalog.specs.declared.catalog.TransformationSite.{TransformationSite}
use Rattle.site_selector.specs.code.Offers.{installed_flags, marked}
use Rattle.site_selector.proofs.OfferLemmas.{marked_more}
use Rattle.site_selector.proofs.offers.installed_flags.Goals as goal

pub loop-site-preserved : goal.loop-site-preserved
loop-site-preserved c =
    let names = c.args.names.now in
    let before = take c.loop-site.site-index c.args.sites.now in
    let more : take (c.loop-site.site-index + 1) c.args.sites.now ≡ before ++ c.site-item.result ∷ [] = take_more c.args.sites.now c.loop-site.site-index c.site-item.result c.loop-site-test.true ∙ ap (λ (s : TransformationSite). before ++ s ∷ []) (sym c.site-item.is) in
    c.mark.ensures
    ∙ ap (λ bs. marked names bs c.site-item.result) c.loop-site.invariant
    ∙ marked_more names before c.site-item.result c.requires.distinct
    ∙ sym (ap (installed_flags names) more)
