use Rattle.std.proofs.Common.{◌∙◌, ap}
use Rattle.std.specs.FinMap as map
use Rattle.values.specs.code.SiteMap.{at_site, put_pair}
use Rattle.values.proofs.SiteMapLemmas.{put_new}
use Rattle.values.proofs.site_map.SiteMap.insert_first.Goals as goal

pub returns-clause-ok : goal.returns-clause-ok
returns-clause-ok c =
    put_new c.self.inside.sites c.insert-2.new.self c.in_ok-site.site c.args.site.now c.args.name.now c.args.bytes.now c.insert.new.self c.in_ok-site.ensures.ok
    (ap (λ z. at_site z c.args.site.now) c.self.view_is ∙ c.requires) c.in_ok-insert-2.ensures.updates (c.in_ok-insert.ensures.ok ∙ ap (λ f. map.insert f c.args.name.now c.args.bytes.now) c.new-files.ensures)
    ∙ ap (λ z. put_pair z c.args.site.now c.args.name.now c.args.bytes.now) c.self.view_is
