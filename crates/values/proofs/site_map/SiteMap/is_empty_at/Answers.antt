use Rattle.values.proofs.SiteMapLemmas.{none_here, empty_here}
use Rattle.values.proofs.site_map.SiteMap.is_empty_at.Goals as goal

pub returns-in-None : goal.returns-in-None
returns-in-None c = rw c.self.view_is at (none_here c.self.inside.sites c.args.site.now c.in-None.ensures.value)

pub returns-in-Some : goal.returns-in-Some
returns-in-Some c = rw c.self.view_is at (empty_here c.self.inside.sites c.args.site.now c.in-Some.files.now c.is_empty.result c.in-Some.ensures.value c.is_empty.ensures)
