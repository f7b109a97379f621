use Rattle.std.proofs.Common.{sym}
use Rattle.values.proofs.SiteMapLemmas.{none_at}
use Rattle.values.proofs.site_map.SiteMap.get.Goals as goal

pub returns-in-None : goal.returns-in-None
returns-in-None c = sym (rw c.self.view_is at (none_at c.self.inside.sites c.args.site.now c.args.name.now c.in-None.ensures.value))
