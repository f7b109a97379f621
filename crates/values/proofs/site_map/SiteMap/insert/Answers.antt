use Rattle.std.proofs.Common.{ap, ◌∙◌}
use Rattle.values.specs.code.SiteMap.{sites_of}
use Rattle.values.specs.code.SiteMap.{at_site, put_pair}
use Rattle.values.proofs.SiteMapLemmas.{put_through, same_through, at_none, on_ok, on_err, is_there}
use Rattle.values.proofs.site_map.SiteMap.insert.Goals as goal

pub returns-in-Some-clause-ok : goal.returns-in-Some-clause-ok
returns-in-Some-clause-ok c =
    let m = c.self.inside.sites in
    let u = (c.get_mut.follows.holds c.insert.new.self).3 (is_there _ _ c.in-Some.ensures.value) in
    on_ok c.insert.result _ _ (λ e. put_through m (c.get_mut.follows.lender c.insert.new.self) c.args.site.now c.args.name.now c.args.bytes.now c.in-Some.files.now c.insert.new.self c.in-Some.ensures.value u e ∙ ap (λ z. put_pair z c.args.site.now c.args.name.now c.args.bytes.now) c.self.view_is) c.insert.ensures.ok

pub returns-in-Some-clause-err : goal.returns-in-Some-clause-err
returns-in-Some-clause-err c =
    let m = c.self.inside.sites in
    let u = (c.get_mut.follows.holds c.insert.new.self).3 (is_there _ _ c.in-Some.ensures.value) in
    on_err c.insert.result _ _ (λ e. same_through m (c.get_mut.follows.lender c.insert.new.self) c.args.site.now c.in-Some.files.now c.insert.new.self c.in-Some.ensures.value u e ∙ c.self.view_is) c.insert.ensures.err

pub insert_first-requires : goal.insert_first-requires
insert_first-requires c = ap (λ z. at_site (sites_of z.entries) c.args.site.now) c.get_mut.follows.holds-at-none ∙ at_none c.self.inside.sites c.args.site.now c.in-None.ensures.value
