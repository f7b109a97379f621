use Rattle.std.proofs.Common.{ap, sym, ◌∙◌, refl}
use Rattle.values.specs.code.SiteMap.{sites_of}
use Rattle.values.specs.code.SiteMap.{pair_at, take_pair}
use Rattle.values.proofs.SiteMapLemmas.{take_through, same_through, none_at, pair_there, is_there, none_is, some_is}
use Rattle.values.proofs.site_map.SiteMap.remove.Goals as goal

pub returns-then-contains-clause-removed : goal.returns-then-contains-clause-removed
returns-then-contains-clause-removed c = λ e.
    let m = c.self.inside.sites in
    let u = (c.get_mut.follows.holds c.remove.new.self).3 (is_there _ _ c.in-Some.ensures.value) in
    take_through m (c.get_mut.follows.lender c.remove.new.self) c.args.site.now c.args.name.now c.in-Some.files.now c.remove.new.self c.in-Some.ensures.value u c.remove.ensures.removed
    ∙ ap (λ z. take_pair z c.args.site.now c.args.name.now) c.self.view_is

pub returns-then-contains-clause-stood : goal.returns-then-contains-clause-stood
returns-then-contains-clause-stood c = λ e none.
    let m = c.self.inside.sites in
    some_is _ (sym c.contains.ensures ∙ c.if-contains.true)
    (sym (pair_there m c.args.site.now c.args.name.now c.in-Some.files.now c.in-Some.ensures.value)
    ∙ ap (λ z. pair_at z c.args.site.now c.args.name.now) c.self.view_is ∙ none)

pub returns-in-Some-clause-absent : goal.returns-in-Some-clause-absent
returns-in-Some-clause-absent c = λ e.
    let m = c.self.inside.sites in
    let u = (c.get_mut.follows.holds c.in-Some.files.now).3 (is_there _ _ c.in-Some.ensures.value) in (
      same_through m (c.get_mut.follows.lender c.in-Some.files.now) c.args.site.now c.in-Some.files.now c.in-Some.files.now c.in-Some.ensures.value u refl ∙ c.self.view_is,
      ap (λ z. pair_at z c.args.site.now c.args.name.now) (sym c.self.view_is) ∙ pair_there m c.args.site.now c.args.name.now c.in-Some.files.now c.in-Some.ensures.value ∙ none_is _ (sym c.contains.ensures ∙ c.if-contains.false),
    )

pub returns-in-None-clause-absent : goal.returns-in-None-clause-absent
returns-in-None-clause-absent c = λ e.
    let m = c.self.inside.sites in (
      ap (λ z. sites_of z.entries) c.get_mut.follows.holds-at-none ∙ c.self.view_is,
      ap (λ z. pair_at z c.args.site.now c.args.name.now) (sym c.self.view_is) ∙ none_at m c.args.site.now c.args.name.now c.in-None.ensures.value,
    )
