use Rattle.std.proofs.Common.{◌≡◌, [], drop}
use Rattle.std.specs.Prelude.{map}
use Rattle.std.specs.Str.{bytes_eq}
use Rattle.peg_json.specs.Elements.{first_repeat}
use Rattle.peg_json.proofs.sites.check_sites.Given as goal

abbrev pub invariant-loop-site : goal.invariant-loop-site
invariant-loop-site g l =
    first_repeat bytes_eq l.known.items (map g.T.SiteNamed.name (drop l.site-index l.sites))
    ≡ first_repeat bytes_eq [] (map g.T.SiteNamed.name l.sites)
