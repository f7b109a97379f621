use Rattle.std.proofs.Common.{◌≡◌, drop}
use Rattle.std.specs.List.{list_any}
use Rattle.std.specs.Str.{bytes_eq}
use Rattle.site_catalog.specs.Catalog.{names_of}
use Rattle.planner.proofs.course.is_listed.Given as goal

abbrev pub invariant-loop-site : goal.invariant-loop-site
invariant-loop-site l =
    list_any (bytes_eq l.name) (names_of (drop l.site-index l.sites)) ≡ list_any (bytes_eq l.name) (names_of l.sites)
