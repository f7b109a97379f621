use Rattle.std.proofs.Common.{◌≡◌, ap, ◌∙◌}
use Rattle.std.specs.Prelude.{String, string_bytes}
use Rattle.std.specs.declared.alloc.Global.{Global}
use Rattle.std.specs.FinMap as map
use Rattle.values.specs.FileMap.{Files}
use Rattle.values.proofs.SiteMapLemmas.{sited_same}
use Rattle.values.proofs.site_map.SiteMapClone.clone.Goals as goal

abbrev Copied : (String Global × Files) → (String Global × Files) → Type 0
Copied p q = (string_bytes q.0 ≡ string_bytes p.0) × (q.1 ≡ p.1)

pub returns : goal.returns
returns c = record {
  cases =
      ap map.from_entries (sited_same Copied (λ p q e. e) c.self.inside.sites.entries c.in_ok-sites.sites.entries c.in_ok-sites.ensures.cases) ∙ c.self.view_is;
}
