use Rattle.std.proofs.Common.{◌≡◌, ℕ, ap, ◌∙◌, vec_len}
use Rattle.std.specs.Prelude.{String, Vec, string_bytes}
use Rattle.std.specs.declared.alloc.Global.{Global}
use Rattle.std.specs.FinMap as map
use Rattle.std.specs.List.{AllZip}
use Rattle.values.proofs.FileMapLemmas.{items_same, named_same}
use Rattle.values.proofs.file_map.FileMapClone.clone.Goals as goal

abbrev Copied : (String Global × Vec ℕ Global) → (String Global × Vec ℕ Global) → Type 0
Copied p q = (string_bytes q.0 ≡ string_bytes p.0) × (AllZip (λ (a : ℕ) (b : ℕ). b ≡ a) p.1.items q.1.items × (vec_len q.1 ≡ vec_len p.1))

pub returns : goal.returns
returns c = record {
  cases =
      ap map.from_entries (named_same Copied (λ p q e. (e.0, items_same (λ (a : ℕ) (b : ℕ). b ≡ a) (λ a b d. d) p.1.items q.1.items e.1.0)) c.self.inside.files.entries c.in_ok-files.files.entries c.in_ok-files.ensures.cases) ∙ c.self.view_is;
}
