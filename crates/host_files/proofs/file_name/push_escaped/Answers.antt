use Rattle.std.proofs.Common.{◌≡◌, ◌++◌, List, ℕ, string_bytes, subst}
use Rattle.std.specs.Prelude.{OnOk}
use Rattle.std.specs.Char.{encode_utf8}
use Rattle.host_files.proofs.FileNameLemmas.{without_dot}
use Rattle.host_files.proofs.file_name.push_escaped.Goals as goal

pub returns-in-None : goal.returns-in-None
unfolding encode_utf8
returns-in-None c = subst (λ (t : List ℕ). OnOk c.push_text-in-None.result (string_bytes c.push_text-in-None.new.path ≡ string_bytes c.args.path.now ++ t)) (without_dot c.args.name.now c.in-None.ensures.cases) c.push_text-in-None.ensures
