use Rattle.values.proofs.FileMapLemmas.{files_insert}
use Rattle.values.proofs.file_map.FileMap.insert.Goals as goal

pub returns-clause-ok : goal.returns-clause-ok
returns-clause-ok c = rw (c.self.view_is, c.in_ok-name.ensures.ok, c.in_ok-bytes.ensures.items) at (files_insert c.self.inside.files c.insert.new.self c.in_ok-name.name c.in_ok-bytes.bytes c.in_ok-insert.ensures.updates)
