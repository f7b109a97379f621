use Rattle.values.proofs.FileMapLemmas.{decides_empty}
use Rattle.values.proofs.file_map.FileMap.is_empty.Goals as goal

pub returns : goal.returns
returns c = rw c.self.view_is at (decides_empty c.self.inside.files c.is_empty.result c.is_empty.ensures)
