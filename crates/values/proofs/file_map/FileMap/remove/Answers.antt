use Rattle.values.proofs.FileMapLemmas.{files_remove}
use Rattle.values.proofs.file_map.FileMap.remove.Goals as goal

pub returns-clause-removed : goal.returns-clause-removed
returns-clause-removed c = rw c.self.view_is at (files_remove c.self.inside.files c.remove.new.self c.args.name.now c.remove.ensures.updates)
