use Rattle.std.proofs.Common.{sym, ◌∙◌}
use Rattle.host_files.proofs.PfnLemmas.{parted, whole}
use Rattle.host_files.proofs.pfn.path_of.Goals as goal

pub returns-in-Some : goal.returns-in-Some
returns-in-Some c = c.url_path.ensures ∙ sym (parted _ _ _ c.in-Some.ensures.cases)

pub returns-in-None : goal.returns-in-None
returns-in-None c = sym (whole _ c.in-None.ensures.cases)
