use Rattle.host_files.proofs.EscapedLemmas.{escaped_apart, no_dot, no_slash}
use Rattle.host_files.proofs.law.escaped_names_stay_apart.Goals as goal

pub returns-clause-no_slash : goal.returns-clause-no_slash
returns-clause-no_slash c = no_slash

pub returns-clause-no_dot : goal.returns-clause-no_dot
returns-clause-no_dot c = no_dot

pub returns-clause-apart : goal.returns-clause-apart
returns-clause-apart c = escaped_apart
