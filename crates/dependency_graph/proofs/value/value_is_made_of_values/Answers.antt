use Rattle.dependency_graph.proofs.ValueLemmas.{unmade, value_law}
use Rattle.std.proofs.Common.{length}
use Rattle.dependency_graph.proofs.value.value_is_made_of_values.Goals as goal

pub returns : goal.returns
returns c = record { base = λ b w f e. unmade b w.jobs (length w.jobs) f e; made = value_law }
