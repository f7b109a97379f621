use Rattle.std.proofs.Common.{List, ℕ}
use Rattle.std.specs.Prelude.{Ok}
use Rattle.pegasus_commands.specs.code.Course.{Ends, document}
use Rattle.pegasus_commands.proofs.CourseLemmas.{step_stop}
use Rattle.pegasus_commands.proofs.course.fetch_record.Goals as goal

pub returns-in-Err-clause-answer : goal.returns-in-Err-clause-answer
returns-in-Err-clause-answer g c = step_stop (document c.args.name.now Ok) (λ (bytes : List ℕ). Ends (Ok (record { requested = c.args.requested; bytes = bytes }))) _ _ c.in-Err.fault c.in-Err.ensures
