-- The line of an outcome, and its status.
use Rattle.std.specs.Prelude.{ℕ, ◌++◌, Bool, false, List, [], codes, Ok, Err}
use Rattle.values.specs.Printed.{printed_name}
use Rattle.values.specs.declared.numbers.TaskId.{TaskId}
use Rattle.planner.specs.code.Refused.{and_name, and_number, refused_line}
use Rattle.run_record.specs.code.FailedLine.{failed_line}
use Rattle.pegasus_commands.specs.declared.fault.CallFault.TheVariants as faults
use Rattle.pegasus_commands.specs.code.Fault.{Answer}
use Rattle.pegasus_cli.specs.declared.outcome.Outcome.{Outcome}
use Rattle.pegasus_cli.specs.declared.outcome.Outcome.TheVariants.{Done, Memory, Usage, DocAbsent, DocTooLong, DocFailed, Refused, Exceeds, Failed, BadRecord, IllegalRecord, RefusedEnsemble, RefusedMember, SinkFailed}
use Rattle.pegasus_cli.specs.code.EnsembleLine.{ensemble_line, member_line}

abbrev pub exceeds_line : List ℕ → TaskId → ℕ → ℕ → List ℕ
exceeds_line site task needed bound = codes "exceeds" ++ and_name site ++ and_number task.0
    ++ and_number needed ++ and_number bound ++ codes "\n"

-- the line of an outcome; want of memory and a failing sink have none
abbrev pub line_of : Outcome → List ℕ
line_of (Done given) = codes "done\n"
line_of Memory = []
line_of Usage = codes "usage: pegasus check|plan|eval|alone REQ, run REQ --workers N, audit|stat REQ RECORD, resume REQ RECORD, produce REQ, ensemble ENS [--workers N], schedule REQ, rehearse N [--workers N]\n"
line_of (DocAbsent name) = codes "no document " ++ printed_name name ++ codes "\n"
line_of (DocTooLong name limit) = codes "document too long " ++ printed_name name ++ and_number limit
    ++ codes "\n"
line_of (DocFailed name) = codes "document failed " ++ printed_name name ++ codes "\n"
line_of (Refused fault) = refused_line fault
line_of (Exceeds site task needed bound) = exceeds_line site task needed bound
line_of (Failed fault) = failed_line fault
line_of (BadRecord line) = codes "bad record" ++ and_number line ++ codes "\n"
line_of (IllegalRecord entry) = codes "illegal record" ++ and_number entry ++ codes "\n"
line_of (RefusedEnsemble fault) = ensemble_line fault
line_of (RefusedMember name fault) = member_line name fault
line_of SinkFailed = []

-- The line that closes a text: that of the outcome, but where a command that is done has none.
abbrev pub closing : Bool → Outcome → List ℕ
closing false (Done given) = []
closing lined outcome = line_of outcome

-- the status that the program ends with
abbrev pub status_of : Outcome → ℕ
status_of (Done given) = 0
status_of Memory = 1
status_of Usage = 2
status_of (DocAbsent name) = 3
status_of (DocTooLong name limit) = 3
status_of (DocFailed name) = 3
status_of (Refused fault) = 4
status_of (Exceeds site task needed bound) = 5
status_of (Failed fault) = 6
status_of SinkFailed = 7
status_of (BadRecord line) = 8
status_of (IllegalRecord entry) = 8
status_of (RefusedEnsemble fault) = 4
status_of (RefusedMember name fault) = 4

-- a command's answer as an outcome
abbrev pub outcome_of : Answer → Outcome
outcome_of (Ok given) = Done given
outcome_of (Err faults.Memory) = Memory
outcome_of (Err (faults.DocAbsent name)) = DocAbsent name
outcome_of (Err (faults.DocTooLong name limit)) = DocTooLong name limit
outcome_of (Err (faults.DocFailed name)) = DocFailed name
outcome_of (Err (faults.Refused fault)) = Refused fault
outcome_of (Err (faults.Exceeds site task needed bound)) = Exceeds site task needed bound
outcome_of (Err (faults.Failed fault)) = Failed fault
outcome_of (Err (faults.BadRecord line)) = BadRecord line
outcome_of (Err (faults.IllegalRecord entry)) = IllegalRecord entry
outcome_of (Err (faults.RefusedEnsemble fault)) = RefusedEnsemble fault
outcome_of (Err (faults.RefusedMember name fault)) = RefusedMember name fault

-- every outcome but a failing sink, which only the end of a call can tell
abbrev pub IsAnswer : Outcome → Type 0
IsAnswer SinkFailed = ⊥
IsAnswer _ = Unit {0}
