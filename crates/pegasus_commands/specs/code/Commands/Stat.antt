-- `stat`: judges a record as `audit` does, and tells what it sums up to, unless it is illegal. It touches nothing.
use Rattle.std.specs.Prelude.{◌≡◌, ℕ, ◌++◌, List}
use Rattle.plan_core.specs.declared.plan.Plan.{Plan}
use Rattle.run_record.specs.Events.{Event}
use Rattle.record_audit.specs.Sums.{AreSums}
use Rattle.record_audit.specs.Text.{statistics_lines, verdict_line}
use Rattle.record_audit.specs.declared.sums.Statistics.{Statistics}
use Rattle.record_audit.specs.declared.verdict.Verdict.{Verdict}
use Rattle.record_audit.specs.declared.verdict.Verdict.TheVariants as verdict
use Rattle.pegasus_commands.specs.code.Commands.Audit.{CanJudge, Judges}
use Rattle.pegasus_commands.specs.code.CommandSpec.{CommandSpec}
use Rattle.pegasus_commands.specs.code.Recorded.{over_record}

-- a text to which the sums of a record were added
abbrev pub AddsSums : Plan → List ℕ → List Event → List ℕ → List ℕ → Type 0
AddsSums p order r front text = (sums : Statistics) × AreSums p order r sums
    × (text ≡ front ++ statistics_lines sums)

-- the verdict, and the sums of a record that isn't illegal
abbrev pub PrintsSums : Plan → List ℕ → List Event → Verdict → List ℕ → Type 0
PrintsSums p order r (verdict.Illegal k) text = text ≡ verdict_line (verdict.Illegal k)
PrintsSums p order r v text = AddsSums p order r (verdict_line v) text

abbrev pub stat : List ℕ → List ℕ → CommandSpec
stat name history = over_record name history (Judges PrintsSums) CanJudge
